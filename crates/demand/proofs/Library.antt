-- What the library's call comes to on the bench is what the definition comes to there, where the answers meet the premises; and
-- so with no list lent, where every lock and grant comes at once.
use Prim.Native.Nat.{◌≤◌}
use mathlib.Core.Path.{◌≡◌, refl, ap, ◌∙◌, sym, subst, subst⁻¹}
use mathlib.Core.List.{List, [], ◌∷◌}
use lib.ListN.{length}
use Rattle.transfer.specs.declared.attempt.Sequence.{Sequence}
use Rattle.i2c.specs.I2c.{standard}
use Rattle.hardware.specs.declared.Answer.{Answer}
use Rattle.hardware.specs.declared.Port.{Port}
use Rattle.hardware.specs.Asked.{yes}
use Rattle.hardware.specs.Prog.{R, Counted}
use Rattle.bus.specs.declared.Layout.{Layout}
use Rattle.bus.specs.Layout.{layout_of}
use Rattle.wire.specs.Lines.{Each}
use Rattle.wire.specs.Machine.{At}
use Rattle.wire.specs.Run.{Source, listed, fixed, kind_checked, Event, at_machine, answered, noticed, BenchOutcome, ended, short, stopped, Finished, BenchRun, run}
use Rattle.wire.proofs.Run.{Fits, fixed_kind_checked, kind_checked_run, fixed_finishes}
use Rattle.bench.specs.declared.Bench.{Bench}
use Rattle.bench.specs.AtOnce.{at_once}
use Rattle.bench.specs.Register.{Caged, side}
use Rattle.bench.specs.Mux.{has_mux}
use Rattle.sfp.specs.declared.Identity.{Identity}
use Rattle.sfp.specs.Identify.{identify}
use Rattle.sfp.specs.Steps.{IDENTIFY_STEPS}
use Rattle.sfp.proofs.Ends.{identify_ends}
use Rattle.demand.specs.Claim.{CountedBench, machine, BenchWorld, Start, bench_run, Premise, at_start, CallPremises, Claimed, Starts, Premises}
use Rattle.demand.specs.Library.{identify_run, Shown, Demand3, Demand3AtOnce, ShownFacts, Demand3ByDefault}
use Rattle.demand.proofs.Runs.{works_fits, ends_run, Sees, told, tally_run}
use Rattle.demand.proofs.Claim.{identified_ended}
use Rattle.demand.proofs.AtOnce.{at_once_fits}
use Rattle.demand.proofs.Possible.{prompt, prompt_answers, prompt_replayed, at_once_meets}

all_fit : {W : Type 0} (es : List (Event W)) → Each Premise es → Each Fits es
unfolding Premise Fits
all_fit [] m = tt
all_fit (at_machine x w ∷ es) m = (tt, all_fit es m.1)
all_fit (answered x a ∷ es) m = (works_fits x a m.0, all_fit es m.1)
all_fit (noticed n ∷ es) m = (tt, all_fit es m.1)

-- the module and ESDP, the count of transfers being the result's
abbrev alone : CountedBench → Caged
alone m = record { bench = m.bench; esdp = m.esdp }

alone_sees : (port : Port) → Sees port (side (has_mux port)) alone
alone_sees port = record { pulls = λ m. refl; takes = λ e m. refl; muxed = refl; esdp = λ m. refl; switched = λ p v m. refl }

abbrev counted : Port → BenchOutcome BenchWorld (R Identity) → BenchOutcome (At Caged) (Counted (R Identity))
counted port o = told port (side (has_mux port)) alone (alone_sees port) o

counted_finished : (port : Port) (o : BenchOutcome BenchWorld (R Identity)) → Finished o → Finished (counted port o)
unfolding Finished told
counted_finished port (ended a w) f = tt
counted_finished port (short w) f = absurd f
counted_finished port (stopped n w) f = absurd f

shown : (q : Sequence) (port : Port) (l : Layout) (b : Bench) (o : BenchOutcome BenchWorld (R Identity)) → Finished (counted port o)
    → ((a : R Identity) (w : BenchWorld) → o ≡ ended a w → Claimed q l b (record { meter = w.other.meter; result = a }) w) → Shown q l b o (counted port o)
unfolding Finished Shown told
shown q port l b (ended a w) f h = (refl, h a w refl)
shown q port l b (short w) f h = absurd f
shown q port l b (stopped n w) f h = absurd f

module _ (q : Sequence) (port : Port) (b : Bench) (start : Start) where
  -- the library's run, wherever the answers come from
  abbrev pub library : Source → List Answer → BenchOutcome (At Caged) (Counted (R Identity))
  library s answers = identify_run q s (yes port) (record { word = start.word; other = record { bench = b; esdp = start.esdp } }) answers

  library_counts : (s : Source) (answers : List Answer)
      → library s answers ≡ counted port (run (layout_of port.family) (machine port) (kind_checked s) (identify q port) (at_start start b) answers).outcome
  unfolding identify_run
  library_counts s answers = tally_run port (side (has_mux port)) alone (alone_sees port) (λ n m. refl) (layout_of port.family) (kind_checked s) (identify q port) (at_start start b) answers

  module _ (answers : List Answer) (s : Starts port b start) (m : Premises q port b start answers) where
    -- whatever comes to the same as the definition's run, and to its end
    demand_of : (o : BenchOutcome (At Caged) (Counted (R Identity))) → o ≡ counted port (bench_run port (identify q port) b start answers).outcome → Finished o → Demand3 q port b start answers o
    unfolding Demand3
    demand_of o e f =
        subst⁻¹ (Shown q (layout_of port.family) b _) e (shown q port (layout_of port.family) b _ (subst Finished e f) (identified_ended q port b start answers s m))

    same : library listed answers ≡ counted port (bench_run port (identify q port) b start answers).outcome
    unfolding CallPremises
    same =
        library_counts listed answers
        ∙ ap (λ (r : BenchRun BenchWorld (R Identity)). counted port r.outcome) (kind_checked_run (layout_of port.family) (machine port) listed (identify q port) (at_start start b) answers (all_fit (bench_run port (identify q port) b start answers).trace m))

    -- Demand 3 of the library's `identify` on the bench, whenever it has come to its end
    pub demand_3_ended : Finished (library listed answers) → Demand3 q port b start answers (library listed answers)
    demand_3_ended f = demand_of _ same f

    -- as it has for every list that is long enough
    pub demand_3 : IDENTIFY_STEPS port.family ≤ length answers → Demand3 q port b start answers (library listed answers)
    unfolding CallPremises
    demand_3 n =
        demand_3_ended (subst⁻¹ Finished same (counted_finished port _ (ends_run (layout_of port.family) port (identify q port) _ (identify_ends q port) (at_start start b) answers n m)))

  -- Demand 3 where every lock and grant comes at once
  pub demand_3_at_once : Starts port b start → Demand3AtOnce q port b start (library (fixed at_once) [])
  unfolding Demand3AtOnce
  demand_3_at_once s = (
    prompt_answers q port b start,
    at_once_meets q port b start,
    demand_of (prompt_answers q port b start) s (at_once_meets q port b start) _ (as_prompt ∙ ap (λ (r : BenchRun BenchWorld (R Identity)). counted port r.outcome) (sym (prompt_replayed q port b start)))
        (subst⁻¹ Finished as_prompt (counted_finished port _ (fixed_finishes (layout_of port.family) (machine port) at_once (identify q port) (at_start start b) []))),
  )
    where
      as_prompt : library (fixed at_once) [] ≡ counted port (prompt q port b start).outcome
      as_prompt =
          library_counts (fixed at_once) []
          ∙ ap (λ (t : Source). counted port (run (layout_of port.family) (machine port) t (identify q port) (at_start start b) []).outcome) (fixed_kind_checked at_once at_once_fits)

-- the default sequence harms no module
shown_facts : (l : Layout) (b : Bench) (r : BenchOutcome BenchWorld (R Identity)) (o : BenchOutcome (At Caged) (Counted (R Identity))) → Shown standard l b r o → ShownFacts l b r o
unfolding Shown ShownFacts
shown_facts l b (ended a w) o h = (h.0, h.1.facts (λ i. i))
shown_facts l b (short w) o h = h
shown_facts l b (stopped n w) o h = h

pub by_default_lem : (port : Port) (b : Bench) (start : Start) (answers : List Answer) (o : BenchOutcome (At Caged) (Counted (R Identity))) → Demand3 standard port b start answers o
    → Demand3ByDefault port b start answers o
unfolding Demand3 Demand3ByDefault
by_default_lem port b start answers o h = shown_facts (layout_of port.family) b _ o h
