-- Demand 3 as a theorem about runs of what the opening of `identify` promises.
use Prim.Native.Nat.{ℕ, ◌≤◌}
use mathlib.Core.Path.{◌≡◌, ap, ◌∙◌, sym, subst, subst⁻¹}
use mathlib.Core.List.{List}
use mathlib.Core.Logic.{◌⊎◌, ⊎_elim}
use lib.ListN.{length}
use Rattle.transfer.specs.declared.attempt.Sequence.{Sequence}
use Rattle.i2c.specs.I2c.{standard}
use Rattle.hardware.specs.declared.Answer.{Answer}
use Rattle.hardware.specs.declared.Port.{Port}
use Rattle.hardware.specs.Asked.{yes, and_then, open_port}
use Rattle.hardware.specs.Prog.{R, Counted, tally, blank}
use Rattle.bus.specs.Layout.{layout_of}
use Rattle.wire.specs.Run.{listed, kind_checked, BenchOutcome, Finished, run_asked}
use Rattle.bench.specs.declared.Bench.{Bench}
use Rattle.bench.specs.Register.{Caged, side}
use Rattle.bench.specs.Mux.{has_mux}
use Rattle.wire.specs.Machine.{At}
use Rattle.sfp.specs.declared.Identity.{Identity}
use Rattle.sfp.specs.Identify.{identify}
use Rattle.sfp.specs.Steps.{IDENTIFY_STEPS}
use Rattle.identify.specs.Calls.{open_identify, said_identify}
use Rattle.demand.specs.Claim.{Start, Starts, Premises}
use Rattle.demand.specs.Library.{identify_run, Demand3, Demand3ByDefault}
use Rattle.demand.proofs.Library.{demand_3_ended, demand_3, by_default_lem}
use Rattle.identify.specs.Aliases.{IdentifyTold}

module _ (q : Sequence) (family device lan : ℕ) (t : IdentifyTold) (promised : said_identify t ≡ open_identify q family device lan)
    (port : Port) (opened : yes port ≡ open_port family device lan) (b : Bench) (start : Start) (answers : List Answer) where
  -- what was told, run on the bench
  abbrev pub run : BenchOutcome (At Caged) (Counted (R Identity))
  run = run_asked (layout_of port.family) (side (has_mux port)) (kind_checked listed) (said_identify t) (record { word = start.word; other = record { bench = b; esdp = start.esdp } }) answers

  plain : run ≡ identify_run q listed (yes port) (record { word = start.word; other = record { bench = b; esdp = start.esdp } }) answers
  unfolding open_identify and_then run_asked identify_run
  plain =
      ap (λ s. run_asked (layout_of port.family) (side (has_mux port)) (kind_checked listed) s (record { word = start.word; other = record { bench = b; esdp = start.esdp } }) answers)
      (promised ∙ ap (λ o. and_then o (λ p. yes (tally blank (identify q p)))) (sym opened))

  -- for every list that meets the premises and on which the call comes to its end, as it does on every one that is long enough
  pub opening_demand_3 : Starts port b start → Premises q port b start answers → Finished run ⊎ (IDENTIFY_STEPS port.family ≤ length answers)
      → Demand3 q port b start answers run
  opening_demand_3 s m =
      ⊎_elim (λ c. subst⁻¹ (Demand3 q port b start answers) plain (demand_3_ended q port b start answers s m (subst Finished plain c)))
      (λ n. subst⁻¹ (Demand3 q port b start answers) plain (demand_3 q port b start answers s m n))

-- what the opening that names no sequence promises: the four facts, without exception
pub opening_by_default : (family device lan : ℕ) (t : IdentifyTold) (promised : said_identify t ≡ open_identify standard family device lan)
    (port : Port) (opened : yes port ≡ open_port family device lan) (b : Bench) (start : Start) (answers : List Answer)
    → Starts port b start → Premises standard port b start answers
    → Finished (run standard family device lan t promised port opened b start answers) ⊎ (IDENTIFY_STEPS port.family ≤ length answers)
    → Demand3ByDefault port b start answers (run standard family device lan t promised port opened b start answers)
opening_by_default family device lan t promised port opened b start answers s m f =
    by_default_lem port b start answers _ (opening_demand_3 standard family device lan t promised port opened b start answers s m f)
