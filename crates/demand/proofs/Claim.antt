-- The claim: a whole call of `identify` with the bench module, for every port, every start that 01 allows and every list
-- of answers that meets the premises and is long enough.
use Prim.Native.Nat.{ℕ, ◌+◌, ◌<◌, ◌≤◌}
use mathlib.Core.Path.{◌≡◌, refl, ap, ◌∙◌, sym}
use mathlib.Core.Bool.{Bool, true, false, false≢true}
use mathlib.Core.List.{List}
use mathlib.Core.Logic.{⊎_elim}
use native.Mathlib.Omega.{arith}
use lib.Dec.{eqb}
use lib.ListN.{length}
use Rattle.transfer.specs.declared.attempt.Sequence.{Sequence}
use Rattle.i2c.specs.I2c.{standard}
use Rattle.hardware.specs.declared.Answer.{Answer}
use Rattle.hardware.specs.declared.Port.{Port}
use Rattle.hardware.specs.Prog.{R, Ok, Err, pick, Counted}
use Rattle.bus.specs.Layout.{layout_of}
use Rattle.wire.specs.Lines.{drawn, Rests, Each}
use Rattle.wire.specs.Always.{Always}
use Rattle.wire.specs.Run.{BenchOutcome, ended, short, stopped}
use Rattle.wire.proofs.Edges.{rests}
use Rattle.bench.specs.declared.Bench.{Bench}
use Rattle.bench.specs.Bench.{pulls_low}
use Rattle.sfp.specs.declared.Kind.{Kind}
use Rattle.sfp.specs.declared.Kind.TheVariants.{Unknown}
use Rattle.sfp.specs.declared.Identity.{Identity}
use Rattle.sfp.specs.Classes.{Bytes, SFP, kind_of, multispeed_of, Class, class_of, requests}
use Rattle.sfp.specs.Identify.{other, identify}
use Rattle.sfp.specs.Kinds.{is_kind}
use Rattle.sfp.specs.Module.{is_present}
use Rattle.sfp.specs.Finds.{identity_of}
use Rattle.sfp.proofs.Finds.{module_class}
use Rattle.sfp.specs.Steps.{IDENTIFY_STEPS}
use Rattle.sfp.proofs.Ends.{identify_ends}
use Rattle.demand.specs.Claim.{CountedBench, bench_run, at_start, byte_of, Says, extra, Facts, Absent, Harms, unheard, Told, CallPremises, CallComes, Claimed, Holds, Claim, ClaimByDefault, Allowed, Starts, Premises, BenchWorld, Start}
use Rattle.demand.specs.Mux.{watched}
use Rattle.demand.proofs.Attempts.{harms_or_frees, harms_not_free, harms_pulls}
use Rattle.demand.proofs.Handshake.{world, Fit}
use Rattle.demand.proofs.Requests.{After, begun, allowed_fit, after_leaves}
use Rattle.demand.proofs.Identify as Identify
use Rattle.demand.proofs.Runs.{Steady, run_steady, run_ended, run_told}

-- no class is NotPresent
pick_present : (b : Bool) (x y : Kind) → is_present x ≡ true → is_present y ≡ true → is_present (pick b x y) ≡ true
unfolding pick
pick_present true x y e f = e
pick_present false x y e f = f

kind_present : (at : Bytes) → is_present (kind_of at) ≡ true
unfolding kind_of is_kind
kind_present at =
    pick_present _ _ _ refl (pick_present _ _ _ (pick_present _ _ _ refl refl)
    (pick_present _ _ _ refl (pick_present _ _ _ refl (pick_present _ _ _ refl (pick_present _ _ _ refl (pick_present _ _ _ refl (pick_present _ _ _ refl refl)))))))

class_present : (at : Bytes) → is_present (class_of at).kind ≡ true
unfolding class_of is_kind pick
class_present at = by (eqb (at 0) SFP)
  where
    by : (b : Bool) → is_present (pick {A = Class} b (record { kind = kind_of at; multispeed = multispeed_of at }) (record { kind = Unknown; multispeed = false })).kind ≡ true
    by true = kind_present at
    by false = refl

-- so the four facts and the record of no module shut each other out
never_both : (at : Bytes) (r : R Identity) → Says r (class_of at) → Absent r → ⊥
unfolding Says Absent is_kind
never_both at (Ok m) s a = false≢true (ap (λ i. is_present i.kind) (sym a) ∙ ap is_present s.0 ∙ class_present at)
never_both at (Err e) s a = s

found_says : (at : Bytes) → Says (Ok (identity_of at)) (class_of at)
unfolding Says
found_says at = (ap (λ c. c.kind) (module_class at), ap (λ c. c.multispeed) (module_class at))

module _ (q : Sequence) (port : Port) (b : Bench) (start : Start) (small : (n : ℕ) → byte_of b.a0 n < 256) where
  -- the end of the call, by the start
  pub record End (r : R Identity) (w : BenchWorld) : Type 0 where
    pub facts : (Harms q b → ⊥) → Facts (layout_of port.family) b r w
    pub no_module : Harms q b → Absent r × (w.other.meter ≡ unheard 11)

  well : (e j : ℕ) → extra b ≡ e → (n : CountedBench) (w : ℕ) → After port (begun start b) j n w → j ≡ requests (byte_of b.a0) + e
      → Facts (layout_of port.family) b (Ok (identity_of (byte_of b.a0))) (world w n)
  well e j x n w a c = record { class = found_says (byte_of b.a0); leaves = after_leaves start b a (omega (arith, c, x)) }

  -- it holds of the call, whatever the other answers are
  pub always_identified : (x y : Bool) → Fit port start.word (begun start b) → Rests (layout_of port.family) (drawn x y) start.word
      → Always (layout_of port.family) (watched q port) (identify q port) (at_start start b) End
  unfolding Always Absent pick
  always_identified x y f r = by (pulls_low b) refl
    where
      free : pulls_low b ≡ false → Always (layout_of port.family) (watched q port) (identify q port) (at_start start b) End
      free e =
          Identify.identify_reads q port (begun start b) small End start.word x y f r e
          (λ n w a. record { facts = λ _. well 0 _ (rw e) n w a (omega arith); no_module = λ i. absurd (false≢true (sym e ∙ harms_pulls q (begun start b) i)) })

      held : pulls_low b ≡ true → Always (layout_of port.family) (watched q port) (identify q port) (at_start start b) End
      held e =
          ⊎_elim
          (λ i. Identify.identify_fails q port (begun start b) small End start.word x y f r i (λ n v made. record { facts = λ no. absurd (no i); no_module = λ _. (refl, made) }))
          (λ s.
          Identify.identify_clears q port (begun start b) small End start.word x y f r e s
          (λ n w a. record { facts = λ _. well 1 _ (rw e) n w a refl; no_module = λ i. absurd (harms_not_free q (begun start b) s i) }))
          (harms_or_frees q (begun start b) e)

      by : (t : Bool) → pulls_low b ≡ t → Always (layout_of port.family) (watched q port) (identify q port) (at_start start b) End
      by true e = held e
      by false e = free e

  always_started : Allowed port start → Always (layout_of port.family) (watched q port) (identify q port) (at_start start b) End
  always_started k = always_identified _ _ (allowed_fit b k) (rests (layout_of port.family) start.word k.fit)

  pub claimed : (r : R Identity) (w : BenchWorld) → End r w → Claimed q (layout_of port.family) b (record { meter = w.other.meter; result = r }) w
  claimed r w h =
      record { count = refl; facts = h.facts; only = λ f i. never_both (byte_of b.a0) r f.class (h.no_module i).0; no_module = h.no_module }

  -- from both outcomes to the claim
  both : (o : BenchOutcome BenchWorld (R Identity)) (p : BenchOutcome BenchWorld (Counted (R Identity))) → Told End o p → Holds q (layout_of port.family) b o p
  unfolding Told Holds
  both (ended r w) (ended c v) h = rw h.0 (refl, claimed r w h.1)
  both (ended r w) (short v) h = h
  both (ended r w) (stopped n v) h = h
  both (short w) p h = h
  both (stopped n w) p h = h

-- Demand 3, of the definition of `identify`, with either sequence
pub identified : (q : Sequence) (port : Port) (b : Bench) (start : Start) (answers : List Answer) → Starts port b start → Premises q port b start answers
    → IDENTIFY_STEPS port.family ≤ length answers → Claim q port b start answers
unfolding Starts CallPremises Claim
identified q port b start answers s m n =
    both q port b start s.0 _ _
    (run_told q port (identify q port) b start answers (End q port b start s.0) (always_started q port b start s.0 s.1) m (IDENTIFY_STEPS port.family) (identify_ends q port) n)

-- The same for a list of any length: whenever the call has come to its end
pub identified_ended : (q : Sequence) (port : Port) (b : Bench) (start : Start) (answers : List Answer) → Starts port b start → Premises q port b start answers
    → (r : R Identity) (w : BenchWorld) → (bench_run port (identify q port) b start answers).outcome ≡ ended r w
    → Claimed q (layout_of port.family) b (record { meter = w.other.meter; result = r }) w
unfolding Starts CallPremises
identified_ended q port b start answers s m r w e =
    claimed q port b start s.0 r w (run_ended q port (identify q port) b start answers (End q port b start s.0) (always_started q port b start s.0 s.1) m r w e)

-- With the default sequence the four facts hold from every start
told_facts : (port : Port) (b : Bench) (start : Start) (small : (n : ℕ) → byte_of b.a0 n < 256) (o : BenchOutcome BenchWorld (R Identity)) (p : BenchOutcome BenchWorld (Counted (R Identity)))
    → Told (End standard port b start small) o p → Told (Facts (layout_of port.family) b) o p
unfolding Told
told_facts port b start small (ended r w) (ended c v) h = (h.0, h.1.facts (λ i. i))
told_facts port b start small (ended r w) (short v) h = h
told_facts port b start small (ended r w) (stopped n v) h = h
told_facts port b start small (short w) p h = h
told_facts port b start small (stopped n w) p h = h

pub identified_by_default : (port : Port) (b : Bench) (start : Start) (answers : List Answer) → Starts port b start → Premises standard port b start answers
    → IDENTIFY_STEPS port.family ≤ length answers → ClaimByDefault port b start answers
unfolding Starts CallPremises CallComes ClaimByDefault
identified_by_default port b start answers s m n =
    told_facts port b start s.0 _ _
    (run_told standard port (identify standard port) b start answers (End standard port b start s.0) (always_started standard port b start s.0 s.1) m (IDENTIFY_STEPS port.family) (identify_ends standard port) n)

-- `identify` never moves both lines by one write
pub never_both_lines : (q : Sequence) (port : Port) (b : Bench) (start : Start) (answers : List Answer) → Starts port b start → Premises q port b start answers
    → Each (Steady q port) (bench_run port (identify q port) b start answers).trace
unfolding Starts CallPremises
never_both_lines q port b start answers s m =
    run_steady q port (identify q port) b start answers (End q port b start s.0) (always_started q port b start s.0 s.1) m
