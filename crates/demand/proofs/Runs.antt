-- From what always holds of a call to its runs on the bench, wherever the other registers' answers come from.
use Prim.Native.Nat.{ℕ, ◌≤◌, suc, zero}
use mathlib.Core.Path.{◌≡◌, refl, ap, ◌∙◌, sym, subst, subst⁻¹}
use mathlib.Core.Bool.{Bool, true, false}
use mathlib.Core.List.{List, [], ◌∷◌}
use native.Mathlib.Omega.{arith}
use lib.Dec.{T}
use lib.ListN.{length}
use Rattle.hardware.specs.declared.Access.{Access}
use Rattle.hardware.specs.declared.Access.TheVariants.{Read, Write, Wait}
use Rattle.hardware.specs.declared.Answer.{Answer}
use Rattle.hardware.specs.declared.Answer.TheVariants.{Value, Done, Failed}
use Rattle.hardware.specs.declared.Port.{Port}
use Rattle.hardware.specs.Asked.{fits}
use Rattle.hardware.specs.Prog.{Prog, ret, ask, note, give, Note, Attempt, Acquires, Acquired, Released, Lapsed, Acknowledged, pick, Counted, metered, tally, blank}
use Rattle.hardware.specs.Runs.{Ends}
use Rattle.bus.specs.declared.Layout.{Layout}
use Rattle.bus.specs.Layout.{layout_of}
use Rattle.transfer.specs.declared.attempt.Sequence.{Sequence}
use Rattle.wire.specs.Lines.{Pulls, Edge, master, Each}
use Rattle.wire.specs.Machine.{Side, World, takes_all, turn, wrote, switched, reading, models, modelled, at_lines, reply, after, noted}
use Rattle.wire.specs.Always.{ByKind, Meets, Answered, Always}
use Rattle.wire.specs.Run.{Given, given, nothing, refused, Source, listed, Event, at_machine, answered, noticed, BenchOutcome, ended, short, stopped, Finished, BenchRun, saw, proceed, run}
use Rattle.wire.proofs.Run.{reply_fits}
use Rattle.bench.specs.declared.Bench.{Bench}
use Rattle.bench.specs.Mux.{has_mux}
use Rattle.demand.specs.Claim.{CountedBench, machine, BenchWorld, Start, stays_in, Works, Premise, at_start, bench_run, Told}
use Rattle.demand.specs.Mux.{watched}

-- Q holds at the end, if the run comes to it
unfoldable pub Ending : {A : Type 0} → (A → BenchWorld → Type 0) → BenchOutcome BenchWorld A → Type 0
Ending Q (ended a w) = Q a w
Ending Q (short w) = Unit {0}
Ending Q (stopped n w) = Unit {0}

-- no write of I2CCTL moves both lines, and none of ESDP moves a line at the module
unfoldable pub Steady : Sequence → Port → Event BenchWorld → Type 0
Steady q port (at_machine x w) = Meets (layout_of port.family) (watched q port) x w
Steady q port (answered x a) = Unit {0}
Steady q port (noticed n) = Unit {0}

-- a run that is so, and Q at its end
pub record Sound {A : Type 0} (q : Sequence) (port : Port) (Q : A → BenchWorld → Type 0) (r : BenchRun BenchWorld A) : Type 0 where
  pub ending : Ending Q r.outcome
  pub steady : Each (Steady q port) r.trace

-- what holds of every answer of the kind that may come holds of one that works
works_kind : (x : Access) (a : Answer) (K : Answer → Type 0) → ByKind stays_in x K → Works x a → K a
unfolding ByKind
works_kind (Read r) (Value v) K k m = k v m
works_kind (Read r) Done K k m = absurd m
works_kind (Read r) Failed K k m = absurd m
works_kind (Write r v) (Value u) K k m = absurd m
works_kind (Write r v) Done K k m = k
works_kind (Write r v) Failed K k m = absurd m
works_kind (Wait n) (Value v) K k m = absurd m
works_kind (Wait n) Done K k m = k
works_kind (Wait n) Failed K k m = absurd m

pub works_fits : (x : Access) (a : Answer) → Works x a → T (fits x a)
unfolding fits ByKind
works_fits (Read r) a m = works_kind (Read r) a (λ b. T (fits (Read r) b)) (λ v _. tt) m
works_fits (Write r v) a m = works_kind (Write r v) a (λ b. T (fits (Write r v) b)) tt m
works_fits (Wait n) a m = works_kind (Wait n) a (λ b. T (fits (Wait n) b)) tt m

-- what always holds of a call holds of each of its runs whose answers meet the premises
module _ (q : Sequence) (port : Port) (s : Source) {A : Type 0} (Q : A → BenchWorld → Type 0) where
  abbrev Goes : Prog A → BenchWorld → List Answer → Type 0
  Goes p w answers = Always (layout_of port.family) (watched q port) p w Q → Each Premise (run (layout_of port.family) (watched q port) s p w answers).trace → Sound q port Q (run (layout_of port.family) (watched q port) s p w answers)

  always_proceed : (x : Access) (f : Answer → Prog A) (w : BenchWorld) (g : Given) → ((a : Answer) (rest : List Answer) → Goes (f a) w rest)
      → ByKind stays_in x (λ a. Always (layout_of port.family) (watched q port) (f a) w Q) → Each Premise (proceed x w (λ a rest. run (layout_of port.family) (watched q port) s (f a) w rest) g).trace
      → Sound q port Q (proceed x w (λ a rest. run (layout_of port.family) (watched q port) s (f a) w rest) g)
  unfolding proceed Ending Premise Steady
  always_proceed x f w (given a rest) h k m =
      let r = h a rest (works_kind x a (λ b. Always (layout_of port.family) (watched q port) (f b) w Q) k m.0) m.1 in record { ending = r.ending; steady = (tt, r.steady) }
  always_proceed x f w nothing h k m = record { ending = tt; steady = tt }
  always_proceed x f w (refused n) h k m = record { ending = tt; steady = tt }

  always_at : (x : Access) (b : Bool) (f : Answer → Prog A) (w : BenchWorld) (answers : List Answer) → modelled (layout_of port.family) (watched q port) x ≡ b
      → ((a : Answer) (w' : BenchWorld) (rest : List Answer) → Goes (f a) w' rest) → Goes (ask x f) w answers
  unfolding run Always Answered pick Steady
  always_at x true f w answers e h k m =
      rw e (let r = h _ _ answers (rw e at k).1 (rw e at m).1 in record { ending = r.ending; steady = ((rw e at k).0, r.steady) })
  always_at x false f w answers e h k m = rw e (always_proceed x f w (s x answers) (λ a rest. h a w rest) (rw e at k) (rw e at m))

  after_note : (n : Note) (r : BenchRun BenchWorld A) → Sound q port Q r → Sound q port Q (record { trace = noticed n ∷ r.trace; outcome = r.outcome })
  unfolding Steady
  after_note n r h = record { ending = h.ending; steady = (tt, h.steady) }

  pub always_run : (p : Prog A) (w : BenchWorld) (answers : List Answer) → Goes p w answers
  unfolding run Always Ending Premise
  always_run (ret a) w answers k m = record { ending = k; steady = tt }
  always_run (ask x f) w answers k m = always_at x (modelled (layout_of port.family) (watched q port) x) f w answers refl (λ a w' rest. always_run (f a) w' rest) k m
  always_run (note Attempt p) w answers k m = after_note Attempt _ (always_run p (noted (watched q port) Attempt w) answers k m.1)
  always_run (note Acquires p) w answers k m = after_note Acquires _ (always_run p (noted (watched q port) Acquires w) answers k m.1)
  always_run (note Acquired p) w answers k m = after_note Acquired _ (always_run p (noted (watched q port) Acquired w) answers k m.1)
  always_run (note Released p) w answers k m = after_note Released _ (always_run p (noted (watched q port) Released w) answers k m.1)
  always_run (note Lapsed p) w answers k m = absurd m.0
  always_run (note (Acknowledged sample) p) w answers k m = after_note (Acknowledged sample) _ (always_run p (noted (watched q port) (Acknowledged sample) w) answers k m.1)
  always_run (give b p) w answers k m = always_run p w answers k m

-- as many answers as a call has accesses bring its run to the end
module _ (l : Layout) (port : Port) {A : Type 0} where
  abbrev Reaches : Prog A → BenchWorld → List Answer → Type 0
  Reaches p w answers = Each Premise (run l (machine port) listed p w answers).trace → Finished (run l (machine port) listed p w answers).outcome

  ends_proceed : (x : Access) (f : Answer → Prog A) (n : ℕ) (w : BenchWorld) (answers : List Answer)
      → ((a : Answer) (rest : List Answer) → T (fits x a) → n ≤ length rest → Reaches (f a) w rest) → suc n ≤ length answers
      → Each Premise (proceed x w (λ a rest. run l (machine port) listed (f a) w rest) (listed x answers)).trace
      → Finished (proceed x w (λ a rest. run l (machine port) listed (f a) w rest) (listed x answers)).outcome
  unfolding proceed listed Premise
  ends_proceed x f n w [] h b m = absurd (omega (arith, b))
  ends_proceed x f n w (a ∷ rest) h b m = h a rest (works_fits x a m.0) (omega (arith, b)) m.1

  ends_at : (x : Access) (b : Bool) (f : Answer → Prog A) (n : ℕ) (w : BenchWorld) (answers : List Answer) → modelled l (machine port) x ≡ b
      → ((a : Answer) (w' : BenchWorld) (rest : List Answer) → T (fits x a) → n ≤ length rest → Reaches (f a) w' rest) → suc n ≤ length answers
      → Reaches (ask x f) w answers
  unfolding run pick
  ends_at x true f n w answers e h b m = rw e (h _ _ answers (reply_fits l (machine port) x w) (omega (arith, b)) (rw e at m).1)
  ends_at x false f n w answers e h b m = rw e (ends_proceed x f n w answers (λ a rest. h a w rest) b (rw e at m))

  pub ends_run : (p : Prog A) (n : ℕ) → Ends p n → (w : BenchWorld) (answers : List Answer) → n ≤ length answers → Reaches p w answers
  unfolding Ends run Finished
  ends_run (ret a) n e w answers b m = tt
  ends_run (ask x f) zero e w answers b m = absurd e
  ends_run (ask x f) (suc n) e w answers b m = ends_at x (modelled l (machine port) x) f n w answers refl (λ a w' rest u. ends_run (f a) n (e a u) w' rest) b m
  ends_run (note k p) n e w answers b m = ends_run p n e (noted (machine port) k w) answers b m.1
  ends_run (give k p) n e w answers b m = ends_run p n e w answers b m

-- a side on which the module is as on the machine
pub record Sees (port : Port) (o : Side) (see : CountedBench → o.State) : Type 0 where
  pub pulls : (m : CountedBench) → o.pulls (see m) ≡ (machine port).pulls m
  pub takes : (e : Edge) (m : CountedBench) → o.takes e (see m) ≡ see ((machine port).takes e m)
  pub muxed : o.muxed ≡ has_mux port
  pub esdp : (m : CountedBench) → o.esdp (see m) ≡ m.esdp
  pub switched : (p : Pulls) (v : ℕ) (m : CountedBench) → o.switched p v (see m) ≡ see ((machine port).switched p v m)

module _ (port : Port) where
  takes_meter : (es : List Edge) (m : CountedBench) → (takes_all (machine port) es m).meter ≡ m.meter
  unfolding takes_all
  takes_meter [] m = refl
  takes_meter (e ∷ es) m = takes_meter es ((machine port).takes e m)

  -- an access of the machine's own begins no transfer
  after_meter : (l : Layout) (x : Access) (w : BenchWorld) → (after l (machine port) x w).other.meter ≡ w.other.meter
  unfolding after wrote turn switched pick
  after_meter l (Read r) w = refl
  after_meter l (Write r v) w = by (at_lines l (Write r v))
    where
      by : (b : Bool) → (pick b (wrote l (machine port) v w) (switched l (machine port) v w)).other.meter ≡ w.other.meter
      by true = takes_meter _ w.other
      by false = refl
  after_meter l (Wait n) w = refl

module _ (port : Port) (o : Side) (see : CountedBench → o.State) (same : Sees port o see) where
  abbrev pub seen : BenchWorld → World o
  seen w = record { word = w.word; other = see w.other }

  takes_seen : (es : List Edge) (m : CountedBench) → takes_all o es (see m) ≡ see (takes_all (machine port) es m)
  unfolding takes_all
  takes_seen [] m = refl
  takes_seen (e ∷ es) m = ap (takes_all o es) (same.takes e m) ∙ takes_seen es ((machine port).takes e m)

  after_seen : (l : Layout) (x : Access) (w : BenchWorld) → after l o x (seen w) ≡ seen (after l (machine port) x w)
  unfolding after wrote turn switched pick
  after_seen l (Read r) w = refl
  after_seen l (Write r v) w = by (at_lines l (Write r v))
    where
      by : (b : Bool) → pick b (wrote l o v (seen w)) (switched l o v (seen w)) ≡ seen (pick b (wrote l (machine port) v w) (switched l (machine port) v w))
      by true = rw (same.pulls w.other) (ap (λ t. record { word = v; other = t }) (takes_seen _ w.other))
      by false = ap (λ t. record { word = w.word; other = t }) (same.switched (master l w.word) v w.other)
  after_seen l (Wait n) w = refl

  reply_seen : (l : Layout) (x : Access) (w : BenchWorld) → reply l o x (seen w) ≡ reply l (machine port) x w
  unfolding reply reading
  reply_seen l (Read r) w = rw (same.pulls w.other, same.esdp w.other)
  reply_seen l (Write r v) w = refl
  reply_seen l (Wait n) w = refl

  modelled_seen : (l : Layout) (x : Access) → modelled l o x ≡ modelled l (machine port) x
  unfolding modelled models
  modelled_seen l (Read r) = rw same.muxed
  modelled_seen l (Write r v) = rw same.muxed
  modelled_seen l (Wait n) = refl

  -- the outcome as the library gives it: the count of transfers beside the result
  unfoldable pub told : {A : Type 0} → BenchOutcome BenchWorld A → BenchOutcome (World o) (Counted A)
  told (ended a w) = ended (record { meter = w.other.meter; result = a }) (seen w)
  told (short w) = short (seen w)
  told (stopped n w) = stopped n (seen w)

  -- `tally` tells the transfers that the run began, and changes nothing else, where the side is seen past their count
  module _ (past : (n : Note) (m : CountedBench) → see ((machine port).notes n m) ≡ see m) (l : Layout) (s : Source) {A : Type 0} where
    abbrev Tells : Prog A → BenchWorld → List Answer → Type 0
    Tells p w answers = (run l o s (tally w.other.meter p) (seen w) answers).outcome ≡ told (run l (machine port) s p w answers).outcome

    tally_proceed : (x : Access) (f : Answer → Prog A) (w : BenchWorld) (g : Given) → ((a : Answer) (rest : List Answer) → Tells (f a) w rest)
        → (proceed x (seen w) (λ a rest. run l o s (tally w.other.meter (f a)) (seen w) rest) g).outcome ≡ told (proceed x w (λ a rest. run l (machine port) s (f a) w rest) g).outcome
    unfolding proceed told
    tally_proceed x f w (given a rest) h = h a rest
    tally_proceed x f w nothing h = refl
    tally_proceed x f w (refused n) h = refl

    tally_at : (x : Access) (b : Bool) (f : Answer → Prog A) (w : BenchWorld) (answers : List Answer) → modelled l (machine port) x ≡ b
        → ((a : Answer) (w' : BenchWorld) (rest : List Answer) → Tells (f a) w' rest) → Tells (ask x f) w answers
    unfolding run pick tally
    tally_at x true f w answers e h =
        rw (modelled_seen l x, e, reply_seen l x w, after_seen l x w)
        (ap (λ n. (run l o s (tally n (f (reply l (machine port) x w))) (seen (after l (machine port) x w)) answers).outcome) (sym (after_meter port l x w)) ∙ h _ _ answers)
    tally_at x false f w answers e h = rw (modelled_seen l x, e) (tally_proceed x f w (s x answers) (λ a rest. h a w rest))

    pub tally_run : (p : Prog A) (w : BenchWorld) (answers : List Answer) → Tells p w answers
    unfolding tally run told
    tally_run (ret a) w answers = refl
    tally_run (ask x f) w answers = tally_at x (modelled l (machine port) x) f w answers refl (λ a w' rest. tally_run (f a) w' rest)
    tally_run (note k p) w answers =
        ap (λ t. (run l o s (tally (metered k w.other.meter) p) (record { word = w.word; other = t }) answers).outcome) (sym (past k w.other))
        ∙ tally_run p (noted (machine port) k w) answers
    tally_run (give b p) w answers = tally_run p w answers

-- what is to be shown of a machine changes none of its runs
abbrev pub same : CountedBench → CountedBench
same m = m

watched_sees : (q : Sequence) (port : Port) → Sees port (watched q port) same
watched_sees q port = record { pulls = λ m. refl; takes = λ e m. refl; muxed = refl; esdp = λ m. refl; switched = λ p v m. refl }

module _ (q : Sequence) (port : Port) (l : Layout) (s : Source) {A : Type 0} where
  abbrev Same : Prog A → BenchWorld → List Answer → Type 0
  Same p w answers = run l (watched q port) s p w answers ≡ run l (machine port) s p w answers

  same_proceed : (x : Access) (f : Answer → Prog A) (w : BenchWorld) (g : Given) → ((a : Answer) (rest : List Answer) → Same (f a) w rest)
      → proceed x w (λ a rest. run l (watched q port) s (f a) w rest) g ≡ proceed x w (λ a rest. run l (machine port) s (f a) w rest) g
  unfolding proceed
  same_proceed x f w (given a rest) h = ap (saw (answered x a)) (h a rest)
  same_proceed x f w nothing h = refl
  same_proceed x f w (refused n) h = refl

  same_at : (x : Access) (b : Bool) (f : Answer → Prog A) (w : BenchWorld) (answers : List Answer) → modelled l (machine port) x ≡ b
      → ((a : Answer) (w' : BenchWorld) (rest : List Answer) → Same (f a) w' rest) → Same (ask x f) w answers
  unfolding run pick
  same_at x true f w answers e h =
      rw (modelled_seen port (watched q port) same (watched_sees q port) l x, e, reply_seen port (watched q port) same (watched_sees q port) l x w, after_seen port (watched q port) same (watched_sees q port) l x w)
      (ap (saw (at_machine x w)) (h _ _ answers))
  same_at x false f w answers e h = rw (modelled_seen port (watched q port) same (watched_sees q port) l x, e) (same_proceed x f w (s x answers) (λ a rest. h a w rest))

  same_run : (p : Prog A) (w : BenchWorld) (answers : List Answer) → Same p w answers
  unfolding run
  same_run (ret a) w answers = refl
  same_run (ask x f) w answers = same_at x (modelled l (machine port) x) f w answers refl (λ a w' rest. same_run (f a) w' rest)
  same_run (note n p) w answers = ap (saw (noticed n)) (same_run p (noted (machine port) n w) answers)
  same_run (give b p) w answers = same_run p w answers

-- the count of the result beside a machine that counts none
abbrev pub recount : CountedBench → CountedBench
recount m = record { bench = m.bench; esdp = m.esdp; meter = blank }

pub recount_sees : (port : Port) → Sees port (machine port) recount
recount_sees port = record { pulls = λ m. refl; takes = λ e m. refl; muxed = refl; esdp = λ m. refl; switched = λ p v m. refl }

-- both runs of a call on the bench, from what always holds of it
module _ {A : Type 0} (q : Sequence) (port : Port) (p : Prog A) (b : Bench) (start : Start) (answers : List Answer) (Q : A → BenchWorld → Type 0)
    (always : Always (layout_of port.family) (watched q port) p (at_start start b) Q) (m : Each Premise (bench_run port p b start answers).trace) where
  sound : Sound q port Q (bench_run port p b start answers)
  sound =
      subst (Sound q port Q) (same_run q port (layout_of port.family) listed p (at_start start b) answers)
      (always_run q port listed Q p (at_start start b) answers always (subst⁻¹ (λ (r : BenchRun BenchWorld A). Each Premise r.trace) (same_run q port (layout_of port.family) listed p (at_start start b) answers) m))

  pub run_steady : Each (Steady q port) (bench_run port p b start answers).trace
  run_steady = sound.steady

  pub run_ended : (a : A) (w : BenchWorld) → (bench_run port p b start answers).outcome ≡ ended a w → Q a w
  unfolding Ending
  run_ended a w e = subst (Ending Q) e sound.ending

  both_told : (o : BenchOutcome BenchWorld A) (c : BenchOutcome BenchWorld (Counted A)) → Ending Q o → Finished o → c ≡ told port (machine port) recount (recount_sees port) o → Told Q o c
  unfolding Told Ending Finished told
  both_told (ended a w) c h k e = rw e (refl, h)
  both_told (short w) c h k e = absurd k
  both_told (stopped n w) c h k e = absurd k

  pub run_told : (n : ℕ) → Ends p n → n ≤ length answers → Told Q (bench_run port p b start answers).outcome (bench_run port (tally blank p) b start answers).outcome
  run_told n e long =
      both_told _ _ sound.ending (ends_run (layout_of port.family) port p n e (at_start start b) answers long m)
      (tally_run port (machine port) recount (recount_sees port) (λ n m. refl) (layout_of port.family) listed p (at_start start b) answers)
