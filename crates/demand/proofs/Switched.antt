-- Where the mux is switched in a run of `identify`: no line moves at the module, and with the default sequence each write that clears
-- the bit finds it idle with both lines released. And before the call first sets the bit it makes no access to I2CCTL, which is then as
-- at the start.
use Prim.Native.Nat.{ℕ, suc, zero}
use mathlib.Core.Path.{◌≡◌, refl, ◌∙◌, sym, subst}
use mathlib.Core.Bool.{Bool, true, false, not, ◌&&◌, ◌||◌, false≢true}
use mathlib.Core.List.{List, [], ◌∷◌}
use lib.Dec.{eqb}
use Rattle.hardware.specs.declared.Access.{Access}
use Rattle.hardware.specs.declared.Access.TheVariants.{Read, Write, Wait}
use Rattle.hardware.specs.declared.Answer.{Answer}
use Rattle.hardware.specs.declared.Family.{Family}
use Rattle.hardware.specs.declared.Family.TheVariants.{F82599, X540, X550, X552, X553}
use Rattle.hardware.specs.declared.Port.{Port}
use Rattle.hardware.specs.Asked.{is}
use Rattle.hardware.specs.Change.{changed, stored, change}
use Rattle.hardware.specs.Failures.{Failure}
use Rattle.hardware.specs.Prog.{Prog, ret, ask, note, give, R, Ok, Err, or_err, ◌>>=◌, ◌>>?◌, pick}
use Rattle.hardware.specs.Registers.{ESDP, none_of, read, delay, micros, checked, written}
use Rattle.hardware.proofs.Spreads.{Spreads, Open, one_holds}
use Rattle.sync.specs.Regs.{swsm, sw_fw_sync, mux, set_mux, tries}
use Rattle.sync.specs.Lock.{unlock}
use Rattle.sync.specs.Resource.{muxed, taken, free, sync_seen, acquire_tries, acquire_bits}
use Rattle.sync.proofs.Spreads.{Semaphores, lock_holds, unlock_holds}
use Rattle.hostif.specs.Acquire.{acquired_all, acquire}
use Rattle.transfer.specs.declared.attempt.Sequence.{Sequence}
use Rattle.bus.specs.declared.Layout.{Layout}
use Rattle.bus.specs.declared.Taken.{Taken}
use Rattle.bus.specs.Bus.{is_i2c}
use Rattle.bus.specs.Layout.{x550em, layout_of}
use Rattle.wire.specs.Lines.{Each}
use Rattle.wire.specs.Machine.{switched, models, modelled, at_lines, reply, after, noted}
use Rattle.wire.specs.Always.{Either, Meets}
use Rattle.wire.specs.Run.{Given, given, nothing, refused, listed, Event, at_machine, answered, noticed, proceed, run}
use Rattle.wire.proofs.Always.{either_map}
use Rattle.wire.proofs.Distinct.{distinct}
use Rattle.bench.specs.declared.Bench.{Bench}
use Rattle.bench.specs.Mux.{has_mux}
use Rattle.i2c.specs.declared.once.Request.{Request}
use Rattle.i2c.specs.I2c.{mask, qsfp, is_write, value_of, when_lock, read_tries, retried, with_bus, handshaken, gives_value, transferred}
use Rattle.i2c.proofs.Masks.{mask_plain, mask_bits}
use Rattle.sfp.specs.declared.Identity.{Identity}
use Rattle.sfp.specs.Identify.{absent, or_absent, byte, identifier_of, identify}
use Rattle.demand.specs.Claim.{machine, BenchWorld, Start, at_start, bench_run, Starts, Premises}
use Rattle.demand.specs.Mux.{Switches, Switched, sets_bit, SetsFirst, FirstWord}
use Rattle.demand.proofs.Locks.{esdp_apart}
use Rattle.demand.proofs.Mux.{mux_set}
use Rattle.demand.proofs.Handshake.{qsfp_plain, mux_there}
use Rattle.demand.proofs.Runs.{Steady}
use Rattle.demand.proofs.Claim.{never_both_lines}

-- what is shown of an access to ESDP
steady_switched : (q : Sequence) (port : Port) (e : Event BenchWorld) → Steady q port e → Switched q port e
unfolding Steady Switched Meets at_lines Switches
steady_switched q port (at_machine (Read r) w) s = tt
steady_switched q port (at_machine (Write r v) w) s = λ e. rw (e, esdp_apart port.family) at s
steady_switched q port (at_machine (Wait n) w) s = tt
steady_switched q port (answered x a) s = tt
steady_switched q port (noticed n) s = tt

all_switched : (q : Sequence) (port : Port) (es : List (Event BenchWorld)) → Each (Steady q port) es → Each (Switched q port) es
all_switched q port [] s = tt
all_switched q port (e ∷ es) s = (steady_switched q port e s.0, all_switched q port es s.1)

pub identify_switches : (q : Sequence) (port : Port) (b : Bench) (start : Start) (answers : List Answer) → Starts port b start → Premises q port b start answers
    → Each (Switched q port) (bench_run port (identify q port) b start answers).trace
identify_switches q port b start answers s m = all_switched q port (bench_run port (identify q port) b start answers).trace (never_both_lines q port b start answers s m)

-- ---- before the bit is first set

module _ (l : Layout) where
  -- one call after another
  sets_bind : {A B : Type 0} (p : Prog A) (k : A → Prog B) (E : B → Type 0) → SetsFirst l p (λ a. SetsFirst l (k a) E) → SetsFirst l (p >>= k) E
  unfolding SetsFirst ◌>>=◌
  sets_bind (ret a) k E h = h
  sets_bind (ask x f) k E h = either_map (sets_bit x) (λ _. tt) (λ g. (g.0, λ a. sets_bind (f a) k E (g.1 a))) h
  sets_bind (note n p) k E h = sets_bind p k E h
  sets_bind (give b p) k E h = sets_bind p k E h

  sets_map : {A : Type 0} (p : Prog A) (D E : A → Type 0) → ((a : A) → D a → E a) → SetsFirst l p D → SetsFirst l p E
  unfolding SetsFirst
  sets_map (ret a) D E f h = f a h
  sets_map (ask x k) D E f h = either_map (sets_bit x) (λ _. tt) (λ g. (g.0, λ a. sets_map (k a) D E f (g.1 a))) h
  sets_map (note n p) D E f h = sets_map p D E f h
  sets_map (give b p) D E f h = sets_map p D E f h

  -- calls that make no access to I2CCTL, whatever their result is
  abbrev Aloof : {A : Type 0} → Prog A → Type 0
  Aloof p = SetsFirst l p (λ _. Unit {0})

  abbrev Elsewhere : Access → Type 0
  Elsewhere x = at_lines l x ≡ false

  elsewhere : (b : Bool) (X Y : Type 0) → X → Y → Either b X Y
  elsewhere true X Y x y = x
  elsewhere false X Y x y = y

  aloof_spreads : Spreads (λ A p. Aloof p) Elsewhere
  unfolding SetsFirst
  aloof_spreads =
      record { ends = λ A v. tt; asks = λ A x f m d. elsewhere (sets_bit x) _ _ tt (m, d); binds = λ A B p k e d. sets_bind p k _ (sets_map p _ _ (λ a _. d a) e); lapses = λ A p e. e }

  opens : (r : ℕ) → eqb r l.reg ≡ false → Open Elsewhere r
  unfolding at_lines
  opens r e = record { reads = e; writes = λ v. e }

  -- after such a call
  aloof_then : {A B : Type 0} (p : Prog A) (k : A → Prog B) (E : B → Type 0) → Aloof p → ((a : A) → SetsFirst l (k a) E) → SetsFirst l (p >>= k) E
  aloof_then p k E h f = sets_bind p k E (sets_map p _ _ (λ a _. f a) h)

  abbrev Failed : {A : Type 0} → R A → Type 0
  Failed (Ok a) = ⊥
  Failed (Err e) = Unit {0}

  aloof_try : {A B : Type 0} (p : Prog (R A)) (k : A → Prog (R B)) → Aloof p → ((a : A) → SetsFirst l (k a) Failed) → SetsFirst l (p >>? k) Failed
  unfolding or_err SetsFirst
  aloof_try {A} p k h f = aloof_then p (or_err k) Failed h by
    where
      by : (r : R A) → SetsFirst l (or_err k r) Failed
      by (Ok a) = f a
      by (Err e) = tt

  aloof_read : (r : ℕ) → eqb r l.reg ≡ false → Aloof (read r)
  aloof_read r e = one_holds (λ A p. Aloof p) Elsewhere aloof_spreads (Read r) checked (opens r e).reads

  -- where the port has a mux, the bits are not taken without its being switched
  module _ (port : Port) (o : Semaphores Elsewhere port.family) (esdp : eqb ESDP l.reg ≡ false) (has : mux port (mask port) ≡ true) where
    on_sets : (r : R ℕ) → SetsFirst l (or_err (stored (set_mux true)) r) Failed
    unfolding or_err stored set_mux SetsFirst sets_bit changed ◌>>=◌
    on_sets (Ok v) = rw (mux_set v) tt
    on_sets (Err e) = tt

    muxed_sets : SetsFirst l (muxed port (mask port) true) Failed
    unfolding muxed pick change set_mux
    muxed_sets = rw has (aloof_then (read ESDP) _ Failed (aloof_read ESDP esdp) on_sets)

    taken_sets : (w : R (Unit {0})) → SetsFirst l (taken port (mask port) w) Failed
    unfolding taken or_err SetsFirst
    taken_sets (Ok u) = muxed_sets
    taken_sets (Err e) = tt

    abbrev aloof_unlock : Aloof (unlock port.family)
    aloof_unlock = unlock_holds (λ A p. Aloof p) Elsewhere aloof_spreads port.family o

    free_sets : (sync : ℕ) → SetsFirst l (free port (mask port) sync) Failed
    unfolding free
    free_sets sync =
        aloof_then _ _ Failed (one_holds (λ A p. Aloof p) Elsewhere aloof_spreads _ written (o.sync.writes _)) (λ w. aloof_try _ _ aloof_unlock (λ _. taken_sets w))

    aloof_delay : (us : ℕ) → Aloof (delay us)
    aloof_delay us = one_holds (λ A p. Aloof p) Elsewhere aloof_spreads (Wait (micros us)) (λ _. Ok tt) (o.passes.waits (micros us))

    sets_pick : (b : Bool) (p q : Prog (R (Unit {0}))) → SetsFirst l p Failed → SetsFirst l q Failed → SetsFirst l (pick b p q) Failed
    unfolding pick
    sets_pick true p q h g = h
    sets_pick false p q h g = g

    seen_sets : (again : ℕ → Prog (R (Unit {0}))) → ((held : ℕ) → SetsFirst l (again held) Failed) → (r : R ℕ) → SetsFirst l (sync_seen port (mask port) again r) Failed
    unfolding sync_seen SetsFirst
    seen_sets again h (Ok sync) =
        sets_pick _ _ _ (free_sets sync)
        (aloof_try _ _ aloof_unlock (λ _. aloof_try _ _ (aloof_delay 5000) (λ _. h _)))
    seen_sets again h (Err e) = aloof_try _ _ aloof_unlock (λ _. tt)

    tries_sets : (n held : ℕ) → SetsFirst l (acquire_tries port (mask port) n held) Failed
    unfolding acquire_tries SetsFirst
    tries_sets zero held = tt
    tries_sets (suc n) held =
        aloof_try _ _ (lock_holds (λ A p. Aloof p) Elsewhere aloof_spreads port.family o)
        (λ _. aloof_then _ _ Failed (one_holds (λ A p. Aloof p) Elsewhere aloof_spreads _ checked o.sync.reads) (seen_sets _ (tries_sets n)))

    acquire_sets : SetsFirst l (acquire port (mask port)) Failed
    unfolding acquire acquire_bits acquired_all pick or_err SetsFirst
    acquire_sets = rw (mask_plain port, mask_bits port) (sets_bind (acquire_bits port (mask port)) _ _ (sets_map (acquire_bits port (mask port)) Failed _ by (tries_sets (tries port.family) 0)))
      where
        by : (r : R (Unit {0})) → Failed r → SetsFirst l (or_err (λ _. acquired_all) r) Failed
        by (Ok u) g = absurd g
        by (Err e) g = tt

semaphores : (f : Family) → eqb 0x10140 (layout_of f).reg ≡ false → eqb (swsm f) (layout_of f).reg ≡ false → eqb (sw_fw_sync f) (layout_of f).reg ≡ false
    → Semaphores (Elsewhere (layout_of f)) f
unfolding at_lines
semaphores f a b c =
    record { passes = record { flushes = (distinct f).reg; waits = λ us. refl }; first = opens (layout_of f) _ a; swsm = opens (layout_of f) _ b; sync = opens (layout_of f) _ c }

all_semaphores : (f : Family) → Semaphores (Elsewhere (layout_of f)) f
unfolding layout_of x550em swsm sw_fw_sync is pick
all_semaphores F82599 = semaphores F82599 refl refl refl
all_semaphores X540 = semaphores X540 refl refl refl
all_semaphores X550 = semaphores X550 refl refl refl
all_semaphores X552 = semaphores X552 refl refl refl
all_semaphores X553 = semaphores X553 refl refl refl

pub not_qsfp : (port : Port) → has_mux port ≡ true → qsfp port ≡ false
not_qsfp port h = by (qsfp port) refl
  where
    by : (b : Bool) → qsfp port ≡ b → b ≡ false
    by false e = refl
    by true e = absurd (false≢true (sym (qsfp_plain port e) ∙ h))

-- a call whose first acquire fails ends without another access
absent_sets : (l : Layout) (k : ℕ → Prog (R Identity)) (e : Failure) → SetsFirst l (or_absent k (Err e)) (λ _. Unit {0})
unfolding or_absent SetsFirst pick
absent_sets l k e = by (is_i2c e)
  where
    by : (b : Bool) → SetsFirst l (pick b (ret (Ok absent)) (ret (Err e))) (λ _. Unit {0})
    by true = tt
    by false = tt

after_acquire : (l : Layout) (p : Prog (R Taken)) (r : Request) (k : ℕ → Prog (R Identity)) (a : R (Unit {0})) → Failed l a
    → SetsFirst l (or_err (λ _. p) a) (λ t. SetsFirst l (gives_value r t) (λ v. SetsFirst l (or_absent k v) (λ _. Unit {0})))
unfolding or_err gives_value value_of SetsFirst
after_acquire l p r k (Ok u) f = absurd f
after_acquire l p r k (Err e) f = absent_sets l k e

-- so `identify` makes no access to I2CCTL before it sets the bit
pub identify_sets_first : (q : Sequence) (port : Port) → has_mux port ≡ true → SetsFirst (layout_of port.family) (identify q port) (λ _. Unit {0})
unfolding identify identifier_of byte transferred handshaken with_bus retried is_write read_tries when_lock pick
identify_sets_first q port h =
    rw (not_qsfp port h)
    (sets_bind _ _ _ _ (sets_bind _ _ _ _ (sets_bind _ _ _ _
    (sets_map _ (acquire port (mask port)) _ _ (after_acquire _ _ _ _) (acquire_sets _ port (all_semaphores port.family) (esdp_apart port.family) (mux_there port h))))))

-- and when it first does, I2CCTL is as it was at the start
module _ (port : Port) (has : has_mux port ≡ true) (l : Layout) {A : Type 0} (E : A → Type 0) where
  after_word : (x : Access) (w : BenchWorld) → at_lines l x ≡ false → (after l (machine port) x w).word ≡ w.word
  unfolding after pick switched
  after_word (Read r) w e = refl
  after_word (Write r v) w e = rw e
  after_word (Wait n) w e = refl

  set_own : (x : Access) → modelled l (machine port) x ≡ false → sets_bit x ≡ false
  unfolding modelled models sets_bit
  set_own (Read r) e = refl
  set_own (Write r v) e = by (eqb r l.reg) (eqb r ESDP) (rw has at e)
    where
      by : (a b : Bool) → (a || (b && true)) ≡ false → (b && not (none_of v 2)) ≡ false
      by a false e = refl
      by true true e = absurd (false≢true (sym e))
      by false true e = absurd (false≢true (sym e))
  set_own (Wait n) e = refl

  abbrev First : Prog A → BenchWorld → List Answer → Type 0
  First p w answers = SetsFirst l p E → FirstWord w.word (run l (machine port) listed p w answers).trace

  first_own : (x : Access) (b : Bool) (f : Answer → Prog A) (w : BenchWorld) (answers : List Answer) → sets_bit x ≡ b
      → ((a : Answer) (w' : BenchWorld) (rest : List Answer) → First (f a) w' rest)
      → Either b (Unit {0}) ((at_lines l x ≡ false) × ((a : Answer) → SetsFirst l (f a) E))
      → Either b (w.word ≡ w.word) (FirstWord w.word (run l (machine port) listed (f (reply l (machine port) x w)) (after l (machine port) x w) answers).trace)
  first_own x true f w answers e h k = refl
  first_own x false f w answers e h k =
      subst (λ t. FirstWord t (run l (machine port) listed (f (reply l (machine port) x w)) (after l (machine port) x w) answers).trace) (after_word x w k.0)
      (h _ (after l (machine port) x w) answers (k.1 _))

  first_proceed : (x : Access) (f : Answer → Prog A) (w : BenchWorld) (g : Given) → ((a : Answer) (rest : List Answer) → First (f a) w rest) → ((a : Answer) → SetsFirst l (f a) E)
      → FirstWord w.word (proceed x w (λ a rest. run l (machine port) listed (f a) w rest) g).trace
  unfolding proceed FirstWord
  first_proceed x f w (given a rest) h k = h a rest (k a)
  first_proceed x f w nothing h k = tt
  first_proceed x f w (refused n) h k = tt

  first_at : (x : Access) (b : Bool) (f : Answer → Prog A) (w : BenchWorld) (answers : List Answer) → modelled l (machine port) x ≡ b
      → ((a : Answer) (w' : BenchWorld) (rest : List Answer) → First (f a) w' rest) → First (ask x f) w answers
  unfolding run pick FirstWord SetsFirst
  first_at x true f w answers e h k = rw e (first_own x (sets_bit x) f w answers refl h k)
  first_at x false f w answers e h k = rw e (first_proceed x f w (listed x answers) (λ a rest. h a w rest) (rw (set_own x e) at k).1)

  first_run : (p : Prog A) (w : BenchWorld) (answers : List Answer) → First p w answers
  unfolding run FirstWord SetsFirst
  first_run (ret a) w answers k = tt
  first_run (ask x f) w answers k = first_at x (modelled l (machine port) x) f w answers refl (λ a w' rest. first_run (f a) w' rest) k
  first_run (note n p) w answers k = first_run p (noted (machine port) n w) answers k
  first_run (give b p) w answers k = first_run p w answers k

pub identify_first_word : (q : Sequence) (port : Port) → has_mux port ≡ true → (b : Bench) (start : Start) (answers : List Answer)
    → FirstWord start.word (bench_run port (identify q port) b start answers).trace
identify_first_word q port h b start answers =
    first_run port h (layout_of port.family) (λ _. Unit {0}) (identify q port) (at_start start b) answers (identify_sets_first q port h)
