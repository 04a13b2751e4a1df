-- What spreads holds of the calls on one register wherever it holds of the accesses that they make.
use Prim.Native.Nat.{ℕ, suc, zero}
use mathlib.Core.Bool.{Bool, true, false}
use Rattle.hardware.specs.declared.Access.{Access}
use Rattle.hardware.specs.declared.Access.TheVariants.{Read, Write, Wait}
use Rattle.hardware.specs.declared.Answer.{Answer}
use Rattle.hardware.specs.declared.Micros.{Micros}
use Rattle.hardware.specs.declared.change.Change.{Change}
use Rattle.hardware.specs.declared.poll.Watch.{Watch}
use Rattle.hardware.specs.Prog.{Lapsed, Prog, ret, ask, note, R, Ok, Err, or_err, ◌>>=◌, ◌>>?◌, pick}
use Rattle.hardware.specs.Registers.{STATUS}
use Rattle.hardware.specs.Change.{settled, stored, change}
use Rattle.hardware.specs.Poll.{polled, poll}

-- P holds of an end, of an access that may be made wherever it holds after each answer, of one call after another, and
-- past a lapse
pub record Spreads (P : (A : Type 0) → Prog A → Type 0) (May : Access → Type 0) : Type 1 where
  pub ends : (A : Type 0) (v : A) → P A (ret v)
  pub asks : (A : Type 0) (x : Access) (f : Answer → Prog A) → May x → ((a : Answer) → P A (f a)) → P A (ask x f)
  pub binds : (A B : Type 0) (p : Prog A) (k : A → Prog B) → P A p → ((a : A) → P B (k a)) → P B (p >>= k)
  pub lapses : (A : Type 0) (p : Prog A) → P A p → P A (note Lapsed p)

-- a register may be read and written
pub record Open (May : Access → Type 0) (register : ℕ) : Type 0 where
  pub reads : May (Read register)
  pub writes : (v : ℕ) → May (Write register v)

-- a register may be changed, with a flush behind it, and one may wait
pub record Passes (May : Access → Type 0) : Type 0 where
  pub flushes : May (Read STATUS)
  pub waits : (us : Micros) → May (Wait us)

module _ (P : (A : Type 0) → Prog A → Type 0) (May : Access → Type 0) (s : Spreads P May) where
  pub or_holds : {A B : Type 0} (k : A → Prog (R B)) (r : R A) → ((a : A) → P (R B) (k a)) → P (R B) (or_err k r)
  unfolding or_err
  or_holds k (Ok a) d = d a
  or_holds k (Err e) d = s.ends _ (Err e)

  pub try_holds : {A B : Type 0} (p : Prog (R A)) (k : A → Prog (R B)) → P (R A) p → ((a : A) → P (R B) (k a)) → P (R B) (p >>? k)
  try_holds p k e d = s.binds _ _ p (or_err k) e (λ r. or_holds k r d)

  pub pick_holds : {A : Type 0} (b : Bool) (p q : Prog A) → P A p → P A q → P A (pick b p q)
  unfolding pick
  pick_holds true p q e d = e
  pick_holds false p q e d = d

  -- one access and the end
  pub one_holds : {A : Type 0} (x : Access) (f : Answer → A) → May x → P A (ask x (λ a. ret (f a)))
  one_holds x f m = s.asks _ x _ m (λ a. s.ends _ (f a))

  module _ (o : Passes May) where
    settled_holds : (b : Bool) → P (R (Unit {0})) (settled b)
    unfolding settled
    settled_holds true = one_holds _ _ o.flushes
    settled_holds false = s.ends _ _

    pub change_holds : (c : Change) → Open May c.register → P (R (Unit {0})) (change c)
    unfolding change stored
    change_holds c m =
        try_holds _ _ (one_holds _ _ m.reads) (λ v. try_holds _ _ (one_holds _ _ (m.writes _)) (λ _. settled_holds _))

    pub poll_holds : (w : Watch) (n last : ℕ) → May (Read w.register) → P (R ℕ) (poll w n last)
    unfolding poll polled
    poll_holds w zero last m = s.ends _ _
    poll_holds w (suc n) last m =
        try_holds _ _ (one_holds _ _ m)
        (λ v. pick_holds _ _ _ (s.ends _ _) (try_holds _ _ (one_holds _ _ (o.waits _)) (λ _. poll_holds w n v m)))
