-- Laws of `Fine` for any call, and that a fine call leaves the lines and the other side alone.
use Prim.Native.Nat.{ℕ, suc, zero}
use mathlib.Core.Path.{◌≡◌, refl, sym, subst}
use mathlib.Core.Bool.{Bool, true, false}
use lib.Dec.{eqb}
use Rattle.hardware.specs.declared.Access.TheVariants.{Wait}
use Rattle.hardware.specs.declared.Answer.{Answer}
use Rattle.hardware.specs.declared.change.Change.{Change}
use Rattle.hardware.specs.declared.poll.Watch.{Watch}
use Rattle.hardware.specs.Prog.{Prog, ret, ask, note, give, Note, Attempt, Acquires, Acquired, Released, Lapsed, Acknowledged, R, Ok, Err, or_err, ◌>>=◌, ◌>>?◌, pick}
use Rattle.hardware.specs.Registers.{STATUS, checked, written, flushed, read, write, flush, delay, micros}
use Rattle.hardware.specs.Change.{settled, stored, change}
use Rattle.hardware.specs.Poll.{polled, poll}
use Rattle.bus.specs.declared.Layout.{Layout}
use Rattle.wire.specs.Machine.{Side, World, models, modelled, noted}
use Rattle.wire.specs.Always.{ByKind, Answered, Always}
use Rattle.wire.proofs.Always.{by_kind_map, always_bind}
use Rattle.demand.specs.Fine.{Apart, Fine}

-- a success, of whose value P holds
unfoldable pub Good : {A : Type 0} → (A → Type 0) → R A → Type 0
Good P (Ok a) = P a
Good P (Err e) = ⊥

-- any success
abbrev pub Fair : {A : Type 0} → R A → Type 0
Fair = Good (λ _. Unit {0})

pub fair_is : (r : R (Unit {0})) → Fair r → r ≡ Ok tt
unfolding Good
fair_is (Ok u) g = refl
fair_is (Err e) g = absurd g

-- a register that is not the machine's, and whose checked reads don't say that the card is gone
pub record Beside (l : Layout) (o : Side) (r : ℕ) : Type 0 where
  pub other : models l o r ≡ false
  pub present : (v : ℕ) → o.may r v → eqb v 0xffffffff ≡ false

apart_map : (n : Note) (X Y : Type 0) → (X → Y) → Apart n X → Apart n Y
apart_map Attempt X Y f h = h
apart_map Acquires X Y f h = f h
apart_map Acquired X Y f h = f h
apart_map Released X Y f h = f h
apart_map Lapsed X Y f h = tt
apart_map (Acknowledged sample) X Y f h = absurd h

module _ (l : Layout) (o : Side) where
  -- what follows from Q holds too
  pub fine_map : {A : Type 0} (p : Prog A) (Q S : A → Type 0) → ((a : A) → Q a → S a) → Fine l o p Q → Fine l o p S
  unfolding Fine
  fine_map (ret a) Q S f h = f a h
  fine_map (ask x k) Q S f h = (h.0, by_kind_map o.may x _ _ (λ a. fine_map (k a) Q S f) h.1)
  fine_map (note n p) Q S f h = apart_map n _ _ (fine_map p Q S f) h
  fine_map (give b p) Q S f h = fine_map p Q S f h

  -- one call after another
  pub fine_bind : {A B : Type 0} (p : Prog A) (k : A → Prog B) (Q : B → Type 0) → Fine l o p (λ a. Fine l o (k a) Q) → Fine l o (p >>= k) Q
  unfolding Fine ◌>>=◌
  fine_bind (ret a) k Q h = h
  fine_bind (ask x f) k Q h = (h.0, by_kind_map o.may x _ _ (λ a. fine_bind (f a) k Q) h.1)
  fine_bind (note n p) k Q h = apart_map n _ _ (fine_bind p k Q) h
  fine_bind (give b p) k Q h = fine_bind p k Q h

  pub fine_then : {A B : Type 0} (p : Prog A) (k : A → Prog B) (P : A → Type 0) (Q : B → Type 0) → Fine l o p P → ((a : A) → P a → Fine l o (k a) Q)
      → Fine l o (p >>= k) Q
  fine_then p k P Q h f = fine_bind p k Q (fine_map p P _ f h)

  -- the same where a failure would end the call, and none does
  pub fine_or : {A B : Type 0} (k : A → Prog (R B)) (P : A → Type 0) (Q : R B → Type 0) → ((a : A) → P a → Fine l o (k a) Q) → (r : R A) → Good P r
      → Fine l o (or_err k r) Q
  unfolding Good or_err
  fine_or k P Q f (Ok a) g = f a g
  fine_or k P Q f (Err e) g = absurd g

  pub fine_try : {A B : Type 0} (p : Prog (R A)) (k : A → Prog (R B)) (P : A → Type 0) (Q : R B → Type 0) → Fine l o p (Good P)
      → ((a : A) → P a → Fine l o (k a) Q) → Fine l o (p >>? k) Q
  fine_try p k P Q h f = fine_then p (or_err k) (Good P) Q h (fine_or k P Q f)

  pub fine_pick : {A : Type 0} (b : Bool) (p q : Prog A) (Q : A → Type 0) → Fine l o p Q → Fine l o q Q → Fine l o (pick b p q) Q
  unfolding pick
  fine_pick true p q Q h g = h
  fine_pick false p q Q h g = g

  pub fine_ret : {A : Type 0} (a : A) (Q : A → Type 0) → Q a → Fine l o (ret a) Q
  unfolding Fine
  fine_ret a Q h = h

  pub fine_ok : {A : Type 0} (a : A) → Fine l o (ret (Ok a)) Fair
  unfolding Fine Good
  fine_ok a = tt

  pub fine_lapsed : {A : Type 0} (p : Prog A) (Q : A → Type 0) → Fine l o (note Lapsed p) Q
  unfolding Fine
  fine_lapsed p Q = tt

  pub fine_read : (r : ℕ) → Beside l o r → Fine l o (read r) Fair
  unfolding Fine ByKind modelled Good checked pick
  fine_read r b = (b.other, λ v m. rw (b.present v m) tt)

  pub fine_write : (r v : ℕ) → models l o r ≡ false → Fine l o (write r v) Fair
  unfolding Fine ByKind modelled Good written
  fine_write r v e = (e, tt)

  pub fine_wait : {A : Type 0} (us : ℕ) (k : Answer → Prog A) (Q : A → Type 0) → ((a : Answer) → Fine l o (k a) Q)
      → Fine l o (ask (Wait (micros us)) k) Q
  unfolding Fine ByKind modelled
  fine_wait us k Q h = (refl, h _)

  pub fine_delay : (us : ℕ) → Fine l o (delay us) Fair
  fine_delay us = fine_wait us _ _ (λ a. fine_ok tt)

  -- STATUS is not the machine's
  module _ (status : models l o STATUS ≡ false) where
    pub fine_flush : Fine l o flush Fair
    unfolding Fine ByKind modelled Good flushed
    fine_flush = (status, λ v m. tt)

    fine_settled : (b : Bool) → Fine l o (settled b) Fair
    unfolding settled
    fine_settled true = fine_flush
    fine_settled false = fine_ok tt

    pub fine_change : (c : Change) → Beside l o c.register → Fine l o (change c) Fair
    unfolding change stored
    fine_change c b =
        fine_try _ _ _ _ (fine_read _ b) (λ v _. fine_try _ _ _ _ (fine_write _ _ b.other) (λ _ _. fine_settled c.flushed))

  pub fine_poll : (w : Watch) → Beside l o w.register → (n last : ℕ) → Fine l o (poll w n last) Fair
  unfolding poll polled
  fine_poll w b zero last = fine_ok last
  fine_poll w b (suc n) last =
      fine_try _ _ _ _ (fine_read _ b)
      (λ v _. fine_pick _ _ _ _ (fine_ok v) (fine_try _ _ _ _ (fine_delay _) (λ _ _. fine_poll w b n v)))

-- what an acquire or a release notes makes nothing of the other side
pub record Unmoved (o : Side) : Type 0 where
  pub acquires : (s : o.State) → o.notes Acquires s ≡ s
  pub acquired : (s : o.State) → o.notes Acquired s ≡ s
  pub released : (s : o.State) → o.notes Released s ≡ s

module _ (l : Layout) (o : Side) (still : Unmoved o) where
  noted_alone : {A : Type 0} (n : Note) (p : Prog A) (w : World o) (Q : A → World o → Type 0) → ((s : o.State) → o.notes n s ≡ s) → Always l o p w Q
      → Always l o p (noted o n w) Q
  noted_alone n p w Q e h = subst (λ s. Always l o p (record { word = w.word; other = s }) Q) (sym (e w.other)) h

  pub fine_alone : {A : Type 0} (p : Prog A) (w : World o) (Q : A → World o → Type 0) → Fine l o p (λ a. Q a w) → Always l o p w Q
  unfolding Fine Always Answered
  fine_alone (ret a) w Q h = h
  fine_alone (ask x f) w Q h = rw h.0 (by_kind_map o.may x _ _ (λ a. fine_alone (f a) w Q) h.1)
  fine_alone (note Attempt p) w Q h = absurd h
  fine_alone (note Acquires p) w Q h = noted_alone Acquires p w Q still.acquires (fine_alone p w Q h)
  fine_alone (note Acquired p) w Q h = noted_alone Acquired p w Q still.acquired (fine_alone p w Q h)
  fine_alone (note Released p) w Q h = noted_alone Released p w Q still.released (fine_alone p w Q h)
  fine_alone (note Lapsed p) w Q h = tt
  fine_alone (note (Acknowledged sample) p) w Q h = absurd h
  fine_alone (give b p) w Q h = fine_alone p w Q h

  -- and what comes after it begins where it began
  pub fine_always : {A B : Type 0} (p : Prog A) (k : A → Prog B) (w : World o) (Q : B → World o → Type 0)
      → Fine l o p (λ a. Always l o (k a) w Q) → Always l o (p >>= k) w Q
  fine_always p k w Q h = always_bind l o p k w Q (fine_alone p w _ h)

  or_always : {A B : Type 0} (k : A → Prog (R B)) (P : A → Type 0) (w : World o) (Q : R B → World o → Type 0) → ((a : A) → P a → Always l o (k a) w Q)
      → (r : R A) → Good P r → Always l o (or_err k r) w Q
  unfolding or_err Good
  or_always k P w Q f (Ok a) g = f a g
  or_always k P w Q f (Err e) g = absurd g

  -- the same where a failure would end the call, and none does
  pub fine_tried : {A B : Type 0} (p : Prog (R A)) (k : A → Prog (R B)) (P : A → Type 0) (w : World o) (Q : R B → World o → Type 0)
      → Fine l o p (Good P) → ((a : A) → P a → Always l o (k a) w Q) → Always l o (p >>? k) w Q
  fine_tried p k P w Q h f = fine_always p (or_err k) w Q (fine_map l o p _ _ (or_always k P w Q f) h)

  pub alone_then : {A B : Type 0} (p : Prog (R A)) (k : A → Prog (R B)) (a : A) (w : World o) (Q : R B → World o → Type 0)
      → Fine l o p (λ r. r ≡ Ok a) → Always l o (k a) w Q → Always l o (p >>? k) w Q
  unfolding or_err
  alone_then p k a w Q h g = fine_always p (or_err k) w Q (fine_map l o p _ _ (λ r e. rw e g) h)

  -- A call that names no register of the machine's and begins no transfer leaves the machine as it was
  pub leaves_alone : {A : Type 0} (p : Prog A) (w : World o) (Q : A → Type 0) → Fine l o p Q → Always l o p w (λ a w'. Q a × (w' ≡ w))
  leaves_alone p w Q h = fine_alone p w _ (fine_map l o p Q _ (λ a q. (q, refl)) h)
