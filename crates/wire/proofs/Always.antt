-- Laws of `Always` for any call.
use Prim.Native.Nat.{ℕ}
use mathlib.Core.Bool.{Bool, true, false}
use Rattle.hardware.specs.declared.Access.{Access}
use Rattle.hardware.specs.declared.Access.TheVariants.{Read, Write, Wait}
use Rattle.hardware.specs.declared.Answer.{Answer}
use Rattle.hardware.specs.Prog.{Prog, ret, ask, note, give, Note, Attempt, Acquires, Acquired, Released, Lapsed, Acknowledged, ◌>>=◌, pick}
use Rattle.bus.specs.declared.Layout.{Layout}
use Rattle.wire.specs.Machine.{Side, World, modelled, noted}
use Rattle.wire.specs.Always.{Either, ByKind, Answered, Kept, Always}

pub either_map : (b : Bool) {X Y X' Y' : Type 0} → (X → X') → (Y → Y') → Either b X Y → Either b X' Y'
either_map true f g k = f k
either_map false f g k = g k

pub by_kind_map : (may : ℕ → ℕ → Type 0) (x : Access) (K L : Answer → Type 0) → ((a : Answer) → K a → L a) → ByKind may x K → ByKind may x L
unfolding ByKind
by_kind_map may (Read r) K L h k = λ v m. h _ (k v m)
by_kind_map may (Write r v) K L h k = h _ k
by_kind_map may (Wait n) K L h k = h _ k

answered_map : (l : Layout) (o : Side) (x : Access) (K L : Answer → World o → Type 0) (w : World o) → ((a : Answer) (w' : World o) → K a w' → L a w')
    → Answered l o x K w → Answered l o x L w
unfolding Answered
answered_map l o x K L w h = either_map (modelled l o x) (λ k. (k.0, h _ _ k.1)) (by_kind_map o.may x _ _ (λ a. h a w))

kept_map : (n : Note) (X Y : Type 0) → (X → Y) → Kept n X → Kept n Y
kept_map Attempt X Y f k = f k
kept_map Acquires X Y f k = f k
kept_map Acquired X Y f k = f k
kept_map Released X Y f k = f k
kept_map Lapsed X Y f k = tt
kept_map (Acknowledged sample) X Y f k = f k

-- what follows from Q holds too
pub always_map : (l : Layout) (o : Side) {A : Type 0} (p : Prog A) (w : World o) (Q R : A → World o → Type 0)
    → ((a : A) (w' : World o) → Q a w' → R a w') → Always l o p w Q → Always l o p w R
unfolding Always
always_map l o (ret a) w Q R h k = h a w k
always_map l o (ask x f) w Q R h k = answered_map l o x _ _ w (λ a w'. always_map l o (f a) w' Q R h) k
always_map l o (note n p) w Q R h k = kept_map n _ _ (always_map l o p (noted o n w) Q R h) k
always_map l o (give b p) w Q R h k = always_map l o p w Q R h k

-- one call after another
pub always_bind : (l : Layout) (o : Side) {A B : Type 0} (p : Prog A) (f : A → Prog B) (w : World o) (Q : B → World o → Type 0)
    → Always l o p w (λ a w'. Always l o (f a) w' Q) → Always l o (p >>= f) w Q
unfolding Always ◌>>=◌
always_bind l o (ret a) f w Q h = h
always_bind l o (ask x k) f w Q h = answered_map l o x _ _ w (λ a w'. always_bind l o (k a) f w' Q) h
always_bind l o (note n p) f w Q h = kept_map n _ _ (always_bind l o p f (noted o n w) Q) h
always_bind l o (give b p) f w Q h = always_bind l o p f w Q h

-- one of two calls
pub always_pick : (l : Layout) (o : Side) {A : Type 0} (b : Bool) (p q : Prog A) (w : World o) (Q : A → World o → Type 0) → Always l o p w Q → Always l o q w Q
    → Always l o (pick b p q) w Q
unfolding pick
always_pick l o true p q w Q h g = h
always_pick l o false p q w Q h g = g
