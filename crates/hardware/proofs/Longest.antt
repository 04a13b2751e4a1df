-- The number of what is left of a call falls at every accepted step, and is at most what `Ends` has.
use Rattle.hardware.specs.Marks.{acknowledged}
use Prim.Native.Nat.{ℕ, ◌-◌, ◌^◌, ◌<◌, ◌≤◌, suc, zero, max}
use mathlib.Core.Path.{◌≡◌, refl, ap, ◌∙◌, subst, subst⁻¹}
use mathlib.Core.Bool.{Bool, true, false}
use mathlib.Core.List.{List, [], ◌∷◌}
use native.Mathlib.Nat.{le-max_left, le-max_right, max-le}
use native.Mathlib.Omega.{arith}
use lib.Dec.{T, eqb, ltb}
use borrow.Author.Tests.{eqb-true, eqb-false}
use Rattle.hardware.specs.declared.Access.{Access}
use Rattle.hardware.specs.declared.Access.TheVariants.{Read, Write, Wait}
use Rattle.hardware.specs.declared.Answer.{Answer}
use Rattle.hardware.specs.declared.Answer.TheVariants.{Value, Done, Failed}
use Rattle.hardware.specs.declared.Meter.{Meter}
use Rattle.hardware.specs.Asked.{Asked, no, yes, fits, InType}
use Rattle.hardware.specs.Prog.{Note, is_told, note_if, Prog, ret, ask, note, give, erase, metered, tally, ◌>>=◌}
use Rattle.hardware.specs.Runs.{Ends, Asks, IfYes, Awaited, AwaitedIn, left_after, left_asked_after, Exchange, AllKept, Lasts, last_told, Unrefused}
use Rattle.hardware.specs.Longest.{greatest, over_answers, longest, lasting}
use Rattle.hardware.proofs.Ends.{ends_erase}
use Rattle.hardware.proofs.Laws.{StepsOn}

greatest_above : (g : ℕ → ℕ) (n v : ℕ) → v < n → g v ≤ greatest g n
unfolding greatest
greatest_above g zero v h = absurd (omega arith)
greatest_above g (suc n) v h = by (eqb v n) refl (greatest_above g n v)
  where
    by : (b : Bool) → eqb v n ≡ b → (v < n → g v ≤ greatest g n) → g v ≤ max (g n) (greatest g n)
    by true e k = subst⁻¹ (λ w. g w ≤ max (g n) (greatest g n)) (eqb-true v n e) (le-max_left (g n) (greatest g n))
    by false e k = omega (arith, k (omega (arith, eqb-false v n e, h)), le-max_right (g n) (greatest g n))

greatest_least : (g : ℕ → ℕ) (n m : ℕ) → ((v : ℕ) → g v ≤ m) → greatest g n ≤ m
unfolding greatest
greatest_least g zero m h = omega arith
greatest_least g (suc n) m h = max-le (h n) (greatest_least g n m h)

over_above : (x : Access) (g : Answer → ℕ) (a : Answer) → T (fits x a) → InType a → g a ≤ over_answers x g
unfolding fits InType over_answers
over_above (Read r) g (Value v) f h = omega (arith, greatest_above (λ w. g (Value w)) (2 ^ 32) v h, le-max_left (greatest (λ w. g (Value w)) (2 ^ 32)) (g Failed))
over_above (Read r) g Done f h = absurd f
over_above (Read r) g Failed f h = le-max_right _ (g Failed)
over_above (Write r w) g (Value v) f h = absurd f
over_above (Write r w) g Done f h = le-max_left (g Done) (g Failed)
over_above (Write r w) g Failed f h = le-max_right (g Done) (g Failed)
over_above (Wait t) g (Value v) f h = absurd f
over_above (Wait t) g Done f h = omega arith
over_above (Wait t) g Failed f h = absurd f

over_least : (x : Access) (g : Answer → ℕ) (m : ℕ) → ((a : Answer) → T (fits x a) → g a ≤ m) → over_answers x g ≤ m
unfolding fits over_answers
over_least (Read r) g m h = max-le (greatest_least (λ v. g (Value v)) (2 ^ 32) m (λ v. h (Value v) tt)) (h Failed tt)
over_least (Write r v) g m h = max-le (h Done tt) (h Failed tt)
over_least (Wait t) g m h = h Done tt

-- an answer of the awaited kind takes at least one access
pub longest_next : {A : Type 0} {q : Prog A} (x : Access) (f : Answer → Prog A) (a : Answer) → q ≡ f a → fits x a ≡ true → InType a → longest q < longest (ask x f)
unfolding longest
longest_next x f a e d h = subst⁻¹ (λ q. longest q < longest (ask x f)) e (omega (arith, over_above x (λ b. longest (f b)) a (subst⁻¹ T d tt) h))

-- no more than are enough
pub longest_few : {A : Type 0} (p : Prog A) (n : ℕ) → Ends p n → longest p ≤ n
unfolding longest Ends
longest_few (ret v) n e = omega arith
longest_few (ask x f) zero e = absurd e
longest_few (ask x f) (suc n) e = omega (arith, over_least x (λ a. longest (f a)) n (λ a t. longest_few (f a) n (e a t)))
longest_few (note k p) n e = longest_few p n e
longest_few (give b p) n e = longest_few p n e

-- a program that was opened
pub longest_opened : {A : Type 0} {q : Prog A} (p : Prog A) (n : ℕ) → q ≡ erase p → Ends p n → longest q ≤ n
longest_opened p n e d = subst⁻¹ (λ q. longest q ≤ n) e (longest_few _ n (ends_erase p n d))

-- notes are no accesses
longest_noted : {A : Type 0} (b : Bool) (n : Note) (p : Prog A) → longest (note_if b n p) ≡ longest p
unfolding longest
longest_noted true n p = refl
longest_noted false n p = refl

pub longest_heard : {A : Type 0} (left : ℕ) (p : Prog A) → longest (acknowledged left p) ≡ longest p
unfolding acknowledged
longest_heard left p = longest_noted (ltb left 10) _ p

pub longest_erase : {A : Type 0} (p : Prog A) → longest (erase p) ≡ longest p
unfolding longest erase
longest_erase (ret v) = refl
longest_erase (ask x f) = λ i. suc (over_answers x (λ a. longest_erase (f a) i))
longest_erase (note n p) = longest_noted (is_told n) n (erase p) ∙ longest_erase p
longest_erase (give b p) = longest_erase p

-- the meter is no access either
pub longest_tally : {A : Type 0} (m : Meter) (p : Prog A) → longest (tally m p) ≡ longest p
unfolding longest tally
longest_tally m (ret v) = refl
longest_tally m (ask x f) = λ i. suc (over_answers x (λ a. longest_tally m (f a) i))
longest_tally m (note n p) = longest_tally (metered n m) p
longest_tally m (give b p) = longest_tally m p

-- what follows counts by its number alone
pub longest_same : {A B : Type 0} (p : Prog A) (f g : A → Prog B) → ((a : A) → longest (f a) ≡ longest (g a)) → longest (p >>= f) ≡ longest (p >>= g)
unfolding longest ◌>>=◌
longest_same (ret a) f g h = h a
longest_same (ask x k) f g h = λ i. suc (over_answers x (λ a. longest_same (k a) f g h i))
longest_same (note n p) f g h = longest_same p f g h
longest_same (give b p) f g h = longest_same p f g h

-- with none to come the call has ended
pub longest_over : {A : Type 0} (p : Prog A) → longest p ≡ 0 → Asks p → ⊥
unfolding longest Asks
longest_over (ret v) e k = k
longest_over (ask x f) e k = omega (arith, e)
longest_over (note n p) e k = longest_over p e k
longest_over (give b p) e k = longest_over p e k

longest_falls : {A : Type 0} (p : Prog A) (a : Answer) → Asks p → Awaited p (a ∷ []) → InType a → longest (left_after p a) < longest p
unfolding longest Asks Awaited left_after
longest_falls (ret v) a k w h = absurd k
longest_falls (ask x f) a k w h = omega (arith, over_above x (λ b. longest (f b)) a w.0 h)
longest_falls (note n p) a k w h = longest_falls p a k w h
longest_falls (give b p) a k w h = longest_falls p a k w h

-- A call's number falls at every accepted step: one that keeps its promise, after an answer of the awaited kind and within its
-- type
abbrev pub Falls : {A Told : Type 0} → (Told → Asked (Prog A)) → (Told → Answer → Told → Type 0) → (Told → Type 0) → Type 0
Falls {A} {Told} said Promise Stands =
    (t u : Told) (a : Answer) → Stands t → Promise t a u → AwaitedIn (said t) (a ∷ []) → InType a → lasting (said u) < lasting (said t)

pub lasting_falls : {A Told : Type 0} (said : Told → Asked (Prog A)) (Promise : Told → Answer → Told → Type 0) (Stands : Told → Type 0) → StepsOn said Promise Stands
    → Falls said Promise Stands
unfolding AwaitedIn IfYes left_asked_after lasting
lasting_falls {A} said Promise Stands on t u a s k w h = by (said t) refl w (on t u a s k w)
  where
    by : (q : Asked (Prog A)) → said t ≡ q → AwaitedIn q (a ∷ []) → (said u ≡ left_asked_after (said t) a) × Stands u × IfYes Asks (said t) → lasting (said u) < lasting q
    by (no j) e w n = absurd (subst (IfYes Asks) e n.2)
    by (yes p) e w n =
        subst⁻¹ (λ r. lasting r < longest p) (n.0 ∙ ap (λ r. left_asked_after r a) e)
        (longest_falls p a (subst (IfYes Asks) e n.2) w h)

-- A call with a number that falls at every step takes at most as many steps, and has ended after as many
pub number_few : {A Told : Type 0} (said : Told → Asked (Prog A)) (Promise : Told → Answer → Told → Type 0) (Stands : Told → Type 0) (left : Told → ℕ)
    → ((t u : Told) (a : Answer) → Stands t → Promise t a u → Stands u × (left u < left t))
    → ((t : Told) → Stands t → left t ≡ 0 → IfYes (λ p. Asks p → ⊥) (said t))
    → (t : Told) (ks : List (Exchange Told)) (n : ℕ) → Stands t → left t ≤ n → AllKept Promise t ks → Lasts said t ks n
unfolding AllKept last_told
number_few said Promise Stands left falls none t [] n s h kept = record { few = omega arith; over = λ z. none t s (omega (arith, z, h)) }
number_few said Promise Stands left falls none t (k ∷ ks) n s h kept =
    let f = falls t k.told k.answer s kept.0 in
    let rest = number_few said Promise Stands left falls none k.told ks (n - 1) f.0 (omega (arith, f.1, h)) kept.1 in
    record { few = omega (arith, rest.few, f.1, h); over = λ z. rest.over (omega (arith, z, f.1, h)) }

-- an accepted step: it keeps its promise, and its answer is of the awaited kind and within its type
abbrev pub Accepts : {A Told : Type 0} → (Told → Asked (Prog A)) → (Told → Answer → Told → Type 0) → Told → Answer → Told → Type 0
Accepts said Promise t a u = Promise t a u × AwaitedIn (said t) (a ∷ []) × InType a

-- so a call that is lent nothing has ended after as many accepted steps as its number
pub lasting_few : {A Told : Type 0} (said : Told → Asked (Prog A)) (Promise : Told → Answer → Told → Type 0) (Stands : Told → Type 0) → StepsOn said Promise Stands
    → (t : Told) (ks : List (Exchange Told)) (n : ℕ) → Stands t → Unrefused (said t) → lasting (said t) ≤ n → AllKept (Accepts said Promise) t ks → Lasts said t ks n
unfolding IfYes lasting left_asked_after
lasting_few {A} {Told} said Promise Stands on t ks n s y h kept =
    number_few said (Accepts said Promise) (λ t. Stands t × Unrefused (said t)) (λ t. lasting (said t)) falls (λ t w. none (said t) w.1) t ks n (s, y) h kept
  where
    goes : (q : Asked (Prog A)) (a : Answer) → IfYes Asks q → Unrefused (left_asked_after q a)
    goes (no j) a k = k
    goes (yes p) a k = tt

    falls : (t u : Told) (a : Answer) → Stands t × Unrefused (said t) → Accepts said Promise t a u → (Stands u × Unrefused (said u)) × (lasting (said u) < lasting (said t))
    falls t u a s k =
        let m = on t u a s.0 k.0 k.1 in
        ((m.1, subst⁻¹ Unrefused m.0 (goes (said t) a m.2)), lasting_falls said Promise Stands on t u a s.0 k.0 k.1 k.2)

    none : (q : Asked (Prog A)) → Unrefused q → lasting q ≡ 0 → IfYes (λ p. Asks p → ⊥) q
    none (no j) d e = d
    none (yes p) d e = longest_over p e

-- and so after as many as are enough
pub steps_few : {A Told : Type 0} (said : Told → Asked (Prog A)) (Promise : Told → Answer → Told → Type 0) (Stands : Told → Type 0) → StepsOn said Promise Stands
    → (t : Told) (ks : List (Exchange Told)) (n : ℕ) → Stands t → AllKept (Accepts said Promise) t ks → IfYes (λ p. Ends p n) (said t) → Lasts said t ks n
unfolding IfYes lasting
steps_few {A} said Promise Stands on t ks n s kept e = let h = by (said t) e in lasting_few said Promise Stands on t ks n s h.0 h.1 kept
  where
    by : (q : Asked (Prog A)) → IfYes (λ p. Ends p n) q → Unrefused q × (lasting q ≤ n)
    by (no j) d = absurd d
    by (yes p) d = (tt, longest_few p n d)
