-- The sum of a page's code is that of the module's bytes, for any span, and so for those of the standards.
use Prim.Native.Nat.{ℕ, ◌+◌, ◌-◌, ◌<◌, ◌≤◌, ◌%◌, suc, zero}
use mathlib.Core.Path.{◌≡◌, ◌∙◌, refl, ap, ap₂, sym}
use mathlib.Core.Bool.{Bool, true, false}
use mathlib.Core.List.{List, [], ◌∷◌}
use mathlib.Core.Logic.Iff
use mathlib.Core.Logic.{◌↔◌}
use native.Mathlib.Omega.{arith}
use lib.ListN.{drop, get_or, take}
use lib.Seq.{get_or-drop, take-nil}
use borrow.Author.Tests.{eq-eqb, eqb-true}
use Rattle.hardware.specs.Prog.{R, Ok, Err, pick}
use Rattle.sfp.specs.Classes.{Bytes}
use Rattle.sfp.specs.Sum.{sum_of, total}
use Rattle.page.specs.declared.walk.Form.{Form}
use Rattle.page.specs.declared.walk.Form.TheVariants.{Sff8472, Sff8636}
use Rattle.page.specs.Page.{FirstSum, SecondSum, offset_of, sum_right, sums_of}
use Rattle.page.specs.Spans.{BothCheck, Checks, Carries, span_total}

-- the first byte and those after it
one_more : (n : ℕ) (l : List ℕ) → total (take (suc n) l) ≡ get_or l 0 0 + total (take n (drop 1 l))
unfolding total
one_more n [] = rw take-nil
one_more n (b ∷ l) = refl

-- the sum of a list's front part
front_total : (bytes : Bytes) (n first : ℕ) (l : List ℕ) → ((i : ℕ) → i < n → get_or l i 0 ≡ bytes (first + i))
    → total (take n l) ≡ span_total bytes first n
unfolding total span_total
front_total bytes zero first l h = refl
front_total bytes (suc n) first l h =
    one_more n l
    ∙ ap₂ (λ x y. x + y) (h 0 (omega arith) ∙ ap bytes (omega arith))
    (front_total bytes n (suc first) (drop 1 l) (λ i k. get_or-drop 1 l i 0 ∙ h (1 + i) (omega arith) ∙ ap bytes (omega arith)))

-- the sum once, for any span
pub sum_of_span : (bytes : Bytes) (buffer : List ℕ) (o from at : ℕ) → from ≤ at → Carries buffer bytes o from at
    → (sum_right buffer from at ≡ true) ↔ Checks bytes (o + from) (o + at)
unfolding Checks Carries sum_right sum_of
sum_of_span bytes buffer o from at f h = (λ t. sym stored ∙ sym (eqb-true _ _ t) ∙ summed, λ c. eq-eqb _ _ (summed ∙ sym c ∙ sym stored))
  where
    stored : get_or buffer at 0 ≡ bytes (o + at)
    stored = h at f (omega arith)

    span : o + at - (o + from) ≡ at - from
    span = omega arith

    place : (i : ℕ) → i < at - from → get_or (drop from buffer) i 0 ≡ bytes (o + from + i)
    place i k = get_or-drop from buffer i 0 ∙ h (from + i) (omega arith) (omega arith) ∙ ap bytes (omega arith)

    summed : sum_of (take (at - from) (drop from buffer)) ≡ span_total bytes (o + from) (o + at - (o + from)) % 256
    summed = rw span (ap (λ n. n % 256) (front_total bytes (at - from) (o + from) (drop from buffer) place))

-- the check bytes of the base and of the extended fields, as the standards place them
pub sff8472_base : (bytes : Bytes) (buffer : List ℕ) → Carries buffer bytes 0 0 63 → (sum_right buffer 0 63 ≡ true) ↔ Checks bytes 0 63
sff8472_base bytes buffer h = sum_of_span bytes buffer 0 0 63 (omega arith) h

pub sff8472_extended : (bytes : Bytes) (buffer : List ℕ) → Carries buffer bytes 0 64 95 → (sum_right buffer 64 95 ≡ true) ↔ Checks bytes 64 95
sff8472_extended bytes buffer h = sum_of_span bytes buffer 0 64 95 (omega arith) h

pub sff8636_base : (bytes : Bytes) (buffer : List ℕ) → Carries buffer bytes 128 0 63 → (sum_right buffer 0 63 ≡ true) ↔ Checks bytes 128 191
sff8636_base bytes buffer h = sum_of_span bytes buffer 128 0 63 (omega arith) h

pub sff8636_extended : (bytes : Bytes) (buffer : List ℕ) → Carries buffer bytes 128 64 95 → (sum_right buffer 64 95 ≡ true) ↔ Checks bytes 192 223
sff8636_extended bytes buffer h = sum_of_span bytes buffer 128 64 95 (omega arith) h

-- the verdict is by both sums
pub sums_right : (l : List ℕ) → (sums_of l ≡ Ok tt) ↔ ((sum_right l 0 63 ≡ true) × (sum_right l 64 95 ≡ true))
unfolding sums_of pick
sums_right l = by (sum_right l 0 63) (sum_right l 64 95)
  where
    by : (a b : Bool) → (◌≡◌ {A = R (Unit {0})} (pick a (pick b (Ok tt) (Err SecondSum)) (Err FirstSum)) (Ok tt)) ↔ ((a ≡ true) × (b ≡ true))
    by true true = (λ e. (refl, refl), λ t. refl)
    by true false = (λ e. let z : ◌≡◌ {A = ℕ} 0 1 = cc in absurd (omega arith), λ t. let z : ◌≡◌ {A = ℕ} 0 1 = cc t.1 in absurd (omega arith))
    by false b = (λ e. let z : ◌≡◌ {A = ℕ} 0 1 = cc in absurd (omega arith), λ t. let z : ◌≡◌ {A = ℕ} 0 1 = cc t.0 in absurd (omega arith))

-- and so by both check bytes of the module whose page the buffer holds
pub sums_check : (form : Form) (bytes : Bytes) (buffer : List ℕ) → Carries buffer bytes (offset_of form 0) 0 95 → (sums_of buffer ≡ Ok tt) ↔ BothCheck form bytes
unfolding BothCheck offset_of Carries
sums_check Sff8472 bytes buffer h =
    Iff.trans (sums_right buffer) (Iff.and (sff8472_base bytes buffer (λ i f t. h i f (omega arith))) (sff8472_extended bytes buffer (λ i f t. h i (omega arith) t)))
sums_check Sff8636 bytes buffer h =
    Iff.trans (sums_right buffer) (Iff.and (sff8636_base bytes buffer (λ i f t. h i f (omega arith))) (sff8636_extended bytes buffer (λ i f t. h i (omega arith) t)))
