-- What is finite: of bit patterns, of values, and on the way through Horner's rule.
use Prim.Native.Nat.{ℕ, zero, suc, ◌+◌, ◌/◌, ◌%◌, ◌^◌, ◌<◌}
use mathlib.Core.Path.{◌≡◌, refl, sym, ap, ◌∙◌}
use mathlib.Core.Bool.{Bool, true, false, not, ◌&&◌, cond, true≢false, beq}
use mathlib.Core.List.Memᴰ
use mathlib.Core.List.{List, [], ◌∷◌, Memᴰ}
use mathlib.Core.Logic.{◌⊎◌, inl, inr}
use native.Mathlib.Omega.{arith}
use lib.Dec.{T, eqb, leb}
use lib.Ieee.{Float, nan, inf, fin, Format, binary32, add, mul, lt, odd, of_bits, of_fields, is_nan, nan_bits, to_bits, unlike}
use lib.Ieee.Bits.{nan_bits_is, to_bits-of_bits}
use lib.Ieee.Scale.{finite}
use Rattle.light.specs.declared.power.Coefficients.{Coefficients}
use Rattle.light.specs.declared.power.Patterns.{Patterns}
use Rattle.light.specs.Power.{all_finite, counted, finite_pattern, float, horner_from, horner_of, later, passed, step, values_of}

-- ---- bit patterns

odd_finite : (d : ℕ) (s : Bool) (q k l : ℕ) → finite (odd d s q k l) ≡ true
unfolding odd
odd_finite d s zero k l = refl
odd_finite d s (suc q) k l = refl

fields_finite : (s : Bool) (x t : ℕ) → finite (of_fields binary32 s x t) ≡ not (eqb x 255)
unfolding of_fields
fields_finite s zero t = odd_finite 24 s t 0 149
fields_finite s (suc x) t = go (eqb (suc x) 255) (eqb t 0)
  where
    go : (b c : Bool) → finite (cond b (cond c (inf s) nan) (odd 24 s (8388608 + t) x 149)) ≡ not b
    go true true = refl
    go true false = refl
    go false c = odd_finite 24 s (8388608 + t) x 149

exponent : (bits : ℕ) → bits / 2 ^ 23 % 256 ≡ bits % 2 ^ 31 / 2 ^ 23
exponent bits = omega arith

-- a pattern's float is finite exactly where the exponent is not all ones
pub pattern_finite : (bits : ℕ) → finite_pattern bits ≡ finite (float bits)
unfolding of_bits
pattern_finite bits = ap (λ x. not (eqb x 255)) (exponent bits) ∙ sym (fields_finite (leb (2 ^ 31) bits) (bits % 2 ^ 31 / 2 ^ 23) (bits % 2 ^ 23))

finite_no_nan : (x : Float) → finite x ≡ true → T (not (is_nan x))
unfolding is_nan
finite_no_nan nan h = absurd (true≢false (sym h))
finite_no_nan (inf s) h = tt
finite_no_nan (fin s m e) h = tt

pub pattern_no_nan : (bits : ℕ) → finite_pattern bits ≡ true → T (not (nan_bits binary32 bits))
pattern_no_nan bits h = rw (nan_bits_is binary32 bits) (finite_no_nan (float bits) (sym (pattern_finite bits) ∙ h))

-- nothing of a pattern is lost
pub pattern_back : (bits : ℕ) → bits < 2 ^ 32 → finite_pattern bits ≡ true → to_bits binary32 (float bits) ≡ bits
pattern_back bits b h = to_bits-of_bits binary32 bits b (finite_no_nan (float bits) (sym (pattern_finite bits) ∙ h))

each : (a b c d e : Bool) → (a && b && c && d && e) ≡ true → (a ≡ true) × (b ≡ true) × (c ≡ true) × (d ≡ true) × (e ≡ true)
each true true true true e h = (refl, refl, refl, refl, h)
each true true true false e h = absurd (true≢false (sym h))
each true true false d e h = absurd (true≢false (sym h))
each true false c d e h = absurd (true≢false (sym h))
each false b c d e h = absurd (true≢false (sym h))

pub each_finite : (p : Patterns) → all_finite p ≡ true
    → (finite_pattern p.c4 ≡ true) × (finite_pattern p.c3 ≡ true) × (finite_pattern p.c2 ≡ true) × (finite_pattern p.c1 ≡ true) × (finite_pattern p.c0 ≡ true)
each_finite p = each (finite_pattern p.c4) (finite_pattern p.c3) (finite_pattern p.c2) (finite_pattern p.c1) (finite_pattern p.c0)

-- ---- values, beside the infinities

pub below_infinity : (x : Float) → lt (inf true) x ≡ true → lt x (inf false) ≡ finite x
unfolding lt
below_infinity nan h = refl
below_infinity (inf true) h = sym h
below_infinity (inf false) h = refl
below_infinity (fin s m e) h = refl

pub not_above : (x : Float) → lt (inf true) x ≡ false → false ≡ finite x
unfolding lt
not_above nan h = refl
not_above (inf s) h = refl
not_above (fin s m e) h = sym h

-- ---- no value that is not finite becomes finite again

mul_keeps : (f : Format) (x y : Float) → T (finite (mul f x y)) → T (finite x)
unfolding mul
mul_keeps f nan y h = h
mul_keeps f (inf s) nan h = h
mul_keeps f (inf s) (inf t) h = h
mul_keeps f (inf s) (fin t n d) h = neither (eqb n 0) (unlike s t) h
  where
    neither : (b u : Bool) → T (finite (cond b nan (inf u))) → ⊥
    neither true u k = k
    neither false u k = k
mul_keeps f (fin s m e) y h = tt

add_keeps : (f : Format) (x y : Float) → T (finite (add f x y)) → T (finite x)
unfolding add
add_keeps f nan y h = h
add_keeps f (inf s) nan h = h
add_keeps f (inf s) (inf t) h = neither (beq s t) h
  where
    neither : (b : Bool) → T (finite (cond b (inf s) nan)) → ⊥
    neither true k = k
    neither false k = k
add_keeps f (inf s) (fin t n d) h = h
add_keeps f (fin s m e) y h = tt

step_keeps : (x y c : Float) → T (finite (step x y c)) → T (finite (mul binary32 y x))
step_keeps x y c h = add_keeps binary32 (mul binary32 y x) c h

start_finite : (x y : Float) (l : List Float) → T (finite (horner_from x y l)) → T (finite y)
unfolding horner_from
start_finite x y [] h = h
start_finite x y (c ∷ l) h = mul_keeps binary32 y x (step_keeps x y c (start_finite x (step x y c) l h))

passed_finite : (x y : Float) (l : List Float) → T (finite (horner_from x y l)) → (v : Float) → Memᴰ v (passed x y l) → T (finite v)
unfolding horner_from passed
passed_finite x y [] h v m = rw (Memᴰ.eq_of_singleton m) h
passed_finite x y (c ∷ l) h v m = first (passed_finite x (step x y c) l h v) (Memᴰ.cases_cons m)
  where
    second : (Memᴰ v (passed x (step x y c) l) → T (finite v)) → (v ≡ mul binary32 y x) ⊎ Memᴰ v (passed x (step x y c) l) → T (finite v)
    second after (inl e) = rw e (step_keeps x y c (start_finite x (step x y c) l h))
    second after (inr k) = after k

    first : (Memᴰ v (passed x (step x y c) l) → T (finite v)) → (v ≡ y) ⊎ Memᴰ v (mul binary32 y x ∷ passed x (step x y c) l) → T (finite v)
    first after (inl e) = rw e (start_finite x y (c ∷ l) h)
    first after (inr k) = second after (Memᴰ.cases_cons k)

-- where the power is finite, so is every value on the way to it: the power alone is tested
pub values_finite : (c : Coefficients) (count : ℕ) → T (finite (horner_of c count)) → (v : Float) → Memᴰ v (values_of c count) → T (finite v)
unfolding horner_of values_of
values_finite c count h v m = passed_finite (counted count) c.c4 (later c) h v m
