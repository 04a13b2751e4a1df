-- With Rx_PWR(1) = 1 and the other coefficients +0 the power is the raw count.
use Prim.Native.Nat.{ℕ, ◌+◌, ◌*◌, ◌≤◌, ◌<◌, ◌^◌}
use mathlib.Core.Path.{◌≡◌, refl, sym, ap, ◌∙◌}
use mathlib.Core.Bool.{true, false, true≢false}
use mathlib.Core.List.{[], ◌∷◌}
use native.Mathlib.Nat.{zero-mul, one-mul, mul-one, add-zero}
use lib.Dec.{lit<, lit≤}
use lib.IntN.{ℤ, pos}
use lib.Ieee.{Float, nan, inf, fin, binary32, up, down, add, mul, sum, round, of_bits, of_int}
use lib.Ieee.Back.{round_whole}
use lib.Ieee.Exact.{HasValue}
use lib.Ieee.Fits.{down_pos}
use lib.Ieee.Scale.{finite, round_same}
use Rattle.hardware.specs.Prog.{Ok, pick}
use Rattle.light.specs.declared.power.Patterns.{Patterns}
use Rattle.light.specs.Power.{coefficients_of, counted, horner_from, horner_of, judged, power_of, step}

-- the patterns of +0, +0, +0, 1 and +0
abbrev pub straight : Patterns
straight = record { c4 = 0; c3 = 0; c2 = 0; c1 = 0x3f80_0000; c0 = 0 }

abbrev pub plus_zero : Float
plus_zero = fin false 0 (pos 0)

abbrev one : Float
one = fin false 1 (pos 0)

-- the float of a count is the count, as that of every whole number up to 2 ^ 24 is
pub count_exact : (count : ℕ) → count ≤ 2 ^ 24 → HasValue (counted count) false count 1
unfolding of_int
count_exact count h = round_whole binary32 false count h

-- the arithmetic at a value m * 2 ^ e that is the whole number n, written x
module _ (m : ℕ) (e : ℤ) (n : ℕ) (value : m * up e * 1 ≡ n * down e) where
  abbrev x : Float
  x = fin false m e

  times_pos : 0 < 1 * down e
  times_pos = rw one-mul (down_pos e)

  zero_times : mul binary32 plus_zero x ≡ plus_zero
  unfolding mul round
  zero_times = round_same binary32 false (0 * (m * up e)) (1 * down e) 0 1 times_pos (lit< tt) (simp zero-mul)

  one_times : mul binary32 one x ≡ counted n
  unfolding mul of_int
  one_times = round_same binary32 false (1 * (m * up e)) (1 * down e) n 1 times_pos (lit< tt) (simp one-mul value)

  plus_zero_lem : add binary32 x plus_zero ≡ counted n
  unfolding add sum of_int
  plus_zero_lem = round_same binary32 false (m * up e * 1 + 0 * down e) (down e * 1) n 1 (rw mul-one (down_pos e)) (lit< tt) (simp (zero-mul, add-zero, mul-one) (simp mul-one at value))

  -- a step from +0 stays there, the step to 1 reaches it, and the last step is times 1 and plus +0
  zero_stays : step x plus_zero plus_zero ≡ plus_zero
  unfolding add sum round
  zero_stays = ap (λ y. add binary32 y plus_zero) zero_times

  one_reached : step x plus_zero one ≡ one
  unfolding add sum round
  one_reached = ap (λ y. add binary32 y one) zero_times

  one_last : x ≡ counted n → step x one plus_zero ≡ counted n
  one_last is = ap (λ y. add binary32 y plus_zero) (one_times ∙ sym is) ∙ plus_zero_lem

  rule : x ≡ counted n → horner_from x plus_zero (plus_zero ∷ plus_zero ∷ one ∷ plus_zero ∷ []) ≡ counted n
  unfolding horner_from
  rule is = simp (zero_stays, one_reached) (one_last is)

straight_is : (x : Float) (n : ℕ) → x ≡ counted n → HasValue x false n 1 → horner_from x plus_zero (plus_zero ∷ plus_zero ∷ one ∷ plus_zero ∷ []) ≡ counted n
straight_is nan n is h = absurd h
straight_is (inf s) n is h = absurd h
straight_is (fin true m e) n is h = absurd (true≢false h.0)
straight_is (fin false m e) n is h = rule m e n h.1 is

value_finite : (x : Float) (n : ℕ) → HasValue x false n 1 → finite x ≡ true
value_finite nan n h = absurd h
value_finite (inf s) n h = absurd h
value_finite (fin s m e) n h = refl

module _ (count : ℕ) (small : count ≤ 2 ^ 24) where
  pub horner_straight : horner_of (coefficients_of straight) count ≡ counted count
  unfolding horner_of of_bits
  horner_straight = straight_is (counted count) count refl (count_exact count small)

  pub power_straight : power_of straight count ≡ Ok (counted count)
  unfolding power_of pick judged
  power_straight = rw (horner_straight, value_finite (counted count) count (count_exact count small))

-- the count 0 gives +0
pub zero_straight : horner_of (coefficients_of straight) 0 ≡ plus_zero
unfolding of_int round
zero_straight = horner_straight 0 (lit≤ tt)
