-- For every count from 1 the greatest k with 10 ^ k at most count ^ 100 exists and is unique, and it never falls as the
-- count rises.
use Prim.Native.Nat.{ℕ, zero, suc, ◌≤◌, ◌<◌, ◌^◌}
use mathlib.Core.Path.{◌≡◌}
use mathlib.Core.Logic.{dite}
use native.Mathlib.Nat.{le_antisymm, le_of_suc-le-suc, le_refl, le_trans, lt_of_le_of_lt, lt_of_not-le, not-le_of_lt, one-le-pow, pow-le-pow_left, pow-le-pow_right, pow-succ'}
use native.Mathlib.Decide.{dec_le}
use native.Mathlib.Omega.{arith}
use lib.Dec.{lit<}
use Rattle.level.specs.Level.{Greatest}

pub ten_pos : (k : ℕ) → 0 < 10 ^ k
ten_pos k = one-le-pow k 10 (lit< tt)

pub lower : {i j : ℕ} → 10 ^ i < 10 ^ j → i < j
lower p = lt_of_not-le (λ h. not-le_of_lt p (pow-le-pow_right (lit< tt) h))

pub is_greatest : {count k : ℕ} → 10 ^ k ≤ count ^ 100 → count ^ 100 < 10 ^ suc k → Greatest count k
is_greatest r p = record { reached = r; greatest = λ j h. le_of_suc-le-suc (lower (lt_of_le_of_lt h p)) }

pub rises : {c d k l : ℕ} → Greatest c k → Greatest d l → c ≤ d → k ≤ l
rises {k = k} g h le = h.greatest k (le_trans g.reached (pow-le-pow_left le 100))

pub unique : {count k l : ℕ} → Greatest count k → Greatest count l → k ≡ l
unique {count} g h = le_antisymm (rises g h (le_refl count)) (rises h g (le_refl count))

pub of_one : {count : ℕ} → 1 ≤ count → 10 ^ 0 ≤ count ^ 100
of_one {count} h = one-le-pow 100 count h

high : (n : ℕ) → n < 10 ^ n
high zero = lit< tt
high (suc n) = omega (arith, high n, pow-succ' 10 n)

module _ (count : ℕ) (some : 1 ≤ count) where
  below : (n : ℕ) → count ^ 100 < 10 ^ n → (k : ℕ) × Greatest count k
  below zero h = absurd (not-le_of_lt h (of_one some))
  below (suc n) h = dite (dec_le (10 ^ n) (count ^ 100)) (λ r. (n, is_greatest r h)) (λ f. below n (lt_of_not-le f))

  pub exists : (k : ℕ) × Greatest count k
  exists = below (count ^ 100) (high (count ^ 100))

-- for a count of 16 bits it is at most 481, the table's last place
pub top : {count : ℕ} → count < 65536 → count ^ 100 < 10 ^ 482
top h = lt_of_le_of_lt (pow-le-pow_left (le_of_suc-le-suc h) 100) (lit< tt)

pub in_table : {count k : ℕ} → Greatest count k → count < 65536 → k < 482
in_table g h = lower (lt_of_le_of_lt g.reached (top h))
