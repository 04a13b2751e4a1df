-- Bit k of a word: what setting and clearing bits does to it, over the position and the words.
use Prim.Native.Nat.{ℕ, ◌+◌, ◌*◌, ◌-◌, ◌/◌, ◌%◌, ◌^◌, ◌<◌, suc, zero, min, max}
use mathlib.Core.Path.{◌≡◌, refl, ap, ◌∙◌, sym}
use mathlib.Core.Bool.{true, not, ◌&&◌, ◌||◌}
use mathlib.Core.Logic.{◌⊎◌, inl, inr}
use native.Mathlib.Nat.{pow-succ', div-div-eq-div-mul, zero-mul}
use native.Mathlib.Omega.{arith}
use lib.Bits.{bit_and, bit_or, and_shr, or_shr, and_mod, or_mod, and_high, and_zero_r}
use lib.Dec.{eqb}
use lib.Pow.{pow_pos, pow-add}
use borrow.Author.Tests.{ne_eqb}
use Rattle.hardware.specs.Registers.{not32, none_of}
use Rattle.wire.specs.Bits.{OneBit, absent, at}

-- bit k of x, as a number
abbrev pub bit : ℕ → ℕ → ℕ
bit k x = x / 2 ^ k % 2

pub bit_two : (k x : ℕ) → (bit k x ≡ 0) ⊎ (bit k x ≡ 1)
bit_two k x = go (bit k x) refl (omega arith)
  where
    go : (m : ℕ) → bit k x ≡ m → m < 2 → (bit k x ≡ 0) ⊎ (bit k x ≡ 1)
    go zero e h = inl e
    go (suc zero) e h = inr e
    go (suc (suc m)) e h = absurd (omega arith)

or_two : (a b : ℕ) → (a ≡ 0) ⊎ (a ≡ 1) → (b ≡ 0) ⊎ (b ≡ 1) → bit_or a b ≡ max a b
or_two a b (inl p) (inl q) = rw (p, q)
or_two a b (inl p) (inr q) = rw (p, q)
or_two a b (inr p) (inl q) = rw (p, q)
or_two a b (inr p) (inr q) = rw (p, q)

and_two : (a b : ℕ) → (a ≡ 0) ⊎ (a ≡ 1) → (b ≡ 0) ⊎ (b ≡ 1) → bit_and a b ≡ min a b
and_two a b (inl p) (inl q) = rw (p, q)
and_two a b (inl p) (inr q) = rw (p, q)
and_two a b (inr p) (inl q) = rw (p, q)
and_two a b (inr p) (inr q) = rw (p, q)

pub bit_or_lem : (k x y : ℕ) → bit k (bit_or x y) ≡ max (bit k x) (bit k y)
bit_or_lem k x y = ap (λ n. n % 2) (or_shr x y k) ∙ or_mod (x / 2 ^ k) (y / 2 ^ k) 1 ∙ or_two _ _ (bit_two k x) (bit_two k y)

pub bit_and_lem : (k x y : ℕ) → bit k (bit_and x y) ≡ min (bit k x) (bit k y)
bit_and_lem k x y = ap (λ n. n % 2) (and_shr x y k) ∙ and_mod (x / 2 ^ k) (y / 2 ^ k) 1 ∙ and_two _ _ (bit_two k x) (bit_two k y)

pub bit_suc : (k x : ℕ) → bit (suc k) x ≡ bit k (x / 2)
bit_suc k x = ap (λ n. n % 2) (ap (λ n. x / n) (pow-succ' 2 k) ∙ sym (div-div-eq-div-mul x 2 (2 ^ k)))

-- in n bits
flip : (k n x : ℕ) → k < n → x < 2 ^ n → bit k (2 ^ n - 1 - x) ≡ 1 - bit k x
flip k zero x h b = absurd (omega arith)
flip zero (suc n) x h b = low (2 ^ suc n) (2 ^ n) (pow-succ' 2 n) b
  where
    low : (a c : ℕ) → a ≡ 2 * c → x < a → (a - 1 - x) / 1 % 2 ≡ 1 - x / 1 % 2
    low a c e b = omega arith
flip (suc k) (suc n) x h b =
    bit_suc k (2 ^ suc n - 1 - x) ∙ ap (bit k) (half (2 ^ suc n) (2 ^ n) (pow-succ' 2 n) b) ∙ flip k n (x / 2) (omega arith) (less (2 ^ suc n) (2 ^ n) (pow-succ' 2 n) b)
    ∙ ap (λ t. 1 - t) (sym (bit_suc k x))
  where
    half : (a c : ℕ) → a ≡ 2 * c → x < a → (a - 1 - x) / 2 ≡ c - 1 - x / 2
    half a c e b = omega arith

    less : (a c : ℕ) → a ≡ 2 * c → x < a → x / 2 < c
    less a c e b = omega arith

pub bit_not : (k x : ℕ) → k < 32 → x < 2 ^ 32 → bit k (not32 x) ≡ 1 - bit k x
bit_not k x h b = flip k 32 x h b

pub none_zero : (w : ℕ) → none_of w 0 ≡ true
unfolding none_of
none_zero w = rw (and_zero_r w)

one_more : (k : ℕ) → 2 ^ (1 + k) - 2 ^ k ≡ 2 ^ k
one_more k = twice (2 ^ (1 + k)) (2 ^ k) (pow-add 2 1 k)
  where
    twice : (a c : ℕ) → a ≡ 2 * c → a - c ≡ c
    twice a c e = omega arith

and_one : (w k : ℕ) → bit_and w (2 ^ k) ≡ bit k w * 2 ^ k
and_one w k = ap (bit_and w) (sym (one_more k)) ∙ and_high w 1 k

pub none_bit : (w k : ℕ) → none_of w (2 ^ k) ≡ eqb (bit k w) 0
unfolding none_of
none_bit w k = ap (λ t. eqb t 0) (and_one w k) ∙ by (bit k w) (bit_two k w)
  where
    by : (b : ℕ) → (b ≡ 0) ⊎ (b ≡ 1) → eqb (b * 2 ^ k) 0 ≡ eqb b 0
    by b (inl e) = rw e (ap (λ t. eqb t 0) (zero-mul (2 ^ k)))
    by b (inr e) = rw e (ne_eqb (1 * 2 ^ k) 0 (λ z. omega (arith, z, pow_pos k)))

-- the bits of m are set in w, or cleared: what that does to n's
pub none_set : {n : ℕ} (w m : ℕ) → OneBit n → none_of (bit_or w m) n ≡ (none_of m n && none_of w n)
none_set w m absent = none_zero (bit_or w m) ∙ rw (none_zero m, none_zero w)
none_set w m (at k h) = rw (none_bit (bit_or w m) k, none_bit m k, none_bit w k, bit_or_lem k w m) (by _ _ (bit_two k w) (bit_two k m))
  where
    by : (a b : ℕ) → (a ≡ 0) ⊎ (a ≡ 1) → (b ≡ 0) ⊎ (b ≡ 1) → eqb (max a b) 0 ≡ (eqb b 0 && eqb a 0)
    by a b (inl p) (inl q) = rw (p, q)
    by a b (inl p) (inr q) = rw (p, q)
    by a b (inr p) (inl q) = rw (p, q)
    by a b (inr p) (inr q) = rw (p, q)

pub none_clear : {n : ℕ} (w m : ℕ) → m < 2 ^ 32 → OneBit n → none_of (bit_and w (not32 m)) n ≡ (not (none_of m n) || none_of w n)
none_clear w m b absent = none_zero (bit_and w (not32 m)) ∙ rw (none_zero m, none_zero w)
none_clear w m b (at k h) =
    rw (none_bit (bit_and w (not32 m)) k, none_bit m k, none_bit w k, bit_and_lem k w (not32 m), bit_not k m h b) (by _ _ (bit_two k w) (bit_two k m))
  where
    by : (a b : ℕ) → (a ≡ 0) ⊎ (a ≡ 1) → (b ≡ 0) ⊎ (b ≡ 1) → eqb (min a (1 - b)) 0 ≡ (not (eqb b 0) || eqb a 0)
    by a b (inl p) (inl q) = rw (p, q)
    by a b (inl p) (inr q) = rw (p, q)
    by a b (inr p) (inl q) = rw (p, q)
    by a b (inr p) (inr q) = rw (p, q)
