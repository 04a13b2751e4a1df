-- Eight bits, the highest first, make up the byte.
use Prim.Native.Nat.{ℕ, ◌+◌, ◌*◌, ◌/◌, ◌%◌, ◌^◌, ◌<◌, suc, zero}
use mathlib.Core.Path.{◌≡◌, ap, ◌∙◌, sym}
use mathlib.Core.Bool.{Bool, true, false}
use mathlib.Core.Logic.{◌⊎◌, inl, inr}
use native.Mathlib.Nat.{pow-succ', div-div-eq-div-mul, div-le_self}
use native.Mathlib.Omega.{arith}
use lib.Bits.{and_high}
use lib.Dec.{eqb}
use Rattle.hardware.specs.Prog.{pick}
use Rattle.bus.specs.Bus.{bit_of, shifted}
use Rattle.bench.specs.Receiver.{taken}
use Rattle.wire.proofs.Bits.{bit_two}

-- the bits below n of a byte are taken, the highest first
unfoldable pub took_bits : ℕ → ℕ → ℕ → ℕ
took_bits zero byte bits = bits
took_bits (suc n) byte bits = took_bits n byte (taken bits (bit_of byte n))

-- the driver shifts in what it reads as the receiver does
pub shifted_taken : (byte : ℕ) (bit : Bool) → shifted byte bit ≡ taken byte bit
unfolding shifted taken pick
shifted_taken byte true = ap (λ t. t + 1) (and_high (byte * 2) 7 1) ∙ omega arith
shifted_taken byte false = and_high (byte * 2) 7 1 ∙ omega arith

-- a bit as a number
bit_number : (x n : ℕ) → pick (bit_of x n) 1 0 ≡ x / 2 ^ n % 2
unfolding bit_of pick
bit_number x n = by (x / 2 ^ n % 2) (bit_two n x)
  where
    by : (b : ℕ) → (b ≡ 0) ⊎ (b ≡ 1) → pick (eqb b 1) 1 0 ≡ b
    by b (inl e) = rw e
    by b (inr e) = rw e

-- with the bits from n + 1 on, bit n gives those from n on
next_bit : (byte n : ℕ) → byte < 256 → taken (byte / 2 ^ suc n) (bit_of byte n) ≡ byte / 2 ^ n
unfolding taken
next_bit byte n h = ap (λ t. byte / 2 ^ suc n % 128 * 2 + t) (bit_number byte n) ∙ ap (λ t. t % 128 * 2 + byte / 2 ^ n % 2) half ∙ small (byte / 2 ^ n) below
  where
    half : byte / 2 ^ suc n ≡ byte / 2 ^ n / 2
    half = ap (λ t. byte / t) (pow-succ' 2 n ∙ swap (2 ^ n)) ∙ sym (div-div-eq-div-mul byte (2 ^ n) 2)
      where
        swap : (a : ℕ) → 2 * a ≡ a * 2
        swap a = omega arith

    below : byte / 2 ^ n < 256
    below = omega (arith, div-le_self byte (2 ^ n), h)

    small : (x : ℕ) → x < 256 → x / 2 % 128 * 2 + x % 2 ≡ x
    small x b = omega arith

took_all : (n byte : ℕ) → byte < 256 → took_bits n byte (byte / 2 ^ n) ≡ byte
unfolding took_bits
took_all zero byte h = omega arith
took_all (suc n) byte h = ap (took_bits n byte) (next_bit byte n h) ∙ took_all n byte h

-- eight bits sent are the byte taken
pub byte_taken_lem : (byte : ℕ) → byte < 256 → took_bits 8 byte 0 ≡ byte
byte_taken_lem byte h = ap (took_bits 8 byte) none ∙ took_all 8 byte h
  where
    none : 0 ≡ byte / 256
    none = omega arith
