-- The temperature is the two's complement reading of its two bytes.
use Prim.Native.Nat.{ℕ, zero, suc, ◌-◌, ◌<◌, ◌≤◌, ◌^◌}
use mathlib.Core.Path.{◌≡◌, refl, ap, ◌∙◌}
use mathlib.Core.Bool.{Bool, true, false}
use native.Mathlib.Nat.{zero-add}
use native.Mathlib.Omega.{arith}
use lib.Dec.{ltb}
use lib.IntN.{ℤ, pos, negsuc, ◌-ℤ◌}
use mir.Syntax.{w16}
use mir.Val.{SFits, to_z, of_z, sel}
use mir.Facts.{of_z-to_z, sfits_to_z, to_z-of_z, to_z_pos}
use borrow.Author.Tests.{lt-ltb}
use Rattle.hardware.specs.Prog.{pick}
use Rattle.light.specs.Words.{signed, temperature_of, word_of}

pub signed_is : (w : ℕ) → w < 65536 → signed w ≡ to_z w16 w
unfolding signed pick
signed_is w h = rw (lt-ltb w 65536 h) (go (ltb w 0x8000))
  where
    go : (b : Bool) → pick b (pos w) (negsuc (65536 - suc w)) ≡ sel b (pos w) (negsuc (65536 - suc w))
    go true = refl
    go false = refl

signed_fits : (w : ℕ) → w < 65536 → SFits w16 (signed w)
signed_fits w h = rw (signed_is w h) (sfits_to_z {w = w16} (record { fits = h }))

-- it is held in 16 bits
pub signed_held : (w : ℕ) (z : ℤ) → w < 65536 → z ≡ signed w → to_z w16 (of_z w16 z) ≡ signed w
signed_held w z h e = rw e (to_z-of_z {w = w16} (signed_fits w h))

below : (high low : ℕ) → high < 256 → low < 256 → word_of high low < 65536
below high low h l = omega arith

-- as the logic itself reads 16 bits
pub temperature_is : (high low : ℕ) → high < 256 → low < 256 → temperature_of high low ≡ to_z w16 (word_of high low)
temperature_is high low h l = signed_is (word_of high low) (below high low h l)

-- the bits of the temperature are the two bytes, and it is a number of 16 bits
pub temperature_bits : (high low : ℕ) → high < 256 → low < 256 → of_z w16 (temperature_of high low) ≡ word_of high low
temperature_bits high low h l = ap (of_z w16) (temperature_is high low h l) ∙ of_z-to_z {w = w16} (record { fits = below high low h l })

pub temperature_fits : (high low : ℕ) → high < 256 → low < 256 → SFits w16 (temperature_of high low)
temperature_fits high low h l = signed_fits (word_of high low) (below high low h l)

-- -32768 and -1: -128 degrees and 1/256 degree below zero
pub temperature_8000 : temperature_of 0x80 0x00 ≡ negsuc 32767
unfolding signed pick
temperature_8000 = refl

pub temperature_ffff : temperature_of 0xff 0xff ≡ negsuc 0
unfolding signed pick
temperature_ffff = refl

-- ---- the code takes the complement from -1

less : (k : ℕ) → negsuc 0 -ℤ pos k ≡ negsuc k
less zero = refl
less (suc k) = ap (λ n. negsuc (suc n)) (zero-add k)

module _ (w : ℕ) (high : 32768 ≤ w) (low : w < 65536) where
  small : 65535 - w < 2 ^ 15
  small = omega arith

  turned : negsuc 0 -ℤ to_z w16 (65535 - w) ≡ negsuc (65535 - w)
  turned = ap (λ z. negsuc 0 -ℤ z) (to_z_pos w16 small) ∙ less (65535 - w)

  pub turned_fits : SFits w16 (negsuc 0 -ℤ to_z w16 (65535 - w))
  turned_fits = rw turned (record { sfits = small })

  pub turned_bits : of_z w16 (negsuc 0 -ℤ to_z w16 (65535 - w)) ≡ w
  turned_bits = ap (of_z w16) turned ∙ omega arith
