-- The masks of the transfers: none has TOKEN, none is empty, so `acquire` and `release` come down to their bits of
-- SW_FW_SYNC (`hostif/proofs/Plain.antt`).
use Prim.Native.Nat.{ℕ}
use mathlib.Core.Path.{◌≡◌, refl}
use mathlib.Core.Bool.{Bool, true, false}
use lib.Dec.{eqb}
use Rattle.hardware.specs.declared.Port.{Port}
use Rattle.hardware.specs.Prog.{Prog, R, or_err, erase, pick, ◌>>?◌}
use Rattle.hardware.specs.Registers.{none_of}
use Rattle.sync.specs.Regs.{PHY0, PHY1, TOKEN, phy}
use Rattle.sync.specs.Resource.{acquire_bits, release_bits}
use Rattle.hostif.specs.Acquire.{hw_of, acquire, release}
use Rattle.hostif.proofs.Plain.{bits_taken_lem, bits_given}
use Rattle.bus.specs.declared.Taken.{Taken}
use Rattle.bus.specs.Layout.{x550em}
use Rattle.i2c.specs.I2c.{SHARED_I2C, mask}

by_two : (P : ℕ → Type 0) (shared second : Bool) → P SHARED_I2C → P PHY0 → P PHY1 → P (pick shared SHARED_I2C (pick second PHY1 PHY0))
unfolding pick
by_two P true second s a b = s
by_two P false true s a b = b
by_two P false false s a b = a

-- a fact of the three masks holds of every port's
of_masks : (P : ℕ → Type 0) (port : Port) → P SHARED_I2C → P PHY0 → P PHY1 → P (mask port)
unfolding mask phy
of_masks P port = by_two P (x550em port.family) (eqb port.lan 1)

pub mask_plain : (port : Port) → none_of (mask port) TOKEN ≡ true
unfolding none_of
mask_plain port = of_masks (λ m. none_of m TOKEN ≡ true) port refl refl refl

pub mask_bits : (port : Port) → hw_of (mask port) ≡ mask port
unfolding hw_of
mask_bits port = of_masks (λ m. hw_of m ≡ m) port refl refl refl

pub mask_some : (port : Port) → eqb (hw_of (mask port)) 0 ≡ false
unfolding hw_of
mask_some port = of_masks (λ m. eqb (hw_of m) 0 ≡ false) port refl refl refl

-- the bits taken, and then k: what a call is that takes the lock first
pub taken_first : (port : Port) (k : Prog (R Taken))
    → erase (acquire_bits port (mask port) >>? λ _. k) ≡ erase (acquire port (mask port) >>? λ _. k)
taken_first port k = rw (mask_bits port) at (bits_taken_lem port (mask port) (mask_plain port) (or_err (λ _. k)))

-- the bits given back, and then k: what a call is that gives the lock back first
pub given_first : (port : Port) (k : Prog (R Taken))
    → erase (release_bits port (mask port) >>? λ _. k) ≡ erase (release port (mask port) >>? λ _. k)
given_first port k = rw (mask_bits port) at (bits_given port (mask port) (mask_plain port) (mask_some port) (or_err (λ _. k)))
