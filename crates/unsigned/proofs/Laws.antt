-- Laws of a number of 16 bits with 32,768 added, and of a float that equals itself.
use Prim.Native.Nat.{suc}
use mathlib.Core.Path.{◌≡◌, sym, ◌∙◌}
use mathlib.Core.Bool.{not, true, true≢false}
use native.Mathlib.Omega.{arith}
use lib.Dec.{T}
use lib.IntN.{ℤ, pos, negsuc, nat_abs, ◌+ℤ◌}
use lib.Signed.{non_neg, pos-nat_abs}
use lib.Ieee.{Float, nan, inf, fin, is_nan, eq}
use mir.Syntax.{w16, w32}
use mir.Val.{SFits, Fits, to_z, of_z}
use mir.Facts.{to_z-of_z, sfits_widen, Fits-nat_abs}
use borrow.Author.Tests.{le-ltb}

module _ (z : ℤ) (h : SFits w16 z) where
  pub wide : SFits w32 (to_z w16 (of_z w16 z))
  wide = rw (to_z-of_z {w = w16} h) (sfits_widen {w = w16} {w' = w32} tt h)

  read : to_z w32 (of_z w32 (to_z w16 (of_z w16 z))) ≡ z
  read = to_z-of_z {w = w32} wide ∙ to_z-of_z {w = w16} h

  up : (y : ℤ) → SFits w16 y → T (non_neg (y +ℤ pos 32768)) × SFits w32 (y +ℤ pos 32768)
  up (pos n) k = (tt, record { sfits = omega (arith, k.sfits) })
  up (negsuc n) k = rw (le-ltb 32768 (suc n) k.sfits) (tt, record { sfits = omega arith })

  pub raised_fits : SFits w32 (to_z w32 (of_z w32 (to_z w16 (of_z w16 z))) +ℤ pos 32768)
  raised_fits = rw read (up z h).1

  pub raised_up : T (non_neg (to_z w32 (of_z w32 (to_z w32 (of_z w32 (to_z w16 (of_z w16 z))) +ℤ pos 32768)))) × Fits w32 (nat_abs (to_z w32 (of_z w32 (to_z w32 (of_z w32 (to_z w16 (of_z w16 z))) +ℤ pos 32768))))
  raised_up = rw (to_z-of_z {w = w32} raised_fits) (rw read ((up z h).0, Fits-nat_abs {w = w32} {w' = w32} tt (up z h).1))

  pub raised_is : pos (nat_abs (to_z w32 (of_z w32 (to_z w32 (of_z w32 (to_z w16 (of_z w16 z))) +ℤ pos 32768)))) ≡ z +ℤ pos 32768
  raised_is = rw (to_z-of_z {w = w32} raised_fits) (rw read (pos-nat_abs (z +ℤ pos 32768) (up z h).0))

pub no_nan : (x : Float) → eq x x ≡ true → T (not (is_nan x))
unfolding eq is_nan
no_nan nan h = absurd (true≢false (sym h))
no_nan (inf s) h = tt
no_nan (fin s m e) h = tt
