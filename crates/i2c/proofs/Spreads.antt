-- What spreads (`hardware/proofs/Spreads.antt`) holds of the wait for the grant as well.
use Prim.Native.Nat.{ℕ, suc, zero}
use mathlib.Core.Bool.{Bool}
use Rattle.hardware.specs.declared.Access.{Access}
use Rattle.hardware.specs.declared.Access.TheVariants.{Read}
use Rattle.hardware.specs.Prog.{Prog, R}
use Rattle.hardware.specs.Registers.{ESDP}
use Rattle.hardware.proofs.Spreads.{Spreads, Passes, try_holds, pick_holds, one_holds}
use Rattle.i2c.specs.I2c.{granting, granted}

pub granted_holds : (P : (A : Type 0) → Prog A → Type 0) (May : Access → Type 0) → Spreads P May → Passes May → May (Read ESDP) → (n : ℕ) → P (R Bool) (granted n)
unfolding granted granting
granted_holds P May s o m zero = s.lapses _ _ (s.ends _ _)
granted_holds P May s o m (suc n) =
    try_holds P May s _ _ (one_holds P May s _ _ m)
    (λ v. pick_holds P May s _ _ _ (try_holds P May s _ _ (one_holds P May s _ _ (o.waits _)) (λ _. granted_holds P May s o m n)) (s.ends _ _))
