-- Sizes of files.
use Rattle.std.proofs.Common.{ℕ, Result, Err, arith}
use Rattle.std.specs.declared.io.Error.{Error}
use Rattle.image.specs.declared.files.Unfit.{Unfit}
use Rattle.image.specs.declared.files.Unfit.TheVariants.{Short, Long, Unread}
use Rattle.image.specs.Size.{SizeOf, Told}

-- what is read off a size
pub told : (count : ℕ) (past : Result ℕ Error) (u : Unfit) → SizeOf count past (Err u) → Told u
told count past (Short n) h = omega arith
told count past Long h = tt
told count past (Unread e) h = tt
