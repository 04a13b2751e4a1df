-- The code's names for what follows an answer and for what a call tells.
use Rattle.hardware.specs.declared.Next.{Next}
use Rattle.sync.specs.declared.swesmbi.Swesmbi.{Swesmbi}
use Rattle.std.specs.Prelude.{Result, Bool, Option}
use Rattle.hardware.specs.declared.Error.{Error}
use Rattle.sync.specs.declared.lock.Lock.{Lock}
use Rattle.sync.specs.declared.unlock.Unlock.{Unlock}
use Rattle.sync.specs.declared.acquire_bits.AcquireBits.{AcquireBits}
use Rattle.sync.specs.declared.release_bits.ReleaseBits.{ReleaseBits}
use Rattle.hardware.specs.declared.Told.{Told}
use Rattle.hardware.specs.declared.Refusal.{Refusal}
use Rattle.hardware.specs.declared.Family.{Family}

abbrev pub SwesmbiNext : Type 0
SwesmbiNext = Next Swesmbi (Result Bool Error)

abbrev pub LockNext : Type 0
LockNext = Next Lock (Result (Unit {0}) Error)

abbrev pub UnlockNext : Type 0
UnlockNext = Next Unlock (Result (Unit {0}) Error)

abbrev pub AcquireBitsNext : Type 0
AcquireBitsNext = Next AcquireBits (Result (Unit {0}) Error)

abbrev pub ReleaseBitsNext : Type 0
ReleaseBitsNext = Next ReleaseBits (Result (Unit {0}) Error)

abbrev pub LockCall : Type 0
LockCall = Option (Family × Lock)

abbrev pub LockTold : Type 0
LockTold = Result (Told LockCall (Result (Unit {0}) Error)) Refusal

abbrev pub UnlockCall : Type 0
UnlockCall = Option (Family × Unlock)

abbrev pub UnlockTold : Type 0
UnlockTold = Result (Told UnlockCall (Result (Unit {0}) Error)) Refusal
