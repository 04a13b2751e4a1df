-- The code's names for what follows an answer and for what a call tells.
use Rattle.transfer.specs.declared.transfer.Handing.{Handing}
use Rattle.transfer.specs.declared.transfer.Transfer.{Transfer}
use Rattle.std.specs.Prelude.{ℕ, Result, Option}
use Rattle.bus.specs.declared.Taken.{Taken}
use Rattle.hardware.specs.declared.Error.{Error}
use Rattle.transfer.specs.declared.attempt.Attempt.{Attempt}
use Rattle.transfer.specs.declared.calls.Said.{Said}
use Rattle.hardware.specs.declared.Refusal.{Refusal}
use Rattle.hardware.specs.declared.Port.{Port}
use Rattle.hardware.specs.declared.Meter.{Meter}

abbrev pub TransferNext : Type 0
TransferNext = Handing Transfer (ℕ × Taken × Result (Unit {0}) Error)

abbrev pub AttemptNext : Type 0
AttemptNext = Handing Attempt (Result Taken Error)

abbrev pub ScriptCall : Type 0
ScriptCall = Option (Port × Meter × Attempt)

abbrev pub ScriptTold : Type 0
ScriptTold = Result Said Refusal
