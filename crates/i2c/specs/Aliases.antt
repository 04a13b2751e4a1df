-- The code's names for what follows an answer and for what a call tells.
use Rattle.hardware.specs.declared.Next.{Next}
use Rattle.hardware.specs.declared.Marks.{Marks}
use Rattle.i2c.specs.declared.retry.Retry.{Retry}
use Rattle.std.specs.Prelude.{Result, ℕ, Option}
use Rattle.bus.specs.declared.Taken.{Taken}
use Rattle.hardware.specs.declared.Error.{Error}
use Rattle.i2c.specs.declared.handshake.Handshake.{Handshake}
use Rattle.hardware.specs.declared.Told.{Told}
use Rattle.hardware.specs.declared.Refusal.{Refusal}
use Rattle.hardware.specs.declared.Meter.{Meter}
use Rattle.hardware.specs.declared.Port.{Port}
use Rattle.i2c.specs.declared.once.Request.{Request}
use Rattle.i2c.specs.declared.How.{How}
use Rattle.hardware.specs.declared.Update.{Update}

abbrev pub RetryNext : Type 0
RetryNext = Next (Marks × Retry) (Result Taken Error)

abbrev pub HandshakeNext : Type 0
HandshakeNext = Next (Marks × Handshake) (Result Taken Error)

abbrev pub SetupCall : Type 0
SetupCall = Option Update

abbrev pub SetupTold : Type 0
SetupTold = Result (Told SetupCall (Result (Unit {0}) Error)) Refusal

abbrev pub TransferCall : Type 0
TransferCall = Option (Port × Request × How × Meter × Handshake)

abbrev pub TransferTold : Type 0
TransferTold = Result (Told TransferCall (Result ℕ Error × Meter)) Refusal
