-- The code's names for what follows an answer and for what a call tells.
use Rattle.hardware.specs.declared.Next.{Next}
use Rattle.hardware.specs.declared.Marks.{Marks}
use Rattle.identify.specs.declared.walk.Identify.{Identify}
use Rattle.std.specs.Prelude.{Result, Option}
use Rattle.sfp.specs.declared.Identity.{Identity}
use Rattle.hardware.specs.declared.Error.{Error}
use Rattle.hardware.specs.declared.Told.{Told}
use Rattle.hardware.specs.declared.Meter.{Meter}
use Rattle.hardware.specs.declared.Refusal.{Refusal}
use Rattle.hardware.specs.declared.Port.{Port}
use Rattle.transfer.specs.declared.attempt.Sequence.{Sequence}

abbrev pub IdentifyNext : Type 0
IdentifyNext = Next (Marks × Identify) (Result Identity Error)

abbrev pub IdentifyCall : Type 0
IdentifyCall = Option (Port × Sequence × Meter × Identify)

abbrev pub IdentifyTold : Type 0
IdentifyTold = Result (Told IdentifyCall (Result Identity Error × Meter)) Refusal
