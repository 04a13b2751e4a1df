-- The code's names for what follows an answer and for what a call tells.
use Rattle.hardware.specs.declared.Next.{Next}
use Rattle.hardware.specs.declared.Marks.{Marks}
use Rattle.softrate.specs.declared.walk.Rate.{Rate}
use Rattle.std.specs.Prelude.{Result, Bool, Option}
use Rattle.hardware.specs.declared.Error.{Error}
use Rattle.hardware.specs.declared.Told.{Told}
use Rattle.hardware.specs.declared.Meter.{Meter}
use Rattle.hardware.specs.declared.Refusal.{Refusal}
use Rattle.hardware.specs.declared.Port.{Port}
use Rattle.transfer.specs.declared.attempt.Sequence.{Sequence}

abbrev pub RateNext : Type 0
RateNext = Next (Marks × Rate) (Result Bool Error)

abbrev pub RateCall : Type 0
RateCall = Option (Port × Sequence × Bool × Meter × Rate)

abbrev pub RateTold : Type 0
RateTold = Result (Told RateCall (Result Bool Error × Meter)) Refusal
