-- The code's names for what follows an answer and for what a call tells.
use Rattle.hardware.specs.declared.Next.{Next}
use Rattle.hostif.specs.declared.request.Request.{Request}
use Rattle.std.specs.Prelude.{Result, ℕ, Bool, Option}
use Rattle.hardware.specs.declared.Error.{Error}
use Rattle.hostif.specs.declared.response.Response.{Response}
use Rattle.hostif.specs.declared.command.Command.{Command}
use Rattle.hostif.specs.declared.token.Token.{Token}
use Rattle.hardware.specs.declared.Told.{Told}
use Rattle.hardware.specs.declared.Refusal.{Refusal}
use Rattle.hardware.specs.declared.Port.{Port}

abbrev pub RequestNext : Type 0
RequestNext = Next Request (Result ℕ Error)

abbrev pub ResponseNext : Type 0
ResponseNext = Next Response (Result ℕ Error)

abbrev pub CommandNext : Type 0
CommandNext = Next Command (Result ℕ Error)

abbrev pub TokenNext : Type 0
TokenNext = Next Token (Result Bool Error)

abbrev pub CommandCall : Type 0
CommandCall = Option (Port × Command)

abbrev pub CommandTold : Type 0
CommandTold = Result (Told CommandCall (Result ℕ Error)) Refusal

abbrev pub TokenCall : Type 0
TokenCall = Option (Port × Bool × Token)

abbrev pub TokenTold : Type 0
TokenTold = Result (Told TokenCall (Result Bool Error)) Refusal
