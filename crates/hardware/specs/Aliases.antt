-- The code's names for types of the library or of `Next`.
use Rattle.std.specs.Prelude.{ℕ, Result}
use Rattle.hardware.specs.declared.Error.{Error}
use Rattle.hardware.specs.declared.Next.{Next}
use Rattle.hardware.specs.declared.Update.{Update}
use Rattle.hardware.specs.declared.poll.Poll.{Poll}

abbrev pub UpdateNext : Type 0
UpdateNext = Next Update (Result (Unit {0}) Error)

abbrev pub PollNext : Type 0
PollNext = Next Poll (Result ℕ Error)
