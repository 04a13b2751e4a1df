-- The code's names for what follows an answer and for what a call tells.
use Rattle.hardware.specs.declared.Next.{Next}
use Rattle.bus.specs.declared.line.LineState.{LineState}
use Rattle.std.specs.Prelude.{ℕ, Result}
use Rattle.hardware.specs.declared.Error.{Error}
use Rattle.bus.specs.declared.job.Job.{Job}
use Rattle.bus.specs.declared.clear.Clear.{Clear}

abbrev pub LineNext : Type 0
LineNext = Next LineState (ℕ × ℕ × Result (Unit {0}) Error)

abbrev pub JobNext : Type 0
JobNext = Next Job (ℕ × Result ℕ Error)

abbrev pub ClearNext : Type 0
ClearNext = Next Clear (ℕ × Result (Unit {0}) Error)
