-- The accesses left of a line call and of a command, at most: a number of the state, whatever command is lent to the later
-- steps. It falls at every step.
use Rattle.std.specs.Prelude.{ℕ, ◌+◌, ◌*◌}
use Rattle.hardware.specs.Longest.{longest}
use Rattle.bus.specs.declared.Layout.{Layout}
use Rattle.bus.specs.declared.job.Job.{Job}
use Rattle.bus.specs.Bus.{done, none}
use Rattle.bus.specs.Line.{line_next}
use Rattle.bus.specs.Steps.{CALL_STEPS}
use Rattle.bus.specs.Aliases.{LineNext, JobNext}
use Rattle.hardware.specs.declared.Next.TheVariants.{Going, End}

-- those of a line call alone: nothing comes after it
unfoldable pub line_left : Layout → LineNext → ℕ
line_left l r = longest (line_next l r (λ _. done none))

-- those of the line call that is being made, and of the line calls after it, which may be any
unfoldable pub job_left : Layout → Job → ℕ
job_left l j = line_left l (Going j.state) + j.left * CALL_STEPS

unfoldable pub job_next_left : Layout → JobNext → ℕ
job_next_left l (Going j) = job_left l j
job_next_left l (End (ctl, b)) = 0
