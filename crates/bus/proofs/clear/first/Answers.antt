use Rattle.std.proofs.Common.{rules}
use Rattle.bus.specs.Bus.{or_held, or_quiet, quieted}
use Rattle.bus.specs.Clear.{access_clear, clear_next, command_of, rest_clear, rest_part, valid_clear, valid_clear_next, valid_part}
use Rattle.bus.specs.Command.{job_next, valid_job_next}
use Rattle.hardware.specs.Prog.{◌>>=◌, erase, followed, pick}
use Rattle.hardware.specs.Registers.{reply}
use Rattle.hardware.proofs.Prog.{heard_on}
use Rattle.bus.proofs.clear.first.Goals as goal

pub returns-then-is_i2c-clause-yields : goal.returns-then-is_i2c-clause-yields
unfolding followed ◌>>=◌ job_next or_held reply quieted or_quiet erase pick valid_clear_next
returns-then-is_i2c-clause-yields c = search rules

pub returns-in-Going-clause-yields : goal.returns-in-Going-clause-yields
unfolding clear_next access_clear rest_clear rest_part job_next valid_clear_next valid_clear valid_part command_of valid_job_next pick
returns-in-Going-clause-yields c = rw c.in-Going.is (heard_on _ _ _ _)

pub returns-in-Ok-clause-yields : goal.returns-in-Ok-clause-yields
unfolding followed ◌>>=◌ job_next or_held reply quieted or_quiet erase pick valid_clear_next
returns-in-Ok-clause-yields c = search rules

pub returns-else-is_i2c-clause-yields : goal.returns-else-is_i2c-clause-yields
unfolding followed ◌>>=◌ job_next or_held reply quieted or_quiet erase pick clear_next valid_clear_next
returns-else-is_i2c-clause-yields c = search rules
