use Rattle.std.proofs.Common.{rules}
use Rattle.hardware.specs.Prog.{◌>>=◌, followed}
use Rattle.transfer.specs.Attempt.{attempt_next}
use Rattle.i2c.proofs.retry.tried.Goals as goal

pub returns-in-End : goal.returns-in-End
unfolding attempt_next followed ◌>>=◌
returns-in-End c = search rules
