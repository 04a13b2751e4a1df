use Rattle.std.proofs.Common.{rules}
use Rattle.hardware.specs.Change.{update_next}
use Rattle.hardware.specs.Failures.{failure_of}
use Rattle.hardware.specs.Prog.{◌>>=◌, erase, followed, or_err}
use Rattle.hardware.specs.Registers.{reply}
use Rattle.hardware.proofs.Prog.{going}
use Rattle.sync.specs.Lock.{access_lock, lock_next, rest_lock, valid_lock, valid_lock_next}
use Rattle.sync.proofs.lock.back.Goals as goal

pub returns-in-Going-clause-yields : goal.returns-in-Going-clause-yields
unfolding lock_next access_lock rest_lock update_next valid_lock_next valid_lock
returns-in-Going-clause-yields c = rw c.in-Going.is (going _ _ _)

pub returns-in-Ok-clause-yields : goal.returns-in-Ok-clause-yields
unfolding lock_next followed ◌>>=◌ erase or_err reply update_next valid_lock_next failure_of
returns-in-Ok-clause-yields c = search rules

pub returns-in-Err-clause-yields : goal.returns-in-Err-clause-yields
unfolding lock_next followed ◌>>=◌ erase or_err reply update_next valid_lock_next
returns-in-Err-clause-yields c = search rules
