use Rattle.std.proofs.Common.{rules}
use Rattle.hardware.specs.Poll.{poll_next, valid_poll_next}
use Rattle.hardware.specs.Prog.{◌>>=◌, followed}
use Rattle.hardware.proofs.Prog.{going}
use Rattle.sync.specs.Lock.{access_lock, lock_next, rest_lock, valid_lock, valid_lock_next}
use Rattle.sync.proofs.lock.smbi.Goals as goal

pub returns-in-Going-clause-yields : goal.returns-in-Going-clause-yields
unfolding rest_lock access_lock lock_next poll_next valid_lock_next valid_lock valid_poll_next
returns-in-Going-clause-yields c = rw c.in-Going.is (going _ _ _)

pub returns-in-End-clause-yields : goal.returns-in-End-clause-yields
unfolding followed ◌>>=◌ poll_next
returns-in-End-clause-yields c = search rules
