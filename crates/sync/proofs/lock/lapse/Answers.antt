use Rattle.std.proofs.Common.{rules}
use Rattle.hardware.specs.Change.{access_update, change, rest_update}
use Rattle.hardware.specs.Prog.{◌>>=◌, erase}
use Rattle.sync.specs.Lock.{access_lock, lapsed, lock_next, rest_lock, valid_lock, valid_lock_next}
use Rattle.sync.proofs.lock.lapse.Goals as goal

pub returns-clause-yields : goal.returns-clause-yields
unfolding lapsed lock_next access_lock rest_lock change access_update rest_update erase ◌>>=◌ valid_lock_next valid_lock
returns-clause-yields c = search rules
