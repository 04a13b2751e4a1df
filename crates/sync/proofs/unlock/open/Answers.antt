use Rattle.std.proofs.Common.{rules}
use Rattle.hardware.specs.Change.{access_update, change, rest_update}
use Rattle.hardware.specs.Prog.{◌>>=◌, erase, pick}
use Rattle.sync.specs.Lock.{access_unlock, rest_unlock, unlock, unlock_next}
use Rattle.sync.proofs.unlock.open.Goals as goal

pub returns-then-is : goal.returns-then-is
unfolding unlock pick unlock_next access_unlock rest_unlock change access_update rest_update erase ◌>>=◌
returns-then-is c = search rules

pub returns : goal.returns
unfolding unlock pick unlock_next access_unlock rest_unlock change access_update rest_update erase ◌>>=◌
returns c = search rules
