use Rattle.std.proofs.Common.{rules}
use Rattle.hardware.specs.Change.{access_update, change, rest_update, update_next}
use Rattle.hardware.specs.Prog.{◌>>=◌, erase, followed, or_err}
use Rattle.hardware.specs.Registers.{reply}
use Rattle.hardware.proofs.Prog.{going}
use Rattle.sync.specs.Lock.{access_unlock, rest_unlock, unlock_next}
use Rattle.sync.proofs.unlock.sync.Goals as goal

pub returns-in-Going : goal.returns-in-Going
unfolding rest_unlock access_unlock unlock_next update_next
returns-in-Going c = rw c.in-Going.is (going _ _ _)

pub returns-in-Ok : goal.returns-in-Ok
unfolding unlock_next access_unlock rest_unlock followed reply or_err update_next change access_update rest_update erase ◌>>=◌
returns-in-Ok c = search rules

pub returns-in-Err : goal.returns-in-Err
unfolding unlock_next followed ◌>>=◌ erase or_err reply update_next
returns-in-Err c = search rules
