use Rattle.std.proofs.Common.{rules}
use Rattle.hardware.specs.Change.{update_next}
use Rattle.hardware.specs.Prog.{◌>>=◌, erase, followed, or_err}
use Rattle.hardware.specs.Registers.{reply}
use Rattle.hardware.proofs.Prog.{going}
use Rattle.sync.specs.Lock.{access_swesmbi, rest_swesmbi, swesmbi_check, swesmbi_next, valid_swesmbi, valid_swesmbi_next}
use Rattle.sync.proofs.swesmbi.set.Goals as goal

pub returns-in-Going-clause-yields : goal.returns-in-Going-clause-yields
unfolding rest_swesmbi access_swesmbi swesmbi_next update_next valid_swesmbi_next valid_swesmbi
returns-in-Going-clause-yields c = rw c.in-Going.is (going _ _ _)

pub returns-in-Ok-clause-yields : goal.returns-in-Ok-clause-yields
unfolding rest_swesmbi access_swesmbi swesmbi_next swesmbi_check valid_swesmbi followed ◌>>=◌ erase or_err reply update_next valid_swesmbi_next
returns-in-Ok-clause-yields c = search rules

pub returns-in-Err-clause-yields : goal.returns-in-Err-clause-yields
unfolding swesmbi_next followed ◌>>=◌ erase or_err reply update_next valid_swesmbi_next
returns-in-Err-clause-yields c = search rules
