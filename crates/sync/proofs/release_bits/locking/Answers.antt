use Rattle.std.proofs.Common.{rules}
use Rattle.hardware.specs.Change.{access_update, change, rest_update}
use Rattle.hardware.specs.Prog.{◌>>=◌, erase, followed, or_err}
use Rattle.hardware.specs.Registers.{reply}
use Rattle.hardware.proofs.Prog.{going}
use Rattle.sync.specs.Lock.{lock_next, valid_lock_next}
use Rattle.sync.specs.Resource.{access_release_bits, clearing, release_bits_next, rest_release_bits, valid_release_bits, valid_release_bits_next}
use Rattle.sync.proofs.release_bits.locking.Goals as goal

pub returns-in-Going-clause-yields : goal.returns-in-Going-clause-yields
unfolding release_bits_next access_release_bits rest_release_bits lock_next valid_release_bits_next valid_release_bits valid_lock_next
returns-in-Going-clause-yields c = rw c.in-Going.is (going _ _ _)

pub returns-in-Ok-clause-yields : goal.returns-in-Ok-clause-yields
unfolding release_bits_next access_release_bits rest_release_bits lock_next followed ◌>>=◌ erase or_err reply clearing change access_update rest_update valid_release_bits valid_release_bits_next
returns-in-Ok-clause-yields c = search rules

pub returns-in-Err-clause-yields : goal.returns-in-Err-clause-yields
unfolding release_bits_next lock_next followed ◌>>=◌ erase or_err reply valid_release_bits valid_release_bits_next
returns-in-Err-clause-yields c = search rules
