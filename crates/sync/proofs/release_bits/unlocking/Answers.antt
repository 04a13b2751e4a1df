use Rattle.std.proofs.Common.{rules}
use Rattle.hardware.specs.Prog.{◌>>=◌, erase, followed, or_err}
use Rattle.hardware.specs.Registers.{reply}
use Rattle.hardware.proofs.Prog.{going}
use Rattle.sync.specs.Lock.{unlock_next}
use Rattle.sync.specs.Resource.{access_release_bits, release_bits_next, rest_release_bits, valid_release_bits, valid_release_bits_next}
use Rattle.sync.proofs.release_bits.unlocking.Goals as goal

pub returns-in-Going-clause-yields : goal.returns-in-Going-clause-yields
unfolding release_bits_next access_release_bits rest_release_bits unlock_next valid_release_bits_next valid_release_bits
returns-in-Going-clause-yields c = rw c.in-Going.is (going _ _ _)

pub returns-in-Ok-clause-yields : goal.returns-in-Ok-clause-yields
unfolding unlock_next followed ◌>>=◌ or_err reply valid_release_bits
returns-in-Ok-clause-yields c = search rules

pub returns-in-Err-clause-yields : goal.returns-in-Err-clause-yields
unfolding release_bits_next unlock_next followed ◌>>=◌ erase or_err reply valid_release_bits valid_release_bits_next
returns-in-Err-clause-yields c = search rules
