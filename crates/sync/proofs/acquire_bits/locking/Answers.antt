use Rattle.std.proofs.Common.{rules}
use Rattle.hardware.specs.Change.{access_update, rest_update}
use Rattle.hardware.specs.Prog.{◌>>=◌, erase, followed, or_err, pick}
use Rattle.hardware.specs.Registers.{reply}
use Rattle.hardware.proofs.Prog.{going}
use Rattle.sync.specs.Lock.{lock_next, valid_lock_next}
use Rattle.sync.specs.Resource.{access_acquire_bits, access_acquire_stage, acquire_bits_next, rest_acquire_bits, rest_acquire_stage, try_read, valid_acquire_bits, valid_acquire_bits_next, valid_acquire_stage}
use Rattle.sync.proofs.acquire_bits.locking.Goals as goal

pub returns-in-Going-clause-yields : goal.returns-in-Going-clause-yields
unfolding acquire_bits_next access_acquire_bits access_acquire_stage rest_acquire_bits rest_acquire_stage lock_next valid_acquire_bits_next valid_acquire_bits valid_acquire_stage pick valid_lock_next
returns-in-Going-clause-yields c = rw c.in-Going.is (going _ _ _)

pub returns-in-Ok-clause-yields : goal.returns-in-Ok-clause-yields
unfolding acquire_bits_next access_acquire_bits access_acquire_stage rest_acquire_bits rest_acquire_stage lock_next followed ◌>>=◌ erase or_err pick reply try_read access_update rest_update valid_acquire_stage valid_acquire_bits valid_acquire_bits_next
returns-in-Ok-clause-yields c = search rules

pub returns-in-Err-clause-yields : goal.returns-in-Err-clause-yields
unfolding acquire_bits_next lock_next followed ◌>>=◌ erase or_err reply access_update rest_update valid_acquire_stage valid_acquire_bits valid_acquire_bits_next
returns-in-Err-clause-yields c = search rules
