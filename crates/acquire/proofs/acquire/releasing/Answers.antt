use Rattle.std.proofs.Common.{rules}
use Rattle.acquire.specs.Acquire.{access_acquire, access_acquire_at, access_release, acquire_next, release_next, rest_acquire, rest_acquire_at, rest_release, valid_acquire, valid_acquire_at, valid_acquire_next}
use Rattle.hardware.specs.Prog.{◌>>=◌, erase, followed, or_err, pick}
use Rattle.hardware.specs.Registers.{reply}
use Rattle.hardware.proofs.Prog.{going}
use Rattle.hostif.specs.Hostif.{token_next}
use Rattle.sync.specs.Resource.{acquire_bits_next, release_bits_next, valid_release_bits_next}
use Rattle.acquire.proofs.acquire.releasing.Goals as goal

pub returns-in-Going-clause-yields : goal.returns-in-Going-clause-yields
unfolding acquire_next access_acquire access_acquire_at rest_acquire rest_acquire_at release_next access_release rest_release acquire_bits_next release_bits_next token_next valid_acquire_next valid_acquire valid_acquire_at pick valid_release_bits_next
returns-in-Going-clause-yields c = rw c.in-Going.is (going _ _ _)

pub returns-in-Ok-clause-yields : goal.returns-in-Ok-clause-yields
unfolding followed ◌>>=◌ or_err reply release_bits_next
returns-in-Ok-clause-yields c = search rules

pub returns-in-Err-clause-yields : goal.returns-in-Err-clause-yields
unfolding followed ◌>>=◌ or_err reply release_bits_next erase acquire_next valid_acquire_next
returns-in-Err-clause-yields c = search rules
