use Rattle.std.proofs.Common.{rules}
use Rattle.hostif.specs.Acquire.{acquired_all, after_bits}
use Rattle.acquire.specs.Acquire.{access_acquire, access_acquire_at, acquire_next, rest_acquire, rest_acquire_at, valid_acquire, valid_acquire_at, valid_acquire_next}
use Rattle.hardware.specs.Prog.{◌>>=◌, erase, followed, or_err, pick}
use Rattle.hardware.specs.Registers.{reply}
use Rattle.hardware.proofs.Prog.{going}
use Rattle.sync.specs.Resource.{acquire_bits_next, valid_acquire_bits_next}
use Rattle.acquire.proofs.acquire.bits.Goals as goal

pub returns-then-token-clause-yields : goal.returns-then-token-clause-yields
unfolding followed ◌>>=◌ or_err reply acquire_bits_next after_bits pick
returns-then-token-clause-yields c = search rules

pub returns-in-Going-clause-yields : goal.returns-in-Going-clause-yields
unfolding acquire_next access_acquire access_acquire_at rest_acquire rest_acquire_at acquire_bits_next valid_acquire_next valid_acquire valid_acquire_at pick valid_acquire_bits_next
returns-in-Going-clause-yields c = rw c.in-Going.is (going _ _ _)

pub returns-else-token-clause-yields : goal.returns-else-token-clause-yields
unfolding followed ◌>>=◌ or_err reply acquire_bits_next after_bits acquired_all pick erase acquire_next valid_acquire_next
returns-else-token-clause-yields c = search rules

pub returns-in-Err-clause-yields : goal.returns-in-Err-clause-yields
unfolding followed ◌>>=◌ or_err reply acquire_bits_next erase acquire_next valid_acquire_next
returns-in-Err-clause-yields c = search rules
