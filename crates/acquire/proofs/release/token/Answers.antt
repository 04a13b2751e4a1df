use Rattle.std.proofs.Common.{rules}
use Rattle.acquire.specs.Acquire.{access_acquire, access_acquire_at, access_release, acquire_next, release_next, rest_acquire, rest_acquire_at, rest_release, valid_release, valid_release_next}
use Rattle.hardware.specs.Prog.{◌>>=◌, followed}
use Rattle.hardware.proofs.Prog.{going}
use Rattle.hostif.specs.Hostif.{token_next, valid_token_next}
use Rattle.sync.specs.Resource.{acquire_bits_next, release_bits_next}
use Rattle.acquire.proofs.release.token.Goals as goal

pub returns-in-Going-clause-yields : goal.returns-in-Going-clause-yields
unfolding acquire_next access_acquire access_acquire_at rest_acquire rest_acquire_at release_next access_release rest_release acquire_bits_next release_bits_next token_next valid_release_next valid_release valid_token_next
returns-in-Going-clause-yields c = rw c.in-Going.is (going _ _ _)

pub returns-in-End-clause-yields : goal.returns-in-End-clause-yields
unfolding followed ◌>>=◌ token_next
returns-in-End-clause-yields c = search rules
