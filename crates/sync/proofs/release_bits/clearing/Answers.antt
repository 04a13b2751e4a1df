use Rattle.std.proofs.Common.{rules}
use Rattle.hardware.specs.Change.{update_next}
use Rattle.hardware.specs.Prog.{◌>>=◌, followed}
use Rattle.hardware.proofs.Prog.{going}
use Rattle.sync.specs.Resource.{access_release_bits, release_bits_next, rest_release_bits, valid_release_bits, valid_release_bits_next}
use Rattle.sync.proofs.release_bits.clearing.Goals as goal

pub returns-in-Going-clause-yields : goal.returns-in-Going-clause-yields
unfolding release_bits_next access_release_bits rest_release_bits update_next valid_release_bits_next valid_release_bits
returns-in-Going-clause-yields c = rw c.in-Going.is (going _ _ _)

pub returns-in-End-clause-yields : goal.returns-in-End-clause-yields
unfolding update_next followed ◌>>=◌ valid_release_bits
returns-in-End-clause-yields c = search rules
