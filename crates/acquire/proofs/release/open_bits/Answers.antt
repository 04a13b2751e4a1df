use Rattle.std.proofs.Common.{rules}
use Rattle.hostif.specs.Acquire.{give_bits, with_bits}
use Rattle.acquire.specs.Acquire.{release_next, valid_release_next}
use Rattle.hardware.specs.Prog.{◌>>=◌, erase, or_err, pick}
use Rattle.acquire.proofs.release.open_bits.Goals as goal

pub returns-then-hw-eq0-clause-yields : goal.returns-then-hw-eq0-clause-yields
unfolding give_bits with_bits pick ◌>>=◌ or_err erase release_next valid_release_next
returns-then-hw-eq0-clause-yields c = search rules
