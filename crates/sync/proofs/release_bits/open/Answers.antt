use Rattle.std.proofs.Common.{rules}
use Rattle.hardware.specs.Change.{access_update, change, rest_update}
use Rattle.hardware.specs.Prog.{◌>>=◌, erase, or_err, pick}
use Rattle.sync.specs.Resource.{access_release_bits, muxed, release_bits, release_bits_next, rest_release_bits, valid_release_bits, valid_release_bits_next}
use Rattle.sync.proofs.release_bits.open.Goals as goal

pub returns-then-mux-clause-yields : goal.returns-then-mux-clause-yields
unfolding release_bits_next access_release_bits rest_release_bits ◌>>=◌ erase pick muxed release_bits change access_update rest_update valid_release_bits valid_release_bits_next
returns-then-mux-clause-yields c = search rules

pub returns-clause-yields : goal.returns-clause-yields
unfolding ◌>>=◌ or_err pick muxed release_bits valid_release_bits
returns-clause-yields c = search rules
