use Rattle.std.proofs.Common.{rules}
use Rattle.hardware.specs.Change.{access_update, change, rest_update}
use Rattle.hardware.specs.Prog.{◌>>=◌, erase, pick}
use Rattle.sync.specs.Resource.{access_acquire_bits, access_acquire_stage, acquire_bits_next, muxed, rest_acquire_bits, rest_acquire_stage, valid_acquire_bits, valid_acquire_bits_next, valid_acquire_stage}
use Rattle.sync.proofs.acquire_bits.mux.Goals as goal

pub returns-then-mux-clause-yields : goal.returns-then-mux-clause-yields
unfolding acquire_bits_next access_acquire_bits access_acquire_stage rest_acquire_bits rest_acquire_stage ◌>>=◌ erase pick muxed change access_update rest_update valid_acquire_stage valid_acquire_bits valid_acquire_bits_next
returns-then-mux-clause-yields c = search rules
