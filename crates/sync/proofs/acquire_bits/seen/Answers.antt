use Rattle.std.proofs.Common.{rules}
use Rattle.hardware.specs.Prog.{◌>>=◌, erase, pick}
use Rattle.hardware.specs.Registers.{reply}
use Rattle.sync.specs.Resource.{access_acquire_bits, access_acquire_stage, acquire_bits_next, free, rest_acquire_bits, rest_acquire_stage, sync_seen, valid_acquire_bits, valid_acquire_bits_next, valid_acquire_stage}
use Rattle.sync.proofs.acquire_bits.seen.Goals as goal

pub returns-then-none_of-clause-yields : goal.returns-then-none_of-clause-yields
unfolding reply sync_seen pick free erase ◌>>=◌ acquire_bits_next access_acquire_bits access_acquire_stage rest_acquire_bits rest_acquire_stage valid_acquire_bits_next valid_acquire_bits valid_acquire_stage
returns-then-none_of-clause-yields c = search rules
