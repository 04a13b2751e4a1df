use Rattle.std.proofs.Common.{rules}
use Rattle.hardware.specs.Prog.{erase, or_err, ◌>>=◌}
use Rattle.hardware.specs.Registers.{reply, write}
use Rattle.hardware.specs.Change.{stored, access_update, rest_update, update_next}
use Rattle.hardware.proofs.change.seen.Goals as goal

pub returns-in-Ok : goal.returns-in-Ok
unfolding reply or_err stored erase ◌>>=◌ update_next access_update rest_update
returns-in-Ok c = search rules
