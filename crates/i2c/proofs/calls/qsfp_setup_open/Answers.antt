use Rattle.std.proofs.Common.{rules}
use Rattle.hardware.specs.Change.{access_update, change, rest_update, update_next}
use Rattle.hardware.specs.Prog.{◌>>=◌, erase}
use Rattle.i2c.proofs.calls.qsfp_setup_open.Goals as goal

pub returns : goal.returns
unfolding update_next access_update rest_update change erase ◌>>=◌
returns c = search rules
