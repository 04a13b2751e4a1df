use Rattle.std.proofs.Common.{rules}
use Rattle.hardware.specs.Marks.{acknowledged, marked, more}
use Rattle.hardware.specs.Change.{access_update, change, rest_update}
use Rattle.hardware.specs.Prog.{◌>>=◌, erase, pick}
use Rattle.i2c.specs.I2c.{given_bus}
use Rattle.i2c.specs.Handshake.{access_handshake, closing, due_handshake, due_handshake_next, handshake_next, rest_handshake, valid_handshake, valid_handshake_next}
use Rattle.i2c.proofs.handshake.close.Goals as goal

pub returns-then-has_handshake : goal.returns-then-has_handshake
unfolding handshake_next access_handshake rest_handshake marked acknowledged valid_handshake_next valid_handshake due_handshake_next due_handshake more pick closing given_bus change access_update rest_update erase ◌>>=◌
returns-then-has_handshake c = search rules
