use Rattle.std.proofs.Common.{rules}
use Rattle.hardware.specs.Marks.{acknowledged, marked, more}
use Rattle.hardware.specs.Prog.{◌>>=◌, erase, or_err, pick}
use Rattle.hardware.specs.Registers.{reply}
use Rattle.i2c.specs.I2c.{granting}
use Rattle.i2c.specs.Handshake.{access_handshake, awaiting_grant, due_handshake, due_handshake_next, entered, looked_at, handshake_next, on_granted, rest_handshake, valid_handshake, valid_handshake_next}
use Rattle.i2c.proofs.handshake.looked.Goals as goal

pub returns-then-none_of : goal.returns-then-none_of
unfolding handshake_next access_handshake rest_handshake marked acknowledged valid_handshake_next valid_handshake due_handshake_next due_handshake more pick looked_at reply or_err granting erase ◌>>=◌ awaiting_grant
returns-then-none_of c = search rules

pub returns-else-none_of : goal.returns-else-none_of
unfolding looked_at reply or_err granting pick ◌>>=◌ on_granted entered
returns-else-none_of c = search rules

pub returns-in-Err : goal.returns-in-Err
unfolding looked_at reply or_err erase ◌>>=◌ handshake_next valid_handshake_next due_handshake_next
returns-in-Err c = search rules
