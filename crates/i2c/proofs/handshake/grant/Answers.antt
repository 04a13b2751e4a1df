use Rattle.std.proofs.Common.{rules}
use Prim.Native.Nat.{◌-◌}
use Rattle.hardware.specs.Failures.{failure_of}
use Rattle.hardware.specs.Prog.{◌>>=◌, erase, or_err, pick}
use Rattle.i2c.specs.I2c.{granted}
use Rattle.i2c.specs.Handshake.{awaiting_grant, on_granted}
use Rattle.hardware.specs.Registers.{reply}
use Rattle.i2c.proofs.handshake.grant.Goals as goal

pub returns-then-left-eq0 : goal.returns-then-left-eq0
unfolding awaiting_grant granted on_granted erase ◌>>=◌ or_err pick reply failure_of
returns-then-left-eq0 c = search rules
