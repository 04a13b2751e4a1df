use Rattle.std.proofs.Common.{rules}
use Rattle.i2c.specs.I2c.{value_of}
use Rattle.i2c.specs.Handshake.{valued}
use Rattle.identify.specs.Place.{told_at}
use Rattle.hardware.specs.Registers.{reply}
use Rattle.identify.proofs.place.after.Goals as goal

pub returns-in-Err : goal.returns-in-Err
unfolding told_at valued reply value_of
returns-in-Err c = search rules
