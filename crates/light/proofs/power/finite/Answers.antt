use Rattle.std.proofs.Common.{rules}
use lib.Ieee.{nan_bits, neg, of_bits}
use Rattle.light.proofs.Finite.{below_infinity, not_above}
use Rattle.light.proofs.power.finite.Goals as goal

pub float_from_bits-infinity : goal.float_from_bits-infinity
unfolding nan_bits
float_from_bits-infinity c = search rules

pub returns-then-infinity-x : goal.returns-then-infinity-x
unfolding of_bits neg
returns-then-infinity-x c = below_infinity c.args.x c.if-infinity-x.true

pub returns-else-infinity-x : goal.returns-else-infinity-x
unfolding of_bits neg
returns-else-infinity-x c = not_above c.args.x c.if-infinity-x.false
