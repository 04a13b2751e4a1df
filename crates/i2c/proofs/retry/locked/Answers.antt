use Rattle.std.proofs.Common.{arith}
use Rattle.hardware.specs.Prog.{erase}
use Rattle.hardware.proofs.Prog.{over}
use Rattle.hostif.specs.Acquire.{acquire}
use Rattle.i2c.proofs.Laws.{when_yes}
use Rattle.i2c.proofs.Masks.{taken_first}
use Rattle.i2c.specs.I2c.{mask}
use Rattle.i2c.specs.Retry.{locked_try, try_now}
use Rattle.sync.specs.Resource.{acquire_bits}
use mathlib.Core.Path.{◌∙◌, ap}
use Rattle.i2c.proofs.retry.locked.Goals as goal

pub returns-then-how : goal.returns-then-how
unfolding locked_try acquire_bits
returns-then-how c = record { yields = λ r. over (acquire_bits c.args.port (mask c.args.port)) _ (c.acquired.ensures.yields c.args.port r c.args.how) (rw (c.mask.ensures, c.tries.ensures) at c.open.ensures.yields) ∙ taken_first c.args.port (try_now c.args.port r c.args.how c.args.left) ∙ ap erase (when_yes c.args.how.lock (acquire c.args.port (mask c.args.port)) (try_now c.args.port r c.args.how c.args.left) c.if-how.true); limits = λ tries r h. c.acquired.ensures.limits tries c.args.port r h (c.open.ensures.limits (omega (arith, c.tries.ensures))); due = c.acquired.ensures.due }
