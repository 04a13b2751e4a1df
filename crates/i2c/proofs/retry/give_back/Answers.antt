use Rattle.hardware.specs.Prog.{erase}
use Rattle.hardware.proofs.Prog.{over}
use Rattle.hostif.specs.Acquire.{release}
use Rattle.i2c.proofs.Laws.{when_yes}
use Rattle.i2c.proofs.Masks.{given_first}
use Rattle.i2c.specs.I2c.{mask}
use Rattle.i2c.specs.Retry.{after_release, back_then}
use Rattle.sync.specs.Resource.{release_bits}
use mathlib.Core.Path.{◌∙◌, ap}
use Rattle.hardware.specs.Registers.{reply}
use Rattle.i2c.proofs.retry.give_back.Goals as goal

pub returns-then-how : goal.returns-then-how
unfolding back_then
returns-then-how c = record { yields = over (release_bits c.args.port (mask c.args.port)) _ c.released.ensures.yields (rw c.mask.ensures at c.open.ensures.yields) ∙ given_first c.args.port (after_release c.args.port c.args.r c.args.how c.args.left (reply c.args.g)) ∙ ap erase (when_yes c.args.how.lock (release c.args.port (mask c.args.port)) (after_release c.args.port c.args.r c.args.how c.args.left (reply c.args.g)) c.if-how.true); limits = λ tries h. c.released.ensures.limits tries h c.open.ensures.limits; due = c.released.ensures.due }
