use mathlib.Core.Path.{sym, ◌∙◌}
use lib.Dec.{ltb}
use Rattle.bus.proofs.Laws.{moved_map, picked_first, picked_second}
use Rattle.i2c.specs.Direct.{FoundIn, within}
use Rattle.i2c.specs.I2c.{device_of}
use Rattle.i2c.proofs.Moves.{carrying_on}
use Rattle.i2c.proofs.direct.job.Goals as goal

pub returns-then-within : goal.returns-then-within
unfolding within FoundIn
returns-then-within c =
    let args = c.args in
    let w = sym c.within.ensures ∙ c.if-within.true in
    let found = rw c.in_ok-c.was at c.command.ensures in
    moved_map _ _
    (λ x next j taken.
    carrying_on args.port args.r args.tries args.cap args.m args.left args.at taken args.j next args.a x
    (picked_first (ltb args.left args.tries) _ w) (picked_second (ltb args.left args.tries) _ w) found.0
    (rw (c.layout_of.ensures, ← found.1) at j))
    c.job.result (c.job.ensures (device_of args.r))
