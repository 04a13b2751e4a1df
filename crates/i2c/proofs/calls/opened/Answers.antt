use Rattle.std.proofs.Common.{arith}
use Rattle.bus.proofs.Laws.{picked}
use Rattle.hardware.proofs.Laws.{held_blank, opened_valid}
use Rattle.hardware.specs.Asked.{and_then, opened, question, yes}
use Rattle.hardware.proofs.Prog.{over_tally}
use Rattle.i2c.proofs.Laws.{limit_allows, limit_room}
use Rattle.i2c.specs.Calls.{open_transfer, valid_operands}
use Rattle.i2c.specs.I2c.{transferred}
use borrow.Author.Tests.{le-leb}
use mathlib.Core.Path.{◌∙◌, ap, refl}
use Rattle.i2c.proofs.calls.opened.Goals as goal

pub returns-then-attempts-le255 : goal.returns-then-attempts-le255
unfolding open_transfer and_then opened question transferred valid_operands
returns-then-attempts-le255 c = record { yields = rw (← c.open_port.ensures, c.in_ok-p.was, ← c.even.ensures, c.if-even.true, le-leb _ _ c.if-attempts-le255.true) (c.told.ensures.yields (omega arith) ∙ ap yes (over_tally _ _ _ refl (rw c.tries.ensures at c.open.ensures.yields))); limits = c.told.ensures.limits (picked _ _ (held_blank _ (opened_valid _ _ _ c.in_ok-p.was c.open_port.ensures)) (rw (← c.even.ensures) c.if-even.true)) (c.open.ensures.limits _ (rw c.tries.ensures (limit_allows c.args.r c.args.attempts c.if-attempts-le255.true))) (limit_room c.args.r _ c.args.attempts _ c.tries.ensures c.if-attempts-le255.true c.open.ensures.due) }
