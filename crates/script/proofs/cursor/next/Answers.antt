use Rattle.std.proofs.Common.{arith}
use Prim.Native.Nat.{◌+◌}
use Rattle.script.proofs.Laws.{width_one}
use Rattle.script.specs.Script.{next_at}
use lib.ListN.{drop, length-drop}
use mathlib.Core.Path.{◌∙◌, ap, sym}
use Rattle.script.proofs.cursor.next.Goals as goal

pub returns-then-at-script : goal.returns-then-at-script
unfolding next_at
returns-then-at-script c = ap (λ n. c.args.at + n) (sym (width_one (drop c.args.at c.args.script.now) (rw length-drop (omega arith)) (sym c.sending.ensures ∙ c.if-sending.false)))
