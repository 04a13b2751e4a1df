use Rattle.host.specs.Shown.{Shows, shows_script}
use Rattle.host.specs.Step.{ScriptStepped}
use borrow.Author.Tests.{eq-eqb}
use Rattle.host.proofs.step.script_on.Goals as goal

pub returns-in-9 : goal.returns-in-9
unfolding ScriptStepped Shows
returns-in-9 c = rw (eq-eqb c.args.old.call 9 c.in-9.is) (c.script_step.result, rw c.script_call.ensures at c.script_step.ensures, shows_script c.args.old c.script_step.result c.script.result c.script.ensures)
