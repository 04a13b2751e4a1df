use Rattle.host.specs.Shown.{Shows, shows_command}
use Rattle.host.specs.Step.{CommandStepped}
use borrow.Author.Tests.{eq-eqb}
use Rattle.host.proofs.step.command_on.Goals as goal

pub returns-in-8 : goal.returns-in-8
unfolding CommandStepped Shows
returns-in-8 c = rw (eq-eqb c.args.old.call 8 c.in-8.is) (c.command_step.result, rw c.command_call.ensures at c.command_step.ensures, shows_command c.args.old c.command_step.result c.command.result c.command.ensures)
