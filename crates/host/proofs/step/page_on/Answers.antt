use Rattle.host.specs.Shown.{Shows, shows_page}
use Rattle.host.specs.Step.{PageStepped}
use borrow.Author.Tests.{eq-eqb}
use Rattle.host.proofs.step.page_on.Goals as goal

pub returns-in-10 : goal.returns-in-10
unfolding PageStepped Shows
returns-in-10 c = rw (eq-eqb c.args.old.call 10 c.in-10.is) (c.plain.result, rw c.page_call.ensures at c.plain.ensures, shows_page c.args.old c.plain.result c.page.result c.page.ensures)
