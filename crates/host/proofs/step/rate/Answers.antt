use Rattle.host.specs.Shown.{Shows, shows_rate}
use Rattle.host.specs.Step.{SteppedRate}
use Rattle.host.proofs.step.rate.Goals as goal

pub returns : goal.returns
unfolding SteppedRate Shows
returns c = (c.plain.result, rw c.rate_call.ensures at c.plain.ensures, shows_rate c.args.old c.plain.result c.rate.result c.rate.ensures)
