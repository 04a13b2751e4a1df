use Rattle.host.specs.Shown.{Shows, shows_identify}
use Rattle.host.specs.Step.{SteppedIdentify}
use Rattle.host.proofs.step.identify.Goals as goal

pub returns : goal.returns
unfolding SteppedIdentify Shows
returns c = (c.plain.result, rw c.identify_call.ensures at c.plain.ensures, shows_identify c.args.old c.plain.result c.identify.result c.identify.ensures)
