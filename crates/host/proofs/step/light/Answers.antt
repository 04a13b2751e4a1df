use Rattle.host.specs.Shown.{Shows, shows_light}
use Rattle.host.specs.Step.{SteppedLight}
use Rattle.host.proofs.step.light.Goals as goal

pub returns : goal.returns
unfolding SteppedLight Shows
returns c = (c.plain.result, rw c.light_call.ensures at c.plain.ensures, shows_light c.args.old c.plain.result c.light.result c.light.ensures)
