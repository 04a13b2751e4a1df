use Rattle.host.specs.Shown.{Shows, shows_setup}
use Rattle.host.specs.Step.{SteppedSetup}
use Rattle.host.proofs.step.setup.Goals as goal

pub returns : goal.returns
unfolding SteppedSetup Shows
returns c = (c.qsfp_setup_step.result, rw c.setup_call.ensures at c.qsfp_setup_step.ensures, shows_setup c.args.old c.qsfp_setup_step.result c.setup.result c.setup.ensures)
