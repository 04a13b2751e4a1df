use Rattle.host.specs.Shown.{Shows, shows_release}
use Rattle.host.specs.Step.{SteppedRelease}
use Rattle.host.proofs.step.release.Goals as goal

pub returns : goal.returns
unfolding SteppedRelease Shows
returns c = (c.release_step.result, rw c.release_call.ensures at c.release_step.ensures, shows_release c.args.old c.release_step.result c.release.result c.release.ensures)
