use Rattle.host.specs.Shown.{Shows, shows_acquire}
use Rattle.host.specs.Step.{SteppedAcquire}
use Rattle.host.proofs.step.acquire.Goals as goal

pub returns : goal.returns
unfolding SteppedAcquire Shows
returns c = (c.acquire_step.result, rw c.acquire_call.ensures at c.acquire_step.ensures, shows_acquire c.args.old c.acquire_step.result c.acquire.result c.acquire.ensures)
