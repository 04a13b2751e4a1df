use Rattle.host.specs.Shown.{Shows, shows_token}
use Rattle.host.specs.Step.{SteppedToken}
use Rattle.host.proofs.step.token.Goals as goal

pub returns : goal.returns
unfolding SteppedToken Shows
returns c = (c.token_step.result, rw c.token_call.ensures at c.token_step.ensures, shows_token c.args.old c.token_step.result c.token.result c.token.ensures)
