use Rattle.host.specs.Shown.{Shows, over_command, shows_command}
use Rattle.host.proofs.open.sulfryk_command_open.Goals as goal

pub returns : goal.returns
unfolding Shows
returns c = (c.command_open.result, c.command_open.ensures, shows_command over_command c.command_open.result c.command.result (rw c.command_over.ensures at c.command.ensures))
