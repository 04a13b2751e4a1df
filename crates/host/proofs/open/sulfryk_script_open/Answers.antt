use Rattle.host.specs.Shown.{Shows, over_script, shows_script}
use Rattle.host.proofs.open.sulfryk_script_open.Goals as goal

pub returns : goal.returns
unfolding Shows
returns c = (c.script_open.result, c.script_open.ensures, shows_script over_script c.script_open.result c.script.result (rw c.script_over.ensures at c.script.ensures))
