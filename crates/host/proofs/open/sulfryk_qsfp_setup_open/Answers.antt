use Rattle.host.specs.Shown.{Shows, over_setup, shows_setup}
use Rattle.host.proofs.open.sulfryk_qsfp_setup_open.Goals as goal

pub returns : goal.returns
unfolding Shows
returns c = (c.qsfp_setup_open.result, c.qsfp_setup_open.ensures, shows_setup over_setup c.qsfp_setup_open.result c.setup.result (rw c.setup_over.ensures at c.setup.ensures))
