use Rattle.host.specs.Open.{OpenedBy}
use Rattle.host.specs.Shown.{Shows, over_identify, shows_identify}
use Rattle.host.proofs.open.sulfryk_identify_open.Goals as goal

pub returns-in-Some : goal.returns-in-Some
unfolding OpenedBy Shows
returns-in-Some c = rw (← c.by_number.ensures, c.in-Some.is) (c.identify_open_with.result, c.identify_open_with.ensures, shows_identify over_identify c.identify_open_with.result c.identify.result (rw c.identify_over-over.ensures at c.identify.ensures))
