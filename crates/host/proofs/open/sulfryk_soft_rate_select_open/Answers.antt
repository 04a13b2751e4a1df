use Rattle.host.specs.Open.{OpenedBy}
use Rattle.host.specs.Shown.{Shows, over_rate, shows_rate}
use Rattle.host.proofs.open.sulfryk_soft_rate_select_open.Goals as goal

pub returns-in-Some : goal.returns-in-Some
unfolding OpenedBy Shows
returns-in-Some c = rw (← c.by_number.ensures, c.in-Some.is) (c.soft_rate_select_open_with.result, c.soft_rate_select_open_with.ensures, shows_rate over_rate c.soft_rate_select_open_with.result c.rate.result (rw c.rate_over-over.ensures at c.rate.ensures))
