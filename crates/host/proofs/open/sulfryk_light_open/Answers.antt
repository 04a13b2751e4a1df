use Rattle.host.specs.Open.{OpenedBy}
use Rattle.host.specs.Shown.{Shows, over_light, shows_light}
use Rattle.host.proofs.open.sulfryk_light_open.Goals as goal

pub returns-in-Some : goal.returns-in-Some
unfolding OpenedBy Shows
returns-in-Some c = rw (← c.by_number.ensures, c.in-Some.is) (c.light_open_with.result, c.light_open_with.ensures, shows_light over_light c.light_open_with.result c.light.result (rw c.light_over-over.ensures at c.light.ensures))
