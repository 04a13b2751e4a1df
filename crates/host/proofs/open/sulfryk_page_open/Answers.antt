use Rattle.host.specs.Open.{OpenedBy}
use Rattle.host.specs.Shown.{Shows, over_page, shows_page}
use Rattle.host.proofs.open.sulfryk_page_open.Goals as goal

pub returns-in-Some : goal.returns-in-Some
unfolding OpenedBy Shows
returns-in-Some c = rw (← c.by_number.ensures, c.in-Some.is) (c.page_open_with.result, c.page_open_with.ensures, shows_page over_page c.page_open_with.result c.page.result (rw c.page_over-over.ensures at c.page.ensures))
