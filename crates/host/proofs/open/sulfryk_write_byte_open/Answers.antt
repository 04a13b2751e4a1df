use Rattle.host.specs.Open.{OpenedBy}
use Rattle.host.specs.Shown.{Shows, over_transfer, shows_transfer}
use Rattle.host.proofs.open.sulfryk_write_byte_open.Goals as goal

pub returns-in-Some : goal.returns-in-Some
unfolding OpenedBy Shows
returns-in-Some c = rw (← c.by_number.ensures, c.in-Some.is) (c.write_byte_open_with.result, c.write_byte_open_with.ensures, shows_transfer over_transfer c.write_byte_open_with.result c.transfer.result (rw c.transfer_over-over.ensures at c.transfer.ensures))
