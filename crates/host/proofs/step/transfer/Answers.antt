use Rattle.host.specs.Shown.{Shows, shows_transfer}
use Rattle.host.specs.Step.{SteppedTransfer}
use Rattle.host.proofs.step.transfer.Goals as goal

pub returns : goal.returns
unfolding SteppedTransfer Shows
returns c = (c.plain.result, rw c.transfer_call.ensures at c.plain.ensures, shows_transfer c.args.old c.plain.result c.transfer.result c.transfer.ensures)
