use Rattle.bus.proofs.quick.value.Goals as goal

pub returns-in-Flush : goal.returns-in-Flush
returns-in-Flush c = rw c.in-Flush.is (c.flushed.ensures c.args.v)
