use Rattle.bus.proofs.quick.done.Goals as goal

pub returns-in-Pause : goal.returns-in-Pause
returns-in-Pause c = rw c.in-Pause.is (c.paused.ensures c.args.l)

pub returns-in-Write : goal.returns-in-Write
returns-in-Write c = rw c.in-Write.is (c.written.ensures c.args.l)
