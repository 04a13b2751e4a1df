use Rattle.bench.proofs.Laws.{rise_at_lem}
use Rattle.bench.specs.Receiver.{rise_at}
use Rattle.hardware.specs.Prog.{pick}
use Rattle.std.proofs.Common.{add-one, le-ltb, lt-ltb}
use Rattle.bench.proofs.receiver.rise.Goals as goal

pub returns-then-n-lt8 : goal.returns-then-n-lt8
unfolding rise_at pick
returns-then-n-lt8 c = rw (rise_at_lem _ c.args.sda c.args.r c.in-Address.is, lt-ltb _ _ c.if-n-lt8.true, c.takes.ensures, add-one)

pub returns-then-m-lt8 : goal.returns-then-m-lt8
unfolding rise_at pick
returns-then-m-lt8 c = rw (rise_at_lem _ c.args.sda c.args.r c.in-Receive.is, lt-ltb _ _ c.if-m-lt8.true, c.takes-then-m-lt8.ensures, add-one)

pub returns-in-Idle : goal.returns-in-Idle
unfolding rise_at
returns-in-Idle c = rw (rise_at_lem _ c.args.sda c.args.r c.in-Idle.is)

pub returns-else-n-lt8 : goal.returns-else-n-lt8
unfolding rise_at pick
returns-else-n-lt8 c = rw (rise_at_lem _ c.args.sda c.args.r c.in-Address.is, le-ltb _ _ c.if-n-lt8.false)

pub returns-else-m-lt8 : goal.returns-else-m-lt8
unfolding rise_at pick
returns-else-m-lt8 c = rw (rise_at_lem _ c.args.sda c.args.r c.in-Receive.is, le-ltb _ _ c.if-m-lt8.false)

pub returns-in-AckRead : goal.returns-in-AckRead
unfolding rise_at
returns-in-AckRead c = rw (rise_at_lem _ c.args.sda c.args.r c.in-AckRead.is)

pub returns-in-AckWrite : goal.returns-in-AckWrite
unfolding rise_at
returns-in-AckWrite c = rw (rise_at_lem _ c.args.sda c.args.r c.in-AckWrite.is)

pub returns-in-Send : goal.returns-in-Send
unfolding rise_at
returns-in-Send c = rw (rise_at_lem _ c.args.sda c.args.r c.in-Send.is)

pub returns-in-Listen : goal.returns-in-Listen
unfolding rise_at
returns-in-Listen c = rw (rise_at_lem _ c.args.sda c.args.r c.in-Listen.is) c.notes.ensures
