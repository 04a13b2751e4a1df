use Rattle.bench.proofs.Laws.{asks_at_lem, fall_at_lem, pick_false, pick_true}
use Rattle.bench.specs.Receiver.{asks_at, fall_at}
use Rattle.hardware.specs.Prog.{pick}
use Rattle.std.proofs.Common.{sym, refl, ◌∙◌, add-one, le-ltb, lt-ltb}
use Rattle.bench.proofs.receiver.fall.Goals as goal

pub returns-then-n-lt8 : goal.returns-then-n-lt8
unfolding fall_at asks_at pick
returns-then-n-lt8 c = rw (fall_at_lem _ c.args.r c.in-Address.is, asks_at_lem _ c.args.r c.in-Address.is, lt-ltb _ _ c.if-n-lt8.true) c.quiet-then-n-lt8.ensures

pub returns-then-n-lt8-2 : goal.returns-then-n-lt8-2
unfolding fall_at asks_at pick
returns-then-n-lt8-2 c = rw (fall_at_lem _ c.args.r c.in-Receive.is, asks_at_lem _ c.args.r c.in-Receive.is, lt-ltb _ _ c.if-n-lt8-2.true) c.quiet-then-n-lt8-2.ensures

pub returns-then-n-lt7 : goal.returns-then-n-lt7
unfolding fall_at asks_at pick
returns-then-n-lt7 c = rw (fall_at_lem _ c.args.r c.in-Send.is, asks_at_lem _ c.args.r c.in-Send.is, lt-ltb _ _ c.if-n-lt7.true, ← add-one, ← c.at-then-n-lt7.ensures) c.quiet-then-n-lt7.ensures

pub returns-then-r : goal.returns-then-r
unfolding fall_at asks_at
returns-then-r c = rw (fall_at_lem _ c.args.r c.in-Listen.is, asks_at_lem _ c.args.r c.in-Listen.is) (c.quiet-then-r.ensures.0 ∙ c.at-then-r.ensures ∙ sym (pick_true _ _ c.if-r.true), c.quiet-then-r.ensures.1)

pub returns-in-Idle : goal.returns-in-Idle
unfolding fall_at asks_at
returns-in-Idle c = rw (fall_at_lem _ c.args.r c.in-Idle.is, asks_at_lem _ c.args.r c.in-Idle.is) c.quiet.ensures

pub returns-else-n-lt8 : goal.returns-else-n-lt8
unfolding fall_at asks_at pick
returns-else-n-lt8 c = rw (fall_at_lem _ c.args.r c.in-Address.is, asks_at_lem _ c.args.r c.in-Address.is, le-ltb _ _ c.if-n-lt8.false) (rw c.addressed.ensures at c.quiet-in-Address.ensures)

pub returns-else-n-lt8-2 : goal.returns-else-n-lt8-2
unfolding fall_at asks_at pick
returns-else-n-lt8-2 c = rw (fall_at_lem _ c.args.r c.in-Receive.is, asks_at_lem _ c.args.r c.in-Receive.is, le-ltb _ _ c.if-n-lt8-2.false) (c.byte_taken-receiver.ensures, c.byte_asks-act.ensures)

pub returns-in-AckRead : goal.returns-in-AckRead
unfolding fall_at asks_at
returns-in-AckRead c = rw (fall_at_lem _ c.args.r c.in-AckRead.is, asks_at_lem _ c.args.r c.in-AckRead.is, ← c.at.ensures) c.quiet-in-AckRead.ensures

pub returns-in-AckWrite : goal.returns-in-AckWrite
unfolding fall_at asks_at
returns-in-AckWrite c = rw (fall_at_lem _ c.args.r c.in-AckWrite.is, asks_at_lem _ c.args.r c.in-AckWrite.is, ← c.fresh.ensures) c.quiet-in-AckWrite.ensures

pub returns-else-n-lt7 : goal.returns-else-n-lt7
unfolding fall_at asks_at pick
returns-else-n-lt7 c = rw (fall_at_lem _ c.args.r c.in-Send.is, asks_at_lem _ c.args.r c.in-Send.is, le-ltb _ _ c.if-n-lt7.false) (c.at-receiver.ensures, refl)

pub returns-else-r : goal.returns-else-r
unfolding fall_at asks_at
returns-else-r c = rw (fall_at_lem _ c.args.r c.in-Listen.is, asks_at_lem _ c.args.r c.in-Listen.is) (c.quiet-in-Listen.ensures.0 ∙ c.at-in-Listen.ensures ∙ sym (pick_false _ _ c.if-r.false), c.quiet-in-Listen.ensures.1)
