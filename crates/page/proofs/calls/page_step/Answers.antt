use Rattle.hardware.specs.Asked.{question}
use Rattle.i2c.specs.Direct.{WentBy}
use Rattle.page.specs.Calls.{buffer_after, buffer_fits, step_page}
use borrow.Author.Tests.{le-leb}
use Rattle.page.proofs.calls.page_step.Goals as goal

pub returns-in-Some : goal.returns-in-Some
unfolding WentBy step_page buffer_after question buffer_fits
returns-in-Some c =
    let d = (rw c.in-Some.is at c.direct.ensures) _ _ in
    record { yields = rw (le-leb _ _ c.if-buffer-lt96.false, c.in_ok-port.ensures.ok_part) d.yields; limits = d.limits; holds = rw (le-leb _ _ c.if-buffer-lt96.false, c.in_ok-port.ensures.ok_part) d.holds; fills = rw c.in_ok-port.ensures.ok_part d.fills }
