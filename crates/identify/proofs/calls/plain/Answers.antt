use Rattle.hardware.proofs.Laws.{admits_no}
use Rattle.identify.specs.Calls.{said_identify, stands_identify, step_identify}
use mathlib.Core.Path.{sym}
use Rattle.identify.proofs.calls.plain.Goals as goal

pub returns-in-Err : goal.returns-in-Err
unfolding step_identify said_identify stands_identify
returns-in-Err c =
    let h = rw (c.valid.ensures, c.access.ensures) at c.admit.ensures in
    rw c.in_ok-port.ensures.ok_part (record { yields = sym (admits_no _ _ _ _ c.in-Err.is h); limits = tt })
