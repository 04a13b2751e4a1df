use Rattle.hardware.proofs.Laws.{admits_no}
use Rattle.acquire.specs.Calls.{said_acquire, stands_acquire, step_acquire}
use mathlib.Core.Path.{sym}
use Rattle.acquire.proofs.calls.acquire_step.Goals as goal

pub returns-in-Err : goal.returns-in-Err
unfolding step_acquire said_acquire stands_acquire
returns-in-Err c =
    let h = rw (c.valid_acquire-valid.ensures, c.access.ensures) at c.admit.ensures in
    rw c.in_ok-port.ensures.ok_part (record { yields = sym (admits_no _ _ _ _ c.in-Err.is h); limits = tt })
