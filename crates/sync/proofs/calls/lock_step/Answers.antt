use Rattle.std.proofs.lemmas.Result.{err_from_is_err_and}
use Rattle.hardware.proofs.Laws.{admits_no}
use Rattle.sync.specs.Calls.{said_lock, stands_lock, step_lock}
use mathlib.Core.Path.{sym}
use Rattle.sync.proofs.calls.lock_step.Goals as goal

pub returns-in_err-admit : goal.returns-in_err-admit
unfolding step_lock said_lock stands_lock
returns-in_err-admit c =
    let h = rw (c.valid.ensures, c.access.ensures) at c.admit.ensures in
    let r = c.from_residual-in_err-admit in
    let p = err_from_is_err_and r.result r.ensures.1 in
    rw (c.in_ok-family.ensures.ok_part, p.1, p.2) (record { yields = sym (admits_no _ _ _ _ c.in_err-admit.was h); limits = tt })
