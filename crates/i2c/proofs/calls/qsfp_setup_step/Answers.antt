use Rattle.std.proofs.lemmas.Result.{err_from_is_err_and}
use Rattle.hardware.proofs.Laws.{admits_no}
use Rattle.i2c.specs.Calls.{said_setup, stands_setup, step_setup}
use mathlib.Core.Path.{sym}
use Rattle.i2c.proofs.calls.qsfp_setup_step.Goals as goal

pub returns-in_err-admit : goal.returns-in_err-admit
unfolding step_setup said_setup stands_setup
returns-in_err-admit c =
    let h = rw (c.access.ensures, c.setup_bus.ensures) at c.admit.ensures in
    let p = err_from_is_err_and c.from_residual-in_err-admit.result c.from_residual-in_err-admit.ensures.1 in
    rw (c.in_ok-u.ensures.ok_part, p.1, p.2) (record { yields = sym (admits_no _ _ _ _ c.in_err-admit.was h); limits = tt })
