use Rattle.std.proofs.lemmas.Result.{err_from_is_err_and}
use Rattle.hardware.proofs.Laws.{admits_no}
use Rattle.i2c.specs.Calls.{said_transfer, stands_transfer, step_transfer}
use mathlib.Core.Path.{sym}
use Rattle.i2c.proofs.calls.plain.Goals as goal

pub returns-in_err-admit : goal.returns-in_err-admit
unfolding step_transfer said_transfer stands_transfer
returns-in_err-admit c =
    let h = rw (c.valid.ensures, c.access.ensures) at c.admit.ensures in
    let p = err_from_is_err_and c.from_residual-in_err-admit.result c.from_residual-in_err-admit.ensures.1 in
    rw (c.in_ok-port.ensures.ok_part, p.1, p.2) (record { yields = sym (admits_no _ _ _ _ c.in_err-admit.was h); limits = tt })
