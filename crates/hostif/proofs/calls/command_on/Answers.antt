use Rattle.std.proofs.lemmas.Result.{err_from_is_err_and}
use Rattle.hardware.proofs.Laws.{admits_no}
use Rattle.hostif.specs.Calls.{said_command, stands_command, stepped}
use Rattle.hostif.specs.Left.{told_left}
use Rattle.hardware.specs.Lent.{lent}
use Rattle.hostif.proofs.Left.{command_some}
use mathlib.Core.Path.{ap, sym}
use Rattle.hostif.proofs.calls.command_on.Goals as goal

pub returns-in_err-admit : goal.returns-in_err-admit
unfolding stepped lent said_command stands_command told_left
returns-in_err-admit c =
    let h = rw (c.valid_command-valid.ensures, c.access.ensures) at c.admit.ensures in
    let p = err_from_is_err_and c.from_residual.result c.from_residual.ensures.1 in
    rw (p.1, p.2) (record { yields = ap (lent _) (sym (admits_no _ _ _ _ c.in_err-admit.was h)); limits = tt; within = command_some _ _ })
