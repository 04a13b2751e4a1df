use Rattle.std.proofs.lemmas.Result.{err_from_is_err_and}
use Rattle.hardware.proofs.Laws.{admits_no}
use Rattle.hardware.specs.Lent.{lent}
use Rattle.page.specs.Calls.{FilledAs, buffer_stepped, kept, said_page, stands_page, stepped_page}
use mathlib.Core.Path.{ap, sym}
use Rattle.page.proofs.calls.page_on.Goals as goal

pub returns-in_err-admit : goal.returns-in_err-admit
unfolding stepped_page buffer_stepped kept lent said_page stands_page FilledAs
returns-in_err-admit c =
    let h = rw (c.valid-ok.ensures, c.access.ensures) at c.admit.ensures in
    let p = err_from_is_err_and c.from_residual.result c.from_residual.ensures.1 in
    rw (p.1, p.2) (record { yields = ap (lent _) (sym (admits_no _ _ _ _ c.in_err-admit.was h)); limits = tt; holds = ap (kept _) (sym (admits_no _ _ _ _ c.in_err-admit.was h)); fills = tt })
