use Rattle.std.proofs.lemmas.Result.{err_from_is_err_and}
use Rattle.std.proofs.Common.{arith}
use Rattle.hardware.proofs.Laws.{admits_fits, admits_typed, admits_no, admits_valid, admits_yes, both_true}
use lib.Dec.{eqb}
use Rattle.hardware.specs.Asked.{yes}
use Rattle.hardware.specs.Marks.{valid_held}
use Rattle.transfer.proofs.Laws.{script_rest}
use Rattle.transfer.specs.Calls.{said_script, stands_script, stepped_script, valid_script}
use Rattle.transfer.specs.Transfer.{handing}
use Rattle.bus.specs.Layout.{layout_of}
use Rattle.transfer.proofs.Left.{attempt_some}
use Rattle.transfer.specs.Left.{call_left, script_left}
use borrow.Author.Tests.{eqb-true}
use mathlib.Core.Path.{◌∙◌, ap, sym}
use Rattle.transfer.proofs.calls.script_on.Goals as goal

pub returns : goal.returns
unfolding stepped_script valid_script call_left
returns c =
    let args = c.args in
    let l = c.layout_of-l.ensures in
    let e = c.in_ok-admit.was in
    let h = rw (c.valid.ensures, c.access.ensures, l) at c.admit.ensures in
    let v = both_true (valid_held _ _) _ (admits_valid _ _ _ e h) in
    let w = both_true (eqb args.m.transfers 1) _ v.1 in
    let one = eqb-true args.m.transfers 1 w.0 in
    record {
      yields = c.told.ensures.yields args.script.now one ∙ ap yes (script_rest args.port args.m args.script.now args.t args.a _ (rw (l, c.device-device.ensures) at (c.step.ensures.yields handing))) ∙ sym (admits_yes _ _ _ _ e h);
      limits = λ f. c.told.ensures.limits args.script.now v.0 one (rw l at (c.step.ensures.limits f (rw l w.1)));
      within = λ g. omega (arith, c.told.ensures.within, rw l at (c.step.ensures.within g (rw l (admits_fits _ _ _ e h)) (admits_typed _ _ _ e h)));
    }

pub returns-in_err-admit : goal.returns-in_err-admit
unfolding stepped_script said_script stands_script call_left script_left
returns-in_err-admit c =
    let args = c.args in
    let h = rw (c.valid.ensures, c.access.ensures, c.layout_of-l.ensures) at c.admit.ensures in
    let p = err_from_is_err_and c.from_residual.result c.from_residual.ensures.1 in
    rw (p.1, p.2) (record { yields = sym (admits_no _ _ _ _ c.in_err-admit.was h); limits = λ f. tt; within = λ g. attempt_some (layout_of args.port.family) args.t })
