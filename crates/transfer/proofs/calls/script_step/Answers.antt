use Rattle.std.proofs.Common.{arith}
use Rattle.std.proofs.lemmas.Result.{err_from_is_err_and}
use Rattle.transfer.proofs.Laws.{judged_no}
use Rattle.transfer.specs.Calls.{said_script, stands_script, step_script}
use Rattle.transfer.specs.Left.{script_left}
use mathlib.Core.Path.{sym}
use Rattle.transfer.proofs.calls.script_step.Goals as goal

pub returns-in_err-judge : goal.returns-in_err-judge
unfolding step_script said_script stands_script script_left
returns-in_err-judge c =
    let p = err_from_is_err_and c.from_residual.result c.from_residual.ensures.1 in
    rw (p.1, p.2) (record {
      yields = sym (judged_no c.args.script.now _ c.in_err-judge.was c.judge.ensures);
      limits = tt;
      within = omega arith;
    })
