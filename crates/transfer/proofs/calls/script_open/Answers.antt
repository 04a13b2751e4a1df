use Rattle.std.proofs.Common.{arith}
use Rattle.std.proofs.lemmas.Result.{err_from_is_err_and}
use Rattle.hardware.specs.Asked.{and_then, opened}
use Rattle.transfer.proofs.Laws.{judged_no}
use Rattle.transfer.specs.Calls.{open_script, said_script, stands_script}
use Rattle.transfer.specs.Left.{script_left}
use mathlib.Core.Path.{sym}
use Rattle.transfer.proofs.calls.script_open.Goals as goal

pub returns-in_err-judge : goal.returns-in_err-judge
unfolding open_script and_then opened said_script stands_script script_left
returns-in_err-judge c =
    let p = err_from_is_err_and c.from_residual-in_err-judge.result c.from_residual-in_err-judge.ensures.1 in
    rw (p.1, p.2) (record { yields = rw (← c.open_port.ensures, c.in_ok-p.was) (sym (judged_no c.args.script.now _ c.in_err-judge.was c.judge.ensures)); limits = tt; within = omega arith })
