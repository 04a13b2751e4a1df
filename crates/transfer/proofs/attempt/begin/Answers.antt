use Rattle.std.proofs.Common.{arith}
use Rattle.hardware.specs.Prog.{or_err}
use Rattle.hardware.specs.Registers.{reply}
use Rattle.hardware.proofs.Prog.{over}
use Rattle.transfer.specs.Attempt.{begun}
use Rattle.transfer.specs.Left.{COMMANDS_STEPS}
use Rattle.transfer.proofs.attempt.begin.Goals as goal

pub returns-in-Ok : goal.returns-in-Ok
unfolding or_err reply begun
returns-in-Ok c =
    record {
      yields = λ m. rw c.in-Ok.is (over _ _ (c.from_transfer.ensures.yields m c.args.script.now) (c.from.ensures.yields m c.args.device));
      limits = λ h. c.from_transfer.ensures.limits c.args.script.now (c.from.ensures.limits (λ lt. h));
      within = omega (arith, c.from_transfer.ensures.within, c.from.ensures.within COMMANDS_STEPS (omega arith) (λ lt. omega arith));
    }
