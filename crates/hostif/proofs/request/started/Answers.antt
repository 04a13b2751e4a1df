use Rattle.std.proofs.Common.{arith}
use Rattle.hardware.specs.Prog.{or_err}
use Rattle.hardware.specs.Registers.{reply}
use Rattle.hardware.proofs.Ends.{poll_ends}
use Rattle.hardware.proofs.Prog.{over}
use Rattle.hardware.proofs.Longest.{longest_opened}
use Rattle.hostif.specs.Hostif.{POLLS, polling}
use Prim.Native.Nat.{◌*◌}
use Rattle.hostif.proofs.request.started.Goals as goal

pub returns-in-Ok : goal.returns-in-Ok
unfolding reply or_err polling
returns-in-Ok c = record { yields = λ l. rw c.in-Ok.is (over _ _ (c.poll.ensures.yields l) (rw c.watch.ensures at c.open.ensures.yields)); limits = λ m. c.poll.ensures.limits m (c.open.ensures.limits POLLS (omega arith)); within = omega (arith, c.poll.ensures.within, longest_opened _ (2 * POLLS) (rw c.watch.ensures at c.open.ensures.yields) (poll_ends _ POLLS _)) }
