use Rattle.hardware.specs.Change.{update_next}
use Rattle.hardware.specs.Poll.{poll_next}
use Rattle.hardware.proofs.Longest.{longest_next}
use Rattle.hostif.proofs.Left.{sum_falls}
use Rattle.hostif.specs.Hostif.{POLLS, access_request, rest_request, valid_request}
use Rattle.hostif.specs.Left.{request_left}
use Rattle.hardware.proofs.Prog.{over}
use native.Mathlib.Nat.{lt_of_le_of_lt}
use Rattle.hostif.proofs.request.step.Goals as goal

pub returns-in-Fwsts : goal.returns-in-Fwsts
unfolding rest_request request_left access_request update_next
returns-in-Fwsts c = record { yields = λ l h. rw c.in-Fwsts.is (over _ _ (c.fwsts.ensures.yields l) (rw c.fwri.ensures at c.step.ensures)); limits = λ v. c.fwsts.ensures.limits _; within = λ l f h. rw c.in-Fwsts.is (sum_falls _ c.fwsts.ensures.within (longest_next _ _ _ (rw c.fwri.ensures at c.step.ensures) (rw c.in-Fwsts.is at f) h)) }

pub returns-in-Polling : goal.returns-in-Polling
unfolding rest_request valid_request request_left access_request poll_next
returns-in-Polling c = record { yields = λ l h. rw c.in-Polling.is (over _ _ (c.poll.ensures.yields l) (rw c.watch.ensures at c.step-in-Polling.ensures.yields)); limits = λ v. c.poll.ensures.limits _ (c.step-in-Polling.ensures.limits POLLS (rw c.in-Polling.is at v)); within = λ l f h. rw c.in-Polling.is (lt_of_le_of_lt c.poll.ensures.within (longest_next _ _ _ (rw c.watch.ensures at c.step-in-Polling.ensures.yields) (rw c.in-Polling.is at f) h)) }
