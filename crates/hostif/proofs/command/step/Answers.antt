use Rattle.hardware.proofs.Longest.{longest_next}
use Rattle.hostif.proofs.Left.{sum_falls}
use Rattle.hostif.specs.Hostif.{access_command, rest_command, valid_command}
use Rattle.hostif.specs.Left.{command_left}
use Rattle.sync.specs.Resource.{acquire_bits_next, release_bits_next}
use native.Mathlib.Nat.{lt_of_le_of_lt}
use Rattle.hardware.proofs.Prog.{over}
use Rattle.hostif.proofs.command.step.Goals as goal

pub returns-in-Acquiring : goal.returns-in-Acquiring
unfolding rest_command valid_command command_left access_command acquire_bits_next
returns-in-Acquiring c = record { yields = rw c.in-Acquiring.is (over _ _ (c.acquiring.ensures.yields _) c.step.ensures.yields); limits = λ v. c.acquiring.ensures.limits _ (c.step.ensures.limits (rw c.in-Acquiring.is at v)); within = λ f h. rw c.in-Acquiring.is (sum_falls _ c.acquiring.ensures.within (longest_next _ _ _ c.step.ensures.yields (rw c.in-Acquiring.is at f) h)) }

pub returns-in-Releasing : goal.returns-in-Releasing
unfolding rest_command valid_command command_left access_command release_bits_next
returns-in-Releasing c = record { yields = rw c.in-Releasing.is (over _ _ (c.releasing.ensures.yields _) c.step-in-Releasing.ensures.yields); limits = λ v. c.releasing.ensures.limits _ (c.step-in-Releasing.ensures.limits (rw c.in-Releasing.is at v)); within = λ f h. rw c.in-Releasing.is (lt_of_le_of_lt c.releasing.ensures.within (longest_next _ _ _ c.step-in-Releasing.ensures.yields (rw c.in-Releasing.is at f) h)) }
