use Rattle.std.proofs.Common.{arith, rules}
use Rattle.bus.specs.Clear.{clear_next, valid_clear_next}
use Rattle.hardware.specs.Failures.{failure_of}
use Rattle.hardware.specs.Prog.{◌>>=◌, erase, followed}
use Rattle.hardware.proofs.Prog.{heard_on}
use Rattle.transfer.specs.Attempt.{access_attempt, heard_attempt, attempt_next, awaiting, cleared, or_cleared, rest_attempt, valid_attempt, valid_attempt_next}
use Rattle.transfer.specs.Left.{attempt_next_left, attempt_left}
use Rattle.hardware.specs.Registers.{reply}
use Rattle.transfer.proofs.attempt.cleared.Goals as goal

pub returns-in-Going : goal.returns-in-Going
unfolding attempt_next awaiting heard_attempt access_attempt rest_attempt valid_attempt_next valid_attempt clear_next valid_clear_next attempt_next_left attempt_left
returns-in-Going c =
    record {
      yields = λ m q s. rw c.in-Going.is (heard_on _ _ _ _);
      limits = λ s h. rw c.in-Going.is at h;
      within = rw c.in-Going.is (omega arith);
    }

pub returns-in-Ok : goal.returns-in-Ok
unfolding attempt_next reply followed ◌>>=◌ erase valid_attempt_next clear_next cleared or_cleared failure_of attempt_next_left
returns-in-Ok c = search rules

pub returns-in-Err : goal.returns-in-Err
unfolding attempt_next reply followed ◌>>=◌ erase valid_attempt_next clear_next cleared or_cleared attempt_next_left
returns-in-Err c = search rules
