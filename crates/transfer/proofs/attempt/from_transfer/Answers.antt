use Rattle.std.proofs.Common.{arith, rules}
use Rattle.hardware.specs.Prog.{◌>>=◌, erase, followed}
use Rattle.hardware.proofs.Prog.{heard_on}
use Rattle.transfer.proofs.Laws.{told_on}
use Rattle.transfer.specs.Attempt.{access_attempt, heard_attempt, attempt_next, awaiting, or_tried, rest_attempt, tried, valid_attempt, valid_attempt_next}
use Rattle.transfer.specs.Transfer.{asking, transfer_next, valid_transfer_next}
use Rattle.transfer.specs.Left.{attempt_next_left, attempt_left, transfer_next_left}
use Rattle.hardware.specs.Registers.{reply}
use Rattle.transfer.proofs.attempt.from_transfer.Goals as goal

pub returns-in-Going : goal.returns-in-Going
unfolding attempt_next awaiting heard_attempt access_attempt rest_attempt valid_attempt_next valid_attempt transfer_next asking valid_transfer_next attempt_next_left attempt_left transfer_next_left
returns-in-Going c =
    record {
      yields = λ m s. rw c.in-Going.is (heard_on _ _ _ _);
      limits = λ s h. rw c.in-Going.is at h;
      within = rw c.in-Going.is (omega arith);
    }

pub returns-in-Read : goal.returns-in-Read
unfolding attempt_next awaiting heard_attempt access_attempt rest_attempt valid_attempt_next valid_attempt transfer_next asking valid_transfer_next attempt_next_left attempt_left transfer_next_left
returns-in-Read c =
    record {
      yields = λ m s. rw c.in-Read.is (told_on m _ _ _ _ _);
      limits = λ s h. rw c.in-Read.is at h;
      within = rw c.in-Read.is (omega arith);
    }

pub returns-in-Ok : goal.returns-in-Ok
unfolding attempt_next reply followed ◌>>=◌ erase valid_attempt_next transfer_next tried or_tried attempt_next_left
returns-in-Ok c = search rules

pub returns-in-Err : goal.returns-in-Err
unfolding transfer_next followed ◌>>=◌ tried transfer_next_left
returns-in-Err c = search rules
