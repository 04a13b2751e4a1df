use Rattle.std.proofs.Common.{arith}
use Rattle.hardware.specs.Marks.{marked, more}
use Rattle.bus.proofs.Laws.{picked}
use Rattle.hardware.specs.Prog.{pick}
use Rattle.hardware.proofs.Prog.{heard_on}
use Rattle.i2c.specs.Retry.{access_stage, access_retry, due_stage, due_retry, due_retry_next, rest_stage, rest_retry, retry_next, valid_stage, valid_retry, valid_retry_next}
use Rattle.transfer.specs.Attempt.{attempt_next, awaiting, valid_attempt_next}
use borrow.Author.Tests.{lt-ltb}
use Rattle.i2c.proofs.retry.trying.Goals as goal

pub returns : goal.returns
unfolding marked retry_next access_retry access_stage rest_retry rest_stage valid_retry_next valid_retry valid_stage due_retry_next due_retry due_stage more pick attempt_next awaiting valid_attempt_next
returns c = rw (c.hears.ensures, c.heard.ensures) (record { yields = λ port r how. heard_on _ _ _ _; limits = λ tries port r h g. picked _ _ (lt-ltb _ _ h) g; due = omega arith })
