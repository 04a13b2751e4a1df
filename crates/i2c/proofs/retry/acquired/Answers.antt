use Rattle.std.proofs.Common.{arith, rules}
use Rattle.hardware.specs.Marks.{acknowledged, marked, more}
use Rattle.bus.proofs.Laws.{picked}
use Rattle.hardware.specs.Prog.{◌>>=◌, erase, followed, or_err, pick}
use Rattle.hardware.specs.Registers.{reply}
use Rattle.hardware.proofs.Prog.{going}
use Rattle.i2c.specs.Retry.{access_stage, access_retry, due_stage, due_retry, due_retry_next, rest_stage, rest_retry, retry_next, valid_stage, valid_retry, valid_retry_next}
use Rattle.sync.specs.Resource.{acquire_bits_next, valid_acquire_bits_next}
use borrow.Author.Tests.{lt-ltb}
use Rattle.i2c.proofs.retry.acquired.Goals as goal

pub returns-in-Going : goal.returns-in-Going
unfolding marked acknowledged retry_next access_retry access_stage rest_retry rest_stage valid_retry_next valid_retry valid_stage due_retry_next due_retry due_stage more pick acquire_bits_next valid_acquire_bits_next
returns-in-Going c = record { yields = λ port r how. rw c.in-Going.is (going _ _ _); limits = λ tries port r h g. picked _ _ (lt-ltb _ _ h) (rw c.in-Going.is at g); due = omega arith }

pub returns-in-Ok : goal.returns-in-Ok
unfolding acquire_bits_next followed ◌>>=◌ or_err reply
returns-in-Ok c = search rules

pub returns-in-Err : goal.returns-in-Err
unfolding retry_next reply acquire_bits_next followed ◌>>=◌ or_err erase valid_retry_next due_retry_next
returns-in-Err c = search rules
