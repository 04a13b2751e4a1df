use Rattle.std.proofs.Common.{arith}
use Rattle.hardware.specs.Marks.{acknowledged, marked, more}
use Rattle.bus.proofs.Laws.{picked}
use Rattle.hardware.specs.Prog.{◌>>=◌, ask, erase, or_err, pick}
use Rattle.hardware.specs.Registers.{micros}
use Rattle.hardware.specs.declared.Access.TheVariants.{Wait}
use Rattle.i2c.proofs.Laws.{tries_reads}
use Rattle.i2c.specs.I2c.{read_judged}
use Rattle.i2c.specs.Retry.{access_stage, access_retry, due_stage, due_retry, due_retry_next, rest_stage, rest_retry, retry_next, valid_stage, valid_retry, valid_retry_next}
use borrow.Author.Tests.{lt-ltb}
use mathlib.Core.Path.{ap, refl}
use Rattle.i2c.proofs.retry.judge.Goals as goal

pub returns-then-pauses : goal.returns-then-pauses
unfolding read_judged retry_next access_retry access_stage rest_retry rest_stage marked acknowledged valid_retry_next valid_retry valid_stage due_retry_next due_retry due_stage more pick erase ◌>>=◌ or_err
returns-then-pauses c = record { yields = λ w. rw (← c.failed.ensures, c.if-failed.true, ← c.pauses.ensures, c.if-pauses.true) (ap (λ p. ask (Wait (micros 100000)) (λ a. erase p)) (tries_reads c.args.port c.args.r c.args.how c.args.left w)); limits = λ tries h. picked _ _ (lt-ltb _ _ h) refl; due = omega arith }
