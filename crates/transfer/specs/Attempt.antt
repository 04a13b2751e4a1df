-- `attempt` of `i2c.rs`: the read of I2CCTL by `Bus::new`, the commands, and after an I2c failure the clearing.
use Rattle.std.specs.Prelude.{ℕ, Bool, true, List, Result}
use Rattle.hardware.specs.declared.Access.{Access}
use Rattle.hardware.specs.declared.Access.TheVariants.{Read}
use Rattle.hardware.specs.declared.Answer.{Answer}
use Rattle.hardware.specs.Failures.{Failure, I2c, failure_of}
use Rattle.hardware.specs.Marks.{acknowledged}
use Rattle.hardware.specs.Prog.{Prog, ret, ask, note, Attempt as Begins, erase, R, Ok, Err, or_err, ◌>>=◌, ◌>>?◌, pick}
use Rattle.hardware.specs.Registers.{read_raw, raw, reply}
use Rattle.bus.specs.declared.Layout.{Layout}
use Rattle.bus.specs.declared.Taken.{Taken}
use Rattle.bus.specs.Bus.{Held, Bus, none, is_i2c, clear, clear_rounds}
use Rattle.bus.specs.Clear.{access_clear, heard_clear, rest_clear, valid_clear}
use Rattle.script.specs.Script.{commands}
use Rattle.transfer.specs.declared.attempt.Sequence.{Sequence}
use Rattle.transfer.specs.declared.attempt.Sequence.TheVariants.{Pulses, Rounds}
use Rattle.transfer.specs.declared.attempt.Attempt.{Attempt}
use Rattle.transfer.specs.declared.attempt.Attempt.TheVariants.{New, Moving, Clearing}
use Rattle.transfer.specs.Transfer.{Mode, tells, transfer, access_transfer, heard_transfer, rest_transfer, valid_transfer}
use Rattle.transfer.specs.Aliases.{AttemptNext}
use Rattle.transfer.specs.declared.transfer.Handing.TheVariants.{Going, Read as Hands, End}
use Rattle.hardware.specs.declared.Error.{Error}

unfoldable pub clearing : Sequence → Layout → Bus
clearing Pulses l = clear l
clearing Rounds l = clear_rounds l

unfoldable pub or_i2c : ℕ → Failure → Failure
or_i2c device e = pick (is_i2c e) (I2c device) e

-- after the clearing the attempt has failed with the device, unless an access failed
unfoldable pub or_cleared : ℕ → R Taken → Prog (R Taken)
or_cleared device (Ok t) = ret (Err (I2c device))
or_cleared device (Err e) = ret (Err (or_i2c device e))

unfoldable pub cleared : ℕ → Held → Prog (R Taken)
cleared device h = or_cleared device h.out

unfoldable pub or_tried : Sequence → Layout → ℕ → ℕ → R Taken → Prog (R Taken)
or_tried q l device ctl (Ok t) = ret (Ok t)
or_tried q l device ctl (Err e) = pick (is_i2c e) (clearing q l ctl >>= cleared device) (ret (Err e))

unfoldable pub tried : Sequence → Layout → ℕ → Held → Prog (R Taken)
tried q l device h = or_tried q l device h.ctl h.out

unfoldable pub begun : Sequence → Layout → ℕ → Bus → ℕ → Prog (R Taken)
begun q l device f ctl = f ctl >>= tried q l device

-- once it has begun; f is what the Rust's closure does on the bus
unfoldable pub attempting : Sequence → Layout → ℕ → Bus → Prog (R Taken)
attempting q l device f = read_raw l.reg >>? begun q l device f

unfoldable pub attempt : Sequence → Layout → ℕ → Bus → Prog (R Taken)
attempt q l device f = note Begins (attempting q l device f)

unfoldable pub access_attempt : Layout → Attempt → Access
access_attempt l New = Read l.reg
access_attempt l (Moving t) = access_transfer l t
access_attempt l (Clearing c) = access_clear l c

-- the samples that were left when a byte was acknowledged just before the access; 10 where none was
unfoldable pub heard_attempt : Attempt → ℕ
heard_attempt New = 10
heard_attempt (Moving t) = heard_transfer t
heard_attempt (Clearing c) = heard_clear c

unfoldable pub rest_attempt : Mode → Sequence → Layout → ℕ → List ℕ → Attempt → Answer → Prog (R Taken)
rest_attempt m q l device s New a = or_err (begun q l device (transfer m l device (commands s) none)) (raw a)
rest_attempt m q l device s (Moving t) a = rest_transfer m l device s t a >>= tried q l device
rest_attempt m q l device s (Clearing c) a = rest_clear l c a >>= cleared device

unfoldable pub awaiting : Mode → Sequence → Layout → ℕ → List ℕ → Attempt → Prog (R Taken)
awaiting m q l device s t = acknowledged (heard_attempt t) (ask (access_attempt l t) (λ a. erase (rest_attempt m q l device s t a)))

unfoldable pub attempt_next : Mode → Sequence → Layout → ℕ → List ℕ → AttemptNext → Prog (R Taken)
attempt_next m q l device s (Going t) = awaiting m q l device s t
attempt_next m q l device s (Hands b t) = tells m b (awaiting m q l device s t)
attempt_next m q l device s (End g) = ret (reply g)

unfoldable pub valid_attempt : Layout → List ℕ → Attempt → Bool
valid_attempt l s New = true
valid_attempt l s (Moving t) = valid_transfer l s t
valid_attempt l s (Clearing c) = valid_clear l c

unfoldable pub valid_attempt_next : Layout → List ℕ → AttemptNext → Bool
valid_attempt_next l s (Going t) = valid_attempt l s t
valid_attempt_next l s (Hands b t) = valid_attempt l s t
valid_attempt_next l s (End g) = true
