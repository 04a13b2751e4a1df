-- The accesses left of the call of a script, at most: a number of the state, whatever accepted script is lent to each later
-- step, since the position rises with every command and a script has at most 64 bytes. It falls at every accepted step.
use Rattle.std.specs.Prelude.{ℕ, ◌+◌, ◌*◌, ◌-◌, Ok, Err, Some, None}
use Rattle.hardware.specs.Longest.{longest}
use Rattle.bus.specs.declared.Layout.{Layout}
use Rattle.bus.specs.Clear.{clear_next}
use Rattle.bus.specs.Layout.{layout_of}
use Rattle.bus.specs.Steps.{CLEAR_STEPS, JOB_STEPS}
use Rattle.bus.specs.Left.{job_left}
use Rattle.transfer.specs.declared.transfer.Transfer.{Transfer}
use Rattle.transfer.specs.declared.attempt.Attempt.{Attempt}
use Rattle.transfer.specs.declared.attempt.Attempt.TheVariants.{New, Moving, Clearing}
use Rattle.transfer.specs.Aliases.{AttemptNext, TransferNext, ScriptTold, ScriptCall}
use Rattle.hardware.specs.declared.Next.TheVariants.{Going}
use Rattle.transfer.specs.declared.transfer.Handing.TheVariants.{Going as Goes, Read as Hands, End as Ended}
use Rattle.transfer.specs.declared.calls.Said.TheVariants.{Ask, Read as Reads, End as Ends}

-- the commands behind a position, and the clearing that may follow them
abbrev pub behind : ℕ → ℕ
behind at = JOB_STEPS * (63 - at) + CLEAR_STEPS

-- all commands of a script, and the clearing
abbrev pub COMMANDS_STEPS : ℕ
COMMANDS_STEPS = JOB_STEPS * 64 + CLEAR_STEPS

-- those of the command that is being made, and of the commands behind it, which may be any
unfoldable pub transfer_left : Layout → Transfer → ℕ
transfer_left l t = job_left l t.job + behind t.at

unfoldable pub transfer_next_left : Layout → TransferNext → ℕ
transfer_next_left l (Goes t) = transfer_left l t
transfer_next_left l (Hands b t) = transfer_left l t
transfer_next_left l (Ended (ctl, t, o)) = CLEAR_STEPS

-- nothing is lent to the clearing
unfoldable pub attempt_left : Layout → Attempt → ℕ
attempt_left l New = 1 + COMMANDS_STEPS
attempt_left l (Moving t) = transfer_left l t
attempt_left l (Clearing c) = longest (clear_next l (Going c))

unfoldable pub attempt_next_left : Layout → AttemptNext → ℕ
attempt_next_left l (Goes t) = attempt_left l t
attempt_next_left l (Hands b t) = attempt_left l t
attempt_next_left l (Ended g) = 0

unfoldable pub call_left : ScriptCall → ℕ
call_left (Some (port, m, t)) = attempt_left (layout_of port.family) t
call_left None = 0

unfoldable pub script_left : ScriptTold → ℕ
script_left (Ok (Ask x c)) = call_left c
script_left (Ok (Reads b x c)) = call_left c
script_left (Ok (Ends o m)) = 0
script_left (Err q) = 0
