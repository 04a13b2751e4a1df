-- A command gives its lock back after its body failed: the body's failure is the result's, whatever fails there.
use Rattle.std.specs.Prelude.{ℕ, Bool, true, false, eqb, Ok, Err, Result, Some, None}
use Rattle.hostif.specs.declared.command.Command.{Command}
use Rattle.hostif.specs.declared.command.Command.TheVariants.{Acquiring, Requesting, Responding, Releasing}
use Rattle.acquire.specs.declared.acquire.Stage.{Stage}
use Rattle.acquire.specs.declared.acquire.Stage.TheVariants.{Bits as StageBits, Token as StageToken, Releasing as StageReleasing, Waiting as StageWaiting}
use Rattle.acquire.specs.declared.release.Release.{Release}
use Rattle.acquire.specs.declared.release.Release.TheVariants.{Token as ReleaseToken, Bits as ReleaseBits}
use Rattle.flat.specs.declared.State.{State}
use Rattle.flat.specs.Pick.{pick}
use Rattle.flat.specs.Hostif.{the_command_call, the_token_call}
use Rattle.flat.specs.Acquire.{the_acquire_call, the_release_call}
use Rattle.hardware.specs.declared.Error.{Error}
use Rattle.hostif.specs.Aliases.{CommandCall, TokenCall}
use Rattle.acquire.specs.Aliases.{ReleaseCall, AcquireCall}

unfoldable pub failed : (Result ℕ Error) → Bool
failed (Ok b) = false
failed (Err e) = true

unfoldable pub in_command : Command → Bool
in_command (Acquiring s) = false
in_command (Requesting s) = false
in_command (Responding s) = false
in_command (Releasing s b) = failed b

-- the calls that make a command
unfoldable pub in_stage : Stage → Bool
in_stage (StageBits s hw) = false
in_stage (StageToken t) = in_command t.command
in_stage (StageReleasing s f) = false
in_stage StageWaiting = false

unfoldable pub in_release : Release → Bool
in_release (ReleaseToken t) = in_command t.command
in_release (ReleaseBits s o) = false

unfoldable pub in_command_call : CommandCall → Bool
in_command_call (Some (port, t)) = in_command t
in_command_call None = false

unfoldable pub in_token_call : TokenCall → Bool
in_token_call (Some (port, take, t)) = in_command t.command
in_token_call None = false

unfoldable pub in_acquire_call : AcquireCall → Bool
in_acquire_call (Some (port, mask, t)) = in_stage t.stage
in_acquire_call None = false

unfoldable pub in_release_call : ReleaseCall → Bool
in_release_call (Some (port, mask, t)) = in_release t
in_release_call None = false

unfoldable pub kept_as : ℕ → State → Bool
kept_as call s =
    pick (eqb call 5) (in_acquire_call (the_acquire_call s))
    (pick (eqb call 6) (in_release_call (the_release_call s))
    (pick (eqb call 7) (in_token_call (the_token_call s))
    (pick (eqb call 8) (in_command_call (the_command_call s))
    false)))

unfoldable pub failure_kept : State → Bool
failure_kept s = kept_as s.call s
