-- The clearing sequences one access at a time.
use Rattle.std.specs.Prelude.{ℕ, Bool, true, false, eqb, ltb, Ok, Err}
use Rattle.hardware.specs.declared.Access.{Access}
use Rattle.hardware.specs.declared.Answer.{Answer}
use Rattle.hardware.specs.Failures.{failure_of}
use Rattle.hardware.specs.Marks.{acknowledged}
use Rattle.hardware.specs.Prog.{Prog, ask, erase, pick, ◌>>=◌}
use Rattle.bus.specs.declared.Layout.{Layout}
use Rattle.bus.specs.declared.command.Command.{Command}
use Rattle.bus.specs.declared.command.Command.TheVariants.{Start, Stop, Free}
use Rattle.bus.specs.declared.command.Piece.TheVariants.{Pulses, Probe, Lower, Pull}
use Rattle.bus.specs.declared.job.Job.{Job}
use Rattle.bus.specs.declared.clear.Part.{Part}
use Rattle.bus.specs.declared.clear.Part.TheVariants.{First, Free as Freeing, Again, Stop as Stopping, Probe as Probing, Lower as Lowering, Pull as Pulling}
use Rattle.bus.specs.declared.clear.Clear.{Clear}
use Rattle.bus.specs.Bus.{Held, Bus, done, fail, none, wait, scl_low, quieted, clear_stop, clear_again, clear_free, pulled, rounds}
use Rattle.bus.specs.Command.{access_job, heard_job, rest_job, valid_job}
use Rattle.bus.specs.Aliases.{ClearNext}
use Rattle.hardware.specs.declared.Next.TheVariants.{Going, End}

unfoldable pub command_of : Part → Command
command_of First = Start
command_of Freeing = Free Pulses
command_of Again = Start
command_of Stopping = Stop
command_of (Probing left) = Free Probe
command_of (Lowering left) = Free Lower
command_of Pulling = Free Pull

unfoldable pub access_clear : Layout → Clear → Access
access_clear l s = access_job l s.job

-- as of any command; no sequence sends a byte
abbrev pub heard_clear : Clear → ℕ
heard_clear s = heard_job s.job

-- SDA was read in a round, the bit heard being 1 where it is high; so many rounds are left
unfoldable pub probed : Layout → ℕ → ℕ → Bus
probed l left bits = pick (eqb bits 0) (scl_low l (wait 5 (rounds l left))) (pulled l)

unfoldable pub rest_part : Layout → Part → Job → Answer → Prog Held
rest_part l First j a = rest_job l 0 Start j a (λ _. done none) >>= quieted (clear_free l)
rest_part l Freeing j a = rest_job l 0 (Free Pulses) j a (λ _. clear_again l)
rest_part l Again j a = rest_job l 0 Start j a (λ _. done none) >>= quieted (clear_stop l)
rest_part l Stopping j a = rest_job l 0 Stop j a (λ _. done none) >>= quieted (done none)
rest_part l (Probing left) j a = rest_job l 0 (Free Probe) j a (probed l left)
rest_part l (Lowering left) j a = rest_job l 0 (Free Lower) j a (λ _. rounds l left)
rest_part l Pulling j a = rest_job l 0 (Free Pull) j a (λ _. clear_stop l)

unfoldable pub rest_clear : Layout → Clear → Answer → Prog Held
rest_clear l s a = rest_part l s.part s.job a

unfoldable pub clear_next : Layout → ClearNext → Prog Held
clear_next l (Going s) = acknowledged (heard_clear s) (ask (access_clear l s) (λ a. erase (rest_clear l s a)))
clear_next l (End (ctl, (Ok tt))) = done none ctl
clear_next l (End (ctl, (Err e))) = fail (failure_of e) ctl

-- fewer than ten rounds are left behind this one
unfoldable pub valid_part : Part → Bool
valid_part First = true
valid_part Freeing = true
valid_part Again = true
valid_part Stopping = true
valid_part (Probing left) = ltb left 10
valid_part (Lowering left) = ltb left 10
valid_part Pulling = true

unfoldable pub valid_clear : Layout → Clear → Bool
valid_clear l s = pick (valid_part s.part) (valid_job l (command_of s.part) s.job) false

unfoldable pub valid_clear_next : Layout → ClearNext → Bool
valid_clear_next l (Going s) = valid_clear l s
valid_clear_next l (End (ctl, o)) = true
