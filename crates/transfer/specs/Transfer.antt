-- The commands of a script on the bus. A byte that was read is handed out with the access that follows it, where the
-- caller takes such bytes.
use Rattle.std.specs.Prelude.{ℕ, Bool, true, false, List, [], ◌∷◌, drop, Ok, Err}
use Rattle.hardware.specs.declared.Access.{Access}
use Rattle.hardware.specs.declared.Answer.{Answer}
use Rattle.hardware.specs.Failures.{failure_of}
use Rattle.hardware.specs.Marks.{acknowledged}
use Rattle.hardware.specs.Prog.{Prog, ret, ask, note, give, erase, pick}
use Rattle.bus.specs.declared.Layout.{Layout}
use Rattle.bus.specs.declared.Taken.{Taken}
use Rattle.bus.specs.declared.command.Command.{Command}
use Rattle.bus.specs.declared.command.Command.TheVariants.{Start, Send, Read, Stop, Free}
use Rattle.bus.specs.Bus.{Held, Bus, done, fail, took, start, stop, send, in_byte, out_bit}
use Rattle.bus.specs.Command.{freed, access_job, heard_job, rest_job, valid_job}
use Rattle.script.specs.Script.{commands, command_at, next_at, on_command}
use Rattle.transfer.specs.declared.transfer.Transfer.{Transfer}
use Rattle.transfer.specs.Aliases.{TransferNext}
use Rattle.transfer.specs.declared.transfer.Handing.TheVariants.{Going, Read as Hands, End}

-- a script's caller takes the bytes; the Rust's four transfers keep them
pub data Mode : Type 0 where
  handing keeping : Mode

-- a byte goes out with the next access; where none follows it does not
unfoldable pub tells : {A : Type 0} → Mode → ℕ → Prog A → Prog A
tells keeping b p = p
tells handing b (ret v) = ret v
tells handing b (ask x f) = give b (ask x f)
tells handing b (note n p) = note n (tells handing b p)
tells handing b (give d p) = give b p

-- a command as the Rust makes it; k is given the byte that was read
unfoldable pub did : Layout → ℕ → Command → (ℕ → Bus) → Bus
did l device Start k = start l (k 0)
did l device (Send value) k = send l device value (k 0)
did l device (Read high) k = in_byte l (λ value. out_bit l high (k value))
did l device Stop k = stop l (k 0)
did l device (Free p) k = freed l p k

unfoldable pub is_read : Command → Bool
is_read Start = false
is_read (Send value) = false
is_read (Read high) = true
is_read Stop = false
is_read (Free p) = false

unfoldable pub took_by : Command → Taken → ℕ → Taken
took_by c t b = pick (is_read c) (took t b) t

unfoldable pub handed : Mode → Command → ℕ → Bus → Bus
handed m c b k ctl = pick (is_read c) (tells m b (k ctl)) (k ctl)

unfoldable pub transfer : Mode → Layout → ℕ → List Command → Taken → Bus
transfer m l device [] t = done t
transfer m l device (c ∷ cs) t = did l device c (λ b. handed m c b (transfer m l device cs (took_by c t b)))

-- what follows the command at a position of a script
unfoldable pub ran_on : Mode → Layout → ℕ → List ℕ → ℕ → Taken → ℕ → Bus
ran_on m l device s at t b = handed m (command_at s at) b (transfer m l device (commands (drop (next_at s at) s)) (took_by (command_at s at) t b))

unfoldable pub access_transfer : Layout → Transfer → Access
access_transfer l t = access_job l t.job

abbrev pub heard_transfer : Transfer → ℕ
heard_transfer t = heard_job t.job

unfoldable pub rest_transfer : Mode → Layout → ℕ → List ℕ → Transfer → Answer → Prog Held
rest_transfer m l device s t a = rest_job l device (command_at s t.at) t.job a (ran_on m l device s t.at t.taken)

unfoldable pub asking : Mode → Layout → ℕ → List ℕ → Transfer → Prog Held
asking m l device s t = acknowledged (heard_transfer t) (ask (access_transfer l t) (λ a. erase (rest_transfer m l device s t a)))

unfoldable pub transfer_next : Mode → Layout → ℕ → List ℕ → TransferNext → Prog Held
transfer_next m l device s (Going t) = asking m l device s t
transfer_next m l device s (Hands b t) = tells m b (asking m l device s t)
transfer_next m l device s (End (ctl, t, Ok tt)) = done t ctl
transfer_next m l device s (End (ctl, t, Err e)) = fail (failure_of e) ctl

-- the position is that of a command of the script lent now, and the counters of the command are within their limits
unfoldable pub valid_transfer : Layout → List ℕ → Transfer → Bool
valid_transfer l s t = pick (on_command s t.at) (valid_job l (command_at s t.at) t.job) false

unfoldable pub valid_transfer_next : Layout → List ℕ → TransferNext → Bool
valid_transfer_next l s (Going t) = valid_transfer l s t
valid_transfer_next l s (Hands b t) = valid_transfer l s t
valid_transfer_next l s (End (ctl, t, o)) = true
