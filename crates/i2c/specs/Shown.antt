-- The attempts that a list of accesses shows, by the clearing sequence of the call. An attempt begins with a read of I2CCTL,
-- and its line calls read I2CCTL again and again. What tells an attempt's first read from the others:
--   other registers, or nothing, stand before it; or
--   the clearing sequence of the attempt before stands there, and has ended. Within the sequence a wait of 1, 3 or 4 µs stands
--   between two reads of I2CCTL; between its last read and the next attempt's first stands at most the end of a stop: a wait
--   of 5 µs, a write of I2CCTL and its flush. Rounds may also end with SCL's lowering and a wait of 5 µs; within it a wait of
--   1, 3 or 4 µs stands between any wait of 5 µs and the next read as well.
-- The clearing sequence itself has begun where, in the commands of an attempt,
--   a sample of the acknowledgement and its wait of 1 µs are followed by a write: SDA was high in all of them; or
--   SDA was seen low by a read that is not the attempt's first. Pulses then begins with a read, directly behind that one. Rounds
--   begins with two writes, a wait of 1 µs between them: SDA is released, and SCL raised. In the commands a read, a write and a
--   wait of 1 µs are followed by a read or by a wait of 5 µs.
use Rattle.std.specs.Prelude.{ℕ, ◌≡◌, Bool, true, false, List, [], ◌∷◌, ◌++◌, eqb}
use Rattle.hardware.specs.declared.Access.{Access}
use Rattle.hardware.specs.declared.Access.TheVariants.{Read, Write, Wait}
use Rattle.hardware.specs.declared.Answer.{Answer}
use Rattle.hardware.specs.Marks.{more}
use Rattle.hardware.specs.Prog.{Prog, pick, Counted, blank, tally}
use Rattle.hardware.specs.Registers.{STATUS}
use Rattle.hardware.specs.Runs.{Status, ended, waiting, Run, run, transfers_in}
use Rattle.bus.specs.declared.Layout.{Layout}
use Rattle.transfer.specs.declared.attempt.Sequence.{Sequence}
use Rattle.transfer.specs.declared.attempt.Sequence.TheVariants.{Pulses, Rounds}

-- What the accesses so far tell. outside: no attempt is on; inside: the commands of one; looked: there, behind a read of I2CCTL
-- that is not its first, with no wait since; sampled: there, with one wait since, of 1 µs; freeing: the clearing sequence;
-- freed: there, behind a read of I2CCTL, or with Rounds a wait of 5 µs, with no wait but of 5 µs since, so that it may have ended
pub data Phase : Type 0 where
  outside inside looked sampled freeing freed : Phase

-- a read of I2CCTL begins an attempt
abbrev pub opens : Phase → Bool
opens outside = true
opens inside = false
opens looked = false
opens sampled = false
opens freeing = false
opens freed = true

-- behind a read of I2CCTL
abbrev pub on_read : Phase → Phase
on_read outside = inside
on_read inside = looked
on_read looked = freed
on_read sampled = looked
on_read freeing = freed
on_read freed = inside

-- behind a write of I2CCTL, or a flush
abbrev pub on_write : Phase → Phase
on_write outside = outside
on_write inside = inside
on_write looked = looked
on_write sampled = freeing
on_write freeing = freeing
on_write freed = freed

-- behind a wait of 5 µs in the clearing sequence, where another wait stands behind the last read
abbrev pub rested : Sequence → Phase
rested Pulses = freeing
rested Rounds = freed

-- behind a wait of so many µs
abbrev pub on_wait : Sequence → ℕ → Phase → Phase
on_wait q us outside = outside
on_wait q us inside = inside
on_wait q us looked = pick (eqb us 1) sampled inside
on_wait q us sampled = inside
on_wait q us freeing = pick (eqb us 5) (rested q) freeing
on_wait q us freed = pick (eqb us 5) freed freeing

-- behind any access; one to another register ends what was on
unfoldable pub phase_after : Sequence → Layout → Phase → Access → Phase
phase_after q l s (Read r) = pick (eqb r l.reg) (on_read s) (pick (eqb r STATUS) (on_write s) outside)
phase_after q l s (Write r v) = pick (eqb r l.reg) (on_write s) outside
phase_after q l s (Wait us) = on_wait q us.0 s

unfoldable pub begins : Layout → Phase → Access → Bool
begins l s (Read r) = pick (eqb r l.reg) (opens s) false
begins l s (Write r v) = false
begins l s (Wait us) = false

unfoldable pub shown_from : Sequence → Layout → Phase → List Access → ℕ
shown_from q l s [] = 0
shown_from q l s (x ∷ xs) = more (begins l s x) (shown_from q l (phase_after q l s x) xs)

-- of a call from its beginning
abbrev pub shown : Sequence → Layout → List Access → ℕ
shown q l xs = shown_from q l outside xs

unfoldable pub awaited_of : {A : Type 0} → Status A → List Access
awaited_of (ended v) = []
awaited_of (waiting x) = x ∷ []

-- all that a run has asked for: the accesses that were answered, and the one that is awaited
abbrev pub asked_for : {A : Type 0} → Run A → List Access
asked_for r = r.accesses ++ awaited_of r.status

-- a run shows the attempts that it begins, and where it has ended those that its result tells
pub record Shown {A : Type 0} (q : Sequence) (l : Layout) (p : Prog A) (answers : List Answer) : Type 0 where
  pub begun : shown q l (asked_for (run p answers)) ≡ transfers_in p answers
  pub told : (c : Counted A) → (run (tally blank p) answers).status ≡ ended c → c.meter.transfers ≡ shown q l (run (tally blank p) answers).accesses
