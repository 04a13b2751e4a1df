-- The line calls one access at a time: the access that is awaited, and what follows its answer.
use Rattle.std.specs.Prelude.{ℕ, Bool, true, leb, ltb}
use Rattle.hardware.specs.declared.Access.{Access}
use Rattle.hardware.specs.declared.Access.TheVariants.{Read, Write, Wait}
use Rattle.hardware.specs.declared.Answer.{Answer}
use Rattle.hardware.specs.Marks.{acknowledged}
use Rattle.hardware.specs.Prog.{Prog, ask, erase}
use Rattle.hardware.specs.Registers.{STATUS, raw, written, flushed, micros, reply}
use Rattle.bus.specs.declared.Layout.{Layout}
use Rattle.bus.specs.declared.line.Call.{Call}
use Rattle.bus.specs.declared.line.Call.TheVariants.{Look, Sda, Release, Up, Down, Wait as Pausing, Sample, Ack, Close}
use Rattle.bus.specs.declared.line.Goal.{Goal}
use Rattle.bus.specs.declared.line.Goal.TheVariants.{High, Free, Low, Release as Released, Down as Lowered, Up as Raised, Close as Closed}
use Rattle.bus.specs.declared.line.Line.{Line}
use Rattle.bus.specs.declared.line.Line.TheVariants.{Look as Looking, Pause, Sample as Sampling, Ack as Listening, Rest, Write as Writing, Flush, Settle, Check, Rise}
use Rattle.bus.specs.declared.line.LineState.{LineState}
use Rattle.bus.specs.Bus.{Held, Bus, or_held, flushing, get, wait, shifted, scl_seen, scl_tries, scl_high, scl_low, sda_seen, sda_free, sda, release_sda, look, look_seen, close, sample, sample_seen, ack_seen, ack_tries}
use Rattle.bus.specs.Aliases.{LineNext}
use Rattle.hardware.specs.declared.Next.TheVariants.{Going, End}

-- a bit was heard
unfoldable pub sensed : ℕ → (ℕ → Bus) → Bool → Bus
sensed bits k bit = k (shifted bits bit)

-- SCL goes low after the acknowledgement
abbrev pub ack_down : Layout → ℕ → (ℕ → Bus) → Bool → Bus
ack_down l bits k high = scl_low l (sensed bits k high)

-- a line call as a command makes it; bits: those heard so far, the newest lowest
unfoldable pub called : Layout → Call → ℕ → (ℕ → Bus) → Bus
called l Look bits k = look l (k bits)
called l (Sda high) bits k = sda l high (k bits)
called l Release bits k = release_sda l (k bits)
called l Up bits k = scl_high l (k bits)
called l Down bits k = scl_low l (k bits)
called l (Pausing us) bits k = wait us (k bits)
called l Sample bits k = sample l (sensed bits k)
called l Ack bits k = ack_tries l 10 (ack_down l bits k)
called l Close bits k = close l (k bits)

-- the wait after a word is put, where there is one
unfoldable pub settle_us : Goal → ℕ
settle_us High = 3
settle_us Free = 1
settle_us Low = 3
settle_us Released = 1
settle_us (Lowered left) = 1
settle_us (Raised left) = 1
settle_us Closed = 1

-- what follows the wait
unfoldable pub reached : Layout → Goal → Bus → Bus
reached l High k = sda_free l k
reached l Free k = get l (sda_seen l k)
reached l Low k = k
reached l Released k = k
reached l (Lowered left) k = k
reached l (Raised left) k = get l (scl_seen l (scl_tries l left k) k)
reached l Closed k = k

-- what follows the flush
unfoldable pub settled : Layout → Goal → Bus → Bus
settled l High k = wait 3 (sda_free l k)
settled l Free k = get l (sda_seen l k)
settled l Low k = wait 3 k
settled l Released k = wait 1 k
settled l (Lowered left) k = wait 1 k
settled l (Raised left) k = wait 1 (get l (scl_seen l (scl_tries l left k) k))
settled l Closed k = k

unfoldable pub access_at : Layout → ℕ → Line → Access
access_at l ctl Looking = Read l.reg
access_at l ctl (Pause us) = Wait (micros us)
access_at l ctl Sampling = Read l.reg
access_at l ctl (Listening left) = Read l.reg
access_at l ctl (Rest left) = Wait (micros 1)
access_at l ctl (Writing g) = Write l.reg ctl
access_at l ctl (Flush g) = Read STATUS
access_at l ctl (Settle g) = Wait (micros (settle_us g))
access_at l ctl Check = Read l.reg
access_at l ctl (Rise left) = Read l.reg

unfoldable pub access_line : Layout → LineState → Access
access_line l s = access_at l s.ctl s.line

-- the samples that were left when a byte was acknowledged just before the access; 10 where none was
unfoldable pub heard_goal : Goal → ℕ
heard_goal High = 10
heard_goal Free = 10
heard_goal Low = 10
heard_goal Released = 10
heard_goal (Lowered left) = left
heard_goal (Raised left) = 10
heard_goal Closed = 10

unfoldable pub heard_at : Line → ℕ
heard_at Looking = 10
heard_at (Pause us) = 10
heard_at Sampling = 10
heard_at (Listening left) = 10
heard_at (Rest left) = 10
heard_at (Writing g) = heard_goal g
heard_at (Flush g) = 10
heard_at (Settle g) = 10
heard_at Check = 10
heard_at (Rise left) = 10

abbrev pub heard_line : LineState → ℕ
heard_line s = heard_at s.line

unfoldable pub rest_at : Layout → ℕ → ℕ → Line → Answer → (ℕ → Bus) → Prog Held
rest_at l ctl bits Looking a k = or_held (look_seen l (k bits)) ctl (raw a)
rest_at l ctl bits (Pause us) a k = k bits ctl
rest_at l ctl bits Sampling a k = or_held (sample_seen l (sensed bits k)) ctl (raw a)
rest_at l ctl bits (Listening left) a k =
    or_held (ack_seen l left (ack_tries l left (ack_down l bits k)) (ack_down l bits k)) ctl (raw a)
rest_at l ctl bits (Rest left) a k = ack_tries l left (ack_down l bits k) ctl
rest_at l ctl bits (Writing g) a k = or_held (λ _. flushing (settled l g (k bits))) ctl (written a)
rest_at l ctl bits (Flush g) a k = or_held (λ _. settled l g (k bits)) ctl (flushed a)
rest_at l ctl bits (Settle g) a k = reached l g (k bits) ctl
rest_at l ctl bits Check a k = or_held (sda_seen l (k bits)) ctl (raw a)
rest_at l ctl bits (Rise left) a k = or_held (scl_seen l (scl_tries l left (k bits)) (k bits)) ctl (raw a)

unfoldable pub rest_line : Layout → LineState → Answer → (ℕ → Bus) → Prog Held
rest_line l s a k = rest_at l s.ctl s.bits s.line a k

unfoldable pub line_next : Layout → LineNext → (ℕ → Bus) → Prog Held
line_next l (Going s) k = acknowledged (heard_line s) (ask (access_line l s) (λ a. erase (rest_line l s a k)))
line_next l (End (ctl, bits, o)) k = erase (or_held (λ _. k bits) ctl (reply o))

-- the counters' limits: 500 tries, 10 samples, and no wait of a command is above 5 µs
unfoldable pub valid_goal : Goal → Bool
valid_goal High = true
valid_goal Free = true
valid_goal Low = true
valid_goal Released = true
valid_goal (Lowered left) = leb left 10
valid_goal (Raised left) = ltb left 500
valid_goal Closed = true

unfoldable pub valid_line : Line → Bool
valid_line Looking = true
valid_line (Pause us) = ltb us 6
valid_line Sampling = true
valid_line (Listening left) = ltb left 10
valid_line (Rest left) = ltb left 10
valid_line (Writing g) = valid_goal g
valid_line (Flush g) = valid_goal g
valid_line (Settle g) = valid_goal g
valid_line Check = true
valid_line (Rise left) = ltb left 500

unfoldable pub valid_line_next : LineNext → Bool
valid_line_next (Going s) = valid_line s.line
valid_line_next (End (ctl, bits, o)) = true

unfoldable pub valid_call : Call → Bool
valid_call (Pausing us) = ltb us 6
valid_call Look = true
valid_call (Sda high) = true
valid_call Release = true
valid_call Up = true
valid_call Down = true
valid_call Sample = true
valid_call Ack = true
valid_call Close = true
