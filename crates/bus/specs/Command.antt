-- The commands as lists of line calls, indexed by the number of calls after the one that is given, and the machine
-- that makes them. `proofs/Commands.antt` shows that each list is the program of the Rust's name.
use Rattle.std.specs.Prelude.{ℕ, ◌-◌, ◌/◌, ◌%◌, suc, zero, Bool, true, false, eqb, ltb}
use Rattle.hardware.specs.declared.Access.{Access}
use Rattle.hardware.specs.declared.Answer.{Answer}
use Rattle.hardware.specs.Failures.{I2c}
use Rattle.hardware.specs.Marks.{acknowledged}
use Rattle.hardware.specs.Prog.{Prog, ask, erase, pick}
use Rattle.hardware.specs.Registers.{reply}
use Rattle.bus.specs.declared.Layout.{Layout}
use Rattle.bus.specs.declared.line.Call.{Call}
use Rattle.bus.specs.declared.line.Call.TheVariants.{Look, Sda, Release, Up, Down, Wait, Sample, Ack, Close}
use Rattle.bus.specs.declared.command.Command.{Command}
use Rattle.bus.specs.declared.command.Command.TheVariants.{Start, Send, Read, Stop, Free}
use Rattle.bus.specs.declared.command.Piece.{Piece}
use Rattle.bus.specs.declared.command.Piece.TheVariants.{Pulses, Probe, Lower, Pull}
use Rattle.bus.specs.declared.job.Job.{Job}
use Rattle.bus.specs.Bus.{Held, Bus, or_held, fail, bit_of, shifted, wait, sample, scl_high, scl_low, sda, release_sda, pulses}
use Rattle.bus.specs.Line.{called, access_line, heard_line, rest_line, valid_line}
use Rattle.bus.specs.Aliases.{JobNext}
use Rattle.hardware.specs.declared.Next.TheVariants.{Going, End}

-- how every bit ends: Up, a wait, Down, a wait
unfoldable pub pulse_call : ℕ → Call
pulse_call zero = Wait 5
pulse_call (suc zero) = Down
pulse_call (suc (suc zero)) = Wait 4
pulse_call (suc (suc (suc n))) = Up

unfoldable pub out_bit_call : Bool → ℕ → Call
out_bit_call high n = pick (ltb n 4) (pulse_call n) (Sda high)

-- SDA is released, and heard while SCL is high: a bit
unfoldable pub sense_call : ℕ → Call
sense_call zero = Wait 5
sense_call (suc zero) = Down
sense_call (suc (suc zero)) = Sample
sense_call (suc (suc (suc zero))) = Wait 4
sense_call (suc (suc (suc (suc zero)))) = Up
sense_call (suc (suc (suc (suc (suc n))))) = Release

-- or the acknowledgement, after which SCL goes low
unfoldable pub ack_call : ℕ → Call
ack_call zero = Wait 5
ack_call (suc zero) = Ack
ack_call (suc (suc zero)) = Wait 4
ack_call (suc (suc (suc zero))) = Up
ack_call (suc (suc (suc (suc n)))) = Release

unfoldable pub start_call : ℕ → Call
start_call zero = Wait 5
start_call (suc zero) = Down
start_call (suc (suc zero)) = Wait 4
start_call (suc (suc (suc zero))) = Sda false
start_call (suc (suc (suc (suc zero)))) = Wait 5
start_call (suc (suc (suc (suc (suc zero))))) = Up
start_call (suc (suc (suc (suc (suc (suc zero)))))) = Sda true
start_call (suc (suc (suc (suc (suc (suc (suc n))))))) = Look

unfoldable pub stop_call : ℕ → Call
stop_call zero = Wait 5
stop_call (suc zero) = Sda true
stop_call (suc (suc zero)) = Wait 4
stop_call (suc (suc (suc zero))) = Up
stop_call (suc (suc (suc (suc n)))) = Sda false

-- on the X552 and X553 a stop ends with one call more
unfoldable pub end_call : Layout → ℕ → Call
end_call l n = pick (eqb l.bben 0) (stop_call n) (pick (eqb n 0) Close (stop_call (n - 1)))

-- eight bits, the highest first, and the acknowledgement
unfoldable pub send_call : ℕ → ℕ → Call
send_call value n = pick (ltb n 5) (ack_call n) (out_bit_call (bit_of value ((n - 5) / 5)) ((n - 5) % 5))

-- eight bits, and the acknowledge bit
unfoldable pub read_call : Bool → ℕ → Call
read_call high n = pick (ltb n 5) (out_bit_call high n) (sense_call ((n - 5) % 6))

-- SDA released and nine pulses
unfoldable pub pulses_call : ℕ → Call
pulses_call n = pick (ltb n 36) (pulse_call (n % 4)) Release

-- SDA released, SCL raised and SDA read
unfoldable pub probe_call : ℕ → Call
probe_call zero = Sample
probe_call (suc zero) = Wait 4
probe_call (suc (suc zero)) = Up
probe_call (suc (suc (suc n))) = Release

-- SCL is lowered, and SDA pulled before it, as at the end of a start
unfoldable pub free_call : Piece → ℕ → Call
free_call Pulses n = pulses_call n
free_call Probe n = probe_call n
free_call Lower n = start_call n
free_call Pull n = start_call n

unfoldable pub call_at : Layout → Command → ℕ → Call
call_at l Start n = start_call n
call_at l (Send value) n = send_call value n
call_at l (Read high) n = read_call high n
call_at l Stop n = end_call l n
call_at l (Free p) n = free_call p n

unfoldable pub stop_count : Layout → ℕ
stop_count l = pick (eqb l.bben 0) 5 6

unfoldable pub free_count : Piece → ℕ
free_count Pulses = 37
free_count Probe = 4
free_count Lower = 2
free_count Pull = 4

unfoldable pub call_count : Layout → Command → ℕ
call_count l Start = 8
call_count l (Send value) = 45
call_count l (Read high) = 53
call_count l Stop = stop_count l
call_count l (Free p) = free_count p

-- the pieces of the clearing sequences as programs; the bit heard is handed on
unfoldable pub freed : Layout → Piece → (ℕ → Bus) → Bus
freed l Pulses k = release_sda l (pulses l 9 (k 0))
freed l Probe k = release_sda l (scl_high l (wait 4 (sample l (λ high. k (shifted 0 high)))))
freed l Lower k = scl_low l (wait 5 (k 0))
freed l Pull k = sda l false (wait 4 (scl_low l (wait 5 (k 0))))

-- the calls are made; a byte sent is acknowledged if SDA was heard low
unfoldable pub finished : ℕ → Command → (ℕ → Bus) → ℕ → Bus
finished device Start k bits = k bits
finished device (Send value) k bits = pick (eqb bits 0) (k bits) (fail (I2c device))
finished device (Read high) k bits = k bits
finished device Stop k bits = k bits
finished device (Free p) k bits = k bits

-- the last n calls of a command
unfoldable pub calls_left : Layout → ℕ → Command → ℕ → (ℕ → Bus) → ℕ → Bus
calls_left l device c zero k bits = finished device c k bits
calls_left l device c (suc n) k bits = called l (call_at l c n) bits (calls_left l device c n k)

unfoldable pub commanded : Layout → ℕ → Command → (ℕ → Bus) → Bus
commanded l device c k = calls_left l device c (call_count l c) k 0

unfoldable pub access_job : Layout → Job → Access
access_job l s = access_line l s.state

abbrev pub heard_job : Job → ℕ
heard_job s = heard_line s.state

unfoldable pub rest_job : Layout → ℕ → Command → Job → Answer → (ℕ → Bus) → Prog Held
rest_job l device c s a k = rest_line l s.state a (calls_left l device c s.left k)

unfoldable pub job_next : Layout → ℕ → Command → JobNext → (ℕ → Bus) → Prog Held
job_next l device c (Going s) k = acknowledged (heard_job s) (ask (access_job l s) (λ a. erase (rest_job l device c s a k)))
job_next l device c (End (ctl, b)) k = erase (or_held k ctl (reply b))

unfoldable pub valid_job : Layout → Command → Job → Bool
valid_job l c s = pick (ltb s.left (call_count l c)) (valid_line s.state.line) false

unfoldable pub valid_job_next : Layout → Command → JobNext → Bool
valid_job_next l c (Going s) = valid_job l c s
valid_job_next l c (End (ctl, b)) = true
