-- Each command's list of line calls is the program of that name.
use Prim.Native.Nat.{ℕ, ◌-◌, suc, zero}
use mathlib.Core.Path.{◌≡◌, refl, ap, fun_ext, ◌∙◌}
use mathlib.Core.Bool.{Bool, true, false}
use lib.Dec.{eqb}
use native.Mathlib.Numerals.{sub-one}
use Rattle.hardware.specs.Failures.{I2c}
use Rattle.hardware.specs.Prog.{erase, pick}
use Rattle.bus.specs.declared.Layout.{Layout}
use Rattle.bus.specs.declared.command.Command.TheVariants.{Start, Send, Read, Stop, Free}
use Rattle.bus.specs.declared.command.Piece.{Piece}
use Rattle.bus.specs.declared.command.Piece.TheVariants.{Pulses, Probe, Lower, Pull}
use Rattle.bus.specs.Bus.{Bus, fail, start, stop, send, in_byte, in_bits, in_bit, out_bit, out_bits, release_sda, pulses, scl_high, scl_low, sample, wait, ack_tries, shifted, pulled, rounds}
use Rattle.bus.specs.Line.{called, sensed}
use Rattle.bus.specs.Clear.{probed}
use Rattle.bus.specs.Command.{pulse_call, out_bit_call, sense_call, ack_call, start_call, stop_call, end_call, send_call, read_call, pulses_call, probe_call, free_call, call_at, stop_count, free_count, call_count, freed, finished, calls_left, commanded}

pub job_start : (l : Layout) (device : ℕ) (k : ℕ → Bus) → commanded l device Start k ≡ start l (k 0)
unfolding commanded call_count calls_left call_at start_call called finished start
job_start l device k = refl

stop_by : (l : Layout) (device : ℕ) (k : ℕ → Bus) (t : Bool) → eqb l.bben 0 ≡ t → commanded l device Stop k ≡ stop l (k 0)
unfolding commanded call_count stop_count calls_left call_at end_call stop_call called finished pick stop
stop_by l device k true e = rw (e, e)
stop_by l device k false e = rw (e, e)

pub job_stop : (l : Layout) (device : ℕ) (k : ℕ → Bus) → commanded l device Stop k ≡ stop l (k 0)
job_stop l device k = stop_by l device k (eqb l.bben 0) refl

pub job_read : (l : Layout) (device : ℕ) (high : Bool) (k : ℕ → Bus) → commanded l device (Read high) k ≡ in_byte l (λ value. out_bit l high (k value))
unfolding commanded call_count calls_left call_at read_call out_bit_call pulse_call sense_call called sensed finished pick in_byte in_bits in_bit out_bit
job_read l device high k = refl

sent : (l : Layout) (device value : ℕ) (k : ℕ → Bus) (b : Bool) → scl_low l (wait 5 (finished device (Send value) k (shifted 0 b))) ≡ scl_low l (wait 5 (pick b (fail (I2c device)) (k 0)))
unfolding finished pick shifted
sent l device value k true = refl
sent l device value k false = refl

pub job_send : (l : Layout) (device value : ℕ) (k : ℕ → Bus) → commanded l device (Send value) k ≡ send l device value (k 0)
unfolding commanded call_count calls_left call_at send_call out_bit_call pulse_call ack_call called sensed pick send out_bits out_bit
job_send l device value k = ap (λ t. out_bits l value 8 (release_sda l (scl_high l (wait 4 (ack_tries l 10 t))))) (fun_ext (sent l device value k))

pub job_free : (l : Layout) (device : ℕ) (p : Piece) (k : ℕ → Bus) → commanded l device (Free p) k ≡ freed l p k
unfolding commanded call_count free_count calls_left call_at free_call pulses_call pulse_call probe_call start_call called sensed finished pick pulses freed
job_free l device Pulses k = refl
job_free l device Probe k = refl
job_free l device Lower k = refl
job_free l device Pull k = refl

-- the bit heard in a round is SDA
heard_probe : (l : Layout) (left : ℕ) (high : Bool) → probed l left (shifted 0 high) ≡ pick high (pulled l) (scl_low l (wait 5 (rounds l left)))
unfolding probed shifted pick
heard_probe l left true = refl
heard_probe l left false = refl

pub round_probes : (l : Layout) (left : ℕ) → scl_high l (wait 4 (sample l (λ high. probed l left (shifted 0 high)))) ≡ rounds l (suc left)
unfolding rounds
round_probes l left = ap (λ k. scl_high l (wait 4 (sample l k))) (fun_ext (heard_probe l left))

-- with a round left, SCL is raised
pub round_more : (l : Layout) (left ctl : ℕ) → (left ≡ 0 → ⊥)
    → erase (called l (call_at l (Free Probe) 2) 0 (calls_left l 0 (Free Probe) 2 (probed l (left - 1))) ctl) ≡ erase (rounds l left ctl)
unfolding calls_left call_at free_call probe_call called sensed finished
round_more l zero ctl h = absurd (h refl)
round_more l (suc n) ctl h =
    ap (λ m. erase (scl_high l (wait 4 (sample l (λ high. probed l m (shifted 0 high)))) ctl)) (sub-one (suc n))
    ∙ ap (λ k. erase (k ctl)) (round_probes l n)
