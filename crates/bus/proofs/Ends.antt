-- How many answers of the awaited kinds bring the line calls, the commands and the clearing sequences to their end, for
-- every layout and control word. The numbers are accesses.
use Prim.Native.Nat.{ℕ, ◌+◌, ◌*◌, ◌≤◌, suc, zero}
use mathlib.Core.Path.{◌≡◌, refl}
use mathlib.Core.Bool.{Bool, true, false, true≢false}
use lib.Bits.{bit_or}
use lib.Dec.{eqb}
use native.Mathlib.Omega.{arith}
use Rattle.hardware.specs.Failures.{Failure, I2c}
use Rattle.hardware.specs.Prog.{R, Ok, Err, pick}
use Rattle.hardware.specs.Registers.{raw, written, flushed}
use Rattle.hardware.specs.Runs.{Ends}
use Rattle.hardware.proofs.Ends.{ends_more, ends_bind, ends_pick, ends_heard, ret_ends, ask_ends}
use Rattle.bus.specs.declared.Layout.{Layout}
use Rattle.bus.specs.declared.Taken.{Taken}
use Rattle.bus.specs.Layout.{L82599}
use Rattle.bus.specs.Bus.{Bus, done, fail, none, or_held, flushing, put, get, wait, scl_seen, scl_tries, scl_high, scl_low, sda_seen, sda_free, sda, release_sda, look, look_seen, start, close, stop, out_bit, sample, sample_seen, in_bit, shifted, in_bits, in_byte, bit_of, out_bits, heard, ack_seen, ack_tries, send, pulses, or_quiet, quieted, quiet, clear, clear_free, clear_again, clear_stop, pulled, rounds, clear_rounds}
use Rattle.bus.specs.Steps.{PUT_STEPS, GET_STEPS, WAIT_STEPS, SCL_TRY_STEPS, SCL_HIGH_STEPS, SCL_LOW_STEPS, SDA_LOW_STEPS, SDA_STEPS, RELEASE_SDA_STEPS, START_STEPS, STOP_STEPS, PULSE_STEPS, OUT_BIT_STEPS, IN_BIT_STEPS, IN_BYTE_STEPS, ACK_STEPS, SEND_STEPS, FREE_STEPS, CLEAR_STEPS, ROUND_STEPS, FINISH_STEPS, CLEAR_ROUNDS_STEPS, CALL_STEPS}
use Rattle.hardware.specs.declared.Answer.{Answer}
use Rattle.bus.specs.declared.line.Call.{Call}
use Rattle.bus.specs.declared.line.Call.TheVariants.{Look, Sda, Release, Up, Down, Wait as Pausing, Sample, Ack, Close}
use Rattle.bus.specs.declared.line.Goal.{Goal}
use Rattle.bus.specs.declared.line.Goal.TheVariants.{High, Free, Low, Release as Released, Down as Lowered, Up as Raised, Close as Closed}
use Rattle.bus.specs.declared.line.Line.{Line}
use Rattle.bus.specs.declared.line.Line.TheVariants.{Look as Looking, Pause, Sample as Sampling, Ack as Listening, Rest, Write as Writing, Flush, Settle, Check, Rise}
use Rattle.bus.specs.declared.command.Command.{Command}
use Rattle.bus.specs.declared.command.Command.TheVariants.{Start, Send, Read, Stop, Free as FreeLines}
use Rattle.bus.specs.declared.command.Piece.{Piece}
use Rattle.bus.specs.declared.command.Piece.TheVariants.{Pulses, Probe, Lower, Pull}
use Rattle.bus.specs.declared.job.Job.{Job}
use Rattle.bus.specs.declared.clear.Clear.{Clear}
use Rattle.bus.specs.declared.clear.Part.{Part}
use Rattle.bus.specs.declared.clear.Part.TheVariants.{First, Free as Freeing, Again, Stop as Stopping, Probe as Probing, Lower as Lowering, Pull as Pulling}
use Rattle.bus.specs.Line.{sensed, called, reached, settled, rest_at, rest_line}
use Rattle.bus.specs.Command.{freed, finished, calls_left, rest_job}
use Rattle.bus.specs.Clear.{probed, rest_part, rest_clear}

-- n accesses bring a program to its end, whatever control word it is given
abbrev pub EndsBus : Bus → ℕ → Type 0
EndsBus k n = (ctl : ℕ) → Ends (k ctl) n

pub scl_high_steps : SCL_HIGH_STEPS ≡ 2000
scl_high_steps = refl

pub scl_low_steps : SCL_LOW_STEPS ≡ 3
scl_low_steps = refl

pub sda_steps : SDA_STEPS ≡ 6
sda_steps = refl

pub sda_low_steps : SDA_LOW_STEPS ≡ 3
sda_low_steps = refl

pub release_sda_steps : RELEASE_SDA_STEPS ≡ 3
release_sda_steps = refl

pub start_steps : START_STEPS ≡ 2016
start_steps = refl

pub stop_steps : STOP_STEPS ≡ 2013
stop_steps = refl

pub pulse_steps : PULSE_STEPS ≡ 2005
pulse_steps = refl

pub out_bit_steps : OUT_BIT_STEPS ≡ 2011
out_bit_steps = refl

pub in_bit_steps : IN_BIT_STEPS ≡ 2009
in_bit_steps = refl

pub in_byte_steps : IN_BYTE_STEPS ≡ 16072
in_byte_steps = refl

pub ack_steps : ACK_STEPS ≡ 20
ack_steps = refl

pub send_steps : SEND_STEPS ≡ 18116
send_steps = refl

pub free_steps : FREE_STEPS ≡ 18048
free_steps = refl

pub clear_steps : CLEAR_STEPS ≡ 24093
clear_steps = refl

pub round_steps : ROUND_STEPS ≡ 2006
round_steps = refl

pub clear_rounds_steps : CLEAR_ROUNDS_STEPS ≡ 22080
clear_rounds_steps = refl

-- more accesses do no harm
pub bus_more : (p : Bus) (n m : ℕ) → EndsBus p n → n ≤ m → EndsBus p m
bus_more p n m e h ctl = ends_more _ n m (e ctl) h

pub done_ends : (t : Taken) (n : ℕ) → EndsBus (done t) n
done_ends t n ctl = ret_ends _ n

pub fail_ends : (e : Failure) (n : ℕ) → EndsBus (fail e) n
fail_ends e n ctl = ret_ends _ n

held_ends : {A : Type 0} (k : A → Bus) (n : ℕ) → ((a : A) → EndsBus (k a) n) → (ctl : ℕ) (r : R A) → Ends (or_held k ctl r) n
unfolding or_held
held_ends k n d ctl (Ok a) = d a ctl
held_ends k n d ctl (Err e) = fail_ends e n ctl

-- a choice between two programs
either_ends : (b : Bool) (p q : Bus) (n : ℕ) → EndsBus p n → EndsBus q n → EndsBus (pick b p q) n
unfolding pick
either_ends true p q n e d = e
either_ends false p q n e d = d

flushing_ends : (k : Bus) (n : ℕ) → EndsBus k n → EndsBus (flushing k) (suc n)
unfolding flushing
flushing_ends k n e ctl = ask_ends _ _ n (λ a. held_ends (λ _. k) n (λ _. e) ctl (flushed a))

pub put_ends : (l : Layout) (k : Bus) (n : ℕ) → EndsBus k n → EndsBus (put l k) (PUT_STEPS + n)
unfolding put
put_ends l k n e ctl =
    ends_more _ (suc (suc n)) (PUT_STEPS + n)
    (ask_ends _ _ (suc n) (λ a. held_ends (λ _. flushing k) (suc n) (λ _. flushing_ends k n e) ctl (written a)))
    (omega arith)

pub get_ends : (l : Layout) (k : ℕ → Bus) (n : ℕ) → ((v : ℕ) → EndsBus (k v) n) → EndsBus (get l k) (GET_STEPS + n)
unfolding get
get_ends l k n e ctl = ends_more _ (suc n) (GET_STEPS + n) (ask_ends _ _ n (λ a. held_ends k n e ctl (raw a))) (omega arith)

pub wait_ends : (us : ℕ) (k : Bus) (n : ℕ) → EndsBus k n → EndsBus (wait us k) (WAIT_STEPS + n)
unfolding wait
wait_ends us k n e ctl = ends_more _ (suc n) (WAIT_STEPS + n) (ask_ends _ _ n (λ a. e ctl)) (omega arith)

-- a word put and a wait
put_wait_ends : (l : Layout) (us : ℕ) (k : Bus) (n : ℕ) → EndsBus k n → EndsBus (put l (wait us k)) (PUT_STEPS + WAIT_STEPS + n)
put_wait_ends l us k n e ctl =
    ends_more _ (PUT_STEPS + (WAIT_STEPS + n)) (PUT_STEPS + WAIT_STEPS + n)
    (put_ends l _ (WAIT_STEPS + n) (wait_ends us k n e) ctl)
    (omega arith)

pub scl_tries_ends : (l : Layout) (tries : ℕ) (k : Bus) (n : ℕ) → EndsBus k n → EndsBus (scl_tries l tries k) (tries * SCL_TRY_STEPS + n)
unfolding scl_tries scl_seen
scl_tries_ends l zero k n e ctl = ends_more _ n (zero * SCL_TRY_STEPS + n) (e ctl) (omega arith)
scl_tries_ends l (suc left) k n e ctl =
    let m = left * SCL_TRY_STEPS + n in
    ends_more _ (PUT_STEPS + WAIT_STEPS + (GET_STEPS + m)) (suc left * SCL_TRY_STEPS + n)
    (put_wait_ends l 1 _ (GET_STEPS + m)
    (get_ends l _ m
    (λ v. either_ends _ _ _ m (scl_tries_ends l left k n e) (λ c. ends_more _ n m (e c) (omega arith)))) _)
    (omega arith)

pub scl_high_ends : (l : Layout) (k : Bus) (n : ℕ) → EndsBus k n → EndsBus (scl_high l k) (SCL_HIGH_STEPS + n)
unfolding scl_high
scl_high_ends l k n e ctl = scl_tries_ends l 500 k n e _

pub scl_low_ends : (l : Layout) (k : Bus) (n : ℕ) → EndsBus k n → EndsBus (scl_low l k) (SCL_LOW_STEPS + n)
unfolding scl_low
scl_low_ends l k n e ctl = put_wait_ends l 1 k n e _

-- SDA was looked at: held low, the whole ends
sda_seen_ends : (l : Layout) (k : Bus) (n : ℕ) → EndsBus k n → (v : ℕ) → EndsBus (sda_seen l k v) n
unfolding sda_seen
sda_seen_ends l k n e v = either_ends _ _ _ n (fail_ends _ n) e

-- On the X552's layout a second word is put before SDA is looked at, and another at the end of a stop; on the 82599's neither is.
-- m: the accesses of such a word
pub record Words (l : Layout) (m : ℕ) : Type 0 where
  pub look : eqb l.sdaoen 0 ≡ false → PUT_STEPS ≤ m
  pub last : eqb l.bben 0 ≡ false → PUT_STEPS ≤ m

pub any_words : (l : Layout) → Words l PUT_STEPS
any_words l = record { look = λ _. omega arith; last = λ _. omega arith }

pub no_words : Words L82599 0
no_words = record { look = λ e. absurd (true≢false e); last = λ e. absurd (true≢false e) }

sda_free_by : (l : Layout) (m : ℕ) → Words l m → (k : Bus) (n : ℕ) → EndsBus k n → EndsBus (sda_free l k) (m + (GET_STEPS + n))
unfolding sda_free pick
sda_free_by l m h k n e ctl = by (eqb l.sdaoen 0) h.look
  where
    seen : EndsBus (get l (sda_seen l k)) (GET_STEPS + n)
    seen = get_ends l (sda_seen l k) n (sda_seen_ends l k n e)

    by : (b : Bool) → (b ≡ false → PUT_STEPS ≤ m) → Ends (pick b (get l (sda_seen l k) ctl) (put l (get l (sda_seen l k)) (bit_or ctl l.sdaoen))) (m + (GET_STEPS + n))
    by true g = ends_more _ (GET_STEPS + n) (m + (GET_STEPS + n)) (seen ctl) (omega arith)
    by false g = ends_more _ (PUT_STEPS + (GET_STEPS + n)) (m + (GET_STEPS + n)) (put_ends l _ (GET_STEPS + n) seen _) (omega (arith, g refl))

pub sda_low_ends : (l : Layout) (k : Bus) (n : ℕ) → EndsBus k n → EndsBus (sda l false k) (SDA_LOW_STEPS + n)
unfolding sda
sda_low_ends l k n e ctl = put_wait_ends l 3 k n e _

-- SDA released and looked at
pub sda_by : (l : Layout) (m : ℕ) → Words l m → (k : Bus) (n : ℕ) → EndsBus k n → EndsBus (sda l true k) (PUT_STEPS + WAIT_STEPS + (m + (GET_STEPS + n)))
unfolding sda
sda_by l m h k n e ctl = put_wait_ends l 3 _ _ (sda_free_by l m h k n e) _

pub sda_ends : (l : Layout) (high : Bool) (k : Bus) (n : ℕ) → EndsBus k n → EndsBus (sda l high k) (SDA_STEPS + n)
unfolding sda
sda_ends l true k n e = bus_more _ _ (SDA_STEPS + n) (sda_by l PUT_STEPS (any_words l) k n e) (omega arith)
sda_ends l false k n e = bus_more _ _ (SDA_STEPS + n) (sda_low_ends l k n e) (omega arith)

pub release_sda_ends : (l : Layout) (k : Bus) (n : ℕ) → EndsBus k n → EndsBus (release_sda l k) (RELEASE_SDA_STEPS + n)
unfolding release_sda
release_sda_ends l k n e ctl = put_wait_ends l 1 k n e _

pub look_ends : (l : Layout) (k : Bus) (n : ℕ) → EndsBus k n → EndsBus (look l k) (GET_STEPS + n)
unfolding look look_seen
look_ends l k n e = get_ends l _ n (λ v ctl. e _)

start_by : (l : Layout) (m : ℕ) → Words l m → (k : Bus) (n : ℕ) → EndsBus k n → EndsBus (start l k) (2014 + m + n)
unfolding start
start_by l m h k n e =
    bus_more _ _ (2014 + m + n)
    (look_ends l _ _
    (sda_by l m h _ _
    (scl_high_ends l _ _
    (wait_ends 5 _ _ (sda_low_ends l _ _ (wait_ends 4 _ _ (scl_low_ends l _ _ (wait_ends 5 k n e))))))))
    (omega arith)

pub start_ends : (l : Layout) (k : Bus) (n : ℕ) → EndsBus k n → EndsBus (start l k) (START_STEPS + n)
start_ends l k n e = bus_more _ _ (START_STEPS + n) (start_by l PUT_STEPS (any_words l) k n e) (omega arith)

pub close_ends : (l : Layout) (k : Bus) (n : ℕ) → EndsBus k n → EndsBus (close l k) (PUT_STEPS + n)
unfolding close
close_ends l k n e ctl = put_ends l k n e _

stop_by : (l : Layout) (m : ℕ) → Words l m → (k : Bus) (n : ℕ) → EndsBus k n → EndsBus (stop l k) (2009 + (m + m) + n)
unfolding stop pick
stop_by l m h k n e =
    bus_more _ _ (2009 + (m + m) + n)
    (sda_low_ends l _ _
    (scl_high_ends l _ _
    (wait_ends 4 _ _ (sda_by l m h _ _ (wait_ends 5 _ _ (by (eqb l.bben 0) h.last))))))
    (omega arith)
  where
    by : (b : Bool) → (b ≡ false → PUT_STEPS ≤ m) → EndsBus (pick b k (close l k)) (m + n)
    by true g = bus_more k n (m + n) e (omega arith)
    by false g = bus_more (close l k) (PUT_STEPS + n) (m + n) (close_ends l k n e) (omega (arith, g refl))

pub stop_ends : (l : Layout) (k : Bus) (n : ℕ) → EndsBus k n → EndsBus (stop l k) (STOP_STEPS + n)
stop_ends l k n e = bus_more _ _ (STOP_STEPS + n) (stop_by l PUT_STEPS (any_words l) k n e) (omega arith)

-- SCL high, a wait, SCL low and a wait: how a bit that goes out ends
pub pulse_ends : (l : Layout) (k : Bus) (n : ℕ) → EndsBus k n → EndsBus (scl_high l (wait 4 (scl_low l (wait 5 k)))) (PULSE_STEPS + n)
pulse_ends l k n e =
    bus_more _ _ (PULSE_STEPS + n) (scl_high_ends l _ _ (wait_ends 4 _ _ (scl_low_ends l _ _ (wait_ends 5 k n e)))) (omega arith)

pub out_bit_ends : (l : Layout) (bit : Bool) (k : Bus) (n : ℕ) → EndsBus k n → EndsBus (out_bit l bit k) (OUT_BIT_STEPS + n)
unfolding out_bit
out_bit_ends l bit k n e = bus_more _ _ (OUT_BIT_STEPS + n) (sda_ends l bit _ _ (pulse_ends l k n e)) (omega arith)

pub sample_ends : (l : Layout) (k : Bool → Bus) (n : ℕ) → ((bit : Bool) → EndsBus (k bit) n) → EndsBus (sample l k) (GET_STEPS + n)
unfolding sample sample_seen
sample_ends l k n e = get_ends l _ n (λ v. e _)

pub in_bit_ends : (l : Layout) (k : Bool → Bus) (n : ℕ) → ((bit : Bool) → EndsBus (k bit) n) → EndsBus (in_bit l k) (IN_BIT_STEPS + n)
unfolding in_bit
in_bit_ends l k n e =
    bus_more _ _ (IN_BIT_STEPS + n)
    (release_sda_ends l _ _
    (scl_high_ends l _ _
    (wait_ends 4 _ _ (sample_ends l _ (SCL_LOW_STEPS + (WAIT_STEPS + n)) (λ bit. scl_low_ends l _ _ (wait_ends 5 (k bit) n (e bit)))))))
    (omega arith)

pub in_bits_ends : (l : Layout) (count byte : ℕ) (k : ℕ → Bus) (n : ℕ) → ((v : ℕ) → EndsBus (k v) n)
    → EndsBus (in_bits l count byte k) (count * IN_BIT_STEPS + n)
unfolding in_bits
in_bits_ends l zero byte k n e = bus_more _ n (zero * IN_BIT_STEPS + n) (e byte) (omega arith)
in_bits_ends l (suc count) byte k n e =
    bus_more _ _ (suc count * IN_BIT_STEPS + n)
    (in_bit_ends l _ (count * IN_BIT_STEPS + n) (λ bit. in_bits_ends l count (shifted byte bit) k n e))
    (omega arith)

pub in_byte_ends : (l : Layout) (k : ℕ → Bus) (n : ℕ) → ((v : ℕ) → EndsBus (k v) n) → EndsBus (in_byte l k) (IN_BYTE_STEPS + n)
unfolding in_byte
in_byte_ends l k n e = in_bits_ends l 8 0 k n e

pub out_bits_ends : (l : Layout) (byte count : ℕ) (k : Bus) (n : ℕ) → EndsBus k n → EndsBus (out_bits l byte count k) (count * OUT_BIT_STEPS + n)
unfolding out_bits
out_bits_ends l byte zero k n e = bus_more _ n (zero * OUT_BIT_STEPS + n) e (omega arith)
out_bits_ends l byte (suc count) k n e =
    bus_more _ _ (suc count * OUT_BIT_STEPS + n)
    (out_bit_ends l (bit_of byte count) _ (count * OUT_BIT_STEPS + n) (out_bits_ends l byte count k n e))
    (omega arith)

heard_ends : (left : ℕ) (k : Bus) (n : ℕ) → EndsBus k n → EndsBus (heard left k) n
heard_ends left k n e ctl = ends_heard left _ n (e ctl)

pub ack_tries_ends : (l : Layout) (tries : ℕ) (k : Bool → Bus) (n : ℕ) → ((high : Bool) → EndsBus (k high) n)
    → EndsBus (ack_tries l tries k) (tries * (GET_STEPS + WAIT_STEPS) + n)
unfolding ack_tries ack_seen
ack_tries_ends l zero k n e = bus_more _ n (zero * (GET_STEPS + WAIT_STEPS) + n) (e true) (omega arith)
ack_tries_ends l (suc left) k n e =
    let m = left * (GET_STEPS + WAIT_STEPS) + n in
    bus_more _ (GET_STEPS + (WAIT_STEPS + m)) (suc left * (GET_STEPS + WAIT_STEPS) + n)
    (get_ends l _ (WAIT_STEPS + m)
    (λ v. either_ends _ _ _ (WAIT_STEPS + m) (heard_ends left _ _ (bus_more _ n (WAIT_STEPS + m) (e false) (omega arith))) (wait_ends 1 _ m (ack_tries_ends l left k n e))))
    (omega arith)

pub send_ends : (l : Layout) (device byte : ℕ) (k : Bus) (n : ℕ) → EndsBus k n → EndsBus (send l device byte k) (SEND_STEPS + n)
unfolding send
send_ends l device byte k n e =
    bus_more _ _ (SEND_STEPS + n)
    (out_bits_ends l byte 8 _ _
    (release_sda_ends l _ _
    (scl_high_ends l _ _
    (wait_ends 4 _ _
    (ack_tries_ends l 10 _ (SCL_LOW_STEPS + (WAIT_STEPS + n))
    (λ high. scl_low_ends l _ _ (wait_ends 5 _ n (either_ends high (fail (I2c device)) k n (fail_ends _ n) e))))))))
    (omega arith)

pub pulses_ends : (l : Layout) (count : ℕ) (k : Bus) (n : ℕ) → EndsBus k n → EndsBus (pulses l count k) (count * PULSE_STEPS + n)
unfolding pulses
pulses_ends l zero k n e = bus_more _ n (zero * PULSE_STEPS + n) e (omega arith)
pulses_ends l (suc count) k n e =
    bus_more _ _ (suc count * PULSE_STEPS + n) (pulse_ends l _ (count * PULSE_STEPS + n) (pulses_ends l count k n e)) (omega arith)

-- the pieces of the clearing sequences: none takes more than the nine pulses
pub free_ends : (l : Layout) (p : Piece) (k : ℕ → Bus) (n : ℕ) → ((b : ℕ) → EndsBus (k b) n) → EndsBus (freed l p k) (FREE_STEPS + n)
unfolding freed
free_ends l Pulses k n e = bus_more _ _ (FREE_STEPS + n) (release_sda_ends l _ _ (pulses_ends l 9 (k 0) n (e 0))) (omega arith)
free_ends l Probe k n e =
    bus_more _ _ (FREE_STEPS + n) (release_sda_ends l _ _ (scl_high_ends l _ _ (wait_ends 4 _ _ (sample_ends l _ n (λ high. e _))))) (omega arith)
free_ends l Lower k n e = bus_more _ _ (FREE_STEPS + n) (scl_low_ends l _ _ (wait_ends 5 (k 0) n (e 0))) (omega arith)
free_ends l Pull k n e =
    bus_more _ _ (FREE_STEPS + n) (sda_low_ends l _ _ (wait_ends 4 _ _ (scl_low_ends l _ _ (wait_ends 5 (k 0) n (e 0))))) (omega arith)

-- a program whose I2c failure counts as success, and what comes after it
quieted_ends : (k : Bus) (n : ℕ) → EndsBus k n → (ctl : ℕ) (r : R Taken) → Ends (or_quiet k ctl r) n
unfolding or_quiet
quieted_ends k n e ctl (Ok t) = e ctl
quieted_ends k n e ctl (Err x) = ends_pick _ _ _ n (e ctl) (fail_ends x n ctl)

pub quiet_ends : (p k : Bus) (m n : ℕ) → EndsBus p m → EndsBus k n → EndsBus (quiet p k) (m + n)
unfolding quiet quieted
quiet_ends p k m n d e ctl = ends_bind _ _ m n (d ctl) (λ h. quieted_ends k n e h.ctl h.out)

module _ (l : Layout) (m : ℕ) (h : Words l m) where
  clear_stop_by : EndsBus (clear_stop l) (2009 + (m + m))
  unfolding clear_stop
  clear_stop_by = bus_more _ _ (2009 + (m + m)) (quiet_ends _ _ _ 0 (stop_by l m h (done none) 0 (done_ends none 0)) (done_ends none 0)) (omega arith)

  clear_again_by : EndsBus (clear_again l) (4023 + (m + m + m))
  unfolding clear_again
  clear_again_by = bus_more _ _ (4023 + (m + m + m)) (quiet_ends _ _ _ _ (start_by l m h (done none) 0 (done_ends none 0)) clear_stop_by) (omega arith)

  clear_free_by : EndsBus (clear_free l) (FREE_STEPS + (4023 + (m + m + m)))
  unfolding clear_free freed
  clear_free_by = free_ends l Pulses (λ _. clear_again l) (4023 + (m + m + m)) (λ _. clear_again_by)

  pub clear_by : EndsBus (clear l) (24085 + 4 * m)
  unfolding clear
  clear_by = bus_more _ _ (24085 + 4 * m) (quiet_ends _ _ _ _ (start_by l m h (done none) 0 (done_ends none 0)) clear_free_by) (omega arith)

  pulled_by : EndsBus (pulled l) (2017 + (m + m))
  unfolding pulled
  pulled_by = bus_more _ _ (2017 + (m + m)) (sda_low_ends l _ _ (wait_ends 4 _ _ (scl_low_ends l _ _ (wait_ends 5 _ _ clear_stop_by)))) (omega arith)

  -- SCL is lowered in a round, and so many are left; SDA pulled before it takes no more
  lowers_by : (left : ℕ) → EndsBus (rounds l left) (left * ROUND_STEPS + (2013 + (m + m)))
      → EndsBus (scl_low l (wait 5 (rounds l left))) (SCL_LOW_STEPS + WAIT_STEPS + (left * ROUND_STEPS + (2013 + (m + m))))
  lowers_by left e =
      bus_more _ _ (SCL_LOW_STEPS + WAIT_STEPS + (left * ROUND_STEPS + (2013 + (m + m)))) (scl_low_ends l _ _ (wait_ends 5 _ _ e)) (omega arith)

  pulls_by : (left : ℕ) → EndsBus (pulled l) (SCL_LOW_STEPS + WAIT_STEPS + (left * ROUND_STEPS + (2013 + (m + m))))
  pulls_by left = bus_more _ _ (SCL_LOW_STEPS + WAIT_STEPS + (left * ROUND_STEPS + (2013 + (m + m)))) pulled_by (omega arith)

  rounds_by : (left : ℕ) → EndsBus (rounds l left) (left * ROUND_STEPS + (2013 + (m + m)))
  unfolding rounds
  rounds_by zero = done_ends none _
  rounds_by (suc left) =
      bus_more _ _ (suc left * ROUND_STEPS + (2013 + (m + m)))
      (scl_high_ends l _ _
      (wait_ends 4 _ _
      (sample_ends l _ (SCL_LOW_STEPS + WAIT_STEPS + (left * ROUND_STEPS + (2013 + (m + m))))
      (λ high. either_ends high _ _ _ (pulls_by left) (lowers_by left (rounds_by left))))))
      (omega arith)

  pub clear_rounds_by : EndsBus (clear_rounds l) (22076 + 2 * m)
  unfolding clear_rounds
  clear_rounds_by = bus_more _ _ (22076 + 2 * m) (release_sda_ends l _ _ (rounds_by 10)) (omega arith)

-- the same for every layout
module _ (l : Layout) where
  clear_stop_ends : EndsBus (clear_stop l) STOP_STEPS
  clear_stop_ends = clear_stop_by l PUT_STEPS (any_words l)

  clear_again_ends : EndsBus (clear_again l) (START_STEPS + STOP_STEPS)
  clear_again_ends = clear_again_by l PUT_STEPS (any_words l)

  clear_free_ends : EndsBus (clear_free l) (FREE_STEPS + (START_STEPS + STOP_STEPS))
  clear_free_ends = clear_free_by l PUT_STEPS (any_words l)

  pub clear_ends : EndsBus (clear l) CLEAR_STEPS
  clear_ends = clear_by l PUT_STEPS (any_words l)

  lowers_ends : (left : ℕ) → EndsBus (rounds l left) (left * ROUND_STEPS + FINISH_STEPS)
      → EndsBus (scl_low l (wait 5 (rounds l left))) (SCL_LOW_STEPS + WAIT_STEPS + (left * ROUND_STEPS + FINISH_STEPS))
  lowers_ends left e = lowers_by l PUT_STEPS (any_words l) left e

  pulls_ends : (left : ℕ) → EndsBus (pulled l) (SCL_LOW_STEPS + WAIT_STEPS + (left * ROUND_STEPS + FINISH_STEPS))
  pulls_ends left = pulls_by l PUT_STEPS (any_words l) left

  pub rounds_ends : (left : ℕ) → EndsBus (rounds l left) (left * ROUND_STEPS + FINISH_STEPS)
  rounds_ends left = rounds_by l PUT_STEPS (any_words l) left

  pub clear_rounds_ends : EndsBus (clear_rounds l) CLEAR_ROUNDS_STEPS
  clear_rounds_ends = clear_rounds_by l PUT_STEPS (any_words l)

-- the answers that each machine may still need after the one it awaits, up to the end of the call, the command or the sequence

-- once the wait after a word is over
abbrev pub reach_after : Goal → ℕ
reach_after High = PUT_STEPS + GET_STEPS
reach_after Free = GET_STEPS
reach_after Low = 0
reach_after Released = 0
reach_after (Lowered left) = 0
reach_after (Raised left) = GET_STEPS + left * SCL_TRY_STEPS
reach_after Closed = 0

-- with that wait
abbrev pub settle_after : Goal → ℕ
settle_after g = WAIT_STEPS + reach_after g

abbrev pub line_after : Line → ℕ
line_after Looking = 0
line_after (Pause us) = 0
line_after Sampling = 0
line_after (Listening left) = WAIT_STEPS + left * (GET_STEPS + WAIT_STEPS) + SCL_LOW_STEPS
line_after (Rest left) = left * (GET_STEPS + WAIT_STEPS) + SCL_LOW_STEPS
line_after (Writing g) = 1 + settle_after g
line_after (Flush g) = settle_after g
line_after (Settle g) = reach_after g
line_after Check = 0
line_after (Rise left) = left * SCL_TRY_STEPS

-- left: the calls after this one
abbrev pub job_after : Job → ℕ
job_after s = line_after s.state.line + s.left * CALL_STEPS

abbrev pub part_after : Part → ℕ
part_after First = FREE_STEPS + (START_STEPS + STOP_STEPS)
part_after Freeing = START_STEPS + STOP_STEPS
part_after Again = STOP_STEPS
part_after Stopping = 0
part_after (Probing left) = SCL_LOW_STEPS + WAIT_STEPS + (left * ROUND_STEPS + FINISH_STEPS)
part_after (Lowering left) = left * ROUND_STEPS + FINISH_STEPS
part_after Pulling = STOP_STEPS

abbrev pub clear_after : Clear → ℕ
clear_after s = job_after s.job + part_after s.part

reached_ends : (l : Layout) (g : Goal) (k : Bus) (n : ℕ) → EndsBus k n → EndsBus (reached l g k) (reach_after g + n)
unfolding reached scl_seen
reached_ends l High k n e = bus_more _ (PUT_STEPS + (GET_STEPS + n)) (reach_after High + n) (sda_free_by l PUT_STEPS (any_words l) k n e) (omega arith)
reached_ends l Free k n e = get_ends l _ n (sda_seen_ends l k n e)
reached_ends l Low k n e = bus_more _ n (0 + n) e (omega arith)
reached_ends l Released k n e = bus_more _ n (0 + n) e (omega arith)
reached_ends l (Lowered left) k n e = bus_more _ n (0 + n) e (omega arith)
reached_ends l (Raised left) k n e =
    bus_more _ (GET_STEPS + (left * SCL_TRY_STEPS + n)) (reach_after (Raised left) + n)
    (get_ends l _ (left * SCL_TRY_STEPS + n) (λ v. either_ends _ _ _ _ (scl_tries_ends l left k n e) (bus_more k n (left * SCL_TRY_STEPS + n) e (omega arith))))
    (omega arith)
reached_ends l Closed k n e = bus_more _ n (0 + n) e (omega arith)

settled_ends : (l : Layout) (g : Goal) (k : Bus) (n : ℕ) → EndsBus k n → EndsBus (settled l g k) (settle_after g + n)
unfolding settled reached
settled_ends l High k n e = bus_more _ (WAIT_STEPS + (reach_after High + n)) (settle_after High + n) (wait_ends 3 _ _ (reached_ends l High k n e)) (omega arith)
settled_ends l Free k n e = bus_more _ (reach_after Free + n) (settle_after Free + n) (reached_ends l Free k n e) (omega arith)
settled_ends l Low k n e = wait_ends 3 k n e
settled_ends l Released k n e = wait_ends 1 k n e
settled_ends l (Lowered left) k n e = wait_ends 1 k n e
settled_ends l (Raised left) k n e =
    bus_more _ (WAIT_STEPS + (reach_after (Raised left) + n)) (settle_after (Raised left) + n) (wait_ends 1 _ _ (reached_ends l (Raised left) k n e)) (omega arith)
settled_ends l Closed k n e = bus_more _ n (settle_after Closed + n) e (omega arith)

-- k is what comes after the call
pub at_rest_ends : (l : Layout) (ctl bits : ℕ) (s : Line) (a : Answer) (k : ℕ → Bus) (n : ℕ) → ((b : ℕ) → EndsBus (k b) n)
    → Ends (rest_at l ctl bits s a k) (line_after s + n)
unfolding rest_at look_seen sample_seen sensed ack_seen scl_seen
at_rest_ends l ctl bits Looking a k n e = ends_more _ n (0 + n) (held_ends _ n (λ v c. e bits _) ctl (raw a)) (omega arith)
at_rest_ends l ctl bits (Pause us) a k n e = ends_more _ n (0 + n) (e bits ctl) (omega arith)
at_rest_ends l ctl bits Sampling a k n e = ends_more _ n (0 + n) (held_ends _ n (λ v. e _) ctl (raw a)) (omega arith)
at_rest_ends l ctl bits (Listening left) a k n e =
    let m : ℕ = left * (GET_STEPS + WAIT_STEPS) + (SCL_LOW_STEPS + n) in
    ends_more _ (WAIT_STEPS + m) (line_after (Listening left) + n)
    (held_ends _ (WAIT_STEPS + m)
    (λ v. either_ends _ _ _ (WAIT_STEPS + m) (heard_ends left _ _ (bus_more _ (SCL_LOW_STEPS + n) (WAIT_STEPS + m) (scl_low_ends l _ n (e _)) (omega arith)))
    (wait_ends 1 _ m (ack_tries_ends l left _ (SCL_LOW_STEPS + n) (λ high. scl_low_ends l _ n (e _)))))
    ctl (raw a))
    (omega arith)
at_rest_ends l ctl bits (Rest left) a k n e =
    ends_more _ (left * (GET_STEPS + WAIT_STEPS) + (SCL_LOW_STEPS + n)) (line_after (Rest left) + n) (ack_tries_ends l left _ (SCL_LOW_STEPS + n) (λ high. scl_low_ends l _ n (e _)) ctl) (omega arith)
at_rest_ends l ctl bits (Writing g) a k n e =
    ends_more _ (suc (settle_after g + n)) (line_after (Writing g) + n) (held_ends _ (suc (settle_after g + n)) (λ _. flushing_ends _ _ (settled_ends l g (k bits) n (e bits))) ctl (written a)) (omega arith)
at_rest_ends l ctl bits (Flush g) a k n e = held_ends _ (settle_after g + n) (λ _. settled_ends l g (k bits) n (e bits)) ctl (flushed a)
at_rest_ends l ctl bits (Settle g) a k n e = reached_ends l g (k bits) n (e bits) ctl
at_rest_ends l ctl bits Check a k n e = ends_more _ n (0 + n) (held_ends _ n (sda_seen_ends l (k bits) n (e bits)) ctl (raw a)) (omega arith)
at_rest_ends l ctl bits (Rise left) a k n e =
    held_ends _ (left * SCL_TRY_STEPS + n) (λ v. either_ends _ _ _ _ (scl_tries_ends l left (k bits) n (e bits)) (bus_more (k bits) n (left * SCL_TRY_STEPS + n) (e bits) (omega arith))) ctl (raw a)

pub called_ends : (l : Layout) (c : Call) (bits : ℕ) (k : ℕ → Bus) (n : ℕ) → ((b : ℕ) → EndsBus (k b) n) → EndsBus (called l c bits k) (CALL_STEPS + n)
unfolding called sensed
called_ends l Look bits k n e = bus_more _ _ (CALL_STEPS + n) (look_ends l (k bits) n (e bits)) (omega arith)
called_ends l (Sda high) bits k n e = bus_more _ _ (CALL_STEPS + n) (sda_ends l high (k bits) n (e bits)) (omega arith)
called_ends l Release bits k n e = bus_more _ _ (CALL_STEPS + n) (release_sda_ends l (k bits) n (e bits)) (omega arith)
called_ends l Up bits k n e = scl_high_ends l (k bits) n (e bits)
called_ends l Down bits k n e = bus_more _ _ (CALL_STEPS + n) (scl_low_ends l (k bits) n (e bits)) (omega arith)
called_ends l (Pausing us) bits k n e = bus_more _ _ (CALL_STEPS + n) (wait_ends us (k bits) n (e bits)) (omega arith)
called_ends l Sample bits k n e = bus_more _ _ (CALL_STEPS + n) (sample_ends l _ n (λ b. e _)) (omega arith)
called_ends l Ack bits k n e = bus_more _ _ (CALL_STEPS + n) (ack_tries_ends l 10 _ (SCL_LOW_STEPS + n) (λ b. scl_low_ends l _ n (e _))) (omega arith)
called_ends l Close bits k n e = bus_more _ _ (CALL_STEPS + n) (close_ends l (k bits) n (e bits)) (omega arith)

finished_ends : (device : ℕ) (c : Command) (k : ℕ → Bus) (n : ℕ) → ((b : ℕ) → EndsBus (k b) n) → (bits : ℕ) → EndsBus (finished device c k bits) n
unfolding finished
finished_ends device Start k n e bits = e bits
finished_ends device (Send value) k n e bits = either_ends _ _ _ n (e bits) (fail_ends _ n)
finished_ends device (Read high) k n e bits = e bits
finished_ends device Stop k n e bits = e bits
finished_ends device (FreeLines p) k n e bits = e bits

calls_left_ends : (l : Layout) (device : ℕ) (c : Command) (left : ℕ) (k : ℕ → Bus) (n : ℕ) → ((b : ℕ) → EndsBus (k b) n) → (bits : ℕ)
    → EndsBus (calls_left l device c left k bits) (left * CALL_STEPS + n)
unfolding calls_left
calls_left_ends l device c zero k n e bits = bus_more _ n (zero * CALL_STEPS + n) (finished_ends device c k n e bits) (omega arith)
calls_left_ends l device c (suc left) k n e bits =
    bus_more _ (CALL_STEPS + (left * CALL_STEPS + n)) (suc left * CALL_STEPS + n) (called_ends l _ bits _ (left * CALL_STEPS + n) (calls_left_ends l device c left k n e)) (omega arith)

-- whatever command the script has at the position
pub job_rest_ends : (l : Layout) (device : ℕ) (c : Command) (s : Job) (a : Answer) (k : ℕ → Bus) (n : ℕ) → ((b : ℕ) → EndsBus (k b) n)
    → Ends (rest_job l device c s a k) (job_after s + n)
unfolding rest_job rest_line
job_rest_ends l device c s a k n e =
    ends_more _ (line_after s.state.line + (s.left * CALL_STEPS + n)) (job_after s + n)
    (at_rest_ends l s.state.ctl s.state.bits s.state.line a _ (s.left * CALL_STEPS + n) (calls_left_ends l device c s.left k n e))
    (omega arith)

part_rest_ends : (l : Layout) (p : Part) (j : Job) (a : Answer) → Ends (rest_part l p j a) (job_after j + part_after p)
unfolding rest_part quieted probed
part_rest_ends l First j a =
    ends_more _ (job_after j + 0 + part_after First) (job_after j + part_after First)
    (ends_bind _ _ (job_after j + 0) (part_after First) (job_rest_ends l 0 Start j a _ 0 (λ b. done_ends none 0)) (λ h. quieted_ends (clear_free l) _ (clear_free_ends l) h.ctl h.out)) (omega arith)
part_rest_ends l Freeing j a = job_rest_ends l 0 (FreeLines Pulses) j a _ (part_after Freeing) (λ b. clear_again_ends l)
part_rest_ends l Again j a =
    ends_more _ (job_after j + 0 + part_after Again) (job_after j + part_after Again)
    (ends_bind _ _ (job_after j + 0) (part_after Again) (job_rest_ends l 0 Start j a _ 0 (λ b. done_ends none 0)) (λ h. quieted_ends (clear_stop l) _ (clear_stop_ends l) h.ctl h.out)) (omega arith)
part_rest_ends l Stopping j a =
    ends_more _ (job_after j + 0 + 0) (job_after j + part_after Stopping)
    (ends_bind _ _ (job_after j + 0) 0 (job_rest_ends l 0 Stop j a _ 0 (λ b. done_ends none 0)) (λ h. quieted_ends (done none) 0 (done_ends none 0) h.ctl h.out)) (omega arith)
part_rest_ends l (Probing left) j a =
    job_rest_ends l 0 (FreeLines Probe) j a _ (part_after (Probing left)) (λ bits. either_ends (eqb bits 0) _ _ _ (lowers_ends l left (rounds_ends l left)) (pulls_ends l left))
part_rest_ends l (Lowering left) j a = job_rest_ends l 0 (FreeLines Lower) j a _ (part_after (Lowering left)) (λ b. rounds_ends l left)
part_rest_ends l Pulling j a = job_rest_ends l 0 (FreeLines Pull) j a _ STOP_STEPS (λ b. clear_stop_ends l)

pub clear_rest_ends : (l : Layout) (s : Clear) (a : Answer) → Ends (rest_clear l s a) (clear_after s)
unfolding rest_clear
clear_rest_ends l s a = part_rest_ends l s.part s.job a
