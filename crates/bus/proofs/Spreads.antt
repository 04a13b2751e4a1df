-- What spreads holds of the line calls, the commands and the clearing sequences wherever it holds of what comes after them.
use Prim.Native.Nat.{ℕ, ◌-◌, suc, zero}
use mathlib.Core.Bool.{Bool, true, false}
use mathlib.Core.Path.{◌≡◌, refl}
use native.Mathlib.Omega.{arith}
use lib.Dec.{ltb}
use borrow.Author.Tests.{ltb-true}
use Rattle.hardware.specs.declared.Access.{Access}
use Rattle.hardware.specs.declared.Answer.{Answer}
use Rattle.hardware.specs.Failures.{Failure, I2c}
use Rattle.hardware.specs.Marks.{acknowledged}
use Rattle.hardware.specs.Prog.{Prog, Acknowledged, ask, note, note_if, R, Ok, Err, pick, ◌>>=◌}
use Rattle.hardware.specs.Registers.{raw, written, flushed}
use Rattle.hardware.specs.Runs.{Sample}
use Rattle.bus.specs.declared.Layout.{Layout}
use Rattle.bus.specs.declared.Taken.{Taken}
use Rattle.bus.specs.declared.command.Piece.{Piece}
use Rattle.bus.specs.declared.command.Piece.TheVariants.{Pulses, Probe, Lower, Pull}
use Rattle.bus.specs.Command.{freed}
use Rattle.bus.specs.Bus.{Held, Bus, done, fail, none, or_held, flushing, put, get, wait, scl_seen, scl_tries, scl_high, scl_low, sda_seen, sda_free, sda, release_sda, look, look_seen, start, close, stop, out_bit, sample, sample_seen, in_bit, shifted, in_bits, in_byte, bit_of, out_bits, heard, ack_seen, ack_tries, send, pulses, or_quiet, quieted, quiet, clear, clear_free, clear_again, clear_stop, pulled, rounds, clear_rounds}

-- P holds of a failure, of an access wherever it holds after each answer, and of an acknowledgement where it holds after it
pub record Spreads (P : Prog Held → Type 0) : Type 0 where
  pub asked : (x : Access) (f : Answer → Prog Held) → ((a : Answer) → P (f a)) → P (ask x f)
  pub failed : (e : Failure) (ctl : ℕ) → P (fail e ctl)
  pub noted : (sample : ℕ) (p : Prog Held) → Sample sample → P p → P (note (Acknowledged sample) p)

-- whatever control word the driver holds
abbrev pub Throughout : (Prog Held → Type 0) → Bus → Type 0
Throughout P k = (ctl : ℕ) → P (k ctl)

module _ (P : Prog Held → Type 0) (s : Spreads P) where
  pick_holds : (b : Bool) (p q : Prog Held) → P p → P q → P (pick b p q)
  unfolding pick
  pick_holds true p q e d = e
  pick_holds false p q e d = d

  either_holds : (b : Bool) (p q : Bus) → Throughout P p → Throughout P q → Throughout P (pick b p q)
  unfolding pick
  either_holds true p q e d = e
  either_holds false p q e d = d

  or_held_holds : {A : Type 0} (k : A → Bus) (ctl : ℕ) (r : R A) → ((a : A) → Throughout P (k a)) → P (or_held k ctl r)
  unfolding or_held
  or_held_holds k ctl (Ok a) e = e a ctl
  or_held_holds k ctl (Err x) e = s.failed x ctl

  flushing_holds : (k : Bus) → Throughout P k → Throughout P (flushing k)
  unfolding flushing
  flushing_holds k e ctl = s.asked _ _ (λ a. or_held_holds (λ _. k) ctl (flushed a) (λ _. e))

  put_holds : (l : Layout) (k : Bus) → Throughout P k → Throughout P (put l k)
  unfolding put
  put_holds l k e ctl = s.asked _ _ (λ a. or_held_holds (λ _. flushing k) ctl (written a) (λ _. flushing_holds k e))

  get_holds : (l : Layout) (k : ℕ → Bus) → ((v : ℕ) → Throughout P (k v)) → Throughout P (get l k)
  unfolding get
  get_holds l k e ctl = s.asked _ _ (λ a. or_held_holds k ctl (raw a) e)

  wait_holds : (us : ℕ) (k : Bus) → Throughout P k → Throughout P (wait us k)
  unfolding wait
  wait_holds us k e ctl = s.asked _ _ (λ a. e ctl)

  scl_tries_holds : (l : Layout) (tries : ℕ) (k : Bus) → Throughout P k → Throughout P (scl_tries l tries k)
  unfolding scl_tries scl_seen
  scl_tries_holds l zero k e ctl = e ctl
  scl_tries_holds l (suc left) k e ctl =
      put_holds l _ (wait_holds 1 _ (get_holds l _ (λ v. either_holds _ _ _ (scl_tries_holds l left k e) e))) _

  scl_high_holds : (l : Layout) (k : Bus) → Throughout P k → Throughout P (scl_high l k)
  unfolding scl_high
  scl_high_holds l k e ctl = scl_tries_holds l 500 k e _

  scl_low_holds : (l : Layout) (k : Bus) → Throughout P k → Throughout P (scl_low l k)
  unfolding scl_low
  scl_low_holds l k e ctl = put_holds l _ (wait_holds 1 k e) _

  sda_free_holds : (l : Layout) (k : Bus) → Throughout P k → Throughout P (sda_free l k)
  unfolding sda_free sda_seen
  sda_free_holds l k e ctl =
      let seen = get_holds l _ (λ v. either_holds _ _ k (s.failed (I2c 0)) e) in
      pick_holds _ _ _ (seen ctl) (put_holds l _ seen _)

  sda_holds : (l : Layout) (high : Bool) (k : Bus) → Throughout P k → Throughout P (sda l high k)
  unfolding sda
  sda_holds l true k e ctl = put_holds l _ (wait_holds 3 _ (sda_free_holds l k e)) _
  sda_holds l false k e ctl = put_holds l _ (wait_holds 3 k e) _

  release_sda_holds : (l : Layout) (k : Bus) → Throughout P k → Throughout P (release_sda l k)
  unfolding release_sda
  release_sda_holds l k e ctl = put_holds l _ (wait_holds 1 k e) _

  look_holds : (l : Layout) (k : Bus) → Throughout P k → Throughout P (look l k)
  unfolding look look_seen
  look_holds l k e = get_holds l _ (λ v ctl. e _)

  -- SCL high, a wait, SCL low and a wait
  pulse_holds : (l : Layout) (k : Bus) → Throughout P k → Throughout P (scl_high l (wait 4 (scl_low l (wait 5 k))))
  pulse_holds l k e = scl_high_holds l _ (wait_holds 4 _ (scl_low_holds l _ (wait_holds 5 k e)))

  pub start_holds : (l : Layout) (k : Bus) → Throughout P k → Throughout P (start l k)
  unfolding start
  start_holds l k e =
      look_holds l _
      (sda_holds l true _
      (scl_high_holds l _
      (wait_holds 5 _ (sda_holds l false _ (wait_holds 4 _ (scl_low_holds l _ (wait_holds 5 k e)))))))

  close_holds : (l : Layout) (k : Bus) → Throughout P k → Throughout P (close l k)
  unfolding close
  close_holds l k e ctl = put_holds l k e _

  pub stop_holds : (l : Layout) (k : Bus) → Throughout P k → Throughout P (stop l k)
  unfolding stop
  stop_holds l k e =
      sda_holds l false _
      (scl_high_holds l _
      (wait_holds 4 _ (sda_holds l true _ (wait_holds 5 _ (either_holds _ k (close l k) e (close_holds l k e))))))

  pub out_bit_holds : (l : Layout) (bit : Bool) (k : Bus) → Throughout P k → Throughout P (out_bit l bit k)
  unfolding out_bit
  out_bit_holds l bit k e = sda_holds l bit _ (pulse_holds l k e)

  in_bit_holds : (l : Layout) (k : Bool → Bus) → ((bit : Bool) → Throughout P (k bit)) → Throughout P (in_bit l k)
  unfolding in_bit sample sample_seen
  in_bit_holds l k e =
      release_sda_holds l _
      (scl_high_holds l _ (wait_holds 4 _ (get_holds l _ (λ v. scl_low_holds l _ (wait_holds 5 _ (e _))))))

  in_bits_holds : (l : Layout) (count byte : ℕ) (k : ℕ → Bus) → ((v : ℕ) → Throughout P (k v)) → Throughout P (in_bits l count byte k)
  unfolding in_bits
  in_bits_holds l zero byte k e = e byte
  in_bits_holds l (suc count) byte k e = in_bit_holds l _ (λ bit. in_bits_holds l count (shifted byte bit) k e)

  pub in_byte_holds : (l : Layout) (k : ℕ → Bus) → ((v : ℕ) → Throughout P (k v)) → Throughout P (in_byte l k)
  unfolding in_byte
  in_byte_holds l k e = in_bits_holds l 8 0 k e

  out_bits_holds : (l : Layout) (byte count : ℕ) (k : Bus) → Throughout P k → Throughout P (out_bits l byte count k)
  unfolding out_bits
  out_bits_holds l byte zero k e = e
  out_bits_holds l byte (suc count) k e = out_bit_holds l (bit_of byte count) _ (out_bits_holds l byte count k e)

  heard_holds : (left : ℕ) (k : Bus) → Throughout P k → Throughout P (heard left k)
  unfolding acknowledged
  heard_holds left k e ctl = by (ltb left 10) refl
    where
      by : (b : Bool) → ltb left 10 ≡ b → P (note_if b (Acknowledged (10 - left)) (k ctl))
      by true h = s.noted _ _ (record { first = omega (arith, ltb-true left 10 h); last = omega arith }) (e ctl)
      by false h = e ctl

  ack_tries_holds : (l : Layout) (tries : ℕ) (k : Bool → Bus) → ((high : Bool) → Throughout P (k high)) → Throughout P (ack_tries l tries k)
  unfolding ack_tries ack_seen
  ack_tries_holds l zero k e = e true
  ack_tries_holds l (suc left) k e =
      get_holds l _ (λ v. either_holds _ _ _ (heard_holds left _ (e false)) (wait_holds 1 _ (ack_tries_holds l left k e)))

  pub send_holds : (l : Layout) (device byte : ℕ) (k : Bus) → Throughout P k → Throughout P (send l device byte k)
  unfolding send
  send_holds l device byte k e =
      out_bits_holds l byte 8 _
      (release_sda_holds l _
      (scl_high_holds l _
      (wait_holds 4 _
      (ack_tries_holds l 10 _
      (λ high. scl_low_holds l _ (wait_holds 5 _ (either_holds high (fail (I2c device)) k (s.failed (I2c device)) e)))))))

  pulses_holds : (l : Layout) (count : ℕ) (k : Bus) → Throughout P k → Throughout P (pulses l count k)
  unfolding pulses
  pulses_holds l zero k e = e
  pulses_holds l (suc count) k e = pulse_holds l _ (pulses_holds l count k e)

  lower_holds : (l : Layout) (k : Bus) → Throughout P k → Throughout P (scl_low l (wait 5 k))
  lower_holds l k e = scl_low_holds l _ (wait_holds 5 k e)

  pub free_holds : (l : Layout) (p : Piece) (k : ℕ → Bus) → ((b : ℕ) → Throughout P (k b)) → Throughout P (freed l p k)
  unfolding freed sample sample_seen
  free_holds l Pulses k e = release_sda_holds l _ (pulses_holds l 9 (k 0) (e 0))
  free_holds l Probe k e = release_sda_holds l _ (scl_high_holds l _ (wait_holds 4 _ (get_holds l _ (λ v. e _))))
  free_holds l Lower k e = lower_holds l (k 0) (e 0)
  free_holds l Pull k e = sda_holds l false _ (wait_holds 4 _ (lower_holds l (k 0) (e 0)))

  -- with what holds of success, and of one program after another, it holds of the clearing sequences
  module _ (ended : (t : Taken) (ctl : ℕ) → P (done t ctl)) (bound : (p : Prog Held) (k : Held → Prog Held) → P p → ((h : Held) → P (k h)) → P (p >>= k)) where
    quieted_holds : (k : Bus) → Throughout P k → (ctl : ℕ) (r : R Taken) → P (or_quiet k ctl r)
    unfolding or_quiet
    quieted_holds k e ctl (Ok t) = e ctl
    quieted_holds k e ctl (Err x) = pick_holds _ _ _ (e ctl) (s.failed x ctl)

    quiet_holds : (p k : Bus) → Throughout P p → Throughout P k → Throughout P (quiet p k)
    unfolding quiet quieted
    quiet_holds p k d e ctl = bound _ _ (d ctl) (λ h. quieted_holds k e h.ctl h.out)

    stop_quietly : (l : Layout) → Throughout P (clear_stop l)
    unfolding clear_stop
    stop_quietly l = quiet_holds _ _ (stop_holds l (done none) (ended none)) (ended none)

    pub clear_holds : (l : Layout) → Throughout P (clear l)
    unfolding clear clear_free clear_again freed
    clear_holds l =
        let started = start_holds l (done none) (ended none) in
        quiet_holds _ _ started (free_holds l Pulses (λ _. clear_again l) (λ _. quiet_holds _ _ started (stop_quietly l)))

    rounds_holds : (l : Layout) (left : ℕ) → Throughout P (rounds l left)
    unfolding rounds pulled sample sample_seen freed
    rounds_holds l zero = ended none
    rounds_holds l (suc left) =
        scl_high_holds l _ (wait_holds 4 _ (get_holds l _ (λ v. either_holds _ _ _ (free_holds l Pull (λ _. clear_stop l) (λ _. stop_quietly l)) (lower_holds l _ (rounds_holds l left)))))

    pub clear_rounds_holds : (l : Layout) → Throughout P (clear_rounds l)
    unfolding clear_rounds
    clear_rounds_holds l = release_sda_holds l _ (rounds_holds l 10)
