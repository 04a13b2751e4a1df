-- An attempt shows itself: what the accesses of the line calls, the commands and the clearing sequences tell.
use Prim.Native.Nat.{ℕ, ◌-◌, suc, zero}
use mathlib.Core.Path.{◌≡◌, refl, ◌∙◌, sym}
use mathlib.Core.Bool.{Bool, true, false, false≢true}
use mathlib.Core.List.{List, [], ◌∷◌}
use lib.Dec.{eqb, ltb}
use borrow.Author.Tests.{eq-eqb}
use Rattle.hardware.specs.declared.Access.TheVariants.{Read, Write}
use Rattle.hardware.specs.declared.Answer.{Answer}
use Rattle.hardware.specs.declared.Answer.TheVariants.{Value, Done, Failed}
use Rattle.hardware.specs.Failures.{Failure, Io, I2c}
use Rattle.hardware.specs.Prog.{Attempt as Begins, Acquires, Acquired, Released, Lapsed, Acknowledged, Prog, ret, ask, note, note_if, give, R, Ok, Err, or_err, ◌>>=◌, pick}
use Rattle.hardware.specs.Marks.{acknowledged}
use Rattle.hardware.specs.Registers.{STATUS, none_of, raw, written, flushed}
use Rattle.bus.specs.declared.Layout.{Layout}
use Rattle.bus.specs.declared.Taken.{Taken}
use Rattle.bus.specs.declared.command.Command.{Command}
use Rattle.bus.specs.declared.command.Command.TheVariants.{Start, Send, Read as ReadCommand, Stop, Free}
use Rattle.bus.specs.declared.command.Piece.{Piece}
use Rattle.bus.specs.Bus.{Held, Bus, done, fail, none, or_held, flushing, put, get, wait, scl_seen, scl_tries, scl_high, scl_low, sda_seen, sda_free, sda, release_sda, look, look_seen, start, close, stop, out_bit, sample, sample_seen, in_bit, shifted, in_bits, in_byte, bit_of, out_bits, heard as heardIn, ack_seen, ack_tries, send, pulses, is_i2c, or_quiet, quieted, quiet, clear, clear_free, clear_again, clear_stop, pulled, rounds, clear_rounds}
use Rattle.script.proofs.Laws.{Unfreed}
use Rattle.transfer.specs.declared.attempt.Sequence.{Sequence}
use Rattle.transfer.specs.declared.attempt.Sequence.TheVariants.{Pulses, Rounds}
use Rattle.transfer.specs.Transfer.{Mode, handing, keeping, tells, did, is_read, took_by, handed, transfer}
use Rattle.transfer.specs.Attempt.{clearing, or_i2c, or_cleared, cleared, or_tried, tried, begun, attempting, attempt}
use Rattle.i2c.specs.Shown.{Phase, outside, inside, looked, sampled, freeing, freed, opens, on_read, on_write, rested, on_wait, phase_after, begins}
use Rattle.i2c.proofs.Shows.{Shows, shows_bind, shows_either}

-- the phases of the commands, and of the clearing sequence, true; behind: behind a read of I2CCTL, with no wait between
abbrev phase : Bool → Bool → Phase
phase false false = inside
phase false true = looked
phase true false = freeing
phase true true = freed

-- behind SCL's lowering and its wait of 5
abbrev lowered : Sequence → Bool → Phase
lowered q false = inside
lowered q true = rested q

-- a read begins no attempt and leads on
abbrev Reads : Phase → Phase → Type 0
Reads s t = (opens s ≡ false) × (on_read s ≡ t)

-- behind a write, its flush and a wait of 1
abbrev driven : Sequence → Phase → Phase
driven q s = on_wait q 1 (on_write (on_write s))

-- how a phase goes on: a read behind a wait; a write and its flush; a wait other than of 1 and 5
read_on : (c : Bool) → Reads (phase c false) (phase c true)
read_on false = (refl, refl)
read_on true = (refl, refl)

put_on : (c behind : Bool) → on_write (on_write (phase c behind)) ≡ phase c behind
put_on false false = refl
put_on false true = refl
put_on true false = refl
put_on true true = refl

wait_on : (q : Sequence) (us : ℕ) → eqb us 1 ≡ false → eqb us 5 ≡ false → (c behind : Bool) → on_wait q us (phase c behind) ≡ phase c false
unfolding pick
wait_on q us g h false false = refl
wait_on q us g h false true = rw g refl
wait_on q us g h true false = rw h refl
wait_on q us g h true true = rw h refl

-- a wait of 5 directly behind a read
wait_5 : (q : Sequence) (c : Bool) → on_wait q 5 (phase c true) ≡ phase c c
unfolding pick
wait_5 q false = refl
wait_5 q true = refl

-- behind a write, its flush and a wait of 1: a read; a wait of 5; and in the clearing sequence
raise_on : (q : Sequence) (c behind : Bool) → Reads (driven q (phase c behind)) (phase c true)
unfolding pick
raise_on q false false = (refl, refl)
raise_on q false true = (refl, refl)
raise_on q true false = (refl, refl)
raise_on q true true = (refl, refl)

lower_on : (q : Sequence) (c behind : Bool) → on_wait q 5 (driven q (phase c behind)) ≡ lowered q c
unfolding pick
lower_on q false false = refl
lower_on q false true = refl
lower_on q true false = refl
lower_on q true true = refl

free_on : (q : Sequence) (behind : Bool) → driven q (phase true behind) ≡ freeing
unfolding pick
free_on q false = refl
free_on q true = refl

-- a byte that is handed out changes nothing
tells_shows : {A : Type 0} (q : Sequence) (l : Layout) (m : Mode) (b : ℕ) (due : Bool) (s : Phase) (p : Prog A) (Q : A → Phase → Type 0) → Shows q l due s p Q
    → Shows q l due s (tells m b p) Q
unfolding Shows tells
tells_shows q l keeping b due s p Q e = e
tells_shows q l handing b due s (ret v) Q e = e
tells_shows q l handing b due s (ask x f) Q e = e
tells_shows q l handing b due s (note Begins p) Q e = (e.0, tells_shows q l handing b true s p Q e.1)
tells_shows q l handing b due s (note Acquires p) Q e = tells_shows q l handing b due s p Q e
tells_shows q l handing b due s (note Acquired p) Q e = tells_shows q l handing b due s p Q e
tells_shows q l handing b due s (note Released p) Q e = tells_shows q l handing b due s p Q e
tells_shows q l handing b due s (note Lapsed p) Q e = tells_shows q l handing b due s p Q e
tells_shows q l handing b due s (note (Acknowledged sample) p) Q e = tells_shows q l handing b due s p Q e
tells_shows q l handing b due s (give d p) Q e = e

-- the phase at success and at a failure of the module bus; behind another failure no attempt follows on this one
unfoldable pub Ended : (Phase → Type 0) → (Phase → Type 0) → R Taken → Phase → Type 0
Ended good bad (Ok t) s = good s
Ended good bad (Err e) s = is_i2c e ≡ true → bad s

abbrev Through : (Phase → Type 0) → Held → Phase → Type 0
Through P h s = Ended P P h.out s

io_through : (P : Phase → Type 0) (ctl : ℕ) (s : Phase) → Through P (record { ctl = ctl; out = Err Io }) s
unfolding Ended is_i2c
io_through P ctl s h = absurd (false≢true h)

-- the clearing sequence begins: with a read; or with two writes, their flushes and waits of 1, and a read
abbrev Breaks : Sequence → Phase → Type 0
Breaks Pulses s = Reads s freed
Breaks Rounds s = Reads (driven Rounds (driven Rounds s)) freed

-- where SDA was seen low, and where a byte was not acknowledged
breaks_low : (q : Sequence) → Breaks q looked
unfolding pick
breaks_low Pulses = (refl, refl)
breaks_low Rounds = (refl, refl)

breaks_high : (q : Sequence) → Breaks q (rested q)
unfolding pick
breaks_high Pulses = (refl, refl)
breaks_high Rounds = (refl, refl)

-- it has begun; it may have ended
abbrev Frees : Phase → Type 0
Frees s = (behind : Bool) × (s ≡ phase true behind)

abbrev Freed : Phase → Type 0
Freed s = s ≡ freed

-- at the end of the commands of an attempt, and of the attempt: after success anywhere
abbrev Moved : Sequence → Held → Phase → Type 0
Moved q h s = Ended (λ _. Unit {0}) (Breaks q) h.out s

abbrev pub Attempted : R Taken → Phase → Type 0
Attempted r s = Ended (λ _. Unit {0}) Freed r s

-- where an attempt may begin, its commands follow
opened : (s : Phase) → opens s ≡ true → on_read s ≡ inside
opened outside h = refl
opened inside h = absurd (false≢true h)
opened looked h = absurd (false≢true h)
opened sampled h = absurd (false≢true h)
opened freeing h = absurd (false≢true h)
opened freed h = refl

or_quiet_lem : (q : Sequence) (l : Layout) (P Z : Phase → Type 0) (k : Bus) (t : Phase) (ctl : ℕ) (r : R Taken) → Ended P P r t
    → (P t → (ctl : ℕ) → Shows q l false t (k ctl) (Through Z)) → Shows q l false t (or_quiet k ctl r) (Through Z)
unfolding or_quiet Ended Shows
or_quiet_lem q l P Z k t ctl (Ok a) h d = d h ctl
or_quiet_lem q l P Z k t ctl (Err e) h d =
    shows_either q l t (is_i2c e) _ _ (Through Z) (λ i. d (h i) ctl) (λ i. (refl, λ j. absurd (false≢true (sym i ∙ j))))

-- apart: the register of a flush is not I2CCTL
module _ (q : Sequence) (l : Layout) (apart : eqb STATUS l.reg ≡ false) where
  read_after : (s : Phase) → phase_after q l s (Read l.reg) ≡ on_read s
  unfolding phase_after pick
  read_after s = rw (eq-eqb l.reg l.reg refl)

  read_begins : (s : Phase) → begins l s (Read l.reg) ≡ opens s
  unfolding begins pick
  read_begins s = rw (eq-eqb l.reg l.reg refl)

  write_after : (s : Phase) (v : ℕ) → phase_after q l s (Write l.reg v) ≡ on_write s
  unfolding phase_after pick
  write_after s v = rw (eq-eqb l.reg l.reg refl)

  pub flush_after : (s : Phase) → phase_after q l s (Read STATUS) ≡ on_write s
  unfolding phase_after pick
  flush_after s = rw apart refl

  pub flush_begins : (s : Phase) → begins l s (Read STATUS) ≡ false
  unfolding begins pick
  flush_begins s = rw apart refl

  -- Q: what holds at the end of a line call, and does where an access has failed
  module _ (Q : Held → Phase → Type 0) (io : (ctl : ℕ) (s : Phase) → Q (record { ctl = ctl; out = Err Io }) s) where
    abbrev From : Phase → Bus → Type 0
    From s k = (ctl : ℕ) → Shows q l false s (k ctl) Q

    from_fail : (s : Phase) (e : Failure) → ((ctl : ℕ) → Q (record { ctl = ctl; out = Err e }) s) → From s (fail e)
    unfolding Shows
    from_fail s e h ctl = (refl, h ctl)

    from_pick : (s : Phase) (b : Bool) (p r : Bus) → From s p → From s r → From s (pick b p r)
    unfolding pick
    from_pick s true p r e d = e
    from_pick s false p r e d = d

    from_wait : (us : ℕ) (s t : Phase) (k : Bus) → on_wait q us s ≡ t → From t k → From s (wait us k)
    unfolding wait Shows begins phase_after
    from_wait us s t k h e ctl = (refl, λ a. rw h (e ctl))

    from_get : (s t : Phase) (k : ℕ → Bus) → Reads s t → ((v : ℕ) → From t (k v)) → From s (get l k)
    unfolding get Shows or_held raw
    from_get s t k h e ctl = (read_begins s ∙ h.0, λ a. rw (read_after s ∙ h.1) (by a))
      where
        by : (a : Answer) → Shows q l false t (or_held k ctl (raw a)) Q
        by (Value v) = e v ctl
        by Done = (refl, io ctl t)
        by Failed = (refl, io ctl t)

    from_flush : (s : Phase) (k : Bus) → From (on_write s) k → From s (flushing k)
    unfolding flushing Shows or_held flushed
    from_flush s k e ctl = (flush_begins s, λ a. rw (flush_after s) (by a))
      where
        by : (a : Answer) → Shows q l false (on_write s) (or_held (λ _. k) ctl (flushed a)) Q
        by (Value v) = e ctl
        by Done = (refl, io ctl _)
        by Failed = (refl, io ctl _)

    from_put : (s t : Phase) (k : Bus) → on_write (on_write s) ≡ t → From t k → From s (put l k)
    unfolding put Shows begins or_held written
    from_put s t k h e ctl = (refl, λ a. rw (write_after s ctl) (by a))
      where
        by : (a : Answer) → Shows q l false (on_write s) (or_held (λ _. flushing k) ctl (written a)) Q
        by (Value v) = (refl, io ctl _)
        by Done = from_flush (on_write s) k (rw h e) ctl
        by Failed = (refl, io ctl _)

    -- a line's level is set: a write, its flush and a wait of 1
    drive : (s : Phase) (k : Bus) → From (driven q s) k → From s (put l (wait 1 k))
    drive s k e = from_put s _ _ refl (from_wait 1 _ _ k refl e)

    release : (s : Phase) (k : Bus) → From (driven q s) k → From s (release_sda l k)
    unfolding release_sda
    release s k e ctl = drive s k e _

    -- a line call from a phase of the commands, or of the clearing sequence
    module _ (c : Bool) where
      -- behind a wait; behind SCL's lowering and its wait of 5; behind a read
      abbrev Waited : Bus → Type 0
      Waited k = From (phase c false) k

      abbrev Lowered : Bus → Type 0
      Lowered k = From (lowered q c) k

      abbrev Behind : Bus → Type 0
      Behind k = From (phase c true) k

      waited : (us : ℕ) → eqb us 1 ≡ false → eqb us 5 ≡ false → (behind : Bool) (k : Bus) → Waited k → From (phase c behind) (wait us k)
      waited us g h behind k e = from_wait us _ _ k (wait_on q us g h c behind) e

      put_waited : (us : ℕ) → eqb us 1 ≡ false → eqb us 5 ≡ false → (behind : Bool) (k : Bus) → Waited k → From (phase c behind) (put l (wait us k))
      put_waited us g h behind k e = from_put _ _ _ (put_on c behind) (waited us g h behind k e)

      scl_once : (s : Phase) → Reads (driven q s) (phase c true) → (n : ℕ) (k : Bus) → Behind (scl_tries l n k) → Behind k → From s (scl_tries l (suc n) k)
      unfolding scl_tries scl_seen
      scl_once s h n k d e ctl = drive s _ (from_get _ _ _ h (λ v. from_pick _ _ _ _ d e)) _

      scl_tries_lem : (n : ℕ) (k : Bus) → Behind k → Behind (scl_tries l n k)
      unfolding scl_tries
      scl_tries_lem zero k e = e
      scl_tries_lem (suc n) k e = scl_once _ (raise_on q c true) n k (scl_tries_lem n k e) e

      scl_raised : (s : Phase) → Reads (driven q s) (phase c true) → (k : Bus) → Behind k → From s (scl_high l k)
      unfolding scl_high
      scl_raised s h k e ctl = scl_once s h 499 k (scl_tries_lem 499 k e) e _

      scl_high_lem : (behind : Bool) (k : Bus) → Behind k → From (phase c behind) (scl_high l k)
      scl_high_lem behind k e = scl_raised _ (raise_on q c behind) k e

      -- SCL low and a wait of 5
      scl_low_lem : (behind : Bool) (k : Bus) → Lowered k → From (phase c behind) (scl_low l (wait 5 k))
      unfolding scl_low
      scl_low_lem behind k e ctl = drive _ _ (from_wait 5 _ _ k (lower_on q c behind) e) _

      sda_low : (behind : Bool) (k : Bus) → Waited k → From (phase c behind) (sda l false k)
      unfolding sda
      sda_low behind k e ctl = put_waited 3 refl refl behind k e _

      -- SCL high, a wait, SCL low and a wait
      pulse : (behind : Bool) (k : Bus) → Lowered k → From (phase c behind) (scl_high l (wait 4 (scl_low l (wait 5 k))))
      pulse behind k e = scl_high_lem behind _ (waited 4 refl refl true _ (scl_low_lem false k e))

      -- SCL high, a wait, and SDA read
      heard : (s : Phase) → Reads (driven q s) (phase c true) → (k : Bool → Bus) → ((bit : Bool) → Behind (k bit)) → From s (scl_high l (wait 4 (sample l k)))
      unfolding sample sample_seen
      heard s h k e = scl_raised s h _ (waited 4 refl refl true _ (from_get _ _ _ (read_on c) (λ v. e _)))

      -- low: SDA was seen low
      module _ (low : (ctl : ℕ) → Q (record { ctl = ctl; out = Err (I2c 0) }) (phase c true)) where
        sda_free_lem : (k : Bus) → Behind k → Waited (sda_free l k)
        unfolding sda_free sda_seen
        sda_free_lem k e ctl =
            let seen : Waited (get l (sda_seen l k)) = from_get _ _ _ (read_on c) (λ v. from_pick _ (none_of v l.sdain) _ _ (from_fail _ _ low) e) in
            shows_either q l _ (eqb l.sdaoen 0) _ _ Q (λ _. seen ctl) (λ _. from_put _ _ _ (put_on c false) seen _)

        sda_high : (behind : Bool) (k : Bus) → Behind k → From (phase c behind) (sda l true k)
        unfolding sda
        sda_high behind k e ctl = put_waited 3 refl refl behind _ (sda_free_lem k e) _

        start_from : (s : Phase) (k : Bus) → Reads s (phase c true) → Lowered k → From s (start l k)
        unfolding start look look_seen
        start_from s k h e =
            from_get s _ _ h (λ v ctl.
            sda_high true _ (scl_high_lem true _ (from_wait 5 _ _ _ (wait_5 q c) (sda_low c _ (waited 4 refl refl false _ (scl_low_lem false k e))))) _)

        stop_from : (behind : Bool) (k : Bus) → From (phase c c) k → From (phase c behind) (stop l k)
        unfolding stop close
        stop_from behind k e =
            sda_low behind _ (scl_high_lem false _ (waited 4 refl refl true _ (sda_high false _ (from_wait 5 _ _ _ (wait_5 q c)
            (from_pick _ _ _ _ e (λ ctl. from_put _ _ k (put_on c c) e _))))))

    -- the commands

    in_bit_lem : (k : Bool → Bus) → ((bit : Bool) → From inside (k bit)) → From inside (in_bit l k)
    unfolding in_bit
    in_bit_lem k e = release inside _ (heard false inside (refl, refl) _ (λ bit. scl_low_lem false true _ (e bit)))

    in_bits_lem : (n byte : ℕ) (k : ℕ → Bus) → ((v : ℕ) → From inside (k v)) → From inside (in_bits l n byte k)
    unfolding in_bits
    in_bits_lem zero byte k e = e byte
    in_bits_lem (suc n) byte k e = in_bit_lem _ (λ bit. in_bits_lem n (shifted byte bit) k e)

    from_heard : (left : ℕ) (s : Phase) (k : Bus) → From s k → From s (heardIn left k)
    unfolding acknowledged Shows
    from_heard left s k e ctl = by (ltb left 10)
      where
        by : (b : Bool) → Shows q l false s (note_if b (Acknowledged (10 - left)) (k ctl)) Q
        by true = e ctl
        by false = e ctl

    -- the samples of an acknowledgement; from the second on the one before and its wait stand before each
    ack_once : (s : Phase) (n : ℕ) (k : Bool → Bus) → Reads s looked → From looked (k false) → From sampled (ack_tries l n k) → From s (ack_tries l (suc n) k)
    unfolding ack_tries ack_seen pick
    ack_once s n k h e d = from_get s _ _ h (λ v. from_pick _ (none_of v l.sdain) _ _ (from_heard n _ _ e) (from_wait 1 _ _ _ refl d))

    ack_tries_lem : (n : ℕ) (k : Bool → Bus) → From looked (k false) → From sampled (k true) → From sampled (ack_tries l n k)
    unfolding ack_tries
    ack_tries_lem zero k e d = d
    ack_tries_lem (suc n) k e d = ack_once sampled n k (refl, refl) e (ack_tries_lem n k e d)

    -- Q where SDA was seen low, where a byte was not acknowledged, and at the end
    module _
        (low : (ctl : ℕ) → Q (record { ctl = ctl; out = Err (I2c 0) }) looked)
        (high : (device ctl : ℕ) → Q (record { ctl = ctl; out = Err (I2c device) }) (rested q))
        (ends : (t : Taken) (ctl : ℕ) (s : Phase) → Q (record { ctl = ctl; out = Ok t }) s)
      where
        out_from : (bit : Bool) (k : Bus) → From inside k → From inside (out_bit l bit k)
        unfolding out_bit
        out_from true k e = sda_high false low false _ (pulse false true k e)
        out_from false k e = sda_low false false _ (pulse false false k e)

        out_bits_lem : (byte n : ℕ) (k : Bus) → From inside k → From inside (out_bits l byte n k)
        unfolding out_bits
        out_bits_lem byte zero k e = e
        out_bits_lem byte (suc n) k e = out_from (bit_of byte n) _ (out_bits_lem byte n k e)

        -- SCL low and a wait, behind the last sample
        refused : (device : ℕ) → From sampled (scl_low l (wait 5 (fail (I2c device))))
        unfolding scl_low pick
        refused device ctl = drive sampled _ (from_wait 5 freeing _ _ refl (from_fail _ _ (high device))) _

        send_from : (device byte : ℕ) (k : Bus) → From inside k → From inside (send l device byte k)
        unfolding send pick
        send_from device byte k e =
            let answered = scl_low_lem false true k e in
            out_bits_lem byte 8 _ (release inside _ (scl_high_lem false false _ (waited false 4 refl refl true _
            (ack_once inside 9 _ (refl, refl) answered (ack_tries_lem 9 _ answered (refused device))))))

        did_from : (device : ℕ) (c : Command) (k : ℕ → Bus) → ((p : Piece) → c ≡ Free p → ⊥) → ((b : ℕ) → From inside (k b)) → From inside (did l device c k)
        unfolding did in_byte
        did_from device Start k h e = start_from false low inside (k 0) (refl, refl) (e 0)
        did_from device (Send value) k h e = send_from device value (k 0) (e 0)
        did_from device (ReadCommand ack) k h e = in_bits_lem 8 0 _ (λ value. out_from ack (k value) (e value))
        did_from device Stop k h e = stop_from false low false (k 0) (e 0)
        did_from device (Free p) k h e = absurd (h p refl)

        handed_from : (m : Mode) (c : Command) (b : ℕ) (k : Bus) → From inside k → From inside (handed m c b k)
        unfolding handed
        handed_from m c b k e ctl = shows_either q l inside (is_read c) _ _ Q (λ _. tells_shows q l m b false inside (k ctl) Q (e ctl)) (λ _. e ctl)

        transfer_from : (m : Mode) (device : ℕ) (cs : List Command) (t : Taken) → Unfreed cs → From inside (transfer m l device cs t)
        unfolding transfer Shows Unfreed
        transfer_from m device [] t h ctl = (refl, ends t ctl inside)
        transfer_from m device (c ∷ cs) t h ctl = did_from device c _ h.0 (λ b. handed_from m c b _ (transfer_from m device cs (took_by c t b) h.1)) ctl

  -- the pieces of the clearing sequences

  quiet_shows : (P Z : Phase → Type 0) (s : Phase) (p k : Bus) → ((ctl : ℕ) → Shows q l false s (p ctl) (Through P))
      → ((t : Phase) → P t → (ctl : ℕ) → Shows q l false t (k ctl) (Through Z)) → (ctl : ℕ) → Shows q l false s (quiet p k ctl) (Through Z)
  unfolding quiet quieted
  quiet_shows P Z s p k e d ctl =
      shows_bind q l false s (p ctl) (quieted k) (Through P) (Through Z) (e ctl) (λ h t i. or_quiet_lem q l P Z k t h.ctl h.out i (d t))

  stop_shows : (t : Phase) → Frees t → (ctl : ℕ) → Shows q l false t (clear_stop l ctl) (Through Freed)
  unfolding clear_stop Shows Ended
  stop_shows t h =
      quiet_shows Freed Freed t _ _
      (rw h.1 (stop_from (Through Freed) (io_through Freed) true (λ ctl i. refl) h.0 (done none) (λ ctl. (refl, refl))))
      (λ u p ctl. (refl, p))

module _ (l : Layout) (apart : eqb STATUS l.reg ≡ false) where
  -- a clearing sequence from a phase on
  abbrev Clears : Sequence → Phase → Bus → Type 0
  Clears q s k = (ctl : ℕ) → Shows q l false s (k ctl) (Through Freed)

  start_shows : (s : Phase) → Reads s freed → (ctl : ℕ) → Shows Pulses l false s (start l (done none) ctl) (Through Frees)
  unfolding Shows Ended
  start_shows s h =
      start_from Pulses l apart _ (io_through Frees) true (λ ctl i. (true, refl)) s (done none) h (λ ctl. (refl, (false, refl)))

  pulses_show : (n : ℕ) (k : Bus) → Clears Pulses freeing k → Clears Pulses freeing (pulses l n k)
  unfolding pulses
  pulses_show zero k e = e
  pulses_show (suc n) k e = pulse Pulses l apart _ (io_through Freed) true false _ (pulses_show n k e)

  free_shows : (t : Phase) → Frees t → Clears Pulses t (clear_free l)
  unfolding clear_free clear_again
  free_shows t h =
      rw h.1
      (release Pulses l apart _ (io_through Freed) _ _
      (rw (free_on Pulses h.0)
      (pulses_show 9 _ (quiet_shows Pulses l apart Frees Freed freeing _ _ (start_shows freeing (refl, refl)) (stop_shows Pulses l apart)))))

  clear_shows : (s : Phase) → Breaks Pulses s → Clears Pulses s (clear l)
  unfolding clear
  clear_shows s h = quiet_shows Pulses l apart Frees Freed s _ _ (start_shows s h) free_shows

  pulled_shows : Clears Rounds freed (pulled l)
  unfolding pulled
  pulled_shows =
      sda_low Rounds l apart _ (io_through Freed) true true _
      (waited Rounds l apart _ (io_through Freed) true 4 refl refl false _
      (scl_low_lem Rounds l apart _ (io_through Freed) true false _ (stop_shows Rounds l apart freed (true, refl))))

  -- a round, and those behind it
  round_shows : (n : ℕ) (s : Phase) → Reads (driven Rounds s) freed → Clears Rounds freed (rounds l n) → Clears Rounds s (rounds l (suc n))
  unfolding rounds
  round_shows n s h e =
      heard Rounds l apart _ (io_through Freed) true s h _
      (λ high. from_pick Rounds l apart _ (io_through Freed) freed high _ _ pulled_shows
      (scl_low_lem Rounds l apart _ (io_through Freed) true true _ e))

  rounds_show : (n : ℕ) → Clears Rounds freed (rounds l n)
  unfolding rounds Shows Ended
  rounds_show zero = λ ctl. (refl, refl)
  rounds_show (suc n) = round_shows n freed (raise_on Rounds true true) (rounds_show n)

  clear_rounds_shows : (s : Phase) → Breaks Rounds s → Clears Rounds s (clear_rounds l)
  unfolding clear_rounds
  clear_rounds_shows s h = release Rounds l apart _ (io_through Freed) s _ (round_shows 9 (driven Rounds s) h (rounds_show 9))

  clearing_shows : (q : Sequence) (s : Phase) → Breaks q s → Clears q s (clearing q l)
  unfolding clearing
  clearing_shows Pulses = clear_shows
  clearing_shows Rounds = clear_rounds_shows

module _ (q : Sequence) (l : Layout) (apart : eqb STATUS l.reg ≡ false) where
  cleared_shows : (device : ℕ) (s : Phase) (r : R Taken) → Ended Freed Freed r s → Shows q l false s (or_cleared device r) Attempted
  unfolding or_cleared or_i2c Ended Shows pick
  cleared_shows device s (Ok t) h = (refl, λ i. h)
  cleared_shows device s (Err e) h = (refl, by (is_i2c e) refl)
    where
      by : (b : Bool) → is_i2c e ≡ b → is_i2c (pick b (I2c device) e) ≡ true → Freed s
      by true i j = h i
      by false i j = h j

  tried_shows : (device ctl : ℕ) (s : Phase) (r : R Taken) → Ended (λ _. Unit {0}) (Breaks q) r s → Shows q l false s (or_tried q l device ctl r) Attempted
  unfolding or_tried cleared Ended Shows
  tried_shows device ctl s (Ok t) h = (refl, tt)
  tried_shows device ctl s (Err e) h =
      shows_either q l s (is_i2c e) _ _ Attempted
      (λ i. shows_bind q l false s _ _ (Through Freed) Attempted (clearing_shows l apart q s (h i) ctl) (λ x t p. cleared_shows device t x.out p))
      (λ i. (refl, λ j. absurd (false≢true (sym i ∙ j))))

  -- an attempt over what f does on the bus, from wherever one may begin
  attempt_shows : (device : ℕ) (f : Bus) (s : Phase) → opens s ≡ true → ((ctl : ℕ) → Shows q l false inside (f ctl) (Moved q))
      → Shows q l false s (attempt q l device f) Attempted
  unfolding attempt attempting begun tried or_err raw Ended is_i2c Shows ◌>>=◌
  attempt_shows device f s h e = (refl, (read_begins q l apart s ∙ h, λ a. rw (read_after q l apart s ∙ opened s h) (by a)))
    where
      by : (a : Answer) → Shows q l false inside (or_err (begun q l device f) (raw a)) Attempted
      by (Value v) =
          shows_bind q l false inside (f v) (tried q l device) (Moved q) Attempted (e v) (λ x t p. tried_shows device x.ctl t x.out p)
      by Done = (refl, λ i. absurd (false≢true i))
      by Failed = (refl, λ i. absurd (false≢true i))

  -- over the commands of a script
  pub commands_show : (m : Mode) (device : ℕ) (cs : List Command) (s : Phase) → Unfreed cs → opens s ≡ true
      → Shows q l false s (attempt q l device (transfer m l device cs none)) Attempted
  unfolding Ended is_i2c
  commands_show m device cs s u h =
      attempt_shows device _ s h
      (transfer_from q l apart (Moved q) (λ ctl t i. absurd (false≢true i)) (λ ctl i. breaks_low q) (λ d ctl i. breaks_high q) (λ t ctl u. tt) m device cs none u)
