-- The line calls of `Bus` in `i2c.rs`. Each is given what comes after it, so that a failure, which ends the whole as
-- the Rust's `?` does, leaves the rest out. Waits are in microseconds.
use Rattle.std.specs.Prelude.{ℕ, ◌+◌, ◌*◌, ◌/◌, ◌%◌, ◌^◌, suc, zero, Bool, true, false, eqb}
use Rattle.std.specs.Int.Bits.{bit_and, bit_or}
use Rattle.hardware.specs.declared.Access.TheVariants.{Read, Write, Wait}
use Rattle.hardware.specs.Failures.{Failure, I2c}
use Rattle.hardware.specs.Marks.{acknowledged}
use Rattle.hardware.specs.Prog.{Prog, ret, ask, R, Ok, Err, pick, ◌>>=◌}
use Rattle.hardware.specs.Registers.{STATUS, not32, none_of, raw, written, flushed, micros}
use Rattle.bus.specs.declared.Layout.{Layout}
use Rattle.bus.specs.declared.Taken.{Taken}

-- no byte was read yet; and one more was
abbrev pub none : Taken
none = record { high = 0; low = 0; last = 0 }

abbrev pub took : Taken → ℕ → Taken
took t b = record { high = t.low; low = t.last; last = b }

-- the control word that the driver holds at the end, and the result with the bytes read
pub record Held : Type 0 where
  pub ctl : ℕ
  pub out : R Taken

-- a program that goes by the control word that the driver holds
abbrev pub Bus : Type 0
Bus = ℕ → Prog Held

abbrev pub done : Taken → Bus
done t ctl = ret (record { ctl = ctl; out = Ok t })

abbrev pub fail : Failure → Bus
fail e ctl = ret (record { ctl = ctl; out = Err e })

unfoldable pub or_held : {A : Type 0} → (A → Bus) → ℕ → R A → Prog Held
or_held k ctl (Ok a) = k a ctl
or_held k ctl (Err e) = fail e ctl

unfoldable pub flushing : Bus → Bus
flushing k ctl = ask (Read STATUS) (λ a. or_held (λ _. k) ctl (flushed a))

-- write I2CCTL and flush
unfoldable pub put : Layout → Bus → Bus
put l k ctl = ask (Write l.reg ctl) (λ a. or_held (λ _. flushing k) ctl (written a))

unfoldable pub get : Layout → (ℕ → Bus) → Bus
get l k ctl = ask (Read l.reg) (λ a. or_held k ctl (raw a))

unfoldable pub wait : ℕ → Bus → Bus
wait us k ctl = ask (Wait (micros us)) (λ a. k ctl)

-- SDA is high in a word that was read
unfoldable pub sda_level : Layout → ℕ → Bool
sda_level l v = pick (none_of v l.sdain) false true

-- SCL was looked at: again, or on
unfoldable pub scl_seen : Layout → Bus → Bus → ℕ → Bus
scl_seen l again k v = pick (none_of v l.sclin) again k

-- at most so many tries, SCL released anew in each; it goes on even if SCL stays low
unfoldable pub scl_tries : Layout → ℕ → Bus → Bus
scl_tries l zero k ctl = k ctl
scl_tries l (suc left) k ctl = put l (wait 1 (get l (scl_seen l (scl_tries l left k) k))) (bit_or ctl l.sclout)

unfoldable pub scl_high : Layout → Bus → Bus
scl_high l k ctl = scl_tries l 500 k (bit_or ctl l.scloen)

unfoldable pub scl_low : Layout → Bus → Bus
scl_low l k ctl = put l (wait 1 k) (bit_and ctl (not32 (bit_or l.sclout l.scloen)))

-- SDA was released: nothing may hold it low
unfoldable pub sda_seen : Layout → Bus → ℕ → Bus
sda_seen l k v = pick (none_of v l.sdain) (fail (I2c 0)) k

-- on the X552 and X553 the output enable goes off before SDA is looked at
unfoldable pub sda_free : Layout → Bus → Bus
sda_free l k ctl = pick (eqb l.sdaoen 0) (get l (sda_seen l k) ctl) (put l (get l (sda_seen l k)) (bit_or ctl l.sdaoen))

unfoldable pub sda : Layout → Bool → Bus → Bus
sda l true k ctl = put l (wait 3 (sda_free l k)) (bit_and (bit_or ctl l.sdaout) (not32 l.sdaoen))
sda l false k ctl = put l (wait 3 k) (bit_and (bit_and ctl (not32 l.sdaout)) (not32 l.sdaoen))

unfoldable pub release_sda : Layout → Bus → Bus
release_sda l k ctl = put l (wait 1 k) (bit_or ctl (bit_or l.sdaout l.sdaoen))

-- `start` begins with the word as it reads, bit-banging enabled
unfoldable pub look_seen : Layout → Bus → ℕ → Bus
look_seen l k v ctl = k (bit_or v l.bben)

unfoldable pub look : Layout → Bus → Bus
look l k = get l (look_seen l k)

unfoldable pub start : Layout → Bus → Bus
start l k = look l (sda l true (scl_high l (wait 5 (sda l false (wait 4 (scl_low l (wait 5 k)))))))

-- on the X552 and X553 a stop ends with bit-banging off
unfoldable pub close : Layout → Bus → Bus
close l k ctl = put l k (bit_or (bit_and ctl (not32 l.bben)) (bit_or l.sdaoen l.scloen))

unfoldable pub stop : Layout → Bus → Bus
stop l k = sda l false (scl_high l (wait 4 (sda l true (wait 5 (pick (eqb l.bben 0) k (close l k))))))

unfoldable pub out_bit : Layout → Bool → Bus → Bus
out_bit l bit k = sda l bit (scl_high l (wait 4 (scl_low l (wait 5 k))))

unfoldable pub sample_seen : Layout → (Bool → Bus) → ℕ → Bus
sample_seen l k v = k (sda_level l v)

unfoldable pub sample : Layout → (Bool → Bus) → Bus
sample l k = get l (sample_seen l k)

unfoldable pub in_bit : Layout → (Bool → Bus) → Bus
in_bit l k = release_sda l (scl_high l (wait 4 (sample l (λ bit. scl_low l (wait 5 (k bit))))))

-- the Rust's `byte << 1 | bit`
unfoldable pub shifted : ℕ → Bool → ℕ
shifted byte bit = pick bit (bit_and (byte * 2) 254 + 1) (bit_and (byte * 2) 254)

unfoldable pub in_bits : Layout → ℕ → ℕ → (ℕ → Bus) → Bus
in_bits l zero byte k = k byte
in_bits l (suc n) byte k = in_bit l (λ bit. in_bits l n (shifted byte bit) k)

unfoldable pub in_byte : Layout → (ℕ → Bus) → Bus
in_byte l k = in_bits l 8 0 k

-- bit n of a byte
unfoldable pub bit_of : ℕ → ℕ → Bool
bit_of byte n = eqb (byte / 2 ^ n % 2) 1

-- the lowest n bits, the highest of them first
unfoldable pub out_bits : Layout → ℕ → ℕ → Bus → Bus
out_bits l byte zero k = k
out_bits l byte (suc n) k = out_bit l (bit_of byte n) (out_bits l byte n k)

-- the byte is acknowledged, in the sample with so many after it
abbrev pub heard : ℕ → Bus → Bus
heard left k ctl = acknowledged left (k ctl)

-- a sample: SDA low is the acknowledgement; else a wait, and again
unfoldable pub ack_seen : Layout → ℕ → Bus → (Bool → Bus) → ℕ → Bus
ack_seen l left again k v = pick (none_of v l.sdain) (heard left (k false)) (wait 1 again)

-- whether SDA was high in every sample
unfoldable pub ack_tries : Layout → ℕ → (Bool → Bus) → Bus
ack_tries l zero k = k true
ack_tries l (suc left) k = get l (ack_seen l left (ack_tries l left k) k)

-- eight bits, SDA released, and the acknowledgement within ten samples
unfoldable pub send : Layout → ℕ → ℕ → Bus → Bus
send l device byte k =
    out_bits l byte 8 (release_sda l (scl_high l (wait 4 (ack_tries l 10 (λ high. scl_low l (wait 5 (pick high (fail (I2c device)) k)))))))

unfoldable pub pulses : Layout → ℕ → Bus → Bus
pulses l zero k = k
pulses l (suc n) k = scl_high l (wait 4 (scl_low l (wait 5 (pulses l n k))))

-- by its number
unfoldable pub is_i2c : Failure → Bool
is_i2c e = eqb e.number 23

-- the Rust's `quiet`: an I2c failure counts as success
unfoldable pub or_quiet : Bus → ℕ → R Taken → Prog Held
or_quiet k ctl (Ok a) = k ctl
or_quiet k ctl (Err e) = pick (is_i2c e) (k ctl) (fail e ctl)

unfoldable pub quieted : Bus → Held → Prog Held
quieted k h = or_quiet k h.ctl h.out

unfoldable pub quiet : Bus → Bus → Bus
quiet m k ctl = m ctl >>= quieted k

-- after a failed transfer: a start, SDA released, nine pulses of SCL, a start and a stop
unfoldable pub clear_stop : Layout → Bus
clear_stop l = quiet (stop l (done none)) (done none)

unfoldable pub clear_again : Layout → Bus
clear_again l = quiet (start l (done none)) (clear_stop l)

unfoldable pub clear_free : Layout → Bus
clear_free l = release_sda l (pulses l 9 (clear_again l))

unfoldable pub clear : Layout → Bus
clear l = quiet (start l (done none)) (clear_free l)

-- the other clearing sequence (02, S-2). SDA was read high while SCL is high: it is pulled there, SCL is lowered, and a stop
unfoldable pub pulled : Layout → Bus
pulled l = sda l false (wait 4 (scl_low l (wait 5 (clear_stop l))))

-- a round raises SCL and reads SDA; where it is low, SCL is lowered and the next round follows
unfoldable pub rounds : Layout → ℕ → Bus
rounds l zero = done none
rounds l (suc left) = scl_high l (wait 4 (sample l (λ high. pick high (pulled l) (scl_low l (wait 5 (rounds l left))))))

-- SDA is released, and at most ten rounds follow
unfoldable pub clear_rounds : Layout → Bus
clear_rounds l = release_sda l (rounds l 10)
