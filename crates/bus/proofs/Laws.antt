-- Laws of the line calls that the proofs cite.
use Rattle.hardware.specs.Marks.{acknowledged}
use Prim.Native.Nat.{ℕ, ◌-◌, ◌%◌, ◌≤◌, suc, zero}
use mathlib.Core.Path.{◌≡◌, refl, ap, ◌∙◌, sym, subst}
use mathlib.Core.Bool.{Bool, true, false}
use lib.Bits.{bit_or}
use lib.Dec.{T, eqb, ltb, leb}
use borrow.Author.Tests.{lt-ltb, ltb-true, leb-true, le-leb}
use native.Mathlib.Numerals.{sub-one}
use native.Mathlib.Omega.{arith}
use Rattle.hardware.specs.Prog.{Prog, erase, R, pick}
use Rattle.bus.specs.declared.Layout.{Layout}
use Rattle.bus.specs.declared.line.Goal.TheVariants.{Up}
use Rattle.bus.specs.declared.line.Line.TheVariants.{Ack, Write}
use Rattle.bus.specs.Bus.{Held, Bus, or_held, put, get, scl_tries, scl_high, ack_tries}
use Rattle.bus.specs.declared.line.Call.{Call}
use Rattle.bus.specs.declared.line.Call.TheVariants.{Look, Sda, Release, Up as UpCall}
use Rattle.bus.specs.declared.command.Command.{Command}
use Rattle.bus.specs.declared.command.Command.TheVariants.{Start, Send, Read, Stop, Free}
use Rattle.bus.specs.declared.command.Piece.{Piece}
use Rattle.bus.specs.declared.command.Piece.TheVariants.{Pulses, Probe, Lower, Pull}
use Rattle.bus.specs.Command.{pulse_call, out_bit_call, sense_call, ack_call, start_call, stop_call, end_call, send_call, read_call, pulses_call, probe_call, free_call, call_at, stop_count, free_count, call_count, calls_left}
use Rattle.hardware.specs.declared.Access.{Access}
use Rattle.bus.specs.declared.job.Job.{Job}
use Rattle.bus.specs.Quick.{MovedBy}
use Rattle.bus.specs.Line.{valid_call, called, ack_down, settled, access_line, access_at, rest_line, rest_at, line_next, heard_at, heard_goal}
use Rattle.hardware.specs.declared.Next.TheVariants.{Going}
use Rattle.std.specs.Prelude.{Some, None, Option}

-- what an answer was taken for is the Rust's reading of it
pub fed_held : {A : Type 0} {q : Prog Held} {x y : R A} (k : A → Bus) (ctl : ℕ) → q ≡ erase (or_held k ctl x) → x ≡ y → q ≡ erase (or_held k ctl y)
fed_held k ctl e d = e ∙ ap (λ z. erase (or_held k ctl z)) d

-- with a sample left, I2CCTL is read
pub ack_more : (l : Layout) (ctl bits left : ℕ) (k : ℕ → Bus) → (left ≡ 0 → ⊥)
    → line_next l (Going (record { ctl = ctl; bits = bits; line = Ack (left - 1) })) k ≡ erase (ack_tries l left (ack_down l bits k) ctl)
unfolding line_next acknowledged heard_at access_line access_at rest_line rest_at ack_tries get erase
ack_more l ctl bits zero k h = absurd (h refl)
ack_more l ctl bits (suc n) k h = ap (λ m. line_next l (Going (record { ctl = ctl; bits = bits; line = Ack m })) k) (sub-one (suc n))

pub ack_open : (l : Layout) (ctl bits : ℕ) (k : ℕ → Bus)
    → line_next l (Going (record { ctl = ctl; bits = bits; line = Ack 9 })) k ≡ erase (ack_tries l 10 (ack_down l bits k) ctl)
ack_open l ctl bits k = ack_more l ctl bits 10 k (λ e. omega (arith, e))

-- with a try left, SCL is released
pub scl_more : (l : Layout) (ctl bits left : ℕ) (k : ℕ → Bus) → (left ≡ 0 → ⊥)
    → line_next l (Going (record { ctl = bit_or ctl l.sclout; bits = bits; line = Write (Up (left - 1)) })) k ≡ erase (scl_tries l left (k bits) ctl)
unfolding line_next acknowledged heard_at heard_goal access_line access_at rest_line rest_at scl_tries put settled erase
scl_more l ctl bits zero k h = absurd (h refl)
scl_more l ctl bits (suc n) k h =
    ap (λ m. line_next l (Going (record { ctl = bit_or ctl l.sclout; bits = bits; line = Write (Up m) })) k) (sub-one (suc n))

pub scl_open : (l : Layout) (ctl bits : ℕ) (k : ℕ → Bus)
    → line_next l (Going (record { ctl = bit_or (bit_or ctl l.scloen) l.sclout; bits = bits; line = Write (Up 499) })) k ≡ erase (scl_high l (k bits) ctl)
unfolding scl_high
scl_open l ctl bits k = scl_more l (bit_or ctl l.scloen) bits 500 k (λ e. omega (arith, e))

-- a counter within its limit stays so as it goes down
pub fewer : (n m : ℕ) → ltb n m ≡ true → ltb (n - 1) m ≡ true
fewer n m h = lt-ltb (n - 1) m (omega (arith, ltb-true n m h))

pub ltb_leb : (n m : ℕ) → ltb n m ≡ true → leb n m ≡ true
ltb_leb n m h = le-leb n m (omega (arith, ltb-true n m h))

pub picked : (t v : Bool) → t ≡ true → v ≡ true → pick t v false ≡ true
unfolding pick
picked t v h g = rw (h, g)

pub picked_first : (t v : Bool) → pick t v false ≡ true → t ≡ true
unfolding pick
picked_first true v h = refl
picked_first false v h = h

pub picked_second : (t v : Bool) → pick t v false ≡ true → v ≡ true
unfolding pick
picked_second true v h = h
picked_second false v h = absurd (no_false h)
  where
    no_false : (false ≡ true) → ⊥
    no_false e = subst T (sym e) tt

-- the first call of each list
pub pulse_first : (n : ℕ) → 3 ≤ n → pulse_call n ≡ UpCall
unfolding pulse_call
pulse_first zero h = absurd (omega (arith, h))
pulse_first (suc zero) h = absurd (omega (arith, h))
pulse_first (suc (suc zero)) h = absurd (omega (arith, h))
pulse_first (suc (suc (suc n))) h = refl

pub sense_first : (n : ℕ) → 5 ≤ n → sense_call n ≡ Release
unfolding sense_call
sense_first zero h = absurd (omega (arith, h))
sense_first (suc zero) h = absurd (omega (arith, h))
sense_first (suc (suc zero)) h = absurd (omega (arith, h))
sense_first (suc (suc (suc zero))) h = absurd (omega (arith, h))
sense_first (suc (suc (suc (suc zero)))) h = absurd (omega (arith, h))
sense_first (suc (suc (suc (suc (suc n))))) h = refl

pub ack_first : (n : ℕ) → 4 ≤ n → ack_call n ≡ Release
unfolding ack_call
ack_first zero h = absurd (omega (arith, h))
ack_first (suc zero) h = absurd (omega (arith, h))
ack_first (suc (suc zero)) h = absurd (omega (arith, h))
ack_first (suc (suc (suc zero))) h = absurd (omega (arith, h))
ack_first (suc (suc (suc (suc n)))) h = refl

start_look : (n : ℕ) → 7 ≤ n → start_call n ≡ Look
unfolding start_call
start_look zero h = absurd (omega (arith, h))
start_look (suc zero) h = absurd (omega (arith, h))
start_look (suc (suc zero)) h = absurd (omega (arith, h))
start_look (suc (suc (suc zero))) h = absurd (omega (arith, h))
start_look (suc (suc (suc (suc zero)))) h = absurd (omega (arith, h))
start_look (suc (suc (suc (suc (suc zero))))) h = absurd (omega (arith, h))
start_look (suc (suc (suc (suc (suc (suc zero)))))) h = absurd (omega (arith, h))
start_look (suc (suc (suc (suc (suc (suc (suc n))))))) h = refl

pub start_first : (n : ℕ) → 4 ≤ n → (4 ≤ n → 7 ≤ n) → start_call n ≡ Look
start_first n h g = start_look n (g h)

pub stop_first : (n : ℕ) → 4 ≤ n → stop_call n ≡ Sda false
unfolding stop_call
stop_first zero h = absurd (omega (arith, h))
stop_first (suc zero) h = absurd (omega (arith, h))
stop_first (suc (suc zero)) h = absurd (omega (arith, h))
stop_first (suc (suc (suc zero))) h = absurd (omega (arith, h))
stop_first (suc (suc (suc (suc n)))) h = refl

pub probe_first : (n : ℕ) → 3 ≤ n → probe_call n ≡ Release
unfolding probe_call
probe_first zero h = absurd (omega (arith, h))
probe_first (suc zero) h = absurd (omega (arith, h))
probe_first (suc (suc zero)) h = absurd (omega (arith, h))
probe_first (suc (suc (suc n))) h = refl

-- no wait of a command is above 5 µs
valid_either : (t : Bool) (x y : Call) → valid_call x ≡ true → valid_call y ≡ true → valid_call (pick t x y) ≡ true
unfolding pick
valid_either true x y h g = h
valid_either false x y h g = g

valid_pulse : (n : ℕ) → valid_call (pulse_call n) ≡ true
unfolding pulse_call valid_call
valid_pulse zero = refl
valid_pulse (suc zero) = refl
valid_pulse (suc (suc zero)) = refl
valid_pulse (suc (suc (suc n))) = refl

valid_sense : (n : ℕ) → valid_call (sense_call n) ≡ true
unfolding sense_call valid_call
valid_sense zero = refl
valid_sense (suc zero) = refl
valid_sense (suc (suc zero)) = refl
valid_sense (suc (suc (suc zero))) = refl
valid_sense (suc (suc (suc (suc zero)))) = refl
valid_sense (suc (suc (suc (suc (suc n))))) = refl

valid_ack : (n : ℕ) → valid_call (ack_call n) ≡ true
unfolding ack_call valid_call
valid_ack zero = refl
valid_ack (suc zero) = refl
valid_ack (suc (suc zero)) = refl
valid_ack (suc (suc (suc zero))) = refl
valid_ack (suc (suc (suc (suc n)))) = refl

valid_start : (n : ℕ) → valid_call (start_call n) ≡ true
unfolding start_call valid_call
valid_start zero = refl
valid_start (suc zero) = refl
valid_start (suc (suc zero)) = refl
valid_start (suc (suc (suc zero))) = refl
valid_start (suc (suc (suc (suc zero)))) = refl
valid_start (suc (suc (suc (suc (suc zero))))) = refl
valid_start (suc (suc (suc (suc (suc (suc zero)))))) = refl
valid_start (suc (suc (suc (suc (suc (suc (suc n))))))) = refl

valid_stop : (n : ℕ) → valid_call (stop_call n) ≡ true
unfolding stop_call valid_call
valid_stop zero = refl
valid_stop (suc zero) = refl
valid_stop (suc (suc zero)) = refl
valid_stop (suc (suc (suc zero))) = refl
valid_stop (suc (suc (suc (suc n)))) = refl

valid_out : (high : Bool) (n : ℕ) → valid_call (out_bit_call high n) ≡ true
unfolding out_bit_call valid_call
valid_out high n = valid_either (ltb n 4) (pulse_call n) (Sda high) (valid_pulse n) refl

valid_probe : (n : ℕ) → valid_call (probe_call n) ≡ true
unfolding probe_call valid_call
valid_probe zero = refl
valid_probe (suc zero) = refl
valid_probe (suc (suc zero)) = refl
valid_probe (suc (suc (suc n))) = refl

pub valid_calls : (l : Layout) (c : Command) (n : ℕ) → valid_call (call_at l c n) ≡ true
unfolding call_at end_call send_call read_call free_call pulses_call valid_call
valid_calls l Start n = valid_start n
valid_calls l (Send value) n = valid_either (ltb n 5) _ _ (valid_ack n) (valid_out _ _)
valid_calls l (Read high) n = valid_either (ltb n 5) _ _ (valid_out high n) (valid_sense _)
valid_calls l Stop n = valid_either (eqb l.bben 0) _ _ (valid_stop n) (valid_either (eqb n 0) _ _ refl (valid_stop (n - 1)))
valid_calls l (Free Pulses) n = valid_either (ltb n 36) _ _ (valid_pulse (n % 4)) refl
valid_calls l (Free Probe) n = valid_probe n
valid_calls l (Free Lower) n = valid_start n
valid_calls l (Free Pull) n = valid_start n

-- with a call left, it is made
pub calls_more : (l : Layout) (device : ℕ) (c : Command) (n : ℕ) (k : ℕ → Bus) (bits ctl : ℕ) → (n ≡ 0 → ⊥)
    → erase (called l (call_at l c (n - 1)) bits (calls_left l device c (n - 1) k) ctl) ≡ erase (calls_left l device c n k bits ctl)
unfolding calls_left
calls_more l device c zero k bits ctl h = absurd (h refl)
calls_more l device c (suc n) k bits ctl h = ap (λ m. erase (called l (call_at l c m) bits (calls_left l device c m k) ctl)) (sub-one (suc n))

pub fewer_than : (n m : ℕ) → (n ≡ 0 → ⊥) → leb n m ≡ true → ltb (n - 1) m ≡ true
fewer_than n m h g = lt-ltb (n - 1) m (omega (arith, leb-true n m g, nonzero n h))
  where
    nonzero : (n : ℕ) → (n ≡ 0 → ⊥) → 1 ≤ n
    nonzero zero h = absurd (h refl)
    nonzero (suc n) h = omega arith

pub under : (n m : ℕ) → ltb n m ≡ true → leb n m ≡ true
under n m h = le-leb n m (omega (arith, ltb-true n m h))

some_stop : (t : Bool) → 1 ≤ pick t 5 6
unfolding pick
some_stop true = omega arith
some_stop false = omega arith

free_some : (p : Piece) → 1 ≤ free_count p
unfolding free_count
free_some Pulses = omega arith
free_some Probe = omega arith
free_some Lower = omega arith
free_some Pull = omega arith

-- every command has a line call
pub some_call : (l : Layout) (c : Command) → 1 ≤ call_count l c
unfolding call_count stop_count
some_call l Start = omega arith
some_call l (Send value) = omega arith
some_call l (Read high) = omega arith
some_call l Stop = some_stop (eqb l.bben 0)
some_call l (Free p) = free_some p

pub nonzero : (n : ℕ) → 1 ≤ n → n ≡ 0 → ⊥
nonzero n h e = omega (arith, h, e)

pub itself : (n : ℕ) → leb n n ≡ true
itself n = le-leb n n (omega arith)

-- what the direct way promises may be weakened
pub moved_map : (P Q : Access → Job → Type 0) → ((x : Access) (j : Job) → P x j → Q x j) → (m : (Option (Access × Job))) → MovedBy P m → MovedBy Q m
unfolding MovedBy
moved_map P Q f (Some (x, j)) h = f x j h
moved_map P Q f None h = tt
