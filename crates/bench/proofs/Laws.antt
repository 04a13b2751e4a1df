-- Laws that the proofs of the bench module cite.
use Rattle.std.proofs.Common.{◌≡◌, ℕ, ◌+◌, ◌-◌, ◌/◌, ◌%◌, ◌≤◌, Bool, true, false, ◌||◌, eqb, leb, List, length, sym, refl, ap, arith, le-leb, leb-false, leb-true}
use borrow.Author.Tests.{lt-leb}
use Rattle.hardware.specs.Prog.{pick}
use Rattle.bus.specs.Bus.{bit_of}
use Rattle.bench.specs.declared.receiver.Receiver.{Receiver}
use Rattle.bench.specs.declared.receiver.Stage.{Stage}
use Rattle.bench.specs.View.{within}
use Rattle.hardware.specs.Numbers.{refusal_number}
use Rattle.hardware.specs.declared.Refusal.{Refusal}
use Rattle.hardware.specs.declared.Refusal.TheVariants.{Family, Lan, Device, Attempts, ScriptLength, Command, Script, Block, Buffer, State, Finished, Kind}
use Rattle.bench.specs.Receiver.{rise, rise_at, fall, fall_at, asks, asks_at}

pub or_false : (b : Bool) → (b || false) ≡ b
or_false true = refl
or_false false = refl

pub or_true : (b : Bool) → (b || true) ≡ true
or_true true = refl
or_true false = refl

pub pick_true : {A : Type 0} {b : Bool} (x y : A) → b ≡ true → pick b x y ≡ x
unfolding pick
pick_true x y e = ap (λ t. pick t x y) e

pub pick_false : {A : Type 0} {b : Bool} (x y : A) → b ≡ false → pick b x y ≡ y
unfolding pick
pick_false x y e = ap (λ t. pick t x y) e

place_zero : (n : ℕ) → 7 ≤ n → 7 - n ≡ 0
place_zero n h = omega arith

whole : (b : ℕ) → b / 1 ≡ b
whole b = omega arith

-- from place 7 on, the bit is the lowest
pub lowest : (b n : ℕ) → 7 ≤ n → eqb (b % 2) 1 ≡ bit_of b (7 - n)
unfolding bit_of
lowest b n h = rw (place_zero n h, whole b)

-- in the stage s
pub rise_at_lem : (s : Stage) (sda : Bool) (r : Receiver) → r.stage ≡ s → rise sda r ≡ rise_at s sda r
unfolding rise
rise_at_lem s sda r e = ap (λ t. rise_at t sda r) e

pub fall_at_lem : (s : Stage) (r : Receiver) → r.stage ≡ s → fall r ≡ fall_at s r
unfolding fall
fall_at_lem s r e = ap (λ t. fall_at t r) e

pub asks_at_lem : (s : Stage) (r : Receiver) → r.stage ≡ s → asks r ≡ asks_at s r
unfolding asks
asks_at_lem s r e = ap (λ t. asks_at t r) e

-- a part's length against what is left of the page from its first byte on
pub left_fits : (first n size : ℕ) → first ≤ size → leb n (size - first) ≡ leb (first + n) size
left_fits first n size h = go (leb n (size - first)) refl
  where
    go : (t : Bool) → leb n (size - first) ≡ t → t ≡ leb (first + n) size
    go true e = sym (le-leb (first + n) size (omega (arith, leb-true n (size - first) e)))
    go false e = sym (lt-leb (first + n) size (omega (arith, leb-false n (size - first) e)))

-- a part that is handed back ends within its page
pub within_fits : (page : List ℕ) (first n : ℕ) → within page first n ≡ true → first + n ≤ length page
unfolding within
within_fits page first n h = leb-true (first + n) (length page) h

pub no_refusal_is_0 : (q : Refusal) → eqb (refusal_number q) 0 ≡ false
no_refusal_is_0 Family = refl
no_refusal_is_0 Lan = refl
no_refusal_is_0 Device = refl
no_refusal_is_0 Attempts = refl
no_refusal_is_0 ScriptLength = refl
no_refusal_is_0 Command = refl
no_refusal_is_0 Script = refl
no_refusal_is_0 Block = refl
no_refusal_is_0 Buffer = refl
no_refusal_is_0 State = refl
no_refusal_is_0 Finished = refl
no_refusal_is_0 Kind = refl
