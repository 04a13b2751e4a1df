-- Laws of digits.
use Rattle.std.proofs.Common.{◌≡◌, ℕ, ◌+◌, ◌-◌, ◌*◌, ◌<◌, ◌≤◌, List, [], ◌∷◌, length, get_or, drop, min, Some, None, refl, ap, ◌∙◌, suc, ◌^◌, add-one, arith, drop-cons, le-leb}
use Rattle.std.proofs.lemmas.Bool.{le-ltb, lt-ltb}
use borrow.Author.Tests.{lt-leb}
use lib.Seq.{drop-length}
use Rattle.hardware.specs.Prog.{pick}
use Rattle.std.specs.Prelude.{Option}
use Rattle.report.specs.Number.{digit_of, next_of, more_of, run_of}

-- a byte by its range
pub decimal : (b : ℕ) → 48 ≤ b → b ≤ 57 → Some (b - 48) ≡ digit_of b
unfolding digit_of pick
decimal b p q = rw (le-leb 48 b p, le-leb b 57 q)

pub small : (b : ℕ) → 97 ≤ b → b ≤ 102 → Some (b - 97 + 10) ≡ digit_of b
unfolding digit_of pick
small b p q = rw (le-leb 48 b (omega arith), lt-leb b 57 (omega arith), le-leb 97 b p, le-leb b 102 q) (grind arith)

pub capital : (b : ℕ) → 65 ≤ b → b ≤ 70 → Some (b - 65 + 10) ≡ digit_of b
unfolding digit_of pick
capital b p q = rw (le-leb 48 b (omega arith), lt-leb b 57 (omega arith), lt-leb 97 b (omega arith), le-leb 65 b p, le-leb b 70 q) (grind arith)

pub below : (b : ℕ) → b < 48 → None ≡ digit_of b
unfolding digit_of pick
below b p = rw (lt-leb 48 b p, lt-leb 97 b (omega arith), lt-leb 65 b (omega arith))

pub between : (b : ℕ) → 57 < b → b < 65 → None ≡ digit_of b
unfolding digit_of pick
between b p q = rw (le-leb 48 b (omega arith), lt-leb b 57 p, lt-leb 97 b (omega arith), lt-leb 65 b q)

pub between_cases : (b : ℕ) → 70 < b → b < 97 → None ≡ digit_of b
unfolding digit_of pick
between_cases b p q = rw (le-leb 48 b (omega arith), lt-leb b 57 (omega arith), lt-leb 97 b q, le-leb 65 b (omega arith), lt-leb b 70 p)

pub above : (b : ℕ) → 102 < b → None ≡ digit_of b
unfolding digit_of pick
above b p = rw (le-leb 48 b (omega arith), lt-leb b 57 (omega arith), le-leb 97 b (omega arith), lt-leb b 102 p, le-leb 65 b (omega arith), lt-leb b 70 (omega arith))

-- a product that was capped before the sum was
capped : (p n m : ℕ) → min (min p m + n) m ≡ min (p + n) m
capped p n m = omega arith

-- one more byte: a digit of the base, another digit, and no digit
pub next_digit : (base v b n : ℕ) → digit_of b ≡ Some n → n < base → Some (min (min (v * base) (2 ^ 32 - 1) + n) (2 ^ 32 - 1)) ≡ more_of base (Some v) b
unfolding more_of next_of pick
next_digit base v b n e p = rw (e, lt-ltb n base p) (ap Some (capped (v * base) n 0xffffffff))

pub next_other : (base v b n : ℕ) → digit_of b ≡ Some n → base ≤ n → None ≡ more_of base (Some v) b
unfolding more_of next_of pick
next_other base v b n e p = rw (e, le-ltb n base p)

pub next_none : (base v b : ℕ) → digit_of b ≡ None → None ≡ more_of base (Some v) b
unfolding more_of next_of
next_none base v b e = rw e

-- one byte of the text
pub run_next : (base : ℕ) (d : Option ℕ) (l : List ℕ) (i : ℕ) → i < length l → run_of base (more_of base d (get_or l i 0)) (drop (i + 1) l) ≡ run_of base d (drop i l)
unfolding run_of
run_next base d l i h = rw (drop-cons l i 0 h, add-one i)

pub run_end : (base : ℕ) (d : Option ℕ) (l : List ℕ) (i : ℕ) → i ≡ length l → run_of base d (drop i l) ≡ d
unfolding run_of
run_end base d l i e = rw (e, drop-length l)

-- after a byte that is no digit
run_none : (base : ℕ) (l : List ℕ) → run_of base None l ≡ None
unfolding run_of more_of
run_none base [] = refl
run_none base (b ∷ l) = run_none base l

pub run_stop : (base v : ℕ) (l : List ℕ) (i : ℕ) → i < length l → more_of base (Some v) (get_or l i 0) ≡ None → run_of base (Some v) (drop i l) ≡ None
unfolding run_of
run_stop base v l i h e = rw (drop-cons l i 0 h) (ap (λ d. run_of base d (drop (suc i) l)) e ∙ run_none base (drop (suc i) l))
