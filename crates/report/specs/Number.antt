-- Numbers in decimal or hexadecimal digits.
use Rattle.std.specs.Prelude.{ℕ, ◌+◌, ◌-◌, ◌*◌, ◌&&◌, List, [], ◌∷◌, length, nat_le, nat_lt, min, Option, Some, None}
use Rattle.hardware.specs.Prog.{pick}

-- 0 to 9, a to f, A to F
unfoldable pub digit_of : ℕ → Option ℕ
digit_of b =
    pick (nat_le 48 b && nat_le b 57) (Some (b - 48))
    (pick (nat_le 97 b && nat_le b 102) (Some (b - 87))
    (pick (nat_le 65 b && nat_le b 70) (Some (b - 55))
    None))

-- the digit n after the value v, at most 2^32 - 1
unfoldable pub next_of : ℕ → ℕ → Option ℕ → Option ℕ
next_of base v (Some n) = pick (nat_lt n base) (Some (min (v * base + n) 0xffffffff)) None
next_of base v None = None

-- one more byte, where every one so far was a digit
unfoldable pub more_of : ℕ → Option ℕ → ℕ → Option ℕ
more_of base (Some v) b = next_of base v (digit_of b)
more_of base None b = None

unfoldable pub run_of : ℕ → Option ℕ → List ℕ → Option ℕ
run_of base d [] = d
run_of base d (b ∷ l) = run_of base (more_of base d b) l

-- 1 to so many digits
unfoldable pub read_of : ℕ → ℕ → List ℕ → Option ℕ
read_of base limit l = pick (nat_lt 0 (length l) && nat_le (length l) limit) (run_of base (Some 0) l) None
