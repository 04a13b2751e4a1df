-- The one's-complement sum of the combined transfers, as in the Rust.
use Rattle.std.specs.Prelude.{ℕ, ◌+◌, ◌-◌, ◌/◌, ◌%◌, List, [], ◌∷◌}
use Rattle.std.specs.Int.Bits.{bit_and, bit_or}

-- the sum, carry folded back in
unfoldable pub ones_add : ℕ → ℕ → ℕ
ones_add a b = (a + b) % 256 + (a + b) / 256

unfoldable pub ones_sum_from : ℕ → List ℕ → ℕ
ones_sum_from a [] = a
ones_sum_from a (b ∷ l) = ones_sum_from (ones_add a b) l

unfoldable pub ones_sum : List ℕ → ℕ
ones_sum [] = 0
ones_sum (a ∷ l) = ones_sum_from a l

-- the Rust's `!` of the sum
unfoldable pub check_byte : List ℕ → ℕ
check_byte l = 255 - ones_sum l

abbrev pub low : ℕ → ℕ
low v = v % 256

abbrev pub high : ℕ → ℕ
high v = v / 256

-- a register's 15 bits go out as two bytes, the upper seven with a flag below them: 0 to write, 1 to read
unfoldable pub high_write : ℕ → ℕ
high_write reg = bit_and (reg / 128 % 256) 0xfe

unfoldable pub high_read : ℕ → ℕ
high_read reg = bit_or (high_write reg) 1

unfoldable pub read_check : ℕ → ℕ
read_check reg = check_byte (high_read reg ∷ low reg ∷ [])

unfoldable pub write_check : ℕ → ℕ → ℕ
write_check reg value = check_byte (high_write reg ∷ low reg ∷ high value ∷ low value ∷ [])
