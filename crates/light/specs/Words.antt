-- Numbers of several bytes, high byte first, as SFF-8472 has them.
use Rattle.std.specs.Prelude.{ℕ, ◌+◌, ◌*◌, ltb, ℤ, pos}
use Rattle.std.proofs.Math.IntN.{sub_ℕ}
use Rattle.hardware.specs.Prog.{pick}

abbrev pub word_of : ℕ → ℕ → ℕ
word_of high low = high * 256 + low

abbrev pub pattern_of : ℕ → ℕ → ℕ → ℕ → ℕ
pattern_of b0 b1 b2 b3 = word_of b0 b1 * 65536 + word_of b2 b3

-- a word as a two's complement number: from 8000 hexadecimal on it is 65536 less
unfoldable pub signed : ℕ → ℤ
signed w = pick (ltb w 0x8000) (pos w) (sub_ℕ w 65536)

-- two bytes, high first, as a two's complement number: a count of 1/256 degree
abbrev pub temperature_of : ℕ → ℕ → ℤ
temperature_of high low = signed (word_of high low)
