-- The scripts of `read_byte`, `write_byte`, `read_combined` and `write_combined`, and what writing one yields.
use Rattle.std.specs.Prelude.{ℕ, ◌%◌, Bool, List, [], ◌∷◌, ◌++◌, eqb, leb, length, drop, Ok, Err, Result}
use Rattle.std.specs.Int.Bits.{bit_or}
use Rattle.hardware.specs.Numbers.{refusal_number}
use Rattle.hardware.specs.Prog.{pick}
use Rattle.script.specs.Sum.{low, high, high_write, high_read, read_check, write_check}
use Rattle.hardware.specs.declared.Refusal.{Refusal}

unfoldable pub read_byte_script : ℕ → ℕ → List ℕ
read_byte_script device offset = 0x10 ∷ 0x20 ∷ device ∷ 0x20 ∷ offset ∷ 0x10 ∷ 0x20 ∷ bit_or device 1 ∷ 0x31 ∷ 0x40 ∷ []

unfoldable pub write_byte_script : ℕ → ℕ → ℕ → List ℕ
write_byte_script device offset value = 0x10 ∷ 0x20 ∷ device ∷ 0x20 ∷ offset ∷ 0x20 ∷ value ∷ 0x40 ∷ []

unfoldable pub read_combined_script : ℕ → ℕ → List ℕ
read_combined_script device reg =
    0x10 ∷ 0x20 ∷ device ∷ 0x20 ∷ high_read reg ∷ 0x20 ∷ low reg ∷ 0x20 ∷ read_check reg
    ∷ 0x10 ∷ 0x20 ∷ bit_or device 1 ∷ 0x30 ∷ 0x30 ∷ 0x31 ∷ 0x40 ∷ []

unfoldable pub write_combined_script : ℕ → ℕ → ℕ → List ℕ
write_combined_script device reg value =
    0x10 ∷ 0x20 ∷ device ∷ 0x20 ∷ high_write reg ∷ 0x20 ∷ low reg ∷ 0x20 ∷ high value ∷ 0x20 ∷ low value ∷ 0x20 ∷ write_check reg value ∷ 0x40 ∷ []

-- Is the I2C device even?
unfoldable pub is_even : ℕ → Bool
is_even device = eqb (device % 2) 0

-- what writing yields, with the buffer as it is then: a refusal's number, or the number of bytes written
pub data Buffered : Type 0 where
  unwritten : ℕ → List ℕ → Buffered
  filled : ℕ → List ℕ → Buffered

-- 3, then 9; the script's bytes and then the buffer's own
unfoldable pub write_script : ℕ → List ℕ → List ℕ → Buffered
write_script device script buffer =
    pick (is_even device)
    (pick (leb (length script) (length buffer)) (filled (length script) (script ++ drop (length script) buffer)) (unwritten 9 buffer))
    (unwritten 3 buffer)

unfoldable pub wrote_as : (Result ℕ Refusal) → List ℕ → Buffered
wrote_as (Ok n) buffer = filled n buffer
wrote_as (Err q) buffer = unwritten (refusal_number q) buffer
