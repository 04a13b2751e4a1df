-- A page of 96 bytes: each byte by one locked `read_byte`, then the two sums.
use Rattle.std.specs.Prelude.{ℕ, ◌+◌, ◌-◌, suc, zero, Bool, List, [], eqb, set, get_or, take, drop}
use Rattle.hardware.specs.declared.Port.{Port}
use Rattle.hardware.specs.Failures.{Failure, failure_of}
use Rattle.hardware.specs.Numbers.{error_number}
use Rattle.hardware.specs.Prog.{Prog, ret, R, Ok, Err, pick, ◌>>=◌}
use Rattle.transfer.specs.declared.attempt.Sequence.{Sequence}
use Rattle.i2c.specs.declared.once.Request.{Request}
use Rattle.i2c.specs.declared.once.Request.TheVariants.{ReadByte}
use Rattle.i2c.specs.I2c.{locked, transferred}
use Rattle.sfp.specs.Identify.{EEPROM}
use Rattle.sfp.specs.Sum.{sum_of}
use Rattle.page.specs.declared.walk.Form.{Form}
use Rattle.page.specs.declared.walk.Form.TheVariants.{Sff8472, Sff8636}
use Rattle.page.specs.Aliases.{Paged}
use Rattle.page.specs.declared.sums.PageError.TheVariants.{FirstSum as CaseFirst, SecondSum as CaseSecond, Bus}

-- the last place of a page
abbrev pub LAST : ℕ
LAST = 95

-- where the byte of a place stands in the module
unfoldable pub offset_of : Form → ℕ → ℕ
offset_of Sff8472 place = place
offset_of Sff8636 place = 128 + place

-- every byte was read, and a sum is wrong
abbrev pub FirstSum : Failure
FirstSum = record { number = 26; values = [] }

abbrev pub SecondSum : Failure
SecondSum = record { number = 27; values = [] }

-- the byte at a place is the sum of those from another on
unfoldable pub sum_right : List ℕ → ℕ → ℕ → Bool
sum_right bytes from at = eqb (sum_of (take (at - from) (drop from bytes))) (get_or bytes at 0)

-- the first sum, then the second
unfoldable pub sums_of : List ℕ → R (Unit {0})
sums_of bytes = pick (sum_right bytes 0 63) (pick (sum_right bytes 64 95) (Ok tt) (Err SecondSum)) (Err FirstSum)

-- how a page ended, and what its buffer then holds
pub record Filled : Type 0 where
  pub result : R (Unit {0})
  pub buffer : List ℕ

-- a byte was read, or not; again: the rest, with the byte stored
unfoldable pub byte_seen : (List ℕ → Prog Filled) → ℕ → List ℕ → R ℕ → Prog Filled
byte_seen again place buffer (Ok v) = again (set buffer place v)
byte_seen again place buffer (Err e) = ret (record { result = Err e; buffer = buffer })

-- the byte that has so many after it
abbrev pub place_of : ℕ → ℕ
place_of left = LAST - left

unfoldable pub request_at : Form → ℕ → Request
request_at form left = ReadByte EEPROM (offset_of form (place_of left))

-- the last n bytes, and then the sums
unfoldable pub page_from : Sequence → Port → Form → ℕ → ℕ → List ℕ → Prog Filled
page_from q port form tries zero buffer = ret (record { result = sums_of buffer; buffer = buffer })
page_from q port form tries (suc left) buffer =
    transferred port (request_at form left) (locked q) tries >>= byte_seen (page_from q port form tries left) (place_of left) buffer

unfoldable pub page : Sequence → Port → Form → ℕ → List ℕ → Prog Filled
page q port form tries buffer = page_from q port form tries 96 buffer

-- the papers' number of an end, or 0
abbrev pub paged_number : Paged → ℕ
paged_number (Ok tt) = 0
paged_number (Err CaseFirst) = 26
paged_number (Err CaseSecond) = 27
paged_number (Err (Bus e)) = error_number e

-- what the code's result tells
unfoldable pub paged_of : Paged → R (Unit {0})
paged_of (Ok tt) = Ok tt
paged_of (Err CaseFirst) = Err (record { number = paged_number (Err CaseFirst); values = [] })
paged_of (Err CaseSecond) = Err (record { number = paged_number (Err CaseSecond); values = [] })
paged_of (Err (Bus e)) = Err (failure_of e)
