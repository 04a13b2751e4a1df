-- The check bytes of the standards, over a module's own bytes.
use Rattle.std.specs.Prelude.{ℕ, ◌+◌, ◌-◌, ◌%◌, ◌≤◌, suc, zero, ◌≡◌, List, get_or}
use Rattle.sfp.specs.Classes.{Bytes}
use Rattle.page.specs.declared.walk.Form.{Form}
use Rattle.page.specs.declared.walk.Form.TheVariants.{Sff8472, Sff8636}

-- the sum of n bytes from one on
unfoldable pub span_total : Bytes → ℕ → ℕ → ℕ
span_total bytes first zero = 0
span_total bytes first (suc n) = bytes first + span_total bytes (suc first) n

-- byte `at` is the low eight bits of the sum of the bytes from `from` to the one before it
unfoldable pub Checks : Bytes → ℕ → ℕ → Type 0
Checks bytes from at = bytes at ≡ span_total bytes from (at - from) % 256

-- the two check bytes of each standard
unfoldable pub BothCheck : Form → Bytes → Type 0
BothCheck Sff8472 bytes = Checks bytes 0 63 × Checks bytes 64 95
BothCheck Sff8636 bytes = Checks bytes 128 191 × Checks bytes 192 223

-- at each place i from one to another a buffer holds byte o + i
unfoldable pub Carries : List ℕ → Bytes → ℕ → ℕ → ℕ → Type 0
Carries buffer bytes o from to = (i : ℕ) → from ≤ i → i ≤ to → get_or buffer i 0 ≡ bytes (o + i)
