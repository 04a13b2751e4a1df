-- Choices by a test; a flag as a number.
use Rattle.std.specs.Prelude.{ℕ, ◌≡◌, refl, Bool, true, false, not, eqb}

abbrev pub pick : {A : Type 0} → Bool → A → A → A
pick true a b = a
pick false a b = b

unfoldable pub bit : Bool → ℕ
bit true = 1
bit false = 0

unfoldable pub set : ℕ → Bool
set n = not (eqb n 0)

pub back_bit : (b : Bool) → set (bit b) ≡ b
unfolding bit set
back_bit true = refl
back_bit false = refl
