-- The viewer: a part of page A0 or A2, by its first byte and its length.
use Rattle.std.specs.Prelude.{ℕ, ◌+◌, Bool, List, [], length, take, drop, ◌==◌, nat_le, Ok, Err, Result}
use Rattle.hardware.specs.Prog.{pick}
use Rattle.hardware.specs.Numbers.{refusal_number}
use Rattle.hardware.specs.declared.Refusal.{Refusal}
use Rattle.hardware.specs.declared.Refusal.TheVariants.{Device, Buffer}

-- the part ends within the bytes lent
unfoldable pub within : List ℕ → ℕ → ℕ → Bool
within page first n = nat_le (first + n) (length page)

abbrev pub part : List ℕ → ℕ → ℕ → List ℕ
part page first n = take n (drop first page)

-- the number of what is told of a part, 0 where it is handed back
abbrev pub number_of : {A : Type 0} → Result A Refusal → ℕ
number_of (Ok part) = 0
number_of (Err q) = refusal_number q

-- question 3, and then question 9; 0: the part is handed back
unfoldable pub viewed : List ℕ → List ℕ → ℕ → ℕ → ℕ → ℕ
viewed a0 a2 device first n =
    pick (device == 0xa0) (pick (within a0 first n) 0 (refusal_number Buffer))
    (pick (device == 0xa2) (pick (within a2 first n) 0 (refusal_number Buffer)) (refusal_number Device))

-- the page that the device names; A0 for any other
unfoldable pub page_at : List ℕ → List ℕ → ℕ → List ℕ
page_at a0 a2 device = pick (device == 0xa2) a2 a0

-- refused: no byte
unfoldable pub view : List ℕ → List ℕ → ℕ → ℕ → ℕ → List ℕ
view a0 a2 device first n = pick (viewed a0 a2 device first n == 0) (part (page_at a0 a2 device) first n) []

-- A slice stands at a pointer: a block of memory and a place in it. The part stands so many bytes past the head of its
-- page; refused, at the head of A0
unfoldable pub view_at : ℕ × ℕ → ℕ × ℕ → ℕ → ℕ → ℕ → ℕ × ℕ
view_at at0 at2 number device first = pick (number == 0) (past (pick (device == 0xa2) at2 at0)) at0
  where
    past : ℕ × ℕ → ℕ × ℕ
    past at = (at.0, first + at.1)
