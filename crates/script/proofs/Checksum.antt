-- The one's-complement sum of any bytes and their check byte is FF.
use Prim.Native.Nat.{ℕ, ◌-◌, ◌<◌}
use mathlib.Core.Path.{◌≡◌, refl, ◌∙◌}
use mathlib.Core.List.{List, [], ◌∷◌, ◌++◌}
use native.Mathlib.Omega.{arith}
use Rattle.script.specs.Sum.{ones_add, ones_sum_from, ones_sum, check_byte}

-- a list of bytes
unfoldable pub Bytes : List ℕ → Type 0
Bytes [] = Unit {0}
Bytes (b ∷ l) = (b < 256) × Bytes l

sum_byte : (a b : ℕ) → a < 256 → b < 256 → ones_add a b < 256
unfolding ones_add
sum_byte a b h k = omega arith

sum_full : (a : ℕ) → a < 256 → ones_add a (255 - a) ≡ 255
unfolding ones_add
sum_full a h = omega arith

from_byte : (l : List ℕ) (a : ℕ) → a < 256 → Bytes l → ones_sum_from a l < 256
unfolding ones_sum_from Bytes
from_byte [] a h k = h
from_byte (b ∷ l) a h k = from_byte l (ones_add a b) (sum_byte a b h k.0) k.1

from_last : (l : List ℕ) (a c : ℕ) → ones_sum_from a (l ++ c ∷ []) ≡ ones_add (ones_sum_from a l) c
unfolding ones_sum_from
from_last [] a c = refl
from_last (b ∷ l) a c = from_last l (ones_add a b) c

pub checked_sum : (l : List ℕ) → Bytes l → ones_sum (l ++ check_byte l ∷ []) ≡ 0xFF
unfolding ones_sum ones_sum_from check_byte Bytes
checked_sum [] h = refl
checked_sum (a ∷ l) h =
    from_last l a (255 - ones_sum_from a l) ∙ sum_full (ones_sum_from a l) (from_byte l a h.0 h.1)
