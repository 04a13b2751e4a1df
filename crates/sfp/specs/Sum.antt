-- The check bytes of SFF-8472.
use Rattle.std.specs.Prelude.{ℕ, ◌+◌, ◌%◌, List, [], ◌∷◌}

unfoldable pub total : List ℕ → ℕ
total [] = 0
total (b ∷ l) = b + total l

-- the low eight bits of the sum of the bytes
unfoldable pub sum_of : List ℕ → ℕ
sum_of l = total l % 256
