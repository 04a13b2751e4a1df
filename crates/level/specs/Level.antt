-- Levels of light in tenths of a dBm. A count is of 0.1 µW and 0 dBm is 1 mW, so that the level of a count c is
-- 100 log10 c - 400, rounded down. It is stated by powers of whole numbers.
use Rattle.std.specs.Prelude.{ℕ, ◌≤◌, ◌<◌, ◌^◌, ◌≡◌, ℤ, List, get_or, Some, None, Option}
use Rattle.std.proofs.Math.IntN.{sub_ℕ}

-- k is the greatest whole number with 10 ^ k at most count ^ 100
pub record Greatest (count k : ℕ) : Type 0 where
  pub reached : 10 ^ k ≤ count ^ 100
  pub greatest : (j : ℕ) → 10 ^ j ≤ count ^ 100 → j ≤ k

-- c is the least count with 10 ^ k at most c ^ 100
pub record Least (k c : ℕ) : Type 0 where
  pub reaches : 10 ^ k ≤ c ^ 100
  pub least : (d : ℕ) → 10 ^ k ≤ d ^ 100 → c ≤ d

-- the table: entry k is the least count for k
pub record LeastCounts (table : List ℕ) : Type 0 where
  pub entry : (k : ℕ) → k < 482 → Least k (get_or table k 0)

-- the level of a count is k - 400; the count 0, which has no k, has none
abbrev pub LevelOf : ℕ → (Option ℤ) → Type 0
LevelOf count (Some t) = (k : ℕ) × Greatest count k × (t ≡ sub_ℕ k 400)
LevelOf count None = count ≡ 0

-- the papers' number of a failure, or 0
abbrev pub level_number : (Option ℤ) → ℕ
level_number (Some t) = 0
level_number None = 30
