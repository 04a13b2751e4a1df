-- Bytes as text.
use Rattle.std.specs.Prelude.{ℕ, ◌≤◌, ◌≡◌}

-- r is printable ASCII, and b itself where b is
pub record Printed (b r : ℕ) : Type 0 where
  pub low : 32 ≤ r
  pub high : r ≤ 126
  pub same : 32 ≤ b → b ≤ 126 → r ≡ b
