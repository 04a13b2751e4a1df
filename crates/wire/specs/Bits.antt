-- A mask of one bit, or of none.
use Rattle.std.specs.Prelude.{ℕ, ◌^◌, ◌<◌}

pub data OneBit : ℕ → Type 0 where
  absent : OneBit 0
  at : (k : ℕ) → k < 32 → OneBit (2 ^ k)
