-- Levels in dBm as numbers.
use Rattle.std.specs.Prelude.{ℕ, ◌≡◌, ℤ, pos, Some, None, Option}
use Rattle.level.specs.Level.{LevelOf}
use Rattle.host.specs.declared.decibels.Decibels.{Decibels}

unfoldable pub decibels_of : (Option ℤ) → Decibels
decibels_of (Some t) = record { number = 0; tenths = t }
decibels_of None = record { number = 30; tenths = pos 0 }

-- the numbers are those of the count's level
unfoldable pub Levelled : ℕ → Decibels → Type 0
Levelled count d = (l : (Option ℤ)) × LevelOf count l × (d ≡ decibels_of l)
