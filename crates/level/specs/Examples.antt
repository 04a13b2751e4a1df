-- The examples of the papers: counts of 0.1 µW and their levels in tenths of a dBm. negsuc n is -(n + 1).
use Rattle.std.specs.Prelude.{pos, negsuc, Some, None}
use Rattle.level.specs.Level.{LevelOf}

pub record Examples : Type 0 where
  pub of_0 : LevelOf 0 None
  pub of_1 : LevelOf 1 (Some (negsuc 399))
  pub of_10000 : LevelOf 10000 (Some (pos 0))
  pub of_20000 : LevelOf 20000 (Some (pos 30))
  pub of_65535 : LevelOf 65535 (Some (pos 81))
