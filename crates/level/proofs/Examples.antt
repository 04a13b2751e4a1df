-- The examples of the papers are so.
use Prim.Native.Nat.{ℕ, suc, ◌^◌}
use mathlib.Core.Path.{refl}
use lib.Dec.{T, leb, ltb, lit<, lit≤}
use lib.IntN.{sub_ℕ}
use Rattle.level.specs.Level.{LevelOf}
use Rattle.level.specs.Examples.{Examples}
use Rattle.level.proofs.Powers.{is_greatest}
use Rattle.std.specs.Prelude.{Some}

-- by two comparisons of powers, which the checker computes
by : (count k : ℕ) → T (leb (10 ^ k) (count ^ 100)) → T (ltb (count ^ 100) (10 ^ suc k)) → LevelOf count (Some (sub_ℕ k 400))
by count k r p = (k, is_greatest (lit≤ r) (lit< p), refl)

pub examples : Examples
examples =
    record {
      of_0 = refl;
      of_1 = by 1 0 tt tt;
      of_10000 = by 10000 400 tt tt;
      of_20000 = by 20000 430 tt tt;
      of_65535 = by 65535 481 tt tt;
    }
