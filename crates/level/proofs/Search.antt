-- The binary search, by powers: k is from lo on and below hi. Nine rounds halve 482 places to one.
use Prim.Native.Nat.{ℕ, suc, ◌+◌, ◌-◌, ◌*◌, ◌/◌, ◌≤◌, ◌<◌, ◌^◌}
use mathlib.Core.Path.{◌≡◌}
use native.Mathlib.Nat.{le_trans, lt_of_le_of_lt, lt_of_lt_of_le, lt_of_not-le, not-le_of_lt, pow-le-pow_left, pow-le-pow_right, pow-succ'}
use native.Mathlib.Omega.{arith}
use lib.Dec.{lit<, lit≤}
use Rattle.level.specs.Level.{Greatest, Least}
use Rattle.level.proofs.Powers.{lower, is_greatest, of_one, top}

-- after so many rounds of nine, each of which halves the distance
pub record Between (count rounds lo hi : ℕ) : Type 0 where
  pub reached : 10 ^ lo ≤ count ^ 100
  pub passed : count ^ 100 < 10 ^ hi
  pub apart : lo < hi
  pub upper : hi ≤ 482
  pub near : hi ≤ lo + 2 ^ (9 - rounds)

pub start : {count : ℕ} → 1 ≤ count → count < 65536 → Between count 0 0 482
start some small = record { reached = of_one some; passed = top small; apart = lit< tt; upper = lit≤ tt; near = lit≤ tt }

module _ {count rounds lo hi e : ℕ} (b : Between count rounds lo hi) (more : rounds < 9) (l : Least ((lo + hi) / 2) e) where
  near : hi ≤ lo + 2 * 2 ^ (9 - (rounds + 1))
  near =
      let e : 9 - rounds ≡ suc (9 - (rounds + 1)) = omega arith in
      rw (e, pow-succ') at b.near

  pub up : e ≤ count → Between count (rounds + 1) ((lo + hi) / 2) hi
  up h =
      record {
        reached = le_trans l.reaches (pow-le-pow_left h 100);
        passed = b.passed;
        apart = omega arith;
        upper = b.upper;
        near = omega (arith, near);
      }

  short : count < e → count ^ 100 < 10 ^ ((lo + hi) / 2)
  short h = lt_of_not-le (λ r. not-le_of_lt h (l.least count r))

  pub down : count < e → Between count (rounds + 1) lo ((lo + hi) / 2)
  down h =
      record {
        reached = b.reached;
        passed = short h;
        apart = lower (lt_of_le_of_lt b.reached (short h));
        upper = omega arith;
        near = omega (arith, near);
      }

pub found : {count rounds lo hi : ℕ} → Between count rounds lo hi → 9 ≤ rounds → Greatest count lo
found {rounds = rounds} b all =
    let e : 9 - rounds ≡ 0 = omega arith in
    is_greatest b.reached (lt_of_lt_of_le b.passed (pow-le-pow_right (lit< tt) (omega (arith, rw e at b.near))))
