-- The table's rule at every entry, from one test that the checker computes over the whole table.
use Prim.Native.Nat.{ℕ, zero, suc, ◌+◌, ◌-◌, ◌≤◌, ◌<◌, ◌^◌}
use mathlib.Core.Path.{◌≡◌, ◌∙◌, sym, subst}
use mathlib.Core.Bool.{Bool, true, ◌&&◌}
use mathlib.Core.List.{List, [], ◌∷◌}
use native.Mathlib.Nat.{add-zero, zero-add, add-suc, suc-add, le_of_suc-le-suc, lt_of_le_of_lt, lt_of_not-le, not-le_of_lt, not-suc-le-zero, pow-le-pow_left}
use native.Mathlib.Omega.{arith}
use lib.Dec.{T, leb, ltb, leb→le, ltb→lt}
use lib.Ieee.Fits.{and_l, and_r}
use lib.ListN.{length, get_or}
use Rattle.level.specs.Level.{Least, LeastCounts}

-- e reaches 10 ^ k, and the count below it does not
abbrev reaches : ℕ → ℕ → Bool
reaches k e = leb (10 ^ k) (e ^ 100)

abbrev short : ℕ → ℕ → Bool
short k e = ltb ((e - 1) ^ 100) (10 ^ k)

abbrev passes : ℕ → ℕ → Bool
passes k e = reaches k e && short k e

-- the entries pass, their places counted from i
abbrev pub every : ℕ → List ℕ → Bool
every i [] = true
every i (e ∷ l) = passes i e && every (suc i) l

is_least : (k e : ℕ) → 10 ^ k ≤ e ^ 100 → (e - 1) ^ 100 < 10 ^ k → Least k e
is_least k e r p =
    record {
      reaches = r;
      least = λ d h. le_of_suc-le-suc (lt_of_not-le (λ l. not-le_of_lt (lt_of_le_of_lt (pow-le-pow_left (omega arith) 100) p) h));
    }

passed : (k e : ℕ) → T (passes k e) → Least k e
passed k e t =
    is_least k e (leb→le (10 ^ k) (e ^ 100) (and_l (reaches k e) (short k e) t))
    (ltb→lt ((e - 1) ^ 100) (10 ^ k) (and_r (reaches k e) (short k e) t))

from : (i : ℕ) (l : List ℕ) → T (every i l) → (k : ℕ) → k < length l → Least (i + k) (get_or l k 0)
from i [] t k h = absurd (not-suc-le-zero h)
from i (e ∷ l) t zero h = subst (λ n. Least n e) (sym (add-zero i)) (passed i e (and_l (passes i e) (every (suc i) l) t))
from i (e ∷ l) t (suc k) h =
    subst (λ n. Least n (get_or l k 0)) (suc-add i k ∙ sym (add-suc i k))
    (from (suc i) l (and_r (passes i e) (every (suc i) l) t) k (le_of_suc-le-suc h))

pub right : {l : List ℕ} → length l ≡ 482 → T (every 0 l) → LeastCounts l
right {l} n t = record { entry = λ k h. subst (λ i. Least i (get_or l k 0)) (zero-add k) (from 0 l t k (rw n h)) }
