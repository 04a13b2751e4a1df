-- Every count has one level, which is None only for 0, and the level never falls as the count rises.
use Prim.Native.Nat.{ℕ, zero, suc, ◌-◌, ◌≤◌, ◌<◌, ◌^◌, zero-le, suc-le-suc}
use mathlib.Core.Path.{◌≡◌, refl, sym, ap, ◌∙◌}
use mathlib.Core.Bool.{Bool, true, false, cond}
use native.Mathlib.Nat.{not-le_of_lt}
use native.Mathlib.Omega.{arith}
use lib.Dec.{T, ltb, le→leb}
use lib.IntN.{ℤ, pos, negsuc, sub_ℕ, ◌-ℤ◌}
use lib.Signed.{le_z, ◌≤ℤ◌, mag}
use mir.Syntax.{w16}
use mir.Val.{SFits, to_z}
use mir.Facts.{to_z_pos}
use borrow.Author.Tests.{ltb-true, ltb-false}
use Rattle.level.specs.Level.{Greatest, LevelOf}
use Rattle.std.specs.Prelude.{Some, None, Option}
use Rattle.level.proofs.Powers as powers

pub exists : (count : ℕ) → (l : (Option ℤ)) × LevelOf count l
exists zero = (None, refl)
exists (suc n) =
    let g = powers.exists (suc n) (suc-le-suc zero-le) in
    (Some (sub_ℕ g.0 400), (g.0, g.1, refl))

not_of_0 : {k : ℕ} → Greatest 0 k → ⊥
not_of_0 {k} g = not-le_of_lt (powers.ten_pos k) g.reached

pub unique : (count : ℕ) (a b : (Option ℤ)) → LevelOf count a → LevelOf count b → a ≡ b
unique count (Some a) (Some b) g h = ap Some (g.2 ∙ ap (λ k. sub_ℕ k 400) (powers.unique g.1 h.1) ∙ sym h.2)
unique count (Some a) None g z = absurd (not_of_0 (rw z at g.1))
unique count None (Some b) z h = absurd (not_of_0 (rw z at h.1))
unique count None None z w = refl

less_rises : (k l n : ℕ) → k ≤ l → sub_ℕ k n ≤ℤ sub_ℕ l n
less_rises k l n h = record { le = go (ltb k n) (ltb l n) refl refl }
  where
    less : Bool → ℕ → ℤ
    less x m = cond x (negsuc (n - suc m)) (pos (m - n))

    go : (x y : Bool) → ltb k n ≡ x → ltb l n ≡ y → T (le_z (less x k) (less y l))
    go true true p q = le→leb (n - suc l) (n - suc k) (omega arith)
    go true false p q = tt
    go false true p q = absurd (omega (arith, ltb-false k n p, ltb-true l n q))
    go false false p q = le→leb (k - n) (l - n) (omega arith)

pub rises : {c d : ℕ} {a b : ℤ} → LevelOf c (Some a) → LevelOf d (Some b) → c ≤ d → a ≤ℤ b
rises g h le = rw (g.2, h.2) (less_rises g.0 h.0 400 (powers.rises g.1 h.1 le))

-- ---- the level of a count of 16 bits is a number of 16 bits

module _ {count k : ℕ} (g : Greatest count k) (small : count < 65536) where
  inside : k < 482
  inside = powers.in_table g small

  pub place_fits : SFits w16 (pos k)
  place_fits = record { sfits = omega (arith, inside) }

  pub tenths_is : to_z w16 k -ℤ pos 400 ≡ sub_ℕ k 400
  tenths_is = ap (λ z. z -ℤ pos 400) (to_z_pos w16 place_fits.sfits)

  tenths_small : (x : Bool) → mag (cond x (negsuc (400 - suc k)) (pos (k - 400))) < 2 ^ 15
  tenths_small true = omega arith
  tenths_small false = omega (arith, inside)

  pub tenths_fits : SFits w16 (to_z w16 k -ℤ pos 400)
  tenths_fits = rw tenths_is (record { sfits = tenths_small (ltb k 400) })
