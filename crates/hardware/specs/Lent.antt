-- A call that is lent a buffer.
use Rattle.std.specs.Prelude.{ℕ, List}
use Rattle.hardware.specs.Asked.{Asked, no, yes}
use Rattle.hardware.specs.Prog.{Prog}

-- refused with a number, the buffer as it is now, or gone on with
pub data Lent (A : Type 0) : Type 0 where
  refused : ℕ → List ℕ → Lent A
  goes : Prog A → Lent A

unfoldable pub lent : {A : Type 0} → List ℕ → Asked (Prog A) → Lent A
lent buffer (no n) = refused n buffer
lent buffer (yes p) = goes p

unfoldable pub asked : {A : Type 0} → Lent A → Asked (Prog A)
asked (refused n buffer) = no n
asked (goes p) = yes p
