-- What holds of an end, and of a requested byte wherever it holds of what follows it, holds of a page.
use Prim.Native.Nat.{ℕ, suc, zero}
use mathlib.Core.List.{List}
use Rattle.hardware.specs.declared.Port.{Port}
use Rattle.hardware.specs.Prog.{Prog, ret, R, Ok, Err}
use Rattle.transfer.specs.declared.attempt.Sequence.{Sequence}
use Rattle.sfp.proofs.Spreads.{Spreads}
use Rattle.page.specs.declared.walk.Form.{Form}
use Rattle.page.specs.Page.{Filled, request_at, byte_seen, page_from, page}

-- a byte was read, or not
pub seen_holds : (P : Prog Filled → Type 0) → ((v : Filled) → P (ret v)) → (again : List ℕ → Prog Filled) (place : ℕ) (buffer : List ℕ) → ((b : List ℕ) → P (again b))
    → (r : R ℕ) → P (byte_seen again place buffer r)
unfolding byte_seen
seen_holds P ends again place buffer e (Ok v) = e _
seen_holds P ends again place buffer e (Err error) = ends _

module _ (q : Sequence) (port : Port) (form : Form) (tries : ℕ) (P : Prog Filled → Type 0) (s : Spreads q port P) where
  from_holds : (n : ℕ) (buffer : List ℕ) → P (page_from q port form tries n buffer)
  unfolding page_from request_at
  from_holds zero buffer = s.ends _
  from_holds (suc left) buffer = s.requests _ tries _ (seen_holds P s.ends _ _ buffer (from_holds left))

  pub page_holds : (buffer : List ℕ) → P (page q port form tries buffer)
  unfolding page
  page_holds buffer = from_holds 96 buffer
