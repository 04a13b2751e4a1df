-- Laws of the reference programs that the proofs cite.
use Prim.Native.Nat.{ℕ, ◌-◌, suc, zero}
use mathlib.Core.Path.{◌≡◌, refl, ap}
use native.Mathlib.Numerals.{sub-one}
use borrow.Author.Tests.{eq-eqb, ne_eqb}
use Rattle.hardware.specs.Prog.{erase, or_err, pick, ◌>>=◌, ◌>>?◌}
use Rattle.hardware.specs.declared.Port.{Port}
use Rattle.sync.specs.Resource.{acquire_bits}
use Rattle.hostif.specs.Acquire.{with_bits, acquire_token, try_token}

-- with a try left, the token's loop begins by the bits
pub token_more : (port : Port) (hw tries : ℕ) → (tries ≡ 0 → ⊥)
    → erase (with_bits hw (acquire_bits port hw) >>? λ _. try_token port hw (tries - 1)) ≡ erase (acquire_token port hw tries)
unfolding acquire_token try_token
token_more port hw zero h = absurd (h refl)
token_more port hw (suc n) h = ap (λ m. erase (with_bits hw (acquire_bits port hw) >>? λ _. try_token port hw m)) (sub-one (suc n))

-- with no bits to take, a try is the token's alone
pub token_alone : (port : Port) (hw tries : ℕ) → hw ≡ 0 → (tries ≡ 0 → ⊥) → erase (try_token port hw (tries - 1)) ≡ erase (acquire_token port hw tries)
unfolding with_bits pick or_err ◌>>=◌
token_alone port hw tries e h = rw (eq-eqb _ _ e) at (token_more port hw tries h)

pub token_bits : (port : Port) (hw tries : ℕ) → (hw ≡ 0 → ⊥) → (tries ≡ 0 → ⊥)
    → erase (acquire_bits port hw >>? λ _. try_token port hw (tries - 1)) ≡ erase (acquire_token port hw tries)
unfolding with_bits pick
token_bits port hw tries e h = rw (ne_eqb _ _ e) at (token_more port hw tries h)
