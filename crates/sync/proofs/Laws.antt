-- Laws of the reference programs that the proofs cite.
use Prim.Native.Nat.{ℕ, ◌-◌, suc, zero}
use mathlib.Core.Path.{◌≡◌, refl, ap}
use native.Mathlib.Numerals.{sub-one}
use Rattle.hardware.specs.Prog.{erase, ◌>>=◌, ◌>>?◌}
use Rattle.hardware.specs.declared.Port.{Port}
use Rattle.hardware.specs.Change.{change, access_update, rest_update}
use Rattle.hardware.specs.declared.Update.TheVariants.{Reading}
use Rattle.sync.specs.Lock.{swesmbi, swesmbi_next, swesmbi_check, access_swesmbi, rest_swesmbi}
use Rattle.sync.specs.Lock.{lock}
use Rattle.sync.specs.Resource.{acquire_tries, try_read}
use Rattle.sync.specs.declared.swesmbi.Swesmbi.TheVariants.{Setting}
use Rattle.hardware.specs.declared.Next.TheVariants.{Going}

-- with a try left, the wait for SWESMBI begins by reading SWSM
pub swesmbi_more : (tries : ℕ) → (tries ≡ 0 → ⊥) → swesmbi_next (Going (Setting (tries - 1) Reading)) ≡ erase (swesmbi tries)
unfolding swesmbi swesmbi_next swesmbi_check access_swesmbi rest_swesmbi change access_update rest_update erase ◌>>=◌
swesmbi_more zero h = absurd (h refl)
swesmbi_more (suc n) h = ap (λ m. swesmbi_next (Going (Setting m Reading))) (sub-one (suc n))

-- with a try left, `acquire_bits` begins by the register semaphore
pub acquire_more : (port : Port) (mask tries held : ℕ) → (tries ≡ 0 → ⊥)
    → erase (lock port.family >>? λ _. try_read port mask (tries - 1)) ≡ erase (acquire_tries port mask tries held)
unfolding acquire_tries try_read
acquire_more port mask zero held h = absurd (h refl)
acquire_more port mask (suc n) held h = ap (λ m. erase (lock port.family >>? λ _. try_read port mask m)) (sub-one (suc n))
