-- Calls that do not write to ESDP: those on the register semaphore, the bits of a mask for which no port has a mux, and with SW_MNG's the
-- firmware's commands and its token.
use Prim.Native.Nat.{ℕ, ◌+◌, ◌*◌, suc, zero}
use mathlib.Core.Path.{◌≡◌, refl, sym, ◌∙◌}
use mathlib.Core.Bool.{Bool, true, false, false≢true}
use mathlib.Core.List.{List}
use native.Mathlib.Omega.{arith}
use borrow.Author.Tests.{ne_eqb}
use lib.Dec.{eqb}
use Rattle.hardware.specs.declared.Access.{Access}
use Rattle.hardware.specs.declared.Access.TheVariants.{Read, Write, Wait}
use Rattle.hardware.specs.declared.Answer.{Answer}
use Rattle.hardware.specs.declared.Family.{Family}
use Rattle.hardware.specs.declared.Family.TheVariants.{X552, X553}
use Rattle.hardware.specs.declared.Port.{Port}
use Rattle.hardware.specs.Asked.{is}
use Rattle.hardware.specs.Prog.{Note, Prog, ret, ask, note, give, R, Ok, Err, or_err, ◌>>=◌, pick}
use Rattle.hardware.specs.Registers.{ESDP, none_of}
use Rattle.sync.specs.Regs.{SW_MNG, swsm, sw_fw_sync, mux}
use Rattle.sync.specs.Lock.{lock, unlock}
use Rattle.sync.specs.Resource.{acquire_bits, unmuxed, release_bits}
use Rattle.hostif.specs.Hostif.{FLEX_MNG, Left, words, closed, released, requested, acquired, command, token_block, tokened, token}
use Rattle.hardware.proofs.Spreads.{Spreads, Open, Passes, one_holds}
use Rattle.sync.proofs.Spreads.{Semaphores, lock_holds, unlock_holds, unmuxed_holds, acquire_bits_holds, release_bits_holds}
use Rattle.hostif.proofs.Spreads.{Firmware, request_holds, respond_holds}
use Rattle.hostif.specs.Acquire.{with_bits, acquired_all, not_granted, given_back, token_seen, acquire_token}

abbrev pub to_mux : Access → Bool
to_mux (Read r) = false
to_mux (Write r v) = eqb r ESDP
to_mux (Wait n) = false

unfoldable pub Spares : {A : Type 0} → Prog A → Type 0
Spares (ret v) = Unit {0}
Spares (ask x f) = (to_mux x ≡ false) × ((a : Answer) → Spares (f a))
Spares (note n p) = Spares p
Spares (give b p) = Spares p

spares_bind : {A B : Type 0} (p : Prog A) (k : A → Prog B) → Spares p → ((a : A) → Spares (k a)) → Spares (p >>= k)
unfolding Spares ◌>>=◌
spares_bind (ret a) k e d = d a
spares_bind (ask x f) k e d = (e.0, λ a. spares_bind (f a) k (e.1 a) d)
spares_bind (note n p) k e d = spares_bind p k e d
spares_bind (give b p) k e d = spares_bind p k e d

spares_note : {A : Type 0} (n : Note) (p : Prog A) → Spares p → Spares (note n p)
unfolding Spares
spares_note n p e = e

-- any register may be read, and any but ESDP written
abbrev Spared : Access → Type 0
Spared x = to_mux x ≡ false

spares_spreads : Spreads (λ A p. Spares p) Spared
unfolding Spares
spares_spreads = record { ends = λ A v. tt; asks = λ A x f m d. (m, d); binds = λ A B p k e d. spares_bind p k e d; lapses = λ A p e. e }

spares_ret : {A : Type 0} (v : A) → Spares (ret v)
spares_ret v = spares_spreads.ends _ v

-- one access and the end
pub spares_one : {A : Type 0} (x : Access) (f : Answer → A) → to_mux x ≡ false → Spares (ask x (λ a. ret (f a)))
spares_one x f e = one_holds _ Spared spares_spreads x f e

spared : (register : ℕ) → eqb register ESDP ≡ false → Open Spared register
spared register e = record { reads = refl; writes = λ v. e }

passes_spared : Passes Spared
passes_spared = record { flushes = refl; waits = λ us. refl }

swsm_spared : (f : Family) → eqb (swsm f) ESDP ≡ false
unfolding swsm pick
swsm_spared f = by (is f X553)
  where
    by : (b : Bool) → eqb (pick b 0x15f70 0x10140) ESDP ≡ false
    by true = refl
    by false = refl

pub sync_spared : (f : Family) → eqb (sw_fw_sync f) ESDP ≡ false
unfolding sw_fw_sync pick
sync_spared f = by (is f X553)
  where
    by : (b : Bool) → eqb (pick b 0x15f78 0x10160) ESDP ≡ false
    by true = refl
    by false = refl

semaphores_spared : (f : Family) → Semaphores Spared f
semaphores_spared f = record { passes = passes_spared; first = spared _ refl; swsm = spared _ (swsm_spared f); sync = spared _ (sync_spared f) }

firmware_spared : Firmware Spared
firmware_spared =
    record {
      passes = passes_spared;
      fwsts = spared _ refl;
      hicr = spared _ refl;
      words = λ at. spared _ (ne_eqb (FLEX_MNG + 4 * at) ESDP (λ z. omega (arith, z)));
    }

pub lock_spares : (f : Family) → Spares (lock f)
lock_spares f = lock_holds _ Spared spares_spreads f (semaphores_spared f)

pub unlock_spares : (f : Family) → Spares (unlock f)
unlock_spares f = unlock_holds _ Spared spares_spreads f (semaphores_spared f)

-- the bits given back, once the mux is switched
pub unmuxed_spares : (port : Port) (mask : ℕ) → Spares (unmuxed port mask)
unmuxed_spares port mask = unmuxed_holds _ Spared spares_spreads port mask (semaphores_spared port.family)

-- `command` and `token`

-- SW_MNG is no bit of the module bus
no_mux : (port : Port) → mux port SW_MNG ≡ true → Open Spared ESDP
unfolding mux none_of pick
no_mux port e = absurd (false≢true (sym (by (is port.family X552) (eqb port.lan 1)) ∙ e))
  where
    by : (a b : Bool) → pick a (pick b false false) false ≡ false
    by true true = refl
    by true false = refl
    by false b = refl

bits_spares : (port : Port) → Spares (acquire_bits port SW_MNG)
bits_spares port = acquire_bits_holds _ Spared spares_spreads port SW_MNG (semaphores_spared port.family) (no_mux port)

given_spares : (port : Port) → Spares (release_bits port SW_MNG)
given_spares port = release_bits_holds _ Spared spares_spreads port SW_MNG (semaphores_spared port.family) (no_mux port)

released_spares : (port : Port) (left : Left) → Spares (released port left)
unfolding released closed
released_spares port left = spares_note _ _ (spares_bind _ _ (given_spares port) (λ r. spares_ret _))

requested_spares : (port : Port) (block : List ℕ) (r : R ℕ) → Spares (requested port block r)
unfolding requested
requested_spares port block (Err e) = released_spares port _
requested_spares port block (Ok last) = spares_bind _ _ (respond_holds _ Spared spares_spreads firmware_spared last block) (released_spares port)

acquired_spares : (port : Port) (block : List ℕ) (r : R (Unit {0})) → Spares (acquired port block r)
unfolding acquired
acquired_spares port block (Err e) = spares_ret _
acquired_spares port block (Ok u) = spares_note _ _ (spares_bind _ _ (request_holds _ Spared spares_spreads firmware_spared block) (requested_spares port block))

pub token_spares : (port : Port) (take : Bool) → Spares (token port take)
unfolding token command tokened
token_spares port take =
    spares_bind _ _ (spares_note _ _ (spares_bind _ _ (bits_spares port) (acquired_spares port (token_block port take))))
    (λ left. spares_ret _)

-- with no bits of SW_FW_SYNC in the mask, the token alone
module _ (port : Port) (mask : ℕ) (none : eqb mask 0 ≡ true) where
  told_spares : (again : Answer → Prog (R (Unit {0}))) → ((a : Answer) → Spares (again a)) → (r : R Bool) → Spares (token_seen port mask again r)
  unfolding token_seen given_back with_bits not_granted acquired_all pick or_err ◌>>=◌
  told_spares again d (Ok true) = spares_note _ _ (spares_ret _)
  told_spares again d (Ok false) = rw none (spares_spreads.asks _ _ _ refl d)
  told_spares again d (Err error) = rw none (spares_ret _)

  pub alone_spares : (n : ℕ) → Spares (acquire_token port mask n)
  unfolding acquire_token with_bits pick or_err ◌>>=◌
  alone_spares zero = spares_ret _
  alone_spares (suc n) = rw none (spares_bind _ _ (token_spares port true) (told_spares _ (λ a. alone_spares n)))
