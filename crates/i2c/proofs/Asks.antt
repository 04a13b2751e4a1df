-- A request that has an attempt begins with an access.
use Prim.Native.Nat.{ℕ, ◌<◌, suc, zero}
use mathlib.Core.Path.{◌≡◌, refl, subst⁻¹}
use mathlib.Core.Bool.{Bool, true, false}
use native.Mathlib.Omega.{arith}
use Rattle.hardware.specs.declared.Family.{Family}
use Rattle.hardware.specs.declared.Family.TheVariants.{F82599, X540, X550, X552, X553}
use Rattle.hardware.specs.declared.Port.{Port}
use Rattle.hardware.specs.Asked.{is}
use Rattle.hardware.specs.Prog.{Prog, ret, ask, note, give, Note, is_told, note_if, stays, erase, R, ◌>>=◌, pick}
use Rattle.hardware.specs.Change.{change}
use Rattle.hardware.specs.Poll.{poll}
use Rattle.sync.specs.Lock.{lock}
use Rattle.sync.specs.Resource.{acquire_tries, acquire_bits}
use Rattle.hostif.specs.Acquire.{hw_of, acquire}
use Rattle.bus.specs.declared.Taken.{Taken}
use Rattle.transfer.specs.Attempt.{attempting, attempt}
use Rattle.i2c.specs.declared.How.{How}
use Rattle.i2c.specs.declared.once.Request.{Request}
use Rattle.i2c.specs.declared.once.Request.TheVariants.{ReadByte, WriteByte, ReadCombined, WriteCombined}
use Rattle.i2c.specs.I2c.{mask, is_write, once, when_lock, read_tries, write_tries, writes, retried, with_bus, handshaken}
use Rattle.i2c.specs.Retry.{wanted}
use Rattle.i2c.proofs.Masks.{mask_plain}

-- the call has an access before its end
abbrev Asks : {A : Type 0} → Prog A → Type 0
Asks (ret v) = ⊥
Asks (ask x f) = Unit {0}
Asks (note n p) = Asks p
Asks (give b p) = ⊥

asks_bind : {A B : Type 0} (p : Prog A) (k : A → Prog B) → Asks p → Asks (p >>= k)
unfolding ◌>>=◌
asks_bind (ret v) k h = absurd h
asks_bind (ask x f) k h = tt
asks_bind (note n p) k h = asks_bind p k h
asks_bind (give b p) k h = absurd h

asks_pick : {A : Type 0} (b : Bool) (p q : Prog A) → Asks p → Asks q → Asks (pick b p q)
unfolding pick
asks_pick true p q h k = h
asks_pick false p q h k = k

asks_stays : {A : Type 0} (n : Note) (p : Prog A) → Asks p → Asks (stays n p)
asks_stays n p h = by (is_told n)
  where
    by : (b : Bool) → Asks (note_if b n p)
    by true = h
    by false = h

erase_asks : {A : Type 0} (p : Prog A) → Asks p → Asks (erase p)
unfolding erase
erase_asks (ret v) h = absurd h
erase_asks (ask x f) h = tt
erase_asks (note n p) h = asks_stays n (erase p) (erase_asks p h)
erase_asks (give b p) h = absurd h

-- so it does not end at once
pub asks_erase : {A : Type 0} (p : Prog A) (v : A) → Asks p → ret v ≡ erase p → ⊥
asks_erase p v h e = subst⁻¹ Asks e (erase_asks p h)

acquire_bits_asks : (port : Port) (hw : ℕ) (f : Family) → port.family ≡ f → Asks (acquire_bits port hw)
unfolding acquire_bits acquire_tries lock poll is pick ◌>>=◌
acquire_bits_asks port hw F82599 e = rw e tt
acquire_bits_asks port hw X540 e = rw e tt
acquire_bits_asks port hw X550 e = rw e tt
acquire_bits_asks port hw X552 e = rw e tt
acquire_bits_asks port hw X553 e = rw e tt

acquire_asks : (port : Port) → Asks (acquire port (mask port))
unfolding acquire pick
acquire_asks port = rw (mask_plain port) (asks_bind _ _ (acquire_bits_asks port (hw_of (mask port)) port.family refl))

when_asks : (lock : Bool) (p : Prog (R (Unit {0}))) (k : Prog (R Taken)) → Asks p → Asks k → Asks (when_lock lock p k)
unfolding when_lock
when_asks lock p k h g = asks_pick lock _ _ (asks_bind p _ h) g

module _ (port : Port) (r : Request) (how : How) where
  once_asks : Asks (once port r how)
  unfolding once attempt attempting ◌>>=◌
  once_asks = tt

  reads_ask : (n : ℕ) → 0 < n → Asks (read_tries port r how n)
  unfolding read_tries
  reads_ask zero h = absurd (omega arith)
  reads_ask (suc n) h = when_asks how.lock _ _ (acquire_asks port) (asks_bind _ _ once_asks)

  writes_ask : Asks (writes port r how)
  unfolding writes write_tries
  writes_ask = when_asks how.lock _ _ (acquire_asks port) (asks_bind _ _ (asks_bind _ _ once_asks))

  retried_ask : (tries : ℕ) → 0 < wanted r tries → Asks (retried port r how tries)
  unfolding retried wanted pick
  retried_ask tries h = by (is_write r) h
    where
      by : (w : Bool) → 0 < pick w 2 tries → Asks (pick w (writes port r how) (read_tries port r how tries))
      by true h = writes_ask
      by false h = reads_ask tries h

bus_asks : (port : Port) (device : ℕ) (f : Prog (R Taken)) → Asks f → Asks (with_bus port device f)
unfolding with_bus change ◌>>=◌
bus_asks port device f h = asks_pick _ _ _ tt h

handshake_asks : (port : Port) (r : Request) (f : Prog (R Taken)) → Asks f → Asks (handshaken port r f)
unfolding handshaken
handshake_asks port (ReadByte d o) f h = bus_asks port d f h
handshake_asks port (WriteByte d o v) f h = bus_asks port d f h
handshake_asks port (ReadCombined d reg) f h = h
handshake_asks port (WriteCombined d reg v) f h = h

pub request_begins : (port : Port) (r : Request) (how : How) (tries : ℕ) → 0 < wanted r tries → Asks (handshaken port r (retried port r how tries))
request_begins port r how tries h = handshake_asks port r _ (retried_ask port r how tries h)
