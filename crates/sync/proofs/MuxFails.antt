-- The machine of `acquire_bits` at the mux: the bits are written, the register semaphore is given back, and a failure at
-- the mux then ends the call.
use Prim.Native.Nat.{ℕ}
use mathlib.Core.Path.{◌≡◌, refl}
use mathlib.Core.Bool.{true}
use lib.Bits.{bit_or}
use Rattle.hardware.specs.declared.Port.{Port}
use Rattle.hardware.specs.declared.Access.TheVariants.{Write}
use Rattle.hardware.specs.declared.Answer.TheVariants.{Value, Done, Failed}
use Rattle.hardware.specs.Failures.{Io, Removed}
use Rattle.hardware.specs.declared.Update.{Update}
use Rattle.hardware.specs.declared.Update.TheVariants.{Reading, Writing, Flushing}
use Rattle.hardware.specs.Prog.{ret, ask, Err, or_err, ◌>>=◌, ◌>>?◌, pick}
use Rattle.hardware.specs.Registers.{checked, written, flushed}
use Rattle.hardware.specs.Change.{rest_update}
use Rattle.sync.specs.declared.acquire_bits.AcquireBits.{AcquireBits}
use Rattle.sync.specs.declared.acquire_bits.Stage.{Stage}
use Rattle.sync.specs.declared.acquire_bits.Stage.TheVariants.{Taking, Muxing}
use Rattle.sync.specs.Regs.{sw_fw_sync, bits}
use Rattle.sync.specs.Lock.{unlock}
use Rattle.sync.specs.Resource.{muxed, taken, free, rest_acquire_stage, rest_acquire_bits}

abbrev at : ℕ → Stage → AcquireBits
at left s = record { left = left; stage = s }

-- a failed access of the mux, its read, its write or its flush, ends the call with Io
pub mux_fails : (port : Port) (mask left : ℕ) (t : Update) → rest_acquire_bits port mask (at left (Muxing t)) Failed ≡ ret (Err Io)
unfolding rest_acquire_bits rest_acquire_stage rest_update checked written flushed or_err
mux_fails port mask left Reading = refl
mux_fails port mask left (Writing v) = refl
mux_fails port mask left Flushing = refl

-- a read of FFFFFFFF ends it with Removed
pub mux_removed : (port : Port) (mask left : ℕ) → rest_acquire_bits port mask (at left (Muxing Reading)) (Value 0xFFFFFFFF) ≡ ret (Err Removed)
unfolding rest_acquire_bits rest_acquire_stage rest_update checked or_err pick
mux_removed port mask left = refl

-- before it: the bits are written with those that were read; whatever is answered, the register semaphore goes back
pub bits_first : (port : Port) (mask sync : ℕ)
    → free port mask sync ≡ ask (Write (sw_fw_sync port.family) (bit_or sync (bits port.family mask).sw)) (λ a. unlock port.family >>? λ _. taken port mask (written a))
unfolding free ◌>>=◌
bits_first port mask sync = refl

-- and only then, where the bits were written, the mux is switched
pub mux_last : (port : Port) (mask left v : ℕ) → rest_acquire_bits port mask (at left (Taking v)) Done ≡ unlock port.family >>? λ _. muxed port mask true
unfolding rest_acquire_bits rest_acquire_stage taken written or_err
mux_last port mask left v = refl

pub mux_never : (port : Port) (mask left v : ℕ) → rest_acquire_bits port mask (at left (Taking v)) Failed ≡ unlock port.family >>? λ _. ret (Err Io)
unfolding rest_acquire_bits rest_acquire_stage taken written or_err
mux_never port mask left v = refl
