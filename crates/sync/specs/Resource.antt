-- `acquire_bits` and `release_bits` of `sync.rs`, and what is left of each at every state.
use Rattle.std.specs.Prelude.{ℕ, suc, zero, Bool, true, false, ltb}
use Rattle.std.specs.Int.Bits.{bit_and, bit_or}
use Rattle.hardware.specs.declared.Family.{Family}
use Rattle.hardware.specs.declared.Family.TheVariants.{F82599}
use Rattle.hardware.specs.declared.Port.{Port}
use Rattle.hardware.specs.declared.Access.{Access}
use Rattle.hardware.specs.declared.Access.TheVariants.{Read, Write, Wait}
use Rattle.hardware.specs.declared.Answer.{Answer}
use Rattle.hardware.specs.Asked.{is}
use Rattle.hardware.specs.Failures.{Semaphore}
use Rattle.hardware.specs.Prog.{Prog, ret, ask, note, Lapsed, erase, R, Ok, Err, or_err, ◌>>=◌, ◌>>?◌, pick}
use Rattle.hardware.specs.Registers.{none_of, read, write, delay, checked, written, micros, reply}
use Rattle.hardware.specs.Change.{change, access_update, rest_update}
use Rattle.hardware.specs.declared.change.Change.{Change}
use Rattle.sync.specs.declared.acquire_bits.AcquireBits.{AcquireBits}
use Rattle.sync.specs.declared.acquire_bits.Stage.{Stage}
use Rattle.sync.specs.declared.acquire_bits.Stage.TheVariants.{Locking, Reading, Taking, Taken, Muxing, Unlocking, Waiting}
use Rattle.sync.specs.declared.release_bits.ReleaseBits.{ReleaseBits}
use Rattle.sync.specs.declared.release_bits.ReleaseBits.TheVariants.{Muxing as Unmuxing, Locking as Relocking, Clearing, Unlocking as Releasing, Waiting as Settling}
use Rattle.sync.specs.Regs.{sw_fw_sync, bits, mux, tries, clear_sync, set_mux, release_us}
use Rattle.sync.specs.Lock.{lock, access_lock, rest_lock, valid_lock, unlock, access_unlock, rest_unlock}
use Rattle.sync.specs.Aliases.{AcquireBitsNext, ReleaseBitsNext}
use Rattle.hardware.specs.declared.Next.TheVariants.{Going, End}

-- all the bits that stand against taking a mask
unfoldable pub against : Family → ℕ → ℕ
against family mask = bit_or (bit_or (bits family mask).sw (bits family mask).fw) (bits family mask).hw

-- the mux is switched where the port has one
unfoldable pub muxed : Port → ℕ → Bool → Prog (R (Unit {0}))
muxed port mask on = pick (mux port mask) (change (set_mux on)) (ret (Ok tt))

-- the bits were written, or not; the register semaphore has been given back
unfoldable pub taken : Port → ℕ → R (Unit {0}) → Prog (R (Unit {0}))
taken port mask w = or_err (λ _. muxed port mask true) w

-- nothing stands against the mask
unfoldable pub free : Port → ℕ → ℕ → Prog (R (Unit {0}))
free port mask sync =
    write (sw_fw_sync port.family) (bit_or sync (bits port.family mask).sw) >>= λ w. unlock port.family >>? λ _. taken port mask w

-- SW_FW_SYNC was read, or not; again: the next try, with the bits found held
unfoldable pub sync_seen : Port → ℕ → (ℕ → Prog (R (Unit {0}))) → R ℕ → Prog (R (Unit {0}))
sync_seen port mask again (Err e) = unlock port.family >>? λ _. ret (Err e)
sync_seen port mask again (Ok sync) =
    pick (none_of sync (against port.family mask)) (free port mask sync)
    (unlock port.family >>? λ _. delay 5000 >>? λ _. again (bit_and sync (against port.family mask)))

-- the tries of `acquire_bits`; held: the bits that the last one found
unfoldable pub acquire_tries : Port → ℕ → ℕ → ℕ → Prog (R (Unit {0}))
acquire_tries port mask zero held = note Lapsed (ret (Err (Semaphore held)))
acquire_tries port mask (suc left) held =
    lock port.family >>? λ _. read (sw_fw_sync port.family) >>= sync_seen port mask (acquire_tries port mask left)

-- a try once the register semaphore is ours
unfoldable pub try_read : Port → ℕ → ℕ → Prog (R (Unit {0}))
try_read port mask left = read (sw_fw_sync port.family) >>= sync_seen port mask (acquire_tries port mask left)

-- a try that found bits held, once the register semaphore is given back
unfoldable pub try_again : Port → ℕ → ℕ → ℕ → Prog (R (Unit {0}))
try_again port mask left held = delay 5000 >>? λ _. acquire_tries port mask left held

unfoldable pub acquire_bits : Port → ℕ → Prog (R (Unit {0}))
acquire_bits port mask = acquire_tries port mask (tries port.family) 0

-- the wait that ends a release, from the X540 on
unfoldable pub settle : Port → ℕ → Prog (R (Unit {0}))
settle port mask = pick (is port.family F82599) (ret (Ok tt)) (delay (release_us mask))

-- SW_FW_SYNC was cleared, or not: the register semaphore goes back either way
unfoldable pub cleared : Port → ℕ → R (Unit {0}) → Prog (R (Unit {0}))
cleared port mask w = unlock port.family >>? λ _. or_err (λ _. settle port mask) w

-- the software bits of SW_FW_SYNC cleared
unfoldable pub clear_bits : Family → ℕ → Change
clear_bits family mask = clear_sync family (bits family mask).sw

unfoldable pub clearing : Port → ℕ → Prog (R (Unit {0}))
clearing port mask = change (clear_bits port.family mask) >>= cleared port mask

unfoldable pub unmuxed : Port → ℕ → Prog (R (Unit {0}))
unmuxed port mask = lock port.family >>? λ _. clearing port mask

unfoldable pub release_bits : Port → ℕ → Prog (R (Unit {0}))
release_bits port mask = muxed port mask false >>? λ _. unmuxed port mask

-- the machines

unfoldable pub access_acquire_stage : Port → ℕ → Stage → Access
access_acquire_stage port mask (Locking t) = access_lock port.family t
access_acquire_stage port mask Reading = Read (sw_fw_sync port.family)
access_acquire_stage port mask (Taking v) = Write (sw_fw_sync port.family) v
access_acquire_stage port mask (Taken t w) = access_unlock port.family t
access_acquire_stage port mask (Muxing t) = access_update (set_mux true) t
access_acquire_stage port mask (Unlocking t held) = access_unlock port.family t
access_acquire_stage port mask (Waiting held) = Wait (micros 5000)

unfoldable pub access_acquire_bits : Port → ℕ → AcquireBits → Access
access_acquire_bits port mask s = access_acquire_stage port mask s.stage

unfoldable pub rest_acquire_stage : Port → ℕ → ℕ → Stage → Answer → Prog (R (Unit {0}))
rest_acquire_stage port mask left (Locking t) a =
    rest_lock port.family t a >>? λ _. try_read port mask left
rest_acquire_stage port mask left Reading a = sync_seen port mask (acquire_tries port mask left) (checked a)
rest_acquire_stage port mask left (Taking v) a = unlock port.family >>? λ _. taken port mask (written a)
rest_acquire_stage port mask left (Taken t w) a = rest_unlock port.family t a >>? λ _. taken port mask (reply w)
rest_acquire_stage port mask left (Muxing t) a = rest_update (set_mux true) t a
rest_acquire_stage port mask left (Unlocking t held) a = rest_unlock port.family t a >>? λ _. try_again port mask left held
rest_acquire_stage port mask left (Waiting held) a = acquire_tries port mask left held

unfoldable pub rest_acquire_bits : Port → ℕ → AcquireBits → Answer → Prog (R (Unit {0}))
rest_acquire_bits port mask s = rest_acquire_stage port mask s.left s.stage

unfoldable pub acquire_bits_next : Port → ℕ → AcquireBitsNext → Prog (R (Unit {0}))
acquire_bits_next port mask (Going s) = ask (access_acquire_bits port mask s) (λ a. erase (rest_acquire_bits port mask s a))
acquire_bits_next port mask (End o) = ret (reply o)

unfoldable pub valid_acquire_stage : Stage → Bool
valid_acquire_stage (Locking t) = valid_lock t
valid_acquire_stage Reading = true
valid_acquire_stage (Taking v) = true
valid_acquire_stage (Taken t w) = true
valid_acquire_stage (Muxing t) = true
valid_acquire_stage (Unlocking t held) = true
valid_acquire_stage (Waiting held) = true

-- the tries left are fewer than the family's
unfoldable pub valid_acquire_bits : Family → AcquireBits → Bool
valid_acquire_bits family s = pick (ltb s.left (tries family)) (valid_acquire_stage s.stage) false

-- what is left keeps within the limits
unfoldable pub valid_acquire_bits_next : Family → AcquireBitsNext → Bool
valid_acquire_bits_next family (Going s) = valid_acquire_bits family s
valid_acquire_bits_next family (End o) = true

unfoldable pub access_release_bits : Port → ℕ → ReleaseBits → Access
access_release_bits port mask (Unmuxing t) = access_update (set_mux false) t
access_release_bits port mask (Relocking t) = access_lock port.family t
access_release_bits port mask (Clearing t) = access_update (clear_bits port.family mask) t
access_release_bits port mask (Releasing t w) = access_unlock port.family t
access_release_bits port mask Settling = Wait (micros (release_us mask))

unfoldable pub rest_release_bits : Port → ℕ → ReleaseBits → Answer → Prog (R (Unit {0}))
rest_release_bits port mask (Unmuxing t) a = rest_update (set_mux false) t a >>? λ _. unmuxed port mask
rest_release_bits port mask (Relocking t) a =
    rest_lock port.family t a >>? λ _. clearing port mask
rest_release_bits port mask (Clearing t) a = rest_update (clear_bits port.family mask) t a >>= cleared port mask
rest_release_bits port mask (Releasing t w) a = rest_unlock port.family t a >>? λ _. or_err (λ _. settle port mask) (reply w)
rest_release_bits port mask Settling a = ret (Ok tt)

unfoldable pub release_bits_next : Port → ℕ → ReleaseBitsNext → Prog (R (Unit {0}))
release_bits_next port mask (Going s) = ask (access_release_bits port mask s) (λ a. erase (rest_release_bits port mask s a))
release_bits_next port mask (End o) = ret (reply o)

unfoldable pub valid_release_bits : ReleaseBits → Bool
valid_release_bits (Unmuxing t) = true
valid_release_bits (Relocking t) = valid_lock t
valid_release_bits (Clearing t) = true
valid_release_bits (Releasing t w) = true
valid_release_bits Settling = true

unfoldable pub valid_release_bits_next : ReleaseBitsNext → Bool
valid_release_bits_next (Going s) = valid_release_bits s
valid_release_bits_next (End o) = true
