-- How many answers of the awaited kinds bring the calls on the semaphores to their end.
use Prim.Native.Nat.{ℕ, ◌+◌, ◌*◌, ◌≤◌, suc, zero}
use mathlib.Core.Path.{refl}
use mathlib.Core.Bool.{Bool, true, false}
use native.Mathlib.Omega.{arith}
use Rattle.hardware.specs.declared.Family.{Family}
use Rattle.hardware.specs.declared.Port.{Port}
use Rattle.hardware.specs.Prog.{Prog, R, Ok, Err}
use Rattle.hardware.specs.Runs.{Ends}
use Rattle.hardware.proofs.Ends.{ends_more, ends_bind, ends_or, ends_try, ends_pick, ret_ends, note_ends, ask_ends, read_ends, write_ends, delay_ends, change_ends, unflushed_ends, poll_ends, update_after, poll_after, update_rest_ends, poll_rest_ends}
use Rattle.sync.specs.Regs.{TRIES, tries, clear_sync}
use Rattle.sync.specs.Lock.{swesmbi, swesmbi_seen, lapsed, swesmbi_done, regsmp_done, second, smbi_done, lock, unlock, swesmbi_check, rest_swesmbi, rest_lock, rest_unlock}
use Rattle.sync.specs.Resource.{muxed, taken, free, sync_seen, acquire_tries, acquire_bits, settle, cleared, clear_bits, clearing, unmuxed, release_bits, try_read, try_again, rest_acquire_stage, rest_acquire_bits, rest_release_bits}
use Rattle.hardware.specs.declared.Answer.{Answer}
use Rattle.sync.specs.declared.swesmbi.Swesmbi.{Swesmbi}
use Rattle.sync.specs.declared.swesmbi.Swesmbi.TheVariants.{Setting, Checking, Waiting}
use Rattle.sync.specs.declared.lock.Lock.{Lock}
use Rattle.sync.specs.declared.lock.Lock.TheVariants.{Smbi, Second, Regsmp, Back}
use Rattle.sync.specs.declared.unlock.Unlock.{Unlock}
use Rattle.sync.specs.declared.unlock.Unlock.TheVariants.{Sync, Swsm}
use Rattle.sync.specs.declared.acquire_bits.AcquireBits.{AcquireBits}
use Rattle.sync.specs.declared.acquire_bits.Stage.{Stage}
use Rattle.sync.specs.declared.acquire_bits.Stage.TheVariants.{Locking, Reading, Taking, Taken, Muxing, Unlocking, Waiting as Pausing}
use Rattle.sync.specs.declared.release_bits.ReleaseBits.{ReleaseBits}
use Rattle.sync.specs.declared.release_bits.ReleaseBits.TheVariants.{Muxing as Unmuxing, Locking as Relocking, Clearing, Unlocking as Releasing, Waiting as Settling}

-- a read and a wait for each try of SMBI; a read, a write, a read and a wait for each try of SWESMBI (REGSMP takes
-- fewer); a read, a write and a flush to give back
abbrev pub LOCK_STEPS : ℕ
LOCK_STEPS = 2 * TRIES + (4 * TRIES + 3)

-- REGSMP, then SWSM with a flush
abbrev pub UNLOCK_STEPS : ℕ
UNLOCK_STEPS = 2 + 3

-- a try that finds bits held: the register semaphore, a read, the semaphore back, a wait
abbrev pub TRY_STEPS : ℕ
TRY_STEPS = LOCK_STEPS + (1 + (UNLOCK_STEPS + 1))

-- the tries, and the mux behind the last
abbrev pub ACQUIRE_BITS_STEPS : ℕ → ℕ
ACQUIRE_BITS_STEPS tries = tries * TRY_STEPS + 3

-- the mux, the register semaphore, the bits cleared, the semaphore back, a wait
abbrev pub RELEASE_BITS_STEPS : ℕ
RELEASE_BITS_STEPS = 3 + (LOCK_STEPS + (2 + (UNLOCK_STEPS + 1)))

pub swesmbi_ends : (n : ℕ) → Ends (swesmbi n) (4 * n)
unfolding swesmbi swesmbi_seen
swesmbi_ends zero = ret_ends _ 0
swesmbi_ends (suc n) =
    ends_more _ (2 + (1 + (1 + 4 * n))) (4 * suc n)
    (ends_try _ _ 2 (1 + (1 + 4 * n)) (unflushed_ends _ refl)
    (λ _. ends_try _ _ 1 (1 + 4 * n) (read_ends _)
    (λ v. ends_pick _ _ _ (1 + 4 * n) (ends_more _ (suc (4 * n)) (1 + 4 * n) (ask_ends _ _ (4 * n) (λ _. swesmbi_ends n)) (omega arith)) (ret_ends _ _))))
    (omega arith)

lapsed_ends : (f : Family) (held : ℕ) → Ends (lapsed f held) 3
unfolding lapsed
lapsed_ends f held = note_ends _ _ 3 (ends_try _ _ 3 0 (change_ends _) (λ _. ret_ends _ 0))

second_ends : (f : Family) → Ends (second f) (4 * TRIES + 3)
unfolding second swesmbi_done regsmp_done
second_ends f =
    ends_pick _ _ _ (4 * TRIES + 3)
    (ends_try _ _ (4 * TRIES) 3 (swesmbi_ends TRIES) (λ got. ends_pick _ _ _ 3 (ret_ends _ 3) (lapsed_ends f _)))
    (ends_more _ (2 * TRIES + 3) (4 * TRIES + 3)
    (ends_try _ _ (2 * TRIES) 3 (poll_ends _ TRIES 0) (λ v. ends_pick _ _ _ 3 (ret_ends _ 3) (lapsed_ends f _)))
    (omega arith))

pub lock_ends : (f : Family) → Ends (lock f) LOCK_STEPS
unfolding lock smbi_done
lock_ends f =
    ends_try _ _ (2 * TRIES) (4 * TRIES + 3) (poll_ends _ TRIES 0)
    (λ v. ends_pick _ _ _ (4 * TRIES + 3) (second_ends f) (note_ends _ _ _ (ret_ends _ (4 * TRIES + 3))))

pub unlock_ends : (f : Family) → Ends (unlock f) UNLOCK_STEPS
unfolding unlock clear_sync
unlock_ends f =
    ends_pick _ _ _ UNLOCK_STEPS (ends_more _ 3 UNLOCK_STEPS (change_ends _) (omega arith))
    (ends_try _ _ 2 3 (unflushed_ends _ refl) (λ _. change_ends _))

muxed_ends : (port : Port) (mask : ℕ) (on : Bool) → Ends (muxed port mask on) 3
unfolding muxed
muxed_ends port mask on = ends_pick _ _ _ 3 (change_ends _) (ret_ends _ 3)

free_ends : (port : Port) (mask sync : ℕ) → Ends (free port mask sync) (1 + (UNLOCK_STEPS + 3))
unfolding free taken
free_ends port mask sync =
    ends_bind _ _ 1 (UNLOCK_STEPS + 3) (write_ends _ _)
    (λ w. ends_try _ _ UNLOCK_STEPS 3 (unlock_ends port.family) (λ _. ends_or _ w 3 (λ _. muxed_ends port mask true)))

-- m: the answers for the next try
seen_ends : (port : Port) (mask : ℕ) (again : ℕ → Prog (R (Unit {0}))) (m : ℕ) → 3 ≤ m → ((held : ℕ) → Ends (again held) m) → (r : R ℕ)
    → Ends (sync_seen port mask again r) (UNLOCK_STEPS + (1 + m))
unfolding sync_seen
seen_ends port mask again m h d (Err e) = ends_try _ _ UNLOCK_STEPS (1 + m) (unlock_ends port.family) (λ _. ret_ends _ _)
seen_ends port mask again m h d (Ok sync) =
    ends_pick _ _ _ (UNLOCK_STEPS + (1 + m))
    (ends_more _ (1 + (UNLOCK_STEPS + 3)) (UNLOCK_STEPS + (1 + m)) (free_ends port mask sync) (omega arith))
    (ends_try _ _ UNLOCK_STEPS (1 + m) (unlock_ends port.family) (λ _. ends_try _ _ 1 m (delay_ends _) (λ _. d _)))

pub acquire_tries_ends : (port : Port) (mask n held : ℕ) → Ends (acquire_tries port mask n held) (ACQUIRE_BITS_STEPS n)
unfolding acquire_tries
acquire_tries_ends port mask zero held = note_ends _ _ _ (ret_ends _ _)
acquire_tries_ends port mask (suc n) held =
    ends_more _ (LOCK_STEPS + (1 + (UNLOCK_STEPS + (1 + ACQUIRE_BITS_STEPS n)))) (ACQUIRE_BITS_STEPS (suc n))
    (ends_try _ _ LOCK_STEPS (1 + (UNLOCK_STEPS + (1 + ACQUIRE_BITS_STEPS n))) (lock_ends port.family)
    (λ _. ends_bind _ _ 1 (UNLOCK_STEPS + (1 + ACQUIRE_BITS_STEPS n)) (read_ends _)
    (λ r. seen_ends port mask _ (ACQUIRE_BITS_STEPS n) (omega arith) (acquire_tries_ends port mask n) r)))
    (omega arith)

pub acquire_bits_ends : (port : Port) (mask : ℕ) → Ends (acquire_bits port mask) (ACQUIRE_BITS_STEPS (tries port.family))
unfolding acquire_bits
acquire_bits_ends port mask = acquire_tries_ends port mask (tries port.family) 0

settle_ends : (port : Port) (mask : ℕ) → Ends (settle port mask) 1
unfolding settle
settle_ends port mask = ends_pick _ _ _ 1 (ret_ends _ 1) (delay_ends _)

cleared_ends : (port : Port) (mask : ℕ) (w : R (Unit {0})) → Ends (cleared port mask w) (UNLOCK_STEPS + 1)
unfolding cleared
cleared_ends port mask w =
    ends_try _ _ UNLOCK_STEPS 1 (unlock_ends port.family) (λ _. ends_or _ w 1 (λ _. settle_ends port mask))

pub release_bits_ends : (port : Port) (mask : ℕ) → Ends (release_bits port mask) RELEASE_BITS_STEPS
unfolding release_bits unmuxed clearing clear_bits clear_sync
release_bits_ends port mask =
    ends_try _ _ 3 (LOCK_STEPS + (2 + (UNLOCK_STEPS + 1))) (muxed_ends port mask false)
    (λ _. ends_try _ _ LOCK_STEPS (2 + (UNLOCK_STEPS + 1)) (lock_ends port.family)
    (λ _. ends_bind _ _ 2 (UNLOCK_STEPS + 1) (unflushed_ends _ refl) (λ w. cleared_ends port mask w)))

-- the answers that each machine may still need after the one it awaits
abbrev pub swesmbi_after : Swesmbi → ℕ
swesmbi_after (Setting left t) = update_after t + (2 + 4 * left)
swesmbi_after (Checking left) = 1 + 4 * left
swesmbi_after (Waiting left) = 4 * left

abbrev pub lock_after : Lock → ℕ
lock_after (Smbi t) = poll_after t + (4 * TRIES + 3)
lock_after (Second t) = swesmbi_after t + 3
lock_after (Regsmp t) = poll_after t + 3
lock_after (Back held t) = update_after t

abbrev pub unlock_after : Unlock → ℕ
unlock_after (Sync t) = update_after t + 3
unlock_after (Swsm t) = update_after t

-- left: the tries after this one
abbrev pub acquire_stage_after : ℕ → Stage → ℕ
acquire_stage_after left (Locking t) = lock_after t + (1 + (UNLOCK_STEPS + (1 + ACQUIRE_BITS_STEPS left)))
acquire_stage_after left Reading = UNLOCK_STEPS + (1 + ACQUIRE_BITS_STEPS left)
acquire_stage_after left (Taking v) = UNLOCK_STEPS + 3
acquire_stage_after left (Taken t w) = unlock_after t + 3
acquire_stage_after left (Muxing t) = update_after t
acquire_stage_after left (Unlocking t held) = unlock_after t + (1 + ACQUIRE_BITS_STEPS left)
acquire_stage_after left (Pausing held) = ACQUIRE_BITS_STEPS left

abbrev pub acquire_bits_after : AcquireBits → ℕ
acquire_bits_after s = acquire_stage_after s.left s.stage

abbrev pub release_bits_after : ReleaseBits → ℕ
release_bits_after (Unmuxing t) = update_after t + (LOCK_STEPS + (2 + (UNLOCK_STEPS + 1)))
release_bits_after (Relocking t) = lock_after t + (2 + (UNLOCK_STEPS + 1))
release_bits_after (Clearing t) = update_after t + (UNLOCK_STEPS + 1)
release_bits_after (Releasing t w) = unlock_after t + 1
release_bits_after Settling = 0

swesmbi_seen_ends : (left v : ℕ) → Ends (swesmbi_seen (λ _. swesmbi left) v) (1 + 4 * left)
unfolding swesmbi_seen
swesmbi_seen_ends left v =
    ends_pick _ _ _ (1 + 4 * left) (ends_more _ (suc (4 * left)) (1 + 4 * left) (ask_ends _ _ (4 * left) (λ _. swesmbi_ends left)) (omega arith)) (ret_ends _ _)

swesmbi_check_ends : (left : ℕ) → Ends (swesmbi_check left) (2 + 4 * left)
unfolding swesmbi_check
swesmbi_check_ends left =
    ends_more _ (1 + (1 + 4 * left)) (2 + 4 * left) (ends_try _ _ 1 (1 + 4 * left) (read_ends _) (swesmbi_seen_ends left)) (omega arith)

swesmbi_rest_ends : (t : Swesmbi) (a : Answer) → Ends (rest_swesmbi t a) (swesmbi_after t)
unfolding rest_swesmbi
swesmbi_rest_ends (Setting left t) a = ends_try _ _ (update_after t) (2 + 4 * left) (update_rest_ends _ t a) (λ _. swesmbi_check_ends left)
swesmbi_rest_ends (Checking left) a = ends_or _ _ (1 + 4 * left) (swesmbi_seen_ends left)
swesmbi_rest_ends (Waiting left) a = swesmbi_ends left

pub lock_rest_ends : (f : Family) (t : Lock) (a : Answer) → Ends (rest_lock f t a) (lock_after t)
unfolding rest_lock smbi_done swesmbi_done regsmp_done
lock_rest_ends f (Smbi t) a =
    ends_try _ _ (poll_after t) (4 * TRIES + 3) (poll_rest_ends _ t a) (λ v. ends_pick _ _ _ (4 * TRIES + 3) (second_ends f) (note_ends _ _ _ (ret_ends _ (4 * TRIES + 3))))
lock_rest_ends f (Second t) a = ends_try _ _ (swesmbi_after t) 3 (swesmbi_rest_ends t a) (λ got. ends_pick _ _ _ 3 (ret_ends _ 3) (lapsed_ends f _))
lock_rest_ends f (Regsmp t) a = ends_try _ _ (poll_after t) 3 (poll_rest_ends _ t a) (λ v. ends_pick _ _ _ 3 (ret_ends _ 3) (lapsed_ends f _))
lock_rest_ends f (Back held t) a =
    ends_more _ (update_after t + 0) (update_after t) (ends_try _ _ (update_after t) 0 (update_rest_ends _ t a) (λ _. ret_ends _ 0)) (omega arith)

pub unlock_rest_ends : (f : Family) (t : Unlock) (a : Answer) → Ends (rest_unlock f t a) (unlock_after t)
unfolding rest_unlock
unlock_rest_ends f (Sync t) a = ends_try _ _ (update_after t) 3 (update_rest_ends _ t a) (λ _. change_ends _)
unlock_rest_ends f (Swsm t) a = update_rest_ends _ t a

pub acquire_bits_rest_ends : (port : Port) (mask : ℕ) (s : AcquireBits) (a : Answer) → Ends (rest_acquire_bits port mask s a) (acquire_bits_after s)
unfolding rest_acquire_bits rest_acquire_stage try_read try_again taken
acquire_bits_rest_ends port mask s a = by s.left s.stage
  where
    by : (left : ℕ) (t : Stage) → Ends (rest_acquire_stage port mask left t a) (acquire_stage_after left t)
    by left (Locking t) =
        ends_try _ _ (lock_after t) (1 + (UNLOCK_STEPS + (1 + ACQUIRE_BITS_STEPS left))) (lock_rest_ends port.family t a)
        (λ _. ends_bind _ _ 1 (UNLOCK_STEPS + (1 + ACQUIRE_BITS_STEPS left)) (read_ends _)
        (λ r. seen_ends port mask _ (ACQUIRE_BITS_STEPS left) (omega arith) (acquire_tries_ends port mask left) r))
    by left Reading = seen_ends port mask _ (ACQUIRE_BITS_STEPS left) (omega arith) (acquire_tries_ends port mask left) _
    by left (Taking v) = ends_try _ _ UNLOCK_STEPS 3 (unlock_ends port.family) (λ _. ends_or _ _ 3 (λ _. muxed_ends port mask true))
    by left (Taken t w) = ends_try _ _ (unlock_after t) 3 (unlock_rest_ends port.family t a) (λ _. ends_or _ _ 3 (λ _. muxed_ends port mask true))
    by left (Muxing t) = update_rest_ends _ t a
    by left (Unlocking t held) =
        ends_try _ _ (unlock_after t) (1 + ACQUIRE_BITS_STEPS left) (unlock_rest_ends port.family t a)
        (λ _. ends_try _ _ 1 (ACQUIRE_BITS_STEPS left) (delay_ends _) (λ _. acquire_tries_ends port mask left held))
    by left (Pausing held) = acquire_tries_ends port mask left held

pub release_bits_rest_ends : (port : Port) (mask : ℕ) (s : ReleaseBits) (a : Answer) → Ends (rest_release_bits port mask s a) (release_bits_after s)
unfolding rest_release_bits unmuxed clearing clear_bits clear_sync
release_bits_rest_ends port mask (Unmuxing t) a =
    ends_try _ _ (update_after t) (LOCK_STEPS + (2 + (UNLOCK_STEPS + 1))) (update_rest_ends _ t a)
    (λ _. ends_try _ _ LOCK_STEPS (2 + (UNLOCK_STEPS + 1)) (lock_ends port.family)
    (λ _. ends_bind _ _ 2 (UNLOCK_STEPS + 1) (unflushed_ends _ refl) (λ w. cleared_ends port mask w)))
release_bits_rest_ends port mask (Relocking t) a =
    ends_try _ _ (lock_after t) (2 + (UNLOCK_STEPS + 1)) (lock_rest_ends port.family t a)
    (λ _. ends_bind _ _ 2 (UNLOCK_STEPS + 1) (unflushed_ends _ refl) (λ w. cleared_ends port mask w))
release_bits_rest_ends port mask (Clearing t) a = ends_bind _ _ (update_after t) (UNLOCK_STEPS + 1) (update_rest_ends _ t a) (λ w. cleared_ends port mask w)
release_bits_rest_ends port mask (Releasing t w) a =
    ends_try _ _ (unlock_after t) 1 (unlock_rest_ends port.family t a) (λ _. ends_or _ _ 1 (λ _. settle_ends port mask))
release_bits_rest_ends port mask Settling a = ret_ends _ 0
