-- States of `sync` as numbers, and back; back again nothing is lost. Written by `derive`.
use Rattle.std.specs.Prelude.{◌≡◌, refl, eqb}
use Rattle.flat.specs.Pick.{pick}
use Rattle.sync.specs.declared.swesmbi.Swesmbi.{Swesmbi}
use Rattle.sync.specs.declared.swesmbi.Swesmbi.TheVariants.{Setting as SwesmbiSetting, Checking as SwesmbiChecking, Waiting as SwesmbiWaiting}
use Rattle.flat.specs.declared.of_sync.SwesmbiFlat.{SwesmbiFlat}
use Rattle.sync.specs.declared.lock.Lock.{Lock}
use Rattle.sync.specs.declared.lock.Lock.TheVariants.{Smbi as LockSmbi, Second as LockSecond, Regsmp as LockRegsmp, Back as LockBack}
use Rattle.flat.specs.declared.of_sync.LockFlat.{LockFlat}
use Rattle.sync.specs.declared.unlock.Unlock.{Unlock}
use Rattle.sync.specs.declared.unlock.Unlock.TheVariants.{Sync as UnlockSync, Swsm as UnlockSwsm}
use Rattle.flat.specs.declared.of_sync.UnlockFlat.{UnlockFlat}
use Rattle.sync.specs.declared.acquire_bits.Stage.{Stage}
use Rattle.sync.specs.declared.acquire_bits.Stage.TheVariants.{Locking as StageLocking, Reading as StageReading, Taking as StageTaking, Taken as StageTaken, Muxing as StageMuxing, Unlocking as StageUnlocking, Waiting as StageWaiting}
use Rattle.flat.specs.declared.of_sync.StageFlat.{StageFlat}
use Rattle.sync.specs.declared.acquire_bits.AcquireBits.{AcquireBits}
use Rattle.flat.specs.declared.of_sync.AcquireBitsFlat.{AcquireBitsFlat}
use Rattle.sync.specs.declared.release_bits.ReleaseBits.{ReleaseBits}
use Rattle.sync.specs.declared.release_bits.ReleaseBits.TheVariants.{Muxing as ReleaseBitsMuxing, Locking as ReleaseBitsLocking, Clearing as ReleaseBitsClearing, Unlocking as ReleaseBitsUnlocking, Waiting as ReleaseBitsWaiting}
use Rattle.flat.specs.declared.of_sync.ReleaseBitsFlat.{ReleaseBitsFlat}
use Rattle.flat.specs.Hardware.{flat_outcome, the_outcome, back_outcome}
use Rattle.flat.specs.Hardware.{flat_update, the_update, back_update}
use Rattle.flat.specs.Hardware.{flat_poll, the_poll, back_poll}

unfoldable pub flat_swesmbi : Swesmbi → SwesmbiFlat
flat_swesmbi (SwesmbiSetting x0 x1) = record { tag = 0; b1 = (flat_update x1).tag; w0 = (flat_update x1).w0; w1 = x0 }
flat_swesmbi (SwesmbiChecking x0) = record { tag = 1; b1 = 0; w0 = x0; w1 = 0 }
flat_swesmbi (SwesmbiWaiting x0) = record { tag = 2; b1 = 0; w0 = x0; w1 = 0 }

unfoldable pub the_swesmbi : SwesmbiFlat → Swesmbi
the_swesmbi b =
    pick (eqb b.tag 0) (SwesmbiSetting b.w1 (the_update (record { tag = b.b1; w0 = b.w0 })))
    (pick (eqb b.tag 1) (SwesmbiChecking b.w0)
    (SwesmbiWaiting b.w0))

pub back_swesmbi : (s : Swesmbi) → the_swesmbi (flat_swesmbi s) ≡ s
unfolding flat_swesmbi the_swesmbi
back_swesmbi (SwesmbiSetting x0 x1) = λ i. SwesmbiSetting x0 (back_update x1 i)
back_swesmbi (SwesmbiChecking x0) = refl
back_swesmbi (SwesmbiWaiting x0) = refl

unfoldable pub flat_lock : Lock → LockFlat
flat_lock (LockSmbi x0) = record { tag = 0; b1 = (flat_poll x0).tag; b2 = 0; w0 = (flat_poll x0).w0; w1 = (flat_poll x0).w1 }
flat_lock (LockSecond x0) = record { tag = 1; b1 = (flat_swesmbi x0).tag; b2 = (flat_swesmbi x0).b1; w0 = (flat_swesmbi x0).w0; w1 = (flat_swesmbi x0).w1 }
flat_lock (LockRegsmp x0) = record { tag = 2; b1 = (flat_poll x0).tag; b2 = 0; w0 = (flat_poll x0).w0; w1 = (flat_poll x0).w1 }
flat_lock (LockBack x0 x1) = record { tag = 3; b1 = (flat_update x1).tag; b2 = 0; w0 = (flat_update x1).w0; w1 = x0 }

unfoldable pub the_lock : LockFlat → Lock
the_lock b =
    pick (eqb b.tag 0) (LockSmbi (the_poll (record { tag = b.b1; w0 = b.w0; w1 = b.w1 })))
    (pick (eqb b.tag 1) (LockSecond (the_swesmbi (record { tag = b.b1; b1 = b.b2; w0 = b.w0; w1 = b.w1 })))
    (pick (eqb b.tag 2) (LockRegsmp (the_poll (record { tag = b.b1; w0 = b.w0; w1 = b.w1 })))
    (LockBack b.w1 (the_update (record { tag = b.b1; w0 = b.w0 })))))

pub back_lock : (s : Lock) → the_lock (flat_lock s) ≡ s
unfolding flat_lock the_lock
back_lock (LockSmbi x0) = λ i. LockSmbi (back_poll x0 i)
back_lock (LockSecond x0) = λ i. LockSecond (back_swesmbi x0 i)
back_lock (LockRegsmp x0) = λ i. LockRegsmp (back_poll x0 i)
back_lock (LockBack x0 x1) = λ i. LockBack x0 (back_update x1 i)

unfoldable pub flat_unlock : Unlock → UnlockFlat
flat_unlock (UnlockSync x0) = record { tag = 0; b1 = (flat_update x0).tag; w0 = (flat_update x0).w0 }
flat_unlock (UnlockSwsm x0) = record { tag = 1; b1 = (flat_update x0).tag; w0 = (flat_update x0).w0 }

unfoldable pub the_unlock : UnlockFlat → Unlock
the_unlock b =
    pick (eqb b.tag 0) (UnlockSync (the_update (record { tag = b.b1; w0 = b.w0 })))
    (UnlockSwsm (the_update (record { tag = b.b1; w0 = b.w0 })))

pub back_unlock : (s : Unlock) → the_unlock (flat_unlock s) ≡ s
unfolding flat_unlock the_unlock
back_unlock (UnlockSync x0) = λ i. UnlockSync (back_update x0 i)
back_unlock (UnlockSwsm x0) = λ i. UnlockSwsm (back_update x0 i)

unfoldable pub flat_stage : Stage → StageFlat
flat_stage (StageLocking x0) = record { tag = 0; b1 = (flat_lock x0).tag; b2 = (flat_lock x0).b1; b3 = (flat_lock x0).b2; b4 = 0; b5 = 0; b6 = 0; w0 = (flat_lock x0).w0; w1 = (flat_lock x0).w1 }
flat_stage StageReading = record { tag = 1; b1 = 0; b2 = 0; b3 = 0; b4 = 0; b5 = 0; b6 = 0; w0 = 0; w1 = 0 }
flat_stage (StageTaking x0) = record { tag = 2; b1 = 0; b2 = 0; b3 = 0; b4 = 0; b5 = 0; b6 = 0; w0 = x0; w1 = 0 }
flat_stage (StageTaken x0 x1) = record { tag = 3; b1 = (flat_outcome x1).tag; b2 = (flat_outcome x1).b1; b3 = (flat_outcome x1).b2; b4 = (flat_outcome x1).b3; b5 = (flat_unlock x0).tag; b6 = (flat_unlock x0).b1; w0 = (flat_outcome x1).w0; w1 = (flat_unlock x0).w0 }
flat_stage (StageMuxing x0) = record { tag = 4; b1 = (flat_update x0).tag; b2 = 0; b3 = 0; b4 = 0; b5 = 0; b6 = 0; w0 = (flat_update x0).w0; w1 = 0 }
flat_stage (StageUnlocking x0 x1) = record { tag = 5; b1 = (flat_unlock x0).tag; b2 = (flat_unlock x0).b1; b3 = 0; b4 = 0; b5 = 0; b6 = 0; w0 = (flat_unlock x0).w0; w1 = x1 }
flat_stage (StageWaiting x0) = record { tag = 6; b1 = 0; b2 = 0; b3 = 0; b4 = 0; b5 = 0; b6 = 0; w0 = x0; w1 = 0 }

unfoldable pub the_stage : StageFlat → Stage
the_stage b =
    pick (eqb b.tag 0) (StageLocking (the_lock (record { tag = b.b1; b1 = b.b2; b2 = b.b3; w0 = b.w0; w1 = b.w1 })))
    (pick (eqb b.tag 1) (StageReading)
    (pick (eqb b.tag 2) (StageTaking b.w0)
    (pick (eqb b.tag 3) (StageTaken (the_unlock (record { tag = b.b5; b1 = b.b6; w0 = b.w1 })) (the_outcome (record { tag = b.b1; b1 = b.b2; b2 = b.b3; b3 = b.b4; w0 = b.w0 })))
    (pick (eqb b.tag 4) (StageMuxing (the_update (record { tag = b.b1; w0 = b.w0 })))
    (pick (eqb b.tag 5) (StageUnlocking (the_unlock (record { tag = b.b1; b1 = b.b2; w0 = b.w0 })) b.w1)
    (StageWaiting b.w0))))))

pub back_stage : (s : Stage) → the_stage (flat_stage s) ≡ s
unfolding flat_stage the_stage
back_stage (StageLocking x0) = λ i. StageLocking (back_lock x0 i)
back_stage StageReading = refl
back_stage (StageTaking x0) = refl
back_stage (StageTaken x0 x1) = λ i. StageTaken (back_unlock x0 i) (back_outcome x1 i)
back_stage (StageMuxing x0) = λ i. StageMuxing (back_update x0 i)
back_stage (StageUnlocking x0 x1) = λ i. StageUnlocking (back_unlock x0 i) x1
back_stage (StageWaiting x0) = refl

unfoldable pub flat_acquire_bits : AcquireBits → AcquireBitsFlat
flat_acquire_bits s = record { b0 = (flat_stage s.stage).tag; b1 = (flat_stage s.stage).b1; b2 = (flat_stage s.stage).b2; b3 = (flat_stage s.stage).b3; b4 = (flat_stage s.stage).b4; b5 = (flat_stage s.stage).b5; b6 = (flat_stage s.stage).b6; w0 = (flat_stage s.stage).w0; w1 = (flat_stage s.stage).w1; w2 = s.left }

unfoldable pub the_acquire_bits : AcquireBitsFlat → AcquireBits
the_acquire_bits b = record { left = b.w2; stage = the_stage (record { tag = b.b0; b1 = b.b1; b2 = b.b2; b3 = b.b3; b4 = b.b4; b5 = b.b5; b6 = b.b6; w0 = b.w0; w1 = b.w1 }) }

pub back_acquire_bits : (s : AcquireBits) → the_acquire_bits (flat_acquire_bits s) ≡ s
unfolding flat_acquire_bits the_acquire_bits
back_acquire_bits s = λ i. record { left = s.left; stage = back_stage s.stage i }

unfoldable pub flat_release_bits : ReleaseBits → ReleaseBitsFlat
flat_release_bits (ReleaseBitsMuxing x0) = record { tag = 0; b1 = (flat_update x0).tag; b2 = 0; b3 = 0; b4 = 0; b5 = 0; b6 = 0; w0 = (flat_update x0).w0; w1 = 0 }
flat_release_bits (ReleaseBitsLocking x0) = record { tag = 1; b1 = (flat_lock x0).tag; b2 = (flat_lock x0).b1; b3 = (flat_lock x0).b2; b4 = 0; b5 = 0; b6 = 0; w0 = (flat_lock x0).w0; w1 = (flat_lock x0).w1 }
flat_release_bits (ReleaseBitsClearing x0) = record { tag = 2; b1 = (flat_update x0).tag; b2 = 0; b3 = 0; b4 = 0; b5 = 0; b6 = 0; w0 = (flat_update x0).w0; w1 = 0 }
flat_release_bits (ReleaseBitsUnlocking x0 x1) = record { tag = 3; b1 = (flat_outcome x1).tag; b2 = (flat_outcome x1).b1; b3 = (flat_outcome x1).b2; b4 = (flat_outcome x1).b3; b5 = (flat_unlock x0).tag; b6 = (flat_unlock x0).b1; w0 = (flat_outcome x1).w0; w1 = (flat_unlock x0).w0 }
flat_release_bits ReleaseBitsWaiting = record { tag = 4; b1 = 0; b2 = 0; b3 = 0; b4 = 0; b5 = 0; b6 = 0; w0 = 0; w1 = 0 }

unfoldable pub the_release_bits : ReleaseBitsFlat → ReleaseBits
the_release_bits b =
    pick (eqb b.tag 0) (ReleaseBitsMuxing (the_update (record { tag = b.b1; w0 = b.w0 })))
    (pick (eqb b.tag 1) (ReleaseBitsLocking (the_lock (record { tag = b.b1; b1 = b.b2; b2 = b.b3; w0 = b.w0; w1 = b.w1 })))
    (pick (eqb b.tag 2) (ReleaseBitsClearing (the_update (record { tag = b.b1; w0 = b.w0 })))
    (pick (eqb b.tag 3) (ReleaseBitsUnlocking (the_unlock (record { tag = b.b5; b1 = b.b6; w0 = b.w1 })) (the_outcome (record { tag = b.b1; b1 = b.b2; b2 = b.b3; b3 = b.b4; w0 = b.w0 })))
    (ReleaseBitsWaiting))))

pub back_release_bits : (s : ReleaseBits) → the_release_bits (flat_release_bits s) ≡ s
unfolding flat_release_bits the_release_bits
back_release_bits (ReleaseBitsMuxing x0) = λ i. ReleaseBitsMuxing (back_update x0 i)
back_release_bits (ReleaseBitsLocking x0) = λ i. ReleaseBitsLocking (back_lock x0 i)
back_release_bits (ReleaseBitsClearing x0) = λ i. ReleaseBitsClearing (back_update x0 i)
back_release_bits (ReleaseBitsUnlocking x0 x1) = λ i. ReleaseBitsUnlocking (back_unlock x0 i) (back_outcome x1 i)
back_release_bits ReleaseBitsWaiting = refl
