-- States of `acquire` as numbers, and back; back again nothing is lost. Written by `derive`.
use Rattle.std.specs.Prelude.{◌≡◌, refl, eqb, Some, None}
use Rattle.flat.specs.Pick.{pick, bit, set, back_bit}
use Rattle.acquire.specs.declared.acquire.Stage.{Stage}
use Rattle.acquire.specs.declared.acquire.Stage.TheVariants.{Bits as StageBits, Token as StageToken, Releasing as StageReleasing, Waiting as StageWaiting}
use Rattle.flat.specs.declared.of_acquire.StageFlat.{StageFlat}
use Rattle.acquire.specs.declared.acquire.Acquire.{Acquire}
use Rattle.flat.specs.declared.of_acquire.AcquireFlat.{AcquireFlat}
use Rattle.acquire.specs.Aliases.{AcquireCall}
use Rattle.flat.specs.declared.State.{State}
use Rattle.acquire.specs.declared.release.Release.{Release}
use Rattle.acquire.specs.declared.release.Release.TheVariants.{Token as ReleaseToken, Bits as ReleaseBits}
use Rattle.flat.specs.declared.of_acquire.ReleaseFlat.{ReleaseFlat}
use Rattle.acquire.specs.Aliases.{ReleaseCall}
use Rattle.flat.specs.Hardware.{flat_outcome, the_outcome, back_outcome}
use Rattle.flat.specs.Hardware.{flat_flag, the_flag, back_flag}
use Rattle.flat.specs.Hardware.{flat_port, the_port, back_port}
use Rattle.flat.specs.Hostif.{flat_token, the_token, back_token}
use Rattle.flat.specs.Sync.{flat_acquire_bits, the_acquire_bits, back_acquire_bits}
use Rattle.flat.specs.Sync.{flat_release_bits, the_release_bits, back_release_bits}

unfoldable pub flat_stage : Stage → StageFlat
flat_stage (StageBits x0 x1) = record { tag = 0; b1 = (flat_acquire_bits x0).b0; b2 = (flat_acquire_bits x0).b1; b3 = (flat_acquire_bits x0).b2; b4 = (flat_acquire_bits x0).b3; b5 = (flat_acquire_bits x0).b4; b6 = (flat_acquire_bits x0).b5; b7 = (flat_acquire_bits x0).b6; b8 = bit x1; b9 = 0; b10 = 0; b11 = 0; b12 = 0; w0 = (flat_acquire_bits x0).w0; w1 = (flat_acquire_bits x0).w1; w2 = (flat_acquire_bits x0).w2; w3 = 0; w4 = 0 }
flat_stage (StageToken x0) = record { tag = 1; b1 = (flat_token x0).b0; b2 = (flat_token x0).b1; b3 = (flat_token x0).b2; b4 = (flat_token x0).b3; b5 = (flat_token x0).b4; b6 = (flat_token x0).b5; b7 = (flat_token x0).b6; b8 = (flat_token x0).b7; b9 = (flat_token x0).b8; b10 = (flat_token x0).b9; b11 = (flat_token x0).b10; b12 = (flat_token x0).b11; w0 = (flat_token x0).w0; w1 = (flat_token x0).w1; w2 = (flat_token x0).w2; w3 = (flat_token x0).w3; w4 = (flat_token x0).w4 }
flat_stage (StageReleasing x0 x1) = record { tag = 2; b1 = (flat_release_bits x0).tag; b2 = (flat_release_bits x0).b1; b3 = (flat_release_bits x0).b2; b4 = (flat_release_bits x0).b3; b5 = (flat_release_bits x0).b4; b6 = (flat_release_bits x0).b5; b7 = (flat_release_bits x0).b6; b8 = (flat_flag x1).tag; b9 = (flat_flag x1).b1; b10 = (flat_flag x1).b2; b11 = (flat_flag x1).b3; b12 = 0; w0 = (flat_release_bits x0).w0; w1 = (flat_release_bits x0).w1; w2 = (flat_flag x1).w0; w3 = 0; w4 = 0 }
flat_stage StageWaiting = record { tag = 3; b1 = 0; b2 = 0; b3 = 0; b4 = 0; b5 = 0; b6 = 0; b7 = 0; b8 = 0; b9 = 0; b10 = 0; b11 = 0; b12 = 0; w0 = 0; w1 = 0; w2 = 0; w3 = 0; w4 = 0 }

unfoldable pub the_stage : StageFlat → Stage
the_stage b =
    pick (eqb b.tag 0) (StageBits (the_acquire_bits (record { b0 = b.b1; b1 = b.b2; b2 = b.b3; b3 = b.b4; b4 = b.b5; b5 = b.b6; b6 = b.b7; w0 = b.w0; w1 = b.w1; w2 = b.w2 })) (set b.b8))
    (pick (eqb b.tag 1) (StageToken (the_token (record { b0 = b.b1; b1 = b.b2; b2 = b.b3; b3 = b.b4; b4 = b.b5; b5 = b.b6; b6 = b.b7; b7 = b.b8; b8 = b.b9; b9 = b.b10; b10 = b.b11; b11 = b.b12; w0 = b.w0; w1 = b.w1; w2 = b.w2; w3 = b.w3; w4 = b.w4 })))
    (pick (eqb b.tag 2) (StageReleasing (the_release_bits (record { tag = b.b1; b1 = b.b2; b2 = b.b3; b3 = b.b4; b4 = b.b5; b5 = b.b6; b6 = b.b7; w0 = b.w0; w1 = b.w1 })) (the_flag (record { tag = b.b8; b1 = b.b9; b2 = b.b10; b3 = b.b11; w0 = b.w2 })))
    (StageWaiting)))

pub back_stage : (s : Stage) → the_stage (flat_stage s) ≡ s
unfolding flat_stage the_stage
back_stage (StageBits x0 x1) = λ i. StageBits (back_acquire_bits x0 i) (back_bit x1 i)
back_stage (StageToken x0) = λ i. StageToken (back_token x0 i)
back_stage (StageReleasing x0 x1) = λ i. StageReleasing (back_release_bits x0 i) (back_flag x1 i)
back_stage StageWaiting = refl

unfoldable pub flat_acquire : Acquire → AcquireFlat
flat_acquire s = record { b0 = (flat_stage s.stage).tag; b1 = (flat_stage s.stage).b1; b2 = (flat_stage s.stage).b2; b3 = (flat_stage s.stage).b3; b4 = (flat_stage s.stage).b4; b5 = (flat_stage s.stage).b5; b6 = (flat_stage s.stage).b6; b7 = (flat_stage s.stage).b7; b8 = (flat_stage s.stage).b8; b9 = (flat_stage s.stage).b9; b10 = (flat_stage s.stage).b10; b11 = (flat_stage s.stage).b11; b12 = (flat_stage s.stage).b12; w0 = (flat_stage s.stage).w0; w1 = (flat_stage s.stage).w1; w2 = (flat_stage s.stage).w2; w3 = (flat_stage s.stage).w3; w4 = (flat_stage s.stage).w4; w5 = s.left }

unfoldable pub the_acquire : AcquireFlat → Acquire
the_acquire b = record { left = b.w5; stage = the_stage (record { tag = b.b0; b1 = b.b1; b2 = b.b2; b3 = b.b3; b4 = b.b4; b5 = b.b5; b6 = b.b6; b7 = b.b7; b8 = b.b8; b9 = b.b9; b10 = b.b10; b11 = b.b11; b12 = b.b12; w0 = b.w0; w1 = b.w1; w2 = b.w2; w3 = b.w3; w4 = b.w4 }) }

pub back_acquire : (s : Acquire) → the_acquire (flat_acquire s) ≡ s
unfolding flat_acquire the_acquire
back_acquire s = λ i. record { left = s.left; stage = back_stage s.stage i }

unfoldable pub flat_acquire_call : AcquireCall → State
flat_acquire_call (Some (x0, x1, x2)) = record { call = 5; tag = 0; b1 = (flat_port x0).b0; b2 = (flat_port x0).b1; b3 = (flat_acquire x2).b0; b4 = (flat_acquire x2).b1; b5 = (flat_acquire x2).b2; b6 = (flat_acquire x2).b3; b7 = (flat_acquire x2).b4; b8 = (flat_acquire x2).b5; b9 = (flat_acquire x2).b6; b10 = (flat_acquire x2).b7; b11 = (flat_acquire x2).b8; b12 = (flat_acquire x2).b9; b13 = (flat_acquire x2).b10; b14 = (flat_acquire x2).b11; b15 = (flat_acquire x2).b12; b16 = 0; b17 = 0; b18 = 0; b19 = 0; b20 = 0; b21 = 0; b22 = 0; b23 = 0; h0 = (flat_port x0).h0; h1 = 0; h2 = 0; h3 = 0; h4 = 0; h5 = 0; h6 = 0; w0 = (flat_acquire x2).w0; w1 = (flat_acquire x2).w1; w2 = (flat_acquire x2).w2; w3 = (flat_acquire x2).w3; w4 = (flat_acquire x2).w4; w5 = (flat_acquire x2).w5; w6 = x1; w7 = 0; w8 = 0; z0 = 0 }
flat_acquire_call None = record { call = 5; tag = 1; b1 = 0; b2 = 0; b3 = 0; b4 = 0; b5 = 0; b6 = 0; b7 = 0; b8 = 0; b9 = 0; b10 = 0; b11 = 0; b12 = 0; b13 = 0; b14 = 0; b15 = 0; b16 = 0; b17 = 0; b18 = 0; b19 = 0; b20 = 0; b21 = 0; b22 = 0; b23 = 0; h0 = 0; h1 = 0; h2 = 0; h3 = 0; h4 = 0; h5 = 0; h6 = 0; w0 = 0; w1 = 0; w2 = 0; w3 = 0; w4 = 0; w5 = 0; w6 = 0; w7 = 0; w8 = 0; z0 = 0 }

unfoldable pub the_acquire_call : State → AcquireCall
the_acquire_call b =
    pick (eqb b.tag 0) (Some ((the_port (record { b0 = b.b1; b1 = b.b2; h0 = b.h0 })), b.w6, (the_acquire (record { b0 = b.b3; b1 = b.b4; b2 = b.b5; b3 = b.b6; b4 = b.b7; b5 = b.b8; b6 = b.b9; b7 = b.b10; b8 = b.b11; b9 = b.b12; b10 = b.b13; b11 = b.b14; b12 = b.b15; w0 = b.w0; w1 = b.w1; w2 = b.w2; w3 = b.w3; w4 = b.w4; w5 = b.w5 }))))
    (None)

pub back_acquire_call : (s : AcquireCall) → the_acquire_call (flat_acquire_call s) ≡ s
unfolding flat_acquire_call the_acquire_call
back_acquire_call (Some (x0, x1, x2)) = λ i. Some ((back_port x0 i), x1, (back_acquire x2 i))
back_acquire_call None = refl

pub number_acquire_call : (s : AcquireCall) → (flat_acquire_call s).call ≡ 5
unfolding flat_acquire_call
number_acquire_call (Some (x0, x1, x2)) = refl
number_acquire_call None = refl

unfoldable pub flat_release : Release → ReleaseFlat
flat_release (ReleaseToken x0) = record { tag = 0; b1 = (flat_token x0).b0; b2 = (flat_token x0).b1; b3 = (flat_token x0).b2; b4 = (flat_token x0).b3; b5 = (flat_token x0).b4; b6 = (flat_token x0).b5; b7 = (flat_token x0).b6; b8 = (flat_token x0).b7; b9 = (flat_token x0).b8; b10 = (flat_token x0).b9; b11 = (flat_token x0).b10; b12 = (flat_token x0).b11; w0 = (flat_token x0).w0; w1 = (flat_token x0).w1; w2 = (flat_token x0).w2; w3 = (flat_token x0).w3; w4 = (flat_token x0).w4 }
flat_release (ReleaseBits x0 x1) = record { tag = 1; b1 = (flat_release_bits x0).tag; b2 = (flat_release_bits x0).b1; b3 = (flat_release_bits x0).b2; b4 = (flat_release_bits x0).b3; b5 = (flat_release_bits x0).b4; b6 = (flat_release_bits x0).b5; b7 = (flat_release_bits x0).b6; b8 = (flat_outcome x1).tag; b9 = (flat_outcome x1).b1; b10 = (flat_outcome x1).b2; b11 = (flat_outcome x1).b3; b12 = 0; w0 = (flat_release_bits x0).w0; w1 = (flat_release_bits x0).w1; w2 = (flat_outcome x1).w0; w3 = 0; w4 = 0 }

unfoldable pub the_release : ReleaseFlat → Release
the_release b =
    pick (eqb b.tag 0) (ReleaseToken (the_token (record { b0 = b.b1; b1 = b.b2; b2 = b.b3; b3 = b.b4; b4 = b.b5; b5 = b.b6; b6 = b.b7; b7 = b.b8; b8 = b.b9; b9 = b.b10; b10 = b.b11; b11 = b.b12; w0 = b.w0; w1 = b.w1; w2 = b.w2; w3 = b.w3; w4 = b.w4 })))
    (ReleaseBits (the_release_bits (record { tag = b.b1; b1 = b.b2; b2 = b.b3; b3 = b.b4; b4 = b.b5; b5 = b.b6; b6 = b.b7; w0 = b.w0; w1 = b.w1 })) (the_outcome (record { tag = b.b8; b1 = b.b9; b2 = b.b10; b3 = b.b11; w0 = b.w2 })))

pub back_release : (s : Release) → the_release (flat_release s) ≡ s
unfolding flat_release the_release
back_release (ReleaseToken x0) = λ i. ReleaseToken (back_token x0 i)
back_release (ReleaseBits x0 x1) = λ i. ReleaseBits (back_release_bits x0 i) (back_outcome x1 i)

unfoldable pub flat_release_call : ReleaseCall → State
flat_release_call (Some (x0, x1, x2)) = record { call = 6; tag = 0; b1 = (flat_port x0).b0; b2 = (flat_port x0).b1; b3 = (flat_release x2).tag; b4 = (flat_release x2).b1; b5 = (flat_release x2).b2; b6 = (flat_release x2).b3; b7 = (flat_release x2).b4; b8 = (flat_release x2).b5; b9 = (flat_release x2).b6; b10 = (flat_release x2).b7; b11 = (flat_release x2).b8; b12 = (flat_release x2).b9; b13 = (flat_release x2).b10; b14 = (flat_release x2).b11; b15 = (flat_release x2).b12; b16 = 0; b17 = 0; b18 = 0; b19 = 0; b20 = 0; b21 = 0; b22 = 0; b23 = 0; h0 = (flat_port x0).h0; h1 = 0; h2 = 0; h3 = 0; h4 = 0; h5 = 0; h6 = 0; w0 = (flat_release x2).w0; w1 = (flat_release x2).w1; w2 = (flat_release x2).w2; w3 = (flat_release x2).w3; w4 = (flat_release x2).w4; w5 = x1; w6 = 0; w7 = 0; w8 = 0; z0 = 0 }
flat_release_call None = record { call = 6; tag = 1; b1 = 0; b2 = 0; b3 = 0; b4 = 0; b5 = 0; b6 = 0; b7 = 0; b8 = 0; b9 = 0; b10 = 0; b11 = 0; b12 = 0; b13 = 0; b14 = 0; b15 = 0; b16 = 0; b17 = 0; b18 = 0; b19 = 0; b20 = 0; b21 = 0; b22 = 0; b23 = 0; h0 = 0; h1 = 0; h2 = 0; h3 = 0; h4 = 0; h5 = 0; h6 = 0; w0 = 0; w1 = 0; w2 = 0; w3 = 0; w4 = 0; w5 = 0; w6 = 0; w7 = 0; w8 = 0; z0 = 0 }

unfoldable pub the_release_call : State → ReleaseCall
the_release_call b =
    pick (eqb b.tag 0) (Some ((the_port (record { b0 = b.b1; b1 = b.b2; h0 = b.h0 })), b.w5, (the_release (record { tag = b.b3; b1 = b.b4; b2 = b.b5; b3 = b.b6; b4 = b.b7; b5 = b.b8; b6 = b.b9; b7 = b.b10; b8 = b.b11; b9 = b.b12; b10 = b.b13; b11 = b.b14; b12 = b.b15; w0 = b.w0; w1 = b.w1; w2 = b.w2; w3 = b.w3; w4 = b.w4 }))))
    (None)

pub back_release_call : (s : ReleaseCall) → the_release_call (flat_release_call s) ≡ s
unfolding flat_release_call the_release_call
back_release_call (Some (x0, x1, x2)) = λ i. Some ((back_port x0 i), x1, (back_release x2 i))
back_release_call None = refl

pub number_release_call : (s : ReleaseCall) → (flat_release_call s).call ≡ 6
unfolding flat_release_call
number_release_call (Some (x0, x1, x2)) = refl
number_release_call None = refl
