-- States of `i2c` as numbers, and back; back again nothing is lost. Written by `derive`.
use Rattle.std.specs.Prelude.{◌≡◌, refl, eqb, Some, None}
use Rattle.flat.specs.Pick.{pick, bit, set, back_bit}
use Rattle.i2c.specs.declared.once.Request.{Request}
use Rattle.i2c.specs.declared.once.Request.TheVariants.{ReadByte as RequestReadByte, WriteByte as RequestWriteByte, ReadCombined as RequestReadCombined, WriteCombined as RequestWriteCombined}
use Rattle.flat.specs.declared.of_i2c.RequestFlat.{RequestFlat}
use Rattle.i2c.specs.declared.How.{How}
use Rattle.flat.specs.declared.of_i2c.HowFlat.{HowFlat}
use Rattle.i2c.specs.declared.retry.Stage.{Stage}
use Rattle.i2c.specs.declared.retry.Stage.TheVariants.{Acquiring as StageAcquiring, Trying as StageTrying, Releasing as StageReleasing, Pausing as StagePausing}
use Rattle.flat.specs.declared.of_i2c.StageFlat.{StageFlat}
use Rattle.i2c.specs.declared.retry.Retry.{Retry}
use Rattle.flat.specs.declared.of_i2c.RetryFlat.{RetryFlat}
use Rattle.i2c.specs.declared.handshake.Handshake.{Handshake}
use Rattle.i2c.specs.declared.handshake.Handshake.TheVariants.{Asking as HandshakeAsking, Granting as HandshakeGranting, Waiting as HandshakeWaiting, Inside as HandshakeInside, Giving as HandshakeGiving}
use Rattle.flat.specs.declared.of_i2c.HandshakeFlat.{HandshakeFlat}
use Rattle.i2c.specs.Aliases.{TransferCall}
use Rattle.flat.specs.declared.State.{State}
use Rattle.i2c.specs.Aliases.{SetupCall}
use Rattle.flat.specs.Transfer.{flat_got, the_got, back_got}
use Rattle.flat.specs.Hardware.{flat_meter, the_meter, back_meter}
use Rattle.flat.specs.Hardware.{flat_port, the_port, back_port}
use Rattle.flat.specs.Hardware.{flat_update, the_update, back_update}
use Rattle.flat.specs.Sync.{flat_acquire_bits, the_acquire_bits, back_acquire_bits}
use Rattle.flat.specs.Sync.{flat_release_bits, the_release_bits, back_release_bits}
use Rattle.flat.specs.Transfer.{flat_attempt, the_attempt, back_attempt}
use Rattle.flat.specs.Transfer.{flat_sequence, the_sequence, back_sequence}

unfoldable pub flat_request : Request → RequestFlat
flat_request (RequestReadByte x0 x1) = record { tag = 0; b1 = x0; b2 = x1; b3 = 0; h0 = 0; h1 = 0 }
flat_request (RequestWriteByte x0 x1 x2) = record { tag = 1; b1 = x0; b2 = x1; b3 = x2; h0 = 0; h1 = 0 }
flat_request (RequestReadCombined x0 x1) = record { tag = 2; b1 = x0; b2 = 0; b3 = 0; h0 = x1; h1 = 0 }
flat_request (RequestWriteCombined x0 x1 x2) = record { tag = 3; b1 = x0; b2 = 0; b3 = 0; h0 = x1; h1 = x2 }

unfoldable pub the_request : RequestFlat → Request
the_request b =
    pick (eqb b.tag 0) (RequestReadByte b.b1 b.b2)
    (pick (eqb b.tag 1) (RequestWriteByte b.b1 b.b2 b.b3)
    (pick (eqb b.tag 2) (RequestReadCombined b.b1 b.h0)
    (RequestWriteCombined b.b1 b.h0 b.h1)))

pub back_request : (s : Request) → the_request (flat_request s) ≡ s
unfolding flat_request the_request
back_request (RequestReadByte x0 x1) = refl
back_request (RequestWriteByte x0 x1 x2) = refl
back_request (RequestReadCombined x0 x1) = refl
back_request (RequestWriteCombined x0 x1 x2) = refl

unfoldable pub flat_how : How → HowFlat
flat_how s = record { b0 = bit s.lock; b1 = flat_sequence s.sequence }

unfoldable pub the_how : HowFlat → How
the_how b = record { lock = set b.b0; sequence = the_sequence b.b1 }

pub back_how : (s : How) → the_how (flat_how s) ≡ s
unfolding flat_how the_how
back_how s = λ i. record { lock = back_bit s.lock i; sequence = back_sequence s.sequence i }

unfoldable pub flat_stage : Stage → StageFlat
flat_stage (StageAcquiring x0) = record { tag = 0; b1 = (flat_acquire_bits x0).b0; b2 = (flat_acquire_bits x0).b1; b3 = (flat_acquire_bits x0).b2; b4 = (flat_acquire_bits x0).b3; b5 = (flat_acquire_bits x0).b4; b6 = (flat_acquire_bits x0).b5; b7 = (flat_acquire_bits x0).b6; b8 = 0; b9 = 0; b10 = 0; b11 = 0; h0 = 0; w0 = (flat_acquire_bits x0).w0; w1 = (flat_acquire_bits x0).w1; w2 = (flat_acquire_bits x0).w2; z0 = 0 }
flat_stage (StageTrying x0) = record { tag = 1; b1 = (flat_attempt x0).tag; b2 = (flat_attempt x0).b1; b3 = (flat_attempt x0).b2; b4 = (flat_attempt x0).b3; b5 = (flat_attempt x0).b4; b6 = (flat_attempt x0).b5; b7 = (flat_attempt x0).b6; b8 = (flat_attempt x0).b7; b9 = (flat_attempt x0).b8; b10 = 0; b11 = 0; h0 = (flat_attempt x0).h0; w0 = (flat_attempt x0).w0; w1 = 0; w2 = 0; z0 = (flat_attempt x0).z0 }
flat_stage (StageReleasing x0 x1) = record { tag = 2; b1 = (flat_release_bits x1).tag; b2 = (flat_release_bits x1).b1; b3 = (flat_release_bits x1).b2; b4 = (flat_release_bits x1).b3; b5 = (flat_release_bits x1).b4; b6 = (flat_release_bits x1).b5; b7 = (flat_release_bits x1).b6; b8 = (flat_got x0).tag; b9 = (flat_got x0).b1; b10 = (flat_got x0).b2; b11 = (flat_got x0).b3; h0 = 0; w0 = (flat_release_bits x1).w0; w1 = (flat_release_bits x1).w1; w2 = (flat_got x0).w0; z0 = 0 }
flat_stage StagePausing = record { tag = 3; b1 = 0; b2 = 0; b3 = 0; b4 = 0; b5 = 0; b6 = 0; b7 = 0; b8 = 0; b9 = 0; b10 = 0; b11 = 0; h0 = 0; w0 = 0; w1 = 0; w2 = 0; z0 = 0 }

unfoldable pub the_stage : StageFlat → Stage
the_stage b =
    pick (eqb b.tag 0) (StageAcquiring (the_acquire_bits (record { b0 = b.b1; b1 = b.b2; b2 = b.b3; b3 = b.b4; b4 = b.b5; b5 = b.b6; b6 = b.b7; w0 = b.w0; w1 = b.w1; w2 = b.w2 })))
    (pick (eqb b.tag 1) (StageTrying (the_attempt (record { tag = b.b1; b1 = b.b2; b2 = b.b3; b3 = b.b4; b4 = b.b5; b5 = b.b6; b6 = b.b7; b7 = b.b8; b8 = b.b9; h0 = b.h0; w0 = b.w0; z0 = b.z0 })))
    (pick (eqb b.tag 2) (StageReleasing (the_got (record { tag = b.b8; b1 = b.b9; b2 = b.b10; b3 = b.b11; w0 = b.w2 })) (the_release_bits (record { tag = b.b1; b1 = b.b2; b2 = b.b3; b3 = b.b4; b4 = b.b5; b5 = b.b6; b6 = b.b7; w0 = b.w0; w1 = b.w1 })))
    (StagePausing)))

pub back_stage : (s : Stage) → the_stage (flat_stage s) ≡ s
unfolding flat_stage the_stage
back_stage (StageAcquiring x0) = λ i. StageAcquiring (back_acquire_bits x0 i)
back_stage (StageTrying x0) = λ i. StageTrying (back_attempt x0 i)
back_stage (StageReleasing x0 x1) = λ i. StageReleasing (back_got x0 i) (back_release_bits x1 i)
back_stage StagePausing = refl

unfoldable pub flat_retry : Retry → RetryFlat
flat_retry s = record { b0 = (flat_stage s.stage).tag; b1 = (flat_stage s.stage).b1; b2 = (flat_stage s.stage).b2; b3 = (flat_stage s.stage).b3; b4 = (flat_stage s.stage).b4; b5 = (flat_stage s.stage).b5; b6 = (flat_stage s.stage).b6; b7 = (flat_stage s.stage).b7; b8 = (flat_stage s.stage).b8; b9 = (flat_stage s.stage).b9; b10 = (flat_stage s.stage).b10; b11 = (flat_stage s.stage).b11; b12 = s.left; h0 = (flat_stage s.stage).h0; w0 = (flat_stage s.stage).w0; w1 = (flat_stage s.stage).w1; w2 = (flat_stage s.stage).w2; z0 = (flat_stage s.stage).z0 }

unfoldable pub the_retry : RetryFlat → Retry
the_retry b = record { left = b.b12; stage = the_stage (record { tag = b.b0; b1 = b.b1; b2 = b.b2; b3 = b.b3; b4 = b.b4; b5 = b.b5; b6 = b.b6; b7 = b.b7; b8 = b.b8; b9 = b.b9; b10 = b.b10; b11 = b.b11; h0 = b.h0; w0 = b.w0; w1 = b.w1; w2 = b.w2; z0 = b.z0 }) }

pub back_retry : (s : Retry) → the_retry (flat_retry s) ≡ s
unfolding flat_retry the_retry
back_retry s = λ i. record { left = s.left; stage = back_stage s.stage i }

unfoldable pub flat_handshake : Handshake → HandshakeFlat
flat_handshake (HandshakeAsking x0 x1) = record { tag = 0; b1 = (flat_update x1).tag; b2 = x0; b3 = 0; b4 = 0; b5 = 0; b6 = 0; b7 = 0; b8 = 0; b9 = 0; b10 = 0; b11 = 0; b12 = 0; b13 = 0; h0 = 0; w0 = (flat_update x1).w0; w1 = 0; w2 = 0; z0 = 0 }
flat_handshake (HandshakeGranting x0 x1) = record { tag = 1; b1 = x0; b2 = x1; b3 = 0; b4 = 0; b5 = 0; b6 = 0; b7 = 0; b8 = 0; b9 = 0; b10 = 0; b11 = 0; b12 = 0; b13 = 0; h0 = 0; w0 = 0; w1 = 0; w2 = 0; z0 = 0 }
flat_handshake (HandshakeWaiting x0 x1) = record { tag = 2; b1 = x0; b2 = x1; b3 = 0; b4 = 0; b5 = 0; b6 = 0; b7 = 0; b8 = 0; b9 = 0; b10 = 0; b11 = 0; b12 = 0; b13 = 0; h0 = 0; w0 = 0; w1 = 0; w2 = 0; z0 = 0 }
flat_handshake (HandshakeInside x0) = record { tag = 3; b1 = (flat_retry x0).b0; b2 = (flat_retry x0).b1; b3 = (flat_retry x0).b2; b4 = (flat_retry x0).b3; b5 = (flat_retry x0).b4; b6 = (flat_retry x0).b5; b7 = (flat_retry x0).b6; b8 = (flat_retry x0).b7; b9 = (flat_retry x0).b8; b10 = (flat_retry x0).b9; b11 = (flat_retry x0).b10; b12 = (flat_retry x0).b11; b13 = (flat_retry x0).b12; h0 = (flat_retry x0).h0; w0 = (flat_retry x0).w0; w1 = (flat_retry x0).w1; w2 = (flat_retry x0).w2; z0 = (flat_retry x0).z0 }
flat_handshake (HandshakeGiving x0 x1) = record { tag = 4; b1 = (flat_got x0).tag; b2 = (flat_got x0).b1; b3 = (flat_got x0).b2; b4 = (flat_got x0).b3; b5 = (flat_update x1).tag; b6 = 0; b7 = 0; b8 = 0; b9 = 0; b10 = 0; b11 = 0; b12 = 0; b13 = 0; h0 = 0; w0 = (flat_got x0).w0; w1 = (flat_update x1).w0; w2 = 0; z0 = 0 }

unfoldable pub the_handshake : HandshakeFlat → Handshake
the_handshake b =
    pick (eqb b.tag 0) (HandshakeAsking b.b2 (the_update (record { tag = b.b1; w0 = b.w0 })))
    (pick (eqb b.tag 1) (HandshakeGranting b.b1 b.b2)
    (pick (eqb b.tag 2) (HandshakeWaiting b.b1 b.b2)
    (pick (eqb b.tag 3) (HandshakeInside (the_retry (record { b0 = b.b1; b1 = b.b2; b2 = b.b3; b3 = b.b4; b4 = b.b5; b5 = b.b6; b6 = b.b7; b7 = b.b8; b8 = b.b9; b9 = b.b10; b10 = b.b11; b11 = b.b12; b12 = b.b13; h0 = b.h0; w0 = b.w0; w1 = b.w1; w2 = b.w2; z0 = b.z0 })))
    (HandshakeGiving (the_got (record { tag = b.b1; b1 = b.b2; b2 = b.b3; b3 = b.b4; w0 = b.w0 })) (the_update (record { tag = b.b5; w0 = b.w1 }))))))

pub back_handshake : (s : Handshake) → the_handshake (flat_handshake s) ≡ s
unfolding flat_handshake the_handshake
back_handshake (HandshakeAsking x0 x1) = λ i. HandshakeAsking x0 (back_update x1 i)
back_handshake (HandshakeGranting x0 x1) = refl
back_handshake (HandshakeWaiting x0 x1) = refl
back_handshake (HandshakeInside x0) = λ i. HandshakeInside (back_retry x0 i)
back_handshake (HandshakeGiving x0 x1) = λ i. HandshakeGiving (back_got x0 i) (back_update x1 i)

unfoldable pub flat_transfer_call : TransferCall → State
flat_transfer_call (Some (x0, x1, x2, x3, x4)) = record { call = 0; tag = 0; b1 = (flat_handshake x4).tag; b2 = (flat_handshake x4).b1; b3 = (flat_handshake x4).b2; b4 = (flat_handshake x4).b3; b5 = (flat_handshake x4).b4; b6 = (flat_handshake x4).b5; b7 = (flat_handshake x4).b6; b8 = (flat_handshake x4).b7; b9 = (flat_handshake x4).b8; b10 = (flat_handshake x4).b9; b11 = (flat_handshake x4).b10; b12 = (flat_handshake x4).b11; b13 = (flat_handshake x4).b12; b14 = (flat_handshake x4).b13; b15 = (flat_port x0).b0; b16 = (flat_port x0).b1; b17 = (flat_meter x3).b0; b18 = (flat_request x1).tag; b19 = (flat_request x1).b1; b20 = (flat_request x1).b2; b21 = (flat_request x1).b3; b22 = (flat_how x2).b0; b23 = (flat_how x2).b1; h0 = (flat_handshake x4).h0; h1 = (flat_port x0).h0; h2 = (flat_request x1).h0; h3 = (flat_request x1).h1; h4 = 0; h5 = 0; h6 = 0; w0 = (flat_handshake x4).w0; w1 = (flat_handshake x4).w1; w2 = (flat_handshake x4).w2; w3 = (flat_meter x3).w0; w4 = 0; w5 = 0; w6 = 0; w7 = 0; w8 = 0; z0 = (flat_handshake x4).z0 }
flat_transfer_call None = record { call = 0; tag = 1; b1 = 0; b2 = 0; b3 = 0; b4 = 0; b5 = 0; b6 = 0; b7 = 0; b8 = 0; b9 = 0; b10 = 0; b11 = 0; b12 = 0; b13 = 0; b14 = 0; b15 = 0; b16 = 0; b17 = 0; b18 = 0; b19 = 0; b20 = 0; b21 = 0; b22 = 0; b23 = 0; h0 = 0; h1 = 0; h2 = 0; h3 = 0; h4 = 0; h5 = 0; h6 = 0; w0 = 0; w1 = 0; w2 = 0; w3 = 0; w4 = 0; w5 = 0; w6 = 0; w7 = 0; w8 = 0; z0 = 0 }

unfoldable pub the_transfer_call : State → TransferCall
the_transfer_call b =
    pick (eqb b.tag 0) (Some ((the_port (record { b0 = b.b15; b1 = b.b16; h0 = b.h1 })), (the_request (record { tag = b.b18; b1 = b.b19; b2 = b.b20; b3 = b.b21; h0 = b.h2; h1 = b.h3 })), (the_how (record { b0 = b.b22; b1 = b.b23 })), (the_meter (record { b0 = b.b17; w0 = b.w3 })), (the_handshake (record { tag = b.b1; b1 = b.b2; b2 = b.b3; b3 = b.b4; b4 = b.b5; b5 = b.b6; b6 = b.b7; b7 = b.b8; b8 = b.b9; b9 = b.b10; b10 = b.b11; b11 = b.b12; b12 = b.b13; b13 = b.b14; h0 = b.h0; w0 = b.w0; w1 = b.w1; w2 = b.w2; z0 = b.z0 }))))
    (None)

pub back_transfer_call : (s : TransferCall) → the_transfer_call (flat_transfer_call s) ≡ s
unfolding flat_transfer_call the_transfer_call
back_transfer_call (Some (x0, x1, x2, x3, x4)) = λ i. Some ((back_port x0 i), (back_request x1 i), (back_how x2 i), (back_meter x3 i), (back_handshake x4 i))
back_transfer_call None = refl

pub number_transfer_call : (s : TransferCall) → (flat_transfer_call s).call ≡ 0
unfolding flat_transfer_call
number_transfer_call (Some (x0, x1, x2, x3, x4)) = refl
number_transfer_call None = refl

unfoldable pub flat_setup_call : SetupCall → State
flat_setup_call (Some x0) = record { call = 1; tag = 0; b1 = (flat_update x0).tag; b2 = 0; b3 = 0; b4 = 0; b5 = 0; b6 = 0; b7 = 0; b8 = 0; b9 = 0; b10 = 0; b11 = 0; b12 = 0; b13 = 0; b14 = 0; b15 = 0; b16 = 0; b17 = 0; b18 = 0; b19 = 0; b20 = 0; b21 = 0; b22 = 0; b23 = 0; h0 = 0; h1 = 0; h2 = 0; h3 = 0; h4 = 0; h5 = 0; h6 = 0; w0 = (flat_update x0).w0; w1 = 0; w2 = 0; w3 = 0; w4 = 0; w5 = 0; w6 = 0; w7 = 0; w8 = 0; z0 = 0 }
flat_setup_call None = record { call = 1; tag = 1; b1 = 0; b2 = 0; b3 = 0; b4 = 0; b5 = 0; b6 = 0; b7 = 0; b8 = 0; b9 = 0; b10 = 0; b11 = 0; b12 = 0; b13 = 0; b14 = 0; b15 = 0; b16 = 0; b17 = 0; b18 = 0; b19 = 0; b20 = 0; b21 = 0; b22 = 0; b23 = 0; h0 = 0; h1 = 0; h2 = 0; h3 = 0; h4 = 0; h5 = 0; h6 = 0; w0 = 0; w1 = 0; w2 = 0; w3 = 0; w4 = 0; w5 = 0; w6 = 0; w7 = 0; w8 = 0; z0 = 0 }

unfoldable pub the_setup_call : State → SetupCall
the_setup_call b =
    pick (eqb b.tag 0) (Some (the_update (record { tag = b.b1; w0 = b.w0 })))
    (None)

pub back_setup_call : (s : SetupCall) → the_setup_call (flat_setup_call s) ≡ s
unfolding flat_setup_call the_setup_call
back_setup_call (Some x0) = λ i. Some (back_update x0 i)
back_setup_call None = refl

pub number_setup_call : (s : SetupCall) → (flat_setup_call s).call ≡ 1
unfolding flat_setup_call
number_setup_call (Some x0) = refl
number_setup_call None = refl
