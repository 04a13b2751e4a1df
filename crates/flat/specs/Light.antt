-- States of `light` as numbers, and back; back again nothing is lost. Written by `derive`.
use Rattle.std.specs.Prelude.{◌≡◌, refl, eqb, Some, None}
use Rattle.flat.specs.Pick.{pick}
use Rattle.light.specs.declared.power.Patterns.{Patterns}
use Rattle.flat.specs.declared.of_light.PatternsFlat.{PatternsFlat}
use Rattle.light.specs.declared.sensed.Sensed.{Sensed}
use Rattle.flat.specs.declared.of_light.SensedFlat.{SensedFlat}
use Rattle.light.specs.declared.walk.Light.{Light}
use Rattle.flat.specs.declared.of_light.LightFlat.{LightFlat}
use Rattle.light.specs.Aliases.{LightCall}
use Rattle.flat.specs.declared.State.{State}
use Rattle.flat.specs.Hardware.{flat_meter, the_meter, back_meter}
use Rattle.flat.specs.Hardware.{flat_port, the_port, back_port}
use Rattle.flat.specs.I2c.{flat_handshake, the_handshake, back_handshake}
use Rattle.flat.specs.Transfer.{flat_sequence, the_sequence, back_sequence}

unfoldable pub flat_patterns : Patterns → PatternsFlat
flat_patterns s = record { w0 = s.c4; w1 = s.c3; w2 = s.c2; w3 = s.c1; w4 = s.c0 }

unfoldable pub the_patterns : PatternsFlat → Patterns
the_patterns b = record { c4 = b.w0; c3 = b.w1; c2 = b.w2; c1 = b.w3; c0 = b.w4 }

pub back_patterns : (s : Patterns) → the_patterns (flat_patterns s) ≡ s
unfolding flat_patterns the_patterns
back_patterns s = refl

unfoldable pub flat_sensed : Sensed → SensedFlat
flat_sensed s = record { b0 = s.kind; h0 = s.temperature; h1 = s.voltage; h2 = s.bias; h3 = s.sent; h4 = s.received; w0 = (flat_patterns s.patterns).w0; w1 = (flat_patterns s.patterns).w1; w2 = (flat_patterns s.patterns).w2; w3 = (flat_patterns s.patterns).w3; w4 = (flat_patterns s.patterns).w4 }

unfoldable pub the_sensed : SensedFlat → Sensed
the_sensed b = record { kind = b.b0; temperature = b.h0; voltage = b.h1; bias = b.h2; sent = b.h3; received = b.h4; patterns = the_patterns (record { w0 = b.w0; w1 = b.w1; w2 = b.w2; w3 = b.w3; w4 = b.w4 }) }

pub back_sensed : (s : Sensed) → the_sensed (flat_sensed s) ≡ s
unfolding flat_sensed the_sensed
back_sensed s = λ i. record { kind = s.kind; temperature = s.temperature; voltage = s.voltage; bias = s.bias; sent = s.sent; received = s.received; patterns = back_patterns s.patterns i }

unfoldable pub flat_light : Light → LightFlat
flat_light s = record { b0 = (flat_handshake s.request).tag; b1 = (flat_handshake s.request).b1; b2 = (flat_handshake s.request).b2; b3 = (flat_handshake s.request).b3; b4 = (flat_handshake s.request).b4; b5 = (flat_handshake s.request).b5; b6 = (flat_handshake s.request).b6; b7 = (flat_handshake s.request).b7; b8 = (flat_handshake s.request).b8; b9 = (flat_handshake s.request).b9; b10 = (flat_handshake s.request).b10; b11 = (flat_handshake s.request).b11; b12 = (flat_handshake s.request).b12; b13 = (flat_handshake s.request).b13; b14 = (flat_sensed s.sensed).b0; b15 = s.left; h0 = (flat_handshake s.request).h0; h1 = (flat_sensed s.sensed).h0; h2 = (flat_sensed s.sensed).h1; h3 = (flat_sensed s.sensed).h2; h4 = (flat_sensed s.sensed).h3; h5 = (flat_sensed s.sensed).h4; w0 = (flat_handshake s.request).w0; w1 = (flat_handshake s.request).w1; w2 = (flat_handshake s.request).w2; w3 = (flat_sensed s.sensed).w0; w4 = (flat_sensed s.sensed).w1; w5 = (flat_sensed s.sensed).w2; w6 = (flat_sensed s.sensed).w3; w7 = (flat_sensed s.sensed).w4; z0 = (flat_handshake s.request).z0 }

unfoldable pub the_light : LightFlat → Light
the_light b = record { left = b.b15; sensed = the_sensed (record { b0 = b.b14; h0 = b.h1; h1 = b.h2; h2 = b.h3; h3 = b.h4; h4 = b.h5; w0 = b.w3; w1 = b.w4; w2 = b.w5; w3 = b.w6; w4 = b.w7 }); request = the_handshake (record { tag = b.b0; b1 = b.b1; b2 = b.b2; b3 = b.b3; b4 = b.b4; b5 = b.b5; b6 = b.b6; b7 = b.b7; b8 = b.b8; b9 = b.b9; b10 = b.b10; b11 = b.b11; b12 = b.b12; b13 = b.b13; h0 = b.h0; w0 = b.w0; w1 = b.w1; w2 = b.w2; z0 = b.z0 }) }

pub back_light : (s : Light) → the_light (flat_light s) ≡ s
unfolding flat_light the_light
back_light s = λ i. record { left = s.left; sensed = back_sensed s.sensed i; request = back_handshake s.request i }

unfoldable pub flat_light_call : LightCall → State
flat_light_call (Some (x0, x1, x2, x3, x4)) = record { call = 4; tag = 0; b1 = (flat_light x4).b0; b2 = (flat_light x4).b1; b3 = (flat_light x4).b2; b4 = (flat_light x4).b3; b5 = (flat_light x4).b4; b6 = (flat_light x4).b5; b7 = (flat_light x4).b6; b8 = (flat_light x4).b7; b9 = (flat_light x4).b8; b10 = (flat_light x4).b9; b11 = (flat_light x4).b10; b12 = (flat_light x4).b11; b13 = (flat_light x4).b12; b14 = (flat_light x4).b13; b15 = (flat_port x0).b0; b16 = (flat_port x0).b1; b17 = (flat_meter x3).b0; b18 = (flat_light x4).b14; b19 = (flat_light x4).b15; b20 = flat_sequence x1; b21 = x2; b22 = 0; b23 = 0; h0 = (flat_light x4).h0; h1 = (flat_port x0).h0; h2 = (flat_light x4).h1; h3 = (flat_light x4).h2; h4 = (flat_light x4).h3; h5 = (flat_light x4).h4; h6 = (flat_light x4).h5; w0 = (flat_light x4).w0; w1 = (flat_light x4).w1; w2 = (flat_light x4).w2; w3 = (flat_meter x3).w0; w4 = (flat_light x4).w3; w5 = (flat_light x4).w4; w6 = (flat_light x4).w5; w7 = (flat_light x4).w6; w8 = (flat_light x4).w7; z0 = (flat_light x4).z0 }
flat_light_call None = record { call = 4; tag = 1; b1 = 0; b2 = 0; b3 = 0; b4 = 0; b5 = 0; b6 = 0; b7 = 0; b8 = 0; b9 = 0; b10 = 0; b11 = 0; b12 = 0; b13 = 0; b14 = 0; b15 = 0; b16 = 0; b17 = 0; b18 = 0; b19 = 0; b20 = 0; b21 = 0; b22 = 0; b23 = 0; h0 = 0; h1 = 0; h2 = 0; h3 = 0; h4 = 0; h5 = 0; h6 = 0; w0 = 0; w1 = 0; w2 = 0; w3 = 0; w4 = 0; w5 = 0; w6 = 0; w7 = 0; w8 = 0; z0 = 0 }

unfoldable pub the_light_call : State → LightCall
the_light_call b =
    pick (eqb b.tag 0) (Some ((the_port (record { b0 = b.b15; b1 = b.b16; h0 = b.h1 })), (the_sequence b.b20), b.b21, (the_meter (record { b0 = b.b17; w0 = b.w3 })), (the_light (record { b0 = b.b1; b1 = b.b2; b2 = b.b3; b3 = b.b4; b4 = b.b5; b5 = b.b6; b6 = b.b7; b7 = b.b8; b8 = b.b9; b9 = b.b10; b10 = b.b11; b11 = b.b12; b12 = b.b13; b13 = b.b14; h0 = b.h0; w0 = b.w0; w1 = b.w1; w2 = b.w2; z0 = b.z0; b14 = b.b18; b15 = b.b19; h1 = b.h2; h2 = b.h3; h3 = b.h4; h4 = b.h5; h5 = b.h6; w3 = b.w4; w4 = b.w5; w5 = b.w6; w6 = b.w7; w7 = b.w8 }))))
    (None)

pub back_light_call : (s : LightCall) → the_light_call (flat_light_call s) ≡ s
unfolding flat_light_call the_light_call
back_light_call (Some (x0, x1, x2, x3, x4)) = λ i. Some ((back_port x0 i), (back_sequence x1 i), x2, (back_meter x3 i), (back_light x4 i))
back_light_call None = refl

pub number_light_call : (s : LightCall) → (flat_light_call s).call ≡ 4
unfolding flat_light_call
number_light_call (Some (x0, x1, x2, x3, x4)) = refl
number_light_call None = refl
