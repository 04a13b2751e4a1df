-- States of `softrate` as numbers, and back; back again nothing is lost. Written by `derive`.
use Rattle.std.specs.Prelude.{◌≡◌, refl, eqb, Some, None}
use Rattle.flat.specs.Pick.{pick, bit, set, back_bit}
use Rattle.softrate.specs.declared.spot.Place.{Place}
use Rattle.softrate.specs.declared.spot.Place.TheVariants.{Reading as PlaceReading, Writing as PlaceWriting}
use Rattle.flat.specs.declared.of_softrate.PlaceFlat.{PlaceFlat}
use Rattle.softrate.specs.declared.spot.Spot.{Spot}
use Rattle.flat.specs.declared.of_softrate.SpotFlat.{SpotFlat}
use Rattle.softrate.specs.declared.walk.Rate.{Rate}
use Rattle.flat.specs.declared.of_softrate.RateFlat.{RateFlat}
use Rattle.softrate.specs.Aliases.{RateCall}
use Rattle.flat.specs.declared.State.{State}
use Rattle.flat.specs.Hardware.{flat_meter, the_meter, back_meter}
use Rattle.flat.specs.Hardware.{flat_port, the_port, back_port}
use Rattle.flat.specs.I2c.{flat_handshake, the_handshake, back_handshake}
use Rattle.flat.specs.Transfer.{flat_sequence, the_sequence, back_sequence}

unfoldable pub flat_place : Place → PlaceFlat
flat_place PlaceReading = record { tag = 0; b1 = 0 }
flat_place (PlaceWriting x0) = record { tag = 1; b1 = x0 }

unfoldable pub the_place : PlaceFlat → Place
the_place b =
    pick (eqb b.tag 0) (PlaceReading)
    (PlaceWriting b.b1)

pub back_place : (s : Place) → the_place (flat_place s) ≡ s
unfolding flat_place the_place
back_place PlaceReading = refl
back_place (PlaceWriting x0) = refl

unfoldable pub flat_spot : Spot → SpotFlat
flat_spot s = record { b0 = (flat_place s.place).tag; b1 = (flat_place s.place).b1; b2 = bit s.second; b3 = bit s.ok }

unfoldable pub the_spot : SpotFlat → Spot
the_spot b = record { second = set b.b2; ok = set b.b3; place = the_place (record { tag = b.b0; b1 = b.b1 }) }

pub back_spot : (s : Spot) → the_spot (flat_spot s) ≡ s
unfolding flat_spot the_spot
back_spot s = λ i. record { second = back_bit s.second i; ok = back_bit s.ok i; place = back_place s.place i }

unfoldable pub flat_rate : Rate → RateFlat
flat_rate s = record { b0 = (flat_handshake s.request).tag; b1 = (flat_handshake s.request).b1; b2 = (flat_handshake s.request).b2; b3 = (flat_handshake s.request).b3; b4 = (flat_handshake s.request).b4; b5 = (flat_handshake s.request).b5; b6 = (flat_handshake s.request).b6; b7 = (flat_handshake s.request).b7; b8 = (flat_handshake s.request).b8; b9 = (flat_handshake s.request).b9; b10 = (flat_handshake s.request).b10; b11 = (flat_handshake s.request).b11; b12 = (flat_handshake s.request).b12; b13 = (flat_handshake s.request).b13; b14 = (flat_spot s.spot).b0; b15 = (flat_spot s.spot).b1; b16 = (flat_spot s.spot).b2; b17 = (flat_spot s.spot).b3; h0 = (flat_handshake s.request).h0; w0 = (flat_handshake s.request).w0; w1 = (flat_handshake s.request).w1; w2 = (flat_handshake s.request).w2; z0 = (flat_handshake s.request).z0 }

unfoldable pub the_rate : RateFlat → Rate
the_rate b = record { spot = the_spot (record { b0 = b.b14; b1 = b.b15; b2 = b.b16; b3 = b.b17 }); request = the_handshake (record { tag = b.b0; b1 = b.b1; b2 = b.b2; b3 = b.b3; b4 = b.b4; b5 = b.b5; b6 = b.b6; b7 = b.b7; b8 = b.b8; b9 = b.b9; b10 = b.b10; b11 = b.b11; b12 = b.b12; b13 = b.b13; h0 = b.h0; w0 = b.w0; w1 = b.w1; w2 = b.w2; z0 = b.z0 }) }

pub back_rate : (s : Rate) → the_rate (flat_rate s) ≡ s
unfolding flat_rate the_rate
back_rate s = λ i. record { spot = back_spot s.spot i; request = back_handshake s.request i }

unfoldable pub flat_rate_call : RateCall → State
flat_rate_call (Some (x0, x1, x2, x3, x4)) = record { call = 3; tag = 0; b1 = (flat_rate x4).b0; b2 = (flat_rate x4).b1; b3 = (flat_rate x4).b2; b4 = (flat_rate x4).b3; b5 = (flat_rate x4).b4; b6 = (flat_rate x4).b5; b7 = (flat_rate x4).b6; b8 = (flat_rate x4).b7; b9 = (flat_rate x4).b8; b10 = (flat_rate x4).b9; b11 = (flat_rate x4).b10; b12 = (flat_rate x4).b11; b13 = (flat_rate x4).b12; b14 = (flat_rate x4).b13; b15 = (flat_port x0).b0; b16 = (flat_port x0).b1; b17 = (flat_meter x3).b0; b18 = (flat_rate x4).b14; b19 = (flat_rate x4).b15; b20 = (flat_rate x4).b16; b21 = (flat_rate x4).b17; b22 = flat_sequence x1; b23 = bit x2; h0 = (flat_rate x4).h0; h1 = (flat_port x0).h0; h2 = 0; h3 = 0; h4 = 0; h5 = 0; h6 = 0; w0 = (flat_rate x4).w0; w1 = (flat_rate x4).w1; w2 = (flat_rate x4).w2; w3 = (flat_meter x3).w0; w4 = 0; w5 = 0; w6 = 0; w7 = 0; w8 = 0; z0 = (flat_rate x4).z0 }
flat_rate_call None = record { call = 3; tag = 1; b1 = 0; b2 = 0; b3 = 0; b4 = 0; b5 = 0; b6 = 0; b7 = 0; b8 = 0; b9 = 0; b10 = 0; b11 = 0; b12 = 0; b13 = 0; b14 = 0; b15 = 0; b16 = 0; b17 = 0; b18 = 0; b19 = 0; b20 = 0; b21 = 0; b22 = 0; b23 = 0; h0 = 0; h1 = 0; h2 = 0; h3 = 0; h4 = 0; h5 = 0; h6 = 0; w0 = 0; w1 = 0; w2 = 0; w3 = 0; w4 = 0; w5 = 0; w6 = 0; w7 = 0; w8 = 0; z0 = 0 }

unfoldable pub the_rate_call : State → RateCall
the_rate_call b =
    pick (eqb b.tag 0) (Some ((the_port (record { b0 = b.b15; b1 = b.b16; h0 = b.h1 })), (the_sequence b.b22), (set b.b23), (the_meter (record { b0 = b.b17; w0 = b.w3 })), (the_rate (record { b0 = b.b1; b1 = b.b2; b2 = b.b3; b3 = b.b4; b4 = b.b5; b5 = b.b6; b6 = b.b7; b7 = b.b8; b8 = b.b9; b9 = b.b10; b10 = b.b11; b11 = b.b12; b12 = b.b13; b13 = b.b14; h0 = b.h0; w0 = b.w0; w1 = b.w1; w2 = b.w2; z0 = b.z0; b14 = b.b18; b15 = b.b19; b16 = b.b20; b17 = b.b21 }))))
    (None)

pub back_rate_call : (s : RateCall) → the_rate_call (flat_rate_call s) ≡ s
unfolding flat_rate_call the_rate_call
back_rate_call (Some (x0, x1, x2, x3, x4)) = λ i. Some ((back_port x0 i), (back_sequence x1 i), (back_bit x2 i), (back_meter x3 i), (back_rate x4 i))
back_rate_call None = refl

pub number_rate_call : (s : RateCall) → (flat_rate_call s).call ≡ 3
unfolding flat_rate_call
number_rate_call (Some (x0, x1, x2, x3, x4)) = refl
number_rate_call None = refl
