-- States of `identify` as numbers, and back; back again nothing is lost. Written by `derive`.
use Rattle.std.specs.Prelude.{◌≡◌, refl, eqb, Some, None}
use Rattle.flat.specs.Pick.{pick}
use Rattle.identify.specs.declared.place.Place.{Place}
use Rattle.identify.specs.declared.place.Place.TheVariants.{Identifier as PlaceIdentifier, Comp1g as PlaceComp1g, Comp10g as PlaceComp10g, Cable as PlaceCable, Rate as PlaceRate, Km as PlaceKm, Hm as PlaceHm, Active as PlaceActive, QsfpIdentifier as PlaceQsfpIdentifier, Qsfp10g as PlaceQsfp10g, Qsfp1g as PlaceQsfp1g, QsfpConnector as PlaceQsfpConnector, QsfpLength as PlaceQsfpLength, QsfpTechnology as PlaceQsfpTechnology}
use Rattle.flat.specs.declared.of_identify.PlaceFlat.{PlaceFlat}
use Rattle.identify.specs.declared.walk.Identify.{Identify}
use Rattle.flat.specs.declared.of_identify.IdentifyFlat.{IdentifyFlat}
use Rattle.identify.specs.Aliases.{IdentifyCall}
use Rattle.flat.specs.declared.State.{State}
use Rattle.flat.specs.Hardware.{flat_meter, the_meter, back_meter}
use Rattle.flat.specs.Hardware.{flat_port, the_port, back_port}
use Rattle.flat.specs.I2c.{flat_handshake, the_handshake, back_handshake}
use Rattle.flat.specs.Sfp.{flat_codes, the_codes, back_codes}
use Rattle.flat.specs.Transfer.{flat_sequence, the_sequence, back_sequence}

unfoldable pub flat_place : Place → PlaceFlat
flat_place (PlaceIdentifier x0) = record { tag = 0; b1 = x0; b2 = 0; b3 = 0; b4 = 0 }
flat_place PlaceComp1g = record { tag = 1; b1 = 0; b2 = 0; b3 = 0; b4 = 0 }
flat_place (PlaceComp10g x0) = record { tag = 2; b1 = x0; b2 = 0; b3 = 0; b4 = 0 }
flat_place (PlaceCable x0 x1) = record { tag = 3; b1 = x0; b2 = x1; b3 = 0; b4 = 0 }
flat_place (PlaceRate x0) = record { tag = 4; b1 = (flat_codes x0).b0; b2 = (flat_codes x0).b1; b3 = (flat_codes x0).b2; b4 = 0 }
flat_place (PlaceKm x0) = record { tag = 5; b1 = (flat_codes x0).b0; b2 = (flat_codes x0).b1; b3 = (flat_codes x0).b2; b4 = 0 }
flat_place (PlaceHm x0 x1) = record { tag = 6; b1 = (flat_codes x0).b0; b2 = (flat_codes x0).b1; b3 = (flat_codes x0).b2; b4 = x1 }
flat_place (PlaceActive x0) = record { tag = 7; b1 = (flat_codes x0).b0; b2 = (flat_codes x0).b1; b3 = (flat_codes x0).b2; b4 = 0 }
flat_place PlaceQsfpIdentifier = record { tag = 8; b1 = 0; b2 = 0; b3 = 0; b4 = 0 }
flat_place PlaceQsfp10g = record { tag = 9; b1 = 0; b2 = 0; b3 = 0; b4 = 0 }
flat_place (PlaceQsfp1g x0) = record { tag = 10; b1 = x0; b2 = 0; b3 = 0; b4 = 0 }
flat_place (PlaceQsfpConnector x0 x1) = record { tag = 11; b1 = x0; b2 = x1; b3 = 0; b4 = 0 }
flat_place (PlaceQsfpLength x0 x1) = record { tag = 12; b1 = x0; b2 = x1; b3 = 0; b4 = 0 }
flat_place (PlaceQsfpTechnology x0 x1) = record { tag = 13; b1 = x0; b2 = x1; b3 = 0; b4 = 0 }

unfoldable pub the_place : PlaceFlat → Place
the_place b =
    pick (eqb b.tag 0) (PlaceIdentifier b.b1)
    (pick (eqb b.tag 1) (PlaceComp1g)
    (pick (eqb b.tag 2) (PlaceComp10g b.b1)
    (pick (eqb b.tag 3) (PlaceCable b.b1 b.b2)
    (pick (eqb b.tag 4) (PlaceRate (the_codes (record { b0 = b.b1; b1 = b.b2; b2 = b.b3 })))
    (pick (eqb b.tag 5) (PlaceKm (the_codes (record { b0 = b.b1; b1 = b.b2; b2 = b.b3 })))
    (pick (eqb b.tag 6) (PlaceHm (the_codes (record { b0 = b.b1; b1 = b.b2; b2 = b.b3 })) b.b4)
    (pick (eqb b.tag 7) (PlaceActive (the_codes (record { b0 = b.b1; b1 = b.b2; b2 = b.b3 })))
    (pick (eqb b.tag 8) (PlaceQsfpIdentifier)
    (pick (eqb b.tag 9) (PlaceQsfp10g)
    (pick (eqb b.tag 10) (PlaceQsfp1g b.b1)
    (pick (eqb b.tag 11) (PlaceQsfpConnector b.b1 b.b2)
    (pick (eqb b.tag 12) (PlaceQsfpLength b.b1 b.b2)
    (PlaceQsfpTechnology b.b1 b.b2)))))))))))))

pub back_place : (s : Place) → the_place (flat_place s) ≡ s
unfolding flat_place the_place
back_place (PlaceIdentifier x0) = refl
back_place PlaceComp1g = refl
back_place (PlaceComp10g x0) = refl
back_place (PlaceCable x0 x1) = refl
back_place (PlaceRate x0) = λ i. PlaceRate (back_codes x0 i)
back_place (PlaceKm x0) = λ i. PlaceKm (back_codes x0 i)
back_place (PlaceHm x0 x1) = λ i. PlaceHm (back_codes x0 i) x1
back_place (PlaceActive x0) = λ i. PlaceActive (back_codes x0 i)
back_place PlaceQsfpIdentifier = refl
back_place PlaceQsfp10g = refl
back_place (PlaceQsfp1g x0) = refl
back_place (PlaceQsfpConnector x0 x1) = refl
back_place (PlaceQsfpLength x0 x1) = refl
back_place (PlaceQsfpTechnology x0 x1) = refl

unfoldable pub flat_identify : Identify → IdentifyFlat
flat_identify s = record { b0 = (flat_handshake s.request).tag; b1 = (flat_handshake s.request).b1; b2 = (flat_handshake s.request).b2; b3 = (flat_handshake s.request).b3; b4 = (flat_handshake s.request).b4; b5 = (flat_handshake s.request).b5; b6 = (flat_handshake s.request).b6; b7 = (flat_handshake s.request).b7; b8 = (flat_handshake s.request).b8; b9 = (flat_handshake s.request).b9; b10 = (flat_handshake s.request).b10; b11 = (flat_handshake s.request).b11; b12 = (flat_handshake s.request).b12; b13 = (flat_handshake s.request).b13; b14 = (flat_place s.place).tag; b15 = (flat_place s.place).b1; b16 = (flat_place s.place).b2; b17 = (flat_place s.place).b3; b18 = (flat_place s.place).b4; h0 = (flat_handshake s.request).h0; w0 = (flat_handshake s.request).w0; w1 = (flat_handshake s.request).w1; w2 = (flat_handshake s.request).w2; z0 = (flat_handshake s.request).z0 }

unfoldable pub the_identify : IdentifyFlat → Identify
the_identify b = record { place = the_place (record { tag = b.b14; b1 = b.b15; b2 = b.b16; b3 = b.b17; b4 = b.b18 }); request = the_handshake (record { tag = b.b0; b1 = b.b1; b2 = b.b2; b3 = b.b3; b4 = b.b4; b5 = b.b5; b6 = b.b6; b7 = b.b7; b8 = b.b8; b9 = b.b9; b10 = b.b10; b11 = b.b11; b12 = b.b12; b13 = b.b13; h0 = b.h0; w0 = b.w0; w1 = b.w1; w2 = b.w2; z0 = b.z0 }) }

pub back_identify : (s : Identify) → the_identify (flat_identify s) ≡ s
unfolding flat_identify the_identify
back_identify s = λ i. record { place = back_place s.place i; request = back_handshake s.request i }

unfoldable pub flat_identify_call : IdentifyCall → State
flat_identify_call (Some (x0, x1, x2, x3)) = record { call = 2; tag = 0; b1 = (flat_identify x3).b0; b2 = (flat_identify x3).b1; b3 = (flat_identify x3).b2; b4 = (flat_identify x3).b3; b5 = (flat_identify x3).b4; b6 = (flat_identify x3).b5; b7 = (flat_identify x3).b6; b8 = (flat_identify x3).b7; b9 = (flat_identify x3).b8; b10 = (flat_identify x3).b9; b11 = (flat_identify x3).b10; b12 = (flat_identify x3).b11; b13 = (flat_identify x3).b12; b14 = (flat_identify x3).b13; b15 = (flat_port x0).b0; b16 = (flat_port x0).b1; b17 = (flat_meter x2).b0; b18 = (flat_identify x3).b14; b19 = (flat_identify x3).b15; b20 = (flat_identify x3).b16; b21 = (flat_identify x3).b17; b22 = (flat_identify x3).b18; b23 = flat_sequence x1; h0 = (flat_identify x3).h0; h1 = (flat_port x0).h0; h2 = 0; h3 = 0; h4 = 0; h5 = 0; h6 = 0; w0 = (flat_identify x3).w0; w1 = (flat_identify x3).w1; w2 = (flat_identify x3).w2; w3 = (flat_meter x2).w0; w4 = 0; w5 = 0; w6 = 0; w7 = 0; w8 = 0; z0 = (flat_identify x3).z0 }
flat_identify_call None = record { call = 2; tag = 1; b1 = 0; b2 = 0; b3 = 0; b4 = 0; b5 = 0; b6 = 0; b7 = 0; b8 = 0; b9 = 0; b10 = 0; b11 = 0; b12 = 0; b13 = 0; b14 = 0; b15 = 0; b16 = 0; b17 = 0; b18 = 0; b19 = 0; b20 = 0; b21 = 0; b22 = 0; b23 = 0; h0 = 0; h1 = 0; h2 = 0; h3 = 0; h4 = 0; h5 = 0; h6 = 0; w0 = 0; w1 = 0; w2 = 0; w3 = 0; w4 = 0; w5 = 0; w6 = 0; w7 = 0; w8 = 0; z0 = 0 }

unfoldable pub the_identify_call : State → IdentifyCall
the_identify_call b =
    pick (eqb b.tag 0) (Some ((the_port (record { b0 = b.b15; b1 = b.b16; h0 = b.h1 })), (the_sequence b.b23), (the_meter (record { b0 = b.b17; w0 = b.w3 })), (the_identify (record { b0 = b.b1; b1 = b.b2; b2 = b.b3; b3 = b.b4; b4 = b.b5; b5 = b.b6; b6 = b.b7; b7 = b.b8; b8 = b.b9; b9 = b.b10; b10 = b.b11; b11 = b.b12; b12 = b.b13; b13 = b.b14; h0 = b.h0; w0 = b.w0; w1 = b.w1; w2 = b.w2; z0 = b.z0; b14 = b.b18; b15 = b.b19; b16 = b.b20; b17 = b.b21; b18 = b.b22 }))))
    (None)

pub back_identify_call : (s : IdentifyCall) → the_identify_call (flat_identify_call s) ≡ s
unfolding flat_identify_call the_identify_call
back_identify_call (Some (x0, x1, x2, x3)) = λ i. Some ((back_port x0 i), (back_sequence x1 i), (back_meter x2 i), (back_identify x3 i))
back_identify_call None = refl

pub number_identify_call : (s : IdentifyCall) → (flat_identify_call s).call ≡ 2
unfolding flat_identify_call
number_identify_call (Some (x0, x1, x2, x3)) = refl
number_identify_call None = refl
