-- How many answers an identification may still need, from any state.
use Prim.Native.Nat.{ℕ, ◌+◌, ◌*◌}
use mathlib.Core.Bool.{Bool, true, false}
use native.Mathlib.Omega.{arith}
use Rattle.hardware.specs.declared.Answer.{Answer}
use Rattle.hardware.specs.declared.Family.{Family}
use Rattle.hardware.specs.declared.Port.{Port}
use Rattle.hardware.specs.Runs.{Ends}
use Rattle.hardware.proofs.Ends.{ends_more, ends_pick, ret_ends}
use Rattle.transfer.specs.declared.attempt.Sequence.{Sequence}
use Rattle.i2c.specs.I2c.{locked}
use Rattle.i2c.proofs.Laws.{attempts_few}
use Rattle.i2c.proofs.Ends.{handshake_after, request_rest_ends}
use Rattle.sfp.specs.declared.Codes.{Codes}
use Rattle.sfp.specs.Identify.{classify, identified}
use Rattle.sfp.specs.Qsfp.{qsfp_known, qsfp_identified}
use Rattle.sfp.proofs.Ends.{BYTE_STEPS, absent_ends, byte_ends, identifier_ends, reach_ends, bx_ends, kind_ends, known_ends, technology_ends, length_ends, connector_ends, codes_ends}
use Rattle.identify.specs.declared.place.Place.{Place}
use Rattle.identify.specs.declared.place.Place.TheVariants.{Identifier, Comp1g, Comp10g, Cable, Rate, Km, Hm, Active, QsfpIdentifier, Qsfp10g, Qsfp1g, QsfpConnector, QsfpLength, QsfpTechnology}
use Rattle.identify.specs.declared.walk.Identify.{Identify}
use Rattle.identify.specs.Place.{request_at, kinded, on_at}
use Rattle.identify.specs.Walk.{rest_identify}

-- behind a place's byte: the requests that may follow
abbrev pub place_after : Family → Place → ℕ
place_after f (Identifier left) = left * BYTE_STEPS f + 7 * BYTE_STEPS f
place_after f Comp1g = 6 * BYTE_STEPS f
place_after f (Comp10g g1) = 5 * BYTE_STEPS f
place_after f (Cable g1 g10) = 4 * BYTE_STEPS f
place_after f (Rate c) = 3 * BYTE_STEPS f
place_after f (Km c) = 2 * BYTE_STEPS f
place_after f (Hm c km) = BYTE_STEPS f
place_after f (Active c) = 0
place_after f QsfpIdentifier = 5 * BYTE_STEPS f
place_after f Qsfp10g = 4 * BYTE_STEPS f
place_after f (Qsfp1g g10) = 3 * BYTE_STEPS f
place_after f (QsfpConnector g10 g1) = 2 * BYTE_STEPS f
place_after f (QsfpLength g10 g1) = BYTE_STEPS f
place_after f (QsfpTechnology g10 g1) = 0

-- after the answer that is awaited
abbrev pub identify_after : Family → Identify → ℕ
identify_after f s = handshake_after f (request_at s.place) true s.request + place_after f s.place

module _ (q : Sequence) (port : Port) where
  kinded_ends : (c : Codes) (bx : Bool) → Ends (kinded q port c bx) (BYTE_STEPS port.family)
  unfolding kinded
  kinded_ends c bx = ends_more _ (BYTE_STEPS port.family + 0) (BYTE_STEPS port.family) (kind_ends q port c bx _ 0 (λ kind. ret_ends _ 0)) (omega arith)

  classify_ends : (identifier : ℕ) (c : Codes) → Ends (classify q port identifier c) (4 * BYTE_STEPS port.family)
  unfolding classify
  classify_ends identifier c = ends_more _ _ _ (bx_ends q port c _ _ (λ bx. kind_ends q port c bx _ 0 (λ kind. ret_ends _ 0))) (omega arith)

  identified_ends : (v : ℕ) → Ends (identified q port v) (7 * BYTE_STEPS port.family)
  unfolding identified
  identified_ends v = ends_pick _ _ _ _ (known_ends q port v) (ret_ends _ _)

  place_ends : (p : Place) (v : ℕ) → Ends (on_at q port p v) (place_after port.family p)
  unfolding on_at qsfp_identified qsfp_known
  place_ends (Identifier left) v =
      ends_pick _ _ _ _ (ends_more _ _ _ (identified_ends v) (omega arith)) (identifier_ends q port left v _ (7 * BYTE_STEPS port.family) identified_ends)
  place_ends Comp1g v =
      ends_more _ _ _ (byte_ends q port 3 _ _ _ (attempts_few port) (λ g10. byte_ends q port 8 _ _ _ (attempts_few port) (λ cable. classify_ends _ _))) (omega arith)
  place_ends (Comp10g g1) v = ends_more _ _ _ (byte_ends q port 8 _ _ _ (attempts_few port) (λ cable. classify_ends _ _)) (omega arith)
  place_ends (Cable g1 g10) v = classify_ends _ _
  place_ends (Rate c) v =
      ends_pick _ _ _ _ (ends_more _ _ _ (reach_ends q port _ _ (kinded_ends c)) (omega arith)) (ends_more _ _ _ (kinded_ends c false) (omega arith))
  place_ends (Km c) v = ends_more _ _ _ (byte_ends q port 15 _ _ _ (attempts_few port) (λ hm. kinded_ends c _)) (omega arith)
  place_ends (Hm c km) v = kinded_ends c _
  place_ends (Active c) v = ret_ends _ 0
  place_ends QsfpIdentifier v =
      ends_pick _ _ _ _
      (ends_more _ _ _ (byte_ends q port 0x83 _ _ _ (attempts_few port) (λ g10. byte_ends q port 0x86 _ _ _ (attempts_few port) (codes_ends q port g10))) (omega arith))
      (ret_ends _ _)
  place_ends Qsfp10g v = ends_more _ _ _ (byte_ends q port 0x86 _ _ _ (attempts_few port) (codes_ends q port v)) (omega arith)
  place_ends (Qsfp1g g10) v = codes_ends q port g10 v
  place_ends (QsfpConnector g10 g1) v = ends_more _ _ _ (connector_ends q port g10 g1 v) (omega arith)
  place_ends (QsfpLength g10 g1) v = ends_more _ _ _ (length_ends q port g10 g1 v) (omega arith)
  place_ends (QsfpTechnology g10 g1) v = technology_ends q port g10 g1 v

  pub identify_rest_ends : (s : Identify) (a : Answer) → Ends (rest_identify q port s a) (identify_after port.family s)
  unfolding rest_identify
  identify_rest_ends s a =
      request_rest_ends port (request_at s.place) (locked q) _ (place_after port.family s.place) (absent_ends q port _ _ (place_ends s.place)) s.request a
