-- Requests one after another: what the machine's proofs use.
use Prim.Native.Nat.{ℕ, ◌+◌, ◌*◌, ◌-◌, ◌/◌, ◌<◌, ◌≤◌, suc, zero}
use mathlib.Core.Path.{◌≡◌, refl, ap, ◌∙◌, sym}
use mathlib.Core.Bool.{Bool, true, false}
use native.Mathlib.Nat.{mul-le-mul}
use native.Mathlib.Omega.{arith}
use lib.Dec.{eqb}
use borrow.Author.Tests.{lt-ltb, ltb-true}
use Rattle.hardware.specs.declared.Meter.{Meter}
use Rattle.hardware.specs.declared.Port.{Port}
use Rattle.hardware.specs.Marks.{FULL}
use Rattle.hardware.specs.Prog.{Prog, ret, R, Ok, pick}
use Rattle.bus.specs.Layout.{x550em}
use Rattle.bus.proofs.Laws.{picked_second}
use Rattle.transfer.specs.declared.attempt.Sequence.{Sequence}
use Rattle.i2c.specs.I2c.{attempts, is_write}
use Rattle.i2c.specs.Retry.{wanted}
use Rattle.i2c.proofs.Laws.{fits_below, attempts_few}
use Rattle.sfp.specs.declared.Codes.{Codes}
use Rattle.sfp.specs.declared.Kind.{Kind}
use Rattle.sfp.specs.declared.Kind.TheVariants.{DaCu, DaActiveLimiting, SrLr, Unknown}
use Rattle.sfp.specs.declared.Identity.{Identity}
use Rattle.sfp.specs.Classes.{has, SFP, PASSIVE_DA, ACTIVE_DA}
use Rattle.sfp.specs.Identify.{byte, identifier_of, fibre_of, kind_by, recorded, identified}
use Rattle.sfp.specs.Coded.{coded_by, qsfp_coded, qsfp_cable}
use Rattle.sfp.specs.Qsfp.{qsfp_found, qsfp_technology, qsfp_classify}
use Rattle.identify.specs.declared.place.Place.{Place}
use Rattle.identify.specs.declared.place.Place.TheVariants.{Identifier, Comp1g, Comp10g, Cable, Rate, Km, Hm, Active, QsfpIdentifier, Qsfp10g, Qsfp1g, QsfpConnector, QsfpLength, QsfpTechnology}
use Rattle.identify.specs.declared.walk.Identify.{Identify}
use Rattle.identify.specs.Place.{readings_at, requests_at, request_at, tries_at, most, cap_at, valid_place, kinded, on_at, placed}
use Rattle.identify.specs.Walk.{valid_identify}
use Rattle.std.specs.Prelude.{Some, None, Option}

-- a place has at least one attempt
tries_some : (port : Port) (p : Place) → tries_at port p ≡ suc (tries_at port p - 1)
unfolding tries_at attempts pick
tries_some port p = by (eqb (requests_at p) 0) (x550em port.family)
  where
    by : (b c : Bool) → pick b 11 (pick c 4 11) ≡ suc (pick b 11 (pick c 4 11) - 1)
    by true c = refl
    by false true = refl
    by false false = refl

few : (p : Place) → (readings_at p ≤ 5) × (requests_at p ≤ 7)
few (Identifier left) = omega arith
few Comp1g = omega arith
few (Comp10g g1) = omega arith
few (Cable g1 g10) = omega arith
few (Rate c) = omega arith
few (Km c) = omega arith
few (Hm c km) = omega arith
few (Active c) = omega arith
few QsfpIdentifier = omega arith
few Qsfp10g = omega arith
few (Qsfp1g g10) = omega arith
few (QsfpConnector g10 g1) = omega arith
few (QsfpLength g10 g1) = omega arith
few (QsfpTechnology g10 g1) = omega arith

pub few_requests : (port : Port) (p : Place) → requests_at p * attempts port ≤ 77
few_requests port p = mul-le-mul (few p).1 (attempts_few port)

pub cap_most : (port : Port) (p : Place) → cap_at port p < FULL
unfolding cap_at most
cap_most port p = omega (arith, (few p).0, few_requests port p)

-- byte 0 again, or the next byte
pub cap_first : (port : Port) (left : ℕ) → cap_at port (Identifier left) + tries_at port Comp1g ≤ cap_at port Comp1g
unfolding cap_at most tries_at pick
cap_first port left = omega arith

pub cap_again : (port : Port) (left : ℕ) → (left ≡ 0 → ⊥) → valid_place (Identifier left) ≡ true
    → (valid_place (Identifier (left - 1)) ≡ true) × (cap_at port (Identifier left) + tries_at port (Identifier (left - 1)) ≤ cap_at port (Identifier (left - 1)))
unfolding valid_place cap_at most tries_at pick
cap_again port zero n h = absurd (n refl)
cap_again port (suc left) n h = (lt-ltb 0 (5 - (suc left - 1)) (omega (arith, ltb-true 0 (5 - suc left) h)), omega (arith, ltb-true 0 (5 - suc left) h))

pub placed_again : (q : Sequence) (port : Port) (left v : ℕ) → (left ≡ 0 → ⊥) → identifier_of q port left v (identified q port) ≡ placed q port (Identifier (left - 1))
unfolding identifier_of placed tries_at on_at pick
placed_again q port zero v n = absurd (n refl)
placed_again q port (suc left) v n = ap (λ k. byte q port 0 11 (on_at q port (Identifier k))) less
  where
    less : left ≡ suc left - 1
    less = omega arith

-- what follows the codes: a kind, or the bytes of an active cable
abbrev on_coded : (Option Kind) → (Kind → Prog (R Identity)) → Prog (R Identity) → Prog (R Identity)
on_coded (Some kind) f other = f kind
on_coded None f other = other

kinded_is : (q : Sequence) (port : Port) (c : Codes) (bx : Bool)
    → on_coded (coded_by c bx) (λ kind. ret (Ok (recorded SFP c kind))) (placed q port (Active c)) ≡ kinded q port c bx
unfolding coded_by kinded kind_by placed tries_at on_at pick
kinded_is q port c bx = by (has c.cable PASSIVE_DA) (has c.cable ACTIVE_DA) (λ kind. ret (Ok (recorded SFP c kind))) (placed q port (Active c)) (fibre_of c bx)
  where
    by : (a b : Bool) (f : Kind → Prog (R Identity)) (other : Prog (R Identity)) (kind : Kind)
        → on_coded (pick a (Some DaCu) (pick b None (Some kind))) f other ≡ pick a (f DaCu) (pick b other (f kind))
    by true b f other kind = refl
    by false true f other kind = refl
    by false false f other kind = refl

pub kinded_known : (q : Sequence) (port : Port) (c : Codes) (bx : Bool) (kind : Kind) → coded_by c bx ≡ Some kind → ret (Ok (recorded SFP c kind)) ≡ kinded q port c bx
kinded_known q port c bx kind e = ap (λ r. on_coded r (λ k. ret (Ok (recorded SFP c k))) (placed q port (Active c))) (sym e) ∙ kinded_is q port c bx

pub kinded_open : (q : Sequence) (port : Port) (c : Codes) (bx : Bool) → coded_by c bx ≡ None → placed q port (Active c) ≡ kinded q port c bx
kinded_open q port c bx e = ap (λ r. on_coded r (λ k. ret (Ok (recorded SFP c k))) (placed q port (Active c))) (sym e) ∙ kinded_is q port c bx

qsfp_is : (q : Sequence) (port : Port) (g10 g1 : ℕ) → on_coded (qsfp_coded g10) (qsfp_found g10 g1) (placed q port (QsfpConnector g10 g1)) ≡ qsfp_classify q port g10 g1
unfolding qsfp_coded qsfp_classify placed tries_at on_at pick
qsfp_is q port g10 g1 = by (has g10 0x08) (has g10 0x30) (has g10 0x01) (qsfp_found g10 g1) (placed q port (QsfpConnector g10 g1))
  where
    by : (a b c : Bool) (f : Kind → Prog (R Identity)) (other : Prog (R Identity))
        → on_coded (pick a (Some DaCu) (pick b (Some SrLr) (pick c (Some DaActiveLimiting) None))) f other
        ≡ pick a (f DaCu) (pick b (f SrLr) (pick c (f DaActiveLimiting) other))
    by true b c f other = refl
    by false true c f other = refl
    by false false true f other = refl
    by false false false f other = refl

pub qsfp_known_lem : (q : Sequence) (port : Port) (g10 g1 : ℕ) (kind : Kind) → qsfp_coded g10 ≡ Some kind → qsfp_found g10 g1 kind ≡ qsfp_classify q port g10 g1
qsfp_known_lem q port g10 g1 kind e = ap (λ r. on_coded r (qsfp_found g10 g1) (placed q port (QsfpConnector g10 g1))) (sym e) ∙ qsfp_is q port g10 g1

pub qsfp_open : (q : Sequence) (port : Port) (g10 g1 : ℕ) → qsfp_coded g10 ≡ None → placed q port (QsfpConnector g10 g1) ≡ qsfp_classify q port g10 g1
qsfp_open q port g10 g1 e = ap (λ r. on_coded r (qsfp_found g10 g1) (placed q port (QsfpConnector g10 g1))) (sym e) ∙ qsfp_is q port g10 g1

-- a cable by its technology
pub technology_is : (g10 g1 v : ℕ) (kind : Kind) → kind ≡ qsfp_cable v → qsfp_found g10 g1 kind ≡ qsfp_technology g10 g1 v
unfolding qsfp_cable qsfp_technology pick
technology_is g10 g1 v kind e = ap (qsfp_found g10 g1) e ∙ by (eqb (v / 16) 0)
  where
    by : (b : Bool) → qsfp_found g10 g1 (pick b DaActiveLimiting Unknown) ≡ pick b (qsfp_found g10 g1 DaActiveLimiting) (qsfp_found g10 g1 Unknown)
    by true = refl
    by false = refl

-- a request has an attempt, and makes those that stand in its state
pub own : (port : Port) (p : Place) → (0 < wanted (request_at p) (tries_at port p)) × (wanted (request_at p) (tries_at port p) ≤ tries_at port p)
unfolding wanted request_at is_write pick
own port p = (omega (arith, tries_some port p), omega arith)

-- the count of a state within its limits is below the top of its type
pub valid_below : (port : Port) (m : Meter) (s : Identify) → valid_identify port m s ≡ true → m.transfers < FULL
unfolding valid_identify
valid_below port m s v =
    fits_below port (request_at s.place) (tries_at port s.place) (cap_at port s.place) m s.request (cap_most port s.place) (picked_second (valid_place s.place) _ v)
