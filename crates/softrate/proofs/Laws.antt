-- Requests one after another: what the machine's proofs use.
use Prim.Native.Nat.{ℕ, ◌+◌, ◌-◌, ◌<◌, ◌≤◌}
use mathlib.Core.Path.{◌≡◌, refl}
use mathlib.Core.Bool.{Bool, true, false}
use native.Mathlib.Omega.{arith}
use Rattle.hardware.specs.Marks.{FULL}
use Rattle.hardware.specs.declared.Meter.{Meter}
use Rattle.hardware.specs.declared.Port.{Port}
use Rattle.hardware.specs.Prog.{Ok, pick}
use Rattle.bus.specs.declared.Taken.{Taken}
use Rattle.bus.proofs.Laws.{picked_second}
use Rattle.transfer.specs.declared.attempt.Sequence.{Sequence}
use Rattle.i2c.specs.I2c.{attempts, is_write, read_off, value_of}
use Rattle.i2c.specs.Retry.{wanted}
use Rattle.i2c.specs.Handshake.{valued}
use Rattle.i2c.proofs.Laws.{fits_below, attempts_few, attempts_some}
use Rattle.sfp.specs.Rate.{or_not, rate_byte, soft_rate_select}
use Rattle.softrate.specs.declared.spot.Place.{Place}
use Rattle.softrate.specs.declared.spot.Place.TheVariants.{Reading, Writing}
use Rattle.softrate.specs.declared.spot.Spot.{Spot}
use Rattle.softrate.specs.declared.walk.Rate.{Rate}
use Rattle.softrate.specs.Spot.{offset_of, request_of, request_at, tries_at, up_to, before, cap_at, valid_spot, next_byte, on_place, on_at, told_at, placed}
use Rattle.softrate.specs.Walk.{valid_rate}

before_few : (port : Port) (second : Bool) → before port second ≤ 13
unfolding before pick
before_few port true = omega (arith, attempts_few port)
before_few port false = omega arith

pub before_fits : (port : Port) (second : Bool) (n : ℕ) → n ≡ before port second → n ≤ 13
before_fits port second n e = rw e (before_few port second)

-- a byte's requests take its attempts and two more at most
pub up_done : (port : Port) (p : Place) → up_to port p ≤ attempts port + 2
unfolding up_to
up_done port Reading = omega arith
up_done port (Writing v) = omega arith

pub cap_done : (port : Port) (s : Spot) → cap_at port s ≤ before port s.second + (attempts port + 2)
unfolding cap_at
cap_done port s = omega (arith, up_done port s.place)

pub cap_most : (port : Port) (s : Spot) → cap_at port s < FULL
cap_most port s = omega (arith, cap_done port s, before_few port s.second, attempts_few port)

-- the first byte leaves room for the second
pub cap_next : (port : Port) (ok : Bool) (made : ℕ) → made ≤ before port false + (attempts port + 2)
    → made + tries_at port Reading ≤ cap_at port (record { second = true; ok = ok; place = Reading })
unfolding cap_at before up_to tries_at pick
cap_next port ok made h = omega (arith, h)

-- a request has an attempt, and makes those that stand in its state
own_of : (port : Port) (ten second : Bool) (p : Place)
    → (0 < wanted (request_of ten second p) (tries_at port p)) × (wanted (request_of ten second p) (tries_at port p) ≤ tries_at port p)
unfolding wanted request_of is_write tries_at pick
own_of port ten second Reading = (omega (arith, attempts_some port), omega arith)
own_of port ten second (Writing v) = (omega arith, omega arith)

pub own : (port : Port) (ten : Bool) (s : Spot)
    → (0 < wanted (request_at ten s) (tries_at port s.place)) × (wanted (request_at ten s) (tries_at port s.place) ≤ tries_at port s.place)
unfolding request_at
own port ten s = own_of port ten s.second s.place

-- what was read is written back
pub write_placed : (q : Sequence) (port : Port) (ten second ok : Bool) (v : ℕ)
    → placed q port ten (record { second = second; ok = ok; place = Writing v }) ≡ on_place q port ten second ok Reading v
unfolding placed on_place on_at request_at request_of tries_at
write_placed q port ten second ok v = refl

-- a byte that was read leaves room for writing it back
pub read_room : (port : Port) (s : Spot) (v made : ℕ) → s.place ≡ Reading → made ≤ cap_at port s
    → made + tries_at port (Writing v) ≤ cap_at port (record { second = s.second; ok = s.ok; place = Writing v })
unfolding cap_at up_to tries_at
read_room port s v made e h = more (rw e at h)
  where
    more : made ≤ before port s.second + attempts port → made + 2 ≤ before port s.second + (attempts port + 2)
    more k = omega (arith, k)

-- the second byte's request, and the first's
pub next_placed : (q : Sequence) (port : Port) (ten ok : Bool) → placed q port ten (record { second = true; ok = ok; place = Reading }) ≡ next_byte q port ten false ok
unfolding placed on_place on_at request_at request_of offset_of tries_at next_byte rate_byte
next_placed q port ten ok = refl

pub first_placed : (q : Sequence) (port : Port) (ten : Bool) → placed q port ten (record { second = false; ok = true; place = Reading }) ≡ soft_rate_select q port ten
unfolding placed on_place on_at request_at request_of offset_of tries_at next_byte rate_byte soft_rate_select
first_placed q port ten = refl

-- a request's value is the last byte that it read; a write's is not looked at
pub on_told : (q : Sequence) (port : Port) (ten : Bool) (s : Spot) (t : Taken) → on_place q port ten s.second s.ok s.place t.last ≡ told_at q port ten s (Ok t)
unfolding told_at valued on_at on_place request_at request_of or_not value_of read_off
on_told q port ten s t = by s.second s.ok s.place
  where
    by : (second ok : Bool) (p : Place) → on_place q port ten second ok p t.last ≡ or_not (next_byte q port ten second) (on_place q port ten second ok p) (value_of (request_of ten second p) (Ok t))
    by second ok Reading = refl
    by second ok (Writing v) = refl

-- the count of a state within its limits is below the top of its type
pub valid_below : (port : Port) (ten : Bool) (m : Meter) (s : Rate) → valid_rate port ten m s ≡ true → m.transfers < FULL
unfolding valid_rate
valid_below port ten m s v =
    fits_below port (request_at ten s.spot) (tries_at port s.spot.place) (cap_at port s.spot) m s.request (cap_most port s.spot) (picked_second (valid_spot s.spot) _ v)
