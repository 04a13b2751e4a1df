-- Where `soft_rate_select` stands: which of the two bytes, whether it is read or written back, and what is left then.
use Rattle.std.specs.Prelude.{ℕ, ◌+◌, Bool, true, false}
use Rattle.hardware.specs.declared.Port.{Port}
use Rattle.hardware.specs.Prog.{Prog, ret, R, Ok, ◌>>=◌, pick}
use Rattle.bus.specs.declared.Taken.{Taken}
use Rattle.transfer.specs.declared.attempt.Sequence.{Sequence}
use Rattle.i2c.specs.declared.once.Request.{Request}
use Rattle.i2c.specs.declared.once.Request.TheVariants.{ReadByte, WriteByte}
use Rattle.i2c.specs.I2c.{locked, attempts, transferred}
use Rattle.i2c.specs.Handshake.{valued}
use Rattle.sfp.specs.Rate.{DIAG, or_not, selected, rate_byte}
use Rattle.softrate.specs.declared.spot.Place.{Place}
use Rattle.softrate.specs.declared.spot.Place.TheVariants.{Reading, Writing}
use Rattle.softrate.specs.declared.spot.Spot.{Spot}

unfoldable pub offset_of : Bool → ℕ
offset_of false = 0x6e
offset_of true = 0x76

unfoldable pub request_of : Bool → Bool → Place → Request
request_of ten second Reading = ReadByte DIAG (offset_of second)
request_of ten second (Writing v) = WriteByte DIAG (offset_of second) (selected ten v)

unfoldable pub request_at : Bool → Spot → Request
request_at ten s = request_of ten s.second s.place

unfoldable pub tries_at : Port → Place → ℕ
tries_at port Reading = attempts port
tries_at port (Writing v) = 2

-- the most transfers of a byte up to a request's end
unfoldable pub up_to : Port → Place → ℕ
up_to port Reading = attempts port
up_to port (Writing v) = attempts port + 2

-- the most transfers before a byte
unfoldable pub before : Port → Bool → ℕ
before port second = pick second (attempts port + 2) 0

-- the most transfers up to a request's end
unfoldable pub cap_at : Port → Spot → ℕ
cap_at port s = before port s.second + up_to port s.place

-- before the first byte nothing has failed
unfoldable pub valid_spot : Spot → Bool
valid_spot s = pick s.second true s.ok

-- what follows a byte; ok: whether all went well so far
unfoldable pub next_byte : Sequence → Port → Bool → Bool → Bool → Prog (R Bool)
next_byte q port ten false ok = rate_byte q port ten ok 0x76 (λ both. ret (Ok both))
next_byte q port ten true ok = ret (Ok ok)

-- what is left once the request has succeeded: a byte that was read is changed and written
unfoldable pub on_place : Sequence → Port → Bool → Bool → Bool → Place → ℕ → Prog (R Bool)
on_place q port ten second ok Reading v =
    transferred port (WriteByte DIAG (offset_of second) (selected ten v)) (locked q) 2 >>= or_not (next_byte q port ten second) (λ _. next_byte q port ten second ok)
on_place q port ten second ok (Writing w) v = next_byte q port ten second ok

unfoldable pub on_at : Sequence → Port → Bool → Spot → ℕ → Prog (R Bool)
on_at q port ten s = on_place q port ten s.second s.ok s.place

-- ... or has not
unfoldable pub told_at : Sequence → Port → Bool → Spot → R Taken → Prog (R Bool)
told_at q port ten s = valued (request_at ten s) (or_not (next_byte q port ten s.second) (on_at q port ten s))

-- from the request on
unfoldable pub placed : Sequence → Port → Bool → Spot → Prog (R Bool)
placed q port ten s =
    transferred port (request_at ten s) (locked q) (tries_at port s.place) >>= or_not (next_byte q port ten s.second) (on_at q port ten s)
