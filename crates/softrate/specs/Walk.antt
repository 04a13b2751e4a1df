-- A rate selection one access at a time: the request that is made now, and the spot it is made for.
use Rattle.std.specs.Prelude.{Bool, true, false}
use Rattle.hardware.specs.Marks.{marked, meter_on}
use Rattle.hardware.specs.declared.Access.{Access}
use Rattle.hardware.specs.declared.Answer.{Answer}
use Rattle.hardware.specs.declared.Meter.{Meter}
use Rattle.hardware.specs.declared.Port.{Port}
use Rattle.hardware.specs.Prog.{Prog, ret, ask, R, erase, pick}
use Rattle.hardware.specs.Registers.{reply}
use Rattle.transfer.specs.declared.attempt.Sequence.{Sequence}
use Rattle.i2c.specs.Handshake.{access_handshake, rest_request, valid_request}
use Rattle.i2c.specs.I2c.{locked}
use Rattle.sfp.specs.Rate.{or_not}
use Rattle.softrate.specs.declared.walk.Rate.{Rate}
use Rattle.softrate.specs.Spot.{request_at, tries_at, cap_at, valid_spot, next_byte, on_at}
use Rattle.softrate.specs.Aliases.{RateNext}
use Rattle.hardware.specs.declared.Next.TheVariants.{Going, End}

unfoldable pub access_rate : Port → Rate → Access
access_rate port s = access_handshake port s.request

unfoldable pub rest_rate : Sequence → Port → Bool → Rate → Answer → Prog (R Bool)
rest_rate q port ten s a =
    rest_request port (request_at ten s.spot) (locked q) (or_not (next_byte q port ten s.spot.second) (on_at q port ten s.spot)) s.request a

unfoldable pub rate_next : Sequence → Port → Bool → RateNext → Prog (R Bool)
rate_next q port ten (Going (k, s)) = marked k (ask (access_rate port s) (λ a. erase (rest_rate q port ten s a)))
rate_next q port ten (End f) = ret (reply f)

-- the spot is one, and its request is within its limits
unfoldable pub valid_rate : Port → Bool → Meter → Rate → Bool
valid_rate port ten m s =
    pick (valid_spot s.spot)
    (valid_request port (request_at ten s.spot) (tries_at port s.spot.place) (cap_at port s.spot) m s.request) false

unfoldable pub valid_rate_next : Port → Bool → Meter → RateNext → Bool
valid_rate_next port ten m (Going (k, s)) = valid_rate port ten (meter_on k m) s
valid_rate_next port ten m (End f) = true
