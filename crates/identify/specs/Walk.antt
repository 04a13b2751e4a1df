-- An identification one access at a time: the request that is made now, and the place it is made for.
use Rattle.std.specs.Prelude.{Bool, true, false, Result}
use Rattle.hardware.specs.Marks.{marked, meter_on}
use Rattle.hardware.specs.declared.Access.{Access}
use Rattle.hardware.specs.declared.Answer.{Answer}
use Rattle.hardware.specs.declared.Meter.{Meter}
use Rattle.hardware.specs.declared.Port.{Port}
use Rattle.hardware.specs.Failures.{failure_of}
use Rattle.hardware.specs.Prog.{Prog, ret, ask, R, Ok, Err, erase, pick}
use Rattle.transfer.specs.declared.attempt.Sequence.{Sequence}
use Rattle.i2c.specs.Handshake.{access_handshake, rest_request, valid_request}
use Rattle.i2c.specs.I2c.{locked}
use Rattle.sfp.specs.declared.Identity.{Identity}
use Rattle.sfp.specs.Identify.{or_absent}
use Rattle.identify.specs.declared.walk.Identify.{Identify}
use Rattle.identify.specs.Place.{request_at, tries_at, cap_at, valid_place, on_at}
use Rattle.hardware.specs.Registers.{reply}
use Rattle.identify.specs.Aliases.{IdentifyNext}
use Rattle.hardware.specs.declared.Next.TheVariants.{Going, End}
use Rattle.hardware.specs.declared.Error.{Error}

unfoldable pub access_identify : Port → Identify → Access
access_identify port s = access_handshake port s.request

unfoldable pub rest_identify : Sequence → Port → Identify → Answer → Prog (R Identity)
rest_identify q port s a = rest_request port (request_at s.place) (locked q) (or_absent (on_at q port s.place)) s.request a

unfoldable pub identify_next : Sequence → Port → IdentifyNext → Prog (R Identity)
identify_next q port (Going (k, s)) = marked k (ask (access_identify port s) (λ a. erase (rest_identify q port s a)))
identify_next q port (End f) = ret (reply f)

-- the place is one, and its request is within its limits
unfoldable pub valid_identify : Port → Meter → Identify → Bool
valid_identify port m s =
    pick (valid_place s.place)
    (valid_request port (request_at s.place) (tries_at port s.place) (cap_at port s.place) m s.request) false

unfoldable pub valid_identify_next : Port → Meter → IdentifyNext → Bool
valid_identify_next port m (Going (k, s)) = valid_identify port (meter_on k m) s
valid_identify_next port m (End f) = true
