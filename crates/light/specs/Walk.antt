-- A call one access at a time: the request that is made now, how many bytes may come after it, and what was read before it.
use Rattle.std.specs.Prelude.{ℕ, ◌*◌, ◌-◌, suc, Bool, true, false, leb}
use Rattle.hardware.specs.declared.Access.{Access}
use Rattle.hardware.specs.declared.Answer.{Answer}
use Rattle.hardware.specs.declared.Meter.{Meter}
use Rattle.hardware.specs.declared.Port.{Port}
use Rattle.hardware.specs.Marks.{marked, meter_on}
use Rattle.hardware.specs.Prog.{Prog, ret, ask, erase, R, pick}
use Rattle.transfer.specs.declared.attempt.Sequence.{Sequence}
use Rattle.i2c.specs.I2c.{locked}
use Rattle.i2c.specs.Handshake.{access_handshake, rest_request, valid_request}
use Rattle.light.specs.declared.sensed.Measures.{Measures}
use Rattle.light.specs.declared.walk.Light.{Light}
use Rattle.light.specs.Sensed.{measured_of}
use Rattle.light.specs.Light.{FIRST, byte_seen, light_from, request_at}
use Rattle.light.specs.Aliases.{LightNext}
use Rattle.hardware.specs.declared.Next.TheVariants.{Going, End}

-- the most transfers up to a byte, its own included
unfoldable pub cap_at : ℕ → ℕ → ℕ
cap_at tries left = suc (FIRST - left) * tries

unfoldable pub access_light : Port → Light → Access
access_light port s = access_handshake port s.request

unfoldable pub rest_light : Sequence → Port → ℕ → Light → Answer → Prog (R Measures)
rest_light q port tries s a =
    rest_request port (request_at s.left) (locked q) (byte_seen (light_from q port tries s.left) s.left s.sensed) s.request a

unfoldable pub light_next : Sequence → Port → ℕ → LightNext → Prog (R Measures)
light_next q port tries (Going (k, s)) = marked k (ask (access_light port s) (λ a. erase (rest_light q port tries s a)))
light_next q port tries (End r) = ret (measured_of r)

-- there are no more bytes left than after the first, and the request is within its limits
unfoldable pub valid_light : Port → ℕ → Meter → Light → Bool
valid_light port tries m s =
    pick (leb s.left FIRST) (valid_request port (request_at s.left) tries (cap_at tries s.left) m s.request) false

unfoldable pub valid_light_next : Port → ℕ → Meter → LightNext → Bool
valid_light_next port tries m (Going (k, s)) = valid_light port tries (meter_on k m) s
valid_light_next port tries m (End r) = true
