-- A page one access at a time: the request that is made now, and how many bytes come after it.
use Rattle.std.specs.Prelude.{ℕ, ◌*◌, suc, zero, Bool, true, false, List, [], ◌∷◌, ltb, set}
use Rattle.hardware.specs.declared.Access.{Access}
use Rattle.hardware.specs.declared.Answer.{Answer}
use Rattle.hardware.specs.declared.Meter.{Meter}
use Rattle.hardware.specs.declared.Port.{Port}
use Rattle.hardware.specs.Marks.{marked, meter_on}
use Rattle.hardware.specs.Prog.{Prog, ret, ask, note, give, erase, R, Ok, Err, pick}
use Rattle.bus.specs.declared.Taken.{Taken}
use Rattle.transfer.specs.declared.attempt.Sequence.{Sequence}
use Rattle.i2c.specs.I2c.{locked, transferred}
use Rattle.i2c.specs.Handshake.{access_handshake, rest_handshake, rest_request, valid_request}
use Rattle.page.specs.declared.walk.Form.{Form}
use Rattle.page.specs.declared.walk.Page.{Page}
use Rattle.page.specs.Page.{Filled, place_of, request_at, byte_seen, page_from, paged_of}
use Rattle.page.specs.Aliases.{PageNext}
use Rattle.hardware.specs.declared.Next.TheVariants.{Going, End}

-- the most transfers up to a byte, its own included
unfoldable pub cap_at : ℕ → ℕ → ℕ
cap_at tries left = suc (place_of left) * tries

unfoldable pub access_page : Port → Page → Access
access_page port s = access_handshake port s.request

-- buffer: as it is lent with the answer
unfoldable pub rest_page : Sequence → Port → Form → ℕ → Page → List ℕ → Answer → Prog Filled
rest_page q port form tries s buffer a =
    rest_request port (request_at form s.left) (locked q) (byte_seen (page_from q port form tries s.left) (place_of s.left) buffer) s.request a

-- What the buffer holds with so much of a byte's request left: the byte is stored where the request has brought it
unfoldable pub stored : ℕ → List ℕ → Prog (R Taken) → List ℕ
stored place buffer (ret (Ok t)) = set buffer place t.last
stored place buffer (ret (Err e)) = buffer
stored place buffer (ask x f) = buffer
stored place buffer (note n p) = stored place buffer p
stored place buffer (give b p) = stored place buffer p

unfoldable pub buffer_page : Sequence → Port → Form → Page → List ℕ → Answer → List ℕ
buffer_page q port form s buffer a = stored (place_of s.left) buffer (rest_handshake port (request_at form s.left) (locked q) s.request a)

-- What the buffer holds after these answers to what is left of a byte's request: the byte is stored where it has come, and next
-- goes on over the answers behind
unfoldable pub filling : ℕ → (List ℕ → List Answer → List ℕ) → List ℕ → Prog (R ℕ) → List Answer → List ℕ
filling place next buffer (ret (Ok v)) l = next (set buffer place v) l
filling place next buffer (ret (Err e)) l = buffer
filling place next buffer (ask x f) [] = buffer
filling place next buffer (ask x f) (a ∷ l) = filling place next buffer (f a) l
filling place next buffer (note n p) l = filling place next buffer p l
filling place next buffer (give b p) l = filling place next buffer p l

-- the same of the last n bytes
unfoldable pub filled_from : Sequence → Port → Form → ℕ → ℕ → List ℕ → List Answer → List ℕ
filled_from q port form tries zero buffer l = buffer
filled_from q port form tries (suc left) buffer l =
    filling (place_of left) (filled_from q port form tries left) buffer (transferred port (request_at form left) (locked q) tries) l

-- and from a state on
unfoldable pub filled_at : Sequence → Port → Form → ℕ → Page → List ℕ → List Answer → List ℕ
filled_at q port form tries s buffer l =
    filling (place_of s.left) (filled_from q port form tries s.left) buffer
    (ask (access_page port s) (λ a. rest_request port (request_at form s.left) (locked q) ret s.request a)) l

unfoldable pub filled_next : Sequence → Port → Form → ℕ → PageNext → List ℕ → List Answer → List ℕ
filled_next q port form tries (Going (k, s)) buffer l = filled_at q port form tries s buffer l
filled_next q port form tries (End p) buffer l = buffer

-- The parts of what a step promises. holds: what the buffer then holds. fills: what it holds after any further answers
pub record Fills (Yields Limits Holds After : Type 0) : Type 0 where
  pub yields : Yields
  pub limits : Limits
  pub holds : Holds
  pub fills : After

unfoldable pub page_next : Sequence → Port → Form → ℕ → PageNext → List ℕ → Prog Filled
page_next q port form tries (Going (k, s)) buffer = marked k (ask (access_page port s) (λ a. erase (rest_page q port form tries s buffer a)))
page_next q port form tries (End p) buffer = ret (record { result = paged_of p; buffer = buffer })

-- the place is one of a page's, and its request is within its limits
unfoldable pub valid_page : Port → Form → ℕ → Meter → Page → Bool
valid_page port form tries m s =
    pick (ltb s.left 96) (valid_request port (request_at form s.left) tries (cap_at tries s.left) m s.request) false

unfoldable pub valid_page_next : Port → Form → ℕ → Meter → PageNext → Bool
valid_page_next port form tries m (Going (k, s)) = valid_page port form tries (meter_on k m) s
valid_page_next port form tries m (End p) = true
