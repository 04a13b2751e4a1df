-- A step inside a command moves a call's request alone.
use mathlib.Core.Path.{◌≡◌, ap, sym, ◌∙◌}
use mathlib.Core.Bool.{true}
use Rattle.hardware.specs.declared.Access.{Access}
use Rattle.hardware.specs.declared.Answer.{Answer}
use Rattle.hardware.specs.declared.Meter.{Meter}
use Rattle.hardware.specs.declared.Port.{Port}
use Rattle.hardware.specs.Asked.{yes}
use Rattle.hardware.specs.Marks.{valid_held}
use Rattle.hardware.specs.Promise.{Keeps}
use Rattle.bus.proofs.Laws.{picked}
use Rattle.transfer.specs.declared.attempt.Sequence.{Sequence}
use Rattle.i2c.specs.declared.handshake.Handshake.{Handshake}
use Rattle.i2c.specs.I2c.{locked}
use Rattle.i2c.specs.Handshake.{rest_request}
use Rattle.i2c.specs.Direct.{RequestMoves}
use Rattle.i2c.proofs.Moves.{admitted, request_on}
use Rattle.identify.specs.declared.place.Place.{Place}
use Rattle.identify.specs.Place.{request_at, tries_at, cap_at, valid_place}
use Rattle.identify.specs.Walk.{access_identify, rest_identify, valid_identify}
use Rattle.identify.specs.Calls.{said_identify, stands_identify, step_identify, valid_call}
use Rattle.hardware.specs.declared.Told.TheVariants.{Ask}
use Rattle.std.specs.Prelude.{Ok, Some}

pub identify_on : (port : Port) (q : Sequence) (m : Meter) (p : Place) (h g : Handshake) (a : Answer) (x : Access)
    → valid_held port m ≡ true → valid_place p ≡ true → RequestMoves port (request_at p) (tries_at port p) (cap_at port p) m h a x g
    → Keeps (said_identify (Ok (Ask x (Some (port, q, m, (record { place = p; request = g }))))) ≡ step_identify (Some (port, q, m, (record { place = p; request = h }))) a) (stands_identify (Ok (Ask x (Some (port, q, m, (record { place = p; request = g }))))))
unfolding said_identify stands_identify step_identify valid_call valid_identify access_identify rest_identify rest_request
identify_on port q m p h g a x held v d =
    record {
      yields = ap yes (request_on port (request_at p) (locked q) (tries_at port p) (cap_at port p) m h g a x _ d) ∙ sym (admitted _ _ a _ (picked _ _ held (picked _ _ v d.valid)) d.kind);
      limits = (d.access, picked _ _ held (picked _ _ v d.limits));
    }
