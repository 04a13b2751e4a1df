-- A step inside a command moves a call's request alone.
use mathlib.Core.Path.{◌≡◌, ap, sym, ◌∙◌}
use mathlib.Core.Bool.{Bool, true}
use Rattle.hardware.specs.declared.Access.{Access}
use Rattle.hardware.specs.declared.Answer.{Answer}
use Rattle.hardware.specs.declared.Meter.{Meter}
use Rattle.hardware.specs.declared.Port.{Port}
use Rattle.hardware.specs.Asked.{yes}
use Rattle.hardware.specs.Marks.{valid_held}
use Rattle.hardware.specs.Promise.{Keeps}
use Rattle.bus.proofs.Laws.{picked}
use Rattle.transfer.specs.declared.attempt.Sequence.{Sequence}
use Rattle.i2c.specs.declared.handshake.Handshake.{Handshake}
use Rattle.i2c.specs.I2c.{locked}
use Rattle.i2c.specs.Handshake.{rest_request}
use Rattle.i2c.specs.Direct.{RequestMoves}
use Rattle.i2c.proofs.Moves.{admitted, request_on}
use Rattle.softrate.specs.declared.spot.Spot.{Spot}
use Rattle.softrate.specs.Spot.{request_at, tries_at, cap_at, valid_spot}
use Rattle.softrate.specs.Walk.{access_rate, rest_rate, valid_rate}
use Rattle.softrate.specs.Calls.{said_rate, stands_rate, step_rate, valid_call}
use Rattle.hardware.specs.declared.Told.TheVariants.{Ask}
use Rattle.std.specs.Prelude.{Ok, Some}

pub rate_on : (port : Port) (q : Sequence) (ten : Bool) (m : Meter) (p : Spot) (h g : Handshake) (a : Answer) (x : Access)
    → valid_held port m ≡ true → valid_spot p ≡ true → RequestMoves port (request_at ten p) (tries_at port p.place) (cap_at port p) m h a x g
    → Keeps (said_rate (Ok (Ask x (Some (port, q, ten, m, (record { spot = p; request = g }))))) ≡ step_rate (Some (port, q, ten, m, (record { spot = p; request = h }))) a) (stands_rate (Ok (Ask x (Some (port, q, ten, m, (record { spot = p; request = g }))))))
unfolding said_rate stands_rate step_rate valid_call valid_rate access_rate rest_rate rest_request
rate_on port q ten m p h g a x held v d =
    record {
      yields = ap yes (request_on port (request_at ten p) (locked q) (tries_at port p.place) (cap_at port p) m h g a x _ d) ∙ sym (admitted _ _ a _ (picked _ _ held (picked _ _ v d.valid)) d.kind);
      limits = (d.access, picked _ _ held (picked _ _ v d.limits));
    }
