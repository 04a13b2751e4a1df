-- A step inside a command moves a call's request alone.
use Prim.Native.Nat.{ℕ}
use mathlib.Core.Path.{◌≡◌, ap, sym, ◌∙◌}
use mathlib.Core.Bool.{true}
use lib.Dec.{leb}
use Rattle.hardware.specs.declared.Access.{Access}
use Rattle.hardware.specs.declared.Answer.{Answer}
use Rattle.hardware.specs.declared.Meter.{Meter}
use Rattle.hardware.specs.declared.Port.{Port}
use Rattle.hardware.specs.Asked.{yes}
use Rattle.hardware.specs.Marks.{valid_held}
use Rattle.hardware.specs.Promise.{Keeps}
use Rattle.bus.proofs.Laws.{picked}
use Rattle.transfer.specs.declared.attempt.Sequence.{Sequence}
use Rattle.i2c.specs.declared.handshake.Handshake.{Handshake}
use Rattle.i2c.specs.I2c.{locked}
use Rattle.i2c.specs.Handshake.{rest_request}
use Rattle.i2c.specs.Direct.{RequestMoves}
use Rattle.i2c.proofs.Moves.{admitted, request_on}
use Rattle.light.specs.declared.sensed.Sensed.{Sensed}
use Rattle.light.specs.Light.{FIRST, request_at}
use Rattle.light.specs.Walk.{access_light, cap_at, rest_light, valid_light}
use Rattle.light.specs.Calls.{said_light, stands_light, step_light, valid_call}
use Rattle.hardware.specs.declared.Told.TheVariants.{Ask}
use Rattle.std.specs.Prelude.{Ok, Some}

pub light_on_lem : (port : Port) (q : Sequence) (tries : ℕ) (m : Meter) (left : ℕ) (e : Sensed) (h g : Handshake) (a : Answer) (x : Access)
    → valid_held port m ≡ true → leb left FIRST ≡ true → RequestMoves port (request_at left) tries (cap_at tries left) m h a x g
    → Keeps (said_light (Ok (Ask x (Some (port, q, tries, m, (record { left = left; sensed = e; request = g }))))) ≡ step_light (Some (port, q, tries, m, (record { left = left; sensed = e; request = h }))) a) (stands_light (Ok (Ask x (Some (port, q, tries, m, (record { left = left; sensed = e; request = g }))))))
unfolding said_light stands_light step_light valid_call valid_light access_light rest_light rest_request
light_on_lem port q tries m left e h g a x held v d =
    record {
      yields = ap yes (request_on port (request_at left) (locked q) tries (cap_at tries left) m h g a x _ d) ∙ sym (admitted _ _ a _ (picked _ _ held (picked _ _ v d.valid)) d.kind);
      limits = (d.access, picked _ _ held (picked _ _ v d.limits));
    }
