use Rattle.std.proofs.Common.{arith}
use Rattle.bus.proofs.Laws.{picked}
use Rattle.hardware.specs.Prog.{erase, or_err}
use Rattle.i2c.proofs.Request.{begun_valid, own_allows, request_begun, request_over}
use Rattle.i2c.specs.Handshake.{valued}
use Rattle.i2c.specs.I2c.{locked, value_of}
use Rattle.light.proofs.Laws.{cap_most, own}
use Rattle.light.specs.Light.{byte_seen, light_from, request_at}
use Rattle.light.specs.Sensed.{measured_of}
use Rattle.light.specs.Walk.{access_light, light_next, rest_light, valid_light, valid_light_next}
use borrow.Author.Tests.{le-leb}
use mathlib.Core.Path.{refl}
use Rattle.hardware.specs.Registers.{reply}
use Rattle.light.proofs.walk.begin.Goals as goal

pub returns-in-Going : goal.returns-in-Going
unfolding light_next access_light rest_light light_from valid_light_next valid_light
returns-in-Going c =
    let port = c.args.port in
    let q = c.args.q in
    let tries = c.args.tries in
    let left = c.args.left in
    let s = c.args.s in
    let opened = rw (c.request.ensures, c.in-Going.is) at c.open.ensures in
    record {
      yields = request_begun port (request_at left) (locked q) tries (byte_seen (light_from q port tries left) left s) _ _ opened.yields;
      limits = λ m v h. picked _ _ (le-leb _ _ v) (begun_valid port (request_at left) tries _ m _ _ (cap_most tries left (omega arith)) (own tries left) (opened.limits _ (own_allows _ _ (own tries left))) opened.due h);
    }

pub returns-in-Err : goal.returns-in-Err
unfolding light_next light_from measured_of erase valued value_of reply byte_seen or_err valid_light_next
returns-in-Err c =
    let port = c.args.port in
    let q = c.args.q in
    let tries = c.args.tries in
    let left = c.args.left in
    let s = c.args.s in
    record {
      yields = request_over port (request_at left) (locked q) tries (byte_seen (light_from q port tries left) left s) _ (rw (c.request.ensures, c.in-End.is, c.in-Err.is) at c.open.ensures.yields);
      limits = λ m v h. refl;
    }
