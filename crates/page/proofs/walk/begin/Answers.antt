use Rattle.std.proofs.Common.{arith}
use Rattle.bus.proofs.Laws.{picked}
use Rattle.hardware.specs.Prog.{erase}
use Rattle.i2c.proofs.Request.{begun_valid, own_allows, request_begun, request_over}
use Rattle.i2c.specs.Handshake.{valued}
use Rattle.i2c.specs.I2c.{locked, value_of}
use Rattle.page.proofs.Laws.{cap_most, filled_begun, filled_over, own}
use Rattle.page.specs.Page.{byte_seen, page_from, paged_of, place_of, request_at}
use Rattle.page.specs.Walk.{access_page, filled_next, filling, page_next, rest_page, valid_page, valid_page_next}
use borrow.Author.Tests.{lt-ltb}
use mathlib.Core.Path.{refl}
use Rattle.hardware.specs.Registers.{reply}
use Rattle.page.proofs.walk.begin.Goals as goal

pub returns-in-Going : goal.returns-in-Going
unfolding page_next filled_next access_page rest_page page_from valid_page_next valid_page
returns-in-Going c =
    let port = c.args.port in
    let q = c.args.q in
    let form = c.args.form in
    let tries = c.args.tries in
    let left = c.args.left in
    let opened = rw (c.request.ensures, c.in-Going.is) at c.open.ensures in
    record {
      yields = λ l. request_begun port (request_at form left) (locked q) tries (byte_seen (page_from q port form tries left) (place_of left) l) _ _ opened.yields;
      limits = λ m v h. picked _ _ (lt-ltb _ _ v) (begun_valid port (request_at form left) tries _ m _ _ (cap_most tries left (omega arith)) (own form tries left) (opened.limits _ (own_allows _ _ (own form tries left))) opened.due h);
      holds = λ b l. filled_begun q port form tries left b l _ _ opened.yields;
    }

pub returns-in-Err : goal.returns-in-Err
unfolding page_next filled_next filling page_from paged_of erase valued value_of reply byte_seen valid_page_next
returns-in-Err c =
    let port = c.args.port in
    let q = c.args.q in
    let form = c.args.form in
    let tries = c.args.tries in
    let left = c.args.left in
    let over = rw (c.request.ensures, c.in-End.is, c.in-Err.is) at c.open.ensures.yields in
    record {
      yields = λ l. request_over port (request_at form left) (locked q) tries (byte_seen (page_from q port form tries left) (place_of left) l) _ over;
      limits = λ m v h. refl;
      holds = λ b l. filled_over q port form tries left b l _ over;
    }
