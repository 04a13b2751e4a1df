use Rattle.std.proofs.Common.{sym, ◌∙◌, lt-ltb}
use Rattle.i2c.proofs.Moves.{went_map}
use Rattle.page.proofs.Moves.{page_on}
use Rattle.page.proofs.calls.direct.Goals as goal

pub returns-then-left-lt96 : goal.returns-then-left-lt96
returns-then-left-lt96 c =
    let args = c.args in
    let held = sym c.valid_held.ensures ∙ c.if-valid_held.true in
    went_map _ _ (λ x g d q buffer. page_on args.port q args.form args.tries args.m args.t.left args.t.request g args.a x buffer held (lt-ltb _ _ c.if-left-lt96.true) (rw (c.request.ensures, c.cap.ensures) at d)) c.request-then-left-lt96.result c.request-then-left-lt96.ensures
