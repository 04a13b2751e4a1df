use mathlib.Core.Path.{sym}
use Rattle.bus.proofs.Laws.{moved_map}
use Rattle.host.specs.Direct.{taken_in}
use Rattle.host.proofs.Laws.{call_moves}
use Rattle.host.proofs.direct.inside.Goals as goal

pub returns-then-t : goal.returns-then-t
returns-then-t c =
    let p = c.port-p.ensures in
    let m = c.meter-m.ensures in
    moved_map _ _
    (λ x next d.
    call_moves c.args.s c.args.a x next c.terms_of-t.result (sym c.if-shaped.ensures)
    (rw (p, m) at (sym c.if-valid_held.ensures)) c.if-t.true
    ((rw (c.job.ensures, p, m) at d) (taken_in c.args.s)) (rw (p, m) at c.terms_of-t.ensures))
    c.job-then-t.result c.job-then-t.ensures
