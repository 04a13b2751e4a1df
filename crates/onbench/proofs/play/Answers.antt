use Rattle.std.proofs.Common.{◌≡◌, ◌+◌, ◌-◌, false, arith}
use Rattle.onbench.proofs.Laws.{Invariant, invariant_first, invariant_next, invariant_stops, invariant_ends}
use mathlib.Core.Path.{refl, subst}
use Rattle.onbench.proofs.play.Goals as goal

pub loop-init : goal.loop-init
loop-init c = λ st b. invariant_first _ _ _ _ _ refl st b

pub returns-then-s : goal.returns-then-s
returns-then-s c = λ st b. invariant_stops _ _ _ _ _ c.loop.s _ (c.loop.invariant st b) c.if-s.true c.finish.ensures

pub loop-preserved : goal.loop-preserved
loop-preserved c = λ st b.
    let e : 1600450488 - c.loop.counter - 1 ≡ 1600450488 - (c.loop.counter + 1) = omega arith in
    subst (λ n. Invariant c.args.port c.args.origin c.args.answers.now (record { told = c.args.told; state = c.args.d; used = 0; over = false }) n c.one-s.result) e
    (invariant_next _ _ _ _ _ c.loop.s c.one-s.result (c.loop.invariant st b) c.if-s.false (omega (arith, c.loop-test.true)) c.one-s.ensures)

pub returns : goal.returns
returns c = λ st b. invariant_ends _ _ _ _ _ c.loop.s _ (c.loop.invariant st b) (omega (arith, c.loop-test.false)) c.finish-2.ensures
