use Rattle.std.proofs.Common.{arith}
use Prim.Native.Nat.{◌+◌}
use Rattle.script.proofs.Laws.{places_at, width_one}
use Rattle.script.specs.Script.{next_at, places}
use lib.ListN.{drop, length-drop}
use mathlib.Core.List.{◌∷◌}
use mathlib.Core.Path.{◌∙◌, ap, sym}
use Rattle.script.proofs.cursor.PlacesIterator.next.Goals as goal

pub returns-then-at-self-clause-steps : goal.returns-then-at-self-clause-steps
unfolding next_at
returns-then-at-self-clause-steps c =
    let s = c.args.self.now.script.now in
    let at = c.args.self.now.at in
    places_at s at c.if-at-self.true
    ∙ ap (λ n. at ∷ places s (at + n)) (width_one (drop at s) (rw length-drop (omega arith)) (sym c.sending.ensures ∙ c.if-sending.false))
