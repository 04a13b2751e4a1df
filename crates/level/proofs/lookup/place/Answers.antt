use Rattle.std.proofs.Common.{◌+◌, ◌/◌, rules}
use Rattle.level.proofs.Search.{up, down}
use Rattle.level.proofs.lookup.place.Goals as goal
use Rattle.level.proofs.lookup.place.Goals.{then-least-mid, else-least-mid}

pub loop-preserved : goal.loop-preserved
loop-preserved c =
    let now = c.loop in
    let entry = c.table-least.ensures.entry ((now.lo + now.hi) / 2) (search rules) in
    elim c.if-least-mid.branch [
      | then-least-mid w ↦ rw (w.lo-is, w.hi-is) (up now.invariant (search rules) entry (search rules))
      | else-least-mid w ↦ rw (w.lo-is, w.hi-is) (down now.invariant (search rules) entry (search rules))
    ]
