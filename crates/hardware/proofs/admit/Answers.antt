use Rattle.std.proofs.Common.{◌∙◌, sym}
use Rattle.hardware.specs.Asked.{Admits}
use Rattle.hardware.proofs.Typed.{answer_typed}
use Rattle.hardware.proofs.admit.Goals as goal

pub returns-then-awaited : goal.returns-then-awaited
unfolding Admits
returns-then-awaited c = (c.if-valid.true, sym c.awaited.ensures ∙ c.if-awaited.true, answer_typed c.args.a _ c.well_formed.1.1.0)
