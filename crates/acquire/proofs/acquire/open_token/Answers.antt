use Rattle.acquire.proofs.Laws.{token_bits}
use Rattle.hostif.specs.Acquire.{after_bits}
use Rattle.hardware.specs.Prog.{pick}
use Rattle.hardware.proofs.Prog.{over}
use mathlib.Core.Path.{◌∙◌}
use Rattle.acquire.proofs.acquire.open_token.Goals as goal

pub returns-clause-yields : goal.returns-clause-yields
unfolding after_bits pick
returns-clause-yields c = over _ _ c.bits.ensures.yields c.first.ensures.yields ∙ token_bits _ _ _ c.if-hw-eq0.false c.if-tries-eq0.false
