use Rattle.hardware.specs.Prog.{pick}
use Rattle.identify.proofs.Laws.{cap_first}
use Rattle.identify.specs.Place.{Later, on_at, rest_then, placed, tries_at, valid_place}
use Rattle.sfp.specs.Identify.{identified, known}
use mathlib.Core.Path.{refl}
use Rattle.identify.proofs.place.after_identifier.Goals as goal

pub returns-then-v-eq-SFP : goal.returns-then-v-eq-SFP
unfolding rest_then Later placed tries_at valid_place pick on_at identified known
returns-then-v-eq-SFP c = record { yields = λ q port. rw c.if-v-eq-SFP.true; limits = λ port h. (refl, cap_first port _) }
