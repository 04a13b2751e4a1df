use Rattle.identify.proofs.Laws.{kinded_known}
use mathlib.Core.Path.{◌∙◌, sym}
use Rattle.identify.proofs.place.kinded.Goals as goal

pub returns-in-Some : goal.returns-in-Some
returns-in-Some c = record { yields = λ q port. c.found.ensures.yields q port ∙ kinded_known q port _ _ _ (sym c.coded.ensures ∙ c.in-Some.is); limits = λ port n h. c.found.ensures.limits port n }
