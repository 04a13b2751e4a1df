use Rattle.identify.proofs.Laws.{qsfp_known_lem}
use mathlib.Core.Path.{◌∙◌, sym}
use Rattle.identify.proofs.place.qsfp_codes.Goals as goal

pub returns-in-Some : goal.returns-in-Some
returns-in-Some c = record { yields = λ q port. c.qsfp_found.ensures.yields q port ∙ qsfp_known_lem q port _ _ _ (sym c.coded.ensures ∙ c.in-Some.is); limits = λ port. c.qsfp_found.ensures.limits port _ }
