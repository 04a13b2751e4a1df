use Rattle.bus.proofs.Laws.{picked}
use Rattle.hardware.specs.Asked.{yes}
use Rattle.hardware.proofs.Laws.{held_on}
use Rattle.hardware.proofs.Prog.{asked_on}
use Rattle.identify.specs.Calls.{said_identify, stands_identify, valid_call}
use Rattle.identify.specs.Walk.{identify_next, valid_identify_next}
use mathlib.Core.Path.{ap, refl}
use Rattle.identify.proofs.calls.told.Goals as goal

pub returns-in-Going : goal.returns-in-Going
unfolding said_identify identify_next stands_identify valid_call valid_identify_next
returns-in-Going c = rw (c.in-Going.is, ← c.access.ensures, c.meter_on.ensures) (record { yields = λ h. ap yes (asked_on _ _ _ _ h); limits = λ p v. (refl, picked _ _ (held_on _ _ _ p) v) })
