use Rattle.bus.proofs.Laws.{picked}
use Rattle.hardware.specs.Asked.{yes}
use Rattle.hardware.proofs.Laws.{held_on}
use Rattle.hardware.proofs.Prog.{asked_on}
use Rattle.light.specs.Calls.{said_light, stands_light, valid_call}
use Rattle.light.specs.Walk.{light_next, valid_light_next}
use mathlib.Core.Path.{ap, refl}
use Rattle.light.proofs.calls.told.Goals as goal

pub returns-in-Going : goal.returns-in-Going
unfolding said_light light_next stands_light valid_call valid_light_next
returns-in-Going c = rw (c.in-Going.is, ← c.access.ensures, c.meter_on.ensures) (record { yields = λ h. ap yes (asked_on _ _ _ _ h); limits = λ p v. (refl, picked _ _ (held_on _ _ _ p) v) })
