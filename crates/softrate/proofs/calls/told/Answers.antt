use Rattle.bus.proofs.Laws.{picked}
use Rattle.hardware.specs.Asked.{yes}
use Rattle.hardware.proofs.Laws.{held_on}
use Rattle.hardware.proofs.Prog.{asked_on}
use Rattle.softrate.specs.Calls.{said_rate, stands_rate, valid_call}
use Rattle.softrate.specs.Walk.{rate_next, valid_rate_next}
use mathlib.Core.Path.{ap, refl}
use Rattle.softrate.proofs.calls.told.Goals as goal

pub returns-in-Going : goal.returns-in-Going
unfolding said_rate rate_next stands_rate valid_call valid_rate_next
returns-in-Going c = rw (c.in-Going.is, ← c.access.ensures, c.meter_on.ensures) (record { yields = λ h. ap yes (asked_on _ _ _ _ h); limits = λ p v. (refl, picked _ _ (held_on _ _ _ p) v) })
