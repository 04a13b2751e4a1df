use Rattle.bus.proofs.Laws.{picked}
use Rattle.hardware.proofs.Laws.{held_on}
use Rattle.hardware.proofs.Prog.{asked_on}
use Rattle.hardware.specs.Lent.{goes}
use Rattle.page.specs.Calls.{FilledAs, filled_call, said_page, stands_page, valid_call}
use Rattle.page.specs.Walk.{filled_next, page_next, valid_page_next}
use mathlib.Core.Path.{ap, refl}
use Rattle.page.proofs.calls.told.Goals as goal

pub returns-in-Going : goal.returns-in-Going
unfolding said_page page_next stands_page valid_call valid_page_next FilledAs filled_call filled_next
returns-in-Going c = rw (c.in-Going.is, ← c.access.ensures, c.meter_on.ensures) (record { yields = λ l h. ap goes (asked_on _ _ _ _ h); limits = λ p v. (refl, picked _ _ (held_on _ _ _ p) v); holds = λ b l. refl })
