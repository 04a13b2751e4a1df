use Rattle.std.proofs.Common.{rules}
use Rattle.bus.proofs.Laws.{picked}
use Rattle.hardware.specs.Asked.{yes}
use Rattle.hardware.specs.Prog.{◌>>=◌, erase, followed, tally}
use Rattle.hardware.proofs.Prog.{asked_on, going_on}
use Rattle.i2c.proofs.Laws.{fits_valid, limit_most, operands_on}
use Rattle.i2c.specs.Calls.{rest_call, said_transfer, stands_transfer, valid_call}
use Rattle.i2c.specs.I2c.{gives_value}
use Rattle.i2c.specs.Handshake.{due_handshake_next, handshake_next, valid_handshake_next}
use mathlib.Core.Path.{◌∙◌, ap, refl}
use Rattle.i2c.proofs.calls.told.Goals as goal

pub returns-in-Going : goal.returns-in-Going
unfolding said_transfer rest_call handshake_next stands_transfer valid_call valid_handshake_next due_handshake_next
returns-in-Going c = rw (c.in-Going.is, ← c.access.ensures, c.meter_on.ensures) (record { yields = λ h. ap yes (asked_on _ _ _ _ h ∙ ap (tally _) (going_on _ _ _ _)); limits = λ p v h. (refl, picked _ _ (operands_on _ _ _ _ p) (fits_valid _ _ _ _ _ _ _ (limit_most _) v h)) })

pub returns-in-End : goal.returns-in-End
unfolding said_transfer handshake_next followed ◌>>=◌ gives_value erase tally stands_transfer
returns-in-End c = search rules
