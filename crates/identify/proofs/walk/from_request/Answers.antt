use Rattle.std.proofs.Common.{rules}
use Rattle.bus.proofs.Laws.{picked}
use Rattle.hardware.specs.Prog.{◌>>=◌, followed}
use Rattle.hardware.proofs.Prog.{going_on}
use Rattle.i2c.proofs.Laws.{fits_valid}
use Rattle.i2c.specs.Handshake.{due_handshake_next, handshake_next, rest_request, valid_handshake_next}
use Rattle.identify.proofs.Laws.{cap_most}
use Rattle.identify.specs.Place.{told_at}
use Rattle.identify.specs.Walk.{access_identify, identify_next, rest_identify, valid_identify, valid_identify_next}
use Rattle.identify.proofs.walk.from_request.Goals as goal

pub returns-in-Going : goal.returns-in-Going
unfolding identify_next access_identify rest_identify rest_request told_at handshake_next valid_handshake_next due_handshake_next valid_identify_next valid_identify
returns-in-Going c = rw c.in-Going.is (record { yields = going_on _ _ _ _; limits = λ m p v all. picked _ _ p (fits_valid _ _ _ _ _ m _ (cap_most _ _) v all) })

pub returns-in-End : goal.returns-in-End
unfolding handshake_next due_handshake_next followed ◌>>=◌
returns-in-End c = search rules
