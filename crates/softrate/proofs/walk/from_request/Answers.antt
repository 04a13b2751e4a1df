use Rattle.std.proofs.Common.{rules}
use Rattle.bus.proofs.Laws.{picked}
use Rattle.hardware.specs.Prog.{◌>>=◌, followed}
use Rattle.hardware.proofs.Prog.{going_on}
use Rattle.i2c.proofs.Laws.{fits_valid}
use Rattle.i2c.specs.Handshake.{rest_request, due_handshake_next, handshake_next, valid_handshake_next}
use Rattle.softrate.proofs.Laws.{cap_most}
use Rattle.softrate.specs.Spot.{told_at}
use Rattle.softrate.specs.Walk.{access_rate, rate_next, rest_rate, valid_rate, valid_rate_next}
use Rattle.softrate.proofs.walk.from_request.Goals as goal

pub returns-in-Going : goal.returns-in-Going
unfolding rate_next access_rate rest_rate rest_request told_at handshake_next valid_handshake_next due_handshake_next valid_rate_next valid_rate
returns-in-Going c = rw c.in-Going.is (record { yields = going_on _ _ _ _; limits = λ m p v all. picked _ _ p (fits_valid _ _ _ _ _ m _ (cap_most _ _) v all) })

pub returns-in-End : goal.returns-in-End
unfolding handshake_next due_handshake_next followed ◌>>=◌
returns-in-End c = search rules
