use Rattle.std.proofs.Common.{arith, rules}
use Rattle.bus.proofs.Laws.{picked}
use Rattle.hardware.proofs.Prog.{going_on}
use Rattle.hardware.specs.Prog.{◌>>=◌, followed}
use Rattle.i2c.proofs.Laws.{fits_valid}
use Rattle.i2c.specs.Handshake.{due_handshake_next, handshake_next, rest_request, valid_handshake_next}
use Rattle.light.proofs.Laws.{cap_most}
use Rattle.light.specs.Walk.{access_light, light_next, rest_light, valid_light, valid_light_next}
use borrow.Author.Tests.{le-leb}
use Rattle.light.proofs.walk.from_request.Goals as goal

pub returns-in-Going : goal.returns-in-Going
unfolding light_next access_light rest_light rest_request handshake_next valid_handshake_next due_handshake_next valid_light_next valid_light
returns-in-Going c = rw c.in-Going.is (record { yields = going_on _ _ _ _; limits = λ m p v all. picked _ _ (le-leb _ _ p) (fits_valid _ _ _ _ _ m _ (cap_most _ _ (omega arith)) v all) })

pub returns-in-End : goal.returns-in-End
unfolding handshake_next due_handshake_next followed ◌>>=◌
returns-in-End c = search rules
