use Rattle.std.proofs.Common.{arith, rules}
use Rattle.bus.proofs.Laws.{picked}
use Rattle.hardware.proofs.Prog.{going_on}
use Rattle.hardware.specs.Prog.{◌>>=◌, erase, followed}
use Rattle.i2c.proofs.Laws.{fits_valid}
use Rattle.i2c.specs.Handshake.{due_handshake_next, handshake_next, rest_request, valid_handshake_next, valued}
use mathlib.Core.Path.{sym}
use Rattle.page.proofs.Laws.{cap_most, filled_going, stored_asks}
use Rattle.page.specs.Walk.{access_page, filled_next, page_next, rest_page, valid_page, valid_page_next}
use borrow.Author.Tests.{lt-ltb}
use Rattle.page.proofs.walk.from_request.Goals as goal

pub returns-in-Going : goal.returns-in-Going
unfolding page_next filled_next access_page rest_page rest_request handshake_next valid_handshake_next due_handshake_next valid_page_next valid_page
returns-in-Going c = rw c.in-Going.is (record { holds = sym (stored_asks _ _ _ _ _); yields = going_on _ _ _ _; limits = λ m p v all. picked _ _ (lt-ltb _ _ p) (fits_valid _ _ _ _ _ m _ (cap_most _ _ (omega arith)) v all); fills = λ l. filled_going _ _ _ _ _ _ l _ _ })

pub returns-in-End : goal.returns-in-End
unfolding handshake_next due_handshake_next followed valued erase ◌>>=◌
returns-in-End c = search rules
