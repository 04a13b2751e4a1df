use Rattle.std.proofs.Common.{arith, rules}
use Rattle.hardware.specs.Change.{access_update, change, rest_update, update_next}
use Rattle.hardware.specs.Prog.{◌>>=◌, erase, followed, or_err}
use Rattle.hardware.specs.Registers.{reply}
use Rattle.hardware.proofs.Prog.{going}
use Rattle.hostif.specs.Hostif.{access_request, enabled, hicr_read, request, request_next, rest_request, start, valid_request, valid_request_next, words}
use Rattle.hostif.specs.Left.{request_left, request_next_left}
use mathlib.Core.Path.{refl}
use Rattle.hostif.proofs.request.fwsts.Goals as goal

pub returns-in-Going : goal.returns-in-Going
unfolding request_next access_request rest_request update_next valid_request_next valid_request request_next_left request_left
returns-in-Going c = record { yields = λ l. rw c.in-Going.is (going _ _ _); limits = λ m. refl; within = rw c.in-Going.is (omega arith) }

pub returns-in-Ok : goal.returns-in-Ok
unfolding request_next access_request rest_request update_next followed ◌>>=◌ erase or_err reply start enabled hicr_read request change access_update rest_update valid_request words valid_request_next request_next_left request_left
returns-in-Ok c = search rules

pub returns-in-Err : goal.returns-in-Err
unfolding request_next update_next followed ◌>>=◌ erase or_err reply start enabled hicr_read request change access_update rest_update valid_request words valid_request_next request_next_left
returns-in-Err c = search rules
