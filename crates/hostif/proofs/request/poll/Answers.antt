use Rattle.std.proofs.Common.{arith, rules}
use Rattle.hardware.specs.Change.{access_update, change, rest_update}
use Rattle.hardware.specs.Poll.{poll_next, valid_poll_next}
use Rattle.hardware.specs.Prog.{◌>>=◌, followed}
use Rattle.hardware.proofs.Prog.{going}
use Rattle.hostif.specs.Hostif.{access_request, enabled, hicr_read, request, request_next, rest_request, start, valid_request, valid_request_next, words}
use Rattle.hostif.specs.Left.{request_left, request_next_left}
use Rattle.hostif.proofs.request.poll.Goals as goal

pub returns-in-Going : goal.returns-in-Going
unfolding request_next access_request rest_request poll_next valid_request_next valid_request valid_poll_next request_next_left request_left
returns-in-Going c = record { yields = λ l. rw c.in-Going.is (going _ _ _); limits = λ m h. rw c.in-Going.is at h; within = rw c.in-Going.is (omega arith) }

pub returns-in-End : goal.returns-in-End
unfolding poll_next followed ◌>>=◌ start enabled hicr_read request change access_update rest_update valid_request words
returns-in-End c = search rules
