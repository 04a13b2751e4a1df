use Rattle.std.proofs.Common.{arith, rules}
use Rattle.hardware.specs.Change.{access_update, change, rest_update}
use Rattle.hardware.specs.Prog.{◌>>=◌, followed}
use Rattle.hardware.specs.Registers.{reply}
use Rattle.hardware.proofs.Prog.{going}
use Rattle.hostif.specs.Hostif.{access_command, acquired, both, closed, command_next, hicr_read, released, request, request_next, requested, respond, rest_command, valid_command, valid_command_next, valid_request_next}
use Rattle.hostif.specs.Left.{command_left, command_next_left, request_next_left}
use Rattle.hostif.proofs.command.requesting.Goals as goal

pub returns-in-Going : goal.returns-in-Going
unfolding request_next command_next access_command rest_command valid_command_next valid_command valid_request_next command_next_left command_left request_next_left
returns-in-Going c = record { yields = λ l. rw c.in-Going.is (going _ _ _); limits = λ m h. rw c.in-Going.is at h; within = rw c.in-Going.is (omega arith) }

pub returns-in-End : goal.returns-in-End
unfolding request_next followed ◌>>=◌ reply hicr_read request respond both closed released requested acquired change access_update rest_update valid_command
returns-in-End c = search rules
