use Rattle.std.proofs.Common.{arith, rules}
use Rattle.hardware.specs.Change.{access_update, change, rest_update}
use Rattle.hardware.specs.Prog.{◌>>=◌, erase, followed}
use Rattle.hardware.specs.Registers.{reply}
use Rattle.hardware.proofs.Prog.{going}
use Rattle.hostif.specs.Hostif.{access_command, access_request, acquired, both, closed, command_next, hicr_read, released, request, requested, respond, rest_command, rest_request, valid_command, valid_command_next, valid_request}
use Rattle.sync.specs.Resource.{acquire_bits_next, valid_acquire_bits_next}
use Rattle.hostif.specs.Left.{command_left, command_next_left}
use Rattle.hostif.proofs.command.acquiring.Goals as goal

pub returns-in-Going : goal.returns-in-Going
unfolding command_next access_command rest_command acquire_bits_next valid_command_next valid_command valid_acquire_bits_next command_next_left command_left
returns-in-Going c = record { yields = λ l. rw c.in-Going.is (going _ _ _); limits = λ m h. rw c.in-Going.is at h; within = rw c.in-Going.is (omega arith) }

pub returns-in-Ok : goal.returns-in-Ok
unfolding access_request rest_request command_next access_command rest_command acquire_bits_next followed ◌>>=◌ erase reply hicr_read request respond both closed released requested acquired change access_update rest_update valid_command valid_command_next valid_request command_next_left command_left
returns-in-Ok c = search rules

pub returns-in-Err : goal.returns-in-Err
unfolding command_next acquire_bits_next followed ◌>>=◌ erase reply hicr_read request respond both closed released requested acquired change access_update rest_update valid_command valid_command_next command_next_left
returns-in-Err c = search rules
