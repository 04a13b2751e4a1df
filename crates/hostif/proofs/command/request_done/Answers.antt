use Rattle.std.proofs.Common.{rules}
use Rattle.hardware.specs.Change.{access_update, change, rest_update}
use Rattle.hardware.specs.Prog.{◌>>=◌, erase}
use Rattle.hardware.specs.Registers.{reply}
use Rattle.hostif.specs.Hostif.{access_command, access_response, acquired, both, closed, command_next, hicr_read, released, request, requested, respond, rest_command, rest_response, valid_command, valid_command_next, valid_response}
use Rattle.hostif.specs.Left.{command_left, command_next_left, response_left}
use Rattle.hostif.proofs.command.request_done.Goals as goal

pub returns-in-Ok : goal.returns-in-Ok
unfolding access_response rest_response command_next access_command rest_command ◌>>=◌ erase reply hicr_read request respond both closed released requested acquired change access_update rest_update valid_command valid_command_next valid_response command_next_left command_left response_left
returns-in-Ok c = search rules
