use Rattle.std.proofs.Common.{rules}
use Rattle.hardware.specs.Prog.{◌>>=◌, erase, followed}
use Rattle.hardware.proofs.Prog.{going}
use Rattle.hostif.specs.Hostif.{access_token, command_next, header, rest_token, token_next, tokened, valid_command_next, valid_token, valid_token_next}
use Rattle.hostif.proofs.token.commanded.Goals as goal

pub returns-in-Going-clause-yields : goal.returns-in-Going-clause-yields
unfolding command_next token_next access_token rest_token valid_token_next valid_token valid_command_next
returns-in-Going-clause-yields c = rw c.in-Going.is (going _ _ _)

pub returns-in-End-clause-yields : goal.returns-in-End-clause-yields
unfolding command_next token_next followed ◌>>=◌ erase tokened header valid_token valid_token_next
returns-in-End-clause-yields c = search rules
