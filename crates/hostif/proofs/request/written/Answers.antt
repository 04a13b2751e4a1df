use Rattle.std.proofs.Common.{arith}
use Rattle.hardware.specs.Prog.{or_err}
use Rattle.hardware.specs.Registers.{reply}
use Rattle.hostif.proofs.Laws.{words_none}
use Rattle.hostif.specs.Hostif.{valid_request, valid_request_next}
use Rattle.hostif.specs.Left.{request_left, request_next_left}
use mathlib.Core.Path.{refl}
use Rattle.hostif.proofs.request.written.Goals as goal

pub returns-else-at-n : goal.returns-else-at-n
unfolding reply or_err valid_request_next valid_request request_next_left request_left
returns-else-at-n c = record { yields = λ l h. rw c.in-Ok.is (words_none l _ _ (omega (arith, c.if-at-n.false))); limits = refl; within = omega arith }
