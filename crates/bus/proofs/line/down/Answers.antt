use Rattle.bus.specs.Bus.{put, scl_low}
use Rattle.bus.specs.Line.{access_at, access_line, line_next, rest_at, rest_line, settled, valid_goal, valid_line, heard_at, heard_goal}
use Rattle.hardware.specs.Prog.{erase}
use Rattle.hardware.proofs.Prog.{erase_heard}
use Rattle.bus.proofs.line.down.Goals as goal

pub returns-clause-yields : goal.returns-clause-yields
unfolding line_next heard_at heard_goal access_line access_at rest_line rest_at erase scl_low put settled valid_line valid_goal
returns-clause-yields c = λ k. rw c.at.ensures (erase_heard _ _)
