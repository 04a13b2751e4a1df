use Rattle.script.specs.Script.{step_at}
use Rattle.script.proofs.reader.at.Goals as goal

pub returns : goal.returns
unfolding step_at
returns c = rw (c.current-command.ensures, c.advance-behind.ensures.1, c.open-here.ensures.0, c.open-here.ensures.1)
