use Rattle.std.proofs.Common.{rules}
use Rattle.report.proofs.Laws.{next_other}
use Rattle.report.proofs.digits.more.Goals as goal

-- a digit that is none of the base
pub returns-else-n-base : goal.returns-else-n-base
returns-else-n-base c = next_other _ _ _ c.in_ok-n.n (search rules) (search rules)
