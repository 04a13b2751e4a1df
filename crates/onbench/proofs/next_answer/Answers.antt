use Rattle.onbench.proofs.Laws.{next_lent, next_none}
use Rattle.onbench.specs.Run.{source_of}
use Rattle.onbench.proofs.next_answer.Goals as goal

pub returns-then-used-answers : goal.returns-then-used-answers
unfolding source_of
returns-then-used-answers c = let a = c.args in rw c.in-Lent.is (next_lent a.x a.answers.now a.used _ c.decode.ensures c.if-used-answers.true)

pub returns-else-used-answers : goal.returns-else-used-answers
unfolding source_of
returns-else-used-answers c = let a = c.args in rw c.in-Lent.is (next_none a.x a.answers.now a.used c.if-used-answers.false)
