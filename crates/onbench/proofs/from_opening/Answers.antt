use Rattle.onbench.proofs.Laws.{opened}
use Rattle.onbench.proofs.from_opening.Goals as goal

pub returns-in-Ok : goal.returns-in-Ok
returns-in-Ok c =
    let a = c.args in
    opened a.sequence a.family a.device a.lan a.d a.origin a.answers.now c.open_port.result _ c.identify_open_with-told.result c.play.result
    c.in-Ok.is c.open_port.ensures c.identify_open_with-told.ensures.yields c.identify_open_with-told.ensures.limits c.play.ensures
