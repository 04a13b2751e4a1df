use Rattle.hardware.specs.Prog.{pick}
use Rattle.sfp.proofs.Laws.{qsfp_coded_kind}
use Rattle.sfp.specs.Bytes.{qsfp_bytes}
use Rattle.std.proofs.Common.{◌∙◌}
use Rattle.sfp.proofs.qsfp.kind_of.Goals as goal

pub returns-in-Some : goal.returns-in-Some
unfolding qsfp_bytes pick
returns-in-Some c = rw c.in-Some.is at (qsfp_coded_kind (qsfp_bytes c.args.b) c.coded.ensures)

pub returns-in-None : goal.returns-in-None
unfolding qsfp_bytes pick
returns-in-None c = c.cabled.ensures ∙ (rw c.in-None.is at (qsfp_coded_kind (qsfp_bytes c.args.b) c.coded.ensures))
