use Rattle.hardware.specs.Prog.{pick}
use Rattle.sfp.proofs.Laws.{coded_kind}
use Rattle.sfp.specs.Bytes.{sfp_bytes}
use Rattle.std.proofs.Common.{◌∙◌}
use Rattle.sfp.proofs.class.kind_of.Goals as goal

pub returns-in-Some : goal.returns-in-Some
returns-in-Some c = rw c.in-Some.is at (coded_kind (sfp_bytes c.args.b) c.coded.ensures c.codes.ensures c.bx10g.ensures)

pub returns-in-None : goal.returns-in-None
unfolding sfp_bytes pick
returns-in-None c = c.cable_of.ensures ∙ (rw c.in-None.is at (coded_kind (sfp_bytes c.args.b) c.coded.ensures c.codes.ensures c.bx10g.ensures))
