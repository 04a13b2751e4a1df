use Rattle.hardware.specs.Prog.{pick}
use Rattle.sfp.proofs.Laws.{qsfp_recorded_class}
use Rattle.sfp.specs.Bytes.{qsfp_bytes}
use Rattle.sfp.specs.Classes.{qsfp_class_of}
use Rattle.std.proofs.Common.{eq-eqb}
use Rattle.sfp.proofs.qsfp.qsfp_class.Goals as goal

pub returns-then-b-eq-QSFP : goal.returns-then-b-eq-QSFP
unfolding qsfp_class_of qsfp_bytes pick
returns-then-b-eq-QSFP c = rw (eq-eqb _ _ c.if-b-eq-QSFP.true) (qsfp_recorded_class (qsfp_bytes c.args.b) c.qsfp_recorded-m.ensures c.kind_of.ensures)
