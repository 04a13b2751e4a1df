use Rattle.hardware.specs.Prog.{pick}
use Rattle.sfp.proofs.Laws.{recorded_class}
use Rattle.sfp.specs.Bytes.{sfp_bytes}
use Rattle.sfp.specs.Classes.{class_of}
use Rattle.std.proofs.Common.{eq-eqb}
use Rattle.sfp.proofs.class.class.Goals as goal

pub returns-then-b-eq-SFP : goal.returns-then-b-eq-SFP
unfolding class_of sfp_bytes pick
returns-then-b-eq-SFP c = rw (eq-eqb _ _ c.if-b-eq-SFP.true) (recorded_class c.args.b.b0 (sfp_bytes c.args.b) c.recorded-m.ensures c.codes.ensures c.kind_of.ensures)
