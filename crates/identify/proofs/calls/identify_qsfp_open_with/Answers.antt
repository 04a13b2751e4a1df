use Rattle.std.proofs.Common.{arith}
use Rattle.hardware.proofs.Laws.{opened_valid}
use Rattle.hardware.specs.Asked.{and_then, opened}
use Rattle.hardware.specs.Prog.{pick}
use Rattle.identify.specs.Calls.{open_qsfp}
use Rattle.identify.specs.Place.{cap_at, most, on_at, placed, tries_at, valid_place}
use Rattle.sfp.specs.Qsfp.{identify_qsfp}
use mathlib.Core.Path.{refl}
use Rattle.identify.proofs.calls.identify_qsfp_open_with.Goals as goal

pub returns : goal.returns
unfolding open_qsfp identify_qsfp and_then opened placed tries_at most on_at valid_place cap_at pick
returns c =
    record {
      yields = rw (← c.open_port.ensures, c.in_ok-p.was) c.opened.ensures.yields;
      limits = c.opened.ensures.limits (opened_valid _ _ _ c.in_ok-p.was c.open_port.ensures) refl (omega arith);
    }
