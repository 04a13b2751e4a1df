use Rattle.std.proofs.Common.{rules}
use Rattle.hardware.specs.Prog.{pick}
use Rattle.identify.specs.Place.{on_at}
use Rattle.sfp.specs.Qsfp.{qsfp_length}
use Rattle.identify.proofs.place.after_length.Goals as goal

pub returns : goal.returns
unfolding on_at qsfp_length pick
returns c = search rules
