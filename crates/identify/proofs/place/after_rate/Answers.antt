use Rattle.std.proofs.Common.{rules}
use Rattle.hardware.specs.Prog.{pick}
use Rattle.identify.specs.Place.{most, on_at}
use Rattle.identify.proofs.place.after_rate.Goals as goal

pub returns : goal.returns
unfolding on_at most pick
returns c = search rules
