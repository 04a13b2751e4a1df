use Rattle.std.proofs.Common.{rules}
use Rattle.hardware.specs.Prog.{pick}
use Rattle.identify.specs.Place.{kinded, most}
use Rattle.sfp.specs.Bytes.{codes_ask_rate}
use Rattle.sfp.specs.Identify.{bx10g_of, classify}
use Rattle.identify.proofs.place.after_cable.Goals as goal

pub returns : goal.returns
unfolding classify bx10g_of kinded codes_ask_rate most pick
returns c = search rules
