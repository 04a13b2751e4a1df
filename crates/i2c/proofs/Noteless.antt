-- An attempt of a request notes nothing past its beginning.
use mathlib.Core.Path.{subst}
use Rattle.hardware.specs.declared.Port.{Port}
use Rattle.bus.specs.declared.Layout.{Layout}
use Rattle.bus.specs.Layout.{layout_of}
use Rattle.bus.specs.Bus.{none}
use Rattle.bus.proofs.Noteless.{Noteless, NotelessBus}
use Rattle.script.specs.Script.{commands}
use Rattle.transfer.specs.Transfer.{keeping}
use Rattle.transfer.specs.Attempt.{attempting}
use Rattle.transfer.proofs.Noteless.{transfer_noteless, attempting_noteless}
use Rattle.i2c.specs.declared.How.{How}
use Rattle.i2c.specs.declared.once.Request.{Request}
use Rattle.i2c.specs.I2c.{device_of, script_of, body}
use Rattle.i2c.proofs.Laws.{body_is}

body_noteless : (l : Layout) (r : Request) → NotelessBus (body l r)
body_noteless l r = subst NotelessBus (body_is l r) (transfer_noteless keeping l (device_of r) (commands (script_of r)) none)

pub once_noteless : (port : Port) (r : Request) (how : How)
    → Noteless (attempting how.sequence (layout_of port.family) (device_of r) (body (layout_of port.family) r))
once_noteless port r how = attempting_noteless how.sequence (layout_of port.family) (device_of r) _ (body_noteless (layout_of port.family) r)
