-- The code's names for results, for what follows an answer and for what a call tells.
use Rattle.hardware.specs.declared.Next.{Next}
use Rattle.hardware.specs.declared.Marks.{Marks}
use Rattle.light.specs.declared.walk.Light.{Light}
use Rattle.std.specs.Prelude.{Float, Result, Option, ℕ}
use Rattle.hardware.specs.declared.Told.{Told}
use Rattle.hardware.specs.declared.Meter.{Meter}
use Rattle.hardware.specs.declared.Refusal.{Refusal}
use Rattle.light.specs.declared.power.PowerError.{PowerError}
use Rattle.light.specs.declared.sensed.Measures.{Measures}
use Rattle.light.specs.declared.sensed.LightError.{LightError}
use Rattle.hardware.specs.declared.Port.{Port}
use Rattle.transfer.specs.declared.attempt.Sequence.{Sequence}

abbrev pub Powered : Type 0
Powered = Result Float PowerError

abbrev pub Measured : Type 0
Measured = Result Measures LightError

abbrev pub LightNext : Type 0
LightNext = Next (Marks × Light) Measured

abbrev pub LightCall : Type 0
LightCall = Option (Port × Sequence × ℕ × Meter × Light)

abbrev pub LightTold : Type 0
LightTold = Result (Told LightCall (Measured × Meter)) Refusal
