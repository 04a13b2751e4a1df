-- The code's names for results, for what follows an answer and for what a call tells.
use Rattle.hardware.specs.declared.Next.{Next}
use Rattle.hardware.specs.declared.Marks.{Marks}
use Rattle.page.specs.declared.walk.Page.{Page}
use Rattle.std.specs.Prelude.{Result, Option, ℕ}
use Rattle.hardware.specs.declared.Told.{Told}
use Rattle.hardware.specs.declared.Meter.{Meter}
use Rattle.hardware.specs.declared.Refusal.{Refusal}
use Rattle.page.specs.declared.sums.PageError.{PageError}
use Rattle.hardware.specs.declared.Port.{Port}
use Rattle.transfer.specs.declared.attempt.Sequence.{Sequence}
use Rattle.page.specs.declared.walk.Form.{Form}

abbrev pub Paged : Type 0
Paged = Result (Unit {0}) PageError

abbrev pub PageNext : Type 0
PageNext = Next (Marks × Page) Paged

abbrev pub PageCall : Type 0
PageCall = Option (Port × Sequence × Form × ℕ × Meter × Page)

abbrev pub PageTold : Type 0
PageTold = Result (Told PageCall (Paged × Meter)) Refusal
