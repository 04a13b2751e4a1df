-- The code's names for what follows an answer and for what a call tells.
use Rattle.hardware.specs.declared.Next.{Next}
use Rattle.acquire.specs.declared.acquire.Acquire.{Acquire}
use Rattle.std.specs.Prelude.{Result, Option, ℕ}
use Rattle.hardware.specs.declared.Error.{Error}
use Rattle.acquire.specs.declared.release.Release.{Release}
use Rattle.hardware.specs.declared.Told.{Told}
use Rattle.hardware.specs.declared.Refusal.{Refusal}
use Rattle.hardware.specs.declared.Port.{Port}

abbrev pub AcquireNext : Type 0
AcquireNext = Next Acquire (Result (Unit {0}) Error)

abbrev pub ReleaseNext : Type 0
ReleaseNext = Next Release (Result (Unit {0}) Error)

abbrev pub AcquireCall : Type 0
AcquireCall = Option (Port × ℕ × Acquire)

abbrev pub AcquireTold : Type 0
AcquireTold = Result (Told AcquireCall (Result (Unit {0}) Error)) Refusal

abbrev pub ReleaseCall : Type 0
ReleaseCall = Option (Port × ℕ × Release)

abbrev pub ReleaseTold : Type 0
ReleaseTold = Result (Told ReleaseCall (Result (Unit {0}) Error)) Refusal
