-- The failures of a call by their numbers and values in the papers, which the ends of calls go by. The numbers are written
-- out, and not those of `error_number`, so that a case which tells another number is refused.
use Rattle.std.specs.Prelude.{ℕ, List, [], ◌∷◌}
use Rattle.hardware.specs.declared.Error.{Error}
use Rattle.hardware.specs.Numbers.{error_number, error_values}

pub record Failure : Type 0 where
  pub number : ℕ
  pub values : List ℕ

-- an access failed
abbrev pub Io : Failure
Io = record { number = 20; values = [] }

-- a checked read gave FFFFFFFF
abbrev pub Removed : Failure
Removed = record { number = 21; values = [] }

-- a lock did not come
abbrev pub Semaphore : ℕ → Failure
Semaphore held = record { number = 22; values = held ∷ [] }

-- no grant, no attempt allowed, SDA did not rise, or no acknowledgement
abbrev pub I2c : ℕ → Failure
I2c device = record { number = 23; values = device ∷ [] }

-- HICR not enabled, not done or not valid, or a response that does not fit
abbrev pub HostInterface : ℕ → Failure
HostInterface hicr = record { number = 24; values = hicr ∷ [] }

-- the firmware did not grant
abbrev pub Firmware : ℕ → ℕ → Failure
Firmware command status = record { number = 25; values = command ∷ status ∷ [] }

-- what a case of the code's enum tells
unfoldable pub failure_of : Error → Failure
failure_of e = record { number = error_number e; values = error_values e }
