-- The numbers of the papers for the refusals and for the failures of a call.
use Rattle.std.specs.Prelude.{ℕ, List, [], ◌∷◌}
use Rattle.hardware.specs.declared.Refusal.{Refusal}
use Rattle.hardware.specs.declared.Refusal.TheVariants.{Family, Lan, Device, Attempts, ScriptLength, Command, Script, Block, Buffer, State, Finished, Kind}
use Rattle.hardware.specs.declared.Error.{Error}
use Rattle.hardware.specs.declared.Error.TheVariants.{Io, Removed, Semaphore, I2c, HostInterface, Firmware}

-- 1 to 9 are put at an opening, 5 to 9 again and 10 to 12 at a step
abbrev pub refusal_number : Refusal → ℕ
refusal_number Family = 1
refusal_number Lan = 2
refusal_number Device = 3
refusal_number Attempts = 4
refusal_number ScriptLength = 5
refusal_number Command = 6
refusal_number Script = 7
refusal_number Block = 8
refusal_number Buffer = 9
refusal_number State = 10
refusal_number Finished = 11
refusal_number Kind = 12

abbrev pub error_number : Error → ℕ
error_number Io = 20
error_number Removed = 21
error_number (Semaphore held) = 22
error_number (I2c device) = 23
error_number (HostInterface hicr) = 24
error_number (Firmware command status) = 25

-- the held bits, the device, HICR, or command and status
abbrev pub error_values : Error → List ℕ
error_values Io = []
error_values Removed = []
error_values (Semaphore held) = held ∷ []
error_values (I2c device) = device ∷ []
error_values (HostInterface hicr) = hicr ∷ []
error_values (Firmware command status) = command ∷ status ∷ []
