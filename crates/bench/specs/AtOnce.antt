-- Fixed answers of the other registers, with which every lock and grant comes at once.
use Rattle.std.specs.Prelude.{ℕ, ◌||◌, ◌==◌, Option, Some, None}
use Rattle.hardware.specs.declared.Access.{Access}
use Rattle.hardware.specs.declared.Access.TheVariants.{Read, Write, Wait}
use Rattle.hardware.specs.declared.Answer.{Answer}
use Rattle.hardware.specs.declared.Answer.TheVariants.{Value, Done}
use Rattle.hardware.specs.Prog.{pick}
use Rattle.hardware.specs.Registers.{ESDP}

-- SWSM with SMBI clear and SWESMBI set, ESDP with the grant on SDP1, and 0 of every other register: SW_FW_SYNC is free
unfoldable pub at_once_at : ℕ → ℕ
at_once_at register = pick (register == 0x10140 || register == ESDP) 2 0

unfoldable pub at_once : Access → Answer
at_once (Read register) = Value (at_once_at register)
at_once (Write register v) = Done
at_once (Wait us) = Done

-- the bench's answer where there is one, else that of the other registers
unfoldable pub or_at_once : Option Answer → Access → Answer
or_at_once (Some a) x = a
or_at_once None x = at_once x
