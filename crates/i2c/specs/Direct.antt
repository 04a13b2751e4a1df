-- The direct way through a step of a request that stays inside a command.
use Rattle.std.specs.Prelude.{ℕ, ◌+◌, ◌≡◌, Bool, true, false, List, leb, ltb, Some, None, Option}
use Rattle.hardware.specs.declared.Access.{Access}
use Rattle.hardware.specs.declared.Answer.{Answer}
use Rattle.hardware.specs.declared.Meter.{Meter}
use Rattle.hardware.specs.declared.Port.{Port}
use Rattle.hardware.specs.Asked.{fits}
use Rattle.hardware.specs.Prog.{ask, erase, pick}
use Rattle.bus.specs.declared.Taken.{Taken}
use Rattle.bus.specs.declared.command.Command.{Command}
use Rattle.bus.specs.declared.job.Job.{Job}
use Rattle.script.specs.Script.{command_at, on_command}
use Rattle.transfer.specs.declared.attempt.Attempt.TheVariants.{Moving}
use Rattle.i2c.specs.declared.How.{How}
use Rattle.i2c.specs.declared.once.Request.{Request}
use Rattle.i2c.specs.declared.retry.Stage.TheVariants.{Trying}
use Rattle.i2c.specs.declared.handshake.Handshake.{Handshake}
use Rattle.i2c.specs.declared.handshake.Handshake.TheVariants.{Inside}
use Rattle.i2c.specs.I2c.{script_of}
use Rattle.i2c.specs.Handshake.{access_handshake, rest_handshake, valid_request}

-- a request whose attempt carries out the command at a position, with so many attempts left
abbrev pub carrying : ℕ → ℕ → Taken → Job → Handshake
carrying left at taken job = Inside (record { left = left; stage = Trying (Moving (record { at = at; taken = taken; job = job })) })

-- the command that a script has at a position
unfoldable pub FoundIn : List ℕ → ℕ → Option Command → Type 0
FoundIn script at (Some c) = (on_command script at ≡ true) × (command_at script at ≡ c)
FoundIn script at None = Unit {0}

abbrev pub FoundAt : Request → ℕ → Option Command → Type 0
FoundAt r at f = FoundIn (script_of r) at f

unfoldable pub within : ℕ → ℕ → ℕ → ℕ → Bool
within tries cap made left = pick (ltb left tries) (leb (made + left) cap) false

-- A request goes on: it was within its limits, the answer of the awaited kind. Nothing is to be metered
pub record RequestMoves (port : Port) (r : Request) (tries cap : ℕ) (m : Meter) (h : Handshake) (a : Answer) (x : Access) (g : Handshake) : Type 0 where
  pub valid : valid_request port r tries cap m h ≡ true
  pub kind : fits (access_handshake port h) a ≡ true
  pub yields : (how : How) → ask x (λ b. erase (rest_handshake port r how g b)) ≡ erase (rest_handshake port r how h a)
  pub limits : valid_request port r tries cap m g ≡ true
  pub access : x ≡ access_handshake port g

-- the direct way promises something where it goes
unfoldable pub WentBy : (Access → Handshake → Type 0) → Option (Access × Handshake) → Type 0
WentBy Goes (Some (x, g)) = Goes x g
WentBy Goes None = Unit {0}
