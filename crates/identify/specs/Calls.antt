-- What the public calls of `identify` and `identify_qsfp` yield: a refusal by its number, or what is left of the call, with
-- the meter beside its result.
use Rattle.std.specs.Prelude.{ℕ, ◌≡◌, Bool, true, false, Ok, Err, Some, None}
use Rattle.hardware.specs.declared.Answer.{Answer}
use Rattle.hardware.specs.declared.Meter.{Meter}
use Rattle.hardware.specs.declared.Port.{Port}
use Rattle.hardware.specs.Asked.{Asked, yes, no, and_then, open_port, admitting}
use Rattle.hardware.specs.Marks.{valid_held}
use Rattle.hardware.specs.Numbers.{refusal_number}
use Rattle.hardware.specs.Prog.{Prog, ret, ask, R, Counted, blank, tally, pick}
use Rattle.transfer.specs.declared.attempt.Sequence.{Sequence}
use Rattle.sfp.specs.declared.Identity.{Identity}
use Rattle.sfp.specs.Identify.{identify}
use Rattle.sfp.specs.Qsfp.{identify_qsfp}
use Rattle.identify.specs.declared.walk.Identify.{Identify}
use Rattle.identify.specs.Walk.{access_identify, rest_identify, valid_identify}
use Rattle.hardware.specs.Promise.{Keeps}
use Rattle.hardware.specs.Registers.{reply}
use Rattle.identify.specs.Aliases.{IdentifyTold, IdentifyCall}
use Rattle.hardware.specs.declared.Told.TheVariants.{Ask, End}

-- 1 and 2
unfoldable pub open_identify : Sequence → ℕ → ℕ → ℕ → Asked (Prog (Counted (R Identity)))
open_identify q family device lan = and_then (open_port family device lan) (λ port. yes (tally blank (identify q port)))

unfoldable pub open_qsfp : Sequence → ℕ → ℕ → ℕ → Asked (Prog (Counted (R Identity)))
open_qsfp q family device lan = and_then (open_port family device lan) (λ port. yes (tally blank (identify_qsfp q port)))

unfoldable pub valid_call : Port → Meter → Identify → Bool
valid_call port m s = pick (valid_held port m) (valid_identify port m s) false

-- a step: 10, 11, 12
unfoldable pub step_identify : IdentifyCall → Answer → Asked (Prog (Counted (R Identity)))
step_identify (Some (port, q, m, s)) a = admitting (valid_call port m s) (access_identify port s) a (yes (tally m (rest_identify q port s a)))
step_identify None a = no 11

-- what was told; 0 is none of the papers' numbers: nothing asks with a finished state (`stands_identify`)
unfoldable pub said_identify : IdentifyTold → Asked (Prog (Counted (R Identity)))
said_identify (Ok (Ask x (Some (port, q, m, s)))) = yes (ask x (λ a. tally m (rest_identify q port s a)))
said_identify (Ok (Ask x None)) = no 0
said_identify (Ok (End (f, m))) = yes (ret (record { meter = m; result = reply f }))
said_identify (Err q) = no (refusal_number q)

-- a state to go on from comes with the access it awaits, and passes question 10
unfoldable pub stands_identify : IdentifyTold → Type 0
stands_identify (Ok (Ask x (Some (port, q, m, s)))) = (x ≡ access_identify port s) × (valid_call port m s ≡ true)
stands_identify (Ok (Ask x None)) = ⊥
stands_identify (Ok (End (f, m))) = Unit {0}
stands_identify (Err q) = Unit {0}

-- what a step told, u, follows what was told before it, t: as the step promises
unfoldable pub follows_identify : IdentifyTold → Answer → IdentifyTold → Type 0
follows_identify (Ok (Ask x s)) a u = Keeps (said_identify u ≡ step_identify s a) (stands_identify u)
follows_identify (Ok (End (f, m))) a u = ⊥
follows_identify (Err q) a u = ⊥
