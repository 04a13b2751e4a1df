-- What the public calls of `soft_rate_select` yield: a refusal by its number, or what is left of the call, with the meter
-- beside its result.
use Rattle.std.specs.Prelude.{ℕ, ◌≡◌, Bool, true, false, Ok, Err, Some, None}
use Rattle.hardware.specs.declared.Answer.{Answer}
use Rattle.hardware.specs.declared.Meter.{Meter}
use Rattle.hardware.specs.declared.Port.{Port}
use Rattle.hardware.specs.Asked.{Asked, yes, no, and_then, open_port, admitting}
use Rattle.hardware.specs.Marks.{valid_held}
use Rattle.hardware.specs.Numbers.{refusal_number}
use Rattle.hardware.specs.Prog.{Prog, ret, ask, R, Counted, blank, tally, pick}
use Rattle.hardware.specs.Registers.{reply}
use Rattle.transfer.specs.declared.attempt.Sequence.{Sequence}
use Rattle.sfp.specs.Rate.{soft_rate_select}
use Rattle.softrate.specs.declared.walk.Rate.{Rate}
use Rattle.softrate.specs.Walk.{access_rate, rest_rate, valid_rate}
use Rattle.hardware.specs.Promise.{Keeps}
use Rattle.softrate.specs.Aliases.{RateTold, RateCall}
use Rattle.hardware.specs.declared.Told.TheVariants.{Ask, End}

-- 1 and 2
unfoldable pub open_rate : Sequence → ℕ → ℕ → ℕ → Bool → Asked (Prog (Counted (R Bool)))
open_rate q family device lan ten = and_then (open_port family device lan) (λ port. yes (tally blank (soft_rate_select q port ten)))

unfoldable pub valid_call : Port → Bool → Meter → Rate → Bool
valid_call port ten m s = pick (valid_held port m) (valid_rate port ten m s) false

-- a step: 10, 11, 12
unfoldable pub step_rate : RateCall → Answer → Asked (Prog (Counted (R Bool)))
step_rate (Some (port, q, ten, m, s)) a = admitting (valid_call port ten m s) (access_rate port s) a (yes (tally m (rest_rate q port ten s a)))
step_rate None a = no 11

-- what was told; 0 is none of the papers' numbers: nothing asks with a finished state (`stands_rate`)
unfoldable pub said_rate : RateTold → Asked (Prog (Counted (R Bool)))
said_rate (Ok (Ask x (Some (port, q, ten, m, s)))) = yes (ask x (λ a. tally m (rest_rate q port ten s a)))
said_rate (Ok (Ask x None)) = no 0
said_rate (Ok (End (f, m))) = yes (ret (record { meter = m; result = reply f }))
said_rate (Err q) = no (refusal_number q)

-- a state to go on from comes with the access it awaits, and passes question 10
unfoldable pub stands_rate : RateTold → Type 0
stands_rate (Ok (Ask x (Some (port, q, ten, m, s)))) = (x ≡ access_rate port s) × (valid_call port ten m s ≡ true)
stands_rate (Ok (Ask x None)) = ⊥
stands_rate (Ok (End (f, m))) = Unit {0}
stands_rate (Err q) = Unit {0}

-- what a step told, u, follows what was told before it, t: as the step promises
unfoldable pub follows_rate : RateTold → Answer → RateTold → Type 0
follows_rate (Ok (Ask x s)) a u = Keeps (said_rate u ≡ step_rate s a) (stands_rate u)
follows_rate (Ok (End (f, m))) a u = ⊥
follows_rate (Err q) a u = ⊥
