-- What the public calls yield: a refusal by its number, or what is left of the call, with the meter beside its result.
use Rattle.std.specs.Prelude.{ℕ, ◌≡◌, Bool, true, false, List, leb, Ok, Err, Some, None}
use Rattle.hardware.specs.declared.Answer.{Answer}
use Rattle.hardware.specs.declared.Meter.{Meter}
use Rattle.hardware.specs.declared.Port.{Port}
use Rattle.hardware.specs.Asked.{Asked, yes, no, question, and_then, open_port, admitting}
use Rattle.hardware.specs.Marks.{valid_held}
use Rattle.hardware.specs.Numbers.{refusal_number}
use Rattle.hardware.specs.Promise.{Keeps}
use Rattle.hardware.specs.Prog.{Prog, ret, ask, R, Counted, blank, tally, pick}
use Rattle.hardware.specs.Runs.{Run, run, meter_in, counted}
use Rattle.transfer.specs.declared.attempt.Sequence.{Sequence}
use Rattle.light.specs.declared.sensed.Measures.{Measures}
use Rattle.light.specs.declared.walk.Light.{Light}
use Rattle.light.specs.Sensed.{measured_of}
use Rattle.light.specs.Light.{light}
use Rattle.light.specs.Walk.{access_light, rest_light, valid_light}
use Rattle.light.specs.Aliases.{LightTold, LightCall}
use Rattle.hardware.specs.declared.Told.TheVariants.{Ask, End}

-- 4
unfoldable pub open_on : Sequence → ℕ → Port → Asked (Prog (Counted (R Measures)))
open_on q attempts port = question (leb attempts 255) 4 (yes (tally blank (light q port attempts)))

-- 1, 2 and 4
unfoldable pub open_light : Sequence → ℕ → ℕ → ℕ → ℕ → Asked (Prog (Counted (R Measures)))
open_light q family device lan attempts = and_then (open_port family device lan) (open_on q attempts)

unfoldable pub valid_call : Port → ℕ → Meter → Light → Bool
valid_call port tries m s = pick (valid_held port m) (valid_light port tries m s) false

-- a step: 10, 11, 12
unfoldable pub step_light : LightCall → Answer → Asked (Prog (Counted (R Measures)))
step_light (Some (port, q, tries, m, s)) a = admitting (valid_call port tries m s) (access_light port s) a (yes (tally m (rest_light q port tries s a)))
step_light None a = no 11

-- what was told; 0 is none of the papers' numbers: nothing asks with a finished state (`stands_light`)
unfoldable pub said_light : LightTold → Asked (Prog (Counted (R Measures)))
said_light (Ok (Ask x (Some (port, q, tries, m, s)))) = yes (ask x (λ a. tally m (rest_light q port tries s a)))
said_light (Ok (Ask x None)) = no 0
said_light (Ok (End (r, m))) = yes (ret (record { meter = m; result = measured_of r }))
said_light (Err q) = no (refusal_number q)

-- a state to go on from comes with the access it awaits, and passes question 10
unfoldable pub stands_light : LightTold → Type 0
stands_light (Ok (Ask x (Some (port, q, tries, m, s)))) = (x ≡ access_light port s) × (valid_call port tries m s ≡ true)
stands_light (Ok (Ask x None)) = ⊥
stands_light (Ok (End (r, m))) = Unit {0}
stands_light (Err q) = Unit {0}

-- what a step told, u, follows what was told before it, t: as the step promises
unfoldable pub follows_light : LightTold → Answer → LightTold → Type 0
follows_light (Ok (Ask x s)) a u = Keeps (said_light u ≡ step_light s a) (stands_light u)
follows_light (Ok (End (r, m))) a u = ⊥
follows_light (Err q) a u = ⊥

-- what an opening comes to over a list of answers; the count beside the result is that of the attempts that the run begins
abbrev pub light_run : Sequence → ℕ → ℕ → ℕ → ℕ → List Answer → Asked (Run (Counted (R Measures)))
light_run q family device lan attempts l =
    and_then (open_port family device lan) (λ port. question (leb attempts 255) 4
    (yes (counted (meter_in blank (light q port attempts) l) (run (light q port attempts) l))))
