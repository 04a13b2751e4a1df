-- What the call of a script yields: a refusal by its number, or what is left of the call. Its result has the meter beside
-- it.
use Rattle.std.specs.Prelude.{ℕ, ◌-◌, ◌≤◌, ◌≡◌, Bool, true, false, List, eqb, Some, None}
use Rattle.hardware.specs.declared.Answer.{Answer}
use Rattle.hardware.specs.declared.Meter.{Meter}
use Rattle.hardware.specs.declared.Port.{Port}
use Rattle.hardware.specs.Asked.{Asked, yes, no, question, and_then, open_port, admitting}
use Rattle.hardware.specs.Marks.{valid_held}
use Rattle.hardware.specs.Numbers.{refusal_number}
use Rattle.hardware.specs.Prog.{Prog, ret, ask, give, R, Ok, Err, ◌>>=◌, Counted, Attempt as AttemptBegins, metered, blank, tally, pick}
use Rattle.hardware.specs.Registers.{reply}
use Rattle.bus.specs.declared.Taken.{Taken}
use Rattle.bus.specs.Bus.{none}
use Rattle.bus.specs.Layout.{layout_of}
use Rattle.script.specs.Script.{commands, device, judged}
use Rattle.transfer.specs.declared.attempt.Attempt.{Attempt}
use Rattle.transfer.specs.declared.attempt.Sequence.TheVariants.{Pulses}
use Rattle.transfer.specs.Transfer.{handing, transfer}
use Rattle.transfer.specs.Attempt.{attempt, access_attempt, rest_attempt, valid_attempt}
use Rattle.transfer.specs.Left.{call_left, script_left}
use Rattle.hardware.specs.Promise.{Bounds}
use Rattle.hardware.specs.Runs.{Unrefused}
use Rattle.transfer.specs.Aliases.{ScriptTold, ScriptCall}
use Rattle.transfer.specs.declared.calls.Said.TheVariants.{Ask, Read, End}

-- the result of a script has no bytes, they were handed out
unfoldable pub without : R Taken → R (Unit {0})
without (Ok t) = Ok tt
without (Err e) = Err e

unfoldable pub dropped : R Taken → Prog (R (Unit {0}))
dropped r = ret (without r)

-- a script runs once: `attempt` over the `Bus` calls of its commands, for the device of its first address
unfoldable pub script : Port → List ℕ → Prog (R (Unit {0}))
script port s =
    attempt Pulses (layout_of port.family) (device s) (transfer handing (layout_of port.family) (device s) (commands s) none) >>= dropped

-- once it has begun
abbrev pub single : Meter
single = metered AttemptBegins blank

-- what is left of it once the answer to a state's access is there
unfoldable pub rest_script : Port → List ℕ → Attempt → Answer → Prog (R (Unit {0}))
rest_script port s t a = rest_attempt handing Pulses (layout_of port.family) (device s) s t a >>= dropped

-- the questions 5, 6 and 7 about the script, and what comes after
unfoldable pub judged_then : {A : Type 0} → List ℕ → Asked A → Asked A
judged_then s k = question (eqb (judged s) 0) (judged s) k

-- 1 and 2, then 5 to 7
unfoldable pub open_script : ℕ → ℕ → ℕ → List ℕ → Asked (Prog (Counted (R (Unit {0}))))
open_script family device lan s = and_then (open_port family device lan) (λ port. judged_then s (yes (tally blank (script port s))))

-- its one attempt has begun
unfoldable pub valid_script : Port → Meter → List ℕ → Attempt → Bool
valid_script port m s t = pick (valid_held port m) (pick (eqb m.transfers 1) (valid_attempt (layout_of port.family) s t) false) false

-- 10, 11, 12. The finished state is well formed
unfoldable pub stepped_script : ScriptCall → List ℕ → Answer → Asked (Prog (Counted (R (Unit {0}))))
stepped_script (Some (port, m, t)) s a =
    admitting (valid_script port m s t) (access_attempt (layout_of port.family) t) a (yes (tally m (rest_script port s t a)))
stepped_script None s a = no 11

-- a step: 5 to 7 again, of the script that is lent now
unfoldable pub step_script : ScriptCall → List ℕ → Answer → Asked (Prog (Counted (R (Unit {0}))))
step_script c s a = judged_then s (stepped_script c s a)

-- what was told, where the script s is lent on
unfoldable pub said_script : ScriptTold → List ℕ → Asked (Prog (Counted (R (Unit {0}))))
said_script (Ok (Ask x (Some (port, m, t)))) s = yes (ask x (λ a. tally m (rest_script port s t a)))
said_script (Ok (Ask x None)) s = no 0
said_script (Ok (Read b x (Some (port, m, t)))) s = yes (give b (ask x (λ a. tally m (rest_script port s t a))))
said_script (Ok (Read b x None)) s = no 0
said_script (Ok (End o m)) s = yes (ret (record { meter = m; result = reply o }))
said_script (Err q) s = no (refusal_number q)

-- a state to go on from comes with the access it awaits, and passes question 10 with the script s
unfoldable pub stands_script : ScriptTold → List ℕ → Type 0
stands_script (Ok (Ask x (Some (port, m, t)))) s = (x ≡ access_attempt (layout_of port.family) t) × (valid_script port m s t ≡ true)
stands_script (Ok (Ask x None)) s = ⊥
stands_script (Ok (Read b x (Some (port, m, t)))) s = (x ≡ access_attempt (layout_of port.family) t) × (valid_script port m s t ≡ true)
stands_script (Ok (Read b x None)) s = ⊥
stands_script (Ok (End o m)) s = Unit {0}
stands_script (Err q) s = Unit {0}

-- what a step told, u, follows what was told before it, t, where s is lent: as the step promises
unfoldable pub follows_script : List ℕ → ScriptTold → Answer → ScriptTold → Type 0
follows_script s (Ok (Ask x c)) a u = Bounds (said_script u s ≡ step_script c s a) (stands_script u s) (script_left u ≤ call_left c - 1)
follows_script s (Ok (Read b x c)) a u = Bounds (said_script u s ≡ step_script c s a) (stands_script u s) (script_left u ≤ call_left c - 1)
follows_script s (Ok (End o m)) a u = ⊥
follows_script s (Err q) a u = ⊥

-- what was told, and the script that is lent to the step after it
pub record ScriptAt : Type 0 where
  pub told : ScriptTold
  pub script : List ℕ

unfoldable pub said_at : ScriptAt → Asked (Prog (Counted (R (Unit {0}))))
said_at t = said_script t.told t.script

-- a step that is lent a script of its own follows, and is accepted
unfoldable pub follows_lent : ScriptAt → Answer → ScriptAt → Type 0
follows_lent t a u = follows_script t.script t.told a u.told × Unrefused (said_script u.told t.script)
