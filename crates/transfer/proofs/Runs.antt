-- Whole calls of a script: for every port and script that is accepted and every list of answers the library's run is the
-- Rust's, with the count of transfers, and every list of answers of the awaited kinds that is long enough brings it to its
-- end. A state that was handed out is not refused at its next step. From any state the call ends, whatever accepted script is
-- lent at each step.
use Prim.Native.Nat.{ℕ, ◌+◌, ◌*◌, ◌-◌, ◌<◌, ◌≤◌, suc}
use mathlib.Core.Path.{◌≡◌, refl, ap, ◌∙◌, subst, sym}
use mathlib.Core.Bool.{Bool, true, false}
use mathlib.Core.List.{List}
use native.Mathlib.Omega.{arith}
use lib.Dec.{eqb}
use lib.ListN.{length}
use Rattle.hardware.specs.declared.Access.{Access}
use Rattle.hardware.specs.declared.Answer.{Answer}
use Rattle.hardware.specs.declared.Meter.{Meter}
use Rattle.hardware.specs.declared.Port.{Port}
use Rattle.hardware.specs.Asked.{Asked, no, yes, and_then, question, open_port, fits, admitting}
use Rattle.hardware.specs.Prog.{Prog, R, blank, tally, ◌>>=◌}
use Rattle.hardware.specs.Runs.{run, run_asked, Ends, Awaited, ended, transfers_in, samples_in, Heard, meter_in, counted, AwaitedIn, left_after, left_asked_after, Exchange, answers_of, AllKept, driven, Refuses, Asks, IfYes, Lasts, Unrefused}
use Rattle.hardware.proofs.Laws.{run_tally, samples_heard, is_true, StepsOn, opened_runs, refused_runs}
use Rattle.hardware.proofs.Longest.{Falls, lasting_falls, Accepts, steps_few, number_few}
use Rattle.hardware.proofs.Ends.{ends_more, ends_bind, ret_ends, run_ends, ask_ends, ends_tally}
use Rattle.bus.specs.declared.Taken.{Taken}
use Rattle.bus.proofs.Noteless.{Noteless, ret_noteless, bind_noteless, transfers_none, samples_noteless}
use Rattle.script.specs.Script.{commands, device, judged}
use Rattle.script.proofs.Laws.{accepted, fits_length, commands_length}
use Rattle.bus.specs.Bus.{none}
use Rattle.bus.specs.Layout.{layout_of}
use Rattle.transfer.specs.declared.attempt.Attempt.{Attempt}
use Rattle.transfer.specs.declared.attempt.Sequence.TheVariants.{Pulses}
use Rattle.transfer.specs.Transfer.{handing, transfer}
use Rattle.transfer.specs.Attempt.{attempt, attempting}
use Rattle.transfer.specs.Calls.{dropped, script, rest_script, judged_then, open_script, stepped_script, step_script, said_script, stands_script, follows_script, ScriptAt, said_at, follows_lent}
use Rattle.transfer.specs.Left.{attempt_left, call_left, script_left}
use Rattle.transfer.proofs.Laws.{judged_yes}
use Rattle.transfer.proofs.Ends.{COMMAND_STEPS, ATTEMPT_STEPS, attempt_steps, commands_ends, attempt_after, attempt_rest_ends}
use Rattle.transfer.proofs.Left.{attempt_some, attempt_most, attempt_left_lem}
use Rattle.transfer.proofs.Noteless.{transfer_noteless, attempting_noteless}
use Rattle.hardware.specs.Promise.{Keeps}
use borrow.Author.Tests.{eqb-true}
use Rattle.transfer.specs.Aliases.{ScriptTold}
use Rattle.transfer.specs.declared.calls.Said.TheVariants.{Ask, Read, End}
use Rattle.std.specs.Prelude.{Ok, Err, Some, None}

dropped_noteless : (r : R Taken) → Noteless (dropped r)
unfolding dropped
dropped_noteless r = ret_noteless _

-- a call that is opened is run over the answers
run_question : {A : Type 0} (b : Bool) (n : ℕ) (p : Prog A) (l : List Answer) → run_asked (question b n (yes p)) l ≡ question b n (yes (run p l))
unfolding run_asked question
run_question true n p l = refl
run_question false n p l = refl

run_opened : (o : Asked Port) (s : List ℕ) (l : List Answer)
    → run_asked (and_then o (λ port. judged_then s (yes (tally blank (script port s))))) l ≡ and_then o (λ port. judged_then s (yes (counted (meter_in blank (script port s) l) (run (script port s) l))))
unfolding run_asked and_then judged_then
run_opened (no n) s l = refl
run_opened (yes port) s l = run_question _ _ _ l ∙ ap (λ r. question (eqb (judged s) 0) (judged s) (yes r)) (run_tally blank (script port s) l)

pub script_runs : (family device lan : ℕ) (s : List ℕ) (r : ScriptTold) → said_script r s ≡ open_script family device lan s → (l : List Answer)
    → run_asked (said_script r s) l ≡ and_then (open_port family device lan) (λ port. judged_then s (yes (counted (meter_in blank (script port s) l) (run (script port s) l))))
unfolding open_script
script_runs family device lan s r e l = ap (λ x. run_asked x l) e ∙ run_opened (open_port family device lan) s l

-- past its beginning
begun_noteless : (port : Port) (s : List ℕ)
    → Noteless (attempting Pulses (layout_of port.family) (device s) (transfer handing (layout_of port.family) (device s) (commands s) none) >>= dropped)
begun_noteless port s =
    bind_noteless _ dropped (attempting_noteless Pulses (layout_of port.family) (device s) _ (transfer_noteless handing (layout_of port.family) (device s) (commands s) none)) dropped_noteless

-- one transfer is begun, in the run's first step, whether it fails or not
pub script_count : (port : Port) (s : List ℕ) (l : List Answer) → transfers_in (script port s) l ≡ 1
unfolding script attempt ◌>>=◌ transfers_in
script_count port s l =
    ap suc (transfers_none _ l (begun_noteless port s))

-- every acknowledgement in it is in one of ten samples, and its result tells the greatest
pub script_heard : (port : Port) (s : List ℕ) (l : List Answer) → Heard (script port s) l
unfolding script attempt ◌>>=◌ samples_in
script_heard port s l = samples_heard _ l (samples_noteless _ l (begun_noteless port s))

-- a script has at most 64 commands
abbrev pub SCRIPT_STEPS : ℕ
SCRIPT_STEPS = ATTEMPT_STEPS (COMMAND_STEPS * 64)

pub script_steps : SCRIPT_STEPS ≡ 1183518
script_steps = attempt_steps 64

script_length : (s : List ℕ) → judged s ≡ 0 → length (commands s) ≤ 64
script_length s h = omega (arith, commands_length s, (fits_length s (accepted s h).0).1)

pub script_ends : (port : Port) (s : List ℕ) → judged s ≡ 0 → Ends (script port s) SCRIPT_STEPS
unfolding script dropped
script_ends port s h =
    ends_more _ (ATTEMPT_STEPS (COMMAND_STEPS * length (commands s)) + 0) SCRIPT_STEPS
    (ends_bind _ _ (ATTEMPT_STEPS (COMMAND_STEPS * length (commands s))) 0 (commands_ends handing Pulses (layout_of port.family) (device s) (commands s) none) (λ r. ret_ends _ 0))
    (omega (arith, script_length s h))

pub script_finishes : (port : Port) (s : List ℕ) (l : List Answer) → judged s ≡ 0 → SCRIPT_STEPS ≤ length l → Awaited (script port s) l
    → (v : R (Unit {0})) × ((run (script port s) l).status ≡ ended v)
script_finishes port s l h n w = run_ends (script port s) SCRIPT_STEPS l (script_ends port s h) n w

-- a state that was handed out, with the script and any answer of the kind that its access awaits, is not refused
pub script_accepts : (x : Access) (port : Port) (m : Meter) (t : Attempt) (s : List ℕ) (a : Answer) → stands_script (Ok (Ask x (Some (port, m, t)))) s
    → judged s ≡ 0 → fits x a ≡ true → step_script (Some (port, m, t)) s a ≡ yes (tally m (rest_script port s t a))
unfolding stands_script step_script stepped_script admitting question
script_accepts x port m t s a h j e = judged_yes s _ j ∙ (rw (h.1, ← h.0, e))

pub script_read_accepts : (b : ℕ) (x : Access) (port : Port) (m : Meter) (t : Attempt) (s : List ℕ) (a : Answer) → stands_script (Ok (Read b x (Some (port, m, t)))) s
    → judged s ≡ 0 → fits x a ≡ true → step_script (Some (port, m, t)) s a ≡ yes (tally m (rest_script port s t a))
unfolding stands_script step_script stepped_script admitting question
script_read_accepts b x port m t s a h j e = judged_yes s _ j ∙ (rw (h.1, ← h.0, e))

pub script_steps_on : (s : List ℕ) → judged s ≡ 0 → StepsOn (λ t. said_script t s) (follows_script s) (λ t. stands_script t s)
unfolding follows_script said_script stands_script AwaitedIn Awaited left_asked_after left_after IfYes Asks
script_steps_on s j (Ok (Ask y (Some (port, m, t)))) u a h k w = (k.yields ∙ script_accepts y port m t s a h j (is_true (fits y a) w.0), k.limits, tt)
script_steps_on s j (Ok (Ask y None)) u a h k w = absurd h
script_steps_on s j (Ok (Read b y (Some (port, m, t)))) u a h k w = (k.yields ∙ script_read_accepts b y port m t s a h j (is_true (fits y a) w.0), k.limits, tt)
script_steps_on s j (Ok (Read b y None)) u a h k w = absurd h
script_steps_on s j (Ok (End o m)) u a h k w = absurd k
script_steps_on s j (Err q) u a h k w = absurd k

-- its number falls at every accepted step, with one script
pub script_falls : (s : List ℕ) → judged s ≡ 0 → Falls (λ t. said_script t s) (follows_script s) (λ t. stands_script t s)
script_falls s j = lasting_falls (λ t. said_script t s) (follows_script s) (λ t. stands_script t s) (script_steps_on s j)

-- from the opening on, driven by steps that keep their promises, the script lent at each; the bytes handed out are in the run
pub script_driven : (family device lan : ℕ) (s : List ℕ) (t : ScriptTold) → Keeps (said_script t s ≡ open_script family device lan s) (stands_script t s)
    → (ks : List (Exchange ScriptTold)) → AllKept (follows_script s) t ks → AwaitedIn (open_script family device lan s) (answers_of ks)
    → driven (λ t. said_script t s) t ks
    ≡ and_then (open_port family device lan) (λ port. judged_then s (yes (counted (meter_in blank (script port s) (answers_of ks)) (run (script port s) (answers_of ks)))))
unfolding open_script and_then judged_then question Refuses
script_driven family device lan s t k ks kept w = by (eqb (judged s) 0) refl ∙ script_runs family device lan s t k.yields (answers_of ks)
  where
    unaccepted : (o : Asked Port) → eqb (judged s) 0 ≡ false → Refuses (and_then o (λ port. judged_then s (yes (tally blank (script port s)))))
    unaccepted (no n) e = tt
    unaccepted (yes port) e = rw e tt

    by : (b : Bool) → eqb (judged s) 0 ≡ b → driven (λ t. said_script t s) t ks ≡ run_asked (said_script t s) (answers_of ks)
    by true e = opened_runs (λ t. said_script t s) (follows_script s) (λ t. stands_script t s) (script_steps_on s (eqb-true (judged s) 0 e)) t ks k kept w
    by false e = refused_runs (λ t. said_script t s) t ks (subst Refuses (sym k.yields) (unaccepted (open_port family device lan) e))

script_rest_ends : (port : Port) (s : List ℕ) (t : Attempt) (a : Answer) → judged s ≡ 0 → Ends (rest_script port s t a) (attempt_after t)
unfolding rest_script dropped
script_rest_ends port s t a h =
    ends_more _ (attempt_after t + 0) (attempt_after t)
    (ends_bind _ _ (attempt_after t) 0 (attempt_rest_ends handing Pulses (layout_of port.family) (device s) s t a (fits_length s (accepted s h).0).1) (λ r. ret_ends _ 0))
    (omega arith)

-- from any state that passes question 10, whoever made it, the call takes at most so many steps more with any accepted script
-- that is lent at each of them
pub script_lasts : (x : Access) (port : Port) (m : Meter) (s : List ℕ) (t : Attempt) (ks : List (Exchange ScriptTold)) → judged s ≡ 0 → stands_script (Ok (Ask x (Some (port, m, t)))) s
    → AllKept (Accepts (λ u. said_script u s) (follows_script s)) (Ok (Ask x (Some (port, m, t)))) ks → Lasts (λ u. said_script u s) (Ok (Ask x (Some (port, m, t)))) ks (suc (attempt_after t))
unfolding said_script IfYes
script_lasts x port m s t ks j h k =
    steps_few (λ u. said_script u s) (follows_script s) (λ u. stands_script u s) (script_steps_on s j) (Ok (Ask x (Some (port, m, t)))) ks (suc (attempt_after t)) h k
    (ask_ends x _ (attempt_after t) (λ a. ends_tally m _ _ (script_rest_ends port s t a j)))

-- what one script leads on from, any does
said_any : (u : ScriptTold) (s z : List ℕ) → Unrefused (said_script u s) → Unrefused (said_script u z)
unfolding said_script IfYes
said_any (Ok (Ask x (Some (port, m, t)))) s z h = tt
said_any (Ok (Ask x None)) s z h = h
said_any (Ok (Read b x (Some (port, m, t)))) s z h = tt
said_any (Ok (Read b x None)) s z h = h
said_any (Ok (End o m)) s z h = tt
said_any (Err q) s z h = h

goes : (t u : ScriptAt) (a : Answer) → follows_lent t a u → Unrefused (said_at u)
unfolding follows_lent said_at
goes t u a k = said_any u.told t.script u.script k.1

never_yes : (A : Type 0) (b : Bool) (n m : ℕ) → Unrefused {A = A} (question b n (no m)) → ⊥
unfolding IfYes question
never_yes A true n m h = h
never_yes A false n m h = h

-- the number falls at every accepted step, whichever script it is lent
pub lent_falls : (t u : ScriptAt) (a : Answer) → follows_lent t a u → script_left u.told < script_left t.told
unfolding follows_lent follows_script step_script stepped_script judged_then script_left call_left
lent_falls t u a k = by t.told k.0
  where
    less : (port : Port) (m : Meter) (c : Attempt) → script_left u.told ≤ call_left (Some (port, m, c)) - 1 → script_left u.told < attempt_left (layout_of port.family) c
    less port m c h = omega (arith, attempt_some (layout_of port.family) c, h)

    over : said_script u.told t.script ≡ step_script None t.script a → ⊥
    over e = never_yes _ _ _ _ (subst Unrefused e k.1)

    by : (v : ScriptTold) → follows_script t.script v a u.told → script_left u.told < script_left v
    by (Ok (Ask x (Some (port, m, c)))) k = less port m c k.within
    by (Ok (Ask x None)) k = absurd (over k.yields)
    by (Ok (Read b x (Some (port, m, c)))) k = less port m c k.within
    by (Ok (Read b x None)) k = absurd (over k.yields)
    by (Ok (End o m)) k = absurd k
    by (Err q) k = absurd k

lent_over : (t : ScriptAt) → Unrefused (said_at t) → script_left t.told ≡ 0 → IfYes (λ p. Asks p → ⊥) (said_at t)
unfolding said_at said_script script_left call_left IfYes Asks
lent_over t y e = by t.told y e
  where
    none : (port : Port) (c : Attempt) → attempt_left (layout_of port.family) c ≡ 0 → ⊥
    none port c e = omega (arith, attempt_some (layout_of port.family) c, e)

    by : (v : ScriptTold) → Unrefused (said_script v t.script) → script_left v ≡ 0 → IfYes (λ p. Asks p → ⊥) (said_script v t.script)
    by (Ok (Ask x (Some (port, m, c)))) y e = absurd (none port c e)
    by (Ok (Ask x None)) y e = absurd y
    by (Ok (Read b x (Some (port, m, c)))) y e = absurd (none port c e)
    by (Ok (Read b x None)) y e = absurd y
    by (Ok (End o m)) y e = λ k. k
    by (Err q) y e = absurd y

-- So with at most n accesses left, as the contract of an opening says of what it tells, the call takes at most n accepted steps more,
-- each lent an accepted script of its own, and has ended after n
pub script_lasts_within : (t : ScriptAt) (ks : List (Exchange ScriptAt)) (n : ℕ) → Unrefused (said_at t) → script_left t.told ≤ n
    → AllKept follows_lent t ks → Lasts said_at t ks n
script_lasts_within t ks n y h kept =
    number_few said_at follows_lent (λ t. Unrefused (said_at t)) (λ t. script_left t.told)
    (λ t u a y k. (goes t u a k, lent_falls t u a k)) lent_over t ks n y h kept

-- from any state, whoever made it
pub script_lasts_lent : (x : Access) (port : Port) (m : Meter) (s : List ℕ) (t : Attempt) (ks : List (Exchange ScriptAt))
    → AllKept follows_lent (record { told = Ok (Ask x (Some (port, m, t))); script = s }) ks
    → Lasts said_at (record { told = Ok (Ask x (Some (port, m, t))); script = s }) ks (attempt_most t)
unfolding said_at said_script script_left call_left IfYes
script_lasts_lent x port m s t ks kept = script_lasts_within _ ks (attempt_most t) tt (attempt_left_lem (layout_of port.family) t) kept
