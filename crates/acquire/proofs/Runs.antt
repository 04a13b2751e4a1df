-- Whole calls of `acquire` and `release`: for every port that is accepted and every list of answers the library's run is
-- the Rust's, and every list of answers of the awaited kinds that is long enough brings it to its end. A state that was
-- handed out is not refused at its next step.
use Prim.Native.Nat.{ℕ, ◌≤◌, suc}
use mathlib.Core.Path.{◌≡◌, ap, ◌∙◌}
use mathlib.Core.Bool.{true}
use mathlib.Core.List.{List}
use lib.ListN.{length}
use Rattle.hardware.specs.declared.Access.{Access}
use Rattle.hardware.specs.declared.Answer.{Answer}
use Rattle.hardware.specs.declared.Port.{Port}
use Rattle.hardware.specs.Asked.{yes, and_then, question, open_port, fits, admitting}
use Rattle.hardware.specs.Prog.{R, erase}
use Rattle.hardware.specs.Runs.{run, run_asked, Awaited, ended, AwaitedIn, left_after, left_asked_after, Exchange, answers_of, AllKept, driven, Asks, IfYes, Lasts}
use Rattle.hardware.proofs.Laws.{runs_open, is_true, StepsOn, opened_runs}
use Rattle.hardware.proofs.Longest.{Falls, lasting_falls, Accepts, steps_few}
use Rattle.hardware.proofs.Ends.{run_ends, ask_ends, ends_erase}
use Rattle.acquire.specs.declared.acquire.Acquire.{Acquire}
use Rattle.acquire.specs.declared.release.Release.{Release}
use Rattle.hostif.specs.Acquire.{acquire, release}
use Rattle.acquire.specs.Acquire.{rest_acquire, rest_release}
use Rattle.acquire.specs.Calls.{open_acquire, step_acquire, said_acquire, stands_acquire, open_release, step_release, said_release, stands_release, follows_acquire, follows_release}
use Rattle.acquire.proofs.Ends.{ACQUIRE_STEPS, acquire_ends, RELEASE_STEPS, release_ends, acquire_after, release_after, acquire_rest_ends, release_rest_ends}
use Rattle.hardware.specs.Promise.{Keeps}
use Rattle.acquire.specs.Aliases.{ReleaseTold, AcquireTold}
use Rattle.hardware.specs.declared.Told.TheVariants.{Ask, End}
use Rattle.std.specs.Prelude.{Ok, Err, Some, None}

pub acquire_runs : (family device lan mask : ℕ) (r : AcquireTold) → said_acquire r ≡ open_acquire family device lan mask → (l : List Answer)
    → run_asked (said_acquire r) l ≡ and_then (open_port family device lan) (λ port. yes (run (acquire port mask) l))
unfolding open_acquire
acquire_runs family device lan mask r e l = ap (λ x. run_asked x l) e ∙ runs_open (open_port family device lan) (λ port. acquire port mask) l

pub acquire_finishes : (port : Port) (mask : ℕ) (l : List Answer) → ACQUIRE_STEPS port.family ≤ length l → Awaited (acquire port mask) l
    → (v : R (Unit {0})) × ((run (acquire port mask) l).status ≡ ended v)
acquire_finishes port mask l h w = run_ends (acquire port mask) (ACQUIRE_STEPS port.family) l (acquire_ends port mask) h w

-- a state that was handed out, with any answer of the kind that its access awaits, is not refused
pub acquire_accepts : (x : Access) (port : Port) (hw : ℕ) (t : Acquire) (a : Answer) → stands_acquire (Ok (Ask x (Some (port, hw, t))))
    → fits x a ≡ true → step_acquire (Some (port, hw, t)) a ≡ yes (erase (rest_acquire port hw t a))
unfolding stands_acquire step_acquire admitting question
acquire_accepts x port hw t a h e = rw (h.1, ← h.0, e)

pub acquire_steps_on : StepsOn said_acquire follows_acquire stands_acquire
unfolding follows_acquire said_acquire stands_acquire AwaitedIn Awaited left_asked_after left_after IfYes Asks
acquire_steps_on (Ok (Ask y (Some (port, hw, t)))) u a h k w = (k.yields ∙ acquire_accepts y port hw t a h (is_true (fits y a) w.0), k.limits, tt)
acquire_steps_on (Ok (Ask y None)) u a h k w = absurd h
acquire_steps_on (Ok (End o)) u a h k w = absurd k
acquire_steps_on (Err q) u a h k w = absurd k

-- its number falls at every accepted step
pub acquire_falls : Falls said_acquire follows_acquire stands_acquire
acquire_falls = lasting_falls said_acquire follows_acquire stands_acquire acquire_steps_on

-- from the opening on, driven by steps that keep their promises
pub acquire_driven : (family device lan mask : ℕ) (t : AcquireTold) → Keeps (said_acquire t ≡ open_acquire family device lan mask) (stands_acquire t) → (ks : List (Exchange AcquireTold)) → AllKept follows_acquire t ks
    → AwaitedIn (open_acquire family device lan mask) (answers_of ks) → driven said_acquire t ks ≡ and_then (open_port family device lan) (λ port. yes (run (acquire port mask) (answers_of ks)))
acquire_driven family device lan mask t k ks kept w = opened_runs said_acquire follows_acquire stands_acquire acquire_steps_on t ks k kept w ∙ acquire_runs family device lan mask t k.yields (answers_of ks)

pub release_runs : (family device lan mask : ℕ) (r : ReleaseTold) → said_release r ≡ open_release family device lan mask → (l : List Answer)
    → run_asked (said_release r) l ≡ and_then (open_port family device lan) (λ port. yes (run (release port mask) l))
unfolding open_release
release_runs family device lan mask r e l = ap (λ x. run_asked x l) e ∙ runs_open (open_port family device lan) (λ port. release port mask) l

pub release_finishes : (port : Port) (mask : ℕ) (l : List Answer) → RELEASE_STEPS port.family ≤ length l → Awaited (release port mask) l
    → (v : R (Unit {0})) × ((run (release port mask) l).status ≡ ended v)
release_finishes port mask l h w = run_ends (release port mask) (RELEASE_STEPS port.family) l (release_ends port mask) h w

pub release_accepts : (x : Access) (port : Port) (hw : ℕ) (t : Release) (a : Answer) → stands_release (Ok (Ask x (Some (port, hw, t))))
    → fits x a ≡ true → step_release (Some (port, hw, t)) a ≡ yes (erase (rest_release port hw t a))
unfolding stands_release step_release admitting question
release_accepts x port hw t a h e = rw (h.1, ← h.0, e)

pub release_steps_on : StepsOn said_release follows_release stands_release
unfolding follows_release said_release stands_release AwaitedIn Awaited left_asked_after left_after IfYes Asks
release_steps_on (Ok (Ask y (Some (port, hw, t)))) u a h k w = (k.yields ∙ release_accepts y port hw t a h (is_true (fits y a) w.0), k.limits, tt)
release_steps_on (Ok (Ask y None)) u a h k w = absurd h
release_steps_on (Ok (End o)) u a h k w = absurd k
release_steps_on (Err q) u a h k w = absurd k

pub release_falls : Falls said_release follows_release stands_release
release_falls = lasting_falls said_release follows_release stands_release release_steps_on

-- from the opening on, driven by steps that keep their promises
pub release_driven : (family device lan mask : ℕ) (t : ReleaseTold) → Keeps (said_release t ≡ open_release family device lan mask) (stands_release t) → (ks : List (Exchange ReleaseTold)) → AllKept follows_release t ks
    → AwaitedIn (open_release family device lan mask) (answers_of ks) → driven said_release t ks ≡ and_then (open_port family device lan) (λ port. yes (run (release port mask) (answers_of ks)))
release_driven family device lan mask t k ks kept w = opened_runs said_release follows_release stands_release release_steps_on t ks k kept w ∙ release_runs family device lan mask t k.yields (answers_of ks)

-- from any state that passes question 10, whoever made it, a call takes at most so many steps more
pub acquire_lasts : (x : Access) (port : Port) (hw : ℕ) (s : Acquire) (ks : List (Exchange AcquireTold)) → stands_acquire (Ok (Ask x (Some (port, hw, s))))
    → AllKept (Accepts said_acquire follows_acquire) (Ok (Ask x (Some (port, hw, s)))) ks → Lasts said_acquire (Ok (Ask x (Some (port, hw, s)))) ks (suc (acquire_after port.family s))
unfolding said_acquire IfYes
acquire_lasts x port hw s ks h k =
    steps_few said_acquire follows_acquire stands_acquire acquire_steps_on (Ok (Ask x (Some (port, hw, s)))) ks (suc (acquire_after port.family s)) h k
    (ask_ends x _ (acquire_after port.family s) (λ a. ends_erase _ _ (acquire_rest_ends port hw s a)))

pub release_lasts : (x : Access) (port : Port) (hw : ℕ) (s : Release) (ks : List (Exchange ReleaseTold)) → stands_release (Ok (Ask x (Some (port, hw, s))))
    → AllKept (Accepts said_release follows_release) (Ok (Ask x (Some (port, hw, s)))) ks → Lasts said_release (Ok (Ask x (Some (port, hw, s)))) ks (suc (release_after s))
unfolding said_release IfYes
release_lasts x port hw s ks h k =
    steps_few said_release follows_release stands_release release_steps_on (Ok (Ask x (Some (port, hw, s)))) ks (suc (release_after s)) h k (ask_ends x _ (release_after s) (λ a. ends_erase _ _ (release_rest_ends port hw s a)))
