-- Whole calls of `lock` and `unlock`: for every family that is accepted and every list of answers the library's run is
-- the Rust's, and every list of answers of the awaited kinds that is long enough brings it to its end. A state that was
-- handed out is not refused at its next step.
use Prim.Native.Nat.{ℕ, ◌≤◌, suc}
use mathlib.Core.Path.{◌≡◌, ap, ◌∙◌}
use mathlib.Core.Bool.{true}
use mathlib.Core.List.{List}
use lib.ListN.{length}
use Rattle.hardware.specs.declared.Access.{Access}
use Rattle.hardware.specs.declared.Answer.{Answer}
use Rattle.hardware.specs.declared.Family.{Family}
use Rattle.hardware.specs.Asked.{yes, and_then, question, open_family, fits, admitting}
use Rattle.hardware.specs.Prog.{R, erase}
use Rattle.hardware.specs.Runs.{run, run_asked, Awaited, ended, AwaitedIn, left_after, left_asked_after, Exchange, answers_of, AllKept, driven, Asks, IfYes, Lasts}
use Rattle.hardware.proofs.Laws.{runs_open, is_true, StepsOn, opened_runs}
use Rattle.hardware.proofs.Longest.{Falls, lasting_falls, Accepts, steps_few}
use Rattle.hardware.proofs.Ends.{run_ends, ask_ends, ends_erase}
use Rattle.sync.specs.declared.lock.Lock.{Lock}
use Rattle.sync.specs.declared.unlock.Unlock.{Unlock}
use Rattle.sync.specs.Lock.{lock, rest_lock, unlock, rest_unlock}
use Rattle.sync.specs.Calls.{open_lock, step_lock, said_lock, stands_lock, open_unlock, step_unlock, said_unlock, stands_unlock, follows_lock, follows_unlock}
use Rattle.sync.proofs.Ends.{LOCK_STEPS, lock_ends, UNLOCK_STEPS, unlock_ends, lock_after, unlock_after, lock_rest_ends, unlock_rest_ends}
use Rattle.hardware.specs.Promise.{Keeps}
use Rattle.sync.specs.Aliases.{UnlockTold, LockTold}
use Rattle.hardware.specs.declared.Told.TheVariants.{Ask, End}
use Rattle.std.specs.Prelude.{Ok, Err, Some, None}

pub lock_runs : (family : ℕ) (r : LockTold) → said_lock r ≡ open_lock family → (l : List Answer)
    → run_asked (said_lock r) l ≡ and_then (open_family family) (λ f. yes (run (lock f) l))
unfolding open_lock
lock_runs family r e l = ap (λ x. run_asked x l) e ∙ runs_open (open_family family) lock l

pub lock_finishes : (f : Family) (l : List Answer) → LOCK_STEPS ≤ length l → Awaited (lock f) l → (v : R (Unit {0})) × ((run (lock f) l).status ≡ ended v)
lock_finishes f l h w = run_ends (lock f) LOCK_STEPS l (lock_ends f) h w

-- a state that was handed out, with any answer of the kind that its access awaits, is not refused
pub lock_accepts : (x : Access) (f : Family) (t : Lock) (a : Answer) → stands_lock (Ok (Ask x (Some (f, t)))) → fits x a ≡ true
    → step_lock (Some (f, t)) a ≡ yes (erase (rest_lock f t a))
unfolding stands_lock step_lock admitting question
lock_accepts x f t a h e = rw (h.1, ← h.0, e)

lock_on : StepsOn said_lock follows_lock stands_lock
unfolding follows_lock said_lock stands_lock AwaitedIn Awaited left_asked_after left_after IfYes Asks
lock_on (Ok (Ask y (Some (f, t)))) u a h k w = (k.yields ∙ lock_accepts y f t a h (is_true (fits y a) w.0), k.limits, tt)
lock_on (Ok (Ask y None)) u a h k w = absurd h
lock_on (Ok (End o)) u a h k w = absurd k
lock_on (Err q) u a h k w = absurd k

-- its number falls at every accepted step
pub lock_falls : Falls said_lock follows_lock stands_lock
lock_falls = lasting_falls said_lock follows_lock stands_lock lock_on

-- from the opening on, driven by steps that keep their promises
pub lock_driven : (family : ℕ) (t : LockTold) → Keeps (said_lock t ≡ open_lock family) (stands_lock t) → (ks : List (Exchange LockTold)) → AllKept follows_lock t ks
    → AwaitedIn (open_lock family) (answers_of ks) → driven said_lock t ks ≡ and_then (open_family family) (λ f. yes (run (lock f) (answers_of ks)))
lock_driven family t k ks kept w = opened_runs said_lock follows_lock stands_lock lock_on t ks k kept w ∙ lock_runs family t k.yields (answers_of ks)

pub unlock_runs : (family : ℕ) (r : UnlockTold) → said_unlock r ≡ open_unlock family → (l : List Answer)
    → run_asked (said_unlock r) l ≡ and_then (open_family family) (λ f. yes (run (unlock f) l))
unfolding open_unlock
unlock_runs family r e l = ap (λ x. run_asked x l) e ∙ runs_open (open_family family) unlock l

pub unlock_finishes : (f : Family) (l : List Answer) → UNLOCK_STEPS ≤ length l → Awaited (unlock f) l → (v : R (Unit {0})) × ((run (unlock f) l).status ≡ ended v)
unlock_finishes f l h w = run_ends (unlock f) UNLOCK_STEPS l (unlock_ends f) h w

pub unlock_accepts : (x : Access) (f : Family) (t : Unlock) (a : Answer) → stands_unlock (Ok (Ask x (Some (f, t)))) → fits x a ≡ true
    → step_unlock (Some (f, t)) a ≡ yes (erase (rest_unlock f t a))
unfolding stands_unlock step_unlock admitting question
unlock_accepts x f t a h e = rw (← h, e)

unlock_on : StepsOn said_unlock follows_unlock stands_unlock
unfolding follows_unlock said_unlock stands_unlock AwaitedIn Awaited left_asked_after left_after IfYes Asks
unlock_on (Ok (Ask y (Some (f, t)))) u a h k w = (k.yields ∙ unlock_accepts y f t a h (is_true (fits y a) w.0), k.limits, tt)
unlock_on (Ok (Ask y None)) u a h k w = absurd h
unlock_on (Ok (End o)) u a h k w = absurd k
unlock_on (Err q) u a h k w = absurd k

pub unlock_falls : Falls said_unlock follows_unlock stands_unlock
unlock_falls = lasting_falls said_unlock follows_unlock stands_unlock unlock_on

-- from the opening on, driven by steps that keep their promises
pub unlock_driven : (family : ℕ) (t : UnlockTold) → Keeps (said_unlock t ≡ open_unlock family) (stands_unlock t) → (ks : List (Exchange UnlockTold)) → AllKept follows_unlock t ks
    → AwaitedIn (open_unlock family) (answers_of ks) → driven said_unlock t ks ≡ and_then (open_family family) (λ f. yes (run (unlock f) (answers_of ks)))
unlock_driven family t k ks kept w = opened_runs said_unlock follows_unlock stands_unlock unlock_on t ks k kept w ∙ unlock_runs family t k.yields (answers_of ks)

-- from any state that passes question 10, whoever made it, a call takes at most so many steps more
pub lock_lasts : (x : Access) (f : Family) (s : Lock) (ks : List (Exchange LockTold)) → stands_lock (Ok (Ask x (Some (f, s)))) → AllKept (Accepts said_lock follows_lock) (Ok (Ask x (Some (f, s)))) ks → Lasts said_lock (Ok (Ask x (Some (f, s)))) ks (suc (lock_after s))
unfolding said_lock IfYes
lock_lasts x f s ks h k =
    steps_few said_lock follows_lock stands_lock lock_on (Ok (Ask x (Some (f, s)))) ks (suc (lock_after s)) h k (ask_ends x _ (lock_after s) (λ a. ends_erase _ _ (lock_rest_ends f s a)))

pub unlock_lasts : (x : Access) (f : Family) (s : Unlock) (ks : List (Exchange UnlockTold)) → stands_unlock (Ok (Ask x (Some (f, s)))) → AllKept (Accepts said_unlock follows_unlock) (Ok (Ask x (Some (f, s)))) ks → Lasts said_unlock (Ok (Ask x (Some (f, s)))) ks (suc (unlock_after s))
unfolding said_unlock IfYes
unlock_lasts x f s ks h k =
    steps_few said_unlock follows_unlock stands_unlock unlock_on (Ok (Ask x (Some (f, s)))) ks (suc (unlock_after s)) h k (ask_ends x _ (unlock_after s) (λ a. ends_erase _ _ (unlock_rest_ends f s a)))
