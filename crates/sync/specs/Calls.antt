-- What the public calls of `lock` and `unlock` yield: a refusal by its number, or what is left of the call.
use Rattle.std.specs.Prelude.{ℕ, ◌≡◌, true, Ok, Err, Some, None}
use Rattle.hardware.specs.declared.Answer.{Answer}
use Rattle.hardware.specs.Asked.{Asked, yes, no, and_then, open_family, admitting}
use Rattle.hardware.specs.Numbers.{refusal_number}
use Rattle.hardware.specs.Prog.{Prog, ret, ask, erase, R}
use Rattle.hardware.specs.Registers.{reply}
use Rattle.sync.specs.Lock.{lock, access_lock, rest_lock, valid_lock, unlock, access_unlock, rest_unlock}
use Rattle.hardware.specs.Promise.{Keeps}
use Rattle.sync.specs.Aliases.{UnlockTold, LockTold, UnlockCall, LockCall}
use Rattle.hardware.specs.declared.Told.TheVariants.{Ask, End}

-- `lock`: question 1
unfoldable pub open_lock : ℕ → Asked (Prog (R (Unit {0})))
open_lock family = and_then (open_family family) (λ f. yes (erase (lock f)))

-- a step: 10, 11, 12
unfoldable pub step_lock : LockCall → Answer → Asked (Prog (R (Unit {0})))
step_lock (Some (f, t)) a = admitting (valid_lock t) (access_lock f t) a (yes (erase (rest_lock f t a)))
step_lock None a = no 11

-- what was told; 0 is none of the papers' numbers: nothing asks with a finished state (`stands_lock`)
unfoldable pub said_lock : LockTold → Asked (Prog (R (Unit {0})))
said_lock (Ok (Ask x (Some (f, t)))) = yes (ask x (λ a. erase (rest_lock f t a)))
said_lock (Ok (Ask x None)) = no 0
said_lock (Ok (End o)) = yes (ret (reply o))
said_lock (Err q) = no (refusal_number q)

-- a state to go on from comes with the access it awaits, and passes question 10
unfoldable pub stands_lock : LockTold → Type 0
stands_lock (Ok (Ask x (Some (f, t)))) = (x ≡ access_lock f t) × (valid_lock t ≡ true)
stands_lock (Ok (Ask x None)) = ⊥
stands_lock (Ok (End o)) = Unit {0}
stands_lock (Err q) = Unit {0}

-- what a step told, u, follows what was told before it, t: as the step promises
unfoldable pub follows_lock : LockTold → Answer → LockTold → Type 0
follows_lock (Ok (Ask x s)) a u = Keeps (said_lock u ≡ step_lock s a) (stands_lock u)
follows_lock (Ok (End o)) a u = ⊥
follows_lock (Err q) a u = ⊥

-- `unlock`: question 1
unfoldable pub open_unlock : ℕ → Asked (Prog (R (Unit {0})))
open_unlock family = and_then (open_family family) (λ f. yes (erase (unlock f)))

-- its state has no counter, so that 10 is never a no
unfoldable pub step_unlock : UnlockCall → Answer → Asked (Prog (R (Unit {0})))
step_unlock (Some (f, t)) a = admitting true (access_unlock f t) a (yes (erase (rest_unlock f t a)))
step_unlock None a = no 11

unfoldable pub said_unlock : UnlockTold → Asked (Prog (R (Unit {0})))
said_unlock (Ok (Ask x (Some (f, t)))) = yes (ask x (λ a. erase (rest_unlock f t a)))
said_unlock (Ok (Ask x None)) = no 0
said_unlock (Ok (End o)) = yes (ret (reply o))
said_unlock (Err q) = no (refusal_number q)

unfoldable pub stands_unlock : UnlockTold → Type 0
stands_unlock (Ok (Ask x (Some (f, t)))) = x ≡ access_unlock f t
stands_unlock (Ok (Ask x None)) = ⊥
stands_unlock (Ok (End o)) = Unit {0}
stands_unlock (Err q) = Unit {0}

-- what a step told, u, follows what was told before it, t: as the step promises
unfoldable pub follows_unlock : UnlockTold → Answer → UnlockTold → Type 0
follows_unlock (Ok (Ask x s)) a u = Keeps (said_unlock u ≡ step_unlock s a) (stands_unlock u)
follows_unlock (Ok (End o)) a u = ⊥
follows_unlock (Err q) a u = ⊥
