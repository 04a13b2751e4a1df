-- What the public calls of `acquire` and `release` yield: a refusal by its number, or what is left of the call.
use Rattle.std.specs.Prelude.{ℕ, ◌≡◌, Bool, true, false, Ok, Err, Some, None}
use Rattle.hardware.specs.declared.Answer.{Answer}
use Rattle.hardware.specs.declared.Port.{Port}
use Rattle.hardware.specs.Asked.{Asked, yes, no, and_then, open_port, valid_port, admitting}
use Rattle.hardware.specs.Numbers.{refusal_number}
use Rattle.hardware.specs.Prog.{Prog, ret, ask, erase, R, pick}
use Rattle.hardware.specs.Registers.{reply}
use Rattle.acquire.specs.declared.acquire.Acquire.{Acquire}
use Rattle.acquire.specs.declared.release.Release.{Release}
use Rattle.hostif.specs.Acquire.{acquire, release}
use Rattle.acquire.specs.Acquire.{access_acquire, rest_acquire, valid_acquire, access_release, rest_release, valid_release}
use Rattle.hardware.specs.Promise.{Keeps}
use Rattle.acquire.specs.Aliases.{ReleaseTold, AcquireTold, AcquireCall, ReleaseCall}
use Rattle.hardware.specs.declared.Told.TheVariants.{Ask, End}

-- `acquire`: 1 and 2. The mask is any 32 bits
unfoldable pub open_acquire : ℕ → ℕ → ℕ → ℕ → Asked (Prog (R (Unit {0})))
open_acquire family device lan mask = and_then (open_port family device lan) (λ port. yes (erase (acquire port mask)))

unfoldable pub valid_acquire_call : Port → Acquire → Bool
valid_acquire_call port t = pick (valid_port port) (valid_acquire port t) false

-- a step: 10, 11, 12
unfoldable pub step_acquire : AcquireCall → Answer → Asked (Prog (R (Unit {0})))
step_acquire (Some (port, hw, t)) a = admitting (valid_acquire_call port t) (access_acquire port hw t) a (yes (erase (rest_acquire port hw t a)))
step_acquire None a = no 11

unfoldable pub said_acquire : AcquireTold → Asked (Prog (R (Unit {0})))
said_acquire (Ok (Ask x (Some (port, hw, t)))) = yes (ask x (λ a. erase (rest_acquire port hw t a)))
said_acquire (Ok (Ask x None)) = no 0
said_acquire (Ok (End o)) = yes (ret (reply o))
said_acquire (Err q) = no (refusal_number q)

-- a state to go on from comes with the access it awaits, and passes question 10
unfoldable pub stands_acquire : AcquireTold → Type 0
stands_acquire (Ok (Ask x (Some (port, hw, t)))) = (x ≡ access_acquire port hw t) × (valid_acquire_call port t ≡ true)
stands_acquire (Ok (Ask x None)) = ⊥
stands_acquire (Ok (End o)) = Unit {0}
stands_acquire (Err q) = Unit {0}

-- what a step told, u, follows what was told before it, t: as the step promises
unfoldable pub follows_acquire : AcquireTold → Answer → AcquireTold → Type 0
follows_acquire (Ok (Ask x s)) a u = Keeps (said_acquire u ≡ step_acquire s a) (stands_acquire u)
follows_acquire (Ok (End o)) a u = ⊥
follows_acquire (Err q) a u = ⊥

-- `release`: 1 and 2
unfoldable pub open_release : ℕ → ℕ → ℕ → ℕ → Asked (Prog (R (Unit {0})))
open_release family device lan mask = and_then (open_port family device lan) (λ port. yes (erase (release port mask)))

unfoldable pub valid_release_call : Port → Release → Bool
valid_release_call port t = pick (valid_port port) (valid_release port t) false

unfoldable pub step_release : ReleaseCall → Answer → Asked (Prog (R (Unit {0})))
step_release (Some (port, hw, t)) a = admitting (valid_release_call port t) (access_release port hw t) a (yes (erase (rest_release port hw t a)))
step_release None a = no 11

unfoldable pub said_release : ReleaseTold → Asked (Prog (R (Unit {0})))
said_release (Ok (Ask x (Some (port, hw, t)))) = yes (ask x (λ a. erase (rest_release port hw t a)))
said_release (Ok (Ask x None)) = no 0
said_release (Ok (End o)) = yes (ret (reply o))
said_release (Err q) = no (refusal_number q)

unfoldable pub stands_release : ReleaseTold → Type 0
stands_release (Ok (Ask x (Some (port, hw, t)))) = (x ≡ access_release port hw t) × (valid_release_call port t ≡ true)
stands_release (Ok (Ask x None)) = ⊥
stands_release (Ok (End o)) = Unit {0}
stands_release (Err q) = Unit {0}

-- what a step told, u, follows what was told before it, t: as the step promises
unfoldable pub follows_release : ReleaseTold → Answer → ReleaseTold → Type 0
follows_release (Ok (Ask x s)) a u = Keeps (said_release u ≡ step_release s a) (stands_release u)
follows_release (Ok (End o)) a u = ⊥
follows_release (Err q) a u = ⊥
