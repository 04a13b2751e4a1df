-- What is left of `acquire` and `release` at every state of their machines.
use Rattle.std.specs.Prelude.{ℕ, Bool, true, false, ltb}
use Rattle.hardware.specs.declared.Port.{Port}
use Rattle.hardware.specs.declared.Access.{Access}
use Rattle.hardware.specs.declared.Access.TheVariants.{Wait}
use Rattle.hardware.specs.declared.Answer.{Answer}
use Rattle.hardware.specs.Prog.{Prog, ret, ask, erase, R, ◌>>=◌, ◌>>?◌, pick}
use Rattle.hardware.specs.Registers.{micros, reply}
use Rattle.acquire.specs.declared.acquire.Acquire.{Acquire}
use Rattle.acquire.specs.declared.acquire.Stage.{Stage}
use Rattle.acquire.specs.declared.acquire.Stage.TheVariants.{Bits, Token, Releasing, Waiting}
use Rattle.acquire.specs.declared.release.Release.{Release}
use Rattle.acquire.specs.declared.release.Release.TheVariants.{Token as GivingToken, Bits as GivingBits}
use Rattle.sync.specs.Resource.{access_acquire_bits, rest_acquire_bits, valid_acquire_bits, access_release_bits, rest_release_bits, valid_release_bits}
use Rattle.hostif.specs.Hostif.{access_token, rest_token, valid_token}
use Rattle.hostif.specs.Acquire.{TOKEN_TRIES, not_granted, token_seen, acquire_token, after_bits, token_given}
use Rattle.acquire.specs.Aliases.{AcquireNext, ReleaseNext}
use Rattle.hardware.specs.declared.Next.TheVariants.{Going, End}

unfoldable pub access_acquire_at : Port → ℕ → Stage → Access
access_acquire_at port hw (Bits t token) = access_acquire_bits port hw t
access_acquire_at port hw (Token t) = access_token port t
access_acquire_at port hw (Releasing t g) = access_release_bits port hw t
access_acquire_at port hw Waiting = Wait (micros 5000)

unfoldable pub access_acquire : Port → ℕ → Acquire → Access
access_acquire port hw s = access_acquire_at port hw s.stage

unfoldable pub rest_acquire_at : Port → ℕ → ℕ → Stage → Answer → Prog (R (Unit {0}))
rest_acquire_at port hw left (Bits t token) a = rest_acquire_bits port hw t a >>? λ _. after_bits port hw left token
rest_acquire_at port hw left (Token t) a = rest_token port true t a >>= token_seen port hw (λ _. acquire_token port hw left)
rest_acquire_at port hw left (Releasing t g) a = rest_release_bits port hw t a >>? λ _. not_granted (λ _. acquire_token port hw left) (reply g)
rest_acquire_at port hw left Waiting a = acquire_token port hw left

unfoldable pub rest_acquire : Port → ℕ → Acquire → Answer → Prog (R (Unit {0}))
rest_acquire port hw s = rest_acquire_at port hw s.left s.stage

unfoldable pub acquire_next : Port → ℕ → AcquireNext → Prog (R (Unit {0}))
acquire_next port hw (Going s) = ask (access_acquire port hw s) (λ a. erase (rest_acquire port hw s a))
acquire_next port hw (End o) = ret (reply o)

unfoldable pub valid_acquire_at : Port → Stage → Bool
valid_acquire_at port (Bits t token) = valid_acquire_bits port.family t
valid_acquire_at port (Token t) = valid_token port t
valid_acquire_at port (Releasing t g) = valid_release_bits t
valid_acquire_at port Waiting = true

-- the tries left are fewer than the token's
unfoldable pub valid_acquire : Port → Acquire → Bool
valid_acquire port s = pick (ltb s.left TOKEN_TRIES) (valid_acquire_at port s.stage) false

-- what is left keeps within the limits
unfoldable pub valid_acquire_next : Port → AcquireNext → Bool
valid_acquire_next port (Going s) = valid_acquire port s
valid_acquire_next port (End o) = true

unfoldable pub access_release : Port → ℕ → Release → Access
access_release port hw (GivingToken t) = access_token port t
access_release port hw (GivingBits t w) = access_release_bits port hw t

unfoldable pub rest_release : Port → ℕ → Release → Answer → Prog (R (Unit {0}))
rest_release port hw (GivingToken t) a = rest_token port false t a >>= token_given port hw
rest_release port hw (GivingBits t w) a = rest_release_bits port hw t a >>? λ _. ret (reply w)

unfoldable pub release_next : Port → ℕ → ReleaseNext → Prog (R (Unit {0}))
release_next port hw (Going s) = ask (access_release port hw s) (λ a. erase (rest_release port hw s a))
release_next port hw (End o) = ret (reply o)

unfoldable pub valid_release : Port → Release → Bool
valid_release port (GivingToken t) = valid_token port t
valid_release port (GivingBits t w) = valid_release_bits t

unfoldable pub valid_release_next : Port → ReleaseNext → Bool
valid_release_next port (Going s) = valid_release port s
valid_release_next port (End o) = true
