-- The attempts of a call under its lock, one access at a time. No mask of a transfer has TOKEN: what is left of `acquire`
-- and `release` is what is left of their bits of SW_FW_SYNC.
use Rattle.std.specs.Prelude.{ℕ, suc, zero, Bool, true, false, ltb}
use Rattle.hardware.specs.declared.Access.{Access}
use Rattle.hardware.specs.declared.Access.TheVariants.{Wait}
use Rattle.hardware.specs.declared.Answer.{Answer}
use Rattle.hardware.specs.declared.Port.{Port}
use Rattle.hardware.specs.Failures.{I2c}
use Rattle.hardware.specs.Prog.{Prog, ret, ask, R, Err, erase, ◌>>=◌, ◌>>?◌, pick}
use Rattle.hardware.specs.Marks.{marked, more}
use Rattle.hardware.specs.Registers.{micros, reply}
use Rattle.sync.specs.Resource.{access_acquire_bits, rest_acquire_bits, valid_acquire_bits, access_release_bits, rest_release_bits, valid_release_bits}
use Rattle.hostif.specs.Acquire.{acquire, release}
use Rattle.bus.specs.declared.Taken.{Taken}
use Rattle.bus.specs.Layout.{layout_of}
use Rattle.transfer.specs.Transfer.{keeping}
use Rattle.transfer.specs.Attempt.{access_attempt, rest_attempt, valid_attempt}
use Rattle.i2c.specs.declared.How.{How}
use Rattle.i2c.specs.declared.once.Request.{Request}
use Rattle.i2c.specs.declared.retry.Stage.{Stage}
use Rattle.i2c.specs.declared.retry.Stage.TheVariants.{Acquiring, Trying, Releasing, Pausing}
use Rattle.i2c.specs.declared.retry.Retry.{Retry}
use Rattle.i2c.specs.I2c.{mask, device_of, script_of, is_write, failed_i2c, once, when_lock, read_judged, read_tries, write_tries, given_up}
use Rattle.i2c.specs.Aliases.{RetryNext}
use Rattle.hardware.specs.declared.Next.TheVariants.{Going, End}

-- the attempts that a call may make
unfoldable pub wanted : Request → ℕ → ℕ
wanted r tries = pick (is_write r) 2 tries

-- the lock is given back where it was taken
unfoldable pub back_then : Port → Bool → Prog (R Taken) → Prog (R Taken)
back_then port lock k = when_lock lock (release port (mask port)) k

-- what follows the release
unfoldable pub after_release : Port → Request → How → ℕ → R Taken → Prog (R Taken)
after_release port r how left result = pick (is_write r) (ret result) (read_judged r how.lock (λ _. read_tries port r how left) result)

unfoldable pub after_read : Port → Request → How → ℕ → R Taken → Prog (R Taken)
after_read port r how left result = back_then port how.lock (read_judged r how.lock (λ _. read_tries port r how left) result)

unfoldable pub after_write : Port → Request → How → ℕ → R Taken → Prog (R Taken)
after_write port r how left result = pick (failed_i2c result) (write_tries port r how left result) (ret result) >>= given_up port how.lock

-- what follows an attempt, with so many left
unfoldable pub after_try : Port → Request → How → ℕ → R Taken → Prog (R Taken)
after_try port r how left result = pick (is_write r) (after_write port r how left result) (after_read port r how left result)

unfoldable pub try_now : Port → Request → How → ℕ → Prog (R Taken)
try_now port r how left = once port r how >>= after_try port r how left

-- under the lock where it is wanted
unfoldable pub locked_try : Port → Request → How → ℕ → Prog (R Taken)
locked_try port r how left = when_lock how.lock (acquire port (mask port)) (try_now port r how left)

-- the attempts that are left, each under its lock
unfoldable pub tries_left : Port → Request → How → ℕ → Prog (R Taken)
tries_left port r how zero = ret (Err (I2c (device_of r)))
tries_left port r how (suc left) = locked_try port r how left

unfoldable pub access_stage : Port → Stage → Access
access_stage port (Acquiring s) = access_acquire_bits port (mask port) s
access_stage port (Trying s) = access_attempt (layout_of port.family) s
access_stage port (Releasing g s) = access_release_bits port (mask port) s
access_stage port Pausing = Wait (micros 100000)

unfoldable pub access_retry : Port → Retry → Access
access_retry port t = access_stage port t.stage

unfoldable pub rest_stage : Port → Request → How → ℕ → Stage → Answer → Prog (R Taken)
rest_stage port r how left (Acquiring s) a = rest_acquire_bits port (mask port) s a >>? λ _. try_now port r how left
rest_stage port r how left (Trying s) a =
    rest_attempt keeping how.sequence (layout_of port.family) (device_of r) (script_of r) s a >>= after_try port r how left
rest_stage port r how left (Releasing g s) a =
    rest_release_bits port (mask port) s a >>? λ _. after_release port r how left (reply g)
rest_stage port r how left Pausing a = tries_left port r how left

unfoldable pub rest_retry : Port → Request → How → Retry → Answer → Prog (R Taken)
rest_retry port r how t a = rest_stage port r how t.left t.stage a

unfoldable pub retry_next : Port → Request → How → RetryNext → Prog (R Taken)
retry_next port r how (Going (k, t)) = marked k (ask (access_retry port t) (λ a. erase (rest_retry port r how t a)))
retry_next port r how (End g) = ret (reply g)

-- the most attempts that are to come
unfoldable pub due_stage : ℕ → Stage → ℕ
due_stage left (Acquiring s) = suc left
due_stage left (Trying s) = left
due_stage left (Releasing g s) = left
due_stage left Pausing = left

unfoldable pub due_retry : Retry → ℕ
due_retry t = due_stage t.left t.stage

-- with the one that begins
unfoldable pub due_retry_next : RetryNext → ℕ
due_retry_next (Going (k, t)) = more k.attempt (due_retry t)
due_retry_next (End g) = 0

unfoldable pub valid_stage : Port → Request → Stage → Bool
valid_stage port r (Acquiring s) = valid_acquire_bits port.family s
valid_stage port r (Trying s) = valid_attempt (layout_of port.family) (script_of r) s
valid_stage port r (Releasing g s) = valid_release_bits s
valid_stage port r Pausing = true

-- fewer attempts are left than the request has
unfoldable pub valid_retry : ℕ → Port → Request → Retry → Bool
valid_retry tries port r t = pick (ltb t.left tries) (valid_stage port r t.stage) false

unfoldable pub valid_retry_next : ℕ → Port → Request → RetryNext → Bool
valid_retry_next tries port r (Going (k, t)) = valid_retry tries port r t
valid_retry_next tries port r (End g) = true
