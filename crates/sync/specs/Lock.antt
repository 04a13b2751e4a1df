-- The register semaphore: `smbi`, `lock` and `unlock` of `sync.rs`, and what is left of each at every state.
use Rattle.std.specs.Prelude.{ℕ, suc, zero, Bool, true, false, ltb}
use Rattle.hardware.specs.declared.Family.{Family}
use Rattle.hardware.specs.declared.Family.TheVariants.{F82599}
use Rattle.hardware.specs.declared.Access.{Access}
use Rattle.hardware.specs.declared.Access.TheVariants.{Read, Wait}
use Rattle.hardware.specs.declared.Answer.{Answer}
use Rattle.hardware.specs.Asked.{is}
use Rattle.hardware.specs.Failures.{Semaphore}
use Rattle.hardware.specs.Prog.{Prog, ret, ask, note, Lapsed, erase, R, Ok, Err, or_err, ◌>>?◌, pick}
use Rattle.hardware.specs.Registers.{none_of, read, checked, micros, reply}
use Rattle.hardware.specs.Poll.{poll, access_poll, rest_poll, valid_poll}
use Rattle.hardware.specs.Change.{change, access_update, rest_update}
use Rattle.sync.specs.declared.swesmbi.Swesmbi.{Swesmbi}
use Rattle.sync.specs.declared.swesmbi.Swesmbi.TheVariants.{Setting, Checking, Waiting}
use Rattle.sync.specs.declared.lock.Lock.{Lock}
use Rattle.sync.specs.declared.lock.Lock.TheVariants.{Smbi, Second, Regsmp, Back}
use Rattle.sync.specs.declared.unlock.Unlock.{Unlock}
use Rattle.sync.specs.declared.unlock.Unlock.TheVariants.{Sync, Swsm}
use Rattle.sync.specs.Regs.{TRIES, SMBI, SWESMBI, REGSMP, smbi_watch, regsmp_watch, set_swesmbi, back_swsm, clear_sync}
use Rattle.sync.specs.Aliases.{UnlockNext, LockNext, SwesmbiNext}
use Rattle.hardware.specs.declared.Next.TheVariants.{Going, End}

-- 82599: SWESMBI is ours if it reads back as set; again: what follows the wait
unfoldable pub swesmbi_seen : (Answer → Prog (R Bool)) → ℕ → Prog (R Bool)
swesmbi_seen again v = pick (none_of v SWESMBI) (ask (Wait (micros 50)) again) (ret (Ok true))

-- whether SWESMBI came within the tries. The rest of a loop stands under a λ, or its count would be unrolled
unfoldable pub swesmbi : ℕ → Prog (R Bool)
swesmbi zero = ret (Ok false)
swesmbi (suc left) = change set_swesmbi >>? λ _. read 0x10140 >>? swesmbi_seen (λ _. swesmbi left)

-- a try once the bit is written
unfoldable pub swesmbi_check : ℕ → Prog (R Bool)
swesmbi_check left = read 0x10140 >>? swesmbi_seen (λ _. swesmbi left)

-- a lock that did not come: what is ours of SWSM goes back
unfoldable pub lapsed : Family → ℕ → Prog (R (Unit {0}))
lapsed family held = note Lapsed (change (back_swsm family) >>? λ _. ret (Err (Semaphore held)))

unfoldable pub swesmbi_done : Family → Bool → Prog (R (Unit {0}))
swesmbi_done family got = pick got (ret (Ok tt)) (lapsed family SWESMBI)

unfoldable pub regsmp_done : Family → ℕ → Prog (R (Unit {0}))
regsmp_done family v = pick (none_of v REGSMP) (ret (Ok tt)) (lapsed family REGSMP)

-- the second half of `lock`: SWESMBI on the 82599, REGSMP on the others
unfoldable pub second : Family → Prog (R (Unit {0}))
second family = pick (is family F82599) (swesmbi TRIES >>? swesmbi_done family) (poll (regsmp_watch family) TRIES 0 >>? regsmp_done family)

-- `smbi`'s end
unfoldable pub smbi_done : Family → ℕ → Prog (R (Unit {0}))
smbi_done family v = pick (none_of v SMBI) (second family) (note Lapsed (ret (Err (Semaphore SMBI))))

unfoldable pub lock : Family → Prog (R (Unit {0}))
lock family = poll (smbi_watch family) TRIES 0 >>? smbi_done family

unfoldable pub unlock : Family → Prog (R (Unit {0}))
unlock family = pick (is family F82599) (change (back_swsm family)) (change (clear_sync family REGSMP) >>? λ _. change (back_swsm family))

-- the machines: the access that is awaited, what follows its answer, and the limits of the counters

unfoldable pub access_swesmbi : Swesmbi → Access
access_swesmbi (Setting left t) = access_update set_swesmbi t
access_swesmbi (Checking left) = Read 0x10140
access_swesmbi (Waiting left) = Wait (micros 50)

unfoldable pub rest_swesmbi : Swesmbi → Answer → Prog (R Bool)
rest_swesmbi (Setting left t) a = rest_update set_swesmbi t a >>? λ _. swesmbi_check left
rest_swesmbi (Checking left) a = or_err (swesmbi_seen (λ _. swesmbi left)) (checked a)
rest_swesmbi (Waiting left) a = swesmbi left

unfoldable pub swesmbi_next : SwesmbiNext → Prog (R Bool)
swesmbi_next (Going s) = ask (access_swesmbi s) (λ a. erase (rest_swesmbi s a))
swesmbi_next (End v) = ret (reply v)

unfoldable pub valid_swesmbi : Swesmbi → Bool
valid_swesmbi (Setting left t) = ltb left TRIES
valid_swesmbi (Checking left) = ltb left TRIES
valid_swesmbi (Waiting left) = ltb left TRIES

-- what is left keeps within the limits
unfoldable pub valid_swesmbi_next : SwesmbiNext → Bool
valid_swesmbi_next (Going s) = valid_swesmbi s
valid_swesmbi_next (End v) = true

unfoldable pub access_lock : Family → Lock → Access
access_lock family (Smbi t) = access_poll (smbi_watch family) t
access_lock family (Second t) = access_swesmbi t
access_lock family (Regsmp t) = access_poll (regsmp_watch family) t
access_lock family (Back held t) = access_update (back_swsm family) t

unfoldable pub rest_lock : Family → Lock → Answer → Prog (R (Unit {0}))
rest_lock family (Smbi t) a = rest_poll (smbi_watch family) t a >>? smbi_done family
rest_lock family (Second t) a = rest_swesmbi t a >>? swesmbi_done family
rest_lock family (Regsmp t) a = rest_poll (regsmp_watch family) t a >>? regsmp_done family
rest_lock family (Back held t) a = rest_update (back_swsm family) t a >>? λ _. ret (Err (Semaphore held))

unfoldable pub lock_next : Family → LockNext → Prog (R (Unit {0}))
lock_next family (Going s) = ask (access_lock family s) (λ a. erase (rest_lock family s a))
lock_next family (End o) = ret (reply o)

unfoldable pub valid_lock : Lock → Bool
valid_lock (Smbi t) = valid_poll TRIES t
valid_lock (Second t) = valid_swesmbi t
valid_lock (Regsmp t) = valid_poll TRIES t
valid_lock (Back held t) = true

unfoldable pub valid_lock_next : LockNext → Bool
valid_lock_next (Going s) = valid_lock s
valid_lock_next (End o) = true

unfoldable pub access_unlock : Family → Unlock → Access
access_unlock family (Sync t) = access_update (clear_sync family REGSMP) t
access_unlock family (Swsm t) = access_update (back_swsm family) t

unfoldable pub rest_unlock : Family → Unlock → Answer → Prog (R (Unit {0}))
rest_unlock family (Sync t) a = rest_update (clear_sync family REGSMP) t a >>? λ _. change (back_swsm family)
rest_unlock family (Swsm t) a = rest_update (back_swsm family) t a

unfoldable pub unlock_next : Family → UnlockNext → Prog (R (Unit {0}))
unlock_next family (Going s) = ask (access_unlock family s) (λ a. erase (rest_unlock family s a))
unlock_next family (End o) = ret (reply o)
