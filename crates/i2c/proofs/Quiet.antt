-- Calls that note nothing but lapses: those on single registers, and those on the semaphores below `acquire`.
use Prim.Native.Nat.{ℕ}
use mathlib.Core.Bool.{Bool}
use mathlib.Core.List.{List}
use Rattle.hardware.specs.declared.Access.{Access}
use Rattle.hardware.specs.declared.Answer.{Answer}
use Rattle.hardware.specs.declared.Family.{Family}
use Rattle.hardware.specs.declared.Port.{Port}
use Rattle.hardware.specs.declared.change.Change.{Change}
use Rattle.hardware.specs.Prog.{Attempt, Acquires, Acquired, Released, Lapsed, Acknowledged, Prog, ret, ask, note, give, R, ◌>>=◌, ◌>>?◌, pick}
use Rattle.hardware.specs.Runs.{Sample}
use Rattle.hardware.specs.Registers.{delay}
use Rattle.hardware.specs.Change.{change}
use Rattle.sync.specs.Resource.{acquire_bits, release_bits}
use Rattle.hardware.proofs.Spreads.{Spreads, Open, Passes, try_holds, pick_holds, one_holds, change_holds}
use Rattle.sync.proofs.Spreads.{Semaphores, acquire_bits_holds, release_bits_holds}
use Rattle.hostif.specs.Hostif.{request, respond}
use Rattle.hostif.proofs.Spreads.{Firmware, request_holds, respond_holds}
use Rattle.bus.proofs.Noteless.{Noteless}
use Rattle.i2c.specs.I2c.{granted}
use Rattle.i2c.proofs.Spreads.{granted_holds}

unfoldable pub Quiet : {A : Type 0} → Prog A → Type 0
Quiet (ret v) = Unit {0}
Quiet (ask x f) = (a : Answer) → Quiet (f a)
Quiet (note Attempt p) = ⊥
Quiet (note Acquires p) = ⊥
Quiet (note Acquired p) = ⊥
Quiet (note Released p) = ⊥
Quiet (note Lapsed p) = Quiet p
Quiet (note (Acknowledged sample) p) = Sample sample × Quiet p
Quiet (give b p) = Quiet p

pub quiet_bind : {A B : Type 0} (p : Prog A) (k : A → Prog B) → Quiet p → ((a : A) → Quiet (k a)) → Quiet (p >>= k)
unfolding Quiet ◌>>=◌
quiet_bind (ret a) k e d = d a
quiet_bind (ask x f) k e d = λ a. quiet_bind (f a) k (e a) d
quiet_bind (note Attempt p) k e d = absurd e
quiet_bind (note Acquires p) k e d = absurd e
quiet_bind (note Acquired p) k e d = absurd e
quiet_bind (note Released p) k e d = absurd e
quiet_bind (note Lapsed p) k e d = quiet_bind p k e d
quiet_bind (note (Acknowledged sample) p) k e d = (e.0, quiet_bind p k e.1 d)
quiet_bind (give b p) k e d = quiet_bind p k e d

-- what notes nothing is quiet
pub quiet_noteless : {A : Type 0} (p : Prog A) → Noteless p → Quiet p
unfolding Quiet Noteless
quiet_noteless (ret v) e = tt
quiet_noteless (ask x f) e = λ a. quiet_noteless (f a) (e a)
quiet_noteless (note Attempt p) e = absurd e.0
quiet_noteless (note Acquires p) e = absurd e.0
quiet_noteless (note Acquired p) e = absurd e.0
quiet_noteless (note Released p) e = absurd e.0
quiet_noteless (note Lapsed p) e = absurd e.0
quiet_noteless (note (Acknowledged sample) p) e = (e.0, quiet_noteless p e.1)
quiet_noteless (give b p) e = quiet_noteless p e

-- whatever access is made
abbrev Any : Access → Type 0
Any x = Unit {0}

quiet_spreads : Spreads (λ A p. Quiet p) Any
unfolding Quiet
quiet_spreads = record { ends = λ A v. tt; asks = λ A x f m d. d; binds = λ A B p k e d. quiet_bind p k e d; lapses = λ A p e. e }

any_register : (register : ℕ) → Open Any register
any_register register = record { reads = tt; writes = λ v. tt }

any_passes : Passes Any
any_passes = record { flushes = tt; waits = λ us. tt }

any_semaphores : (family : Family) → Semaphores Any family
any_semaphores family = record { passes = any_passes; first = any_register _; swsm = any_register _; sync = any_register _ }

pub quiet_try : {A B : Type 0} (p : Prog (R A)) (k : A → Prog (R B)) → Quiet p → ((a : A) → Quiet (k a)) → Quiet (p >>? k)
quiet_try p k e d = try_holds _ Any quiet_spreads p k e d

pub quiet_pick : {A : Type 0} (b : Bool) (p q : Prog A) → Quiet p → Quiet q → Quiet (pick b p q)
quiet_pick b p q e d = pick_holds _ Any quiet_spreads b p q e d

pub quiet_ret : {A : Type 0} (v : A) → Quiet (ret v)
quiet_ret v = quiet_spreads.ends _ v

pub delay_quiet : (us : ℕ) → Quiet (delay us)
delay_quiet us = one_holds _ Any quiet_spreads _ _ tt

pub change_quiet : (c : Change) → Quiet (change c)
change_quiet c = change_holds _ Any quiet_spreads any_passes c (any_register _)

-- `sync`

pub acquire_bits_quiet : (port : Port) (mask : ℕ) → Quiet (acquire_bits port mask)
acquire_bits_quiet port mask = acquire_bits_holds _ Any quiet_spreads port mask (any_semaphores _) (λ e. any_register _)

pub release_bits_quiet : (port : Port) (mask : ℕ) → Quiet (release_bits port mask)
release_bits_quiet port mask = release_bits_holds _ Any quiet_spreads port mask (any_semaphores _) (λ e. any_register _)

-- the handshake

pub granted_quiet : (n : ℕ) → Quiet (granted n)
granted_quiet n = granted_holds _ Any quiet_spreads any_passes tt n

-- `hostif`

any_firmware : Firmware Any
any_firmware = record { passes = any_passes; fwsts = any_register _; hicr = any_register _; words = λ at. any_register _ }

pub request_quiet : (block : List ℕ) → Quiet (request block)
request_quiet block = request_holds _ Any quiet_spreads any_firmware block

pub respond_quiet : (last : ℕ) (block : List ℕ) → Quiet (respond last block)
respond_quiet last block = respond_holds _ Any quiet_spreads any_firmware last block
