-- How many attempts a call begins at most: a read as many as it is told, a write two.
use Prim.Native.Nat.{ℕ, ◌+◌, ◌≤◌, suc, zero}
use mathlib.Core.Path.{◌≡◌}
use mathlib.Core.Bool.{Bool, true, false}
use mathlib.Core.List.{List, [], ◌∷◌}
use native.Mathlib.Nat.{suc-add}
use native.Mathlib.Omega.{arith}
use Rattle.hardware.specs.declared.Answer.{Answer}
use Rattle.hardware.specs.declared.Port.{Port}
use Rattle.hardware.specs.Failures.{I2c}
use Rattle.hardware.specs.Prog.{Attempt, Acquires, Acquired, Released, Lapsed, Acknowledged, Prog, ret, ask, note, give, R, Ok, Err, or_err, ◌>>=◌, ◌>>?◌, pick}
use Rattle.hardware.specs.Runs.{transfers_in}
use Rattle.hostif.specs.Acquire.{hw_of, with_bits, acquired_all, acquire, give_bits, release}
use Rattle.bus.specs.declared.Taken.{Taken}
use Rattle.transfer.specs.Attempt.{attempt}
use Rattle.i2c.specs.declared.How.{How}
use Rattle.i2c.specs.declared.once.Request.{Request}
use Rattle.i2c.specs.declared.once.Request.TheVariants.{ReadByte, WriteByte, ReadCombined, WriteCombined}
use Rattle.i2c.specs.I2c.{mask, qsfp, device_of, is_write, value_of, gives_value, once, when_lock, read_judged, read_tries, write_tries, given_up, writes, retried, given_bus, on_grant, with_bus, handshaken, transferred}
use Rattle.i2c.specs.Retry.{wanted}
use Rattle.i2c.proofs.Masks.{mask_plain}
use Rattle.i2c.proofs.Noteless.{once_noteless}
use Rattle.i2c.proofs.Quiet.{granted_quiet, Quiet, quiet_noteless, quiet_pick, quiet_ret, quiet_try, delay_quiet, change_quiet, acquire_bits_quiet, release_bits_quiet}

-- on every way through the call at most n attempts begin
unfoldable pub AtMost : {A : Type 0} → ℕ → Prog A → Type 0
AtMost n (ret v) = Unit {0}
AtMost n (ask x f) = (a : Answer) → AtMost n (f a)
AtMost zero (note Attempt p) = ⊥
AtMost (suc n) (note Attempt p) = AtMost n p
AtMost n (note Acquires p) = AtMost n p
AtMost n (note Acquired p) = AtMost n p
AtMost n (note Released p) = AtMost n p
AtMost n (note Lapsed p) = AtMost n p
AtMost n (note (Acknowledged sample) p) = AtMost n p
AtMost n (give b p) = AtMost n p

pub most_more : {A : Type 0} (p : Prog A) (n m : ℕ) → AtMost n p → n ≤ m → AtMost m p
unfolding AtMost
most_more (ret v) n m e h = tt
most_more (ask x f) n m e h = λ a. most_more (f a) n m (e a) h
most_more (note Attempt p) zero m e h = absurd e
most_more (note Attempt p) (suc n) zero e h = absurd (omega arith)
most_more (note Attempt p) (suc n) (suc m) e h = most_more p n m e (omega arith)
most_more (note Acquires p) n m e h = most_more p n m e h
most_more (note Acquired p) n m e h = most_more p n m e h
most_more (note Released p) n m e h = most_more p n m e h
most_more (note Lapsed p) n m e h = most_more p n m e h
most_more (note (Acknowledged sample) p) n m e h = most_more p n m e h
most_more (give b p) n m e h = most_more p n m e h

pub most_bind : {A B : Type 0} (p : Prog A) (k : A → Prog B) (n m : ℕ) → AtMost n p → ((a : A) → AtMost m (k a)) → AtMost (n + m) (p >>= k)
unfolding AtMost ◌>>=◌
most_bind (ret a) k n m e d = most_more (k a) m (n + m) (d a) (omega arith)
most_bind (ask x f) k n m e d = λ a. most_bind (f a) k n m (e a) d
most_bind (note Attempt p) k zero m e d = absurd e
most_bind (note Attempt p) k (suc n) m e d = rw suc-add (most_bind p k n m e d)
most_bind (note Acquires p) k n m e d = most_bind p k n m e d
most_bind (note Acquired p) k n m e d = most_bind p k n m e d
most_bind (note Released p) k n m e d = most_bind p k n m e d
most_bind (note Lapsed p) k n m e d = most_bind p k n m e d
most_bind (note (Acknowledged sample) p) k n m e d = most_bind p k n m e d
most_bind (give b p) k n m e d = most_bind p k n m e d

-- the first begins none
most_then : {A B : Type 0} (p : Prog A) (k : A → Prog B) (n : ℕ) → AtMost 0 p → ((a : A) → AtMost n (k a)) → AtMost n (p >>= k)
most_then p k n e d = most_more (p >>= k) (0 + n) n (most_bind p k 0 n e d) (omega arith)

most_or : {A B : Type 0} (k : A → Prog (R B)) (r : R A) (n : ℕ) → ((a : A) → AtMost n (k a)) → AtMost n (or_err k r)
unfolding AtMost or_err
most_or k (Ok a) n d = d a
most_or k (Err e) n d = tt

most_try : {A B : Type 0} (p : Prog (R A)) (k : A → Prog (R B)) (n : ℕ) → AtMost 0 p → ((a : A) → AtMost n (k a)) → AtMost n (p >>? k)
most_try p k n e d = most_then p (or_err k) n e (λ r. most_or k r n d)

most_pick : {A : Type 0} (b : Bool) (p q : Prog A) (n : ℕ) → AtMost n p → AtMost n q → AtMost n (pick b p q)
unfolding pick
most_pick true p q n e d = e
most_pick false p q n e d = d

most_ret : {A : Type 0} (v : A) (n : ℕ) → AtMost n (ret v)
unfolding AtMost
most_ret v n = tt

most_quiet : {A : Type 0} (p : Prog A) → Quiet p → AtMost 0 p
unfolding AtMost Quiet
most_quiet (ret v) e = tt
most_quiet (ask x f) e = λ a. most_quiet (f a) (e a)
most_quiet (note Attempt p) e = absurd e
most_quiet (note Acquires p) e = absurd e
most_quiet (note Acquired p) e = absurd e
most_quiet (note Released p) e = absurd e
most_quiet (note Lapsed p) e = most_quiet p e
most_quiet (note (Acknowledged sample) p) e = most_quiet p e.1
most_quiet (give b p) e = most_quiet p e

pub most_counts : {A : Type 0} (n : ℕ) (p : Prog A) (l : List Answer) → AtMost n p → transfers_in p l ≤ n
unfolding AtMost transfers_in
most_counts n (ret v) l e = omega arith
most_counts n (ask x f) [] e = omega arith
most_counts n (ask x f) (a ∷ l) e = most_counts n (f a) l (e a)
most_counts zero (note Attempt p) l e = absurd e
most_counts (suc n) (note Attempt p) l e = omega (arith, most_counts n p l e)
most_counts n (note Acquires p) l e = most_counts n p l e
most_counts n (note Acquired p) l e = most_counts n p l e
most_counts n (note Released p) l e = most_counts n p l e
most_counts n (note Lapsed p) l e = most_counts n p l e
most_counts n (note (Acknowledged sample) p) l e = most_counts n p l e
most_counts n (give b p) l e = most_counts n p l e

once_most : (port : Port) (r : Request) (how : How) → AtMost 1 (once port r how)
unfolding once attempt AtMost
once_most port r how =
    most_quiet _ (quiet_noteless _ (once_noteless port r how))

all_most : AtMost 0 acquired_all
unfolding acquired_all AtMost
all_most = tt

acquire_most : (port : Port) → AtMost 0 (acquire port (mask port))
unfolding acquire pick AtMost
acquire_most port = rw (mask_plain port) (most_try _ _ 0 (most_quiet _ (acquire_bits_quiet port _)) (λ _. all_most))

give_quiet : (port : Port) (hw : ℕ) (t : R (Unit {0})) → Quiet (give_bits port hw t)
unfolding give_bits with_bits
give_quiet port hw t = quiet_try _ _ (quiet_pick _ _ _ (quiet_ret _) (release_bits_quiet port hw)) (λ _. quiet_ret _)

release_most : (port : Port) → AtMost 0 (release port (mask port))
unfolding release pick AtMost
release_most port = rw (mask_plain port) (most_quiet _ (give_quiet port (hw_of (mask port)) (Ok tt)))

when_most : (lock : Bool) (p : Prog (R (Unit {0}))) (k : Prog (R Taken)) (n : ℕ) → AtMost 0 p → AtMost n k → AtMost n (when_lock lock p k)
unfolding when_lock
when_most lock p k n e d = most_pick lock _ _ n (most_try p _ n e (λ _. d)) d

judged_most : (r : Request) (lock : Bool) (again : Unit {0} → Prog (R Taken)) (n : ℕ) → AtMost n (again tt) → (result : R Taken)
    → AtMost n (read_judged r lock again result)
unfolding read_judged
judged_most r lock again n e result =
    most_pick _ _ _ n (most_pick _ _ _ n (most_try _ _ n (most_quiet _ (delay_quiet _)) (λ _. e)) e) (most_ret _ n)

read_tries_most : (port : Port) (r : Request) (how : How) (n : ℕ) → AtMost n (read_tries port r how n)
unfolding read_tries
read_tries_most port r how zero = most_ret _ 0
read_tries_most port r how (suc n) =
    when_most how.lock _ _ (suc n) (acquire_most port)
    (most_more _ (1 + n) (suc n)
    (most_bind _ _ 1 n (once_most port r how)
    (λ result. when_most how.lock _ _ n (release_most port) (judged_most r how.lock _ n (read_tries_most port r how n) result)))
    (omega arith))

write_tries_most : (port : Port) (r : Request) (how : How) (n : ℕ) (result : R Taken) → AtMost n (write_tries port r how n result)
unfolding write_tries
write_tries_most port r how zero result = most_ret _ 0
write_tries_most port r how (suc n) before =
    most_more _ (1 + n) (suc n)
    (most_bind _ _ 1 n (once_most port r how) (λ result. most_pick _ _ _ n (write_tries_most port r how n result) (most_ret _ n)))
    (omega arith)

writes_most : (port : Port) (r : Request) (how : How) → AtMost 2 (writes port r how)
unfolding writes given_up
writes_most port r how =
    when_most how.lock _ _ 2 (acquire_most port)
    (most_bind _ _ 2 0 (write_tries_most port r how 2 _) (λ result. when_most how.lock _ _ 0 (release_most port) (most_ret _ 0)))

retried_most : (port : Port) (r : Request) (how : How) (n : ℕ) → AtMost (wanted r n) (retried port r how n)
unfolding retried wanted is_write pick
retried_most port (ReadByte d o) how n = read_tries_most port (ReadByte d o) how n
retried_most port (WriteByte d o v) how n = writes_most port (WriteByte d o v) how
retried_most port (ReadCombined d reg) how n = read_tries_most port (ReadCombined d reg) how n
retried_most port (WriteCombined d reg v) how n = writes_most port (WriteCombined d reg v) how

with_bus_most : (port : Port) (device : ℕ) (f : Prog (R Taken)) (n : ℕ) → AtMost n f → AtMost n (with_bus port device f)
unfolding with_bus on_grant given_bus
with_bus_most port device f n e =
    most_pick _ _ _ n
    (most_try _ _ n (most_quiet _ (change_quiet _))
    (λ _. most_try _ _ n (most_quiet _ (granted_quiet 200))
    (λ got. most_more _ (n + 0) n
    (most_bind _ _ n 0 (most_pick got f _ n e (most_ret _ n)) (λ result. most_try _ _ 0 (most_quiet _ (change_quiet _)) (λ _. most_ret _ 0)))
    (omega arith))))
    e

handshaken_most : (port : Port) (r : Request) (f : Prog (R Taken)) (n : ℕ) → AtMost n f → AtMost n (handshaken port r f)
unfolding handshaken
handshaken_most port (ReadByte d o) f n e = with_bus_most port d f n e
handshaken_most port (WriteByte d o v) f n e = with_bus_most port d f n e
handshaken_most port (ReadCombined d reg) f n e = e
handshaken_most port (WriteCombined d reg v) f n e = e

pub transferred_most : (port : Port) (r : Request) (how : How) (n : ℕ) → AtMost (wanted r n) (transferred port r how n)
unfolding transferred gives_value
transferred_most port r how n =
    most_more _ (wanted r n + 0) (wanted r n)
    (most_bind _ _ (wanted r n) 0 (handshaken_most port r _ (wanted r n) (retried_most port r how n)) (λ result. most_ret _ 0))
    (omega arith)

-- the attempts of a run, whatever the answers; with 0 attempts a read has none
pub transfer_count : (port : Port) (r : Request) (how : How) (n : ℕ) (l : List Answer) → transfers_in (transferred port r how n) l ≤ wanted r n
transfer_count port r how n l = most_counts (wanted r n) _ l (transferred_most port r how n)

-- with 0 attempts, and no handshake, `read_byte` has ended before its first access
pub none_allowed : (port : Port) (device offset : ℕ) (how : How) → qsfp port ≡ false
    → transferred port (ReadByte device offset) how 0 ≡ ret (Err (I2c device))
unfolding transferred handshaken with_bus retried is_write read_tries device_of gives_value value_of pick ◌>>=◌
none_allowed port device offset how h = rw (h)
