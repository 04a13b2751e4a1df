-- How many answers of the awaited kinds bring the four transfers and `qsfp_setup` to their end, for every port and
-- request. The numbers are accesses.
use Prim.Native.Nat.{ℕ, ◌+◌, ◌*◌, ◌≤◌, suc, zero}
use mathlib.Core.Path.{◌≡◌, refl}
use mathlib.Core.Bool.{Bool, true, false}
use native.Mathlib.Nat.{suc-mul, mul-le-mul_right}
use native.Mathlib.Omega.{arith}
use Rattle.hardware.specs.declared.Family.{Family}
use Rattle.hardware.specs.declared.Family.TheVariants.{F82599, X540, X550, X552, X553}
use Rattle.hardware.specs.declared.Port.{Port}
use Rattle.hardware.specs.Prog.{Prog, R, Ok, pick}
use Rattle.hardware.specs.Change.{change}
use Rattle.hardware.specs.Runs.{Ends}
use Rattle.hardware.proofs.Ends.{ends_more, ends_bind, ends_try, ends_pick, ret_ends, note_ends, read_ends, delay_ends, change_ends, ends_or, update_after, update_rest_ends}
use Rattle.sync.specs.Regs.{tries}
use Rattle.sync.proofs.Ends.{ACQUIRE_BITS_STEPS, RELEASE_BITS_STEPS, acquire_bits_ends, release_bits_ends, acquire_bits_after, release_bits_after, acquire_bits_rest_ends, release_bits_rest_ends}
use Rattle.hostif.specs.Acquire.{hw_of, with_bits, acquired_all, acquire, give_bits, release}
use Rattle.bus.specs.declared.Layout.{Layout}
use Rattle.bus.specs.declared.Taken.{Taken}
use Rattle.bus.specs.Layout.{layout_of}
use Rattle.bus.specs.Steps.{START_STEPS, SEND_STEPS, IN_BYTE_STEPS, OUT_BIT_STEPS, STOP_STEPS}
use Rattle.bus.proofs.Ends.{EndsBus, bus_more, done_ends, start_ends, send_ends, in_byte_ends, out_bit_ends, stop_ends}
use Rattle.transfer.proofs.Ends.{ATTEMPT_STEPS, attempt_ends, attempt_after, attempt_rest_ends}
use Rattle.i2c.specs.declared.How.{How}
use Rattle.i2c.specs.declared.once.Request.{Request}
use Rattle.i2c.specs.declared.once.Request.TheVariants.{ReadByte, WriteByte, ReadCombined, WriteCombined}
use Rattle.i2c.specs.I2c.{mask, is_write, device_of, body, gives_value, once, when_lock, read_judged, read_tries, write_tries, given_up, writes, retried, granting, granted, given_bus, on_grant, with_bus, handshaken, transferred, setup_bus, script_of}
use Rattle.i2c.specs.Calls.{tries_of}
use Rattle.i2c.proofs.Masks.{mask_plain}
use lib.ListN.{length}
use Rattle.hardware.specs.declared.Answer.{Answer}
use Rattle.transfer.specs.Transfer.{keeping}
use Rattle.script.specs.Scripts.{read_byte_script, write_byte_script, read_combined_script, write_combined_script}
use Rattle.i2c.specs.declared.retry.Stage.{Stage}
use Rattle.i2c.specs.declared.retry.Stage.TheVariants.{Acquiring, Trying, Releasing, Pausing}
use Rattle.i2c.specs.declared.retry.Retry.{Retry}
use Rattle.i2c.specs.declared.handshake.Handshake.{Handshake}
use Rattle.i2c.specs.declared.handshake.Handshake.TheVariants.{Asking, Granting, Waiting, Inside, Giving}
use Rattle.i2c.specs.Retry.{back_then, after_release, after_read, after_write, after_try, try_now, locked_try, tries_left, rest_stage, rest_retry}
use Rattle.i2c.specs.Handshake.{closing, on_granted, awaiting_grant, looked_at, rest_handshake, valued, rest_request}

-- a byte read, and the acknowledgement or none behind it
abbrev pub TAKE_STEPS : ℕ
TAKE_STEPS = IN_BYTE_STEPS + OUT_BIT_STEPS

-- the starts, the bytes sent, the bytes read and the stop of a request's script
abbrev pub BODY_STEPS : Request → ℕ
BODY_STEPS (ReadByte device offset) = 2 * START_STEPS + 3 * SEND_STEPS + TAKE_STEPS + STOP_STEPS
BODY_STEPS (WriteByte device offset value) = START_STEPS + 3 * SEND_STEPS + STOP_STEPS
BODY_STEPS (ReadCombined device reg) = 2 * START_STEPS + 5 * SEND_STEPS + 3 * TAKE_STEPS + STOP_STEPS
BODY_STEPS (WriteCombined device reg value) = START_STEPS + 6 * SEND_STEPS + STOP_STEPS

-- one attempt, its clearing included
abbrev pub ONCE_STEPS : Request → ℕ
ONCE_STEPS r = ATTEMPT_STEPS (BODY_STEPS r)

pub read_byte_steps : (device offset : ℕ) → ONCE_STEPS (ReadByte device offset) ≡ 102570
read_byte_steps device offset = refl

pub write_byte_steps : (device offset value : ℕ) → ONCE_STEPS (WriteByte device offset value) ≡ 82471
write_byte_steps device offset value = refl

pub read_combined_steps : (device reg : ℕ) → ONCE_STEPS (ReadCombined device reg) ≡ 174968
read_combined_steps device reg = refl

pub write_combined_steps : (device reg value : ℕ) → ONCE_STEPS (WriteCombined device reg value) ≡ 136819
write_combined_steps device reg value = refl

-- the lock, where it is taken: no mask of a transfer has the token
abbrev pub TAKING_STEPS : Family → Bool → ℕ
TAKING_STEPS family true = ACQUIRE_BITS_STEPS (tries family)
TAKING_STEPS family false = 0

abbrev pub GIVING_STEPS : Bool → ℕ
GIVING_STEPS true = RELEASE_BITS_STEPS
GIVING_STEPS false = 0

-- a read's attempt under its lock, and the wait after it
abbrev pub READ_STEPS : Family → Request → Bool → ℕ
READ_STEPS family r lock = TAKING_STEPS family lock + (ONCE_STEPS r + (GIVING_STEPS lock + 1))

-- a write's two attempts under one lock
abbrev pub WRITE_STEPS : Family → Request → Bool → ℕ
WRITE_STEPS family r lock = TAKING_STEPS family lock + (2 * ONCE_STEPS r + GIVING_STEPS lock)

abbrev pub RETRIED_STEPS : Family → Request → Bool → ℕ → ℕ
RETRIED_STEPS family (ReadByte device offset) lock tries = tries * READ_STEPS family (ReadByte device offset) lock
RETRIED_STEPS family (WriteByte device offset value) lock tries = WRITE_STEPS family (WriteByte device offset value) lock
RETRIED_STEPS family (ReadCombined device reg) lock tries = tries * READ_STEPS family (ReadCombined device reg) lock
RETRIED_STEPS family (WriteCombined device reg value) lock tries = WRITE_STEPS family (WriteCombined device reg value) lock

-- the bus asked for, a read and a wait for each look, and the request taken back
abbrev pub HANDSHAKE_STEPS : ℕ
HANDSHAKE_STEPS = 3 + (2 * 200 + 3)

-- the handshake, where there is one, and the attempts
abbrev pub TRANSFER_STEPS : Family → Request → Bool → ℕ → ℕ
TRANSFER_STEPS family r lock tries = HANDSHAKE_STEPS + RETRIED_STEPS family r lock tries

-- in decimals; X550, X552 and X553 have the same numbers, and so have 82599 and X540

pub taking_steps : (TAKING_STEPS F82599 true ≡ 2402003) × (TAKING_STEPS X550 true ≡ 12010003)
taking_steps = (refl, refl)

pub giving_steps : GIVING_STEPS true ≡ 12014
giving_steps = refl

pub handshake_steps : HANDSHAKE_STEPS ≡ 406
handshake_steps = refl

pub read_byte_total : (device offset : ℕ)
    → (TRANSFER_STEPS F82599 (ReadByte device offset) true 255 ≡ 641730346) × (TRANSFER_STEPS X550 (ReadByte device offset) true 255 ≡ 3091770346)
read_byte_total device offset = (refl, refl)

pub write_byte_total : (device offset value n : ℕ)
    → (TRANSFER_STEPS F82599 (WriteByte device offset value) true n ≡ 2579365) × (TRANSFER_STEPS X550 (WriteByte device offset value) true n ≡ 12187365)
write_byte_total device offset value n = (refl, refl)

pub read_combined_total : (device reg : ℕ)
    → (TRANSFER_STEPS F82599 (ReadCombined device reg) true 4 ≡ 10356350) × (TRANSFER_STEPS X550 (ReadCombined device reg) true 4 ≡ 48788350)
read_combined_total device reg = (refl, refl)

pub write_combined_total : (device reg value n : ℕ)
    → (TRANSFER_STEPS F82599 (WriteCombined device reg value) true n ≡ 2688061) × (TRANSFER_STEPS X550 (WriteCombined device reg value) true n ≡ 12296061)
write_combined_total device reg value n = (refl, refl)

-- no accepted call takes more than `read_byte` with 255 attempts under the lock
abbrev pub MOST_STEPS : ℕ
MOST_STEPS = 3091770346

taking_most : (family : Family) (lock : Bool) → TAKING_STEPS family lock ≤ 12010003
taking_most family false = omega arith
taking_most F82599 true = omega arith
taking_most X540 true = omega arith
taking_most X550 true = omega arith
taking_most X552 true = omega arith
taking_most X553 true = omega arith

giving_most : (lock : Bool) → GIVING_STEPS lock ≤ 12014
giving_most true = omega arith
giving_most false = omega arith

many : (n s : ℕ) → n ≤ 255 → s ≤ 12124588 → HANDSHAKE_STEPS + n * s ≤ MOST_STEPS
many n s h g = omega (arith, mul-le-mul_right s h)

pub transfer_most : (family : Family) (r : Request) (lock : Bool) (attempts : ℕ) → attempts ≤ 255
    → TRANSFER_STEPS family r lock (tries_of r attempts) ≤ MOST_STEPS
unfolding tries_of
transfer_most family (ReadByte d o) lock attempts h =
    many attempts (READ_STEPS family (ReadByte d o) lock) h (omega (arith, taking_most family lock, giving_most lock))
transfer_most family (WriteByte d o v) lock attempts h = omega (arith, taking_most family lock, giving_most lock)
transfer_most family (ReadCombined d reg) lock attempts h = omega (arith, taking_most family lock, giving_most lock)
transfer_most family (WriteCombined d reg v) lock attempts h = omega (arith, taking_most family lock, giving_most lock)

body_ends : (l : Layout) (r : Request) → EndsBus (body l r) (BODY_STEPS r)
unfolding body
body_ends l (ReadByte d o) =
    bus_more _ _ (BODY_STEPS (ReadByte d o))
    (start_ends l _ _ (send_ends l d d _ _ (send_ends l d o _ _
    (start_ends l _ _ (send_ends l d _ _ _
    (in_byte_ends l _ (OUT_BIT_STEPS + (STOP_STEPS + 0)) (λ v. out_bit_ends l true _ _ (stop_ends l _ 0 (done_ends _ 0)))))))))
    (omega arith)
body_ends l (WriteByte d o v) =
    bus_more _ _ (BODY_STEPS (WriteByte d o v))
    (start_ends l _ _ (send_ends l d d _ _ (send_ends l d o _ _ (send_ends l d v _ _ (stop_ends l _ 0 (done_ends _ 0))))))
    (omega arith)
body_ends l (ReadCombined d reg) =
    let a : ℕ = OUT_BIT_STEPS + (STOP_STEPS + 0) in
    let b : ℕ = OUT_BIT_STEPS + (IN_BYTE_STEPS + a) in
    let c : ℕ = OUT_BIT_STEPS + (IN_BYTE_STEPS + b) in
    bus_more _ _ (BODY_STEPS (ReadCombined d reg))
    (start_ends l _ _ (send_ends l d d _ _ (send_ends l d _ _ _ (send_ends l d _ _ _ (send_ends l d _ _ _
    (start_ends l _ _ (send_ends l d _ _ _
    (in_byte_ends l _ c (λ hi. out_bit_ends l false _ _
    (in_byte_ends l _ b (λ lo. out_bit_ends l false _ _
    (in_byte_ends l _ a (λ sum. out_bit_ends l true _ _ (stop_ends l _ 0 (done_ends _ 0)))))))))))))))
    (omega arith)
body_ends l (WriteCombined d reg v) =
    bus_more _ _ (BODY_STEPS (WriteCombined d reg v))
    (start_ends l _ _ (send_ends l d d _ _ (send_ends l d _ _ _ (send_ends l d _ _ _ (send_ends l d _ _ _ (send_ends l d _ _ _
    (send_ends l d _ _ _ (stop_ends l _ 0 (done_ends _ 0)))))))))
    (omega arith)

pub once_ends : (port : Port) (r : Request) (how : How) → Ends (once port r how) (ONCE_STEPS r)
unfolding once
once_ends port r how = attempt_ends how.sequence (layout_of port.family) (device_of r) _ (BODY_STEPS r) (body_ends (layout_of port.family) r)

take_ends : (port : Port) → Ends (acquire port (mask port)) (ACQUIRE_BITS_STEPS (tries port.family))
unfolding acquire acquired_all pick
take_ends port =
    note_ends _ _ _
    (rw (mask_plain port)
    (ends_more _ (ACQUIRE_BITS_STEPS (tries port.family) + 0) (ACQUIRE_BITS_STEPS (tries port.family))
    (ends_try _ _ (ACQUIRE_BITS_STEPS (tries port.family)) 0 (acquire_bits_ends port _) (λ _. note_ends _ _ 0 (ret_ends _ 0)))
    (omega arith)))

bits_ends : (port : Port) (hw : ℕ) (t : R (Unit {0})) → Ends (give_bits port hw t) RELEASE_BITS_STEPS
unfolding give_bits with_bits
bits_ends port hw t =
    ends_try _ _ RELEASE_BITS_STEPS 0 (ends_pick _ _ _ RELEASE_BITS_STEPS (ret_ends _ _) (release_bits_ends port hw)) (λ _. ret_ends _ 0)

give_ends : (port : Port) → Ends (release port (mask port)) RELEASE_BITS_STEPS
unfolding release pick
give_ends port = note_ends _ _ _ (rw (mask_plain port) (bits_ends port (hw_of (mask port)) (Ok tt)))

taken_ends : (port : Port) (lock : Bool) (k : Prog (R Taken)) (n : ℕ) → Ends k n
    → Ends (when_lock lock (acquire port (mask port)) k) (TAKING_STEPS port.family lock + n)
unfolding when_lock pick
taken_ends port true k n e = ends_try _ _ (ACQUIRE_BITS_STEPS (tries port.family)) n (take_ends port) (λ _. e)
taken_ends port false k n e = ends_more _ n (0 + n) e (omega arith)

given_ends : (port : Port) (lock : Bool) (k : Prog (R Taken)) (n : ℕ) → Ends k n
    → Ends (when_lock lock (release port (mask port)) k) (GIVING_STEPS lock + n)
unfolding when_lock pick
given_ends port true k n e = ends_try _ _ RELEASE_BITS_STEPS n (give_ends port) (λ _. e)
given_ends port false k n e = ends_more _ n (0 + n) e (omega arith)

-- n: the answers for the attempts that are left
judged_ends : (r : Request) (lock : Bool) (again : Unit {0} → Prog (R Taken)) (n : ℕ) → Ends (again tt) n → (result : R Taken)
    → Ends (read_judged r lock again result) (1 + n)
unfolding read_judged
judged_ends r lock again n e result =
    ends_pick _ _ _ (1 + n)
    (ends_pick _ _ _ (1 + n) (ends_try _ _ 1 n (delay_ends _) (λ _. e)) (ends_more _ n (1 + n) e (omega arith)))
    (ret_ends _ _)

one_more : (n t o g s : ℕ) → s ≡ t + (o + (g + 1)) → t + (o + (g + (1 + n * s))) ≤ suc n * s
one_more n t o g s e = rw suc-mul (omega arith)

pub read_tries_ends : (port : Port) (r : Request) (how : How) (n : ℕ) → Ends (read_tries port r how n) (n * READ_STEPS port.family r how.lock)
unfolding read_tries
read_tries_ends port r how zero = ret_ends _ _
read_tries_ends port r how (suc n) =
    let t : ℕ = TAKING_STEPS port.family how.lock in
    let o : ℕ = ONCE_STEPS r in
    let g : ℕ = GIVING_STEPS how.lock in
    let s : ℕ = READ_STEPS port.family r how.lock in
    ends_more _ (t + (o + (g + (1 + n * s)))) (suc n * s)
    (taken_ends port how.lock _ (o + (g + (1 + n * s)))
    (ends_bind _ _ o (g + (1 + n * s)) (once_ends port r how)
    (λ result. given_ends port how.lock _ (1 + n * s) (judged_ends r how.lock _ (n * s) (read_tries_ends port r how n) result))))
    (one_more n t o g s refl)

pub write_tries_ends : (port : Port) (r : Request) (how : How) (n : ℕ) (result : R Taken) → Ends (write_tries port r how n result) (n * ONCE_STEPS r)
unfolding write_tries
write_tries_ends port r how zero result = ret_ends _ _
write_tries_ends port r how (suc n) before =
    let o : ℕ = ONCE_STEPS r in
    ends_more _ (o + n * o) (suc n * o)
    (ends_bind _ _ o (n * o) (once_ends port r how) (λ result. ends_pick _ _ _ (n * o) (write_tries_ends port r how n result) (ret_ends _ _)))
    (rw suc-mul (omega arith))

pub writes_ends : (port : Port) (r : Request) (how : How) → Ends (writes port r how) (WRITE_STEPS port.family r how.lock)
unfolding writes given_up
writes_ends port r how =
    taken_ends port how.lock _ (2 * ONCE_STEPS r + GIVING_STEPS how.lock)
    (ends_bind _ _ (2 * ONCE_STEPS r) (GIVING_STEPS how.lock) (write_tries_ends port r how 2 _)
    (λ result. ends_more _ (GIVING_STEPS how.lock + 0) (GIVING_STEPS how.lock) (given_ends port how.lock _ 0 (ret_ends _ 0)) (omega arith)))

pub retried_ends : (port : Port) (r : Request) (how : How) (n : ℕ) → Ends (retried port r how n) (RETRIED_STEPS port.family r how.lock n)
unfolding retried is_write pick
retried_ends port (ReadByte d o) how n = read_tries_ends port (ReadByte d o) how n
retried_ends port (WriteByte d o v) how n = writes_ends port (WriteByte d o v) how
retried_ends port (ReadCombined d reg) how n = read_tries_ends port (ReadCombined d reg) how n
retried_ends port (WriteCombined d reg v) how n = writes_ends port (WriteCombined d reg v) how

pub granted_ends : (n : ℕ) → Ends (granted n) (2 * n)
unfolding granted granting
granted_ends zero = note_ends _ _ _ (ret_ends _ _)
granted_ends (suc n) =
    ends_more _ (1 + (1 + 2 * n)) (2 * suc n)
    (ends_try _ _ 1 (1 + 2 * n) (read_ends _)
    (λ v. ends_pick _ _ _ (1 + 2 * n) (ends_try _ _ 1 (2 * n) (delay_ends _) (λ _. granted_ends n)) (ret_ends _ _)))
    (omega arith)

with_bus_ends : (port : Port) (device : ℕ) (f : Prog (R Taken)) (n : ℕ) → Ends f n → Ends (with_bus port device f) (HANDSHAKE_STEPS + n)
unfolding with_bus on_grant given_bus
with_bus_ends port device f n e =
    ends_pick _ _ _ (HANDSHAKE_STEPS + n)
    (ends_more _ (3 + (2 * 200 + (n + 3))) (HANDSHAKE_STEPS + n)
    (ends_try _ _ 3 (2 * 200 + (n + 3)) (change_ends _)
    (λ _. ends_try _ _ (2 * 200) (n + 3) (granted_ends 200)
    (λ got. ends_bind _ _ n 3 (ends_pick got f _ n e (ret_ends _ n)) (λ result. ends_try _ _ 3 0 (change_ends _) (λ _. ret_ends _ 0)))))
    (omega arith))
    (ends_more _ n (HANDSHAKE_STEPS + n) e (omega arith))

pub handshaken_ends : (port : Port) (r : Request) (f : Prog (R Taken)) (n : ℕ) → Ends f n → Ends (handshaken port r f) (HANDSHAKE_STEPS + n)
unfolding handshaken
handshaken_ends port (ReadByte d o) f n e = with_bus_ends port d f n e
handshaken_ends port (WriteByte d o v) f n e = with_bus_ends port d f n e
handshaken_ends port (ReadCombined d reg) f n e = ends_more _ n (HANDSHAKE_STEPS + n) e (omega arith)
handshaken_ends port (WriteCombined d reg v) f n e = ends_more _ n (HANDSHAKE_STEPS + n) e (omega arith)

pub transferred_ends : (port : Port) (r : Request) (how : How) (n : ℕ) → Ends (transferred port r how n) (TRANSFER_STEPS port.family r how.lock n)
unfolding transferred gives_value
transferred_ends port r how n =
    ends_more _ (TRANSFER_STEPS port.family r how.lock n + 0) (TRANSFER_STEPS port.family r how.lock n)
    (ends_bind _ _ (TRANSFER_STEPS port.family r how.lock n) 0
    (handshaken_ends port r _ (RETRIED_STEPS port.family r how.lock n) (retried_ends port r how n)) (λ result. ret_ends _ 0))
    (omega arith)

-- `qsfp_setup` is one change
pub setup_ends : Ends (change setup_bus) 3
setup_ends = change_ends setup_bus

-- the answers that each machine may still need after the one it awaits

-- behind an attempt, with so many left
abbrev pub tried_after : Family → Request → Bool → ℕ → ℕ
tried_after family r lock left = GIVING_STEPS lock + (1 + left * READ_STEPS family r lock)

abbrev pub stage_after : Family → Request → Bool → ℕ → Stage → ℕ
stage_after family r lock left (Acquiring s) = acquire_bits_after s + (ONCE_STEPS r + tried_after family r lock left)
stage_after family r lock left (Trying s) = attempt_after s + tried_after family r lock left
stage_after family r lock left (Releasing g s) = release_bits_after s + (1 + left * READ_STEPS family r lock)
stage_after family r lock left Pausing = left * READ_STEPS family r lock

abbrev pub retry_after : Family → Request → Bool → Retry → ℕ
retry_after family r lock t = stage_after family r lock t.left t.stage

-- the attempts, and the request for the bus taken back
abbrev pub granted_after : Family → Request → Bool → ℕ → ℕ
granted_after family r lock tries = RETRIED_STEPS family r lock tries + 3

abbrev pub handshake_after : Family → Request → Bool → Handshake → ℕ
handshake_after family r lock (Asking tries u) = update_after u + (2 * 200 + granted_after family r lock tries)
handshake_after family r lock (Granting tries left) = 1 + 2 * left + granted_after family r lock tries
handshake_after family r lock (Waiting tries left) = 2 * left + granted_after family r lock tries
handshake_after family r lock (Inside t) = retry_after family r lock t + 3
handshake_after family r lock (Giving g u) = update_after u

after_read_ends : (port : Port) (r : Request) (how : How) (left : ℕ) (result : R Taken) → Ends (after_read port r how left result) (tried_after port.family r how.lock left)
unfolding after_read back_then
after_read_ends port r how left result =
    given_ends port how.lock _ (1 + left * READ_STEPS port.family r how.lock) (judged_ends r how.lock _ (left * READ_STEPS port.family r how.lock) (read_tries_ends port r how left) result)

-- a write's attempt takes no longer than a read's
once_less : (n o s g : ℕ) → o ≤ s → n * o + g ≤ g + (1 + n * s)
once_less zero o s g h = omega arith
once_less (suc n) o s g h = rw suc-mul (omega (arith, once_less n o s g h))

after_write_ends : (port : Port) (r : Request) (how : How) (left : ℕ) (result : R Taken) → Ends (after_write port r how left result) (tried_after port.family r how.lock left)
unfolding after_write given_up
after_write_ends port r how left result =
    ends_more _ (left * ONCE_STEPS r + GIVING_STEPS how.lock) (tried_after port.family r how.lock left)
    (ends_bind _ _ (left * ONCE_STEPS r) (GIVING_STEPS how.lock) (ends_pick _ _ _ (left * ONCE_STEPS r) (write_tries_ends port r how left result) (ret_ends _ _))
    (λ v. ends_more _ (GIVING_STEPS how.lock + 0) (GIVING_STEPS how.lock) (given_ends port how.lock _ 0 (ret_ends _ 0)) (omega arith)))
    (once_less left (ONCE_STEPS r) (READ_STEPS port.family r how.lock) (GIVING_STEPS how.lock) (omega arith))

after_try_ends : (port : Port) (r : Request) (how : How) (left : ℕ) (result : R Taken) → Ends (after_try port r how left result) (tried_after port.family r how.lock left)
unfolding after_try
after_try_ends port r how left result = ends_pick _ _ _ _ (after_write_ends port r how left result) (after_read_ends port r how left result)

try_now_ends : (port : Port) (r : Request) (how : How) (left : ℕ) → Ends (try_now port r how left) (ONCE_STEPS r + tried_after port.family r how.lock left)
unfolding try_now
try_now_ends port r how left = ends_bind _ _ (ONCE_STEPS r) _ (once_ends port r how) (after_try_ends port r how left)

tries_left_ends : (port : Port) (r : Request) (how : How) (left : ℕ) → Ends (tries_left port r how left) (left * READ_STEPS port.family r how.lock)
unfolding tries_left locked_try
tries_left_ends port r how zero = ret_ends _ _
tries_left_ends port r how (suc left) =
    ends_more _ (TAKING_STEPS port.family how.lock + (ONCE_STEPS r + tried_after port.family r how.lock left)) (suc left * READ_STEPS port.family r how.lock)
    (taken_ends port how.lock _ _ (try_now_ends port r how left))
    (one_more left (TAKING_STEPS port.family how.lock) (ONCE_STEPS r) (GIVING_STEPS how.lock) (READ_STEPS port.family r how.lock) refl)

script_few : (r : Request) → length (script_of r) ≤ 64
unfolding script_of read_byte_script write_byte_script read_combined_script write_combined_script
script_few (ReadByte d o) = omega arith
script_few (WriteByte d o v) = omega arith
script_few (ReadCombined d reg) = omega arith
script_few (WriteCombined d reg v) = omega arith

retry_rest_ends : (port : Port) (r : Request) (how : How) (t : Retry) (a : Answer) → Ends (rest_retry port r how t a) (retry_after port.family r how.lock t)
unfolding rest_retry rest_stage after_release
retry_rest_ends port r how t a = by t.left t.stage
  where
    by : (left : ℕ) (s : Stage) → Ends (rest_stage port r how left s a) (stage_after port.family r how.lock left s)
    by left (Acquiring s) = ends_try _ _ (acquire_bits_after s) _ (acquire_bits_rest_ends port (mask port) s a) (λ _. try_now_ends port r how left)
    by left (Trying s) =
        ends_bind _ _ (attempt_after s) _ (attempt_rest_ends keeping how.sequence (layout_of port.family) (device_of r) (script_of r) s a (script_few r)) (after_try_ends port r how left)
    by left (Releasing g s) =
        ends_try _ _ (release_bits_after s) _ (release_bits_rest_ends port (mask port) s a)
        (λ _. ends_pick _ _ _ _ (ret_ends _ _) (judged_ends r how.lock _ (left * READ_STEPS port.family r how.lock) (read_tries_ends port r how left) _))
    by left Pausing = tries_left_ends port r how left

closing_ends : (port : Port) (r : Request) (result : R Taken) → Ends (closing port r result) 3
unfolding closing given_bus
closing_ends port r result = ends_pick _ _ _ 3 (ends_try _ _ 3 0 (change_ends _) (λ _. ret_ends _ 0)) (ret_ends _ 3)

on_granted_ends : (port : Port) (r : Request) (how : How) (tries : ℕ) (came : Bool) → Ends (on_granted port r how tries came) (granted_after port.family r how.lock tries)
unfolding on_granted
on_granted_ends port r how tries came =
    ends_bind _ _ (RETRIED_STEPS port.family r how.lock tries) 3 (ends_pick _ _ _ _ (retried_ends port r how tries) (ret_ends _ _)) (closing_ends port r)

pub handshake_rest_ends : (port : Port) (r : Request) (how : How) (s : Handshake) (a : Answer) → Ends (rest_handshake port r how s a) (handshake_after port.family r how.lock s)
unfolding rest_handshake awaiting_grant looked_at granting
handshake_rest_ends port r how (Asking tries u) a =
    ends_try _ _ (update_after u) _ (update_rest_ends _ u a) (λ _. ends_try _ _ (2 * 200) _ (granted_ends 200) (on_granted_ends port r how tries))
handshake_rest_ends port r how (Granting tries left) a =
    ends_try _ _ (1 + 2 * left) _
    (ends_or _ _ (1 + 2 * left) (λ v. ends_pick _ _ _ (1 + 2 * left) (ends_try _ _ 1 (2 * left) (delay_ends _) (λ _. granted_ends left)) (ret_ends _ _)))
    (on_granted_ends port r how tries)
handshake_rest_ends port r how (Waiting tries left) a = ends_try _ _ (2 * left) _ (granted_ends left) (on_granted_ends port r how tries)
handshake_rest_ends port r how (Inside t) a = ends_bind _ _ (retry_after port.family r how.lock t) 3 (retry_rest_ends port r how t a) (closing_ends port r)
handshake_rest_ends port r how (Giving g u) a =
    ends_more _ (update_after u + 0) (update_after u) (ends_try _ _ (update_after u) 0 (update_rest_ends _ u a) (λ _. ret_ends _ 0)) (omega arith)

-- a request, and what a call makes of its value
pub request_rest_ends : {A : Type 0} (port : Port) (r : Request) (how : How) (f : R ℕ → Prog A) (n : ℕ) → ((v : R ℕ) → Ends (f v) n) → (s : Handshake) (a : Answer)
    → Ends (rest_request port r how f s a) (handshake_after port.family r how.lock s + n)
unfolding rest_request valued
request_rest_ends port r how f n e s a = ends_bind _ _ (handshake_after port.family r how.lock s) n (handshake_rest_ends port r how s a) (λ v. e _)
