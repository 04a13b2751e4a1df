-- Laws of the four transfers that the proofs cite.
use Prim.Native.Nat.{ℕ, ◌+◌, ◌-◌, ◌<◌, ◌≤◌, suc, zero}
use mathlib.Core.Path.{◌≡◌, refl, ap, fun_ext, ◌∙◌, sym, subst}
use mathlib.Core.Bool.{Bool, true, false}
use lib.Dec.{T, leb}
use borrow.Author.Tests.{leb-true, le-leb, lt-ltb}
use native.Mathlib.Numerals.{sub-one}
use native.Mathlib.Omega.{arith}
use Rattle.hardware.specs.Marks.{FULL, acknowledged, attempt_begins, count_of, marked, meter_on, more, unmarked, valid_held}
use Rattle.hardware.specs.declared.Access.TheVariants.{Read}
use Rattle.hardware.specs.declared.Marks.{Marks}
use Rattle.hardware.specs.declared.Meter.{Meter}
use Rattle.hardware.specs.declared.Port.{Port}
use Rattle.hardware.specs.Failures.{I2c}
use Rattle.hardware.specs.Prog.{Prog, ret, ask, note, Attempt, R, Err, or_err, erase, pick, ◌>>=◌, ◌>>?◌}
use Rattle.hardware.specs.Registers.{raw}
use Rattle.hostif.specs.Acquire.{acquire}
use Rattle.bus.specs.declared.Layout.{Layout}
use Rattle.bus.specs.declared.Taken.{Taken}
use Rattle.bus.specs.Layout.{layout_of, x550em}
use Rattle.bus.specs.Bus.{none}
use Rattle.bus.proofs.Laws.{picked, picked_first, picked_second}
use Rattle.script.specs.Script.{commands, starts, on_command}
use Rattle.script.specs.Scripts.{read_byte_script, write_byte_script, read_combined_script, write_combined_script}
use Rattle.script.proofs.Scripts.{read_byte_commands, write_byte_commands, read_combined_commands, write_combined_commands}
use Rattle.transfer.specs.declared.attempt.Attempt.TheVariants.{New}
use Rattle.transfer.specs.Transfer.{keeping, tells, did, is_read, took_by, handed, transfer}
use Rattle.transfer.specs.Attempt.{begun, attempting, attempt, access_attempt, rest_attempt}
use Rattle.i2c.specs.declared.How.{How}
use Rattle.i2c.specs.declared.once.Request.{Request}
use Rattle.i2c.specs.declared.once.Request.TheVariants.{ReadByte, WriteByte, ReadCombined, WriteCombined}
use Rattle.i2c.specs.declared.retry.Stage.TheVariants.{Trying}
use Rattle.i2c.specs.I2c.{mask, attempts, device_of, script_of, is_write, body, failed_i2c, once, when_lock, read_tries, write_tries, given_up, writes, retried, qsfp, ask_bus, granted, given_bus, on_grant, with_bus, handshaken}
use Rattle.hardware.specs.declared.Update.TheVariants.{Reading}
use Rattle.hardware.specs.Change.{change, access_update, rest_update}
use Rattle.hardware.proofs.Laws.{held_on}
use Rattle.hardware.proofs.Prog.{bind_assoc, bind_ret}
use Rattle.i2c.specs.declared.handshake.Handshake.{Handshake}
use Rattle.i2c.specs.declared.handshake.Handshake.TheVariants.{Asking, Granting}
use Rattle.i2c.specs.Handshake.{has_handshake, closing, entered, on_granted, awaiting_grant, looked_at, access_handshake, rest_handshake, handshake_next, due_handshake, allows, valid_handshake, valid_request}
use Rattle.i2c.specs.Calls.{limit_of, tries_of, valid_operands}
use Rattle.i2c.specs.Retry.{wanted, back_then, after_release, after_read, after_write, after_try, try_now, locked_try, tries_left, access_retry, access_stage, rest_retry, rest_stage, retry_next}
use Rattle.hardware.specs.declared.Next.TheVariants.{Going}

-- a call's script does what the Rust's closure does
pub body_is : (l : Layout) (r : Request) → transfer keeping l (device_of r) (commands (script_of r)) none ≡ body l r
unfolding transfer did handed tells took_by is_read pick body script_of device_of
body_is l (ReadByte d o) = ap (λ cs. transfer keeping l d cs none) (read_byte_commands d o)
body_is l (WriteByte d o v) = ap (λ cs. transfer keeping l d cs none) (write_byte_commands d o v)
body_is l (ReadCombined d reg) = ap (λ cs. transfer keeping l d cs none) (read_combined_commands d reg)
body_is l (WriteCombined d reg v) = ap (λ cs. transfer keeping l d cs none) (write_combined_commands d reg v)

-- a script begins with a command
pub on_start : (r : Request) → on_command (script_of r) 0 ≡ true
unfolding on_command starts script_of read_byte_script write_byte_script read_combined_script write_combined_script
on_start (ReadByte d o) = refl
on_start (WriteByte d o v) = refl
on_start (ReadCombined d reg) = refl
on_start (WriteCombined d reg v) = refl

-- an attempt begins, and is noted
pub begins : (port : Port) (r : Request) (how : How) (left : ℕ)
    → retry_next port r how (Going (attempt_begins, (record { left = left; stage = Trying New }))) ≡ erase (try_now port r how left)
unfolding retry_next marked acknowledged access_retry access_stage access_attempt rest_retry rest_stage rest_attempt try_now once attempt attempting erase ◌>>=◌
begins port r how left =
    ap (λ f. note Attempt (ask (Read (layout_of port.family).reg) (λ a. erase (or_err (begun how.sequence (layout_of port.family) (device_of r) f) (raw a) >>= after_try port r how left))))
    (body_is (layout_of port.family) r)

-- the transfers made and those to come, with the one that begins now among the first or the second
count_on : (b : Bool) (made due limit : ℕ) → made < FULL → made + more b due ≤ limit → count_of b made + due ≤ limit
unfolding count_of more pick
count_on true made due limit h g = rw (lt-ltb made FULL h) (omega (arith, g))
count_on false made due limit h g = rw (lt-ltb made FULL h) (omega (arith, g))

pub when_yes : (lock : Bool) (p : Prog (R (Unit {0}))) (k : Prog (R Taken)) → lock ≡ true → (p >>? λ _. k) ≡ when_lock lock p k
unfolding when_lock pick
when_yes lock p k h = rw (h)

pub when_no : (lock : Bool) (p : Prog (R (Unit {0}))) (k : Prog (R Taken)) → lock ≡ false → k ≡ when_lock lock p k
unfolding when_lock pick
when_no lock p k h = rw (h)

after_reads : (port : Port) (r : Request) (how : How) (left : ℕ) → is_write r ≡ false → after_try port r how left ≡ after_read port r how left
unfolding after_try pick
after_reads port r how left h = fun_ext (λ result. rw (h))

after_writes : (port : Port) (r : Request) (how : How) (left : ℕ) → is_write r ≡ true → after_try port r how left ≡ after_write port r how left
unfolding after_try pick
after_writes port r how left h = fun_ext (λ result. rw (h))

-- with an attempt left, it is made
pub again_more : (port : Port) (r : Request) (how : How) (left : ℕ) → (left ≡ 0 → ⊥) → locked_try port r how (left - 1) ≡ tries_left port r how left
unfolding tries_left
again_more port r how zero h = absurd (h refl)
again_more port r how (suc n) h = ap (λ m. locked_try port r how m) (sub-one (suc n))

-- a read's attempts are the Rust's
pub tries_reads : (port : Port) (r : Request) (how : How) (left : ℕ) → is_write r ≡ false → tries_left port r how left ≡ read_tries port r how left
unfolding tries_left locked_try try_now read_tries after_read back_then
tries_reads port r how zero w = refl
tries_reads port r how (suc n) w = ap (λ k. when_lock how.lock (acquire port (mask port)) (once port r how >>= k)) (after_reads port r how n w)

-- with a write left, it is made under the lock that is held
pub write_more : (port : Port) (r : Request) (how : How) (left : ℕ) (result : R Taken) → is_write r ≡ true
    → try_now port r how left ≡ write_tries port r how (suc left) result >>= given_up port how.lock
unfolding try_now write_tries after_write
write_more port r how left result w =
    ap (λ k. once port r how >>= k) (after_writes port r how left w) ∙ sym (bind_assoc (once port r how) _ (given_up port how.lock))

failed_on : (port : Port) (r : Request) (how : How) (left : ℕ) (result : R Taken) → failed_i2c result ≡ true
    → (write_tries port r how left result >>= given_up port how.lock) ≡ after_write port r how left result
unfolding after_write pick
failed_on port r how left result f = rw (f)

pub write_again : (port : Port) (r : Request) (how : How) (left : ℕ) (result : R Taken) → is_write r ≡ true → failed_i2c result ≡ true → (left ≡ 0 → ⊥)
    → try_now port r how (left - 1) ≡ after_try port r how left result
write_again port r how zero result w f h = absurd (h refl)
write_again port r how (suc n) result w f h =
    ap (λ m. try_now port r how m) (sub-one (suc n)) ∙ write_more port r how n result w
    ∙ failed_on port r how (suc n) result f ∙ sym (ap (λ k. k result) (after_writes port r how (suc n) w))

-- the last write: what is given back ends the call
pub write_done : (port : Port) (r : Request) (how : How) (left : ℕ) (result : R Taken) → is_write r ≡ true → failed_i2c result ≡ false
    → back_then port how.lock (after_release port r how left result) ≡ after_try port r how left result
unfolding after_release after_try after_write given_up back_then pick ◌>>=◌
write_done port r how left result w f = rw (w, f)

pub write_last : (port : Port) (r : Request) (how : How) (left : ℕ) (result : R Taken) → is_write r ≡ true → failed_i2c result ≡ true → left ≡ 0
    → back_then port how.lock (after_release port r how left result) ≡ after_try port r how left result
unfolding after_release after_try after_write given_up back_then write_tries pick ◌>>=◌
write_last port r how left result w f z = rw (w, f, z)

pub read_done : (port : Port) (r : Request) (how : How) (left : ℕ) (result : R Taken) → is_write r ≡ false
    → back_then port how.lock (after_release port r how left result) ≡ after_try port r how left result
unfolding after_release after_try after_read pick
read_done port r how left result w = rw (w)

pub write_open : (port : Port) (r : Request) (how : How) (tries : ℕ) → is_write r ≡ true → locked_try port r how 1 ≡ retried port r how tries
unfolding locked_try retried writes pick
write_open port r how tries w = rw (w) (ap (λ k. when_lock how.lock (acquire port (mask port)) k) (write_more port r how 1 _ w))

pub read_open : (port : Port) (r : Request) (how : How) (tries : ℕ) → is_write r ≡ false → read_tries port r how tries ≡ retried port r how tries
unfolding retried pick
read_open port r how tries w = rw (w)

-- with a look left, ESDP is read
pub granted_more : (port : Port) (r : Request) (how : How) (tries left : ℕ) → (left ≡ 0 → ⊥)
    → handshake_next port r how (Going (unmarked, (Granting tries (left - 1)))) ≡ erase (awaiting_grant port r how tries left)
unfolding handshake_next marked acknowledged access_handshake rest_handshake looked_at awaiting_grant granted erase ◌>>=◌
granted_more port r how tries zero h = absurd (h refl)
granted_more port r how tries (suc n) h =
    ap (λ m. handshake_next port r how (Going (unmarked, (Granting tries m)))) (sub-one (suc n))

closing_gives : (port : Port) (r : Request) → has_handshake port r ≡ true → closing port r ≡ given_bus
unfolding closing pick
closing_gives port r h = fun_ext (λ result. rw (h))

closing_ends : (port : Port) (r : Request) → has_handshake port r ≡ false → closing port r ≡ ret
unfolding closing pick
closing_ends port r h = fun_ext (λ result. rw (h))

asks : (port : Port) (r : Request) (how : How) (tries : ℕ)
    → handshake_next port r how (Going (unmarked, (Asking tries Reading))) ≡ erase (change ask_bus >>? λ _. awaiting_grant port r how tries 200)
unfolding handshake_next marked acknowledged access_handshake rest_handshake access_update rest_update change erase ◌>>=◌
asks port r how tries = refl

with_bus_lem : (port : Port) (device : ℕ) (f : Prog (R Taken)) → qsfp port ≡ true → (change ask_bus >>? λ _. granted 200 >>? on_grant device f) ≡ with_bus port device f
unfolding with_bus pick
with_bus_lem port device f h = rw (h)

no_bus : (port : Port) (device : ℕ) (f : Prog (R Taken)) → qsfp port ≡ false → f ≡ with_bus port device f
unfolding with_bus pick
no_bus port device f h = rw (h)

-- the handshake begins
pub handshake_opens : (port : Port) (r : Request) (how : How) (tries : ℕ) → has_handshake port r ≡ true
    → handshake_next port r how (Going (unmarked, (Asking tries Reading))) ≡ erase (handshaken port r (retried port r how tries))
unfolding handshaken has_handshake awaiting_grant on_granted on_grant device_of
handshake_opens port (ReadByte d o) how tries h =
    asks port (ReadByte d o) how tries
    ∙ ap (λ k. erase (change ask_bus >>? λ _. granted 200 >>? λ came. pick came (retried port (ReadByte d o) how tries) (ret (Err (I2c d))) >>= k)) (closing_gives port (ReadByte d o) h)
    ∙ ap erase (with_bus_lem port d (retried port (ReadByte d o) how tries) h)
handshake_opens port (WriteByte d o v) how tries h =
    asks port (WriteByte d o v) how tries
    ∙ ap (λ k. erase (change ask_bus >>? λ _. granted 200 >>? λ came. pick came (retried port (WriteByte d o v) how tries) (ret (Err (I2c d))) >>= k)) (closing_gives port (WriteByte d o v) h)
    ∙ ap erase (with_bus_lem port d (retried port (WriteByte d o v) how tries) h)
handshake_opens port (ReadCombined d reg) how tries h = absurd (subst T (sym h) tt)
handshake_opens port (WriteCombined d reg v) how tries h = absurd (subst T (sym h) tt)

entered_by : (port : Port) (r : Request) (how : How) (tries : ℕ) → closing port r ≡ ret → entered port r how tries ≡ retried port r how tries
unfolding entered
entered_by port r how tries h = ap (λ k. retried port r how tries >>= k) h ∙ bind_ret (retried port r how tries)

without_handshake : (port : Port) (r : Request) (f : Prog (R Taken)) → has_handshake port r ≡ false → f ≡ handshaken port r f
unfolding handshaken has_handshake
without_handshake port (ReadByte d o) f h = no_bus port d f h
without_handshake port (WriteByte d o v) f h = no_bus port d f h
without_handshake port (ReadCombined d reg) f h = refl
without_handshake port (WriteCombined d reg v) f h = refl

-- no handshake
pub no_handshake : (port : Port) (r : Request) (how : How) (tries : ℕ) → has_handshake port r ≡ false
    → entered port r how tries ≡ handshaken port r (retried port r how tries)
no_handshake port r how tries h = entered_by port r how tries (closing_ends port r h) ∙ without_handshake port r (retried port r how tries) h

pub upto : {a b c : ℕ} → a ≤ b → b ≤ c → a ≤ c
upto h g = omega (arith, h, g)

pub less : {a b : ℕ} → a < b → a ≤ b
less h = omega (arith, h)

pub allows_wanted : (most : ℕ) (r : Request) (tries : ℕ) → allows most r tries ≡ true → wanted r tries ≤ most
unfolding allows
allows_wanted most r tries h = leb-true _ _ (picked_second (leb tries most) _ h)

-- the attempts of a call fit its limit
limit_fits : (r : Request) (attempts : ℕ) → attempts ≤ 255 → wanted r (tries_of r attempts) ≤ limit_of r
unfolding wanted is_write tries_of limit_of pick
limit_fits (ReadByte d o) attempts h = h
limit_fits (WriteByte d o v) attempts h = omega arith
limit_fits (ReadCombined d reg) attempts h = omega arith
limit_fits (WriteCombined d reg v) attempts h = omega arith

limit_tries : (r : Request) (attempts : ℕ) → attempts ≤ 255 → tries_of r attempts ≤ limit_of r
unfolding tries_of limit_of
limit_tries (ReadByte d o) attempts h = h
limit_tries (WriteByte d o v) attempts h = omega arith
limit_tries (ReadCombined d reg) attempts h = omega arith
limit_tries (WriteCombined d reg v) attempts h = omega arith

pub limit_allows : (r : Request) (attempts : ℕ) → attempts ≤ 255 → allows (limit_of r) r (tries_of r attempts) ≡ true
unfolding allows
limit_allows r attempts h = picked _ _ (le-leb _ _ (limit_tries r attempts h)) (le-leb _ _ (limit_fits r attempts h))

pub limit_most : (r : Request) → limit_of r < FULL
unfolding limit_of
limit_most (ReadByte d o) = omega arith
limit_most (WriteByte d o v) = omega arith
limit_most (ReadCombined d reg) = omega arith
limit_most (WriteCombined d reg v) = omega arith

-- what an opening may begin fits its limit
pub limit_room : (r : Request) (tries attempts due : ℕ) → tries ≡ tries_of r attempts → attempts ≤ 255 → due ≤ wanted r tries → 0 + due ≤ limit_of r
limit_room r tries attempts due e h d = omega (arith, subst (λ n. due ≤ wanted r n) e d, limit_fits r attempts h)

-- a state's operands, with what its marks tell
pub operands_on : (k : Marks) (port : Port) (r : Request) (m : Meter) → valid_operands port r m ≡ true → valid_operands port r (meter_on k m) ≡ true
unfolding valid_operands
operands_on k port r m h = picked _ _ (held_on k port m (picked_first (valid_held port m) _ h)) (picked_second (valid_held port m) _ h)

-- what a request within its limits says
pub record Fits (port : Port) (r : Request) (tries cap : ℕ) (m : Meter) (s : Handshake) : Type 0 where
  pub counters : valid_handshake tries port r s ≡ true
  pub all : m.transfers + due_handshake r s ≤ cap

pub valid_fits : (port : Port) (r : Request) (tries cap : ℕ) (m : Meter) (s : Handshake) → valid_request port r tries cap m s ≡ true → Fits port r tries cap m s
unfolding valid_request
valid_fits port r tries cap m s h =
    record { counters = picked_first (valid_handshake tries port r s) _ h; all = leb-true _ _ (picked_second (valid_handshake tries port r s) _ h) }

-- a count within its limit is below the top of its type
pub fits_below : (port : Port) (r : Request) (tries cap : ℕ) (m : Meter) (s : Handshake) → cap < FULL → valid_request port r tries cap m s ≡ true → m.transfers < FULL
fits_below port r tries cap m s h v = omega (arith, h, (valid_fits port r tries cap m s v).all)

-- a state within its limits, with what its marks tell
pub fits_valid : (k : Marks) (port : Port) (r : Request) (tries cap : ℕ) (m : Meter) (s : Handshake) → cap < FULL → valid_handshake tries port r s ≡ true
    → m.transfers + more k.attempt (due_handshake r s) ≤ cap → valid_request port r tries cap (meter_on k m) s ≡ true
unfolding valid_request meter_on
fits_valid k port r tries cap m s h v all = picked _ _ v (le-leb _ _ (count_on k.attempt m.transfers _ _ (omega (arith, h, all)) all))

-- a read has between one and eleven attempts
pub attempts_few : (port : Port) → attempts port ≤ 11
unfolding attempts pick
attempts_few port = by (x550em port.family)
  where
    by : (b : Bool) → pick b 4 11 ≤ 11
    by true = omega arith
    by false = omega arith

pub attempts_some : (port : Port) → attempts port ≡ suc (attempts port - 1)
unfolding attempts pick
attempts_some port = by (x550em port.family)
  where
    by : (b : Bool) → pick b 4 11 ≡ suc (pick b 4 11 - 1)
    by true = refl
    by false = refl
