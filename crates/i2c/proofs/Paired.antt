-- In the four transfers each `acquire` that succeeds gets one call of `release` before the next `acquire` or the end, whatever the
-- port, the request, the lock or none, the number of attempts and the answers. `Pairs` of the calls that they are made of
-- serves the calls that are made of them.
use Prim.Native.Nat.{ℕ, suc, zero}
use mathlib.Core.Path.{◌≡◌, refl}
use mathlib.Core.Bool.{Bool, true, false}
use mathlib.Core.List.{List}
use Rattle.hardware.specs.declared.Answer.{Answer}
use Rattle.hardware.specs.declared.Port.{Port}
use Rattle.hardware.specs.Prog.{Prog, R, Ok, Err, or_err, ◌>>?◌, pick}
use Rattle.hardware.specs.Runs.{run, ended, Heard}
use Rattle.hardware.proofs.Laws.{samples_heard}
use Rattle.sync.specs.Regs.{SW_MNG}
use Rattle.hostif.specs.Hostif.{Left, closed, released, requested, acquired, command, token_block, tokened, token}
use Rattle.hostif.specs.Acquire.{TOKEN_TRIES, hw_of, with_bits, acquired_all, not_granted, given_back, token_seen, acquire_token, acquire, give_bits, token_given, release}
use Rattle.bus.specs.declared.Taken.{Taken}
use Rattle.bus.specs.Bus.{none}
use Rattle.transfer.specs.Attempt.{attempt}
use Rattle.i2c.specs.declared.How.{How}
use Rattle.i2c.specs.declared.once.Request.{Request}
use Rattle.i2c.specs.declared.once.Request.TheVariants.{ReadByte, WriteByte, ReadCombined, WriteCombined}
use Rattle.i2c.specs.I2c.{mask, gives_value, once, when_lock, read_judged, read_tries, write_tries, given_up, writes, retried, given_bus, on_grant, with_bus, handshaken, transferred}
use Rattle.i2c.specs.Paired.{free, held, hold_after, notes_in, Paired}
use Rattle.i2c.proofs.Noteless.{once_noteless}
use Rattle.i2c.proofs.Quiet.{granted_quiet, Quiet, quiet_noteless, quiet_pick, quiet_ret, delay_quiet, change_quiet, acquire_bits_quiet, release_bits_quiet, request_quiet, respond_quiet}
use Rattle.i2c.proofs.Pairs.{Pairs, hold_of, pairs_holds, pairs_bind, pairs_then, pairs_or, pairs_try, pairs_pick, pairs_ret, pairs_attempt, pairs_acquires, pairs_acquired, pairs_released, pairs_quiet, pairs_paired, pairs_samples}

-- a firmware command takes its own lock and gives it back

released_pairs : (port : Port) (left : Left) → Pairs true (released port left) (λ _. false)
unfolding released closed
released_pairs port left =
    pairs_released _ _ (pairs_then false _ _ _ (pairs_quiet false _ (release_bits_quiet port SW_MNG)) (λ r. pairs_ret false _))

requested_pairs : (port : Port) (block : List ℕ) (r : R ℕ) → Pairs true (requested port block r) (λ _. false)
unfolding requested
requested_pairs port block (Err e) = released_pairs port _
requested_pairs port block (Ok last) = pairs_then true _ _ _ (pairs_quiet true _ (respond_quiet last block)) (λ left. released_pairs port left)

acquired_pairs : (port : Port) (block : List ℕ) (r : R (Unit {0})) → Pairs false (acquired port block r) (λ _. false)
unfolding acquired
acquired_pairs port block (Err e) = pairs_ret false _
acquired_pairs port block (Ok u) =
    pairs_acquired _ _ (pairs_then true _ _ _ (pairs_quiet true _ (request_quiet block)) (λ r. requested_pairs port block r))

pub command_pairs : (port : Port) (block : List ℕ) → Pairs false (command port block) (λ _. false)
unfolding command
command_pairs port block =
    pairs_acquires _ _ (pairs_then false _ _ _ (pairs_quiet false _ (acquire_bits_quiet port SW_MNG)) (λ r. acquired_pairs port block r))

pub token_pairs : (port : Port) (take : Bool) → Pairs false (token port take) (λ _. false)
unfolding token tokened
token_pairs port take = pairs_then false _ _ _ (command_pairs port (token_block port take)) (λ left. pairs_ret false _)

-- an `acquire` that succeeds leaves the lock held, one that fails does not

unfoldable pub succeeded : R (Unit {0}) → Bool
succeeded (Ok u) = true
succeeded (Err e) = false

all_pairs : Pairs false acquired_all succeeded
unfolding acquired_all succeeded Pairs
all_pairs = (refl, refl)

failed_pairs : (k : Unit {0} → Prog (R (Unit {0}))) (r : R (Unit {0})) → ((u : Unit {0}) → Pairs false (k u) succeeded) → Pairs false (or_err k r) succeeded
unfolding or_err succeeded Pairs
failed_pairs k (Ok u) d = d u
failed_pairs k (Err e) d = refl

-- where the first call can fail, and leaves the lock free either way
free_then : (p : Prog (R (Unit {0}))) (k : Unit {0} → Prog (R (Unit {0}))) → Pairs false p (λ _. false) → ((u : Unit {0}) → Pairs false (k u) succeeded)
    → Pairs false (p >>? k) succeeded
free_then p k e d = pairs_then false p (or_err k) succeeded e (λ r. failed_pairs k r d)

with_bits_pairs : (hw : ℕ) (p : Prog (R (Unit {0}))) → Quiet p → Pairs false (with_bits hw p) (λ _. false)
unfolding with_bits
with_bits_pairs hw p e = pairs_quiet false _ (quiet_pick _ _ _ (quiet_ret _) e)

not_granted_pairs : (again : Answer → Prog (R (Unit {0}))) → ((a : Answer) → Pairs false (again a) succeeded) → (g : R Bool)
    → Pairs false (not_granted again g) succeeded
unfolding not_granted succeeded Pairs
not_granted_pairs again d (Err e) = refl
not_granted_pairs again d (Ok b) = d

given_back_pairs : (port : Port) (hw : ℕ) (again : Answer → Prog (R (Unit {0}))) → ((a : Answer) → Pairs false (again a) succeeded) → (g : R Bool)
    → Pairs false (given_back port hw again g) succeeded
unfolding given_back
given_back_pairs port hw again d g = free_then _ _ (with_bits_pairs hw _ (release_bits_quiet port hw)) (λ _. not_granted_pairs again d g)

token_seen_pairs : (port : Port) (hw : ℕ) (again : Answer → Prog (R (Unit {0}))) → ((a : Answer) → Pairs false (again a) succeeded) → (g : R Bool)
    → Pairs false (token_seen port hw again g) succeeded
unfolding token_seen
token_seen_pairs port hw again d (Ok true) = all_pairs
token_seen_pairs port hw again d (Ok false) = given_back_pairs port hw again d (Ok false)
token_seen_pairs port hw again d (Err e) = given_back_pairs port hw again d (Err e)

acquire_token_pairs : (port : Port) (hw n : ℕ) → Pairs false (acquire_token port hw n) succeeded
unfolding acquire_token succeeded Pairs
acquire_token_pairs port hw zero = refl
acquire_token_pairs port hw (suc n) =
    free_then _ _ (with_bits_pairs hw _ (acquire_bits_quiet port hw))
    (λ _. pairs_then false _ _ _ (token_pairs port true) (λ g. token_seen_pairs port hw _ (λ _. acquire_token_pairs port hw n) g))

pub acquire_pairs : (port : Port) (mask : ℕ) → Pairs false (acquire port mask) succeeded
unfolding acquire
acquire_pairs port mask =
    pairs_acquires _ _
    (pairs_pick false _ _ _ _ (free_then _ _ (pairs_quiet false _ (acquire_bits_quiet port (hw_of mask))) (λ _. all_pairs))
    (acquire_token_pairs port (hw_of mask) TOKEN_TRIES))

-- `release` leaves it free, whether it succeeds or fails

give_pairs : (port : Port) (hw : ℕ) (t : R (Unit {0})) → Pairs false (give_bits port hw t) (λ _. false)
unfolding give_bits
give_pairs port hw t = pairs_try false _ _ (with_bits_pairs hw _ (release_bits_quiet port hw)) (λ _. pairs_ret false _)

pub release_pairs : (port : Port) (mask : ℕ) → Pairs true (release port mask) (λ _. false)
unfolding release token_given
release_pairs port mask =
    pairs_released _ _
    (pairs_pick false _ _ _ _ (give_pairs port (hw_of mask) _)
    (pairs_then false _ _ _ (token_pairs port false) (λ g. give_pairs port (hw_of mask) _)))

-- so the notes tell what the two calls did: after an `acquire` that has ended something is held just if it succeeded, and
-- after a `release` that has ended nothing is
pub acquire_noted : (port : Port) (mask : ℕ) (l : List Answer) (v : R (Unit {0})) → (run (acquire port mask) l).status ≡ ended v
    → hold_after free (notes_in (acquire port mask) l) ≡ hold_of (succeeded v)
acquire_noted port mask l v e = (pairs_holds false _ succeeded l (acquire_pairs port mask)).1 v e

pub release_noted : (port : Port) (mask : ℕ) (l : List Answer) (v : R (Unit {0})) → (run (release port mask) l).status ≡ ended v
    → hold_after held (notes_in (release port mask) l) ≡ free
release_noted port mask l v e = (pairs_holds true _ (λ _. false) l (release_pairs port mask)).1 v e

-- an attempt leaves the lock as it was

pub once_pairs : (h : Bool) (port : Port) (r : Request) (how : How) → Pairs h (once port r how) (λ _. h)
unfolding once attempt
once_pairs h port r how =
    pairs_attempt h _ _
    (pairs_quiet h _ (quiet_noteless _ (once_noteless port r how)))

-- the lock, where it is wanted, is held in k and free at the end

locked_pairs : (k : Prog (R Taken)) (r : R (Unit {0})) → Pairs true k (λ _. false) → Pairs (succeeded r) (or_err (λ _. k) r) (λ _. false)
unfolding or_err succeeded Pairs
locked_pairs k (Ok u) e = e
locked_pairs k (Err x) e = refl

taken_pairs : (port : Port) (lock : Bool) (k : Prog (R Taken)) → Pairs lock k (λ _. false) → Pairs false (when_lock lock (acquire port (mask port)) k) (λ _. false)
unfolding when_lock pick
taken_pairs port true k e = pairs_bind false _ _ succeeded _ (acquire_pairs port (mask port)) (λ r. locked_pairs k r e)
taken_pairs port false k e = e

given_pairs : (port : Port) (lock : Bool) (k : Prog (R Taken)) → Pairs false k (λ _. false) → Pairs lock (when_lock lock (release port (mask port)) k) (λ _. false)
unfolding when_lock pick
given_pairs port true k e = pairs_bind true _ _ (λ _. false) _ (release_pairs port (mask port)) (λ r. pairs_or false _ r (λ _. e))
given_pairs port false k e = e

-- the calls

judged_pairs : (r : Request) (lock : Bool) (again : Unit {0} → Prog (R Taken)) → Pairs false (again tt) (λ _. false) → (result : R Taken)
    → Pairs false (read_judged r lock again result) (λ _. false)
unfolding read_judged
judged_pairs r lock again e result =
    pairs_pick false _ _ _ _ (pairs_pick false _ _ _ _ (pairs_try false _ _ (pairs_quiet false _ (delay_quiet _)) (λ _. e)) e) (pairs_ret false _)

pub read_tries_pairs : (port : Port) (r : Request) (how : How) (n : ℕ) → Pairs false (read_tries port r how n) (λ _. false)
unfolding read_tries
read_tries_pairs port r how zero = pairs_ret false _
read_tries_pairs port r how (suc n) =
    taken_pairs port how.lock _
    (pairs_then how.lock _ _ _ (once_pairs how.lock port r how)
    (λ result. given_pairs port how.lock _ (judged_pairs r how.lock _ (read_tries_pairs port r how n) result)))

write_tries_pairs : (h : Bool) (port : Port) (r : Request) (how : How) (n : ℕ) (result : R Taken) → Pairs h (write_tries port r how n result) (λ _. h)
unfolding write_tries
write_tries_pairs h port r how zero result = pairs_ret h _
write_tries_pairs h port r how (suc n) before =
    pairs_then h _ _ _ (once_pairs h port r how) (λ result. pairs_pick h _ _ _ _ (write_tries_pairs h port r how n result) (pairs_ret h _))

pub writes_pairs : (port : Port) (r : Request) (how : How) → Pairs false (writes port r how) (λ _. false)
unfolding writes given_up
writes_pairs port r how =
    taken_pairs port how.lock _
    (pairs_then how.lock _ _ _ (write_tries_pairs how.lock port r how 2 _) (λ result. given_pairs port how.lock _ (pairs_ret false _)))

pub retried_pairs : (port : Port) (r : Request) (how : How) (n : ℕ) → Pairs false (retried port r how n) (λ _. false)
unfolding retried
retried_pairs port r how n = pairs_pick false _ _ _ _ (writes_pairs port r how) (read_tries_pairs port r how n)

with_bus_pairs : (port : Port) (device : ℕ) (f : Prog (R Taken)) → Pairs false f (λ _. false) → Pairs false (with_bus port device f) (λ _. false)
unfolding with_bus on_grant given_bus
with_bus_pairs port device f e =
    pairs_pick false _ _ _ _
    (pairs_try false _ _ (pairs_quiet false _ (change_quiet _))
    (λ _. pairs_try false _ _ (pairs_quiet false _ (granted_quiet 200))
    (λ got. pairs_then false _ _ _ (pairs_pick false got f _ _ e (pairs_ret false _))
    (λ result. pairs_try false _ _ (pairs_quiet false _ (change_quiet _)) (λ _. pairs_ret false _)))))
    e

pub handshaken_pairs : (port : Port) (r : Request) (f : Prog (R Taken)) → Pairs false f (λ _. false) → Pairs false (handshaken port r f) (λ _. false)
unfolding handshaken
handshaken_pairs port (ReadByte d o) f e = with_bus_pairs port d f e
handshaken_pairs port (WriteByte d o v) f e = with_bus_pairs port d f e
handshaken_pairs port (ReadCombined d reg) f e = e
handshaken_pairs port (WriteCombined d reg v) f e = e

pub transferred_pairs : (port : Port) (r : Request) (how : How) (n : ℕ) → Pairs false (transferred port r how n) (λ _. false)
unfolding transferred gives_value
transferred_pairs port r how n =
    pairs_then false _ _ _ (handshaken_pairs port r _ (retried_pairs port r how n)) (λ result. pairs_ret false _)

-- the rule, of every run
pub transfer_paired : (port : Port) (r : Request) (how : How) (n : ℕ) (l : List Answer) → Paired (transferred port r how n) l
transfer_paired port r how n l = pairs_paired _ l (transferred_pairs port r how n)

-- every acknowledgement in a run is in one of ten samples, and its result tells the greatest
pub transfer_heard : (port : Port) (r : Request) (how : How) (n : ℕ) (l : List Answer) → Heard (transferred port r how n) l
transfer_heard port r how n l = samples_heard _ l (pairs_samples false _ _ l (transferred_pairs port r how n))
