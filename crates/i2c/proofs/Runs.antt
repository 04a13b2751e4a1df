-- Whole calls of the four transfers and of `qsfp_setup`: for every port, device and number of attempts that are accepted,
-- with lock or without, and every list of answers the library's run is the Rust's, the count of the attempts in it beside
-- the result, and every list of answers of the awaited kinds that is long enough brings it to its end. A state that was
-- handed out is not refused at its next step.
use Prim.Native.Nat.{ℕ, ◌≤◌, suc, ◌+◌}
use mathlib.Core.Path.{◌≡◌, refl, ap, ◌∙◌}
use mathlib.Core.Bool.{Bool, true, false}
use mathlib.Core.List.{List}
use lib.Dec.{leb}
use lib.ListN.{length}
use Rattle.hardware.specs.declared.Access.{Access}
use Rattle.hardware.specs.declared.Answer.{Answer}
use Rattle.hardware.specs.declared.Meter.{Meter}
use Rattle.hardware.specs.declared.Port.{Port}
use Rattle.hardware.specs.Asked.{Asked, no, yes, and_then, question, open_port, fits, admitting}
use Rattle.hardware.specs.Prog.{Prog, R, blank, tally, erase}
use Rattle.hardware.specs.Change.{change, rest_update}
use Rattle.hardware.specs.Runs.{run, run_asked, Awaited, ended, meter_in, counted_status, counted, AwaitedIn, left_after, left_asked_after, Exchange, answers_of, AllKept, driven, Asks, IfYes, Lasts}
use Rattle.hardware.proofs.Laws.{run_tally, is_true, StepsOn, opened_runs}
use Rattle.hardware.proofs.Longest.{Falls, lasting_falls, Accepts, steps_few}
use Rattle.hardware.proofs.Ends.{run_ends, ask_ends, ends_erase, update_after, update_rest_ends, ends_tally, ends_more, ends_bind, ret_ends}
use Rattle.i2c.specs.declared.How.{How}
use Rattle.i2c.specs.declared.once.Request.{Request}
use Rattle.i2c.specs.declared.handshake.Handshake.{Handshake}
use Rattle.i2c.specs.I2c.{transferred, setup_bus, gives_value}
use Rattle.i2c.specs.Calls.{tries_of, even_device, open_transfer, rest_call, step_transfer, said_transfer, stands_transfer, follows_transfer, step_setup, said_setup, stands_setup, follows_setup}
use Rattle.i2c.proofs.Laws.{upto}
use Rattle.i2c.proofs.Ends.{TRANSFER_STEPS, transferred_ends, MOST_STEPS, transfer_most, setup_ends, handshake_after, handshake_rest_ends}
use Rattle.hardware.specs.Promise.{Keeps}
use Rattle.hardware.specs.declared.Update.{Update}
use Rattle.hardware.proofs.Prog.{run_erase}
use native.Mathlib.Omega.{arith}
use Rattle.i2c.specs.Aliases.{SetupTold, TransferTold}
use Rattle.hardware.specs.declared.Told.TheVariants.{Ask, End}
use Rattle.std.specs.Prelude.{Ok, Err, Some, None}

-- an opening's questions and then the run
asked_runs : (o : Asked Port) (e f : Bool) (p : Port → Prog (R ℕ)) (l : List Answer)
    → run_asked (and_then o (λ port. question e 3 (question f 4 (yes (tally blank (p port)))))) l
    ≡ and_then o (λ port. question e 3 (question f 4 (yes (counted (meter_in blank (p port) l) (run (p port) l)))))
unfolding run_asked and_then question
asked_runs (no n) e f p l = refl
asked_runs (yes port) false f p l = refl
asked_runs (yes port) true false p l = refl
asked_runs (yes port) true true p l = ap yes (run_tally blank (p port) l)

-- the count beside the result is that of the attempts that the run begins
pub transfer_runs : (family device lan attempts : ℕ) (r : Request) (how : How) (t : TransferTold)
    → said_transfer t ≡ open_transfer family device lan r attempts how → (l : List Answer)
    → run_asked (said_transfer t) l
    ≡ and_then (open_port family device lan) (λ port.
    question (even_device r) 3 (question (leb attempts 255) 4
    (yes (counted (meter_in blank (transferred port r how (tries_of r attempts)) l) (run (transferred port r how (tries_of r attempts)) l)))))
unfolding open_transfer
transfer_runs family device lan attempts r how t e l =
    ap (λ x. run_asked x l) e
    ∙ asked_runs (open_port family device lan) (even_device r) (leb attempts 255) (λ port. transferred port r how (tries_of r attempts)) l

-- a long enough list of answers of the awaited kinds brings a call to its end
pub transfer_finishes : (port : Port) (r : Request) (how : How) (n : ℕ) (l : List Answer) → TRANSFER_STEPS port.family r how.lock n ≤ length l
    → Awaited (transferred port r how n) l → (v : R ℕ) × ((run (transferred port r how n) l).status ≡ ended v)
transfer_finishes port r how n l h w =
    run_ends (transferred port r how n) (TRANSFER_STEPS port.family r how.lock n) l (transferred_ends port r how n) h w

-- one number of answers for every call that is accepted
pub transfer_finishes_in : (port : Port) (r : Request) (how : How) (attempts : ℕ) (l : List Answer) → attempts ≤ 255 → MOST_STEPS ≤ length l
    → Awaited (transferred port r how (tries_of r attempts)) l
    → (v : R ℕ) × ((run (transferred port r how (tries_of r attempts)) l).status ≡ ended v)
transfer_finishes_in port r how attempts l a h w =
    transfer_finishes port r how (tries_of r attempts) l (upto (transfer_most port.family r how.lock attempts a) h) w

-- a call that has ended gives its result with the number of attempts that it began
pub transfer_ended : (port : Port) (r : Request) (how : How) (n : ℕ) (l : List Answer) (v : R ℕ) → (run (transferred port r how n) l).status ≡ ended v
    → (run (tally blank (transferred port r how n)) l).status ≡ ended (record { meter = meter_in blank (transferred port r how n) l; result = v })
unfolding counted_status
transfer_ended port r how n l v e =
    ap (λ x. x.status) (run_tally blank (transferred port r how n) l) ∙ ap (counted_status (meter_in blank (transferred port r how n) l)) e

pub setup_finishes : (l : List Answer) → 3 ≤ length l → Awaited (change setup_bus) l → (v : R (Unit {0})) × ((run (change setup_bus) l).status ≡ ended v)
setup_finishes l h w = run_ends (change setup_bus) 3 l setup_ends h w

-- a state that was handed out, with any answer of the kind that its access awaits, is not refused
pub transfer_accepts : (x : Access) (port : Port) (r : Request) (how : How) (m : Meter) (s : Handshake) (a : Answer) → stands_transfer (Ok (Ask x (Some (port, r, how, m, s))))
    → fits x a ≡ true → step_transfer (Some (port, r, how, m, s)) a ≡ yes (tally m (rest_call port r how s a))
unfolding stands_transfer step_transfer admitting question
transfer_accepts x port r how m s a h e = rw (h.1, ← h.0, e)

pub transfer_steps_on : StepsOn said_transfer follows_transfer stands_transfer
unfolding follows_transfer said_transfer stands_transfer AwaitedIn Awaited left_asked_after left_after IfYes Asks
transfer_steps_on (Ok (Ask y (Some (port, r, how, m, s)))) u a h k w = (k.yields ∙ transfer_accepts y port r how m s a h (is_true (fits y a) w.0), k.limits, tt)
transfer_steps_on (Ok (Ask y None)) u a h k w = absurd h
transfer_steps_on (Ok (End (v, m))) u a h k w = absurd k
transfer_steps_on (Err q) u a h k w = absurd k

-- its number falls at every accepted step
pub transfer_falls : Falls said_transfer follows_transfer stands_transfer
transfer_falls = lasting_falls said_transfer follows_transfer stands_transfer transfer_steps_on

-- from the opening on, driven by steps that keep their promises
pub transfer_driven : (family device lan attempts : ℕ) (r : Request) (how : How) (t : TransferTold) → Keeps (said_transfer t ≡ open_transfer family device lan r attempts how) (stands_transfer t) → (ks : List (Exchange TransferTold)) → AllKept follows_transfer t ks
    → AwaitedIn (open_transfer family device lan r attempts how) (answers_of ks) → driven said_transfer t ks ≡ and_then (open_port family device lan) (λ port.
    question (even_device r) 3 (question (leb attempts 255) 4
    (yes (counted (meter_in blank (transferred port r how (tries_of r attempts)) (answers_of ks)) (run (transferred port r how (tries_of r attempts)) (answers_of ks))))))
transfer_driven family device lan attempts r how t k ks kept w = opened_runs said_transfer follows_transfer stands_transfer transfer_steps_on t ks k kept w ∙ transfer_runs family device lan attempts r how t k.yields (answers_of ks)

pub setup_accepts : (x : Access) (s : Update) (a : Answer) → stands_setup (Ok (Ask x (Some s))) → fits x a ≡ true
    → step_setup (Some s) a ≡ yes (erase (rest_update setup_bus s a))
unfolding stands_setup step_setup admitting question
setup_accepts x s a h e = rw (← h, e)

pub setup_steps_on : StepsOn said_setup follows_setup stands_setup
unfolding follows_setup said_setup stands_setup AwaitedIn Awaited left_asked_after left_after IfYes Asks
setup_steps_on (Ok (Ask y (Some s))) u a h k w = (k.yields ∙ setup_accepts y s a h (is_true (fits y a) w.0), k.limits, tt)
setup_steps_on (Ok (Ask y None)) u a h k w = absurd h
setup_steps_on (Ok (End o)) u a h k w = absurd k
setup_steps_on (Err q) u a h k w = absurd k

pub setup_falls : Falls said_setup follows_setup stands_setup
setup_falls = lasting_falls said_setup follows_setup stands_setup setup_steps_on

pub setup_runs : (t : SetupTold) → said_setup t ≡ yes (erase (change setup_bus)) → (l : List Answer) → run_asked (said_setup t) l ≡ yes (run (change setup_bus) l)
unfolding run_asked
setup_runs t e l = ap (λ x. run_asked x l) e ∙ ap (λ f. yes (f l)) (run_erase (change setup_bus))

pub setup_driven : (t : SetupTold) → Keeps (said_setup t ≡ yes (erase (change setup_bus))) (stands_setup t) → (ks : List (Exchange SetupTold)) → AllKept follows_setup t ks
    → AwaitedIn (yes (erase (change setup_bus))) (answers_of ks) → driven said_setup t ks ≡ yes (run (change setup_bus) (answers_of ks))
setup_driven t k ks kept w = opened_runs said_setup follows_setup stands_setup setup_steps_on t ks k kept w ∙ setup_runs t k.yields (answers_of ks)

-- from any state, whoever made it, the call takes at most so many steps more
pub setup_lasts : (x : Access) (s : Update) (ks : List (Exchange SetupTold)) → stands_setup (Ok (Ask x (Some s))) → AllKept (Accepts said_setup follows_setup) (Ok (Ask x (Some s))) ks → Lasts said_setup (Ok (Ask x (Some s))) ks (suc (update_after s))
unfolding said_setup IfYes
setup_lasts x s ks h k =
    steps_few said_setup follows_setup stands_setup setup_steps_on (Ok (Ask x (Some s))) ks (suc (update_after s)) h k (ask_ends x _ (update_after s) (λ a. ends_erase _ _ (update_rest_ends setup_bus s a)))

pub transfer_lasts : (x : Access) (port : Port) (r : Request) (how : How) (m : Meter) (s : Handshake) (ks : List (Exchange TransferTold)) → stands_transfer (Ok (Ask x (Some (port, r, how, m, s))))
    → AllKept (Accepts said_transfer follows_transfer) (Ok (Ask x (Some (port, r, how, m, s)))) ks → Lasts said_transfer (Ok (Ask x (Some (port, r, how, m, s)))) ks (suc (handshake_after port.family r how.lock s))
unfolding said_transfer rest_call gives_value IfYes
transfer_lasts x port r how m s ks h k =
    steps_few said_transfer follows_transfer stands_transfer transfer_steps_on (Ok (Ask x (Some (port, r, how, m, s)))) ks (suc (handshake_after port.family r how.lock s)) h k
    (ask_ends x _ (handshake_after port.family r how.lock s)
    (λ a. ends_tally m _ _ (ends_more _ (handshake_after port.family r how.lock s + 0) (handshake_after port.family r how.lock s)
    (ends_bind _ _ (handshake_after port.family r how.lock s) 0 (handshake_rest_ends port r how s a) (λ v. ret_ends _ 0)) (omega arith))))
