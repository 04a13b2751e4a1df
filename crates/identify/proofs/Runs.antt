-- Whole calls of `identify` and `identify_qsfp`: for every port that is accepted and every list of answers the library's
-- run is the Rust's, the count of the attempts in it beside the result. A state that was handed out is not refused at its
-- next step. Each successful acquire gets one release call, and the accesses show the attempts.
use Prim.Native.Nat.{ℕ, ◌≤◌, suc}
use mathlib.Core.Path.{◌≡◌, ap, ◌∙◌}
use mathlib.Core.Bool.{true, false}
use mathlib.Core.List.{List}
use lib.ListN.{length}
use Rattle.hardware.specs.declared.Access.{Access}
use Rattle.hardware.specs.declared.Answer.{Answer}
use Rattle.hardware.specs.declared.Meter.{Meter}
use Rattle.hardware.specs.declared.Port.{Port}
use Rattle.hardware.specs.Asked.{yes, and_then, question, open_port, fits, admitting}
use Rattle.hardware.specs.Prog.{R, blank, tally}
use Rattle.hardware.specs.Runs.{run, run_asked, Awaited, AwaitedIn, driven, ended, meter_in, counted, left_after, left_asked_after, Exchange, answers_of, AllKept, Asks, IfYes, Lasts, Heard}
use Rattle.hardware.proofs.Laws.{asked_runs, StepsOn, is_true, opened_runs, samples_heard}
use Rattle.hardware.proofs.Longest.{Falls, lasting_falls, Accepts, steps_few}
use Rattle.hardware.proofs.Ends.{run_ends, ask_ends, ends_tally}
use Rattle.bus.specs.Layout.{layout_of}
use Rattle.transfer.specs.declared.attempt.Sequence.{Sequence}
use Rattle.i2c.specs.Paired.{Paired}
use Rattle.i2c.specs.Shown.{Shown}
use Rattle.i2c.proofs.Shows.{shows_shown}
use Rattle.i2c.proofs.Shown.{Showing}
use Rattle.i2c.proofs.Pairs.{pairs_paired, pairs_samples}
use Rattle.sfp.specs.declared.Identity.{Identity}
use Rattle.sfp.specs.Identify.{identify}
use Rattle.sfp.specs.Qsfp.{identify_qsfp}
use Rattle.sfp.specs.Steps.{IDENTIFY_STEPS}
use Rattle.sfp.proofs.Ends.{identify_ends, QSFP_STEPS, qsfp_ends}
use Rattle.identify.specs.declared.walk.Identify.{Identify}
use Rattle.identify.specs.Walk.{rest_identify}
use Rattle.identify.specs.Calls.{open_identify, open_qsfp, step_identify, said_identify, stands_identify, follows_identify}
use Rattle.hardware.specs.Promise.{Keeps}
use Rattle.sfp.proofs.Spreads.{Keeping, pairs_spreads, shows_spreads, identify_holds, qsfp_holds}
use Rattle.identify.proofs.Ends.{identify_after, identify_rest_ends}
use Rattle.identify.specs.Aliases.{IdentifyTold}
use Rattle.hardware.specs.declared.Told.TheVariants.{Ask, End}
use Rattle.std.specs.Prelude.{Ok, Err, Some, None}

pub identify_runs : (q : Sequence) (family device lan : ℕ) (t : IdentifyTold) → said_identify t ≡ open_identify q family device lan → (l : List Answer)
    → run_asked (said_identify t) l ≡ and_then (open_port family device lan) (λ port. yes (counted (meter_in blank (identify q port) l) (run (identify q port) l)))
unfolding open_identify
identify_runs q family device lan t e l = ap (λ x. run_asked x l) e ∙ asked_runs (open_port family device lan) (identify q) l

pub qsfp_runs : (q : Sequence) (family device lan : ℕ) (t : IdentifyTold) → said_identify t ≡ open_qsfp q family device lan → (l : List Answer)
    → run_asked (said_identify t) l ≡ and_then (open_port family device lan) (λ port. yes (counted (meter_in blank (identify_qsfp q port) l) (run (identify_qsfp q port) l)))
unfolding open_qsfp
qsfp_runs q family device lan t e l = ap (λ x. run_asked x l) e ∙ asked_runs (open_port family device lan) (identify_qsfp q) l

-- a long enough list of answers of the awaited kinds brings the call to its end
pub identify_finishes : (q : Sequence) (port : Port) (l : List Answer) → IDENTIFY_STEPS port.family ≤ length l → Awaited (identify q port) l
    → (v : R Identity) × ((run (identify q port) l).status ≡ ended v)
identify_finishes q port l h w = run_ends (identify q port) (IDENTIFY_STEPS port.family) l (identify_ends q port) h w

pub qsfp_finishes : (q : Sequence) (port : Port) (l : List Answer) → QSFP_STEPS port.family ≤ length l → Awaited (identify_qsfp q port) l
    → (v : R Identity) × ((run (identify_qsfp q port) l).status ≡ ended v)
qsfp_finishes q port l h w = run_ends (identify_qsfp q port) (QSFP_STEPS port.family) l (qsfp_ends q port) h w

-- a state that was handed out, with any answer of the kind that its access awaits, is not refused
pub identify_accepts : (x : Access) (port : Port) (q : Sequence) (m : Meter) (s : Identify) (a : Answer) → stands_identify (Ok (Ask x (Some (port, q, m, s)))) → fits x a ≡ true
    → step_identify (Some (port, q, m, s)) a ≡ yes (tally m (rest_identify q port s a))
unfolding stands_identify step_identify admitting question
identify_accepts x port q m s a h e = rw (h.1, ← h.0, e)

pub identify_steps_on : StepsOn said_identify follows_identify stands_identify
unfolding follows_identify said_identify stands_identify AwaitedIn Awaited left_asked_after left_after IfYes Asks
identify_steps_on (Ok (Ask y (Some (port, q, m, s)))) u a h k w = (k.yields ∙ identify_accepts y port q m s a h (is_true (fits y a) w.0), k.limits, tt)
identify_steps_on (Ok (Ask y None)) u a h k w = absurd h
identify_steps_on (Ok (End (f, m))) u a h k w = absurd k
identify_steps_on (Err q) u a h k w = absurd k

-- its number falls at every accepted step
pub identify_falls : Falls said_identify follows_identify stands_identify
identify_falls = lasting_falls said_identify follows_identify stands_identify identify_steps_on

-- from the opening on, driven by steps that keep their promises
pub identify_driven : (q : Sequence) (family device lan : ℕ) (t : IdentifyTold) → Keeps (said_identify t ≡ open_identify q family device lan) (stands_identify t) → (ks : List (Exchange IdentifyTold)) → AllKept follows_identify t ks
    → AwaitedIn (open_identify q family device lan) (answers_of ks) → driven said_identify t ks ≡ and_then (open_port family device lan) (λ port. yes (counted (meter_in blank (identify q port) (answers_of ks)) (run (identify q port) (answers_of ks))))
identify_driven q family device lan t k ks kept w = opened_runs said_identify follows_identify stands_identify identify_steps_on t ks k kept w ∙ identify_runs q family device lan t k.yields (answers_of ks)

pub qsfp_driven : (q : Sequence) (family device lan : ℕ) (t : IdentifyTold) → Keeps (said_identify t ≡ open_qsfp q family device lan) (stands_identify t) → (ks : List (Exchange IdentifyTold)) → AllKept follows_identify t ks
    → AwaitedIn (open_qsfp q family device lan) (answers_of ks) → driven said_identify t ks ≡ and_then (open_port family device lan) (λ port. yes (counted (meter_in blank (identify_qsfp q port) (answers_of ks)) (run (identify_qsfp q port) (answers_of ks))))
qsfp_driven q family device lan t k ks kept w = opened_runs said_identify follows_identify stands_identify identify_steps_on t ks k kept w ∙ qsfp_runs q family device lan t k.yields (answers_of ks)

-- each successful acquire gets one release call before the next acquire or the end, for every list of answers
pub identify_paired : (q : Sequence) (port : Port) (l : List Answer) → Paired (identify q port) l
identify_paired q port l = pairs_paired _ l (identify_holds q port Keeping (pairs_spreads q port))

pub qsfp_paired : (q : Sequence) (port : Port) (l : List Answer) → Paired (identify_qsfp q port) l
qsfp_paired q port l = pairs_paired _ l (qsfp_holds q port Keeping (pairs_spreads q port))

-- every acknowledgement in a run is in one of ten samples, and its result tells the greatest
pub identify_heard : (q : Sequence) (port : Port) (l : List Answer) → Heard (identify q port) l
identify_heard q port l = samples_heard _ l (pairs_samples false _ _ l (identify_holds q port Keeping (pairs_spreads q port)))

pub qsfp_heard : (q : Sequence) (port : Port) (l : List Answer) → Heard (identify_qsfp q port) l
qsfp_heard q port l = samples_heard _ l (pairs_samples false _ _ l (qsfp_holds q port Keeping (pairs_spreads q port)))

-- the accesses of a run show the attempts that it begins, for every list of answers
pub identify_shown : (q : Sequence) (port : Port) (l : List Answer) → Shown q (layout_of port.family) (identify q port) l
identify_shown q port l = shows_shown _ _ _ _ l (identify_holds q port (Showing q port) (shows_spreads q port))

pub qsfp_shown : (q : Sequence) (port : Port) (l : List Answer) → Shown q (layout_of port.family) (identify_qsfp q port) l
qsfp_shown q port l = shows_shown _ _ _ _ l (qsfp_holds q port (Showing q port) (shows_spreads q port))

-- from any state that passes question 10, whoever made it, the call takes at most so many steps more
pub identify_lasts : (x : Access) (port : Port) (q : Sequence) (m : Meter) (s : Identify) (ks : List (Exchange IdentifyTold)) → stands_identify (Ok (Ask x (Some (port, q, m, s))))
    → AllKept (Accepts said_identify follows_identify) (Ok (Ask x (Some (port, q, m, s)))) ks → Lasts said_identify (Ok (Ask x (Some (port, q, m, s)))) ks (suc (identify_after port.family s))
unfolding said_identify IfYes
identify_lasts x port q m s ks h k =
    steps_few said_identify follows_identify stands_identify identify_steps_on (Ok (Ask x (Some (port, q, m, s)))) ks (suc (identify_after port.family s)) h k
    (ask_ends x _ (identify_after port.family s) (λ a. ends_tally m _ _ (identify_rest_ends q port s a)))
