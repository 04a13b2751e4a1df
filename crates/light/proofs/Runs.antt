-- Whole calls: for every port and number of attempts that are accepted and every list of answers the library's run is that of
-- the definition, the count of the attempts in it beside the result. A state that was handed out is not refused at its next
-- step. Each successful acquire gets one release call, and the accesses show the attempts.
use Prim.Native.Nat.{ℕ, ◌≤◌, suc}
use mathlib.Core.Path.{◌≡◌, refl, ap, ◌∙◌}
use mathlib.Core.Bool.{Bool, true, false}
use mathlib.Core.List.{List}
use lib.Dec.{leb}
use lib.ListN.{length}
use Rattle.hardware.specs.declared.Access.{Access}
use Rattle.hardware.specs.declared.Answer.{Answer}
use Rattle.hardware.specs.declared.Meter.{Meter}
use Rattle.hardware.specs.declared.Port.{Port}
use Rattle.hardware.specs.Asked.{Asked, no, yes, and_then, question, open_port, fits, admitting}
use Rattle.hardware.specs.Prog.{Prog, R, blank, tally}
use Rattle.hardware.specs.Promise.{Keeps}
use Rattle.hardware.specs.Runs.{run, run_asked, Awaited, AwaitedIn, driven, ended, meter_in, counted, left_after, left_asked_after, Exchange, answers_of, AllKept, Asks, IfYes, Lasts, Heard}
use Rattle.hardware.proofs.Laws.{run_tally, StepsOn, is_true, opened_runs, samples_heard}
use Rattle.hardware.proofs.Ends.{run_ends, ask_ends, ends_tally}
use Rattle.hardware.proofs.Longest.{Falls, lasting_falls, Accepts, steps_few}
use Rattle.bus.specs.Layout.{layout_of}
use Rattle.transfer.specs.declared.attempt.Sequence.{Sequence}
use Rattle.i2c.specs.I2c.{locked}
use Rattle.i2c.specs.Paired.{Paired}
use Rattle.i2c.specs.Shown.{Shown}
use Rattle.i2c.proofs.Pairs.{pairs_paired, pairs_ret, pairs_then, pairs_samples}
use Rattle.i2c.proofs.Paired.{transferred_pairs}
use Rattle.i2c.proofs.Shown.{Showing, shows_ret, shows_then}
use Rattle.i2c.proofs.Shows.{shows_shown}
use Rattle.sfp.proofs.Spreads.{Keeping}
use Rattle.light.specs.declared.sensed.Measures.{Measures}
use Rattle.light.specs.declared.walk.Light.{Light}
use Rattle.light.specs.Light.{light, request_at}
use Rattle.light.specs.Walk.{rest_light}
use Rattle.light.specs.Calls.{open_on, open_light, step_light, said_light, stands_light, follows_light, light_run}
use Rattle.light.proofs.Ends.{LIGHT_STEPS, light_ends, light_after, light_rest_ends}
use Rattle.light.proofs.Spreads.{light_holds}
use Rattle.light.specs.Aliases.{LightTold}
use Rattle.hardware.specs.declared.Told.TheVariants.{Ask, End}
use Rattle.std.specs.Prelude.{Ok, Err, Some, None}

-- a long enough list of answers of the awaited kinds brings the call to its end
pub light_finishes : (q : Sequence) (port : Port) (tries : ℕ) (l : List Answer) → LIGHT_STEPS port.family tries ≤ length l → Awaited (light q port tries) l
    → (v : R Measures) × ((run (light q port tries) l).status ≡ ended v)
light_finishes q port tries l h w = run_ends (light q port tries) (LIGHT_STEPS port.family tries) l (light_ends q port tries) h w

-- an opening's questions and then the run
asked_runs : (o : Asked Port) (e : Bool) (p : Port → Prog (R Measures)) (l : List Answer)
    → run_asked (and_then o (λ port. question e 4 (yes (tally blank (p port))))) l
    ≡ and_then o (λ port. question e 4 (yes (counted (meter_in blank (p port) l) (run (p port) l))))
unfolding run_asked and_then question
asked_runs (no n) e p l = refl
asked_runs (yes port) false p l = refl
asked_runs (yes port) true p l = ap yes (run_tally blank (p port) l)

pub light_runs : (q : Sequence) (family device lan attempts : ℕ) (t : LightTold) → said_light t ≡ open_light q family device lan attempts → (l : List Answer)
    → run_asked (said_light t) l ≡ light_run q family device lan attempts l
unfolding open_light open_on
light_runs q family device lan attempts t e l =
    ap (λ x. run_asked x l) e ∙ asked_runs (open_port family device lan) (leb attempts 255) (λ port. light q port attempts) l

-- a state that was handed out, with any answer of the kind that its access awaits, is not refused
pub light_accepts : (x : Access) (port : Port) (q : Sequence) (tries : ℕ) (m : Meter) (s : Light) (a : Answer) → stands_light (Ok (Ask x (Some (port, q, tries, m, s)))) → fits x a ≡ true
    → step_light (Some (port, q, tries, m, s)) a ≡ yes (tally m (rest_light q port tries s a))
unfolding stands_light step_light admitting question
light_accepts x port q tries m s a h e = rw (h.1, ← h.0, e)

pub light_steps_on : StepsOn said_light follows_light stands_light
unfolding follows_light said_light stands_light AwaitedIn Awaited left_asked_after left_after IfYes Asks
light_steps_on (Ok (Ask y (Some (port, q, tries, m, s)))) u a h k w = (k.yields ∙ light_accepts y port q tries m s a h (is_true (fits y a) w.0), k.limits, tt)
light_steps_on (Ok (Ask y None)) u a h k w = absurd h
light_steps_on (Ok (End (r, m))) u a h k w = absurd k
light_steps_on (Err q) u a h k w = absurd k

-- its number falls at every accepted step
pub light_falls : Falls said_light follows_light stands_light
light_falls = lasting_falls said_light follows_light stands_light light_steps_on

-- from the opening on, driven by steps that keep their promises
pub light_driven : (q : Sequence) (family device lan attempts : ℕ) (t : LightTold) → Keeps (said_light t ≡ open_light q family device lan attempts) (stands_light t)
    → (ks : List (Exchange LightTold)) → AllKept follows_light t ks → AwaitedIn (open_light q family device lan attempts) (answers_of ks)
    → driven said_light t ks ≡ light_run q family device lan attempts (answers_of ks)
light_driven q family device lan attempts t k ks kept w =
    opened_runs said_light follows_light stands_light light_steps_on t ks k kept w ∙ light_runs q family device lan attempts t k.yields (answers_of ks)

-- from any state that passes question 10, whoever made it, the call takes at most so many steps more
pub light_lasts : (x : Access) (port : Port) (q : Sequence) (tries : ℕ) (m : Meter) (s : Light) (ks : List (Exchange LightTold)) → stands_light (Ok (Ask x (Some (port, q, tries, m, s))))
    → AllKept (Accepts said_light follows_light) (Ok (Ask x (Some (port, q, tries, m, s)))) ks
    → Lasts said_light (Ok (Ask x (Some (port, q, tries, m, s)))) ks (suc (light_after port.family tries s))
unfolding said_light IfYes
light_lasts x port q tries m s ks h k =
    steps_few said_light follows_light stands_light light_steps_on (Ok (Ask x (Some (port, q, tries, m, s)))) ks (suc (light_after port.family tries s)) h k
    (ask_ends x _ (light_after port.family tries s) (λ a. ends_tally m _ _ (light_rest_ends q port tries s a)))

light_pairs : (q : Sequence) (port : Port) (tries : ℕ) → Keeping (light q port tries)
light_pairs q port tries =
    light_holds Keeping (λ v. pairs_ret false v) q port tries
    (λ left k e. pairs_then false _ k _ (transferred_pairs port (request_at left) (locked q) tries) e)

-- each successful acquire gets one release call before the next acquire or the end, for every list of answers
pub light_paired : (q : Sequence) (port : Port) (tries : ℕ) (l : List Answer) → Paired (light q port tries) l
light_paired q port tries l = pairs_paired _ l (light_pairs q port tries)

-- every acknowledgement in a run is in one of ten samples, and its result tells the greatest
pub light_heard : (q : Sequence) (port : Port) (tries : ℕ) (l : List Answer) → Heard (light q port tries) l
light_heard q port tries l = samples_heard _ l (pairs_samples false _ _ l (light_pairs q port tries))

-- the accesses of a run show the attempts that it begins, for every list of answers
pub light_shown : (q : Sequence) (port : Port) (tries : ℕ) (l : List Answer) → Shown q (layout_of port.family) (light q port tries) l
light_shown q port tries l =
    shows_shown _ _ _ _ l (light_holds (Showing q port) (λ v. shows_ret q port v) q port tries (λ left k e. shows_then q port (request_at left) tries k e))
