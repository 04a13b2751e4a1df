-- Whole calls of `soft_rate_select`: for every port that is accepted and every list of answers the library's run is the
-- Rust's, the count of the attempts in it beside the result. A state that was handed out is not refused at its next step.
-- Each successful acquire gets one release call, and the accesses show the attempts.
use Prim.Native.Nat.{ℕ, ◌≤◌, ◌+◌, suc}
use mathlib.Core.Path.{◌≡◌, ap, ◌∙◌}
use mathlib.Core.Bool.{Bool, true, false}
use mathlib.Core.List.{List}
use lib.ListN.{length}
use Rattle.hardware.specs.declared.Access.{Access}
use Rattle.hardware.specs.declared.Answer.{Answer}
use Rattle.hardware.specs.declared.Meter.{Meter}
use Rattle.hardware.specs.declared.Port.{Port}
use Rattle.hardware.specs.Asked.{yes, and_then, question, open_port, fits, admitting}
use Rattle.hardware.specs.Prog.{Prog, R, Ok, Err, blank, tally}
use Rattle.hardware.specs.Runs.{run, run_asked, Awaited, AwaitedIn, driven, ended, meter_in, counted, left_after, left_asked_after, Exchange, answers_of, AllKept, Asks, IfYes, Ends, Lasts, Heard}
use Rattle.hardware.proofs.Laws.{asked_runs, StepsOn, is_true, opened_runs, samples_heard}
use Rattle.hardware.proofs.Longest.{Falls, lasting_falls, Accepts, steps_few}
use Rattle.hardware.proofs.Ends.{run_ends, ask_ends, ends_tally, ends_more, ends_bind, ret_ends}
use Rattle.i2c.specs.declared.once.Request.TheVariants.{ReadByte, WriteByte}
use Rattle.i2c.specs.I2c.{locked, attempts}
use Rattle.transfer.specs.declared.attempt.Sequence.{Sequence}
use Rattle.bus.specs.Layout.{layout_of}
use Rattle.i2c.specs.Paired.{Paired}
use Rattle.i2c.specs.Shown.{Shown}
use Rattle.i2c.proofs.Shows.{shows_either, shows_shown}
use Rattle.i2c.proofs.Shown.{Showing, shows_ret, shows_then}
use Rattle.i2c.proofs.Pairs.{Pairs, pairs_then, pairs_pick, pairs_ret, pairs_paired, pairs_samples}
use Rattle.i2c.proofs.Paired.{transferred_pairs}
use Rattle.sfp.specs.Rate.{DIAG, or_not, selected, rate_byte, soft_rate_select}
use Rattle.sfp.proofs.Ends.{RATE_STEPS, rate_ends, BYTE_STEPS, WRITTEN_STEPS, not_ends, rate_byte_ends}
use Rattle.softrate.specs.declared.walk.Rate.{Rate}
use Rattle.softrate.specs.Walk.{rest_rate}
use Rattle.softrate.specs.Calls.{open_rate, step_rate, said_rate, stands_rate, follows_rate}
use Rattle.hardware.specs.Promise.{Keeps}
use native.Mathlib.Omega.{arith}
use Rattle.hardware.specs.declared.Family.{Family}
use Rattle.i2c.proofs.Ends.{transferred_ends, handshake_after, request_rest_ends}
use Rattle.softrate.specs.declared.spot.Place.{Place}
use Rattle.softrate.specs.declared.spot.Place.TheVariants.{Reading, Writing}
use Rattle.softrate.specs.Spot.{request_at, next_byte, on_place, on_at}
use Rattle.softrate.specs.Aliases.{RateTold}
use Rattle.hardware.specs.declared.Told.TheVariants.{Ask, End}
use Rattle.std.specs.Prelude.{Some, None}

pub rate_runs : (q : Sequence) (family device lan : ℕ) (ten : Bool) (t : RateTold) → said_rate t ≡ open_rate q family device lan ten → (l : List Answer)
    → run_asked (said_rate t) l ≡ and_then (open_port family device lan) (λ port. yes (counted (meter_in blank (soft_rate_select q port ten) l) (run (soft_rate_select q port ten) l)))
unfolding open_rate
rate_runs q family device lan ten t e l = ap (λ x. run_asked x l) e ∙ asked_runs (open_port family device lan) (λ port. soft_rate_select q port ten) l

-- a long enough list of answers of the awaited kinds brings the call to its end
pub rate_finishes : (q : Sequence) (port : Port) (ten : Bool) (l : List Answer) → RATE_STEPS port.family ≤ length l → Awaited (soft_rate_select q port ten) l
    → (v : R Bool) × ((run (soft_rate_select q port ten) l).status ≡ ended v)
rate_finishes q port ten l h w = run_ends (soft_rate_select q port ten) (RATE_STEPS port.family) l (rate_ends q port ten) h w

-- a state that was handed out, with any answer of the kind that its access awaits, is not refused
pub rate_accepts : (x : Access) (port : Port) (q : Sequence) (ten : Bool) (m : Meter) (s : Rate) (a : Answer) → stands_rate (Ok (Ask x (Some (port, q, ten, m, s)))) → fits x a ≡ true
    → step_rate (Some (port, q, ten, m, s)) a ≡ yes (tally m (rest_rate q port ten s a))
unfolding stands_rate step_rate admitting question
rate_accepts x port q ten m s a h e = rw (h.1, ← h.0, e)

pub rate_steps_on : StepsOn said_rate follows_rate stands_rate
unfolding follows_rate said_rate stands_rate AwaitedIn Awaited left_asked_after left_after IfYes Asks
rate_steps_on (Ok (Ask y (Some (port, q, ten, m, s)))) u a h k w = (k.yields ∙ rate_accepts y port q ten m s a h (is_true (fits y a) w.0), k.limits, tt)
rate_steps_on (Ok (Ask y None)) u a h k w = absurd h
rate_steps_on (Ok (End (f, m))) u a h k w = absurd k
rate_steps_on (Err q) u a h k w = absurd k

-- its number falls at every accepted step
pub rate_falls : Falls said_rate follows_rate stands_rate
rate_falls = lasting_falls said_rate follows_rate stands_rate rate_steps_on

-- from the opening on, driven by steps that keep their promises
pub rate_driven : (q : Sequence) (family device lan : ℕ) (ten : Bool) (t : RateTold) → Keeps (said_rate t ≡ open_rate q family device lan ten) (stands_rate t) → (ks : List (Exchange RateTold)) → AllKept follows_rate t ks
    → AwaitedIn (open_rate q family device lan ten) (answers_of ks) → driven said_rate t ks ≡ and_then (open_port family device lan) (λ port. yes (counted (meter_in blank (soft_rate_select q port ten) (answers_of ks)) (run (soft_rate_select q port ten) (answers_of ks))))
rate_driven q family device lan ten t k ks kept w = opened_runs said_rate follows_rate stands_rate rate_steps_on t ks k kept w ∙ rate_runs q family device lan ten t k.yields (answers_of ks)

not_pairs : (k : Bool → Prog (R Bool)) (f : ℕ → Prog (R Bool)) → ((b : Bool) → Pairs false (k b) (λ _. false)) → ((v : ℕ) → Pairs false (f v) (λ _. false))
    → (r : R ℕ) → Pairs false (or_not k f r) (λ _. false)
unfolding or_not
not_pairs k f e g (Ok v) = g v
not_pairs k f e g (Err error) = pairs_pick false _ _ _ _ (e false) (pairs_ret false _)

rate_byte_pairs : (q : Sequence) (port : Port) (ten ok : Bool) (offset : ℕ) (k : Bool → Prog (R Bool)) → ((b : Bool) → Pairs false (k b) (λ _. false))
    → Pairs false (rate_byte q port ten ok offset k) (λ _. false)
unfolding rate_byte
rate_byte_pairs q port ten ok offset k e =
    pairs_then false _ _ _ (transferred_pairs port (ReadByte DIAG offset) (locked q) (attempts port)) (not_pairs k _ e (λ v.
    pairs_then false _ _ _ (transferred_pairs port (WriteByte DIAG offset (selected ten v)) (locked q) 2) (not_pairs k _ e (λ _. e ok))))

rate_pairs : (q : Sequence) (port : Port) (ten : Bool) → Pairs false (soft_rate_select q port ten) (λ _. false)
unfolding soft_rate_select
rate_pairs q port ten = rate_byte_pairs q port ten true 0x6e _ (λ ok. rate_byte_pairs q port ten ok 0x76 _ (λ both. pairs_ret false _))

-- each successful acquire gets one release call before the next acquire or the end, for every list of answers
pub rate_paired : (q : Sequence) (port : Port) (ten : Bool) (l : List Answer) → Paired (soft_rate_select q port ten) l
rate_paired q port ten l = pairs_paired _ l (rate_pairs q port ten)

-- every acknowledgement in a run is in one of ten samples, and its result tells the greatest
pub rate_heard : (q : Sequence) (port : Port) (ten : Bool) (l : List Answer) → Heard (soft_rate_select q port ten) l
rate_heard q port ten l = samples_heard _ l (pairs_samples false _ _ l (rate_pairs q port ten))

not_shows : (q : Sequence) (port : Port) (k : Bool → Prog (R Bool)) (f : ℕ → Prog (R Bool)) → ((b : Bool) → Showing q port (k b)) → ((v : ℕ) → Showing q port (f v))
    → (r : R ℕ) → Showing q port (or_not k f r)
unfolding or_not
not_shows q port k f e g (Ok v) = g v
not_shows q port k f e g (Err error) = shows_either _ _ _ _ _ _ _ (λ _. e false) (λ _. shows_ret q port _)

rate_byte_shows : (q : Sequence) (port : Port) (ten ok : Bool) (offset : ℕ) (k : Bool → Prog (R Bool)) → ((b : Bool) → Showing q port (k b))
    → Showing q port (rate_byte q port ten ok offset k)
unfolding rate_byte
rate_byte_shows q port ten ok offset k e =
    shows_then q port (ReadByte DIAG offset) _ _ (not_shows q port k _ e (λ v.
    shows_then q port (WriteByte DIAG offset (selected ten v)) 2 _ (not_shows q port k _ e (λ _. e ok))))

-- the accesses of a run show the attempts that it begins, for every list of answers
pub rate_shown : (q : Sequence) (port : Port) (ten : Bool) (l : List Answer) → Shown q (layout_of port.family) (soft_rate_select q port ten) l
unfolding soft_rate_select
rate_shown q port ten l =
    shows_shown _ _ _ _ l (rate_byte_shows q port ten true 0x6e _ (λ ok. rate_byte_shows q port ten ok 0x76 _ (λ both. shows_ret q port _)))

-- the answers that may still be needed behind a byte, behind a request, and after the answer that is awaited
abbrev pub next_after : Family → Bool → ℕ
next_after f false = BYTE_STEPS f + WRITTEN_STEPS f
next_after f true = 0

abbrev pub place_after : Family → Bool → Place → ℕ
place_after f second Reading = WRITTEN_STEPS f + next_after f second
place_after f second (Writing v) = next_after f second

abbrev pub rate_after : Family → Bool → Rate → ℕ
rate_after f ten s = handshake_after f (request_at ten s.spot) true s.request + place_after f s.spot.second s.spot.place

module _ (q : Sequence) (port : Port) (ten : Bool) where
  next_ends : (second ok : Bool) → Ends (next_byte q port ten second ok) (next_after port.family second)
  unfolding next_byte
  next_ends false ok = ends_more _ _ _ (rate_byte_ends q port ten ok 0x76 _ 0 (λ both. ret_ends _ 0)) (omega arith)
  next_ends true ok = ret_ends _ 0

  place_ends : (second ok : Bool) (p : Place) (v : ℕ) → Ends (on_place q port ten second ok p v) (place_after port.family second p)
  unfolding on_place
  place_ends second ok Reading v =
      ends_bind _ _ (WRITTEN_STEPS port.family) _ (transferred_ends port _ (locked q) 2) (not_ends q port _ _ _ (next_ends second) (λ _. next_ends second ok))
  place_ends second ok (Writing w) v = next_ends second ok

  next_within : (second : Bool) (p : Place) → next_after port.family second ≤ place_after port.family second p
  next_within second Reading = omega arith
  next_within second (Writing v) = omega arith

  pub rate_rest_ends : (s : Rate) (a : Answer) → Ends (rest_rate q port ten s a) (rate_after port.family ten s)
  unfolding rest_rate on_at
  rate_rest_ends s a =
      request_rest_ends port (request_at ten s.spot) (locked q) _ (place_after port.family s.spot.second s.spot.place)
      (not_ends q port _ _ _ (λ b. ends_more _ _ _ (next_ends s.spot.second b) (next_within s.spot.second s.spot.place)) (place_ends s.spot.second s.spot.ok s.spot.place))
      s.request a

-- from any state that passes question 10, whoever made it, the call takes at most so many steps more
pub rate_lasts : (x : Access) (port : Port) (q : Sequence) (ten : Bool) (m : Meter) (s : Rate) (ks : List (Exchange RateTold)) → stands_rate (Ok (Ask x (Some (port, q, ten, m, s))))
    → AllKept (Accepts said_rate follows_rate) (Ok (Ask x (Some (port, q, ten, m, s)))) ks → Lasts said_rate (Ok (Ask x (Some (port, q, ten, m, s)))) ks (suc (rate_after port.family ten s))
unfolding said_rate IfYes
rate_lasts x port q ten m s ks h k =
    steps_few said_rate follows_rate stands_rate rate_steps_on (Ok (Ask x (Some (port, q, ten, m, s)))) ks (suc (rate_after port.family ten s)) h k
    (ask_ends x _ (rate_after port.family ten s) (λ a. ends_tally m _ _ (rate_rest_ends q port ten s a)))
