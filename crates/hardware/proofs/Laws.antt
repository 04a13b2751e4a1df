-- Laws of the register programs that the proofs cite.
use Prim.Native.Nat.{ℕ, ◌+◌, ◌-◌, ◌<◌, ◌≤◌, suc, zero, max}
use mathlib.Core.Path.{◌≡◌, refl, ap, sym, ◌∙◌, subst}
use mathlib.Core.Bool.{Bool, true, false}
use mathlib.Core.List.{List, [], ◌∷◌}
use lib.Dec.{T, leb, ltb}
use lib.ListN.{get_or}
use Rattle.std.specs.Prelude.{Result, Ok, Err}
use native.Mathlib.Nat.{add-zero, zero-add, zero-max, max-zero, max-le, le-max_left, le-max_right}
use native.Mathlib.Numerals.{sub-one}
use native.Mathlib.Omega.{arith}
use borrow.Author.Tests.{leb-true, le-leb, ltb-true}
use Rattle.hardware.specs.Prog.{Note, Attempt, Acquires, Acquired, Released, Lapsed, Acknowledged, Prog, ret, ask, note, give, erase, ◌>>=◌, pick, attempts_after, slowest_after, metered, Counted, blank, tally}
use Rattle.hardware.specs.Asked.{Asked, no, yes, and_then, question, open_family, open_lan, open_port, opened, valid_port, fits, admitting, Admits, InType}
use Rattle.hardware.specs.Runs.{run, on_answer, run_asked, given, answered, transfers_in, sampled, samples_in, greatest_of, Samples, Heard, Status, ended, waiting, meter_in, counted_status, counted, Awaited, AwaitedIn, left_after, left_asked_after, Exchange, answers_of, AllKept, led, driven, Refuses, Asks, IfYes}
use Rattle.hardware.specs.declared.Access.{Access}
use Rattle.hardware.specs.declared.Answer.{Answer}
use Rattle.hardware.specs.declared.Family.{Family}
use Rattle.hardware.specs.declared.Marks.{Marks}
use Rattle.hardware.specs.declared.Meter.{Meter}
use Rattle.hardware.specs.declared.Port.{Port}
use Rattle.hardware.specs.declared.Refusal.{Refusal}
use Rattle.hardware.specs.Numbers.{refusal_number}
use Rattle.hardware.specs.Marks.{meter_on, valid_held}
use Rattle.hardware.specs.Poll.{poll, poll_next, access_poll, rest_poll}
use Rattle.hardware.specs.declared.poll.Watch.{Watch}
use Rattle.hardware.specs.declared.poll.Poll.TheVariants.{Reading}
use Rattle.hardware.specs.declared.Next.TheVariants.{Going}
use Rattle.hardware.specs.Promise.{Keeps}
use Rattle.hardware.proofs.Prog.{run_erase}

-- with a read left, a poll begins by reading the register
pub poll_more : (w : Watch) (tries last : ℕ) → (tries ≡ 0 → ⊥) → poll_next w (Going (Reading (tries - 1))) ≡ erase (poll w tries last)
unfolding poll erase ◌>>=◌ poll_next access_poll rest_poll
poll_more w zero last h = absurd (h refl)
poll_more w (suc n) last h = ap (λ m. poll_next w (Going (Reading m))) (sub-one (suc n))

-- past the first of one value there is none
pub one_value : (which v : ℕ) → (which ≡ 0 → ⊥) → 0 ≡ get_or (v ∷ []) which 0
one_value zero v h = absurd (h refl)
one_value (suc n) v h = refl

-- two values agree with the first alone but at place 1
pub two_values : (which v w : ℕ) → (which ≡ 1 → ⊥) → get_or (v ∷ []) which 0 ≡ get_or (v ∷ w ∷ []) which 0
two_values zero v w h = refl
two_values (suc zero) v w h = absurd (h refl)
two_values (suc (suc n)) v w h = refl

-- an opening whose call is the Rust's has the Rust's runs
pub runs_open : {A B : Type 0} (o : Asked A) (p : A → Prog B) (l : List Answer)
    → run_asked (and_then o (λ a. yes (erase (p a)))) l ≡ and_then o (λ a. yes (run (p a) l))
unfolding run_asked and_then
runs_open (no n) p l = refl
runs_open (yes a) p l = ap (λ r. yes (r l)) (run_erase (p a))

-- a counter within its limit is below it once it has gone down by one
pub one_less : (n limit : ℕ) → (n ≡ 0 → ⊥) → n ≤ limit → n - 1 < limit
one_less n limit h l = omega arith

pub below : (n limit : ℕ) → ltb n limit ≡ true → n ≤ limit
below n limit h = omega (arith, ltb-true n limit h)

-- two questions in one are both a yes
pub both_true : (a b : Bool) → pick a b false ≡ true → (a ≡ true) × (b ≡ true)
unfolding pick
both_true true b h = (refl, h)
both_true false b h = (h, cc)

-- a step that is admitted goes on, and one that is refused does so whatever would follow
pub admits_yes : {A : Type 0} {r : Result (Unit {0}) Refusal} (valid : Bool) (x : Access) (a : Answer) (k : Asked A) → r ≡ Ok tt → Admits valid x a r → admitting valid x a k ≡ k
unfolding Admits admitting question
admits_yes valid x a k e h = let g : (valid ≡ true) × (fits x a ≡ true) × InType a = rw e at h in rw (g.0, g.1)

pub admits_valid : {r : Result (Unit {0}) Refusal} (valid : Bool) (x : Access) (a : Answer) → r ≡ Ok tt → Admits valid x a r → valid ≡ true
unfolding Admits
admits_valid valid x a e h = let g : (valid ≡ true) × (fits x a ≡ true) × InType a = rw e at h in g.0

pub admits_fits : {r : Result (Unit {0}) Refusal} (valid : Bool) (x : Access) (a : Answer) → r ≡ Ok tt → Admits valid x a r → fits x a ≡ true
unfolding Admits
admits_fits valid x a e h = let g : (valid ≡ true) × (fits x a ≡ true) × InType a = rw e at h in g.1

pub admits_typed : {r : Result (Unit {0}) Refusal} (valid : Bool) (x : Access) (a : Answer) → r ≡ Ok tt → Admits valid x a r → InType a
unfolding Admits
admits_typed valid x a e h = let g : (valid ≡ true) × (fits x a ≡ true) × InType a = rw e at h in g.2

pub admits_no : {A : Type 0} {r : Result (Unit {0}) Refusal} {q : Refusal} (valid : Bool) (x : Access) (a : Answer) (k : Asked A) → r ≡ Err q → Admits valid x a r
    → admitting valid x a k ≡ no (refusal_number q)
unfolding Admits admitting question
admits_no {q = q} valid x a k e h = by valid (fits x a) (rw e at h)
  where
    number : (n : ℕ) → ◌≡◌ {A = Asked (Unit {0})} (no n) (no (refusal_number q)) → n ≡ refusal_number q
    number n g = cc

    never : ◌≡◌ {A = Asked (Unit {0})} (yes tt) (no (refusal_number q)) → ⊥
    never g = let z : ◌≡◌ {A = ℕ} 0 1 = cc in omega arith

    by : (b c : Bool) → question b 10 (question c 12 (yes (tt {0}))) ≡ no (refusal_number q) → question b 10 (question c 12 k) ≡ no (refusal_number q)
    by true true g = absurd (never g)
    by true false g = ap no (number 12 g)
    by false c g = ap no (number 10 g)

-- a port that an opening gives passes question 10
lan_valid : (device lan : ℕ) (f : Family) (p : Port) (b : Bool) → ltb lan 2 ≡ b
    → yes p ≡ question b 2 (yes (record { family = f; device = device; lan = lan })) → valid_port p ≡ true
unfolding question valid_port
lan_valid device lan f p true e h = cc
lan_valid device lan f p false e h = cc

family_valid : (device lan : ℕ) (p : Port) (o : Asked Family) → yes p ≡ and_then o (open_lan device lan) → valid_port p ≡ true
unfolding and_then open_lan
family_valid device lan p (yes f) h = lan_valid device lan f p (ltb lan 2) refl h
family_valid device lan p (no n) h = cc

pub opened_valid : (family device lan : ℕ) {o : Result Port Refusal} {p : Port} → o ≡ Ok p → opened o ≡ open_port family device lan → valid_port p ≡ true
unfolding open_port opened
opened_valid family device lan {p = p} e h = family_valid device lan p (open_family family) (rw e at h)

-- what every call's state holds: at its opening, and with what the marks tell
pub held_blank : (port : Port) → valid_port port ≡ true → valid_held port blank ≡ true
unfolding valid_held pick
held_blank port h = rw (h)

pub held_on : (k : Marks) (port : Port) (m : Meter) → valid_held port m ≡ true → valid_held port (meter_on k m) ≡ true
unfolding valid_held meter_on pick
held_on k port m h =
    let v = both_true (valid_port port) (leb m.slowest 10) h in
    rw v.0 (le-leb _ _ (max-le (leb-true m.slowest 10 v.1) (sample k.left)))
  where
    sample : (left : ℕ) → 10 - left ≤ 10
    sample left = omega arith

-- the count of a meter is that of the transfers that the run begins
attempts_after_more : (k : Note) (n m : ℕ) → attempts_after k n + m ≡ n + attempts_after k m
attempts_after_more Attempt n m = omega arith
attempts_after_more Acquires n m = refl
attempts_after_more Acquired n m = refl
attempts_after_more Released n m = refl
attempts_after_more Lapsed n m = refl
attempts_after_more (Acknowledged sample) n m = refl

pub meter_counts : {A : Type 0} (m : Meter) (p : Prog A) (l : List Answer) → (meter_in m p l).transfers ≡ m.transfers + transfers_in p l
unfolding meter_in transfers_in
meter_counts m (ret v) l = sym (add-zero m.transfers)
meter_counts m (ask x f) [] = sym (add-zero m.transfers)
meter_counts m (ask x f) (a ∷ l) = meter_counts m (f a) l
meter_counts m (note k p) l = meter_counts (metered k m) p l ∙ attempts_after_more k m.transfers (transfers_in p l)
meter_counts m (give b p) l = meter_counts m p l

-- the sample of a meter is the greatest of those that the run's notes tell
max_then : (n m k : ℕ) → max (max n m) k ≡ max n (max m k)
max_then n m k =
    omega (
      arith,
      max-le (max-le (le-max_left n (max m k)) (upto (le-max_left m k) rest)) (upto (le-max_right m k) rest),
      max-le (upto (le-max_left n m) first) (max-le (upto (le-max_right n m) first) (le-max_right (max n m) k)),
    )
  where
    upto : {a b c : ℕ} → a ≤ b → b ≤ c → a ≤ c
    upto h g = omega (arith, h, g)

    rest : max m k ≤ max n (max m k)
    rest = le-max_right n (max m k)

    first : max n m ≤ max (max n m) k
    first = le-max_left (max n m) k

slowest_then : (k : Note) (n : ℕ) (l : List ℕ) → max (slowest_after k n) (greatest_of l) ≡ max n (greatest_of (sampled k l))
unfolding greatest_of
slowest_then Attempt n l = refl
slowest_then Acquires n l = refl
slowest_then Acquired n l = refl
slowest_then Released n l = refl
slowest_then Lapsed n l = refl
slowest_then (Acknowledged sample) n l = max_then n sample (greatest_of l)

pub meter_slowest : {A : Type 0} (m : Meter) (p : Prog A) (l : List Answer) → (meter_in m p l).slowest ≡ max m.slowest (greatest_of (samples_in p l))
unfolding meter_in samples_in greatest_of
meter_slowest m (ret v) l = sym (max-zero m.slowest)
meter_slowest m (ask x f) [] = sym (max-zero m.slowest)
meter_slowest m (ask x f) (a ∷ l) = meter_slowest m (f a) l
meter_slowest m (note k p) l = meter_slowest (metered k m) p l ∙ slowest_then k m.slowest (samples_in p l)
meter_slowest m (give b p) l = meter_slowest m p l

-- no sample, or one of ten
pub greatest_sample : (l : List ℕ) → Samples l → greatest_of l ≤ 10
unfolding greatest_of Samples
greatest_sample [] h = omega arith
greatest_sample (n ∷ l) h = max-le h.0.last (greatest_sample l h.1)

-- from the beginning: what a result tells is how many attempts its run began
pub meter_begun : {A : Type 0} (p : Prog A) (l : List Answer) → (meter_in blank p l).transfers ≡ transfers_in p l
meter_begun p l = meter_counts blank p l ∙ zero-add (transfers_in p l)

-- and the slowest acknowledgement in it
pub meter_heard : {A : Type 0} (p : Prog A) (l : List Answer) → (meter_in blank p l).slowest ≡ greatest_of (samples_in p l)
meter_heard p l = meter_slowest blank p l ∙ zero-max (greatest_of (samples_in p l))

-- a run ends with the meter of what it notes
pub run_tally : {A : Type 0} (m : Meter) (p : Prog A) (l : List Answer) → run (tally m p) l ≡ counted (meter_in m p l) (run p l)
unfolding run on_answer tally meter_in counted_status
run_tally m (ret v) l = refl
run_tally m (ask x f) [] = refl
run_tally m (ask x f) (a ∷ l) = ap (answered x) (run_tally m (f a) l)
run_tally m (note k p) l = run_tally (metered k m) p l
run_tally m (give b p) l = ap (given b) (run_tally m p l)

-- and its result tells the slowest acknowledgement in it
ended_meter : {A : Type 0} (m : Meter) (s : Status A) (c : Counted A) → counted_status m s ≡ ended c → m ≡ c.meter
unfolding counted_status
ended_meter m (ended v) c e = cc
ended_meter m (waiting x) c e = cc

pub samples_heard : {A : Type 0} (p : Prog A) (l : List Answer) → Samples (samples_in p l) → Heard p l
samples_heard p l h =
    record {
      samples = h;
      told = λ c e. ap (λ m. m.slowest) (sym (ended_meter (meter_in blank p l) (run p l).status c (sym (ap (λ r. r.status) (run_tally blank p l)) ∙ e))) ∙ meter_heard p l;
    }

-- the questions about a port and then the run
pub asked_runs : {A : Type 0} (o : Asked Port) (p : Port → Prog A) (l : List Answer)
    → run_asked (and_then o (λ port. yes (tally blank (p port)))) l ≡ and_then o (λ port. yes (counted (meter_in blank (p port) l) (run (p port) l)))
unfolding run_asked and_then
asked_runs (no n) p l = refl
asked_runs (yes port) p l = ap yes (run_tally blank (p port) l)

pub is_true : (b : Bool) → T b → b ≡ true
is_true true h = refl
is_true false h = absurd h

-- a step that keeps its promise, after an answer of the awaited kind, tells what is left of the call, and can be stepped on
-- from; a step follows only what asked for an access
abbrev pub StepsOn : {A Told : Type 0} → (Told → Asked (Prog A)) → (Told → Answer → Told → Type 0) → (Told → Type 0) → Type 0
StepsOn {A} {Told} said Promise Stands =
    (t u : Told) (a : Answer) → Stands t → Promise t a u → AwaitedIn (said t) (a ∷ []) → (said u ≡ left_asked_after (said t) a) × Stands u × IfYes Asks (said t)

-- one answer of the awaited kind, and those after it
awaited_first : {A : Type 0} (p : Prog A) (a : Answer) (l : List Answer) → Awaited p (a ∷ l) → Awaited p (a ∷ []) × Awaited (left_after p a) l
unfolding Awaited left_after
awaited_first (ret v) a l w = (tt, tt)
awaited_first (ask x f) a [] w = (w, w.1)
awaited_first (ask x f) a (b ∷ l) w = ((w.0, by (f a)), w.1)
  where
    by : {A : Type 0} (p : Prog A) → Awaited p []
    by (ret v) = tt
    by (ask y g) = tt
    by (note n p) = by p
    by (give c p) = by p
awaited_first (note n p) a l w = awaited_first p a l w
awaited_first (give b p) a l w = awaited_first p a l w

led_run : {A : Type 0} (p : Prog A) (a : Answer) (l : List Answer) → led p (yes (run (left_after p a) l)) ≡ yes (run p (a ∷ l))
unfolding led left_after run on_answer and_then
led_run (ret v) a l = refl
led_run (ask x f) a l = refl
led_run (note n p) a l = led_run p a l
led_run (give b p) a l = ap (λ r. and_then r (λ r'. yes (given b r'))) (led_run p a l)

-- so driven by its steps a call makes the run of what was told first
pub driven_runs : {A Told : Type 0} (said : Told → Asked (Prog A)) (Promise : Told → Answer → Told → Type 0) (Stands : Told → Type 0) → StepsOn said Promise Stands
    → (t : Told) (ks : List (Exchange Told)) → Stands t → AllKept Promise t ks → AwaitedIn (said t) (answers_of ks) → driven said t ks ≡ run_asked (said t) (answers_of ks)
unfolding driven answers_of run_asked and_then AwaitedIn AllKept left_asked_after
driven_runs said Promise Stands on t [] s k w = refl
driven_runs {A} said Promise Stands on t (k ∷ ks) s kept w = by (said t) refl w (driven_runs said Promise Stands on k.told ks)
  where
    by : (q : Asked (Prog A)) → said t ≡ q → AwaitedIn q (k.answer ∷ answers_of ks)
        → (Stands k.told → AllKept Promise k.told ks → AwaitedIn (said k.told) (answers_of ks) → driven said k.told ks ≡ run_asked (said k.told) (answers_of ks))
        → and_then q (λ p. led p (driven said k.told ks)) ≡ run_asked q (k.answer ∷ answers_of ks)
    by (no n) e w h = refl
    by (yes p) e w h =
        let a = awaited_first p k.answer (answers_of ks) w in
        let n = on t k.told k.answer s kept.0 (subst (λ q. AwaitedIn q (k.answer ∷ [])) (sym e) a.0) in
        let tells : said k.told ≡ yes (left_after p k.answer) = n.0 ∙ ap (λ q. left_asked_after q k.answer) e in
        ap (led p) (h n.1 kept.1 (subst (λ q. AwaitedIn q (answers_of ks)) (sym tells) a.1) ∙ ap (λ q. run_asked q (answers_of ks)) tells)
        ∙ led_run p k.answer (answers_of ks)

-- a refused opening has no run
pub refused_runs : {A Told : Type 0} (said : Told → Asked (Prog A)) (t : Told) (ks : List (Exchange Told)) → Refuses (said t) → driven said t ks ≡ run_asked (said t) (answers_of ks)
unfolding driven answers_of and_then run_asked Refuses
refused_runs said t [] h = refl
refused_runs {A} said t (k ∷ ks) h = by (said t) h
  where
    by : (q : Asked (Prog A)) → Refuses q → and_then q (λ p. led p (driven said k.told ks)) ≡ run_asked q (k.answer ∷ answers_of ks)
    by (no n) h = refl
    by (yes p) h = absurd h

-- from an opening that keeps its promise a call driven by its steps makes the run of what it is to say
pub opened_runs : {A Told : Type 0} {o : Asked (Prog A)} (said : Told → Asked (Prog A)) (Promise : Told → Answer → Told → Type 0) (Stands : Told → Type 0) → StepsOn said Promise Stands
    → (t : Told) (ks : List (Exchange Told)) → Keeps (said t ≡ o) (Stands t) → AllKept Promise t ks → AwaitedIn o (answers_of ks) → driven said t ks ≡ run_asked (said t) (answers_of ks)
opened_runs said Promise Stands on t ks k kept w =
    driven_runs said Promise Stands on t ks k.limits kept (subst (λ q. AwaitedIn q (answers_of ks)) (sym k.yields) w)
