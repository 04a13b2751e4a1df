-- A call run over a list of answers.
use Rattle.std.specs.Prelude.{ℕ, suc, zero, max, ◌≤◌, List, [], ◌∷◌, T, length, ◌≡◌}
use Rattle.hardware.specs.declared.Access.{Access}
use Rattle.hardware.specs.declared.Answer.{Answer}
use Rattle.hardware.specs.declared.Meter.{Meter}
use Rattle.hardware.specs.Asked.{Asked, no, yes, and_then, fits}
use Rattle.hardware.specs.Prog.{Note, Attempt, Acquires, Acquired, Released, Lapsed, Acknowledged, Prog, ret, ask, note, give, Counted, attempts_after, metered, blank, tally}

-- how a run stands: it has ended, or waits for the answer to one more access
pub data Status (A : Type 0) : Type 0 where
  ended : A → Status A
  waiting : Access → Status A

-- the accesses that were answered, the bytes given out, and how the run stands when the list is used up or the call
-- has ended
pub record Run (A : Type 0) : Type 0 where
  pub accesses : List Access
  pub bytes : List ℕ
  pub status : Status A

abbrev pub answered : {A : Type 0} → Access → Run A → Run A
answered x r = record { accesses = x ∷ r.accesses; bytes = r.bytes; status = r.status }

abbrev pub given : {A : Type 0} → ℕ → Run A → Run A
given b r = record { accesses = r.accesses; bytes = b ∷ r.bytes; status = r.status }

unfoldable pub on_answer : {A : Type 0} → Access → (Answer → List Answer → Run A) → List Answer → Run A
on_answer x f [] = record { accesses = []; bytes = []; status = waiting x }
on_answer x f (a ∷ l) = answered x (f a l)

unfoldable pub run : {A : Type 0} → Prog A → List Answer → Run A
run (ret v) = λ l. record { accesses = []; bytes = []; status = ended v }
run (ask x f) = on_answer x (λ a. run (f a))
run (note n p) = run p
run (give b p) = λ l. given b (run p l)

-- a call ends with v over these answers, and needs all of them
unfoldable pub EndsOver : {A : Type 0} → Prog A → List Answer → A → Type 0
EndsOver p l v = ((run p l).status ≡ ended v) × (length (run p l).accesses ≡ length l)

-- n answers of the awaited kinds bring the call to its end, whatever they are
unfoldable pub Ends : {A : Type 0} → Prog A → ℕ → Type 0
Ends (ret v) n = Unit {0}
Ends (ask x f) zero = ⊥
Ends (ask x f) (suc n) = (a : Answer) → T (fits x a) → Ends (f a) n
Ends (note m p) n = Ends p n
Ends (give b p) n = Ends p n

-- each answer is of the kind that the access it answers awaits; those after the end are not looked at
unfoldable pub Awaited : {A : Type 0} → Prog A → List Answer → Type 0
Awaited (ret v) l = Unit {0}
Awaited (ask x f) [] = Unit {0}
Awaited (ask x f) (a ∷ l) = T (fits x a) × Awaited (f a) l
Awaited (note n p) l = Awaited p l
Awaited (give b p) l = Awaited p l

-- an opening run over a list of answers: refused, or the call's run
unfoldable pub run_asked : {A : Type 0} → Asked (Prog A) → List Answer → Asked (Run A)
run_asked (no n) l = no n
run_asked (yes p) l = yes (run p l)

-- the transfers that a run begins
unfoldable pub transfers_in : {A : Type 0} → Prog A → List Answer → ℕ
transfers_in (ret v) l = 0
transfers_in (ask x f) [] = 0
transfers_in (ask x f) (a ∷ l) = transfers_in (f a) l
transfers_in (note n p) l = attempts_after n (transfers_in p l)
transfers_in (give b p) l = transfers_in p l

-- the samples in which the bytes of a run were acknowledged
abbrev pub sampled : Note → List ℕ → List ℕ
sampled Attempt l = l
sampled Acquires l = l
sampled Acquired l = l
sampled Released l = l
sampled Lapsed l = l
sampled (Acknowledged sample) l = sample ∷ l

unfoldable pub samples_in : {A : Type 0} → Prog A → List Answer → List ℕ
samples_in (ret v) l = []
samples_in (ask x f) [] = []
samples_in (ask x f) (a ∷ l) = samples_in (f a) l
samples_in (note n p) l = sampled n (samples_in p l)
samples_in (give b p) l = samples_in p l

-- the greatest of them, 0 where there is none
unfoldable pub greatest_of : List ℕ → ℕ
greatest_of [] = 0
greatest_of (n ∷ l) = max n (greatest_of l)

-- a sample by its number
pub record Sample (n : ℕ) : Type 0 where
  pub first : 1 ≤ n
  pub last : n ≤ 10

unfoldable pub Samples : List ℕ → Type 0
Samples [] = Unit {0}
Samples (n ∷ l) = Sample n × Samples l

-- the meter after all that a run notes
unfoldable pub meter_in : {A : Type 0} → Meter → Prog A → List Answer → Meter
meter_in m (ret v) l = m
meter_in m (ask x f) [] = m
meter_in m (ask x f) (a ∷ l) = meter_in m (f a) l
meter_in m (note n p) l = meter_in (metered n m) p l
meter_in m (give b p) l = meter_in m p l

-- a run with its meter beside the result
unfoldable pub counted_status : {A : Type 0} → Meter → Status A → Status (Counted A)
counted_status m (ended v) = ended (record { meter = m; result = v })
counted_status m (waiting x) = waiting x

abbrev pub counted : {A : Type 0} → Meter → Run A → Run (Counted A)
counted m r = record { accesses = r.accesses; bytes = r.bytes; status = counted_status m r.status }

-- every acknowledgement of a run is in one of ten samples, and its result tells the greatest of them
pub record Heard {A : Type 0} (p : Prog A) (l : List Answer) : Type 0 where
  pub samples : Samples (samples_in p l)
  pub told : (c : Counted A) → (run (tally blank p) l).status ≡ ended c → c.meter.slowest ≡ greatest_of (samples_in p l)

-- what is left after the answer to the first access
unfoldable pub left_after : {A : Type 0} → Prog A → Answer → Prog A
left_after (ret v) a = ret v
left_after (ask x f) a = f a
left_after (note n p) a = left_after p a
left_after (give b p) a = left_after p a

unfoldable pub left_asked_after : {A : Type 0} → Asked (Prog A) → Answer → Asked (Prog A)
left_asked_after (no n) a = no n
left_asked_after (yes p) a = yes (left_after p a)

-- an access is awaited
unfoldable pub Asks : {A : Type 0} → Prog A → Type 0
Asks (ret v) = ⊥
Asks (ask x f) = Unit {0}
Asks (note n p) = Asks p
Asks (give b p) = Asks p

-- an opening or a step did not refuse, and P holds of what it says
unfoldable pub IfYes : {A : Type 0} → (A → Type 0) → Asked A → Type 0
IfYes P (no n) = ⊥
IfYes P (yes a) = P a

-- it did not refuse
abbrev pub Unrefused : {A : Type 0} → Asked A → Type 0
Unrefused q = IfYes (λ a. Unit {0}) q

-- A step of a call as its host sees it: the answer that it was given, and what it then told
pub record Exchange (Told : Type 0) : Type 0 where
  pub answer : Answer
  pub told : Told

unfoldable pub answers_of : {Told : Type 0} → List (Exchange Told) → List Answer
answers_of [] = []
answers_of (k ∷ ks) = k.answer ∷ answers_of ks

-- what was told last
unfoldable pub last_told : {Told : Type 0} → Told → List (Exchange Told) → Told
last_told t [] = t
last_told t (k ∷ ks) = last_told k.told ks

-- there are at most n steps, and after n of them the call has ended
pub record Lasts {A Told : Type 0} (said : Told → Asked (Prog A)) (t : Told) (ks : List (Exchange Told)) (n : ℕ) : Type 0 where
  pub few : length ks ≤ n
  pub over : length ks ≡ n → IfYes (λ p. Asks p → ⊥) (said (last_told t ks))

-- each step keeps its promise, of what was told before it and of what it tells itself
unfoldable pub AllKept : {Told : Type 0} → (Told → Answer → Told → Type 0) → Told → List (Exchange Told) → Type 0
AllKept Promise t [] = Unit {0}
AllKept Promise t (k ∷ ks) = Promise t k.answer k.told × AllKept Promise k.told ks

-- What a host sees of p, told to it, and of the steps after it: the access is answered, the byte is handed out
unfoldable pub led : {A : Type 0} → Prog A → Asked (Run A) → Asked (Run A)
led (ret v) rest = yes (run (ret v) [])
led (ask x f) rest = and_then rest (λ r. yes (answered x r))
led (note n p) rest = led p rest
led (give b p) rest = and_then (led p rest) (λ r. yes (given b r))

-- A call as its host drives it, from what was told first. said: what a telling says
unfoldable pub driven : {A Told : Type 0} → (Told → Asked (Prog A)) → Told → List (Exchange Told) → Asked (Run A)
driven said t [] = run_asked (said t) []
driven said t (k ∷ ks) = and_then (said t) (λ p. led p (driven said k.told ks))

-- each answer is of the awaited kind, where the call was not refused
unfoldable pub AwaitedIn : {A : Type 0} → Asked (Prog A) → List Answer → Type 0
AwaitedIn (no n) l = Unit {0}
AwaitedIn (yes p) l = Awaited p l

-- the call was refused
unfoldable pub Refuses : {A : Type 0} → Asked A → Type 0
Refuses (no n) = Unit {0}
Refuses (yes p) = ⊥
