-- A call shows its attempts: on every way through it an attempt is noted just before the read that `begins` tells, and no
-- other read is told.
use Prim.Native.Nat.{ℕ}
use mathlib.Core.Path.{◌≡◌, refl, ap, ◌∙◌, sym}
use mathlib.Core.Bool.{Bool, true, false}
use mathlib.Core.List.{List, [], ◌∷◌, ◌++◌, append-nil}
use native.Mathlib.Omega.{arith}
use Rattle.hardware.specs.declared.Access.{Access}
use Rattle.hardware.specs.declared.Answer.{Answer}
use Rattle.hardware.specs.declared.Meter.{Meter}
use Rattle.hardware.specs.Failures.{Failure}
use Rattle.hardware.specs.Marks.{more}
use Rattle.hardware.specs.Prog.{Attempt, Acquires, Acquired, Released, Lapsed, Acknowledged, Prog, ret, ask, note, give, R, Ok, Err, or_err, ◌>>=◌, ◌>>?◌, pick, Counted, blank, tally}
use Rattle.hardware.specs.Runs.{Status, ended, waiting, run, on_answer, transfers_in, meter_in, counted_status}
use Rattle.hardware.proofs.Laws.{meter_begun, run_tally}
use Rattle.bus.specs.declared.Layout.{Layout}
use Rattle.transfer.specs.declared.attempt.Sequence.{Sequence}
use Rattle.i2c.specs.Shown.{Phase, outside, phase_after, begins, shown_from, shown, awaited_of, asked_for, Shown}

-- From a phase, with Q of what it gives and of the phase at its end. due: an attempt was noted, and its first read comes next
unfoldable pub Shows : {A : Type 0} → Sequence → Layout → Bool → Phase → Prog A → (A → Phase → Type 0) → Type 0
Shows q l due s (ret v) Q = (due ≡ false) × Q v s
Shows q l due s (ask x f) Q = (begins l s x ≡ due) × ((a : Answer) → Shows q l false (phase_after q l s x) (f a) Q)
Shows q l due s (note Attempt p) Q = (due ≡ false) × Shows q l true s p Q
Shows q l due s (note Acquires p) Q = Shows q l due s p Q
Shows q l due s (note Acquired p) Q = Shows q l due s p Q
Shows q l due s (note Released p) Q = Shows q l due s p Q
Shows q l due s (note Lapsed p) Q = Shows q l due s p Q
Shows q l due s (note (Acknowledged sample) p) Q = Shows q l due s p Q
Shows q l due s (give b p) Q = Shows q l due s p Q

-- wherever it ends
abbrev pub Anywhere : {A : Type 0} → A → Phase → Type 0
Anywhere v s = Unit {0}

-- one call after another
pub shows_bind : {A B : Type 0} (q : Sequence) (l : Layout) (due : Bool) (s : Phase) (p : Prog A) (k : A → Prog B) (Q : A → Phase → Type 0) (Z : B → Phase → Type 0)
    → Shows q l due s p Q → ((a : A) (t : Phase) → Q a t → Shows q l false t (k a) Z) → Shows q l due s (p >>= k) Z
unfolding Shows ◌>>=◌
shows_bind q l due s (ret a) k Q Z e d = rw e.0 (d a s e.1)
shows_bind q l due s (ask x f) k Q Z e d = (e.0, λ a. shows_bind q l false (phase_after q l s x) (f a) k Q Z (e.1 a) d)
shows_bind q l due s (note Attempt p) k Q Z e d = (e.0, shows_bind q l true s p k Q Z e.1 d)
shows_bind q l due s (note Acquires p) k Q Z e d = shows_bind q l due s p k Q Z e d
shows_bind q l due s (note Acquired p) k Q Z e d = shows_bind q l due s p k Q Z e d
shows_bind q l due s (note Released p) k Q Z e d = shows_bind q l due s p k Q Z e d
shows_bind q l due s (note Lapsed p) k Q Z e d = shows_bind q l due s p k Q Z e d
shows_bind q l due s (note (Acknowledged sample) p) k Q Z e d = shows_bind q l due s p k Q Z e d
shows_bind q l due s (give b p) k Q Z e d = shows_bind q l due s p k Q Z e d

-- and another after it where it succeeds
pub shows_try : {A B : Type 0} (q : Sequence) (l : Layout) (s : Phase) (p : Prog (R A)) (k : A → Prog (R B)) (Q : R A → Phase → Type 0) (Z : R B → Phase → Type 0)
    → Shows q l false s p Q → ((a : A) (t : Phase) → Q (Ok a) t → Shows q l false t (k a) Z) → ((e : Failure) (t : Phase) → Q (Err e) t → Z (Err e) t)
    → Shows q l false s (p >>? k) Z
unfolding Shows or_err
shows_try {A = A} q l s p k Q Z e d f = shows_bind q l false s p (or_err k) Q Z e by
  where
    by : (r : R A) (t : Phase) → Q r t → Shows q l false t (or_err k r) Z
    by (Ok a) t q = d a t q
    by (Err x) t q = (refl, f x t q)

pub shows_either : {A : Type 0} (q : Sequence) (l : Layout) (s : Phase) (b : Bool) (p r : Prog A) (Q : A → Phase → Type 0)
    → (b ≡ true → Shows q l false s p Q) → (b ≡ false → Shows q l false s r Q) → Shows q l false s (pick b p r) Q
unfolding pick
shows_either q l s true p r Q e d = e refl
shows_either q l s false p r Q e d = d refl

-- the attempts that are shown are those that were noted, and the one that is due
shows_run : {A : Type 0} (q : Sequence) (l : Layout) (due : Bool) (s : Phase) (p : Prog A) (Q : A → Phase → Type 0) (answers : List Answer) → Shows q l due s p Q
    → shown_from q l s (asked_for (run p answers)) ≡ more due (transfers_in p answers)
unfolding Shows run on_answer transfers_in awaited_of shown_from more pick
shows_run q l due s (ret v) Q answers e = rw e.0 refl
shows_run q l due s (ask x f) Q [] e = ap (λ b. more b 0) e.0
shows_run q l due s (ask x f) Q (a ∷ answers) e =
    rw e.0 (ap (more due) (shows_run q l false (phase_after q l s x) (f a) Q answers (e.1 a)))
shows_run q l due s (note Attempt p) Q answers e = rw e.0 (shows_run q l true s p Q answers e.1)
shows_run q l due s (note Acquires p) Q answers e = shows_run q l due s p Q answers e
shows_run q l due s (note Acquired p) Q answers e = shows_run q l due s p Q answers e
shows_run q l due s (note Released p) Q answers e = shows_run q l due s p Q answers e
shows_run q l due s (note Lapsed p) Q answers e = shows_run q l due s p Q answers e
shows_run q l due s (note (Acknowledged sample) p) Q answers e = shows_run q l due s p Q answers e
shows_run q l due s (give b p) Q answers e = shows_run q l due s p Q answers e

-- where a run has ended, nothing is awaited
told_ended : {A : Type 0} (m : Meter) (at : Status A) (c : Counted A) (xs : List Access) → counted_status m at ≡ ended c
    → (c.meter ≡ m) × (xs ++ awaited_of at ≡ xs)
unfolding counted_status awaited_of
told_ended m (ended v) c xs e = (sym (meter_of _ c e), append-nil xs)
  where
    meter_of : {A : Type 0} (b c : Counted A) → ◌≡◌ {A = Status (Counted A)} (ended b) (ended c) → b.meter ≡ c.meter
    meter_of b c e = cc
told_ended m (waiting x) c xs e = let z : ◌≡◌ {A = ℕ} 0 1 = cc in absurd (omega arith)

-- a call from its beginning on
pub shows_shown : {A : Type 0} (q : Sequence) (l : Layout) (p : Prog A) (Q : A → Phase → Type 0) (answers : List Answer) → Shows q l false outside p Q → Shown q l p answers
unfolding more pick
shows_shown {A = A} q l p Q answers e = record { begun = begins; told = tells }
  where
    begins : shown q l (asked_for (run p answers)) ≡ transfers_in p answers
    begins = shows_run q l false outside p Q answers e

    tells : (c : Counted A) → (run (tally blank p) answers).status ≡ ended c → c.meter.transfers ≡ shown q l (run (tally blank p) answers).accesses
    tells c d =
        let same = run_tally blank p answers in
        let told = told_ended (meter_in blank p answers) (run p answers).status c (run p answers).accesses (rw same at d) in
        ap (λ m. m.transfers) told.0
        ∙ meter_begun p answers
        ∙ sym begins
        ∙ ap (shown q l) told.1
        ∙ sym (ap (λ r. shown q l r.accesses) same)
