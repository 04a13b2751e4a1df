-- Acquires and releases in pairs along a call, each acknowledgement in one of ten samples, and what that says of its runs.
use Prim.Native.Nat.{ℕ}
use mathlib.Core.Path.{◌≡◌, refl, ap, ◌∙◌}
use mathlib.Core.Bool.{Bool, true, false}
use mathlib.Core.List.{List, [], ◌∷◌}
use native.Mathlib.Omega.{arith}
use Rattle.hardware.specs.declared.Access.{Access}
use Rattle.hardware.specs.declared.Answer.{Answer}
use Rattle.hardware.specs.Prog.{Attempt, Acquires, Acquired, Released, Lapsed, Acknowledged, Prog, ret, ask, note, give, R, Ok, Err, or_err, ◌>>=◌, ◌>>?◌, pick}
use Rattle.hardware.specs.Runs.{ended, run, on_answer, samples_in, Sample, Samples}
use Rattle.i2c.specs.Paired.{Hold, free, held, broken, noted, hold_after, notes_in, Paired}
use Rattle.i2c.proofs.Quiet.{Quiet}

-- Begun with a lock held or not, a call keeps the rule on every way through it; after tells by the result whether a lock
-- is held at the end
unfoldable pub Pairs : {A : Type 0} → Bool → Prog A → (A → Bool) → Type 0
Pairs h (ret v) after = h ≡ after v
Pairs h (ask x f) after = (a : Answer) → Pairs h (f a) after
Pairs h (note Attempt p) after = Pairs h p after
Pairs h (note Acquires p) after = (h ≡ false) × Pairs false p after
Pairs h (note Acquired p) after = (h ≡ false) × Pairs true p after
Pairs h (note Released p) after = (h ≡ true) × Pairs false p after
Pairs h (note Lapsed p) after = Pairs h p after
Pairs h (note (Acknowledged sample) p) after = Sample sample × Pairs h p after
Pairs h (give b p) after = Pairs h p after

-- one call after another
pub pairs_bind : {A B : Type 0} (h : Bool) (p : Prog A) (k : A → Prog B) (mid : A → Bool) (after : B → Bool)
    → Pairs h p mid → ((a : A) → Pairs (mid a) (k a) after) → Pairs h (p >>= k) after
unfolding Pairs ◌>>=◌
pairs_bind h (ret a) k mid after e d = rw e (d a)
pairs_bind h (ask x f) k mid after e d = λ a. pairs_bind h (f a) k mid after (e a) d
pairs_bind h (note Attempt p) k mid after e d = pairs_bind h p k mid after e d
pairs_bind h (note Acquires p) k mid after e d = (e.0, pairs_bind false p k mid after e.1 d)
pairs_bind h (note Acquired p) k mid after e d = (e.0, pairs_bind true p k mid after e.1 d)
pairs_bind h (note Released p) k mid after e d = (e.0, pairs_bind false p k mid after e.1 d)
pairs_bind h (note Lapsed p) k mid after e d = pairs_bind h p k mid after e d
pairs_bind h (note (Acknowledged sample) p) k mid after e d = (e.0, pairs_bind h p k mid after e.1 d)
pairs_bind h (give b p) k mid after e d = pairs_bind h p k mid after e d

-- the same where the first leaves the lock as it was
pub pairs_then : {A B : Type 0} (h : Bool) (p : Prog A) (k : A → Prog B) (after : B → Bool)
    → Pairs h p (λ _. h) → ((a : A) → Pairs h (k a) after) → Pairs h (p >>= k) after
pairs_then h p k after e d = pairs_bind h p k (λ _. h) after e d

-- and where a failure of it ends the call, too
pub pairs_or : {A B : Type 0} (h : Bool) (k : A → Prog (R B)) (r : R A) → ((a : A) → Pairs h (k a) (λ _. h)) → Pairs h (or_err k r) (λ _. h)
unfolding Pairs or_err
pairs_or h k (Ok a) d = d a
pairs_or h k (Err e) d = refl

pub pairs_try : {A B : Type 0} (h : Bool) (p : Prog (R A)) (k : A → Prog (R B))
    → Pairs h p (λ _. h) → ((a : A) → Pairs h (k a) (λ _. h)) → Pairs h (p >>? k) (λ _. h)
pairs_try h p k e d = pairs_then h p (or_err k) (λ _. h) e (λ r. pairs_or h k r d)

pub pairs_pick : {A : Type 0} (h b : Bool) (p q : Prog A) (after : A → Bool) → Pairs h p after → Pairs h q after → Pairs h (pick b p q) after
unfolding pick
pairs_pick h true p q after e d = e
pairs_pick h false p q after e d = d

pub pairs_ret : {A : Type 0} (h : Bool) (v : A) → Pairs h (ret v) (λ _. h)
unfolding Pairs
pairs_ret h v = refl

pub pairs_ask : {A : Type 0} (h : Bool) (x : Access) (f : Answer → Prog A) (after : A → Bool)
    → ((a : Answer) → Pairs h (f a) after) → Pairs h (ask x f) after
unfolding Pairs
pairs_ask h x f after d = d

pub pairs_attempt : {A : Type 0} (h : Bool) (p : Prog A) (after : A → Bool) → Pairs h p after → Pairs h (note Attempt p) after
unfolding Pairs
pairs_attempt h p after e = e

pub pairs_acquires : {A : Type 0} (p : Prog A) (after : A → Bool) → Pairs false p after → Pairs false (note Acquires p) after
unfolding Pairs
pairs_acquires p after e = (refl, e)

pub pairs_acquired : {A : Type 0} (p : Prog A) (after : A → Bool) → Pairs true p after → Pairs false (note Acquired p) after
unfolding Pairs
pairs_acquired p after e = (refl, e)

pub pairs_released : {A : Type 0} (p : Prog A) (after : A → Bool) → Pairs false p after → Pairs true (note Released p) after
unfolding Pairs
pairs_released p after e = (refl, e)

-- what is quiet leaves the lock as it was
pub pairs_quiet : {A : Type 0} (h : Bool) (p : Prog A) → Quiet p → Pairs h p (λ _. h)
unfolding Pairs Quiet
pairs_quiet h (ret v) e = refl
pairs_quiet h (ask x f) e = λ a. pairs_quiet h (f a) (e a)
pairs_quiet h (note Attempt p) e = absurd e
pairs_quiet h (note Acquires p) e = absurd e
pairs_quiet h (note Acquired p) e = absurd e
pairs_quiet h (note Released p) e = absurd e
pairs_quiet h (note Lapsed p) e = pairs_quiet h p e
pairs_quiet h (note (Acknowledged sample) p) e = (e.0, pairs_quiet h p e.1)
pairs_quiet h (give b p) e = pairs_quiet h p e

abbrev pub hold_of : Bool → Hold
hold_of true = held
hold_of false = free

not_broken : (h : Bool) → hold_of h ≡ broken → ⊥
not_broken true e = let z : ◌≡◌ {A = ℕ} 0 1 = cc in absurd (omega arith)
not_broken false e = let z : ◌≡◌ {A = ℕ} 0 1 = cc in absurd (omega arith)

-- every run of it keeps the rule
pub pairs_holds : {A : Type 0} (h : Bool) (p : Prog A) (after : A → Bool) (l : List Answer) → Pairs h p after
    → (hold_after (hold_of h) (notes_in p l) ≡ broken → ⊥) × ((v : A) → (run p l).status ≡ ended v → hold_after (hold_of h) (notes_in p l) ≡ hold_of (after v))
unfolding Pairs run on_answer notes_in hold_after noted
pairs_holds h (ret w) after l e = (not_broken h, λ v z. let d : w ≡ v = cc in ap hold_of (e ∙ ap after d))
pairs_holds h (ask x f) after [] e = (not_broken h, λ v z. cc)
pairs_holds h (ask x f) after (a ∷ l) e = pairs_holds h (f a) after l (e a)
pairs_holds h (note Attempt p) after l e = pairs_holds h p after l e
pairs_holds h (note Acquires p) after l e = rw e.0 (pairs_holds false p after l e.1)
pairs_holds h (note Acquired p) after l e = rw e.0 (pairs_holds true p after l e.1)
pairs_holds h (note Released p) after l e = rw e.0 (pairs_holds false p after l e.1)
pairs_holds h (note Lapsed p) after l e = pairs_holds h p after l e
pairs_holds h (note (Acknowledged sample) p) after l e = pairs_holds h p after l e.1
pairs_holds h (give b p) after l e = pairs_holds h p after l e

pub pairs_paired : {A : Type 0} (p : Prog A) (l : List Answer) → Pairs false p (λ _. false) → Paired p l
unfolding Paired
pairs_paired p l e = pairs_holds false p (λ _. false) l e

-- and every acknowledgement in it is in one of ten samples
pub pairs_samples : {A : Type 0} (h : Bool) (p : Prog A) (after : A → Bool) (l : List Answer) → Pairs h p after → Samples (samples_in p l)
unfolding Pairs samples_in Samples
pairs_samples h (ret v) after l e = tt
pairs_samples h (ask x f) after [] e = tt
pairs_samples h (ask x f) after (a ∷ l) e = pairs_samples h (f a) after l (e a)
pairs_samples h (note Attempt p) after l e = pairs_samples h p after l e
pairs_samples h (note Acquires p) after l e = pairs_samples false p after l e.1
pairs_samples h (note Acquired p) after l e = pairs_samples true p after l e.1
pairs_samples h (note Released p) after l e = pairs_samples false p after l e.1
pairs_samples h (note Lapsed p) after l e = pairs_samples h p after l e
pairs_samples h (note (Acknowledged sample) p) after l e = (e.0, pairs_samples h p after l e.1)
pairs_samples h (give b p) after l e = pairs_samples h p after l e
