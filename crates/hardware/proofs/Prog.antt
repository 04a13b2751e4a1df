-- Laws of calls as values: one after another, erased, counted, run; and of a machine that takes over from a smaller one.
use Prim.Native.Nat.{ℕ, ◌-◌, ◌<◌, suc, max}
use mathlib.Core.Path.{◌≡◌, refl, ap, fun_ext, ◌∙◌, sym}
use mathlib.Core.Bool.{Bool, true, false}
use lib.Dec.{ltb}
use native.Mathlib.Nat.{max-zero}
use native.Mathlib.Omega.{arith}
use borrow.Author.Tests.{lt-ltb, ltb-false}
use Rattle.hardware.specs.declared.Access.{Access}
use Rattle.hardware.specs.declared.Answer.{Answer}
use Rattle.hardware.specs.declared.Marks.{Marks}
use Rattle.hardware.specs.declared.Meter.{Meter}
use Rattle.hardware.specs.Prog.{Note, Attempt, Acquires, Acquired, Released, Lapsed, Acknowledged, Prog, ret, ask, note, give, ◌>>=◌, is_told, note_if, stays, erase, R, or_err, pick, followed, Counted, metered, tally}
use Rattle.hardware.specs.Marks.{acknowledged, marked, more, FULL, count_of, meter_on}
use Rattle.hardware.specs.Runs.{run, on_answer, given}

noted_bind : {A B : Type 0} (b : Bool) (n : Note) (p : Prog A) (k : A → Prog B) → note_if b n (p >>= k) ≡ note_if b n p >>= k
unfolding ◌>>=◌
noted_bind true n p k = refl
noted_bind false n p k = refl

pub stays_bind : {A B : Type 0} (n : Note) (p : Prog A) (k : A → Prog B) → stays n (p >>= k) ≡ stays n p >>= k
stays_bind n p k = noted_bind (is_told n) n p k

pub erase_bind : {A B : Type 0} (p : Prog A) (f : A → Prog B) → erase (p >>= f) ≡ erase p >>= (λ a. erase (f a))
unfolding ◌>>=◌ erase
erase_bind (ret a) f = refl
erase_bind (ask x k) f = ap (ask x) (fun_ext (λ r. erase_bind (k r) f))
erase_bind (note n p) f = ap (stays n) (erase_bind p f) ∙ stays_bind n (erase p) (λ a. erase (f a))
erase_bind (give b p) f = ap (give b) (erase_bind p f)

pub bind_assoc : {A B C : Type 0} (p : Prog A) (f : A → Prog B) (g : B → Prog C) → (p >>= f) >>= g ≡ p >>= (λ a. f a >>= g)
unfolding ◌>>=◌
bind_assoc (ret a) f g = refl
bind_assoc (ask x k) f g = ap (ask x) (fun_ext (λ r. bind_assoc (k r) f g))
bind_assoc (note n p) f g = ap (note n) (bind_assoc p f g)
bind_assoc (give b p) f g = ap (give b) (bind_assoc p f g)

pub bind_ret : {A : Type 0} (p : Prog A) → p >>= ret ≡ p
unfolding ◌>>=◌
bind_ret (ret a) = refl
bind_ret (ask x k) = ap (ask x) (fun_ext (λ r. bind_ret (k r)))
bind_ret (note n p) = ap (note n) (bind_ret p)
bind_ret (give b p) = ap (give b) (bind_ret p)

-- A larger machine takes over from a smaller one: q, what is left of the larger, is what is left of the smaller, r,
-- followed by k; and r is what the Rust's smaller call p leaves
pub over : {A B : Type 0} {q : Prog B} {r : Prog A} (p : Prog A) (k : A → Prog B)
    → q ≡ followed r k → r ≡ erase p → q ≡ erase (p >>= k)
unfolding followed
over p k e d = e ∙ ap (λ t. t >>= (λ a. erase (k a))) d ∙ sym (erase_bind p k)

-- the same where what a step makes of an answer, x, is the Rust's reading of it, y
pub fed : {A B : Type 0} {q : Prog (R B)} {x y : R A} (k : A → Prog (R B)) → q ≡ erase (or_err k x) → x ≡ y → q ≡ erase (or_err k y)
fed k e d = e ∙ ap (λ z. erase (or_err k z)) d

-- a smaller machine's next access is the larger's, whose rest is the smaller's rest followed by k
pub going : {A B : Type 0} (x : Access) (p : Answer → Prog A) (k : A → Prog B)
    → ask x (λ a. erase (p a >>= k)) ≡ followed (ask x (λ a. erase (p a))) k
unfolding ◌>>=◌ followed
going x p k = ap (ask x) (fun_ext (λ a. erase_bind (p a) k))

pub tally_stays : {A : Type 0} (m : Meter) (k : Note) (p : Prog A) → tally m (stays k p) ≡ tally (metered k m) p
unfolding tally
tally_stays m Attempt p = refl
tally_stays m Acquires p = refl
tally_stays m Acquired p = refl
tally_stays m Released p = refl
tally_stays m Lapsed p = refl
tally_stays m (Acknowledged sample) p = refl

-- erasing changes nothing of the meter
pub tally_erase : {A : Type 0} (m : Meter) (p : Prog A) → tally m (erase p) ≡ tally m p
unfolding tally erase
tally_erase m (ret a) = refl
tally_erase m (ask x f) = ap (ask x) (fun_ext (λ r. tally_erase m (f r)))
tally_erase m (note k p) = tally_stays m k (erase p) ∙ tally_erase (metered k m) p
tally_erase m (give b p) = ap (give b) (tally_erase m p)

pub over_tally : {A B : Type 0} {q : Prog (Counted B)} {r : Prog A} (m : Meter) (p : Prog A) (k : A → Prog B)
    → q ≡ tally m (followed r k) → r ≡ erase p → q ≡ tally m (p >>= k)
over_tally m p k e d = e ∙ ap (tally m) (over p k refl d) ∙ tally_erase m (p >>= k)

pub going_tally : {A B : Type 0} (m : Meter) (x : Access) (p : Answer → Prog A) (k : A → Prog B)
    → ask x (λ a. tally m (p a >>= k)) ≡ tally m (followed (ask x (λ a. erase (p a))) k)
unfolding tally
going_tally m x p k = ap (ask x) (fun_ext (λ a. sym (tally_erase m (p a >>= k)))) ∙ ap (tally m) (going x p k)

pub run_stays : {A : Type 0} (n : Note) (p : Prog A) → run (stays n p) ≡ run p
unfolding run
run_stays n p = by (is_told n)
  where
    by : (b : Bool) → run (note_if b n p) ≡ run p
    by true = refl
    by false = refl

-- a run sees nothing of the notes
pub run_erase : {A : Type 0} (p : Prog A) → run (erase p) ≡ run p
unfolding run erase
run_erase (ret v) = refl
run_erase (ask x f) = ap (on_answer x) (fun_ext (λ a. run_erase (f a)))
run_erase (note n p) = run_stays n (erase p) ∙ run_erase p
run_erase (give b p) = fun_ext (λ l. ap (λ r. given b (r l)) (run_erase p))

pub followed_heard : {A B : Type 0} (left : ℕ) (p : Prog A) (f : A → Prog B) → acknowledged left (followed p f) ≡ followed (acknowledged left p) f
unfolding acknowledged followed
followed_heard left p f = noted_bind (ltb left 10) _ p _

-- the next access of a smaller machine is the larger's, with the acknowledgement before it
pub heard_on : {A B : Type 0} (left : ℕ) (x : Access) (p : Answer → Prog A) (f : A → Prog B)
    → acknowledged left (ask x (λ a. erase (p a >>= f))) ≡ followed (acknowledged left (ask x (λ a. erase (p a)))) f
heard_on left x p f = ap (acknowledged left) (going x p f) ∙ followed_heard left _ f

pub erase_heard : {A : Type 0} (left : ℕ) (p : Prog A) → acknowledged left (erase p) ≡ erase (acknowledged left p)
unfolding acknowledged erase
erase_heard left p = by (ltb left 10)
  where
    by : (b : Bool) → note_if b (Acknowledged (10 - left)) (erase p) ≡ erase (note_if b (Acknowledged (10 - left)) p)
    by true = refl
    by false = refl

-- with all its marks
pub going_on : {A B : Type 0} (k : Marks) (x : Access) (p : Answer → Prog A) (f : A → Prog B)
    → marked k (ask x (λ a. erase (p a >>= f))) ≡ followed (marked k (ask x (λ a. erase (p a)))) f
unfolding marked followed
going_on k x p f = ap (note_if k.attempt Attempt) (heard_on k.left x p f) ∙ noted_bind k.attempt Attempt _ _

-- what a note makes of a meter where it is there
tally_noted : {A : Type 0} (b : Bool) (n : Note) (m : Meter) (p : Prog A) → tally m (note_if b n p) ≡ tally (pick b (metered n m) m) p
unfolding tally pick
tally_noted true n m p = refl
tally_noted false n m p = refl

-- with ten samples or more left no byte was acknowledged
none_heard : (slowest left : ℕ) → ltb left 10 ≡ false → max slowest (10 - left) ≡ slowest
none_heard slowest left h = ap (max slowest) none ∙ max-zero slowest
  where
    none : 10 - left ≡ 0
    none = omega (arith, ltb-false left 10 h)

-- the meter that goes on from it
pub asked_on : {A : Type 0} (k : Marks) (m : Meter) (x : Access) (p : Answer → Prog A) → m.transfers < FULL
    → ask x (λ a. tally (meter_on k m) (p a)) ≡ tally m (marked k (ask x (λ a. erase (p a))))
unfolding meter_on count_of marked acknowledged more pick tally
asked_on k m x p h =
    ap (ask x) (fun_ext (λ a. sym (tally_erase (meter_on k m) (p a))))
    ∙ ap (λ n. tally n (ask x (λ a. erase (p a)))) (rw (lt-ltb m.transfers FULL h) (by k.attempt (ltb k.left 10) refl))
    ∙ sym (tally_noted k.attempt Attempt m _ ∙ tally_noted (ltb k.left 10) _ _ _)
  where
    by : (b c : Bool) → ltb k.left 10 ≡ c → record { transfers = pick b (suc m.transfers) m.transfers; slowest = max m.slowest (10 - k.left) }
        ≡ pick c (metered (Acknowledged (10 - k.left)) (pick b (metered Attempt m) m)) (pick b (metered Attempt m) m)
    by true true e = refl
    by true false e = ap (λ s. record { transfers = suc m.transfers; slowest = s }) (none_heard m.slowest k.left e)
    by false true e = refl
    by false false e = ap (λ s. record { transfers = m.transfers; slowest = s }) (none_heard m.slowest k.left e)
