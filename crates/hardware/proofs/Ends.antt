-- How many answers bring a call to its end: the laws of `Ends`, the bounds of the calls on one register, and what
-- `Ends` says of a run.
use Rattle.hardware.specs.Marks.{acknowledged}
use Prim.Native.Nat.{ℕ, ◌+◌, ◌*◌, ◌≤◌, suc, zero}
use mathlib.Core.Path.{◌≡◌, refl, ap}
use mathlib.Core.Bool.{Bool, true, false}
use mathlib.Core.List.{List, [], ◌∷◌, ◌++◌}
use native.Mathlib.Nat.{suc-add}
use native.Mathlib.Omega.{arith}
use lib.Dec.{T, ltb}
use lib.ListN.{length}
use Rattle.hardware.specs.declared.Access.{Access}
use Rattle.hardware.specs.declared.Access.TheVariants.{Read, Write, Wait}
use Rattle.hardware.specs.declared.Answer.{Answer}
use Rattle.hardware.specs.declared.Answer.TheVariants.{Value, Done}
use Rattle.hardware.specs.declared.Meter.{Meter}
use Rattle.hardware.specs.declared.change.Change.{Change}
use Rattle.hardware.specs.declared.poll.Watch.{Watch}
use Rattle.hardware.specs.Asked.{fits}
use Rattle.hardware.specs.Prog.{Note, is_told, note_if, Prog, ret, ask, note, give, erase, metered, tally, R, Ok, Err, or_err, ◌>>=◌, ◌>>?◌, pick}
use Rattle.hardware.specs.Registers.{read, read_raw, write, flush, delay}
use Rattle.hardware.specs.Change.{settled, stored, change, rest_update}
use Rattle.hardware.specs.Poll.{polled, poll, rest_poll}
use Rattle.hardware.specs.Runs.{Ends, EndsOver, Awaited, run, on_answer, ended}
use Rattle.hardware.specs.declared.Update.{Update}
use Rattle.hardware.specs.declared.Update.TheVariants.{Reading, Writing, Flushing}
use Rattle.hardware.specs.declared.poll.Poll.{Poll}
use Rattle.hardware.specs.declared.poll.Poll.TheVariants.{Reading as Polling, Waiting}

-- more answers do no harm
pub ends_more : {A : Type 0} (p : Prog A) (n m : ℕ) → Ends p n → n ≤ m → Ends p m
unfolding Ends
ends_more (ret v) n m e h = tt
ends_more (ask x f) zero m e h = absurd e
ends_more (ask x f) (suc n) zero e h = absurd (omega arith)
ends_more (ask x f) (suc n) (suc m) e h = λ a t. ends_more (f a) n m (e a t) (omega arith)
ends_more (note k p) n m e h = ends_more p n m e h
ends_more (give b p) n m e h = ends_more p n m e h

-- one call after another
pub ends_bind : {A B : Type 0} (p : Prog A) (k : A → Prog B) (n m : ℕ) → Ends p n → ((a : A) → Ends (k a) m) → Ends (p >>= k) (n + m)
unfolding Ends ◌>>=◌
ends_bind (ret a) k n m e d = ends_more (k a) m (n + m) (d a) (omega arith)
ends_bind (ask x f) k zero m e d = absurd e
ends_bind (ask x f) k (suc n) m e d = rw suc-add (λ a t. ends_bind (f a) k n m (e a t) d)
ends_bind (note j p) k n m e d = ends_bind p k n m e d
ends_bind (give b p) k n m e d = ends_bind p k n m e d

-- the same where a failure ends the call
pub ends_or : {A B : Type 0} (k : A → Prog (R B)) (r : R A) (m : ℕ) → ((a : A) → Ends (k a) m) → Ends (or_err k r) m
unfolding Ends or_err
ends_or k (Ok a) m d = d a
ends_or k (Err e) m d = tt

pub ends_try : {A B : Type 0} (p : Prog (R A)) (k : A → Prog (R B)) (n m : ℕ) → Ends p n → ((a : A) → Ends (k a) m) → Ends (p >>? k) (n + m)
ends_try p k n m e d = ends_bind p (or_err k) n m e (λ r. ends_or k r m d)

pub ends_pick : {A : Type 0} (b : Bool) (p q : Prog A) (n : ℕ) → Ends p n → Ends q n → Ends (pick b p q) n
unfolding pick
ends_pick true p q n e d = e
ends_pick false p q n e d = d

-- the notes take no answers
ends_noted : {A : Type 0} (b : Bool) (k : Note) (p : Prog A) (n : ℕ) → Ends p n → Ends (note_if b k p) n
unfolding Ends
ends_noted true k p n e = e
ends_noted false k p n e = e

pub ends_heard : {A : Type 0} (left : ℕ) (p : Prog A) (n : ℕ) → Ends p n → Ends (acknowledged left p) n
unfolding acknowledged
ends_heard left p n e = ends_noted (ltb left 10) _ p n e

pub ends_erase : {A : Type 0} (p : Prog A) (n : ℕ) → Ends p n → Ends (erase p) n
unfolding Ends erase
ends_erase (ret v) n e = tt
ends_erase (ask x f) zero e = absurd e
ends_erase (ask x f) (suc n) e = λ a t. ends_erase (f a) n (e a t)
ends_erase (note k p) n e = ends_noted (is_told k) k (erase p) n (ends_erase p n e)
ends_erase (give b p) n e = ends_erase p n e

-- nor does the meter
pub ends_tally : {A : Type 0} (m : Meter) (p : Prog A) (n : ℕ) → Ends p n → Ends (tally m p) n
unfolding Ends tally
ends_tally m (ret v) n e = tt
ends_tally m (ask x f) zero e = absurd e
ends_tally m (ask x f) (suc n) e = λ a t. ends_tally m (f a) n (e a t)
ends_tally m (note k p) n e = ends_tally (metered k m) p n e
ends_tally m (give b p) n e = ends_tally m p n e

-- what has ended needs none
pub ret_ends : {A : Type 0} (v : A) (n : ℕ) → Ends (ret v) n
unfolding Ends
ret_ends v n = tt

pub note_ends : {A : Type 0} (k : Note) (p : Prog A) (n : ℕ) → Ends p n → Ends (note k p) n
unfolding Ends
note_ends k p n e = e

-- one access, whatever follows it
pub ask_ends : {A : Type 0} (x : Access) (f : Answer → Prog A) (n : ℕ) → ((a : Answer) → Ends (f a) n) → Ends (ask x f) (suc n)
unfolding Ends
ask_ends x f n d = λ a t. d a

pub read_ends : (register : ℕ) → Ends (read register) 1
read_ends register = ask_ends _ _ 0 (λ a. ret_ends _ 0)

pub read_raw_ends : (register : ℕ) → Ends (read_raw register) 1
read_raw_ends register = ask_ends _ _ 0 (λ a. ret_ends _ 0)

pub write_ends : (register v : ℕ) → Ends (write register v) 1
write_ends register v = ask_ends _ _ 0 (λ a. ret_ends _ 0)

pub flush_ends : Ends flush 1
flush_ends = ask_ends _ _ 0 (λ a. ret_ends _ 0)

pub delay_ends : (us : ℕ) → Ends (delay us) 1
delay_ends us = ask_ends _ _ 0 (λ a. ret_ends _ 0)

-- a change is a read, a write and, where it is asked for, a flush
settled_ends : (b : Bool) → Ends (settled b) 1
unfolding settled
settled_ends true = flush_ends
settled_ends false = ret_ends _ 1

pub change_ends : (c : Change) → Ends (change c) 3
unfolding change stored
change_ends c = ends_try _ _ 1 2 (read_ends _) (λ v. ends_try _ _ 1 1 (write_ends _ _) (λ _. settled_ends _))

pub unflushed_ends : (c : Change) → c.flushed ≡ false → Ends (change c) 2
unfolding change stored settled
unflushed_ends c e = ends_try _ _ 1 1 (read_ends _) (λ v. ends_try _ _ 1 0 (write_ends _ _) (λ _. rw e (ret_ends _ 0)))

-- each read of a poll is followed by a wait
pub poll_ends : (w : Watch) (n last : ℕ) → Ends (poll w n last) (2 * n)
unfolding poll polled
poll_ends w zero last = ret_ends _ 0
poll_ends w (suc n) last =
    ends_more _ (1 + (1 + 2 * n)) (2 * suc n)
    (ends_try _ _ 1 (1 + 2 * n) (read_ends _)
    (λ v. ends_pick _ _ _ (1 + 2 * n) (ret_ends _ _) (ends_try _ _ 1 (2 * n) (delay_ends _) (λ _. poll_ends w n v))))
    (omega arith)

-- the answers that a change in progress may still need after the one it awaits, and a poll
abbrev pub update_after : Update → ℕ
update_after Reading = 2
update_after (Writing v) = 1
update_after Flushing = 0

abbrev pub poll_after : Poll → ℕ
poll_after (Polling left) = 1 + 2 * left
poll_after (Waiting left last) = 2 * left

pub update_rest_ends : (c : Change) (t : Update) (a : Answer) → Ends (rest_update c t a) (update_after t)
unfolding rest_update stored
update_rest_ends c Reading a = ends_or _ _ 2 (λ v. ends_try _ _ 1 1 (write_ends _ _) (λ _. settled_ends _))
update_rest_ends c (Writing v) a = ends_or _ _ 1 (λ _. settled_ends _)
update_rest_ends c Flushing a = ret_ends _ 0

pub poll_rest_ends : (w : Watch) (t : Poll) (a : Answer) → Ends (rest_poll w t a) (poll_after t)
unfolding rest_poll polled
poll_rest_ends w (Polling left) a =
    ends_or _ _ (1 + 2 * left) (λ v. ends_pick _ _ _ (1 + 2 * left) (ret_ends _ _) (ends_try _ _ 1 (2 * left) (delay_ends _) (λ _. poll_ends w left v)))
poll_rest_ends w (Waiting left last) a = poll_ends w left last

-- a run over enough answers of the awaited kinds ends
pub run_ends : {A : Type 0} (p : Prog A) (n : ℕ) (l : List Answer) → Ends p n → n ≤ length l → Awaited p l → (v : A) × ((run p l).status ≡ ended v)
unfolding Ends Awaited run on_answer
run_ends (ret v) n l e h w = (v, refl)
run_ends (ask x f) zero l e h w = absurd e
run_ends (ask x f) (suc n) [] e h w = absurd (omega arith)
run_ends (ask x f) (suc n) (a ∷ l) e h w = run_ends (f a) n l (e a w.0) (omega arith) w.1
run_ends (note k p) n l e h w = run_ends p n l e h w
run_ends (give b p) n l e h w = run_ends p n l e h w

-- an answer of the kind that an access awaits
answer_to : Access → Answer
answer_to (Read r) = Value 0
answer_to (Write r v) = Done
answer_to (Wait t) = Done

answer_fits : (x : Access) → T (fits x (answer_to x))
unfolding fits answer_to
answer_fits (Read r) = tt
answer_fits (Write r v) = tt
answer_fits (Wait t) = tt

dones : (n : ℕ) → (l : List Answer) × (length l ≡ n)
dones zero = ([], refl)
dones (suc n) = (Done ∷ (dones n).0, ap suc (dones n).1)

-- there are awaited answers, as many as one likes
pub awaited_list : {A : Type 0} (p : Prog A) (n : ℕ) → (l : List Answer) × Awaited p l × (length l ≡ n)
unfolding Awaited
awaited_list (ret v) n = ((dones n).0, tt, (dones n).1)
awaited_list (ask x f) zero = ([], tt, refl)
awaited_list (ask x f) (suc n) =
    let r = awaited_list (f (answer_to x)) n in
    (answer_to x ∷ r.0, (answer_fits x, r.1), ap suc r.2)
awaited_list (note k p) n = awaited_list p n
awaited_list (give b p) n = awaited_list p n

-- after a run that ends with v and uses up its answers, what follows is run over the answers behind
pub run_then : {A B : Type 0} (p : Prog A) (k : A → Prog B) (v : A) (l m : List Answer)
    → (run p l).status ≡ ended v → length (run p l).accesses ≡ length l
    → ((run (p >>= k) (l ++ m)).accesses ≡ (run p l).accesses ++ (run (k v) m).accesses) × ((run (p >>= k) (l ++ m)).status ≡ (run (k v) m).status)
unfolding run on_answer ◌>>=◌
run_then (ret w) k v [] m e h = let z : w ≡ v = cc in (ap (λ u. (run (k u) m).accesses) z, ap (λ u. (run (k u) m).status) z)
run_then (ret w) k v (a ∷ l) m e h = absurd (omega arith)
run_then (ask x f) k v [] m e h = let z : ◌≡◌ {A = ℕ} 0 1 = cc in absurd (omega arith)
run_then (ask x f) k v (a ∷ l) m e h = let r = run_then (f a) k v l m e (omega arith) in (ap (λ t. x ∷ t) r.0, r.1)
run_then (note n p) k v l m e h = run_then p k v l m e h
run_then (give b p) k v l m e h = run_then p k v l m e h

-- where one call after another has ended, the first has over a front part of the answers, and the second over those behind
pub run_parted : {A B : Type 0} (p : Prog A) (k : A → Prog B) (l : List Answer) (v : B) → (run (p >>= k) l).status ≡ ended v
    → (a : A) × (front : List Answer) × (behind : List Answer) × (l ≡ front ++ behind) × EndsOver p front a × ((run (k a) behind).status ≡ ended v)
unfolding EndsOver run on_answer ◌>>=◌
run_parted (ret a) k l v e = (a, [], l, refl, (refl, refl), e)
run_parted (ask x f) k [] v e = let z : ◌≡◌ {A = ℕ} 0 1 = cc in absurd (omega arith)
run_parted (ask x f) k (a ∷ l) v e =
    let (b, front, behind, parts, (ends, uses), after) = run_parted (f a) k l v e in
    (b, a ∷ front, behind, ap (λ t. a ∷ t) parts, (ends, ap suc uses), after)
run_parted (note n p) k l v e = run_parted p k l v e
run_parted (give b p) k l v e = run_parted p k l v e
