-- The line calls, the commands and the clearing sequences note nothing but acknowledgements, so that no attempt begins in them.
use Prim.Native.Nat.{ℕ}
use mathlib.Core.Path.{◌≡◌, refl}
use mathlib.Core.Bool.{Bool, true, false}
use mathlib.Core.List.{List, [], ◌∷◌}
use Rattle.hardware.specs.declared.Answer.{Answer}
use Rattle.hardware.specs.Prog.{Note, Attempt, Acquires, Acquired, Released, Lapsed, Acknowledged, Prog, ret, ask, note, give, pick, ◌>>=◌}
use Rattle.hardware.specs.Runs.{transfers_in, samples_in, Sample, Samples}
use Rattle.bus.specs.declared.Layout.{Layout}
use Rattle.bus.specs.declared.Taken.{Taken}
use Rattle.bus.specs.Bus.{Bus, done, clear, clear_rounds}
use Rattle.bus.proofs.Spreads.{Spreads, clear_holds, clear_rounds_holds}

abbrev pub Heard : Note → Type 0
Heard Attempt = ⊥
Heard Acquires = ⊥
Heard Acquired = ⊥
Heard Released = ⊥
Heard Lapsed = ⊥
Heard (Acknowledged sample) = Sample sample

unfoldable pub Noteless : {A : Type 0} → Prog A → Type 0
Noteless (ret v) = Unit {0}
Noteless (ask x f) = (a : Answer) → Noteless (f a)
Noteless (note n p) = Heard n × Noteless p
Noteless (give b p) = Noteless p

abbrev pub NotelessBus : Bus → Type 0
NotelessBus k = (ctl : ℕ) → Noteless (k ctl)

pub transfers_none : {A : Type 0} (p : Prog A) (l : List Answer) → Noteless p → transfers_in p l ≡ 0
unfolding Noteless transfers_in
transfers_none (ret v) l e = refl
transfers_none (ask x f) [] e = refl
transfers_none (ask x f) (a ∷ l) e = transfers_none (f a) l (e a)
transfers_none (note Attempt p) l e = absurd e.0
transfers_none (note Acquires p) l e = absurd e.0
transfers_none (note Acquired p) l e = absurd e.0
transfers_none (note Released p) l e = absurd e.0
transfers_none (note Lapsed p) l e = absurd e.0
transfers_none (note (Acknowledged sample) p) l e = transfers_none p l e.1
transfers_none (give b p) l e = transfers_none p l e

pub samples_noteless : {A : Type 0} (p : Prog A) (l : List Answer) → Noteless p → Samples (samples_in p l)
unfolding Noteless samples_in Samples
samples_noteless (ret v) l e = tt
samples_noteless (ask x f) [] e = tt
samples_noteless (ask x f) (a ∷ l) e = samples_noteless (f a) l (e a)
samples_noteless (note Attempt p) l e = absurd e.0
samples_noteless (note Acquires p) l e = absurd e.0
samples_noteless (note Acquired p) l e = absurd e.0
samples_noteless (note Released p) l e = absurd e.0
samples_noteless (note Lapsed p) l e = absurd e.0
samples_noteless (note (Acknowledged sample) p) l e = (e.0, samples_noteless p l e.1)
samples_noteless (give b p) l e = samples_noteless p l e

pub ret_noteless : {A : Type 0} (v : A) → Noteless (ret v)
unfolding Noteless
ret_noteless v = tt

pub bind_noteless : {A B : Type 0} (p : Prog A) (k : A → Prog B) → Noteless p → ((a : A) → Noteless (k a)) → Noteless (p >>= k)
unfolding Noteless ◌>>=◌
bind_noteless (ret a) k e d = d a
bind_noteless (ask x f) k e d = λ a. bind_noteless (f a) k (e a) d
bind_noteless (note n p) k e d = (e.0, bind_noteless p k e.1 d)
bind_noteless (give b p) k e d = bind_noteless p k e d

pub pick_noteless : {A : Type 0} (b : Bool) (p q : Prog A) → Noteless p → Noteless q → Noteless (pick b p q)
unfolding pick
pick_noteless true p q e d = e
pick_noteless false p q e d = d

pub noteless_spreads : Spreads Noteless
unfolding Noteless
noteless_spreads = record { asked = λ x f e. e; failed = λ e ctl. tt; noted = λ sample p h e. (h, e) }

pub done_noteless : (t : Taken) → NotelessBus (done t)
done_noteless t ctl = ret_noteless _

pub clear_noteless : (l : Layout) → NotelessBus (clear l)
clear_noteless l = clear_holds Noteless noteless_spreads done_noteless bind_noteless l

pub clear_rounds_noteless : (l : Layout) → NotelessBus (clear_rounds l)
clear_rounds_noteless l = clear_rounds_holds Noteless noteless_spreads done_noteless bind_noteless l
