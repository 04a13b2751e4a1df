-- A program run with the machine, and where the answers to all other accesses come from.
use Rattle.std.specs.Prelude.{ℕ, List, [], ◌∷◌}
use Rattle.hardware.specs.declared.Access.{Access}
use Rattle.hardware.specs.declared.Answer.{Answer}
use Rattle.hardware.specs.Asked.{Asked, no, yes, fits}
use Rattle.hardware.specs.Prog.{Prog, ret, ask, note, give, Note, pick}
use Rattle.bus.specs.declared.Layout.{Layout}
use Rattle.wire.specs.Machine.{Side, World, modelled, reply, after, noted}

-- What a source gives for an access: an answer and the answers then left, nothing, or the number with which the run stops
pub data Given : Type 0 where
  given : Answer → List Answer → Given
  nothing : Given
  refused : ℕ → Given

-- by the access and the answers left
abbrev pub Source : Type 0
Source = Access → List Answer → Given

-- the next answer of the list
unfoldable pub listed : Source
listed x [] = nothing
listed x (a ∷ answers) = given a answers

-- an answer fixed by the access; the list is not looked at
unfoldable pub fixed : (Access → Answer) → Source
fixed f x answers = given (f x) answers

-- 12: the answer is of another kind than the awaited, and a step of the library refuses it
unfoldable pub kind_asked : Access → Given → Given
kind_asked x (given a answers) = pick (fits x a) (given a answers) (refused 12)
kind_asked x nothing = nothing
kind_asked x (refused n) = refused n

abbrev pub kind_checked : Source → Source
kind_checked s x answers = kind_asked x (s x answers)

-- What happens in a run: an access of the machine's own, the machine being so before it; another register gives an answer;
-- something is noted
pub data Event (W : Type 0) : Type 0 where
  at_machine : Access → W → Event W
  answered : Access → Answer → Event W
  noticed : Note → Event W

-- How a run ends: with the call's result, for want of answers, or stopped with a number; W: the machine's world then
pub data BenchOutcome (W A : Type 0) : Type 0 where
  ended : A → W → BenchOutcome W A
  short : W → BenchOutcome W A
  stopped : ℕ → W → BenchOutcome W A

-- the call came to its end
unfoldable pub Finished : {W A : Type 0} → BenchOutcome W A → Type 0
Finished (ended a w) = Unit {0}
Finished (short w) = ⊥
Finished (stopped n w) = ⊥

pub record BenchRun (W A : Type 0) : Type 0 where
  pub trace : List (Event W)
  pub outcome : BenchOutcome W A

abbrev pub saw : {W A : Type 0} → Event W → BenchRun W A → BenchRun W A
saw e r = record { trace = e ∷ r.trace; outcome = r.outcome }

abbrev pub halted : {W A : Type 0} → BenchOutcome W A → BenchRun W A
halted e = record { trace = []; outcome = e }

-- by what a source gives; k goes on from there
unfoldable pub proceed : {W A : Type 0} → Access → W → (Answer → List Answer → BenchRun W A) → Given → BenchRun W A
proceed x w k (given a answers) = saw (answered x a) (k a answers)
proceed x w k nothing = halted (short w)
proceed x w k (refused n) = halted (stopped n w)

-- the machine answers its own accesses, the source all others
unfoldable pub run : (l : Layout) (o : Side) → Source → {A : Type 0} → Prog A → World o → List Answer → BenchRun (World o) A
run l o s (ret a) w answers = halted (ended a w)
run l o s (ask x f) w answers =
    pick (modelled l o x)
    (saw (at_machine x w) (run l o s (f (reply l o x w)) (after l o x w) answers))
    (proceed x w (λ a rest. run l o s (f a) w rest) (s x answers))
run l o s (note n p) w answers = saw (noticed n) (run l o s p (noted o n w) answers)
run l o s (give b p) w answers = run l o s p w answers

-- the answers that other registers gave in a run
unfoldable pub answers_in : {W : Type 0} → List (Event W) → List Answer
answers_in [] = []
answers_in (at_machine x w ∷ es) = answers_in es
answers_in (answered x a ∷ es) = a ∷ answers_in es
answers_in (noticed n ∷ es) = answers_in es

-- a call as its opening promises it: refused with a number, or run
unfoldable pub run_asked : (l : Layout) (o : Side) → Source → {A : Type 0} → Asked (Prog A) → World o → List Answer → BenchOutcome (World o) A
run_asked l o s (no n) w answers = stopped n w
run_asked l o s (yes p) w answers = (run l o s p w answers).outcome
