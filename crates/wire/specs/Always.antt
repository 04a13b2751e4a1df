-- What holds of a whole call on the lines, whatever the other registers answer.
use Rattle.std.specs.Prelude.{ℕ, ◌≡◌, Bool, true, false, List, [], ◌∷◌, ◌++◌}
use Rattle.hardware.specs.declared.Access.{Access}
use Rattle.hardware.specs.declared.Access.TheVariants.{Read, Write, Wait}
use Rattle.hardware.specs.declared.Answer.{Answer}
use Rattle.hardware.specs.declared.Answer.TheVariants.{Value, Done}
use Rattle.hardware.specs.Prog.{Prog, ret, ask, note, give, Note, Attempt, Acquires, Acquired, Released, Lapsed, Acknowledged, Ok}
use Rattle.bus.specs.declared.Layout.{Layout}
use Rattle.bus.specs.declared.Taken.{Taken}
use Rattle.bus.specs.Bus.{Held, Bus}
use Rattle.wire.specs.Lines.{Pulls, drawn, OneMoves, Edge, START, STOP, Bit, master, Rests, Known}
use Rattle.wire.specs.Machine.{Side, World, at_lines, modelled, reply, after, noted}

-- Nobody pulls more or less than p, and every edge is written down, the newest last
abbrev pub listener : Pulls → Side
listener p =
    record {
      State = List Edge;
      pulls = λ es. p;
      takes = λ e es. es ++ (e ∷ []);
      notes = λ n es. es;
      may = λ r v. Unit {0};
      muxed = false;
      esdp = λ es. 0;
      switched = λ m v es. es;
      meets = λ x m es. Unit {0};
    }

abbrev pub nobody : Pulls
nobody = drawn false false

abbrev pub Either : Bool → Type 0 → Type 0 → Type 0
Either true X Y = X
Either false X Y = Y

-- a register that the machine does not model answers by the access's kind, a read with any value that it may get
unfoldable pub ByKind : (ℕ → ℕ → Type 0) → Access → (Answer → Type 0) → Type 0
ByKind may (Read r) K = (v : ℕ) → may r v → K (Value v)
ByKind may (Write r v) K = K Done
ByKind may (Wait n) K = K Done

-- what is to be shown of an access of the machine's own: one to I2CCTL does not move both lines, one to ESDP is as the other side
-- asks
unfoldable pub Meets : (l : Layout) (o : Side) → Access → World o → Type 0
Meets l o x w = Either (at_lines l x) (OneMoves (master l w.word) (master l (after l o x w).word)) (o.meets x (master l w.word) w.other)

-- the machine answers its own accesses; every other gets any answer of its kind
unfoldable pub Answered : (l : Layout) (o : Side) → Access → (Answer → World o → Type 0) → World o → Type 0
Answered l o x K w =
    Either (modelled l o x) (Meets l o x w × K (reply l o x w) (after l o x w)) (ByKind o.may x (λ a. K a w))

-- where a lock or a grant runs out there is nothing to show
abbrev pub Kept : Note → Type 0 → Type 0
Kept Attempt X = X
Kept Acquires X = X
Kept Acquired X = X
Kept Released X = X
Kept Lapsed X = Unit {0}
Kept (Acknowledged sample) X = X

-- the call ends, and then Q holds of its result, I2CCTL and the other side
unfoldable pub Always : (l : Layout) (o : Side) {A : Type 0} → Prog A → World o → (A → World o → Type 0) → Type 0
Always l o (ret a) w Q = Q a w
Always l o (ask x f) w Q = Answered l o x (λ a w'. Always l o (f a) w' Q) w
Always l o (note n p) w Q = Kept n (Always l o p (noted o n w) Q)
Always l o (give b p) w Q = Always l o p w Q

-- what is claimed of the end of a program of line calls
abbrev pub Claim : Side → Type 1
Claim o = Held → World o → Type 0

-- So it goes with k, whatever word the driver holds and whatever I2CCTL holds, as long as the master pulls SDA (a) and
-- SCL (b) or doesn't, and the other side is in state s
pub record From (l : Layout) (o : Side) (a b : Bool) (s : o.State) (k : Bus) (Q : Claim o) : Type 0 where
  pub goes : (ctl w : ℕ) → Known l (drawn a b) ctl w → Always l o (k ctl) (record { word = w; other = s }) Q

-- the same before a start, which looks at I2CCTL first and so goes by no word that the driver holds
pub record FromRest (l : Layout) (o : Side) (a b : Bool) (s : o.State) (k : Bus) (Q : Claim o) : Type 0 where
  pub goes : (ctl w : ℕ) → Rests l (drawn a b) w → Always l o (k ctl) (record { word = w; other = s }) Q

-- what a start shows before its START, by the master's pulls at its beginning: SCL rises with SDA released, or SDA is
-- released while SCL is high
unfoldable pub start_lead : Bool → Bool → List Edge
start_lead a true = Bit true ∷ []
start_lead true false = STOP ∷ []
start_lead false false = []

-- what a stop shows before its STOP: SCL rises with SDA pulled, or SDA is pulled while SCL is high
unfoldable pub stop_lead : Bool → Bool → List Edge
stop_lead a true = Bit false ∷ []
stop_lead true false = []
stop_lead false false = START ∷ []

-- a call ended well with the bytes t, the listener wrote down the edges es and no others, and the master's pulls are m
abbrev pub Ended : (l : Layout) (p : Pulls) → Taken → List Edge → Pulls → Held → World (listener p) → Type 0
Ended l p t es m h w = (h.out ≡ Ok t) × (w.other ≡ es) × Rests l m w.word

-- so the call ends, alone on the lines with somebody who pulls p all the time, where I2CCTL was w
unfoldable pub Shows : (l : Layout) (p : Pulls) → Prog Held → ℕ → Taken → List Edge → Pulls → Type 0
Shows l p call w t es m = Always l (listener p) call (record { word = w; other = [] }) (Ended l p t es m)
