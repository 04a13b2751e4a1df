-- The machine that the driver's accesses meet: I2CCTL and, at the two lines, somebody else, behind a mux where ESDP is the
-- machine's too. Which accesses are its own, what it answers to them and what they make of it stand here and nowhere else.
use Rattle.std.specs.Prelude.{ℕ, Bool, false, ◌&&◌, ◌||◌, List, [], ◌∷◌, eqb}
use Rattle.hardware.specs.declared.Access.{Access}
use Rattle.hardware.specs.declared.Access.TheVariants.{Read, Write, Wait}
use Rattle.hardware.specs.declared.Answer.{Answer}
use Rattle.hardware.specs.declared.Answer.TheVariants.{Value, Done}
use Rattle.hardware.specs.Prog.{Note, pick}
use Rattle.hardware.specs.Registers.{ESDP}
use Rattle.bus.specs.declared.Layout.{Layout}
use Rattle.wire.specs.Lines.{Pulls, Edge, master, levels, edge, inputs}

-- The other side: its state, the lines that the master then feels pulled, what an edge or a note of the call makes of it. Beside
-- it stands what a register that the machine does not model may answer. muxed: ESDP is the machine's; what it reads as, what a
-- write of it makes of the other side, the master pulling so, and what is to be shown of an access to it
pub record Side : Type 1 where
  pub State : Type 0
  pub pulls : State → Pulls
  pub takes : Edge → State → State
  pub notes : Note → State → State
  pub may : ℕ → ℕ → Type 0
  pub muxed : Bool
  pub esdp : State → ℕ
  pub switched : Pulls → ℕ → State → State
  pub meets : Access → Pulls → State → Type 0

-- I2CCTL as last written, and the other side
pub record At (S : Type 0) : Type 0 where
  pub word : ℕ
  pub other : S

abbrev pub World : Side → Type 0
World o = At o.State

unfoldable pub takes_all : (o : Side) → List Edge → o.State → o.State
takes_all o [] s = s
takes_all o (e ∷ es) s = takes_all o es (o.takes e s)

-- the other side takes what it sees of a write by which the master's pulls m become n
unfoldable pub turn : (o : Side) → Pulls → Pulls → o.State → o.State
turn o m n s = takes_all o (edge (levels m (o.pulls s)) (levels n (o.pulls s))) s

unfoldable pub wrote : (l : Layout) (o : Side) → ℕ → World o → World o
wrote l o v w = record { word = v; other = turn o (master l w.word) (master l v) w.other }

unfoldable pub reading : (l : Layout) (o : Side) → World o → ℕ
reading l o w = inputs l (levels (master l w.word) (o.pulls w.other)) w.word

-- the registers that the machine models: I2CCTL, and ESDP where that is the machine's
unfoldable pub models : Layout → Side → ℕ → Bool
models l o register = eqb register l.reg || (eqb register ESDP && o.muxed)

-- the access is to one of them; any other is answered elsewhere
unfoldable pub modelled : Layout → Side → Access → Bool
modelled l o (Read r) = models l o r
modelled l o (Write r v) = models l o r
modelled l o (Wait n) = false

-- to I2CCTL
unfoldable pub at_lines : Layout → Access → Bool
at_lines l (Read r) = eqb r l.reg
at_lines l (Write r v) = eqb r l.reg
at_lines l (Wait n) = false

-- what the machine answers to an access of its own
unfoldable pub reply : (l : Layout) (o : Side) → Access → World o → Answer
reply l o (Read r) w = Value (pick (at_lines l (Read r)) (reading l o w) (o.esdp w.other))
reply l o (Write r v) w = Done
reply l o (Wait n) w = Done

-- ESDP was written
unfoldable pub switched : (l : Layout) (o : Side) → ℕ → World o → World o
switched l o v w = record { word = w.word; other = o.switched (master l w.word) v w.other }

-- and how it is then
unfoldable pub after : (l : Layout) (o : Side) → Access → World o → World o
after l o (Read r) w = w
after l o (Write r v) w = pick (at_lines l (Write r v)) (wrote l o v w) (switched l o v w)
after l o (Wait n) w = w

abbrev pub noted : (o : Side) → Note → World o → World o
noted o n w = record { word = w.word; other = o.notes n w.other }
