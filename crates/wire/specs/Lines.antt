-- The lines SDA and SCL between the driver, who is the master, and somebody else: who pulls them, how high they are,
-- what UM10204 calls their changes, and how I2CCTL reads.
use Rattle.std.specs.Prelude.{ℕ, ◌≡◌, Bool, true, false, not, ◌&&◌, ◌||◌, List, [], ◌∷◌, ◌++◌, ◌⊎◌, T, eqb}
use Rattle.std.specs.Int.Bits.{bit_and, bit_or}
use Rattle.hardware.specs.Registers.{STATUS, not32, none_of}
use Rattle.bus.specs.declared.Layout.{Layout}
use Rattle.wire.specs.Bits.{OneBit}

-- true: somebody pulls the line
pub record Pulls : Type 0 where
  pub sda : Bool
  pub scl : Bool

abbrev pub drawn : Bool → Bool → Pulls
drawn a b = record { sda = a; scl = b }

-- true: the line is high
pub record Levels : Type 0 where
  pub sda : Bool
  pub scl : Bool

-- BB_EN is set. Only the X552 layout has it; on the other the outputs always drive the lines
unfoldable pub banging : Layout → ℕ → Bool
banging l w = eqb l.bben 0 || not (none_of w l.bben)

-- The master pulls where the output bit is 0; on the X552 layout only with BB_EN set and the active-low enable 0. On
-- the other the enable's mask is 0, and no word has a bit of it
unfoldable pub pulling : Layout → ℕ → ℕ → ℕ → Bool
pulling l oen out w = banging l w && none_of w oen && none_of w out

unfoldable pub pulls_sda : Layout → ℕ → Bool
pulls_sda l w = pulling l l.sdaoen l.sdaout w

unfoldable pub pulls_scl : Layout → ℕ → Bool
pulls_scl l w = pulling l l.scloen l.sclout w

unfoldable pub master : Layout → ℕ → Pulls
master l w = drawn (pulls_sda l w) (pulls_scl l w)

-- What the claim about a whole identification asks of I2CCTL at its start: on the X552 layout BB_EN is set or both
-- enables are off, on the other anything
unfoldable pub ready : Layout → ℕ → Bool
ready l w = banging l w || not (none_of w l.sdaoen) && not (none_of w l.scloen)

-- a line is low if either side pulls it
unfoldable pub levels : Pulls → Pulls → Levels
levels m p = record { sda = not (m.sda || p.sda); scl = not (m.scl || p.scl) }

-- at most one of the master's two pulls changes
abbrev pub OneMoves : Pulls → Pulls → Type 0
OneMoves m n = (m.sda ≡ n.sda) ⊎ (m.scl ≡ n.scl)

-- UM10204: START is SDA falling while SCL is high, STOP is SDA rising while SCL is high, a bit is SDA at the rise of
-- SCL. Fall: SCL falls
pub data Edge : Type 0 where
  START STOP Fall : Edge
  Bit : Bool → Edge

-- SCL before and after, SDA meanwhile
unfoldable pub scl_edge : Bool → Bool → Bool → List Edge
scl_edge false true sda = Bit sda ∷ []
scl_edge true false sda = Fall ∷ []
scl_edge true true sda = []
scl_edge false false sda = []

-- SCL meanwhile, SDA before and after
unfoldable pub sda_edge : Bool → Bool → Bool → List Edge
sda_edge true true false = START ∷ []
sda_edge true false true = STOP ∷ []
sda_edge true true true = []
sda_edge true false false = []
sda_edge false before after = []

-- From one pair of levels to the next: at most one edge where one line moves. Where both move, SCL moves first and sees
-- the old SDA
unfoldable pub edge : Levels → Levels → List Edge
edge x y = scl_edge x.scl y.scl x.sda ++ sda_edge y.scl x.sda y.sda

-- an input bit as its line
unfoldable pub input : ℕ → Bool → ℕ → ℕ
input m true w = bit_or w m
input m false w = bit_and w (not32 m)

-- I2CCTL reads as last written, its two input bits as the lines
unfoldable pub inputs : Layout → Levels → ℕ → ℕ
inputs l v w = input l.sdain v.sda (input l.sclin v.scl w)

-- What is known of a control word: bit-banging is enabled, and which lines the master pulls with it
pub record Drives (l : Layout) (m : Pulls) (w : ℕ) : Type 0 where
  pub enabled : banging l w ≡ true
  pub lines : master l w ≡ m

-- What is known of I2CCTL as last written, before a start or between two line calls
pub record Rests (l : Layout) (m : Pulls) (w : ℕ) : Type 0 where
  pub fit : ready l w ≡ true
  pub lines : master l w ≡ m

-- What is known between two line calls: ctl is the word that the driver holds, w is I2CCTL as last written
pub record Known (l : Layout) (m : Pulls) (ctl w : ℕ) : Type 0 where
  pub held : Drives l m ctl
  pub now : Rests l m w

abbrev pub masks : Layout → List ℕ
masks l = l.sclin ∷ l.sclout ∷ l.sdain ∷ l.sdaout ∷ l.sdaoen ∷ l.scloen ∷ l.bben ∷ []

-- m has no bit of any of them
abbrev pub clear_of : ℕ → List ℕ → Bool
clear_of m [] = true
clear_of m (n ∷ ns) = eqb (bit_and m n) 0 && clear_of m ns

-- no two of them have a bit in common
abbrev pub apart : List ℕ → Bool
apart [] = true
apart (m ∷ ms) = clear_of m ms && apart ms

abbrev pub Each : {X : Type 0} → (X → Type 0) → List X → Type 0
Each P [] = Unit {0}
Each P (x ∷ xs) = P x × Each P xs

-- All that the laws of the line calls need of a layout: each mask is one bit of 32 or 0, no two share a bit, the inputs
-- and outputs are there, the three that only the X552 layout has are there together, and I2CCTL is not STATUS
pub record Distinct (l : Layout) : Type 0 where
  pub bits : Each OneBit (masks l)
  pub apart : T (apart (masks l))
  pub sdain : eqb l.sdain 0 ≡ false
  pub sclin : eqb l.sclin 0 ≡ false
  pub sdaout : eqb l.sdaout 0 ≡ false
  pub sclout : eqb l.sclout 0 ≡ false
  pub sdaoen : eqb l.sdaoen 0 ≡ eqb l.bben 0
  pub scloen : eqb l.scloen 0 ≡ eqb l.bben 0
  pub reg : eqb STATUS l.reg ≡ false
