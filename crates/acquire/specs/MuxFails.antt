-- What is promised of an acquire whose write to the mux register fails: it reports the failure, and by what it exchanged with the card
-- before, its bits of SW_FW_SYNC are still taken. The mux register is ESDP, and its bit 1 switches the mux. The bit is set behind the bits of
-- SW_FW_SYNC; with TOKEN it is also cleared, where the token was asked for and did not come.
use Rattle.std.specs.Prelude.{ℕ, ◌≡◌, Bool, true, List, [], ◌∷◌, ◌++◌, ◌⊎◌}
use Rattle.std.specs.Int.Bits.{bit_or}
use Rattle.hardware.specs.declared.Access.{Access}
use Rattle.hardware.specs.declared.Access.TheVariants.{Read, Write}
use Rattle.hardware.specs.declared.Answer.{Answer}
use Rattle.hardware.specs.declared.Answer.TheVariants.{Value, Done, Failed}
use Rattle.hardware.specs.declared.Family.{Family}
use Rattle.hardware.specs.declared.Port.{Port}
use Rattle.hardware.specs.declared.change.Bits.TheVariants.{Set, Clear}
use Rattle.hardware.specs.Change.{changed}
use Rattle.hardware.specs.Failures.{Io}
use Rattle.hardware.specs.Prog.{Prog, ret, ask, note, give, R, Ok, Err}
use Rattle.hardware.specs.Registers.{ESDP}
use Rattle.hardware.specs.Runs.{run, ended}
use Rattle.sync.specs.Regs.{sw_fw_sync, bits}
use Rattle.sync.specs.Lock.{unlock}
use Rattle.sync.specs.Resource.{muxed}
use Rattle.hostif.specs.Hostif.{token}
use Rattle.hostif.specs.Acquire.{acquire}

-- accesses, each with its answer, the first one at the head
abbrev pub History : Type 0
History = List (Access × Answer)

-- the accesses that a run makes
unfoldable pub exchanged : {A : Type 0} → Prog A → List Answer → History
exchanged (ret v) l = []
exchanged (ask x f) [] = []
exchanged (ask x f) (a ∷ l) = (x, a) ∷ exchanged (f a) l
exchanged (note n p) l = exchanged p l
exchanged (give b p) l = exchanged p l

-- SW_FW_SYNC is written with the mask's bits; sync: what it is written with besides
abbrev pub bits_written : Family → ℕ → ℕ → Access
bits_written family mask sync = Write (sw_fw_sync family) (bit_or sync (bits family mask).sw)

-- The bits are taken: h ends with that write, done, and behind it the register semaphore given back by a call that succeeded
pub record BitsTaken (family : Family) (mask : ℕ) (h : History) : Type 0 where
  pub before : History
  pub sync : ℕ
  pub unlocking : List Answer
  pub unlocked : (run (unlock family) unlocking).status ≡ ended (Ok tt)
  pub exchange : h ≡ before ++ (bits_written family mask sync, Done) ∷ exchanged (unlock family) unlocking

-- The mux is being switched. The bits are taken, behind that ESDP was read, and that is all; v, to be written, is what was read with
-- bit 1 set
pub record StillTaken (family : Family) (mask : ℕ) (h : History) (v : ℕ) : Type 0 where
  pub first : History
  pub taken : BitsTaken family mask first
  pub esdp : ℕ
  pub value : v ≡ changed (Set 2) esdp
  pub exchange : h ≡ first ++ (Read ESDP, Value esdp) ∷ []

-- The bits are taken, behind that the mux is switched where the port has one, by a call that succeeded, and that is all
pub record Took (port : Port) (mask : ℕ) (h : History) : Type 0 where
  pub first : History
  pub taken : BitsTaken port.family mask first
  pub switching : List Answer
  pub switched : (run (muxed port mask true) switching).status ≡ ended (Ok tt)
  pub exchange : h ≡ first ++ exchanged (muxed port mask true) switching

-- The mux is being switched back. The bits are taken and the mux is switched, behind that the token was asked for and did not come, ESDP
-- was read, and that is all; v, to be written, is what was read with bit 1 cleared
pub record StillHeld (port : Port) (mask : ℕ) (h : History) (v : ℕ) : Type 0 where
  pub first : History
  pub took : Took port mask first
  pub asking : List Answer
  pub answer : R Bool
  pub answered : (run (token port true) asking).status ≡ ended answer
  pub denied : answer ≡ Ok true → ⊥
  pub esdp : ℕ
  pub value : v ≡ changed (Clear 2) esdp
  pub exchange : h ≡ first ++ (exchanged (token port true) asking ++ (Read ESDP, Value esdp) ∷ [])

-- with TOKEN, one or the other
abbrev pub StillOurs : Port → ℕ → History → ℕ → Type 0
StillOurs port mask h v = StillTaken port.family mask h v ⊎ StillHeld port mask h v

-- An acquire of a mask, run over l, awaits the write of v to ESDP: its failure ends the call with Io, and no access follows. Still: what
-- holds of the accesses before the write, and of v
pub record MuxFails (Still : History → ℕ → Type 0) (port : Port) (mask v : ℕ) (l : List Answer) : Type 0 where
  pub result : (run (acquire port mask) (l ++ Failed ∷ [])).status ≡ ended (Err Io)
  pub accesses : (run (acquire port mask) (l ++ Failed ∷ [])).accesses ≡ (run (acquire port mask) l).accesses ++ Write ESDP v ∷ []
  pub taken : Still (exchanged (acquire port mask) l) v
