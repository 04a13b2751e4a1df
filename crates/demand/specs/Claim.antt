-- What is claimed of a whole call of `identify` with the bench module. The module's edges are in `bench/specs`, the lines
-- and I2CCTL in `wire/specs`, classes and requests in `sfp/specs/Classes.antt`, `identify` in `sfp/specs/Identify.antt`.
use Rattle.std.specs.Prelude.{ℕ, ◌+◌, ◌<◌, ◌^◌, ◌≡◌, Bool, true, false, not, ◌||◌, List, T, eqb, get_or}
use Rattle.transfer.specs.declared.attempt.Sequence.{Sequence}
use Rattle.transfer.specs.declared.attempt.Sequence.TheVariants.{Pulses, Rounds}
use Rattle.i2c.specs.I2c.{standard}
use Rattle.hardware.specs.declared.Access.{Access}
use Rattle.hardware.specs.declared.Access.TheVariants.{Read, Write, Wait}
use Rattle.hardware.specs.declared.Answer.{Answer}
use Rattle.hardware.specs.declared.Answer.TheVariants.{Value, Done, Failed}
use Rattle.hardware.specs.declared.Meter.{Meter}
use Rattle.hardware.specs.declared.Port.{Port}
use Rattle.hardware.specs.Prog.{Prog, Note, Attempt, Acquires, Acquired, Released, Lapsed, Acknowledged, R, Ok, Err, pick, Counted, metered, tally, blank}
use Rattle.hardware.specs.Registers.{STATUS, none_of}
use Rattle.bus.specs.declared.Layout.{Layout}
use Rattle.bus.specs.Layout.{layout_of}
use Rattle.wire.specs.Lines.{Pulls, master, ready, Each}
use Rattle.wire.specs.Machine.{Side, At}
use Rattle.wire.specs.Always.{nobody}
use Rattle.wire.specs.Run.{listed, Event, at_machine, answered, noticed, BenchOutcome, ended, short, stopped, BenchRun, run}
use Rattle.bench.specs.declared.Bench.{Bench}
use Rattle.bench.specs.declared.Page.{Page}
use Rattle.bench.specs.declared.receiver.Stage.TheVariants.{Idle, AckWrite}
use Rattle.bench.specs.Bench.{pulls_low, bench_pulls}
use Rattle.bench.specs.Mux.{has_mux, joins, across, switched_to, takes_through}
use Rattle.sfp.specs.declared.Identity.{Identity}
use Rattle.sfp.specs.Classes.{Bytes, Class, class_of, requests}
use Rattle.sfp.specs.Identify.{absent, identify}

-- the module, ESDP as last written, and the meter of what the call noted so far
pub record CountedBench : Type 0 where
  pub bench : Bench
  pub esdp : ℕ
  pub meter : Meter

-- "The card stays in": no checked read is answered FFFFFFFF. Those of I2CCTL, and of ESDP with a
-- mux, are the machine's, those of STATUS a flush's
abbrev pub stays_in : ℕ → ℕ → Type 0
stays_in register v = T (eqb register STATUS || not (eqb v 0xffffffff))

-- the machine of a port, with a mux or without; meets: what is to be shown where ESDP is accessed
abbrev pub caged : Bool → (Access → Pulls → CountedBench → Type 0) → Side
caged mux meets =
    record {
      State = CountedBench;
      pulls = λ m. across (joins mux m.esdp) (bench_pulls m.bench);
      takes = λ e m. record { bench = takes_through mux m.esdp e m.bench; esdp = m.esdp; meter = m.meter };
      notes = λ n m. record { bench = m.bench; esdp = m.esdp; meter = metered n m.meter };
      may = stays_in;
      muxed = mux;
      esdp = λ m. m.esdp;
      switched = λ p v m. record { bench = switched_to mux p m.esdp v m.bench; esdp = v; meter = m.meter };
      meets = meets;
    }

abbrev pub machine : Port → Side
machine port = caged (has_mux port) (λ x p m. Unit {0})

-- I2CCTL, and the module with ESDP and the meter
abbrev pub BenchWorld : Type 0
BenchWorld = At CountedBench

-- The premises: no access fails and the card stays in, every answer being of the awaited kind
abbrev pub Works : Access → Answer → Type 0
Works (Read r) (Value v) = stays_in r v
Works (Read r) Done = ⊥
Works (Read r) Failed = ⊥
Works (Write r v) (Value u) = ⊥
Works (Write r v) Done = Unit {0}
Works (Write r v) Failed = ⊥
Works (Wait n) (Value v) = ⊥
Works (Wait n) Done = Unit {0}
Works (Wait n) Failed = ⊥

-- and no lock or grant runs out: none of the five bounded waits is noted to have lapsed
abbrev pub Comes : Note → Type 0
Comes Attempt = Unit {0}
Comes Acquires = Unit {0}
Comes Acquired = Unit {0}
Comes Released = Unit {0}
Comes Lapsed = ⊥
Comes (Acknowledged sample) = Unit {0}

unfoldable pub Premise : {W : Type 0} → Event W → Type 0
Premise (at_machine x w) = Unit {0}
Premise (answered x a) = Works x a
Premise (noticed n) = Comes n

-- the registers at the start: I2CCTL, and ESDP, which without a mux means nothing
pub record Start : Type 0 where
  pub word : ℕ
  pub esdp : ℕ

-- the start: any module, no transfer made yet
abbrev pub at_start : Start → Bench → BenchWorld
at_start start b = record { word = start.word; other = record { bench = b; esdp = start.esdp; meter = blank } }

-- a call run on the bench, over a list of answers to all accesses that are not the machine's own
abbrev pub bench_run : {A : Type 0} → Port → Prog A → Bench → Start → List Answer → BenchRun BenchWorld A
bench_run port p b start answers = run (layout_of port.family) (machine port) listed p (at_start start b) answers

-- Of two runs over the same answers, both at their end: that of a call, whose notes tell the transfers made, and that of the
-- library's, whose result tells them (`tally`)
unfoldable pub Told : {A : Type 0} → (A → BenchWorld → Type 0) → BenchOutcome BenchWorld A → BenchOutcome BenchWorld (Counted A) → Type 0
Told Q (ended a w) (ended c v) = (c ≡ record { meter = w.other.meter; result = a }) × Q a w
Told Q (ended a w) (short v) = ⊥
Told Q (ended a w) (stopped n v) = ⊥
Told Q (short w) o = ⊥
Told Q (stopped n w) o = ⊥

-- a call on the bench over a list of answers
module _ {A : Type 0} (port : Port) (p : Prog A) (b : Bench) (start : Start) (answers : List Answer) where
  -- the answers meet the premises
  unfoldable pub CallPremises : Type 0
  CallPremises = Each Premise (bench_run port p b start answers).trace

  -- both runs come to their end, and Q holds of it
  unfoldable pub CallComes : (A → BenchWorld → Type 0) → Type 0
  CallComes Q = Told Q (bench_run port p b start answers).outcome (bench_run port (tally blank p) b start answers).outcome

-- byte n of a page
abbrev pub byte_of : Page → Bytes
byte_of p n = get_or p.bytes n 0

-- what a call leaves, with so many transfers made: the module's bytes as they were, its receiver idle, both lines released, and the
-- slowest acknowledgement in the first sample
pub record Leaves (l : Layout) (b : Bench) (made : ℕ) (w : BenchWorld) : Type 0 where
  pub a0 : w.other.bench.a0.bytes ≡ b.a0.bytes
  pub a2 : w.other.bench.a2.bytes ≡ b.a2.bytes
  pub idle : w.other.bench.receiver.stage ≡ Idle
  pub master_released : master l w.word ≡ nobody
  pub module_released : bench_pulls w.other.bench ≡ nobody
  pub transfers : w.other.meter.transfers ≡ made
  pub slowest : w.other.meter.slowest ≡ 1

-- the four facts, of the module at the start, the result, and I2CCTL and the module at the end
unfoldable pub Says : R Identity → Class → Type 0
Says (Ok m) c = (m.kind ≡ c.kind) × (m.multispeed ≡ c.multispeed)
Says (Err e) c = ⊥

abbrev pub extra : Bench → ℕ
extra b = pick (pulls_low b) 1 0

pub record Facts (l : Layout) (b : Bench) (result : R Identity) (w : BenchWorld) : Type 0 where
  pub class : Says result (class_of (byte_of b.a0))
  pub leaves : Leaves l b (requests (byte_of b.a0) + extra b) w

-- the record of no module: NotPresent, every other field zero or false
unfoldable pub Absent : R Identity → Type 0
Absent (Ok m) = m ≡ absent
Absent (Err e) = ⊥

-- the module acknowledges, and a write is to follow
abbrev pub InAckWrite : Bench → Type 0
InAckWrite b = b.receiver.stage ≡ AckWrite

-- so many transfers made, and no byte acknowledged
abbrev pub unheard : ℕ → Meter
unheard made = record { transfers = made; slowest = 0 }

-- The starts from which a clearing sequence harms the module: the Rust's where it is in AckWrite, the other none
abbrev pub Harms : Sequence → Bench → Type 0
Harms Pulses b = InAckWrite b
Harms Rounds b = ⊥

-- The claim, of the end of the call: its result carries the number of transfers made; the four facts hold together exactly
-- where the sequence did not harm the module; where it did, the result is the record of no module after 11 transfers, in which
-- no byte was acknowledged
pub record Claimed (q : Sequence) (l : Layout) (b : Bench) (c : Counted (R Identity)) (w : BenchWorld) : Type 0 where
  pub count : c.meter ≡ w.other.meter
  pub facts : (Harms q b → ⊥) → Facts l b c.result w
  pub only : Facts l b c.result w → Harms q b → ⊥
  pub no_module : Harms q b → Absent c.result × (w.other.meter ≡ unheard 11)

-- the call that the claim is about
abbrev pub call : Sequence → Port → Prog (R Identity)
call q port = identify q port

-- ... of two runs over the same answers: the definition's, whose notes tell the transfers made, and the library's, whose
-- result tells them (`tally`); both come to their end
unfoldable pub Holds : Sequence → Layout → Bench → BenchOutcome BenchWorld (R Identity) → BenchOutcome BenchWorld (Counted (R Identity)) → Type 0
Holds q l b (ended r w) (ended c v) = (c.result ≡ r) × Claimed q l b c w
Holds q l b (ended r w) (short v) = ⊥
Holds q l b (ended r w) (stopped n v) = ⊥
Holds q l b (short w) o = ⊥
Holds q l b (stopped n w) o = ⊥

unfoldable pub Claim : Sequence → Port → Bench → Start → List Answer → Type 0
Claim q port b start answers =
    Holds q (layout_of port.family) b
    (bench_run port (call q port) b start answers).outcome
    (bench_run port (tally blank (call q port)) b start answers).outcome

-- With the default sequence, without exception: both runs come to their end, and the four facts hold
unfoldable pub ClaimByDefault : Port → Bench → Start → List Answer → Type 0
ClaimByDefault port b start answers = CallComes port (call standard port) b start answers (Facts (layout_of port.family) b)

-- "Some bit of it besides bit 1 being clear"
pub record Sound (esdp : ℕ) : Type 0 where
  pub bit : ℕ
  pub below : bit < 32
  pub other : eqb bit 1 ≡ false
  pub clear : none_of esdp (2 ^ bit) ≡ true

-- With a mux: the master pulls neither line when the call first sets the bit, before which it writes no I2CCTL; and ESDP, which
-- reads as last written, never reads FFFFFFFF
pub record Switchable (l : Layout) (start : Start) : Type 0 where
  pub released : master l start.word ≡ nobody
  pub sound : Sound start.esdp

-- "The control register starts as 01 allows": on the X552 layout BB_EN is set or both enables are off (`ready`)
pub record Allowed (port : Port) (start : Start) : Type 0 where
  pub fit : ready (layout_of port.family) start.word ≡ true
  pub mux : has_mux port ≡ true → Switchable (layout_of port.family) start

unfoldable pub Starts : Port → Bench → Start → Type 0
Starts port b start = ((n : ℕ) → byte_of b.a0 n < 256) × Allowed port start

-- the answers meet the premises
abbrev pub Premises : Sequence → Port → Bench → Start → List Answer → Type 0
Premises q port b start answers = CallPremises port (call q port) b start answers
