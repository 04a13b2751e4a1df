-- A call of the library run on the bench: what comes of it for every list of answers, refused ones included.
use Rattle.std.specs.Prelude.{◌≡◌, List}
use Rattle.transfer.specs.declared.attempt.Sequence.{Sequence}
use Rattle.i2c.specs.I2c.{standard}
use Rattle.hardware.specs.declared.Answer.{Answer}
use Rattle.hardware.specs.declared.Port.{Port}
use Rattle.hardware.specs.Asked.{Asked, no, yes}
use Rattle.hardware.specs.Prog.{R, Counted, tally, blank}
use Rattle.bus.specs.declared.Layout.{Layout}
use Rattle.bus.specs.Layout.{layout_of}
use Rattle.wire.specs.Machine.{At}
use Rattle.wire.specs.Run.{Source, kind_checked, BenchOutcome, ended, short, stopped, run}
use Rattle.bench.specs.declared.Bench.{Bench}
use Rattle.bench.specs.declared.register.BenchState.{BenchState}
use Rattle.bench.specs.Register.{Caged, side}
use Rattle.bench.specs.Mux.{has_mux}
use Rattle.sfp.specs.declared.Identity.{Identity}
use Rattle.sfp.specs.Identify.{identify}
use Rattle.demand.specs.Claim.{BenchWorld, Start, bench_run, Facts, Claimed, Premises}

-- the registers at the start
abbrev pub start_of : BenchState → Start
start_of d = record { word = d.word; esdp = d.esdp }

-- what the opening promises, run on the bench; a refused opening alters nothing
unfoldable pub identify_run : Sequence → Source → Asked Port → At Caged → List Answer → BenchOutcome (At Caged) (Counted (R Identity))
identify_run q s (no n) w answers = stopped n w
identify_run q s (yes port) w answers = (run (layout_of port.family) (side (has_mux port)) (kind_checked s) (tally blank (identify q port)) w answers).outcome

-- the count of transfers is the result's alone
abbrev pub forget : BenchWorld → At Caged
forget w = record { word = w.word; other = record { bench = w.other.bench; esdp = w.other.esdp } }

-- Demand 3 of a result: it is that of the definition's run, with the transfers that were made in it, and the claim holds of it
unfoldable pub Shown : Sequence → Layout → Bench → BenchOutcome BenchWorld (R Identity) → BenchOutcome (At Caged) (Counted (R Identity)) → Type 0
Shown q l b (ended r w) o = (o ≡ ended (record { meter = w.other.meter; result = r }) (forget w)) × Claimed q l b (record { meter = w.other.meter; result = r }) w
Shown q l b (short w) o = ⊥
Shown q l b (stopped n w) o = ⊥

unfoldable pub Demand3 : Sequence → Port → Bench → Start → List Answer → BenchOutcome (At Caged) (Counted (R Identity)) → Type 0
Demand3 q port b start answers o = Shown q (layout_of port.family) b (bench_run port (identify q port) b start answers).outcome o

-- Demand 3 of a result with no list lent: by some answers that meet the premises
unfoldable pub Demand3AtOnce : Sequence → Port → Bench → Start → BenchOutcome (At Caged) (Counted (R Identity)) → Type 0
Demand3AtOnce q port b start o = (answers : List Answer) × Premises q port b start answers × Demand3 q port b start answers o

-- With the default sequence, without exception
unfoldable pub ShownFacts : Layout → Bench → BenchOutcome BenchWorld (R Identity) → BenchOutcome (At Caged) (Counted (R Identity)) → Type 0
ShownFacts l b (ended r w) o = (o ≡ ended (record { meter = w.other.meter; result = r }) (forget w)) × Facts l b r w
ShownFacts l b (short w) o = ⊥
ShownFacts l b (stopped n w) o = ⊥

unfoldable pub Demand3ByDefault : Port → Bench → Start → List Answer → BenchOutcome (At Caged) (Counted (R Identity)) → Type 0
Demand3ByDefault port b start answers o = ShownFacts (layout_of port.family) b (bench_run port (identify standard port) b start answers).outcome o
