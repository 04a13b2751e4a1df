-- The module with its master felt, and no access to ESDP: what the line calls of an attempt meet, with a mux that is on or without
-- one (`lifted` in `Mux.antt`).
use mathlib.Core.Bool.{true}
use Rattle.hardware.specs.Prog.{metered}
use Rattle.wire.specs.Machine.{Side}
use Rattle.bench.specs.Bench.{takes_edge, bench_pulls}
use Rattle.demand.specs.Claim.{CountedBench, stays_in}

abbrev pub direct : Side
direct =
    record {
      State = CountedBench;
      pulls = λ m. bench_pulls m.bench;
      takes = λ e m. record { bench = takes_edge e m.bench; esdp = m.esdp; meter = m.meter };
      notes = λ n m. record { bench = m.bench; esdp = m.esdp; meter = metered n m.meter };
      may = stays_in;
      muxed = true;
      esdp = λ m. m.esdp;
      switched = λ p v m. m;
      meets = λ x p m. ⊥;
    }
