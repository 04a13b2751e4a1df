-- I2CCTL with the bench module at the lines, and ESDP where the port has a mux.
use Rattle.std.specs.Prelude.{ℕ, Bool, true, false, ◌&&◌, Some, None}
use Rattle.hardware.specs.declared.Access.{Access}
use Rattle.hardware.specs.declared.Answer.{Answer}
use Rattle.hardware.specs.declared.Answer.TheVariants.{Done}
use Rattle.hardware.specs.Prog.{pick}
use Rattle.bus.specs.declared.Layout.{Layout}
use Rattle.wire.specs.Lines.{master, levels}
use Rattle.wire.specs.Machine.{Side, At, modelled, reply, after}
use Rattle.bench.specs.declared.Bench.{Bench}
use Rattle.bench.specs.declared.register.BenchState.{BenchState}
use Rattle.bench.specs.declared.register.Reply.{Reply}
use Rattle.bench.specs.Bench.{bench_pulls}
use Rattle.bench.specs.Mux.{joins, across, takes_through, switched_to}

-- the module, and ESDP as last written
pub record Caged : Type 0 where
  pub bench : Bench
  pub esdp : ℕ

-- the module as the driver's other side
abbrev pub side : Bool → Side
side mux =
    record {
      State = Caged;
      pulls = λ c. across (joins mux c.esdp) (bench_pulls c.bench);
      takes = λ e c. record { bench = takes_through mux c.esdp e c.bench; esdp = c.esdp };
      notes = λ n c. c;
      may = λ r v. Unit {0};
      muxed = mux;
      esdp = λ c. c.esdp;
      switched = λ m v c. record { bench = switched_to mux m c.esdp v c.bench; esdp = v };
      meets = λ x m c. Unit {0};
    }

abbrev pub world : BenchState → At Caged
world d = record { word = d.word; other = record { bench = d.bench; esdp = d.esdp } }

abbrev pub bench_state : At Caged → BenchState
bench_state w = record { word = w.word; esdp = w.other.esdp; bench = w.other.bench }

-- answered here, or left to the caller
abbrev pub here : Answer → BenchState → Reply
here a d = record { answer = Some a; state = d }

abbrev pub elsewhere : BenchState → Reply
elsewhere d = record { answer = None; state = d }

-- the machine answers its own accesses; any other is the caller's
unfoldable pub accessed : Layout → Bool → Access → BenchState → Reply
accessed l mux x d =
    pick (modelled l (side mux) x) (here (reply l (side mux) x (world d)) (bench_state (after l (side mux) x (world d)))) (elsewhere d)

-- both lines are released: neither side pulls either
unfoldable pub released : Layout → BenchState → Bool
released l d = (levels (master l d.word) (bench_pulls d.bench)).scl && (levels (master l d.word) (bench_pulls d.bench)).sda
