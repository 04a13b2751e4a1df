-- The second cage's mux: the X552's port 1 reaches its module only while bit 1 of ESDP is set.
use Rattle.std.specs.Prelude.{ℕ, Bool, not, ◌&&◌, ◌||◌, List, [], ◌∷◌, ◌==◌}
use Rattle.hardware.specs.declared.Family.TheVariants.{X552}
use Rattle.hardware.specs.declared.Port.{Port}
use Rattle.hardware.specs.Asked.{is}
use Rattle.hardware.specs.Prog.{pick}
use Rattle.hardware.specs.Registers.{none_of}
use Rattle.wire.specs.Lines.{Pulls, Levels, Edge, levels, edge}
use Rattle.wire.specs.Always.{nobody}
use Rattle.bench.specs.declared.Bench.{Bench}
use Rattle.bench.specs.Bench.{takes_edge, bench_pulls}

unfoldable pub has_mux : Port → Bool
has_mux port = is port.family X552 && port.lan == 1

-- the two sides feel each other's pulls: there is no mux, or it is on
unfoldable pub joins : Bool → ℕ → Bool
joins mux esdp = not mux || not (none_of esdp 2)

-- the pulls of one side as the other feels them
unfoldable pub across : Bool → Pulls → Pulls
across joined p = pick joined p nobody

-- The lines as the module sees them, the master pulling so: without the master, SDA by its own pull, and SCL high
unfoldable pub sees : Bool → Pulls → Bench → Levels
sees joined m b = levels (across joined m) (bench_pulls b)

unfoldable pub takes_edges : List Edge → Bench → Bench
takes_edges [] b = b
takes_edges (e ∷ es) b = takes_edges es (takes_edge e b)

-- its lines go from one pair of levels to another; where both move, SCL first
unfoldable pub moved : Levels → Levels → Bench → Bench
moved x y b = takes_edges (edge x y) b

-- ESDP is written, by which the mux is switched or not
unfoldable pub switched_to : Bool → Pulls → ℕ → ℕ → Bench → Bench
switched_to mux m old new b = moved (sees (joins mux old) m b) (sees (joins mux new) m b) b

-- an edge of the master's lines
unfoldable pub takes_through : Bool → ℕ → Edge → Bench → Bench
takes_through mux esdp e b = pick (joins mux esdp) (takes_edge e b) b
