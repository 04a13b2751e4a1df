-- What the module sees through the mux.
use Rattle.std.proofs.Common.{◌≡◌, ℕ, Bool, true, false, List, [], ◌∷◌, ◌++◌, sym, refl, ap, ◌∙◌}
use Rattle.hardware.specs.Prog.{pick}
use Rattle.wire.specs.Lines.{Pulls, Edge, levels, edge}
use Rattle.wire.specs.Machine.{takes_all, turn}
use Rattle.wire.proofs.Lines.{edge_none}
use Rattle.bench.specs.declared.Bench.{Bench}
use Rattle.bench.specs.Bench.{takes_edge, bench_pulls}
use Rattle.bench.specs.Mux.{joins, across, sees, takes_edges, moved, takes_through}
use Rattle.bench.specs.Register.{side}

pub edges_append : (xs ys : List Edge) (b : Bench) → takes_edges (xs ++ ys) b ≡ takes_edges ys (takes_edges xs b)
unfolding takes_edges
edges_append [] ys b = refl
edges_append (x ∷ xs) ys b = edges_append xs ys (takes_edge x b)

-- edges of the master's lines, where it is felt and where it is not
takes_felt : (mux : Bool) (es : List Edge) (b : Bench) (e : ℕ) → joins mux e ≡ true
    → takes_all (side mux) es (record { bench = b; esdp = e }) ≡ record { bench = takes_edges es b; esdp = e }
unfolding takes_all takes_edges takes_through pick
takes_felt mux [] b e j = refl
takes_felt mux (x ∷ es) b e j = rw j (takes_felt mux es (takes_edge x b) e j)

takes_unfelt : (mux : Bool) (es : List Edge) (b : Bench) (e : ℕ) → joins mux e ≡ false
    → takes_all (side mux) es (record { bench = b; esdp = e }) ≡ record { bench = b; esdp = e }
unfolding takes_all takes_through pick
takes_unfelt mux [] b e j = refl
takes_unfelt mux (x ∷ es) b e j = rw j (takes_unfelt mux es b e j)

-- a write of I2CCTL, by what the module sees of its lines before and after
pub turn_moves : (mux : Bool) (m n : Pulls) (b : Bench) (e : ℕ)
    → turn (side mux) m n (record { bench = b; esdp = e }) ≡ record { bench = moved (sees (joins mux e) m b) (sees (joins mux e) n b) b; esdp = e }
unfolding turn moved sees across pick edge takes_edges levels
turn_moves mux m n b e = by (joins mux e) refl
  where
    by : (j : Bool) → joins mux e ≡ j → takes_all (side mux) (edge (levels m (across j (bench_pulls b))) (levels n (across j (bench_pulls b)))) (record { bench = b; esdp = e })
        ≡ record { bench = takes_edges (edge (levels (across j m) (bench_pulls b)) (levels (across j n) (bench_pulls b))) b; esdp = e }
    by true j = takes_felt mux _ b e j
    by false j = takes_unfelt mux _ b e j ∙ ap (λ es. record { bench = takes_edges es b; esdp = e }) (sym (edge_none _ _))
