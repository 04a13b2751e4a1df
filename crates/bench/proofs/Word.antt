-- How each bit of I2CCTL reads with the bench module at the lines.
use Rattle.std.proofs.Common.{◌≡◌, ℕ, ◌^◌, ◌<◌, min, max, Bool, true, false, not, ◌||◌, ◌⊎◌, refl, ◌∙◌, inl, inr, lit<}
use Rattle.hardware.specs.Prog.{pick}
use lib.Pow.{pow-lt}
use Rattle.hardware.specs.declared.Family.{Family}
use Rattle.hardware.specs.Registers.{not32, none_of}
use Rattle.bus.specs.Layout.{layout_of}
use Rattle.wire.specs.Bits.{OneBit, absent, at}
use Rattle.wire.specs.Lines.{pulls_sda, pulls_scl, master, levels, inputs, input}
use Rattle.wire.specs.Machine.{reading}
use Rattle.wire.proofs.Words.{reads_sda, reads_scl}
use Rattle.wire.proofs.Bits.{bit, bit_two, bit_or_lem, bit_and_lem, bit_not}
use Rattle.wire.proofs.Distinct.{distinct}
use Rattle.bench.specs.declared.register.BenchState.{BenchState}
use Rattle.bench.specs.declared.Bench.{Bench}
use Rattle.bench.specs.Bench.{bench_pulls}
use Rattle.bench.specs.Mux.{joins, across}
use Rattle.bench.specs.Register.{side, world}
use Rattle.bench.proofs.Laws.{or_false}

one_lt : {m : ℕ} → OneBit m → m < 2 ^ 32
one_lt absent = lit< tt
one_lt (at k h) = pow-lt h

-- an input bit changes no other
input_keeps : (k m w : ℕ) (v : Bool) → k < 32 → m < 2 ^ 32 → bit k m ≡ 0 → bit k (input m v w) ≡ bit k w
unfolding input
input_keeps k m w true h b z = bit_or_lem k w m ∙ rw z (by _ (bit_two k w))
  where
    by : (a : ℕ) → (a ≡ 0) ⊎ (a ≡ 1) → max a 0 ≡ a
    by a (inl e) = rw e
    by a (inr e) = rw e
input_keeps k m w false h b z = bit_and_lem k w (not32 m) ∙ rw (bit_not k m h b, z) (by _ (bit_two k w))
  where
    by : (a : ℕ) → (a ≡ 0) ⊎ (a ≡ 1) → min a 1 ≡ a
    by a (inl e) = rw e
    by a (inr e) = rw e

-- every bit but the two inputs reads as last written
pub reads_as_written : (f : Family) (mux : Bool) (d : BenchState) (k : ℕ) → k < 32 → bit k (layout_of f).sdain ≡ 0 → bit k (layout_of f).sclin ≡ 0
    → bit k (reading (layout_of f) (side mux) (world d)) ≡ bit k d.word
unfolding reading inputs
reads_as_written f mux d k h sda scl =
    input_keeps k (layout_of f).sdain _ _ h (one_lt (distinct f).bits.1.1.0) sda ∙ input_keeps k (layout_of f).sclin d.word _ h (one_lt (distinct f).bits.0) scl

not_not : (b : Bool) → not (not b) ≡ b
not_not true = refl
not_not false = refl

-- the module never pulls SCL
scl_free : (joined : Bool) (b : Bench) → (across joined (bench_pulls b)).scl ≡ false
unfolding across pick
scl_free true b = refl
scl_free false b = refl

-- the two inputs read 0 where the master pulls the line, or feels the module pull it
pub reads_data : (f : Family) (mux : Bool) (d : BenchState)
    → none_of (reading (layout_of f) (side mux) (world d)) (layout_of f).sdain ≡ (pulls_sda (layout_of f) d.word || (across (joins mux d.esdp) (bench_pulls d.bench)).sda)
unfolding reading levels master
reads_data f mux d = reads_sda (layout_of f) (distinct f) _ d.word ∙ not_not (pulls_sda (layout_of f) d.word || _)

pub reads_clock : (f : Family) (mux : Bool) (d : BenchState) → none_of (reading (layout_of f) (side mux) (world d)) (layout_of f).sclin ≡ pulls_scl (layout_of f) d.word
unfolding reading levels master
reads_clock f mux d =
    reads_scl (layout_of f) (distinct f) _ d.word
    ∙ not_not (pulls_scl (layout_of f) d.word || _) ∙ rw (scl_free (joins mux d.esdp) d.bench) (or_false (pulls_scl (layout_of f) d.word))
