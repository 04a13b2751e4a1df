-- Through the mux: what holds of an attempt where the master is felt holds with the mux on; a bit of ESDP that is set or cleared
-- where the master pulls neither line moves nothing.
use Prim.Native.Nat.{ℕ, ◌-◌, ◌^◌, ◌<◌, suc, zero}
use mathlib.Core.Path.{◌≡◌, refl, ap, ◌∙◌, sym}
use mathlib.Core.Bool.{Bool, true, false, true≢false}
use mathlib.Core.List.{List, [], ◌∷◌}
use lib.Bits.{bit_and, bit_or, and_zero_l}
use lib.Dec.{eqb, lit<}
use borrow.Author.Tests.{eqb-true}
use Rattle.hardware.specs.declared.Access.{Access}
use Rattle.hardware.specs.declared.Access.TheVariants.{Read, Write, Wait}
use Rattle.hardware.specs.declared.Answer.{Answer}
use Rattle.hardware.specs.declared.Answer.TheVariants.{Value, Done}
use Rattle.hardware.specs.declared.Port.{Port}
use Rattle.hardware.specs.Prog.{Prog, ret, ask, note, give, Attempt, Acquires, Acquired, Released, Lapsed, Acknowledged, pick}
use Rattle.hardware.specs.Registers.{ESDP, not32, none_of}
use Rattle.transfer.specs.declared.attempt.Sequence.{Sequence}
use Rattle.bus.specs.declared.Layout.{Layout}
use Rattle.wire.specs.Bits.{at}
use Rattle.wire.specs.Lines.{Pulls, Edge, edge, levels, master}
use Rattle.wire.specs.Machine.{takes_all, turn, wrote, reading, models, modelled, at_lines, reply, after, noted}
use Rattle.wire.specs.Always.{nobody, ByKind, Meets, Answered, Always}
use Rattle.wire.proofs.Bits.{bit, bit_suc, bit_not, none_bit, none_set, none_clear}
use Rattle.wire.proofs.Lines.{edge_none}
use Rattle.bench.specs.declared.Bench.{Bench}
use Rattle.bench.specs.Bench.{takes_edge}
use Rattle.bench.specs.Mux.{has_mux, joins, across, sees, takes_edges, moved, switched_to, takes_through}
use Rattle.demand.specs.Claim.{CountedBench, BenchWorld, Sound}
use Rattle.demand.specs.Mux.{watched}
use Rattle.demand.proofs.Direct.{direct}

-- ---- an attempt, which leaves ESDP alone

module _ (q : Sequence) (port : Port) (l : Layout) (e : ℕ) (on : joins (has_mux port) e ≡ true) where
  one_same : (x : Edge) (m : CountedBench) → m.esdp ≡ e → (watched q port).takes x m ≡ direct.takes x m
  unfolding takes_through pick
  one_same x m s =
      ap (λ t. record { bench = pick t (takes_edge x m.bench) m.bench; esdp = m.esdp; meter = m.meter }) (ap (joins (has_mux port)) s ∙ on)

  takes_same : (es : List Edge) (m : CountedBench) → m.esdp ≡ e → takes_all (watched q port) es m ≡ takes_all direct es m
  unfolding takes_all
  takes_same [] m s = refl
  takes_same (x ∷ es) m s = ap (takes_all (watched q port) es) (one_same x m s) ∙ takes_same es (direct.takes x m) s

  takes_esdp : (es : List Edge) (m : CountedBench) → (takes_all direct es m).esdp ≡ m.esdp
  unfolding takes_all
  takes_esdp [] m = refl
  takes_esdp (x ∷ es) m = takes_esdp es (direct.takes x m)

  turn_esdp : (p n : Pulls) (m : CountedBench) → (turn direct p n m).esdp ≡ m.esdp
  unfolding turn
  turn_esdp p n m = takes_esdp _ m

  feels_same : (m : CountedBench) → m.esdp ≡ e → (watched q port).pulls m ≡ direct.pulls m
  unfolding across pick
  feels_same m s = rw (s, on)

  turn_same : (p n : Pulls) (m : CountedBench) → m.esdp ≡ e → turn (watched q port) p n m ≡ turn direct p n m
  unfolding turn
  turn_same p n m s = ap (λ t. takes_all (watched q port) (edge (levels p t) (levels n t)) m) (feels_same m s) ∙ takes_same _ m s

  reading_same : (w : BenchWorld) → w.other.esdp ≡ e → reading l (watched q port) w ≡ reading l direct w
  unfolding reading
  reading_same w s = rw (feels_same w.other s)

  module _ {A : Type 0} (Q : A → BenchWorld → Type 0) where
    abbrev Lifts : Prog A → BenchWorld → Type 0
    Lifts p w = w.other.esdp ≡ e → Always l direct p w (λ a v. v.other.esdp ≡ e → Q a v) → Always l (watched q port) p w Q

    lift_read : (a b : Bool) (r : ℕ) (f : Answer → Prog A) (w : BenchWorld) → eqb r l.reg ≡ a → eqb r ESDP ≡ b
        → ((x : Answer) (v : BenchWorld) → Lifts (f x) v) → Lifts (ask (Read r) f) w
    unfolding Always Answered Meets modelled models at_lines reply after pick ByKind
    lift_read true b r f w d c h s k = let g = rw d at k in rw (d, reading_same w s) (g.0, h _ w s g.1)
    lift_read false true r f w d c h s k = absurd (rw (d, c) at k).0
    lift_read false false r f w d c h s k = let g = rw (d, c) at k in rw (d, c) (λ v m. h (Value v) w s (g v m))

    lift_write : (a b : Bool) (r v : ℕ) (f : Answer → Prog A) (w : BenchWorld) → eqb r l.reg ≡ a → eqb r ESDP ≡ b
        → ((x : Answer) (u : BenchWorld) → Lifts (f x) u) → Lifts (ask (Write r v) f) w
    unfolding Always Answered Meets modelled models at_lines reply after pick ByKind wrote
    lift_write true b r v f w d c h s k =
        let g = rw d at k in
        rw (d, turn_same (master l w.word) (master l v) w.other s) (g.0, h Done (record { word = v; other = turn direct (master l w.word) (master l v) w.other }) (turn_esdp _ _ w.other ∙ s) g.1)
    lift_write false true r v f w d c h s k = absurd (rw (d, c) at k).0
    lift_write false false r v f w d c h s k = let g = rw (d, c) at k in rw (d, c) (h Done w s g)

    lift_ask : (x : Access) (f : Answer → Prog A) (w : BenchWorld) → ((a : Answer) (v : BenchWorld) → Lifts (f a) v) → Lifts (ask x f) w
    unfolding Always Answered modelled ByKind
    lift_ask (Read r) f w h = lift_read _ _ r f w refl refl h
    lift_ask (Write r v) f w h = lift_write _ _ r v f w refl refl h
    lift_ask (Wait n) f w h = λ s k. h Done w s k

    pub lifted : (p : Prog A) (w : BenchWorld) → Lifts p w
    unfolding Always
    lifted (ret a) w s k = k s
    lifted (ask x f) w s k = lift_ask x f w (λ a v. lifted (f a) v) s k
    lifted (note Attempt p) w s k = lifted p (noted direct Attempt w) s k
    lifted (note Acquires p) w s k = lifted p (noted direct Acquires w) s k
    lifted (note Acquired p) w s k = lifted p (noted direct Acquired w) s k
    lifted (note Released p) w s k = lifted p (noted direct Released w) s k
    lifted (note Lapsed p) w s k = tt
    lifted (note (Acknowledged sample) p) w s k = lifted p (noted direct (Acknowledged sample) w) s k
    lifted (give b p) w s k = lifted p w s k

-- ---- ESDP: some bit besides bit 1 stays clear, so that it never reads FFFFFFFF

zero_none : (k : ℕ) → none_of 0 (2 ^ k) ≡ true
unfolding none_of
zero_none k = ap (λ t. eqb t 0) (and_zero_l (2 ^ k))

zero_bit : (k : ℕ) → bit k 0 ≡ 0
zero_bit k = eqb-true (bit k 0) 0 (sym (none_bit 0 k) ∙ zero_none k)

other_bit : (k : ℕ) → eqb k 1 ≡ false → none_of 2 (2 ^ k) ≡ true
unfolding none_of
other_bit zero e = refl
other_bit (suc zero) e = absurd (true≢false e)
other_bit (suc (suc k)) e =
    none_bit 2 (suc (suc k)) ∙ ap (λ t. eqb t 0) (bit_suc (suc k) 2 ∙ bit_suc k 1 ∙ zero_bit k)

pub sound_set : (e : ℕ) → Sound e → Sound (bit_or e 2)
sound_set e s = record { bit = s.bit; below = s.below; other = s.other; clear = none_set e 2 (at s.bit s.below) ∙ rw (other_bit s.bit s.other, s.clear) }

pub sound_clear : (e : ℕ) → Sound e → Sound (bit_and e (not32 2))
sound_clear e s = record { bit = s.bit; below = s.below; other = s.other; clear = none_clear e 2 (lit< tt) (at s.bit s.below) ∙ rw (other_bit s.bit s.other, s.clear) }

pub sound_present : (e : ℕ) → Sound e → eqb e 0xffffffff ≡ false
sound_present e s = by (eqb e 0xffffffff) refl
  where
    all : (k : ℕ) → k < 32 → none_of 0xffffffff (2 ^ k) ≡ false
    all k h = none_bit 0xffffffff k ∙ ap (λ t. eqb t 0) (bit_not k 0 h (lit< tt) ∙ ap (λ t. 1 - t) (zero_bit k))

    by : (b : Bool) → eqb e 0xffffffff ≡ b → b ≡ false
    by false h = refl
    by true h = absurd (true≢false (sym s.clear ∙ ap (λ t. none_of t (2 ^ s.bit)) (eqb-true e 0xffffffff h) ∙ all s.bit s.below))

-- the bit is set, or cleared
pub mux_set : (e : ℕ) → none_of (bit_or e 2) 2 ≡ false
unfolding none_of
mux_set e = none_set e 2 (at 1 (lit< tt))

pub mux_cleared : (e : ℕ) → none_of (bit_and e (not32 2)) 2 ≡ true
unfolding none_of
mux_cleared e = none_clear e 2 (lit< tt) (at 1 (lit< tt))

pub joined_set : (mux : Bool) (e : ℕ) → joins mux (bit_or e 2) ≡ true
unfolding joins
joined_set true e = rw (mux_set e)
joined_set false e = refl

-- ---- a write of ESDP where the master pulls neither line

across_nobody : (j : Bool) → across j nobody ≡ nobody
unfolding across pick
across_nobody true = refl
across_nobody false = refl

pub sees_nobody : (i j : Bool) (b : Bench) → sees i nobody b ≡ sees j nobody b
unfolding sees
sees_nobody i j b = rw (across_nobody i, across_nobody j)

pub switched_nobody : (mux : Bool) (old new : ℕ) (b : Bench) → switched_to mux nobody old new b ≡ b
unfolding switched_to moved edge takes_edges
switched_nobody mux old new b = rw (sees_nobody (joins mux old) (joins mux new) b) (ap (λ es. takes_edges es b) (edge_none _ _))
