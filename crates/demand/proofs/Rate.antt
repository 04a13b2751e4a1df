-- `soft_rate_select` with the bench module, for every port, both rates, every start that 01 allows and every list of answers
-- that meets the premises: only its two bytes of page A2 change.
use Prim.Native.Nat.{ℕ, ◌+◌, ◌-◌, ◌<◌, ◌≤◌, suc}
use mathlib.Core.Path.{◌≡◌, refl, ◌∙◌, sym}
use mathlib.Core.Bool.{Bool, true, false, false≢true}
use mathlib.Core.List.{List}
use mathlib.Core.Logic.{◌⊎◌, inl, inr}
use native.Mathlib.Omega.{arith}
use lib.Bits.{or_lt, and_le_l}
use lib.Dec.{lit<}
use lib.ListN.{length}
use Rattle.hardware.specs.declared.Answer.{Answer}
use Rattle.hardware.specs.declared.Port.{Port}
use Rattle.hardware.specs.Prog.{Prog, R, Ok, pick, ◌>>=◌}
use Rattle.bus.specs.declared.Layout.{Layout}
use Rattle.bus.specs.Layout.{x550em, layout_of}
use Rattle.transfer.specs.declared.attempt.Sequence.{Sequence}
use Rattle.wire.specs.Lines.{drawn, Rests, Each}
use Rattle.wire.specs.Always.{Always}
use Rattle.wire.specs.Run.{ended}
use Rattle.wire.proofs.Always.{always_bind}
use Rattle.wire.proofs.Edges.{rests}
use Rattle.bench.specs.declared.Bench.{Bench}
use Rattle.bench.specs.declared.receiver.Chosen.{Chosen}
use Rattle.bench.specs.declared.receiver.Chosen.TheVariants.{A2}
use Rattle.bench.specs.Bench.{pulls_low}
use Rattle.i2c.specs.declared.once.Request.TheVariants.{WriteByte}
use Rattle.i2c.specs.I2c.{standard, locked, attempts, transferred}
use Rattle.sfp.specs.Rate.{DIAG, or_not, selected, rate_byte, soft_rate_select}
use Rattle.sfp.proofs.Ends.{RATE_STEPS, rate_ends}
use Rattle.demand.specs.Claim.{CountedBench, bench_run, at_start, extra, CallPremises, CallComes, BenchWorld, Start}
use Rattle.demand.specs.Mux.{watched}
use Rattle.demand.proofs.Direct.{direct}
use Rattle.demand.specs.WriteClaim.{rated, RateFacts, RateStarts, rate_call, RateClaim}
use Rattle.demand.proofs.ReadByte.{byte_at}
use Rattle.demand.proofs.Attempts.{Frees}
use Rattle.demand.proofs.Handshake.{world, Fit}
use Rattle.demand.proofs.Requests.{After, after_fit, after_then, after_byte, counted_as, idle_held, idle_extra, begun, allowed_fit, after_leaves, leaves_byte, Continues, request_read, request_clears}
use Rattle.demand.proofs.WriteByte.{wrote, wrote_after, written_other, call_writes}
use Rattle.demand.proofs.Runs.{Steady, run_steady, run_ended, run_told}

-- a byte stays one
selected_small : (ten : Bool) (v : ℕ) → v < 256 → selected ten v < 256
unfolding selected pick
selected_small true v h = or_lt 8 v 8 h (lit< tt)
selected_small false v h = omega (arith, and_le_l v 0xf7)

-- a read has two attempts at least
attempts_two : (port : Port) → attempts port ≡ suc (suc (attempts port - 2))
unfolding attempts pick
attempts_two port = by (x550em port.family)
  where
    by : (b : Bool) → pick b 4 11 ≡ suc (suc (pick b 4 11 - 2))
    by true = refl
    by false = refl

-- a byte of page A2 is set by what stood there
abbrev changed : Bool → ℕ → CountedBench → CountedBench
changed ten offset m = wrote A2 offset (selected ten (byte_at A2 m.bench offset)) m

module _ (q : Sequence) (port : Port) (ten : Bool) where
  -- a byte is read, changed and written back
  rate_byte_lem : (ok : Bool) (offset w : ℕ) (m : CountedBench) (a b : Bool) (k : Bool → Prog (R Bool)) (Q : R Bool → BenchWorld → Type 0) → offset < 256
      → Fit port w m → Rests (layout_of port.family) (drawn a b) w → byte_at A2 m.bench offset < 256 → ((direct.pulls m).sda ≡ true → Frees q m.bench.receiver)
      → Continues q port (changed ten offset m) Q (2 + extra m.bench) (k ok)
      → Always (layout_of port.family) (watched q port) (rate_byte q port ten ok offset k) (world w m) Q
  unfolding rate_byte or_not pick
  rate_byte_lem ok offset w m a b k Q small g r v frees h = by (pulls_low m.bench) refl
    where
      write : (j : ℕ) → j + 1 ≡ 2 + extra m.bench
          → Continues q port m Q j (transferred port (WriteByte DIAG offset (selected ten (byte_at A2 m.bench offset))) (locked q) 2 >>= or_not k (λ _. k ok))
      write j e n u f =
          always_bind _ _ (transferred port (WriteByte DIAG offset (selected ten (byte_at A2 m.bench offset))) (locked q) 2) _ (world u n) Q
          (call_writes A2 offset _ small (selected_small ten _ v) q port true u n false false _ (λ _. after_fit f) (λ e. absurd (false≢true (sym e))) f.rests
          (λ held. absurd (idle_held n f.idle held))
          (λ o y g. h o y (counted_as (omega (arith, e, idle_extra n f.idle)) (after_then (wrote_after A2 offset _ f) g))))

      by : (t : Bool) → pulls_low m.bench ≡ t → Always (layout_of port.family) (watched q port) (rate_byte q port ten ok offset k) (world w m) Q
      by false e = request_read q port A2 offset small (attempts port) _ w m a b _ Q (attempts_two port) g r v e (write 1 (rw e))
      by true e = request_clears q port A2 offset small (attempts port) _ w m a b _ Q (attempts_two port) g r v e (frees e) (write 2 (rw e))

  -- both bytes, from any state that the sequence frees
  rate_selects : (w : ℕ) (m : CountedBench) (a b : Bool) (Q : R Bool → BenchWorld → Type 0) → Fit port w m → Rests (layout_of port.family) (drawn a b) w
      → ((i : ℕ) → byte_at A2 m.bench i < 256) → ((direct.pulls m).sda ≡ true → Frees q m.bench.receiver)
      → ((n : CountedBench) (v : ℕ) → After port (record { bench = rated ten m.bench; esdp = m.esdp; meter = m.meter }) (4 + extra m.bench) n v → Q (Ok true) (world v n))
      → Always (layout_of port.family) (watched q port) (soft_rate_select q port ten) (world w m) Q
  unfolding soft_rate_select rated Always
  rate_selects w m a b Q g r small frees h =
      rate_byte_lem true 0x6e w m a b _ Q (lit< tt) g r (small 0x6e) frees (λ n u f.
      let same : byte_at A2 n.bench 0x76 ≡ byte_at A2 m.bench 0x76 = after_byte A2 0x76 f ∙ written_other A2 A2 0x6e _ 0x76 m.bench (λ e. omega (arith, e.1)) in
      rate_byte_lem true 0x76 u n false false _ Q (lit< tt) (after_fit f) f.rests (rw same (small 0x76))
      (λ held. absurd (idle_held n f.idle held))
      (λ o y g. h o y (counted_as (omega (arith, idle_extra n f.idle)) (after_then (wrote_after A2 0x76 _ f) (rw same at g)))))

module _ (port : Port) (ten : Bool) (b : Bench) (start : Start) (answers : List Answer) (s : RateStarts port b start) (m : CallPremises port (rate_call port ten) b start answers) where
  started : Always (layout_of port.family) (watched standard port) (rate_call port ten) (at_start start b) (RateFacts (layout_of port.family) b ten)
  unfolding RateStarts
  started =
      rate_selects standard port ten start.word (begun start b) _ _ _ (allowed_fit b s.1) (rests (layout_of port.family) start.word s.1.fit) s.0 (λ _. tt)
      (λ n v k. record { result = refl; leaves = after_leaves start (rated ten b) k refl })

  -- The rate selected with the bench module, whenever the call has come to its end
  pub rate_claimed_ended : (r : R Bool) (w : BenchWorld) → (bench_run port (rate_call port ten) b start answers).outcome ≡ ended r w → RateFacts (layout_of port.family) b ten r w
  unfolding CallPremises
  rate_claimed_ended = run_ended standard port (rate_call port ten) b start answers _ started m

  -- as it has for every list that is long enough, and the library's too, whose result tells the transfers made
  pub rate_claimed : RATE_STEPS port.family ≤ length answers → RateClaim port ten b start answers
  unfolding CallPremises CallComes RateClaim
  rate_claimed = run_told standard port (rate_call port ten) b start answers _ started m _ (rate_ends standard port ten)

  -- no write of I2CCTL moves both lines
  pub rate_never_both_lines : Each (Steady standard port) (bench_run port (rate_call port ten) b start answers).trace
  unfolding CallPremises
  rate_never_both_lines = run_steady standard port (rate_call port ten) b start answers _ started m

-- what follows from the facts: every other byte of either page is as it was
pub rate_keeps : (l : Layout) (b : Bench) (ten : Bool) (r : R Bool) (w : BenchWorld) → RateFacts l b ten r w
    → (which : Chosen) (i : ℕ) → ((which ≡ A2) × ((i ≡ 0x6e) ⊎ (i ≡ 0x76)) → ⊥) → byte_at which w.other.bench i ≡ byte_at which b i
unfolding rated
rate_keeps l b ten r w h which i k =
    leaves_byte which i h.leaves
    ∙ written_other A2 which 0x76 _ i _ (λ e. k (e.0, inr e.1))
    ∙ written_other A2 which 0x6e _ i b (λ e. k (e.0, inl e.1))
