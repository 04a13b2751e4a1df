-- Light and temperature read with the bench module, for every port, every start that 01 allows and every list of answers that
-- meets the premises: what is handed out is what the module's bytes say.
use Prim.Native.Nat.{ℕ, ◌+◌, ◌-◌, ◌<◌, ◌≤◌, suc, zero}
use mathlib.Core.Path.{◌≡◌, refl, ap, ◌∙◌, subst⁻¹}
use mathlib.Core.Bool.{Bool, true, false}
use mathlib.Core.List.{List, [], ◌∷◌}
use mathlib.Core.Logic.{⊎_elim}
use native.Mathlib.Nat.{add-zero}
use native.Mathlib.Omega.{arith}
use lib.Dec.{lit<, lit≤}
use lib.ListN.{length}
use Rattle.transfer.specs.declared.attempt.Sequence.{Sequence}
use Rattle.hardware.specs.declared.Answer.{Answer}
use Rattle.hardware.specs.declared.Port.{Port}
use Rattle.hardware.specs.Prog.{Prog, ret, R, or_err, pick}
use Rattle.hardware.specs.Registers.{none_of}
use Rattle.bus.specs.Layout.{layout_of}
use Rattle.wire.specs.Lines.{drawn, Rests, Each}
use Rattle.wire.specs.Always.{Always}
use Rattle.wire.specs.Run.{ended}
use Rattle.wire.proofs.Edges.{rests}
use Rattle.bench.specs.declared.Bench.{Bench}
use Rattle.bench.specs.declared.receiver.Chosen.TheVariants.{A0, A2}
use Rattle.bench.specs.Bench.{pulls_low}
use Rattle.sfp.specs.Classes.{Bytes, has}
use Rattle.sfp.specs.Rate.{DIAG}
use Rattle.light.specs.declared.power.Patterns.{Patterns}
use Rattle.light.specs.declared.sensed.Measures.{Measures}
use Rattle.light.specs.Light.{light}
use Rattle.light.specs.Order.{light_read, patterns_at, placed, read, reads, sensed_of, span, taken_all}
use Rattle.light.specs.Sensed.{EXTERNAL, MONITORED, measured, measures_of, reading_of, taken}
use Rattle.light.proofs.Order.{light_reads, values_placed, all_placed}
use Rattle.light.proofs.Ends.{LIGHT_STEPS, light_ends}
use Rattle.demand.specs.Claim.{unheard, CountedBench, bench_run, at_start, byte_of, extra, CallPremises, CallComes, Harms, BenchWorld, Start}
use Rattle.demand.specs.Mux.{watched}
use Rattle.demand.specs.LightClaim.{module_sensed, bytes_read, LightFacts, LightFails, LightStarts, LightClaim}
use Rattle.demand.proofs.ReadByte.{byte_at}
use Rattle.demand.proofs.Attempts.{harms_or_frees}
use Rattle.demand.proofs.Handshake.{world, Fit}
use Rattle.demand.proofs.Requests.{After, Continues, counts, begun, allowed_fit, after_leaves, request_read, request_clears, request_fails, request_next_lem}
use Rattle.demand.proofs.Runs.{Steady, run_steady, run_ended, run_told}

-- without bit 6 nothing but byte 92 counts, and without bit 4 no pattern
unmonitored : (kind : ℕ) (a2 : Bytes) (p : Patterns) → none_of kind MONITORED ≡ true → measured (sensed_of kind [] []) ≡ measured (placed kind a2 p)
unfolding measured sensed_of taken_all taken placed pick
unmonitored kind a2 p e = rw e refl

uncalibrated : (kind : ℕ) (a2 : Bytes) (p r : Patterns) → none_of kind EXTERNAL ≡ true → measured (placed kind a2 p) ≡ measured (placed kind a2 r)
unfolding measured has placed pick measures_of reading_of
uncalibrated kind a2 p r e = rw e refl

module _ (q : Sequence) (port : Port) (tries more : ℕ) (enough : tries ≡ suc more) (m : CountedBench) (small : (i : ℕ) → byte_at A2 m.bench i < 256)
    (Q : R Measures → BenchWorld → Type 0) where
  -- n bytes of page A2, in rising order
  reads_on : (n offset j : ℕ) (k : List ℕ → Prog (R Measures)) → offset + n ≤ 256
      → Continues q port m Q (n + j) (k (span (byte_at A2 m.bench) offset n)) → Continues q port m Q j (reads q port tries DIAG offset n k)
  unfolding reads read span or_err
  reads_on zero offset j k c h = counts q port m Q _ (omega arith) h
  reads_on (suc n) offset j k c h =
      λ v w a.
      request_next_lem q port A2 offset (omega arith) tries more j w _ Q enough a (small offset)
      (reads_on n (suc offset) (suc j) (λ bytes. k (byte_at A2 m.bench offset ∷ bytes)) (omega arith) (counts q port m Q _ (omega arith) h))

  -- what byte 92 of page A0 and the bytes of A2 say
  abbrev said : ℕ → R Measures
  said kind = measured (placed kind (byte_at A2 m.bench) (patterns_at (byte_at A2 m.bench)))

  says : {j : ℕ} {r : R Measures} (kind : ℕ) → r ≡ said kind → Continues q port m Q j (ret (said kind)) → Continues q port m Q j (ret r)
  says {j} kind e h = subst⁻¹ (λ r. Continues q port m Q j (ret r)) e h

  -- the bytes after byte 92, by its bits 6 and 4
  rest_on : (kind j : ℕ) (x y : Bool) → none_of kind MONITORED ≡ x → none_of kind EXTERNAL ≡ y → Continues q port m Q (pick x 1 (pick y 11 31) + j) (ret (said kind))
      → Continues q port m Q (suc j)
      (pick x (ret (measured (sensed_of kind [] [])))
      (reads q port tries DIAG 96 10 (λ values.
      pick y (ret (measured (sensed_of kind values [])))
      (reads q port tries DIAG 56 20 (λ coefficients. ret (measured (sensed_of kind values coefficients)))))))
  unfolding pick
  rest_on kind j true y f g h = says kind (unmonitored kind _ _ f) (counts q port m Q _ (omega arith) h)
  rest_on kind j false true f g h =
      reads_on 10 96 (suc j) _ (lit≤ tt)
      (says kind (ap measured (values_placed kind (byte_at A2 m.bench) small) ∙ uncalibrated kind _ _ _ g) (counts q port m Q _ (omega arith) h))
  rest_on kind j false false f g h =
      reads_on 10 96 (suc j) _ (lit≤ tt)
      (reads_on 20 56 (10 + suc j) _ (lit≤ tt)
      (says kind (ap measured (all_placed kind (byte_at A2 m.bench) small)) (counts q port m Q _ (omega arith) h)))

module _ (q : Sequence) (port : Port) (tries : ℕ) (b : Bench) (start : Start) (s : LightStarts port b start) where
  -- the end, where all went well
  well : (e j : ℕ) → extra b ≡ e → (n : CountedBench) (w : ℕ) → After port (begun start b) j n w → j ≡ bytes_read (byte_of b.a0 92) + e
      → LightFacts (layout_of port.family) b (measured (module_sensed b)) (world w n)
  well e j x n w a c = record { result = refl; leaves = after_leaves start b a (omega (arith, c, x)) }

  -- it holds of the call, whatever the other answers are
  always_lit : (Harms q b → ⊥) → 1 + extra b ≤ tries → (x y : Bool) → Fit port start.word (begun start b) → Rests (layout_of port.family) (drawn x y) start.word
      → Always (layout_of port.family) (watched q port) (light q port tries) (at_start start b) (LightFacts (layout_of port.family) b)
  unfolding light_read read or_err bytes_read pick Always LightStarts
  always_lit other enough x y g r = subst⁻¹ (λ p. Always (layout_of port.family) (watched q port) p (at_start start b) (LightFacts (layout_of port.family) b)) (light_reads q port tries) (by (pulls_low b) refl)
    where
      by : (t : Bool) → pulls_low b ≡ t → Always (layout_of port.family) (watched q port) (light_read q port tries) (at_start start b) (LightFacts (layout_of port.family) b)
      by false e =
          let more : tries ≡ suc (tries - 1) = omega (arith, enough) in
          request_read q port A0 92 (lit< tt) tries (tries - 1) start.word (begun start b) x y _ _ more g r (s.0 92) e
          (rest_on q port tries (tries - 1) more (begun start b) s.1 _ (byte_of b.a0 92) 0 _ _ refl refl (λ n w a. well 0 _ (rw e) n w a refl))
      by true e =
          ⊎_elim
          (λ i. absurd (other i))
          (λ f.
          let more : tries ≡ suc (tries - 1) = omega (arith, enough) in
          request_clears q port A0 92 (lit< tt) tries (tries - 2) start.word (begun start b) x y _ _ (omega (arith, rw e at enough)) g r (s.0 92) e f
          (rest_on q port tries (tries - 1) more (begun start b) s.1 _ (byte_of b.a0 92) 1 _ _ refl refl (λ n w a. well 1 _ (rw e) n w a refl)))
          (harms_or_frees q (begun start b) e)

  -- where the sequence harms the module
  always_dark : Harms q b → (x y : Bool) → Fit port start.word (begun start b) → Rests (layout_of port.family) (drawn x y) start.word
      → Always (layout_of port.family) (watched q port) (light q port tries) (at_start start b) (LightFails tries)
  unfolding light_read read or_err Always
  always_dark i x y g r =
      subst⁻¹ (λ p. Always (layout_of port.family) (watched q port) p (at_start start b) (LightFails tries)) (light_reads q port tries)
      (request_fails q port A0 92 (lit< tt) tries start.word (begun start b) x y _ _ g r i (λ n v made. record { result = refl; meter = made ∙ ap unheard (add-zero tries) }))

  module _ (answers : List Answer) (m : CallPremises port (light q port tries) b start answers) where
    -- a module that the sequence does not harm, and attempts enough
    module _ (other : Harms q b → ⊥) (enough : 1 + extra b ≤ tries) where
      started : Always (layout_of port.family) (watched q port) (light q port tries) (at_start start b) (LightFacts (layout_of port.family) b)
      unfolding LightStarts
      started = always_lit other enough _ _ (allowed_fit b s.2) (rests (layout_of port.family) start.word s.2.fit)

      -- Light and temperature with the bench module, whenever the call has come to its end
      pub light_claimed_ended : (r : R Measures) (w : BenchWorld) → (bench_run port (light q port tries) b start answers).outcome ≡ ended r w → LightFacts (layout_of port.family) b r w
      unfolding CallPremises
      light_claimed_ended = run_ended q port (light q port tries) b start answers _ started m

      -- as it has for every list that is long enough, and the library's too, whose result tells the transfers made
      pub light_claimed : LIGHT_STEPS port.family tries ≤ length answers → LightClaim q port tries b start answers
      unfolding CallPremises CallComes LightClaim
      light_claimed = run_told q port (light q port tries) b start answers _ started m (LIGHT_STEPS port.family tries) (light_ends q port tries)

      -- no write moves both lines
      pub light_never_both_lines : Each (Steady q port) (bench_run port (light q port tries) b start answers).trace
      unfolding CallPremises
      light_never_both_lines = run_steady q port (light q port tries) b start answers _ started m

    -- a module that it harms, whatever the number of attempts
    module _ (ack : Harms q b) where
      failing : Always (layout_of port.family) (watched q port) (light q port tries) (at_start start b) (LightFails tries)
      unfolding LightStarts
      failing = always_dark ack _ _ (allowed_fit b s.2) (rests (layout_of port.family) start.word s.2.fit)

      pub light_fails_ended : (r : R Measures) (w : BenchWorld) → (bench_run port (light q port tries) b start answers).outcome ≡ ended r w → LightFails tries r w
      unfolding CallPremises
      light_fails_ended = run_ended q port (light q port tries) b start answers _ failing m

      pub light_fails : LIGHT_STEPS port.family tries ≤ length answers → CallComes port (light q port tries) b start answers (LightFails tries)
      unfolding CallPremises CallComes
      light_fails = run_told q port (light q port tries) b start answers _ failing m (LIGHT_STEPS port.family tries) (light_ends q port tries)
