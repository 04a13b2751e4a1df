-- The whole of `identify` against the module, by the module's state at its beginning.
use Prim.Native.Nat.{ℕ, ◌+◌, ◌<◌, suc}
use mathlib.Core.Path.{◌≡◌, refl}
use mathlib.Core.Bool.{Bool, true, false}
use native.Mathlib.Omega.{arith}
use lib.Dec.{lit<}
use Rattle.transfer.specs.declared.attempt.Sequence.{Sequence}
use Rattle.hardware.specs.declared.Port.{Port}
use Rattle.hardware.specs.Prog.{Prog, ret, R, Ok, pick}
use Rattle.bus.specs.Layout.{layout_of}
use Rattle.bus.specs.Bus.{is_i2c}
use Rattle.wire.specs.Lines.{drawn, Rests}
use Rattle.wire.specs.Always.{Always}
use Rattle.bench.specs.declared.receiver.Chosen.TheVariants.{A0}
use Rattle.sfp.specs.declared.Identity.{Identity}
use Rattle.sfp.specs.Classes.{requests}
use Rattle.sfp.specs.Identify.{absent, or_absent, byte, identifier_of, identify}
use Rattle.sfp.specs.Finds.{Finds, found, reads, identity_of}
use Rattle.sfp.proofs.Finds.{rest_finds, requests_further}
use Rattle.demand.specs.Claim.{CountedBench, Harms, BenchWorld}
use Rattle.demand.specs.Mux.{watched}
use Rattle.demand.proofs.Direct.{direct}
use Rattle.demand.proofs.Attempts.{Frees}
use Rattle.demand.proofs.Handshake.{world, Fit}
use Rattle.demand.proofs.Requests.{bytes, Continues, counts, request_read, request_clears, request_fails, request_next_lem, failed_of}

module _ (q : Sequence) (port : Port) (m : CountedBench) (small : (i : ℕ) → bytes m i < 256) (Q : R Identity → BenchWorld → Type 0) where
  -- the call goes on over the module's bytes: so many transfers more, all of which go well
  finds : {n : ℕ} {p : Prog (R Identity)} {found : Identity} → Finds q port (bytes m) n p found → (j : ℕ) → Continues q port m Q (n + j) (ret (Ok found)) → Continues q port m Q j p
  unfolding byte or_absent
  finds found j h = counts q port m Q _ (omega arith) h
  finds (reads offset tries more n k r o e f) j h =
      λ v w a. request_next_lem q port A0 offset o tries more j w (or_absent k) Q e a (small offset) (finds f (suc j) (counts q port m Q _ (omega arith) h))

  -- Where the module does not pull SDA at the beginning
  pub identify_reads : (w : ℕ) (a b : Bool) → Fit port w m → Rests (layout_of port.family) (drawn a b) w → (direct.pulls m).sda ≡ false
      → Continues q port m Q (requests (bytes m)) (ret (Ok (identity_of (bytes m)))) → Always (layout_of port.family) (watched q port) (identify q port) (world w m) Q
  unfolding identify identifier_of byte or_absent
  identify_reads w a b f r free h = request_read q port A0 0 (lit< tt) 11 10 w m a b _ Q refl f r (small 0) free
      (finds (rest_finds q port (bytes m)) 1 (counts q port m Q _ (omega (arith, requests_further q port (bytes m))) h))

  -- Where the sequence frees it
  pub identify_clears : (w : ℕ) (a b : Bool) → Fit port w m → Rests (layout_of port.family) (drawn a b) w → (direct.pulls m).sda ≡ true → Frees q m.bench.receiver
      → Continues q port m Q (requests (bytes m) + 1) (ret (Ok (identity_of (bytes m)))) → Always (layout_of port.family) (watched q port) (identify q port) (world w m) Q
  unfolding identify identifier_of byte or_absent
  identify_clears w a b f r held s h = request_clears q port A0 0 (lit< tt) 11 9 w m a b _ Q refl f r (small 0) held s
      (finds (rest_finds q port (bytes m)) 2 (counts q port m Q _ (omega (arith, requests_further q port (bytes m))) h))

  -- Where the sequence harms it
  pub identify_fails : (w : ℕ) (a b : Bool) → Fit port w m → Rests (layout_of port.family) (drawn a b) w → Harms q m.bench
      → ((n : CountedBench) (v : ℕ) → n.meter ≡ failed_of 11 m.meter → Q (Ok absent) (world v n)) → Always (layout_of port.family) (watched q port) (identify q port) (world w m) Q
  unfolding identify identifier_of byte or_absent is_i2c pick Always
  identify_fails w a b f r e h = request_fails q port A0 0 (lit< tt) 11 w m a b _ Q f r e h
