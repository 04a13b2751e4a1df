-- What a call comes to by the bytes that its reads bring: what they say, or the first read that fails.
use Prim.Native.Nat.{ℕ, ◌<◌, suc}
use mathlib.Core.Path.{◌≡◌, ◌∙◌, refl, ap}
use mathlib.Core.Bool.{true, false}
use mathlib.Core.List.{List, ◌∷◌, ◌++◌, append_assoc}
use native.Mathlib.Omega.{arith}
use borrow.Author.Tests.{not-false, not-true}
use lib.ListN.{length}
use Rattle.hardware.specs.declared.Answer.{Answer}
use Rattle.hardware.specs.declared.Port.{Port}
use Rattle.hardware.specs.Failures.{Failure, I2c}
use Rattle.hardware.specs.Prog.{Prog, ret, R, Ok, Err, or_err, pick, ◌>>=◌}
use Rattle.hardware.specs.Registers.{none_of}
use Rattle.hardware.specs.Runs.{ended, run, EndsOver}
use Rattle.hardware.proofs.Ends.{run_then}
use Rattle.transfer.specs.declared.attempt.Sequence.{Sequence}
use Rattle.i2c.specs.declared.once.Request.TheVariants.{ReadByte}
use Rattle.i2c.specs.I2c.{locked, qsfp, transferred}
use Rattle.i2c.proofs.Counts.{none_allowed}
use Rattle.sfp.specs.Classes.{Bytes, has}
use Rattle.sfp.specs.Identify.{EEPROM}
use Rattle.sfp.specs.Rate.{DIAG}
use Rattle.light.specs.declared.power.Patterns.{Patterns}
use Rattle.light.specs.declared.power.Reading.TheVariants.{Calibrated}
use Rattle.light.specs.declared.sensed.Measures.{Measures}
use Rattle.light.specs.Power.{counted, power_of}
use Rattle.light.specs.Sensed.{EXTERNAL, MONITORED, calibrated_of, measured, measures_of, nothing, reading_of, taken}
use Rattle.light.specs.Light.{light}
use Rattle.light.specs.Order.{Brings, none, one, Fails, here, later, light_read, measures_at, patterns_at, placed, read, reads, received_at, sensed_of, span, taken_all}
use Rattle.light.proofs.Exact.{power_straight, straight}
use Rattle.light.proofs.Order.{all_placed, light_reads, values_placed}

-- with 0 attempts, and no handshake, the call has ended before its first access
pub light_none : (q : Sequence) (port : Port) → qsfp port ≡ false → light q port 0 ≡ ret (Err (I2c EEPROM))
unfolding light_read read or_err ◌>>=◌
light_none q port h = rw (light_reads q port 0, none_allowed port EEPROM 92 (locked q) h)

clear : (kind bit : ℕ) → has kind bit ≡ false → none_of kind bit ≡ true
unfolding has
clear kind bit h = not-false (none_of kind bit) h

set : (kind bit : ℕ) → has kind bit ≡ true → none_of kind bit ≡ false
unfolding has
set kind bit h = not-true (none_of kind bit) h

-- what the places say, by bit 4
says_uncalibrated : (kind : ℕ) (a2 : Bytes) (p : Patterns) → has kind MONITORED ≡ true → has kind EXTERNAL ≡ false
    → measured (placed kind a2 p) ≡ Ok (measures_at a2 (reading_of kind (received_at a2)))
unfolding measured placed measures_of measures_at pick
says_uncalibrated kind a2 p h g = rw (set kind MONITORED h, g)

says_calibrated : (kind : ℕ) (a2 : Bytes) (p : Patterns) → has kind MONITORED ≡ true → has kind EXTERNAL ≡ true
    → measured (placed kind a2 p) ≡ calibrated_of (measures_at a2) (power_of p (received_at a2))
unfolding measured placed measures_of measures_at pick
says_calibrated kind a2 p h g = rw (set kind MONITORED h, g)

module _ (q : Sequence) (port : Port) (tries : ℕ) where
  -- a read that succeeds, and those of a span
  read_run : (device offset byte : ℕ) (k : ℕ → Prog (R Measures)) (l m : List Answer) → EndsOver (transferred port (ReadByte device offset) (locked q) tries) l (Ok byte)
      → (run (read q port tries device offset k) (l ++ m)).status ≡ (run (k byte) m).status
  unfolding read or_err EndsOver
  read_run device offset byte k l m e = (run_then _ _ (Ok byte) l m e.0 e.1).1

  reads_run : (device offset : ℕ) (l : List Answer) (bytes : List ℕ) → Brings q port tries device offset l bytes → (k : List ℕ → Prog (R Measures)) (m : List Answer)
      → (run (reads q port tries device offset (length bytes) k) (l ++ m)).status ≡ (run (k bytes) m).status
  unfolding reads
  reads_run device offset l bytes (none o) k m = refl
  reads_run device offset l bytes (one o byte l₁ l₂ rest e b) k m =
      rw append_assoc (read_run device offset byte _ l₁ (l₂ ++ m) e ∙ reads_run device (suc offset) l₂ rest b (λ bytes. k (byte ∷ bytes)) m)

  -- a read that fails, and one of a span
  read_fails : (device offset : ℕ) (x : Failure) (k : ℕ → Prog (R Measures)) (l m : List Answer) → EndsOver (transferred port (ReadByte device offset) (locked q) tries) l (Err x)
      → (run (read q port tries device offset k) (l ++ m)).status ≡ ended (Err x)
  unfolding read or_err run EndsOver
  read_fails device offset x k l m e = (run_then _ _ (Err x) l m e.0 e.1).1

  reads_fail : (device offset n : ℕ) (l : List Answer) (x : Failure) → Fails q port tries device offset n l x → (k : List ℕ → Prog (R Measures)) (m : List Answer)
      → (run (reads q port tries device offset n k) (l ++ m)).status ≡ ended (Err x)
  unfolding reads
  reads_fail device offset n l x (here o left l₁ f e) k m = read_fails device offset x _ l m e
  reads_fail device offset n l x (later o left byte l₁ l₂ f e b) k m =
      rw append_assoc (read_run device offset byte _ l₁ (l₂ ++ m) e ∙ reads_fail device (suc offset) left l₂ x b _ m)

  -- the first read that fails ends the call with its failure
  pub kind_fails : (l m : List Answer) (x : Failure) → EndsOver (transferred port (ReadByte EEPROM 92) (locked q) tries) l (Err x)
      → (run (light q port tries) (l ++ m)).status ≡ ended (Err x)
  unfolding light_read
  kind_fails l m x e = rw (light_reads q port tries) (read_fails EEPROM 92 x _ l m e)

  -- byte 92 is read
  module _ (kind : ℕ) (first : List Answer) (e : EndsOver (transferred port (ReadByte EEPROM 92) (locked q) tries) first (Ok kind)) where
    -- bit 6 clear
    pub light_unmonitored : has kind MONITORED ≡ false → (m : List Answer) → (run (light q port tries) (first ++ m)).status ≡ ended (Ok nothing)
    unfolding light_read sensed_of taken_all taken measured pick run
    light_unmonitored h m =
        rw (light_reads q port tries) (read_run EEPROM 92 kind _ first m e ∙ rw (clear kind MONITORED h))

    pub value_fails : has kind MONITORED ≡ true → (l m : List Answer) (x : Failure) → Fails q port tries DIAG 96 10 l x
        → (run (light q port tries) (first ++ (l ++ m))).status ≡ ended (Err x)
    unfolding light_read pick
    value_fails h l m x f =
        rw (light_reads q port tries) (read_run EEPROM 92 kind _ first (l ++ m) e ∙ rw (set kind MONITORED h) (reads_fail DIAG 96 10 l x f _ m))

    module _ (a2 : Bytes) (small : (i : ℕ) → a2 i < 256) (h : has kind MONITORED ≡ true) (l : List Answer) (b : Brings q port tries DIAG 96 l (span a2 96 10)) where
      -- bit 4 clear
      pub light_uncalibrated : has kind EXTERNAL ≡ false → (m : List Answer)
          → (run (light q port tries) (first ++ (l ++ m))).status ≡ ended (Ok (measures_at a2 (reading_of kind (received_at a2))))
      unfolding light_read pick run span
      light_uncalibrated g m =
          rw (light_reads q port tries)
          (read_run EEPROM 92 kind _ first (l ++ m) e
          ∙ rw (set kind MONITORED h) (reads_run DIAG 96 l _ b _ m ∙ rw (clear kind EXTERNAL g) (ap ended (ap measured (values_placed kind a2 small) ∙ says_uncalibrated kind a2 _ h g))))

      -- bit 4 set
      pub light_calibrated : has kind EXTERNAL ≡ true → (n m : List Answer) → Brings q port tries DIAG 56 n (span a2 56 20)
          → (run (light q port tries) (first ++ (l ++ (n ++ m)))).status ≡ ended (calibrated_of (measures_at a2) (power_of (patterns_at a2) (received_at a2)))
      unfolding light_read pick run span
      light_calibrated g n m d =
          rw (light_reads q port tries)
          (read_run EEPROM 92 kind _ first (l ++ (n ++ m)) e
          ∙ rw (set kind MONITORED h) (reads_run DIAG 96 l _ b _ (n ++ m)
          ∙ rw (set kind EXTERNAL g) (reads_run DIAG 56 n _ d _ m ∙ ap ended (ap measured (all_placed kind a2 small) ∙ says_calibrated kind a2 _ h g))))

      -- the top three and the last coefficient +0 and Rx_PWR(1) = 1: the raw count, exactly
      pub light_straight : has kind EXTERNAL ≡ true → patterns_at a2 ≡ straight → (n m : List Answer) → Brings q port tries DIAG 56 n (span a2 56 20)
          → (run (light q port tries) (first ++ (l ++ (n ++ m)))).status ≡ ended (Ok (measures_at a2 (Calibrated (counted (received_at a2)))))
      unfolding calibrated_of
      light_straight g s n m d = light_calibrated g n m d ∙ rw (s, power_straight (received_at a2) (omega (arith, small 104, small 105)))

      pub coefficient_fails : has kind EXTERNAL ≡ true → (n m : List Answer) (x : Failure) → Fails q port tries DIAG 56 20 n x
          → (run (light q port tries) (first ++ (l ++ (n ++ m)))).status ≡ ended (Err x)
      unfolding light_read pick span
      coefficient_fails g n m x f =
          rw (light_reads q port tries)
          (read_run EEPROM 92 kind _ first (l ++ (n ++ m)) e
          ∙ rw (set kind MONITORED h) (reads_run DIAG 96 l _ b _ (n ++ m) ∙ rw (set kind EXTERNAL g) (reads_fail DIAG 56 20 n x f _ m)))
