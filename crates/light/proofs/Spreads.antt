-- What holds of an end, and of a byte's request wherever it holds of what follows it, holds of the call.
use Prim.Native.Nat.{ℕ, suc, zero}
use mathlib.Core.Bool.{Bool, true, false}
use Rattle.hardware.specs.declared.Port.{Port}
use Rattle.hardware.specs.Prog.{Prog, ret, R, Ok, Err, or_err, pick, ◌>>=◌}
use Rattle.transfer.specs.declared.attempt.Sequence.{Sequence}
use Rattle.i2c.specs.I2c.{locked, transferred}
use Rattle.light.specs.declared.sensed.Sensed.{Sensed}
use Rattle.light.specs.declared.sensed.Measures.{Measures}
use Rattle.light.specs.Light.{byte_seen, light_from, light, light_on, request_at}

module _ (P : Prog (R Measures) → Type 0) (ends : (v : R Measures) → P (ret v)) where
  pick_holds : (b : Bool) (p r : Prog (R Measures)) → P p → P r → P (pick b p r)
  unfolding pick
  pick_holds true p r e d = e
  pick_holds false p r e d = d

  -- a byte was read, or not
  pub seen_holds : (again : Sensed → Prog (R Measures)) (left : ℕ) (s : Sensed) → ((t : Sensed) → P (again t)) → (r : R ℕ) → P (byte_seen again left s r)
  unfolding byte_seen light_on or_err
  seen_holds again left s e (Ok byte) = pick_holds _ _ _ (ends _) (e _)
  seen_holds again left s e (Err error) = ends _

  module _ (q : Sequence) (port : Port) (tries : ℕ)
      (requests : (left : ℕ) (k : R ℕ → Prog (R Measures)) → ((r : R ℕ) → P (k r)) → P (transferred port (request_at left) (locked q) tries >>= k)) where
    from_holds : (n : ℕ) (s : Sensed) → P (light_from q port tries n s)
    unfolding light_from
    from_holds zero s = ends _
    from_holds (suc left) s = requests left _ (seen_holds _ left s (from_holds left))

    pub light_holds : P (light q port tries)
    unfolding light
    light_holds = from_holds 31 _
