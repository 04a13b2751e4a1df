-- What is claimed of light and temperature read with the bench module. `light` is in `light/specs/Light.antt`, where a byte
-- stands in `Order.antt` there; the bench and the premises are those of `Claim.antt`.
use Rattle.std.specs.Prelude.{ℕ, ◌+◌, ◌<◌, ◌≡◌, List}
use Rattle.transfer.specs.declared.attempt.Sequence.{Sequence}
use Rattle.hardware.specs.declared.Answer.{Answer}
use Rattle.hardware.specs.declared.Port.{Port}
use Rattle.hardware.specs.Failures.{I2c}
use Rattle.hardware.specs.Prog.{R, Err, pick}
use Rattle.hardware.specs.Registers.{none_of}
use Rattle.bus.specs.declared.Layout.{Layout}
use Rattle.bus.specs.Layout.{layout_of}
use Rattle.bench.specs.declared.Bench.{Bench}
use Rattle.sfp.specs.Identify.{EEPROM}
use Rattle.light.specs.declared.sensed.Measures.{Measures}
use Rattle.light.specs.declared.sensed.Sensed.{Sensed}
use Rattle.light.specs.Light.{light}
use Rattle.light.specs.Order.{patterns_at, placed}
use Rattle.light.specs.Sensed.{EXTERNAL, MONITORED, measured}
use Rattle.demand.specs.Claim.{BenchWorld, Start, Allowed, byte_of, Leaves, unheard, extra, CallComes}

-- the module's own bytes, each at its place
abbrev pub module_sensed : Bench → Sensed
module_sensed b = placed (byte_of b.a0 92) (byte_of b.a2) (patterns_at (byte_of b.a2))

-- how many bytes are read, by byte 92
unfoldable pub bytes_read : ℕ → ℕ
bytes_read kind = pick (none_of kind MONITORED) 1 (pick (none_of kind EXTERNAL) 11 31)

-- The facts, of the module at the start, the result, and I2CCTL and the module at the end: what is handed out is what the
-- module's bytes say
pub record LightFacts (l : Layout) (b : Bench) (r : R Measures) (w : BenchWorld) : Type 0 where
  pub result : r ≡ measured (module_sensed b)
  pub leaves : Leaves l b (bytes_read (byte_of b.a0 92) + extra b) w

-- where the sequence harms the module, no attempt reads the first byte
pub record LightFails (tries : ℕ) (r : R Measures) (w : BenchWorld) : Type 0 where
  pub result : r ≡ Err (I2c EEPROM)
  pub meter : w.other.meter ≡ unheard tries

-- the start: what is read are bytes, and the registers are as 01 and S-6 allow
unfoldable pub LightStarts : Port → Bench → Start → Type 0
LightStarts port b start =
    ((n : ℕ) → byte_of b.a0 n < 256) × ((n : ℕ) → byte_of b.a2 n < 256) × Allowed port start

unfoldable pub LightClaim : Sequence → Port → ℕ → Bench → Start → List Answer → Type 0
LightClaim q port tries b start answers = CallComes port (light q port tries) b start answers (LightFacts (layout_of port.family) b)
