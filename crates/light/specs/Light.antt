-- Light and temperature of a module: each byte by one locked `read_byte`, and byte 92 of A0, the first, decides which follow.
use Rattle.std.specs.Prelude.{ℕ, ◌+◌, ◌-◌, suc, zero, Bool, eqb, ltb}
use Rattle.hardware.specs.declared.Port.{Port}
use Rattle.hardware.specs.Prog.{Prog, ret, R, or_err, pick, ◌>>=◌}
use Rattle.hardware.specs.Registers.{none_of}
use Rattle.transfer.specs.declared.attempt.Sequence.{Sequence}
use Rattle.i2c.specs.declared.once.Request.{Request}
use Rattle.i2c.specs.declared.once.Request.TheVariants.{ReadByte}
use Rattle.i2c.specs.I2c.{locked, transferred}
use Rattle.sfp.specs.Identify.{EEPROM}
use Rattle.sfp.specs.Rate.{DIAG}
use Rattle.light.specs.declared.sensed.Sensed.{Sensed}
use Rattle.light.specs.declared.sensed.Measures.{Measures}
use Rattle.light.specs.Sensed.{EXTERNAL, MONITORED, fresh, measured, taken}

-- the bytes after the first
abbrev pub FIRST : ℕ
FIRST = 30

-- where the byte with so many after it stands: byte 92 of A0, then bytes 96 to 105 of A2, then its bytes 56 to 75
unfoldable pub device_at : ℕ → ℕ
device_at left = pick (ltb 29 left) EEPROM DIAG

unfoldable pub offset_at : ℕ → ℕ
offset_at left = pick (ltb 29 left) 92 (pick (ltb 19 left) (96 + (29 - left)) (56 + (19 - left)))

unfoldable pub request_at : ℕ → Request
request_at left = ReadByte (device_at left) (offset_at left)

-- nothing is read after this byte: after byte 92 where bit 6 is clear, after byte 105 where bit 4 is, after the last
unfoldable pub stops : ℕ → ℕ → Bool
stops kind left = pick (eqb left 30) (none_of kind MONITORED) (pick (eqb left 20) (none_of kind EXTERNAL) (eqb left 0))

-- a byte was taken; again: the next ones
unfoldable pub light_on : (Sensed → Prog (R Measures)) → ℕ → Sensed → Prog (R Measures)
light_on again left s = pick (stops s.kind left) (ret (measured s)) (again s)

-- a byte was read, or not
unfoldable pub byte_seen : (Sensed → Prog (R Measures)) → ℕ → Sensed → R ℕ → Prog (R Measures)
byte_seen again left s = or_err (λ byte. light_on again left (taken s left byte))

-- the last n bytes, as far as they are read
unfoldable pub light_from : Sequence → Port → ℕ → ℕ → Sensed → Prog (R Measures)
light_from q port tries zero s = ret (measured s)
light_from q port tries (suc left) s = transferred port (request_at left) (locked q) tries >>= byte_seen (light_from q port tries left) left s

unfoldable pub light : Sequence → Port → ℕ → Prog (R Measures)
light q port tries = light_from q port tries (suc FIRST) fresh
