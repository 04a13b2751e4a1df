-- What the bytes of a module say that were read one after another, each behind those before it: byte 92 of A0, the words of A2
-- from byte 96 on, and its patterns from byte 56 on.
use Rattle.std.specs.Prelude.{ℕ, ◌+◌, ◌*◌, ◌/◌, ◌%◌, ◌^◌, Bool, eqb, pos, Float}
use Rattle.hardware.specs.Failures.{failure_of}
use Rattle.hardware.specs.Numbers.{error_number}
use Rattle.hardware.specs.Prog.{R, Ok, Err, pick}
use Rattle.hardware.specs.Registers.{none_of}
use Rattle.sfp.specs.Classes.{has}
use Rattle.light.specs.declared.power.Patterns.{Patterns}
use Rattle.light.specs.declared.power.Reading.{Reading}
use Rattle.light.specs.declared.power.Reading.TheVariants.{Internal, Calibrated, Absent}
use Rattle.light.specs.declared.sensed.Sensed.{Sensed}
use Rattle.light.specs.declared.sensed.Measures.{Measures}
use Rattle.light.specs.Power.{Coefficient, Result, power_of}
use Rattle.light.specs.Words.{signed, word_of}
use Rattle.light.specs.Aliases.{Measured}
use Rattle.light.specs.declared.power.PowerError.TheVariants.{Coefficient as CaseCoefficient, Power as CasePower}
use Rattle.light.specs.declared.sensed.LightError.TheVariants.{Power as OfPower, Bus}

-- before the first byte
abbrev pub fresh : Sensed
fresh = record { kind = 0; temperature = 0; voltage = 0; bias = 0; sent = 0; received = 0; patterns = record { c4 = 0; c3 = 0; c2 = 0; c1 = 0; c0 = 0 } }

-- a word with a byte behind its low one, and a pattern with one behind its low three; here: the byte is theirs
unfoldable pub word_on : Bool → ℕ → ℕ → ℕ
word_on here word byte = pick here (word_of (word % 256) byte) word

unfoldable pub pattern_on : Bool → ℕ → ℕ → ℕ
pattern_on here pattern byte = pick here (pattern % 2 ^ 24 * 256 + byte) pattern

unfoldable pub patterns_on : Patterns → ℕ → ℕ → Patterns
patterns_on p left byte = record {
  c4 = pattern_on (eqb (left / 4) 4) p.c4 byte;
  c3 = pattern_on (eqb (left / 4) 3) p.c3 byte;
  c2 = pattern_on (eqb (left / 4) 2) p.c2 byte;
  c1 = pattern_on (eqb (left / 4) 1) p.c1 byte;
  c0 = pattern_on (eqb (left / 4) 0) p.c0 byte;
}

-- the byte with so many after it was read
unfoldable pub taken : Sensed → ℕ → ℕ → Sensed
taken s left byte = record {
  kind = pick (eqb left 30) byte s.kind;
  temperature = word_on (eqb (left / 2) 14) s.temperature byte;
  voltage = word_on (eqb (left / 2) 13) s.voltage byte;
  bias = word_on (eqb (left / 2) 12) s.bias byte;
  sent = word_on (eqb (left / 2) 11) s.sent byte;
  received = word_on (eqb (left / 2) 10) s.received byte;
  patterns = patterns_on s.patterns left byte;
}

-- bits 6, 5 and 4 of byte 92
abbrev pub MONITORED : ℕ
MONITORED = 0x40

abbrev pub INTERNAL : ℕ
INTERNAL = 0x20

abbrev pub EXTERNAL : ℕ
EXTERNAL = 0x10

-- the four values beside a reading
unfoldable pub measures_of : Sensed → Reading → Measures
measures_of s reading = record { temperature = signed s.temperature; voltage = s.voltage; bias = s.bias; sent = s.sent; reading = reading }

-- without an external calibration
unfoldable pub reading_of : ℕ → ℕ → Reading
reading_of kind received = pick (has kind INTERNAL) (Internal received) Absent

-- with one; values: the other four beside a reading
unfoldable pub calibrated_of : (Reading → Measures) → R Float → R Measures
calibrated_of values (Ok x) = Ok (values (Calibrated x))
calibrated_of values (Err e) = Err e

-- of a module that is not monitored
abbrev pub nothing : Measures
nothing = record { temperature = pos 0; voltage = 0; bias = 0; sent = 0; reading = Absent }

-- bit 6 clear: absent, the other values zero; else bit 4 set: calibrated; else bit 5 set: internal; else absent
unfoldable pub measured : Sensed → R Measures
measured s =
    pick (none_of s.kind MONITORED) (Ok nothing)
    (pick (has s.kind EXTERNAL) (calibrated_of (measures_of s) (power_of s.patterns s.received))
    (Ok (measures_of s (reading_of s.kind s.received))))

-- the papers' number of an end, or 0
abbrev pub measured_number : Measured → ℕ
measured_number (Ok m) = 0
measured_number (Err (OfPower CaseCoefficient)) = Coefficient.number
measured_number (Err (OfPower CasePower)) = Result.number
measured_number (Err (Bus e)) = error_number e

-- what the code's result tells
unfoldable pub measured_of : Measured → R Measures
measured_of (Ok m) = Ok m
measured_of (Err (OfPower CaseCoefficient)) = Err Coefficient
measured_of (Err (OfPower CasePower)) = Err Result
measured_of (Err (Bus e)) = Err (failure_of e)
