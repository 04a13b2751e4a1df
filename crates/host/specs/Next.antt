-- What is next, as numbers: an access, an end with its values, a failure or a refusal with its number.
use Rattle.std.specs.Prelude.{ℕ, Bool, cond, pos, get_or, Ok, Err, Result}
use Rattle.std.specs.Float.{binary32}
use Rattle.std.specs.Float.Ieee.{eq, to_bits}
use Rattle.hardware.specs.declared.Access.{Access}
use Rattle.hardware.specs.declared.Access.TheVariants.{Read, Write, Wait}
use Rattle.hardware.specs.declared.Error.{Error}
use Rattle.hardware.specs.declared.Meter.{Meter}
use Rattle.hardware.specs.Numbers.{error_number, error_values}
use Rattle.hardware.specs.Prog.{blank}
use Rattle.sfp.specs.declared.Identity.{Identity}
use Rattle.sfp.specs.Kinds.{kind_number}
use Rattle.light.specs.declared.power.Reading.{Reading}
use Rattle.light.specs.declared.power.Reading.TheVariants.{Internal, Calibrated, Absent}
use Rattle.light.specs.declared.sensed.Measures.{Measures}
use Rattle.flat.specs.Pick.{bit}
use Rattle.host.specs.declared.Next.{Next}
use Rattle.page.specs.Aliases.{Paged}
use Rattle.light.specs.Aliases.{Measured}
use Rattle.page.specs.declared.sums.PageError.TheVariants.{FirstSum, SecondSum, Bus}
use Rattle.light.specs.declared.power.PowerError.TheVariants.{Coefficient as CaseCoefficient, Power as CasePower}
use Rattle.light.specs.declared.sensed.LightError.TheVariants.{Power as OfPower, Bus as LightBus}

unfoldable pub next_of : ℕ → ℕ → ℕ → ℕ → Meter → Next
next_of kind first second third m =
    record { kind = kind; first = first; second = second; third = third; fourth = 0; fifth = 0; sixth = 0; transfers = m.transfers; slowest = m.slowest; temperature = pos 0 }

-- handed: 256 and the byte that a script has just read, else 0
unfoldable pub asked_of : Access → ℕ → Next
asked_of (Read r) handed = next_of 0 r 0 handed blank
asked_of (Write r v) handed = next_of 1 r v handed blank
asked_of (Wait t) handed = next_of 2 t.0 0 handed blank

unfoldable pub ended_of : ℕ → Meter → Next
ended_of value m = next_of 3 value 0 0 m

unfoldable pub failed_of : Error → Meter → Next
failed_of e m = next_of 4 (error_number e) (get_or (error_values e) 0 0) (get_or (error_values e) 1 0) m

unfoldable pub refused_of : ℕ → Next
refused_of number = next_of 5 number 0 0 blank

-- the results of the calls
unfoldable pub word_of : (Result ℕ Error) → Meter → Next
word_of (Ok v) m = ended_of v m
word_of (Err e) m = failed_of e m

unfoldable pub outcome_of : (Result (Unit {0}) Error) → Meter → Next
outcome_of (Ok tt) m = ended_of 0 m
outcome_of (Err e) m = failed_of e m

unfoldable pub byte_of : (Result ℕ Error) → Next
byte_of (Ok v) = ended_of v blank
byte_of (Err e) = failed_of e blank

unfoldable pub flag_of : (Result Bool Error) → Meter → Next
flag_of (Ok b) m = ended_of (bit b) m
flag_of (Err e) m = failed_of e m

-- the Rust's `Module`, its fields in their order
unfoldable pub identity_of : Identity → Meter → Next
identity_of i m =
    record { kind = 3; first = kind_number i.kind; second = bit i.multispeed; third = i.identifier; fourth = i.comp10g; fifth = i.comp1g; sixth = i.cable; transfers = m.transfers; slowest = m.slowest; temperature = pos 0 }

unfoldable pub identified_of : (Result Identity Error) → Meter → Next
identified_of (Ok i) m = identity_of i m
identified_of (Err e) m = failed_of e m

unfoldable pub paged_of : Paged → Meter → Next
paged_of (Ok tt) m = ended_of 0 m
paged_of (Err FirstSum) m = next_of 4 26 0 0 m
paged_of (Err SecondSum) m = next_of 4 27 0 0 m
paged_of (Err (Bus e)) m = failed_of e m

unfoldable pub reading_kind : Reading → ℕ
reading_kind (Internal count) = 0
reading_kind (Calibrated power) = 1
reading_kind Absent = 2

-- a calibrated power by its bit pattern; it is finite, so that it equals itself
unfoldable pub reading_count : Reading → ℕ
reading_count (Internal count) = count
reading_count (Calibrated power) = cond (eq power power) (to_bits binary32 power) 0
reading_count Absent = 0

unfoldable pub measures_of : Measures → Meter → Next
measures_of v m =
    record { kind = 3; first = v.voltage; second = v.bias; third = v.sent; fourth = reading_kind v.reading; fifth = reading_count v.reading; sixth = 0; transfers = m.transfers; slowest = m.slowest; temperature = v.temperature }

unfoldable pub measured_of : Measured → Meter → Next
measured_of (Ok v) m = measures_of v m
measured_of (Err (OfPower CaseCoefficient)) m = next_of 4 28 0 0 m
measured_of (Err (OfPower CasePower)) m = next_of 4 29 0 0 m
measured_of (Err (LightBus e)) m = failed_of e m
