-- Received power by an external calibration, in IEEE 754's binary32.
use Rattle.std.specs.Prelude.{ℕ, ◌/◌, ◌%◌, ◌^◌, Bool, not, ◌&&◌, List, [], ◌∷◌, eqb, pos, Float}
use Rattle.std.specs.Float.{binary32}
use Rattle.std.specs.Float.Ieee.{add, mul, of_bits, of_int}
use Rattle.std.specs.Float.Ieee.Scale.{finite}
use Rattle.hardware.specs.Failures.{Failure}
use Rattle.hardware.specs.Prog.{R, Ok, Err, pick}
use Rattle.light.specs.declared.power.Patterns.{Patterns}
use Rattle.light.specs.declared.power.Coefficients.{Coefficients}
use Rattle.light.specs.Aliases.{Powered}
use Rattle.light.specs.declared.power.PowerError.TheVariants.{Coefficient as CaseCoefficient, Power as CasePower}

-- the eight bits of the exponent, above the 23 of the fraction, are not all ones
abbrev pub finite_pattern : ℕ → Bool
finite_pattern bits = not (eqb (bits / 2 ^ 23 % 256) 255)

abbrev pub all_finite : Patterns → Bool
all_finite p = finite_pattern p.c4 && finite_pattern p.c3 && finite_pattern p.c2 && finite_pattern p.c1 && finite_pattern p.c0

-- the float of a pattern
abbrev pub float : ℕ → Float
float bits = of_bits binary32 bits

abbrev pub coefficients_of : Patterns → Coefficients
coefficients_of p = record { c4 = float p.c4; c3 = float p.c3; c2 = float p.c2; c1 = float p.c1; c0 = float p.c0 }

-- a step of Horner's rule: y times x, rounded, and then plus c, rounded
abbrev pub step : Float → Float → Float → Float
step x y c = add binary32 (mul binary32 y x) c

-- the rule from y on, with the coefficients that are left
unfoldable pub horner_from : Float → Float → List Float → Float
horner_from x y [] = y
horner_from x y (c ∷ l) = horner_from x (step x y c) l

-- every value that it goes through: y, and for each coefficient the product and the sum
unfoldable pub passed : Float → Float → List Float → List Float
passed x y [] = y ∷ []
passed x y (c ∷ l) = y ∷ mul binary32 y x ∷ passed x (step x y c) l

-- a raw count as a float
abbrev pub counted : ℕ → Float
counted count = of_int binary32 (pos count)

-- the coefficients after the first
abbrev pub later : Coefficients → List Float
later c = c.c3 ∷ c.c2 ∷ c.c1 ∷ c.c0 ∷ []

-- the power of a count: the rule starts from Rx_PWR(4) itself
unfoldable pub horner_of : Coefficients → ℕ → Float
horner_of c count = horner_from (counted count) c.c4 (later c)

-- every value on the way to it, and the power
unfoldable pub values_of : Coefficients → ℕ → List Float
values_of c count = passed (counted count) c.c4 (later c)

-- the failures: a coefficient that is not finite, and a power that is not
abbrev pub Coefficient : Failure
Coefficient = record { number = 28; values = [] }

abbrev pub Result : Failure
Result = record { number = 29; values = [] }

unfoldable pub judged : Float → R Float
judged x = pick (finite x) (Ok x) (Err Result)

-- the coefficients, then the result
unfoldable pub power_of : Patterns → ℕ → R Float
power_of p count = pick (all_finite p) (judged (horner_of (coefficients_of p) count)) (Err Coefficient)

-- what the code's result tells
unfoldable pub powered_of : Powered → R Float
powered_of (Ok x) = Ok x
powered_of (Err CaseCoefficient) = Err Coefficient
powered_of (Err CasePower) = Err Result
