-- How many answers of the awaited kinds bring a call to its end, and how many it may still need, from any state.
use Prim.Native.Nat.{ℕ, ◌+◌, ◌*◌, ◌≤◌, suc, zero}
use mathlib.Core.Path.{◌≡◌, refl}
use mathlib.Core.Bool.{true}
use native.Mathlib.Nat.{mul-le-mul_right, suc-mul}
use native.Mathlib.Omega.{arith}
use Rattle.hardware.specs.declared.Answer.{Answer}
use Rattle.hardware.specs.declared.Family.{Family}
use Rattle.hardware.specs.declared.Family.TheVariants.{F82599, X550}
use Rattle.hardware.specs.declared.Port.{Port}
use Rattle.hardware.specs.Runs.{Ends}
use Rattle.hardware.proofs.Ends.{ends_more, ends_bind, ret_ends}
use Rattle.transfer.specs.declared.attempt.Sequence.{Sequence}
use Rattle.i2c.specs.declared.once.Request.TheVariants.{ReadByte}
use Rattle.i2c.specs.I2c.{locked}
use Rattle.i2c.proofs.Ends.{READ_STEPS, TRANSFER_STEPS, transferred_ends, handshake_after, request_rest_ends}
use Rattle.light.specs.declared.sensed.Sensed.{Sensed}
use Rattle.light.specs.declared.walk.Light.{Light}
use Rattle.light.specs.Light.{light_from, light, request_at}
use Rattle.light.specs.Walk.{rest_light}
use Rattle.light.proofs.Spreads.{seen_holds}

-- the last n bytes, each with its attempts; the number is the same for every byte
abbrev pub LAST_STEPS : Family → ℕ → ℕ → ℕ
LAST_STEPS family tries n = n * TRANSFER_STEPS family (ReadByte 0 0) true tries

abbrev pub LIGHT_STEPS : Family → ℕ → ℕ
LIGHT_STEPS family tries = LAST_STEPS family tries 31

-- X540 has the number of 82599, X552 and X553 that of X550
pub light_steps : (LIGHT_STEPS F82599 255 ≡ 19893640726) × (LIGHT_STEPS X550 255 ≡ 95844880726)
light_steps = (refl, refl)

-- no accepted call takes more than one with 255 attempts
pub light_most : (family : Family) (tries : ℕ) → tries ≤ 255 → LIGHT_STEPS family tries ≤ LIGHT_STEPS family 255
light_most family tries h = omega (arith, mul-le-mul_right (READ_STEPS family (ReadByte 0 0) true) h)

-- after the answer that is awaited
abbrev pub light_after : Family → ℕ → Light → ℕ
light_after family tries s = handshake_after family (request_at s.left) true s.request + LAST_STEPS family tries s.left

module _ (q : Sequence) (port : Port) (tries : ℕ) where
  from_ends : (n : ℕ) (s : Sensed) → Ends (light_from q port tries n s) (LAST_STEPS port.family tries n)
  unfolding light_from request_at
  from_ends zero s = ret_ends _ _
  from_ends (suc left) s =
      ends_more _ _ _
      (ends_bind _ _ _ (LAST_STEPS port.family tries left) (transferred_ends port (request_at left) (locked q) tries)
      (seen_holds (λ p. Ends p (LAST_STEPS port.family tries left)) (λ v. ret_ends v _) _ left s (from_ends left)))
      (more left (TRANSFER_STEPS port.family (ReadByte 0 0) true tries))
    where
      more : (a b : ℕ) → b + a * b ≤ suc a * b
      more a b = omega (arith, suc-mul a b)

  pub light_ends : Ends (light q port tries) (LIGHT_STEPS port.family tries)
  unfolding light
  light_ends = from_ends 31 _

  pub light_rest_ends : (s : Light) (a : Answer) → Ends (rest_light q port tries s a) (light_after port.family tries s)
  unfolding rest_light
  light_rest_ends s a =
      request_rest_ends port (request_at s.left) (locked q) _ _
      (seen_holds (λ p. Ends p (LAST_STEPS port.family tries s.left)) (λ v. ret_ends v _) _ s.left s.sensed (from_ends s.left)) s.request a
