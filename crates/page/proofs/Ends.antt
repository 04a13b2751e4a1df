-- How many answers of the awaited kinds bring a page to its end, and how many it may still need, from any state.
use Prim.Native.Nat.{ℕ, ◌+◌, ◌*◌, ◌≤◌, suc, zero}
use mathlib.Core.Path.{◌≡◌, refl}
use mathlib.Core.Bool.{true}
use mathlib.Core.List.{List}
use native.Mathlib.Nat.{mul-le-mul_right, suc-mul}
use native.Mathlib.Omega.{arith}
use Rattle.hardware.specs.declared.Answer.{Answer}
use Rattle.hardware.specs.declared.Family.{Family}
use Rattle.hardware.specs.declared.Family.TheVariants.{F82599, X550}
use Rattle.hardware.specs.declared.Port.{Port}
use Rattle.hardware.specs.Runs.{Ends}
use Rattle.hardware.proofs.Ends.{ends_more, ends_bind, ret_ends}
use Rattle.transfer.specs.declared.attempt.Sequence.{Sequence}
use Rattle.i2c.specs.declared.once.Request.TheVariants.{ReadByte}
use Rattle.i2c.specs.I2c.{locked}
use Rattle.i2c.proofs.Ends.{READ_STEPS, TRANSFER_STEPS, transferred_ends, handshake_after, request_rest_ends}
use Rattle.sfp.specs.Identify.{EEPROM}
use Rattle.page.specs.declared.walk.Form.{Form}
use Rattle.page.specs.declared.walk.Page.{Page}
use Rattle.page.specs.Page.{request_at, page_from, page}
use Rattle.page.specs.Walk.{rest_page}
use Rattle.page.proofs.Spreads.{seen_holds}

-- the last n bytes, each with its attempts; the number is the same for every byte
abbrev pub LAST_STEPS : Family → ℕ → ℕ → ℕ
LAST_STEPS family tries n = n * TRANSFER_STEPS family (ReadByte EEPROM 0) true tries

abbrev pub PAGE_STEPS : Family → ℕ → ℕ
PAGE_STEPS family tries = LAST_STEPS family tries 96

-- X540 has the number of 82599, X552 and X553 that of X550
pub page_steps : (PAGE_STEPS F82599 255 ≡ 61606113216) × (PAGE_STEPS X550 255 ≡ 296809953216)
page_steps = (refl, refl)

-- no accepted page takes more than one with 255 attempts
pub page_most : (family : Family) (tries : ℕ) → tries ≤ 255 → PAGE_STEPS family tries ≤ PAGE_STEPS family 255
page_most family tries h = omega (arith, mul-le-mul_right (READ_STEPS family (ReadByte EEPROM 0) true) h)

-- after the answer that is awaited
abbrev pub page_after : Family → Form → ℕ → Page → ℕ
page_after family form tries s = handshake_after family (request_at form s.left) true s.request + LAST_STEPS family tries s.left

module _ (q : Sequence) (port : Port) (form : Form) (tries : ℕ) where
  from_ends : (n : ℕ) (buffer : List ℕ) → Ends (page_from q port form tries n buffer) (LAST_STEPS port.family tries n)
  unfolding page_from request_at
  from_ends zero buffer = ret_ends _ _
  from_ends (suc left) buffer =
      ends_more _ _ _
      (ends_bind _ _ _ (LAST_STEPS port.family tries left) (transferred_ends port (request_at form left) (locked q) tries)
      (seen_holds (λ p. Ends p (LAST_STEPS port.family tries left)) (λ v. ret_ends v _) _ _ buffer (from_ends left)))
      (more left (TRANSFER_STEPS port.family (ReadByte EEPROM 0) true tries))
    where
      more : (a b : ℕ) → b + a * b ≤ suc a * b
      more a b = omega (arith, suc-mul a b)

  pub page_ends : (buffer : List ℕ) → Ends (page q port form tries buffer) (PAGE_STEPS port.family tries)
  unfolding page
  page_ends buffer = from_ends 96 buffer

  pub page_rest_ends : (s : Page) (buffer : List ℕ) (a : Answer) → Ends (rest_page q port form tries s buffer a) (page_after port.family form tries s)
  unfolding rest_page
  page_rest_ends s buffer a =
      request_rest_ends port (request_at form s.left) (locked q) _ _
      (seen_holds (λ p. Ends p (LAST_STEPS port.family tries s.left)) (λ v. ret_ends v _) _ _ buffer (from_ends s.left)) s.request a
