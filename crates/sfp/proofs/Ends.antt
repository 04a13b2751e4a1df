-- How many answers of the awaited kinds bring `identify`, `identify_qsfp` and `soft_rate_select` to their end, for every
-- port.
use Rattle.std.proofs.Common.{◌≡◌, ℕ, zero, suc, ◌+◌, ◌*◌, ◌≤◌, Bool, true, false, refl, mul-le-mul_right, suc-mul, arith}
use mathlib.Core.Path.{subst⁻¹}
use Rattle.hardware.specs.declared.Family.{Family}
use Rattle.hardware.specs.declared.Family.TheVariants.{F82599, X540, X550, X552, X553}
use Rattle.hardware.specs.declared.Port.{Port}
use Rattle.hardware.specs.Prog.{Prog, R, Ok, Err}
use Rattle.hardware.specs.Runs.{Ends}
use Rattle.hardware.proofs.Ends.{ends_more, ends_bind, ends_pick, ret_ends}
use Rattle.i2c.specs.declared.once.Request.TheVariants.{ReadByte, WriteByte}
use Rattle.transfer.specs.declared.attempt.Sequence.{Sequence}
use Rattle.i2c.specs.I2c.{locked, attempts}
use Rattle.i2c.proofs.Laws.{attempts_few}
use Rattle.i2c.proofs.Ends.{READ_STEPS, TRANSFER_STEPS, transferred_ends}
use Rattle.sfp.specs.declared.Kind.{Kind}
use Rattle.sfp.specs.declared.Identity.{Identity}
use Rattle.sfp.specs.declared.Codes.{Codes}
use Rattle.sfp.specs.Identify.{EEPROM, or_absent, byte, identifier_of, reach_of, bx10g_of, kind_by, classify, known, identified, identify}
use Rattle.sfp.specs.Qsfp.{qsfp_technology, qsfp_length, qsfp_connector, qsfp_classify, qsfp_known, qsfp_identified, identify_qsfp}
use Rattle.sfp.specs.Steps.{IDENTIFY_STEPS}
use Rattle.sfp.specs.Rate.{DIAG, or_not, selected, rate_byte, soft_rate_select}

-- a byte requested with eleven attempts, the most that `identify` allows
abbrev pub BYTE_STEPS : Family → ℕ
BYTE_STEPS family = TRANSFER_STEPS family (ReadByte EEPROM 0) true 11

-- byte 0 five times; 6, 3 and 8; 12, 14 and 15; 60
pub identify_steps : (family : Family) → IDENTIFY_STEPS family ≡ 12 * BYTE_STEPS family
identify_steps F82599 = refl
identify_steps X540 = refl
identify_steps X550 = refl
identify_steps X552 = refl
identify_steps X553 = refl

-- the identifier; two codes; the connector, the length and the technology
abbrev pub QSFP_STEPS : Family → ℕ
QSFP_STEPS family = 6 * BYTE_STEPS family

pub qsfp_steps : (QSFP_STEPS F82599 ≡ 166097244) × (QSFP_STEPS X550 ≡ 800225244)
qsfp_steps = (refl, refl)

-- a byte written back
abbrev pub WRITTEN_STEPS : Family → ℕ
WRITTEN_STEPS family = TRANSFER_STEPS family (WriteByte DIAG 0 0) true 2

-- two bytes, each read and written
abbrev pub RATE_STEPS : Family → ℕ
RATE_STEPS family = 2 * (BYTE_STEPS family + WRITTEN_STEPS family)

pub rate_steps : (RATE_STEPS F82599 ≡ 60524478) × (RATE_STEPS X550 ≡ 291116478)
rate_steps = (refl, refl)

module _ (q : Sequence) (port : Port) where
  few : (tries : ℕ) → tries ≤ 11 → TRANSFER_STEPS port.family (ReadByte EEPROM 0) true tries ≤ BYTE_STEPS port.family
  few tries h = omega (arith, mul-le-mul_right (READ_STEPS port.family (ReadByte EEPROM 0) true) h)

  pub absent_ends : (k : ℕ → Prog (R Identity)) (n : ℕ) → ((v : ℕ) → Ends (k v) n) → (r : R ℕ) → Ends (or_absent k r) n
  unfolding or_absent
  absent_ends k n e (Ok v) = e v
  absent_ends k n e (Err error) = ends_pick _ _ _ n (ret_ends _ n) (ret_ends _ n)

  pub byte_ends : (offset tries : ℕ) (k : ℕ → Prog (R Identity)) (n : ℕ) → tries ≤ 11 → ((v : ℕ) → Ends (k v) n) → Ends (byte q port offset tries k) (BYTE_STEPS port.family + n)
  unfolding byte
  byte_ends offset tries k n h e =
      ends_bind _ _ (BYTE_STEPS port.family) n
      (ends_more _ _ (BYTE_STEPS port.family) (transferred_ends port (ReadByte EEPROM offset) (locked q) tries) (few tries h)) (absent_ends k n e)

  -- the identifier, so many times
  pub identifier_ends : (left identifier : ℕ) (k : ℕ → Prog (R Identity)) (n : ℕ) → ((v : ℕ) → Ends (k v) n)
      → Ends (identifier_of q port left identifier k) (left * BYTE_STEPS port.family + n)
  unfolding identifier_of
  identifier_ends zero identifier k n e = ends_more _ n _ (e identifier) (omega arith)
  identifier_ends (suc left) identifier k n e =
      ends_more _ _ _
      (byte_ends 0 11 _ (left * BYTE_STEPS port.family + n) (omega arith) (λ v. ends_pick _ _ _ _ (ends_more _ n _ (e v) (omega arith)) (identifier_ends left v k n e)))
      (many left (BYTE_STEPS port.family))
    where
      many : (a b : ℕ) → b + (a * b + n) ≤ suc a * b + n
      many a b = omega (arith, suc-mul a b)

  pub reach_ends : (k : Bool → Prog (R Identity)) (n : ℕ) → ((b : Bool) → Ends (k b) n) → Ends (reach_of q port k) (2 * BYTE_STEPS port.family + n)
  unfolding reach_of
  reach_ends k n e =
      ends_more _ _ _ (byte_ends 14 _ _ _ (attempts_few port) (λ km. byte_ends 15 _ _ n (attempts_few port) (λ hm. e _))) (omega arith)

  pub bx_ends : (c : Codes) (k : Bool → Prog (R Identity)) (n : ℕ) → ((b : Bool) → Ends (k b) n) → Ends (bx10g_of q port c k) (3 * BYTE_STEPS port.family + n)
  unfolding bx10g_of
  bx_ends c k n e =
      ends_pick _ _ _ _
      (ends_more _ _ _ (byte_ends 12 _ _ (2 * BYTE_STEPS port.family + n) (attempts_few port) (λ rate. ends_pick _ _ _ _ (reach_ends k n e) (ends_more _ n _ (e false) (omega arith)))) (omega arith))
      (ends_more _ n _ (e false) (omega arith))

  pub kind_ends : (c : Codes) (bx : Bool) (k : Kind → Prog (R Identity)) (n : ℕ) → ((kind : Kind) → Ends (k kind) n) → Ends (kind_by q port c bx k) (BYTE_STEPS port.family + n)
  unfolding kind_by
  kind_ends c bx k n e =
      ends_pick _ _ _ _ (ends_more _ n _ (e _) (omega arith))
      (ends_pick _ _ _ _ (byte_ends 60 _ _ n (attempts_few port) (λ v. e _)) (ends_more _ n _ (e _) (omega arith)))

  pub known_ends : (identifier : ℕ) → Ends (known q port identifier) (7 * BYTE_STEPS port.family)
  unfolding known classify
  known_ends identifier =
      ends_more _ _ _
      (byte_ends 6 _ _ _ (attempts_few port) (λ g1. byte_ends 3 _ _ _ (attempts_few port) (λ g10. byte_ends 8 _ _ _ (attempts_few port) (λ cable.
      bx_ends _ _ _ (λ bx. kind_ends _ bx _ 0 (λ kind. ret_ends _ 0))))))
      (omega arith)

  pub identify_ends : Ends (identify q port) (IDENTIFY_STEPS port.family)
  unfolding identify identified
  identify_ends =
      subst⁻¹ (Ends (identify q port)) (identify_steps port.family)
      (ends_more _ _ (12 * BYTE_STEPS port.family)
      (identifier_ends 5 0 _ (7 * BYTE_STEPS port.family) (λ identifier. ends_pick _ _ _ _ (known_ends identifier) (ret_ends _ _)))
      (omega arith))

  pub technology_ends : (g10 g1 v : ℕ) → Ends (qsfp_technology g10 g1 v) 0
  unfolding qsfp_technology
  technology_ends g10 g1 v = ends_pick _ _ _ 0 (ret_ends _ 0) (ret_ends _ 0)

  pub length_ends : (g10 g1 v : ℕ) → Ends (qsfp_length q port g10 g1 v) (BYTE_STEPS port.family + 0)
  unfolding qsfp_length
  length_ends g10 g1 v = ends_pick _ _ _ _ (byte_ends 0x93 _ _ 0 (attempts_few port) (technology_ends g10 g1)) (ret_ends _ _)

  pub connector_ends : (g10 g1 v : ℕ) → Ends (qsfp_connector q port g10 g1 v) (BYTE_STEPS port.family + (BYTE_STEPS port.family + 0))
  unfolding qsfp_connector
  connector_ends g10 g1 v = ends_pick _ _ _ _ (byte_ends 0x92 _ _ _ (attempts_few port) (length_ends g10 g1)) (ret_ends _ _)

  pub codes_ends : (g10 g1 : ℕ) → Ends (qsfp_classify q port g10 g1) (3 * BYTE_STEPS port.family)
  unfolding qsfp_classify
  codes_ends g10 g1 =
      ends_pick _ _ _ _ (ret_ends _ _) (ends_pick _ _ _ _ (ret_ends _ _) (ends_pick _ _ _ _ (ret_ends _ _)
      (ends_more _ _ _ (byte_ends 0x82 _ _ _ (attempts_few port) (connector_ends g10 g1)) (omega arith))))

  pub qsfp_ends : Ends (identify_qsfp q port) (QSFP_STEPS port.family)
  unfolding identify_qsfp qsfp_identified qsfp_known
  qsfp_ends =
      ends_more _ _ _
      (byte_ends 0 11 _ (5 * BYTE_STEPS port.family) (omega arith) (λ v. ends_pick _ _ _ _
      (ends_more _ _ _ (byte_ends 0x83 _ _ _ (attempts_few port) (λ g10. byte_ends 0x86 _ _ _ (attempts_few port) (codes_ends g10))) (omega arith)) (ret_ends _ _)))
      (omega arith)

  pub not_ends : (k : Bool → Prog (R Bool)) (f : ℕ → Prog (R Bool)) (n : ℕ) → ((b : Bool) → Ends (k b) n) → ((v : ℕ) → Ends (f v) n) → (r : R ℕ) → Ends (or_not k f r) n
  unfolding or_not
  not_ends k f n e g (Ok v) = g v
  not_ends k f n e g (Err error) = ends_pick _ _ _ n (e false) (ret_ends _ n)

  pub rate_byte_ends : (ten ok : Bool) (offset : ℕ) (k : Bool → Prog (R Bool)) (n : ℕ) → ((b : Bool) → Ends (k b) n)
      → Ends (rate_byte q port ten ok offset k) (BYTE_STEPS port.family + (WRITTEN_STEPS port.family + n))
  unfolding rate_byte
  rate_byte_ends ten ok offset k n e =
      ends_bind _ _ (BYTE_STEPS port.family) (WRITTEN_STEPS port.family + n)
      (ends_more _ _ (BYTE_STEPS port.family) (transferred_ends port (ReadByte DIAG offset) (locked q) (attempts port)) (few (attempts port) (attempts_few port)))
      (not_ends k _ _ (λ b. ends_more _ n _ (e b) (omega arith))
      (λ v. ends_bind _ _ (WRITTEN_STEPS port.family) n (transferred_ends port (WriteByte DIAG offset (selected ten v)) (locked q) 2) (not_ends k _ n e (λ _. e ok))))

  pub rate_ends : (ten : Bool) → Ends (soft_rate_select q port ten) (RATE_STEPS port.family)
  unfolding soft_rate_select
  rate_ends ten =
      ends_more _ _ _
      (rate_byte_ends ten true 0x6e _ _ (λ ok. rate_byte_ends ten ok 0x76 _ 0 (λ both. ret_ends _ 0)))
      (omega arith)
