-- The examples that the papers mark as proved, joined in one table.
use Rattle.std.specs.Prelude.{ℕ, ◌≡◌, Bool, true, false, List, [], ◌∷◌}
use Rattle.std.specs.Int.Bits.{bit_or}
use Rattle.hardware.specs.declared.Family.TheVariants.{X540, X552}
use Rattle.sync.specs.Regs.{bits}
use Rattle.bus.specs.declared.command.Command.{Command}
use Rattle.bus.specs.declared.command.Command.TheVariants.{Start, Send, Read, Stop}
use Rattle.script.specs.Script.{commands}
use Rattle.script.specs.Scripts.{read_combined_script, write_combined_script}
use Rattle.sfp.specs.declared.Kind.{Kind}
use Rattle.sfp.specs.declared.Kind.TheVariants.{DaCu, SrLr, Bx10g, Bx1g, Unknown}
use Rattle.sfp.specs.Bytes.{sfp_bytes}
use Rattle.sfp.specs.Classes.{Bytes, Class, SFP, class_of}

-- a combined read that sends the device these bytes, the check byte last; the device then sends three
abbrev pub combined_read : ℕ → ℕ → ℕ → ℕ → List Command
combined_read device high low check =
    Start ∷ Send device ∷ Send high ∷ Send low ∷ Send check ∷ Start ∷ Send (bit_or device 1) ∷ Read false ∷ Read false ∷ Read true ∷ Stop ∷ []

-- a combined write that sends the device these bytes, the check byte last
abbrev pub combined_write : ℕ → ℕ → ℕ → ℕ → ℕ → ℕ → List Command
combined_write device high low valueHigh valueLow check =
    Start ∷ Send device ∷ Send high ∷ Send low ∷ Send valueHigh ∷ Send valueLow ∷ Send check ∷ Stop ∷ []

-- an SFP with these bytes 3, 6, 8, 12, 14, 15 and 60
abbrev pub sfp : ℕ → ℕ → ℕ → ℕ → ℕ → ℕ → ℕ → Bytes
sfp b3 b6 b8 b12 b14 b15 b60 = sfp_bytes (record { b0 = SFP; b3 = b3; b6 = b6; b8 = b8; b12 = b12; b14 = b14; b15 = b15; b60 = b60 })

abbrev pub class : Kind → Bool → Class
class kind multispeed = record { kind = kind; multispeed = multispeed }

pub record Starred : Type 0 where
  pub shared_i2c : bits X552 0x1806 ≡ record { sw = 0x1806; fw = 0x60c0; hw = 0 }
  pub eeprom : bits X540 1 ≡ record { sw = 1; fw = 0x20; hw = 0x10 }
  pub read_1234 : (device : ℕ) → commands (read_combined_script device 0x1234) ≡ combined_read device 0x25 0x34 0xA6
  pub read_7_fff : (device : ℕ) → commands (read_combined_script device 0x7FFF) ≡ combined_read device 0xFF 0xFF 0x00
  pub read_0080 : (device : ℕ) → commands (read_combined_script device 0x0080) ≡ combined_read device 0x01 0x80 0x7E
  pub write_abcd : (device : ℕ) → commands (write_combined_script device 0x1234 0xABCD) ≡ combined_write device 0x24 0x34 0xAB 0xCD 0x2E
  pub reach_0_a : (b60 : ℕ) → class_of (sfp 0x00 0x00 0x00 0x67 0x00 0x0A b60) ≡ class Bx10g false
  pub reach_09 : (b60 : ℕ) → class_of (sfp 0x00 0x00 0x00 0x67 0x00 0x09 b60) ≡ class Unknown false
  pub rate_66 : (b14 b15 b60 : ℕ) → class_of (sfp 0x00 0x40 0x00 0x66 b14 b15 b60) ≡ class Bx1g false
  pub cable_0_c : (b3 b6 b12 b14 b15 b60 : ℕ) → class_of (sfp b3 b6 0x0C b12 b14 b15 b60) ≡ class DaCu true
  pub sr_sx : (b12 b14 b15 b60 : ℕ) → class_of (sfp 0x10 0x01 0x00 b12 b14 b15 b60) ≡ class SrLr true
  pub lr_sx : (b12 b14 b15 b60 : ℕ) → class_of (sfp 0x20 0x01 0x00 b12 b14 b15 b60) ≡ class SrLr false
