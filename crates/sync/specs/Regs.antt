-- The registers, bits and waits of `sync.rs`, under its names.
use Rattle.std.specs.Prelude.{ℕ, ◌*◌, ◌^◌, Bool, true, false, eqb}
use Rattle.std.specs.Int.Bits.{bit_and, bit_or}
use Rattle.hardware.specs.declared.Family.{Family}
use Rattle.hardware.specs.declared.Family.TheVariants.{F82599, X540, X550, X552, X553}
use Rattle.hardware.specs.declared.Port.{Port}
use Rattle.hardware.specs.declared.poll.Watch.{Watch}
use Rattle.hardware.specs.declared.change.Change.{Change}
use Rattle.hardware.specs.declared.change.Bits.TheVariants.{Set, Clear}
use Rattle.hardware.specs.Asked.{is}
use Rattle.hardware.specs.Prog.{pick}
use Rattle.hardware.specs.Registers.{ESDP, none_of, micros}
use Rattle.sync.specs.declared.regs.Masks.{Masks}

abbrev pub EEP : ℕ
EEP = 2 ^ 0

abbrev pub PHY0 : ℕ
PHY0 = 2 ^ 1

abbrev pub PHY1 : ℕ
PHY1 = 2 ^ 2

abbrev pub FLASH : ℕ
FLASH = 2 ^ 4

abbrev pub SW_MNG : ℕ
SW_MNG = 2 ^ 10

-- I2C0 and I2C1
abbrev pub I2C : ℕ
I2C = 0x1800

abbrev pub TOKEN : ℕ
TOKEN = 2 ^ 30

abbrev pub SMBI : ℕ
SMBI = 2 ^ 0

abbrev pub SWESMBI : ℕ
SWESMBI = 2 ^ 1

abbrev pub REGSMP : ℕ
REGSMP = 2 ^ 31

-- the port's PHY bit
unfoldable pub phy : ℕ → ℕ
phy lan = pick (eqb lan 1) PHY1 PHY0

-- `regs`: SWSM, then SW_FW_SYNC
unfoldable pub swsm : Family → ℕ
swsm family = pick (is family X553) 0x15f70 0x10140

unfoldable pub sw_fw_sync : Family → ℕ
sw_fw_sync family = pick (is family X553) 0x15f78 0x10160

-- `bits` on the 82599, and from the X540 on
unfoldable pub bits82599 : ℕ → Masks
bits82599 mask = record { sw = bit_and mask 0x1f; fw = bit_and mask 0x1f * 2 ^ 5; hw = 0 }

unfoldable pub bits_x540 : ℕ → Masks
bits_x540 mask = record {
  sw = bit_or (bit_and mask 0x40f) (bit_and mask I2C);
  fw = bit_or (bit_and mask 0xf * 2 ^ 5) (bit_and mask I2C * 2 ^ 2);
  hw = pick (none_of mask EEP) 0 FLASH;
}

-- `bits`: the software bits taken, and the firmware and hardware bits that block them
unfoldable pub bits : Family → ℕ → Masks
bits family mask = pick (is family F82599) (bits82599 mask) (bits_x540 mask)

-- `mux`: X552 port 1 reaches the shared I2C segment through a mux on its SDP1
unfoldable pub mux : Port → ℕ → Bool
mux port mask = pick (is port.family X552) (pick (eqb port.lan 1) (pick (none_of mask I2C) false true) false) false

-- the tries of `acquire_bits`, 5 ms apart
abbrev pub tries : Family → ℕ
tries F82599 = 200
tries X540 = 200
tries X550 = 1000
tries X552 = 1000
tries X553 = 1000

-- the tries for SMBI, SWESMBI and REGSMP, 50 µs apart
abbrev pub TRIES : ℕ
TRIES = 2000

unfoldable pub smbi_watch : Family → Watch
smbi_watch family = record { register = swsm family; bit = SMBI; us = micros 50 }

unfoldable pub regsmp_watch : Family → Watch
regsmp_watch family = record { register = sw_fw_sync family; bit = REGSMP; us = micros 50 }

-- SWSM with SWESMBI set
abbrev pub set_swesmbi : Change
set_swesmbi = record { register = 0x10140; bits = Set SWESMBI; flushed = false }

-- our bits of SWSM cleared, then a flush
unfoldable pub back_swsm : Family → Change
back_swsm family = record { register = swsm family; bits = Clear (pick (is family F82599) 3 SMBI); flushed = true }

-- bits of SW_FW_SYNC cleared
unfoldable pub clear_sync : Family → ℕ → Change
clear_sync family cleared = record { register = sw_fw_sync family; bits = Clear cleared; flushed = false }

-- `set_mux`: ESDP bit 1, then a flush
unfoldable pub set_mux : Bool → Change
set_mux true = record { register = ESDP; bits = Set 2; flushed = true }
set_mux false = record { register = ESDP; bits = Clear 2; flushed = true }

-- the wait after a release from the X540 on: 10 µs for PHY and MNG masks, 2 ms for others
unfoldable pub release_us : ℕ → ℕ
release_us mask = pick (none_of mask 0x406) 2000 10
