-- Classes of modules by SFF-8472, over a module's bytes: at n is byte n of page A0 (decimal).
use Rattle.std.specs.Prelude.{ℕ, ◌+◌, ◌/◌, Bool, false, not, ◌&&◌, ◌||◌, ◌==◌, nat_le, nat_lt}
use Rattle.hardware.specs.Prog.{pick}
use Rattle.hardware.specs.Registers.{none_of}
use Rattle.sfp.specs.declared.Kind.{Kind}
use Rattle.sfp.specs.declared.Kind.TheVariants.{DaCu, DaActiveLimiting, SrLr, Cu1g, Sx1g, Lx1g, Bx10g, Bx1g, Unknown}
use Rattle.sfp.specs.Kinds.{is_kind}

-- a byte has one of the bits
unfoldable pub has : ℕ → ℕ → Bool
has byte bits = not (none_of byte bits)

-- a module's bytes
abbrev pub Bytes : Type 0
Bytes = ℕ → ℕ

-- the identifier of an SFP
abbrev pub SFP : ℕ
SFP = 0x03

-- byte 3
abbrev pub SR : ℕ
SR = 0x10

abbrev pub LR : ℕ
LR = 0x20

-- byte 6
abbrev pub SX : ℕ
SX = 0x01

abbrev pub LX : ℕ
LX = 0x02

abbrev pub BASE_T : ℕ
BASE_T = 0x08

abbrev pub BX10 : ℕ
BX10 = 0x40

-- byte 8
abbrev pub PASSIVE_DA : ℕ
PASSIVE_DA = 0x04

abbrev pub ACTIVE_DA : ℕ
ACTIVE_DA = 0x08

-- byte 60
abbrev pub LIMITING : ℕ
LIMITING = 0x04

-- the first three parts of the 10G-BX test: byte 12 is requested where they hold
unfoldable pub asks_rate : Bytes → Bool
asks_rate at = at 3 == 0x00 && (none_of (at 6) 0x0b && none_of (at 8) 0x0c)

-- 14 and 15 are requested where byte 12 is 67 too
unfoldable pub asks_reach : Bytes → Bool
asks_reach at = asks_rate at && at 12 == 0x67

unfoldable pub bx10g : Bytes → Bool
bx10g at = asks_reach at && (nat_lt 0x00 (at 14) || nat_le 0x0a (at 15))

-- 60 is requested of an active cable
unfoldable pub asks_active : Bytes → Bool
asks_active at = none_of (at 8) PASSIVE_DA && has (at 8) ACTIVE_DA

-- the first that fits
unfoldable pub kind_of : Bytes → Kind
kind_of at =
    pick (has (at 8) PASSIVE_DA) DaCu
    (pick (has (at 8) ACTIVE_DA) (pick (has (at 60) LIMITING) DaActiveLimiting Unknown)
    (pick (has (at 3) SR || has (at 3) LR) SrLr
    (pick (has (at 6) BASE_T) Cu1g
    (pick (has (at 6) SX) Sx1g
    (pick (has (at 6) LX) Lx1g
    (pick (bx10g at) Bx10g
    (pick (has (at 6) BX10) Bx1g Unknown)))))))

-- a direct-attach cable
unfoldable pub is_cable : Kind → Bool
is_cable kind = is_kind kind DaCu || is_kind kind DaActiveLimiting

-- SX with SR, LX with LR, DaCu, or DaActiveLimiting
unfoldable pub multispeed_of : Bytes → Bool
multispeed_of at = has (at 6) SX && has (at 3) SR || (has (at 6) LX && has (at 3) LR || is_cable (kind_of at))

-- the class of a module: Unknown without multispeed where byte 0 is not 03
pub record Class : Type 0 where
  pub kind : Kind
  pub multispeed : Bool

unfoldable pub class_of : Bytes → Class
class_of at = pick (at 0 == SFP) (record { kind = kind_of at; multispeed = multispeed_of at }) (record { kind = Unknown; multispeed = false })

-- how many bytes an identification requests
unfoldable pub requests : Bytes → ℕ
requests at = pick (at 0 == SFP) (4 + pick (asks_rate at) 1 0 + pick (asks_reach at) 2 0 + pick (asks_active at) 1 0) 5

-- QSFP modules (SFF-8636), over the bytes that the module shows: at n is byte n (hexadecimal)
abbrev pub QSFP : ℕ
QSFP = 0x0d

-- an active cable: by its code, or by its connector, its length and its transmitter's technology
unfoldable pub qsfp_active : Bytes → Bool
qsfp_active at = has (at 0x83) 0x01 || (at 0x82 == 0x23 && (nat_lt 0x00 (at 0x92) && at 0x93 / 16 == 0))

unfoldable pub qsfp_kind_of : Bytes → Kind
qsfp_kind_of at =
    pick (has (at 0x83) 0x08) DaCu
    (pick (has (at 0x83) SR || has (at 0x83) LR) SrLr
    (pick (qsfp_active at) DaActiveLimiting Unknown))

-- only SX with SR or LX with LR
unfoldable pub qsfp_multispeed_of : Bytes → Bool
qsfp_multispeed_of at = has (at 0x86) SX && has (at 0x83) SR || has (at 0x86) LX && has (at 0x83) LR

unfoldable pub qsfp_class_of : Bytes → Class
qsfp_class_of at = pick (at 0 == QSFP) (record { kind = qsfp_kind_of at; multispeed = qsfp_multispeed_of at }) (record { kind = Unknown; multispeed = false })
