-- The bytes that a class goes by, as a module's bytes: the others are 0.
use Rattle.std.specs.Prelude.{Bool, ◌&&◌, ◌==◌}
use Rattle.hardware.specs.Prog.{pick}
use Rattle.hardware.specs.Registers.{none_of}
use Rattle.sfp.specs.declared.Codes.{Codes}
use Rattle.sfp.specs.declared.class.Classed.{Classed}
use Rattle.sfp.specs.declared.class.SfpBytes.{SfpBytes}
use Rattle.sfp.specs.declared.qsfp.QsfpBytes.{QsfpBytes}
use Rattle.sfp.specs.Classes.{Bytes, Class}

unfoldable pub sfp_bytes : SfpBytes → Bytes
sfp_bytes b n =
    pick (n == 0) b.b0
    (pick (n == 3) b.b3
    (pick (n == 6) b.b6
    (pick (n == 8) b.b8
    (pick (n == 12) b.b12
    (pick (n == 14) b.b14
    (pick (n == 15) b.b15
    (pick (n == 60) b.b60 0)))))))

-- those bytes of a page
abbrev pub sfp_bytes_of : Bytes → SfpBytes
sfp_bytes_of at = record { b0 = at 0; b3 = at 3; b6 = at 6; b8 = at 8; b12 = at 12; b14 = at 14; b15 = at 15; b60 = at 60 }

-- hexadecimal
unfoldable pub qsfp_bytes : QsfpBytes → Bytes
qsfp_bytes b n =
    pick (n == 0) b.b0
    (pick (n == 0x82) b.b82
    (pick (n == 0x83) b.b83
    (pick (n == 0x86) b.b86
    (pick (n == 0x92) b.b92
    (pick (n == 0x93) b.b93 0)))))

abbrev pub qsfp_bytes_of : Bytes → QsfpBytes
qsfp_bytes_of at = record { b0 = at 0; b82 = at 0x82; b83 = at 0x83; b86 = at 0x86; b92 = at 0x92; b93 = at 0x93 }

-- the codes of a page
abbrev pub codes_of : Bytes → Codes
codes_of at = record { g1 = at 6; g10 = at 3; cable = at 8 }

-- byte 12 is requested of a module with these codes
unfoldable pub codes_ask_rate : Codes → Bool
codes_ask_rate c = c.g10 == 0 && (none_of c.g1 0x0b && none_of c.cable 0x0c)

-- the class that a program names
abbrev pub classed : Classed → Class
classed r = record { kind = r.kind; multispeed = r.multispeed }
