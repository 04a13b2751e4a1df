-- `identify` of `sfp.rs`.
use Rattle.std.specs.Prelude.{ℕ, zero, suc, Bool, false, ◌&&◌, ◌||◌, ◌==◌, nat_le, nat_lt}
use Rattle.hardware.specs.declared.Port.{Port}
use Rattle.hardware.specs.Prog.{Prog, ret, R, Ok, Err, ◌>>=◌, pick}
use Rattle.hardware.specs.Registers.{none_of}
use Rattle.bus.specs.Bus.{is_i2c}
use Rattle.transfer.specs.declared.attempt.Sequence.{Sequence}
use Rattle.i2c.specs.declared.once.Request.TheVariants.{ReadByte}
use Rattle.i2c.specs.I2c.{locked, attempts, transferred}
use Rattle.sfp.specs.declared.Codes.{Codes}
use Rattle.sfp.specs.declared.Kind.{Kind}
use Rattle.sfp.specs.declared.Kind.TheVariants.{DaCu, DaActiveLimiting, SrLr, Cu1g, Sx1g, Lx1g, Bx10g, Bx1g, Unknown, NotPresent}
use Rattle.sfp.specs.declared.Identity.{Identity}
use Rattle.sfp.specs.Classes.{has, SFP, SR, LR, SX, LX, BASE_T, BX10, PASSIVE_DA, ACTIVE_DA, LIMITING, is_cable}

abbrev pub EEPROM : ℕ
EEPROM = 0xa0

abbrev pub absent : Identity
absent = record { kind = NotPresent; multispeed = false; identifier = 0; comp10g = 0; comp1g = 0; cable = 0 }

-- another identifier than an SFP's
abbrev pub other : ℕ → Identity
other identifier = record { kind = Unknown; multispeed = false; identifier = identifier; comp10g = 0; comp1g = 0; cable = 0 }

-- the Rust's `or_absent!` over `byte`: no module where the byte ends in I2c
unfoldable pub or_absent : (ℕ → Prog (R Identity)) → R ℕ → Prog (R Identity)
or_absent k (Ok v) = k v
or_absent k (Err e) = pick (is_i2c e) (ret (Ok absent)) (ret (Err e))

unfoldable pub byte : Sequence → Port → ℕ → ℕ → (ℕ → Prog (R Identity)) → Prog (R Identity)
byte q port offset tries k = transferred port (ReadByte EEPROM offset) (locked q) tries >>= or_absent k

-- byte 0 until it is an SFP's identifier
unfoldable pub identifier_of : Sequence → Port → ℕ → ℕ → (ℕ → Prog (R Identity)) → Prog (R Identity)
identifier_of q port zero identifier k = k identifier
identifier_of q port (suc left) identifier k = byte q port 0 11 (λ v. pick (v == SFP) (k v) (identifier_of q port left v k))

-- step 4: 10G-BX, by the nominal rate and the reach on single-mode fibre
unfoldable pub reach_of : Sequence → Port → (Bool → Prog (R Identity)) → Prog (R Identity)
reach_of q port k = byte q port 14 (attempts port) (λ km. byte q port 15 (attempts port) (λ hm. k (nat_lt 0 km || nat_le 10 hm)))

unfoldable pub bx10g_of : Sequence → Port → Codes → (Bool → Prog (R Identity)) → Prog (R Identity)
bx10g_of q port c k =
    pick (c.g10 == 0 && (none_of c.g1 0x0b && none_of c.cable 0x0c))
    (byte q port 12 (attempts port) (λ rate. pick (rate == 0x67) (reach_of q port k) (k false)))
    (k false)

-- step 5 below the cables: the first row that fits
unfoldable pub fibre_of : Codes → Bool → Kind
fibre_of c bx =
    pick (has c.g10 0x30) SrLr
    (pick (has c.g1 BASE_T) Cu1g
    (pick (has c.g1 SX) Sx1g
    (pick (has c.g1 LX) Lx1g
    (pick bx Bx10g
    (pick (has c.g1 BX10) Bx1g Unknown)))))

unfoldable pub kind_by : Sequence → Port → Codes → Bool → (Kind → Prog (R Identity)) → Prog (R Identity)
kind_by q port c bx k =
    pick (has c.cable PASSIVE_DA) (k DaCu)
    (pick (has c.cable ACTIVE_DA) (byte q port 60 (attempts port) (λ v. k (pick (has v LIMITING) DaActiveLimiting Unknown)))
    (k (fibre_of c bx)))

-- step 7
unfoldable pub recorded : ℕ → Codes → Kind → Identity
recorded identifier c kind =
    record {
      kind = kind;
      multispeed = has c.g1 SX && has c.g10 SR || (has c.g1 LX && has c.g10 LR || is_cable kind);
      identifier = identifier;
      comp10g = c.g10;
      comp1g = c.g1;
      cable = c.cable;
    }

unfoldable pub classify : Sequence → Port → ℕ → Codes → Prog (R Identity)
classify q port identifier c = bx10g_of q port c (λ bx. kind_by q port c bx (λ kind. ret (Ok (recorded identifier c kind))))

unfoldable pub known : Sequence → Port → ℕ → Prog (R Identity)
known q port identifier =
    byte q port 6 (attempts port) (λ g1. byte q port 3 (attempts port) (λ g10. byte q port 8 (attempts port) (λ cable.
    classify q port identifier (record { g1 = g1; g10 = g10; cable = cable }))))

unfoldable pub identified : Sequence → Port → ℕ → Prog (R Identity)
identified q port identifier = pick (identifier == SFP) (known q port identifier) (ret (Ok (other identifier)))

unfoldable pub identify : Sequence → Port → Prog (R Identity)
identify q port = identifier_of q port 5 0 (identified q port)
