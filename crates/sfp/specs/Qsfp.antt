-- `identify_qsfp` of `sfp.rs`. Offsets are hexadecimal.
use Rattle.std.specs.Prelude.{ℕ, ◌/◌, ◌&&◌, ◌||◌, ◌==◌, nat_lt}
use Rattle.hardware.specs.declared.Port.{Port}
use Rattle.hardware.specs.Prog.{Prog, ret, R, Ok, pick}
use Rattle.transfer.specs.declared.attempt.Sequence.{Sequence}
use Rattle.i2c.specs.I2c.{attempts}
use Rattle.sfp.specs.declared.Kind.{Kind}
use Rattle.sfp.specs.declared.Kind.TheVariants.{DaCu, DaActiveLimiting, SrLr, Unknown}
use Rattle.sfp.specs.declared.Identity.{Identity}
use Rattle.sfp.specs.Classes.{has, QSFP, SR, LR, SX, LX}
use Rattle.sfp.specs.Identify.{byte, other}

unfoldable pub qsfp_recorded : ℕ → ℕ → Kind → Identity
qsfp_recorded g10 g1 kind =
    record {
      kind = kind;
      multispeed = has g1 SX && has g10 SR || has g1 LX && has g10 LR;
      identifier = QSFP;
      comp10g = g10;
      comp1g = g1;
      cable = 0;
    }

abbrev pub qsfp_found : ℕ → ℕ → Kind → Prog (R Identity)
qsfp_found g10 g1 kind = ret (Ok (qsfp_recorded g10 g1 kind))

-- byte 93: the transmitter's technology, in its high half
unfoldable pub qsfp_technology : ℕ → ℕ → ℕ → Prog (R Identity)
qsfp_technology g10 g1 v = pick (v / 16 == 0) (qsfp_found g10 g1 DaActiveLimiting) (qsfp_found g10 g1 Unknown)

-- byte 92: the length of the cable
unfoldable pub qsfp_length : Sequence → Port → ℕ → ℕ → ℕ → Prog (R Identity)
qsfp_length q port g10 g1 v = pick (nat_lt 0 v) (byte q port 0x93 (attempts port) (qsfp_technology g10 g1)) (qsfp_found g10 g1 Unknown)

-- byte 82: the connector; 23 is one that cannot be separated
unfoldable pub qsfp_connector : Sequence → Port → ℕ → ℕ → ℕ → Prog (R Identity)
qsfp_connector q port g10 g1 v = pick (v == 0x23) (byte q port 0x92 (attempts port) (qsfp_length q port g10 g1)) (qsfp_found g10 g1 Unknown)

unfoldable pub qsfp_classify : Sequence → Port → ℕ → ℕ → Prog (R Identity)
qsfp_classify q port g10 g1 =
    pick (has g10 0x08) (qsfp_found g10 g1 DaCu)
    (pick (has g10 0x30) (qsfp_found g10 g1 SrLr)
    (pick (has g10 0x01) (qsfp_found g10 g1 DaActiveLimiting)
    (byte q port 0x82 (attempts port) (qsfp_connector q port g10 g1))))

unfoldable pub qsfp_known : Sequence → Port → Prog (R Identity)
qsfp_known q port = byte q port 0x83 (attempts port) (λ g10. byte q port 0x86 (attempts port) (qsfp_classify q port g10))

unfoldable pub qsfp_identified : Sequence → Port → ℕ → Prog (R Identity)
qsfp_identified q port identifier = pick (identifier == QSFP) (qsfp_known q port) (ret (Ok (other identifier)))

unfoldable pub identify_qsfp : Sequence → Port → Prog (R Identity)
identify_qsfp q port = byte q port 0 11 (qsfp_identified q port)
