-- What `identify` and `identify_qsfp` come to where every request succeeds, by the bytes that are read.
use Rattle.std.specs.Prelude.{◌≡◌, ℕ, suc, ◌<◌, ◌==◌}
use Rattle.hardware.specs.declared.Port.{Port}
use Rattle.hardware.specs.Prog.{Prog, ret, R, Ok, pick}
use Rattle.transfer.specs.declared.attempt.Sequence.{Sequence}
use Rattle.sfp.specs.declared.Identity.{Identity}
use Rattle.sfp.specs.Bytes.{codes_of}
use Rattle.sfp.specs.Classes.{Bytes, Class, SFP, QSFP, kind_of, qsfp_kind_of}
use Rattle.sfp.specs.Identify.{other, byte, recorded}
use Rattle.sfp.specs.Qsfp.{qsfp_recorded}

-- where byte i of the module is at i, the call makes n requests, each with one try at least, and ends with the record m
pub data Finds (q : Sequence) (port : Port) (at : Bytes) : ℕ → Prog (R Identity) → Identity → Type 0 where
  found : {m : Identity} → Finds q port at 0 (ret (Ok m)) m
  reads : (offset tries more n : ℕ) (k : ℕ → Prog (R Identity)) (m : Identity) → offset < 256 → tries ≡ suc more → Finds q port at n (k (at offset)) m
      → Finds q port at (suc n) (byte q port offset tries k) m

-- the record of a module with these bytes
abbrev pub identity_of : Bytes → Identity
identity_of at = pick (at 0 == SFP) (recorded (at 0) (codes_of at) (kind_of at)) (other (at 0))

abbrev pub qsfp_identity_of : Bytes → Identity
qsfp_identity_of at = pick (at 0 == QSFP) (qsfp_recorded (at 0x83) (at 0x86) (qsfp_kind_of at)) (other (at 0))

-- the class that a record names
abbrev pub class_in : Identity → Class
class_in m = record { kind = m.kind; multispeed = m.multispeed }
