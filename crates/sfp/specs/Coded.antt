-- What the codes of a module alone decide: the first kind that fits, or that it takes the bytes of an active cable.
use Rattle.std.specs.Prelude.{ℕ, ◌/◌, Bool, ◌==◌, Some, None, Option}
use Rattle.hardware.specs.Prog.{pick}
use Rattle.sfp.specs.declared.Codes.{Codes}
use Rattle.sfp.specs.declared.Kind.{Kind}
use Rattle.sfp.specs.declared.Kind.TheVariants.{DaCu, DaActiveLimiting, SrLr, Unknown}
use Rattle.sfp.specs.Classes.{has, PASSIVE_DA, ACTIVE_DA}
use Rattle.sfp.specs.Identify.{fibre_of}

-- of an SFP; bx: whether the 10G-BX test holds
unfoldable pub coded_by : Codes → Bool → (Option Kind)
coded_by c bx = pick (has c.cable PASSIVE_DA) (Some DaCu) (pick (has c.cable ACTIVE_DA) None (Some (fibre_of c bx)))

-- of a QSFP, by byte 83 (hexadecimal)
unfoldable pub qsfp_coded : ℕ → (Option Kind)
qsfp_coded g10 = pick (has g10 0x08) (Some DaCu) (pick (has g10 0x30) (Some SrLr) (pick (has g10 0x01) (Some DaActiveLimiting) None))

-- of its cable, by byte 93
unfoldable pub qsfp_cable : ℕ → Kind
qsfp_cable technology = pick (technology / 16 == 0) DaActiveLimiting Unknown
