-- States of `sfp` as numbers, and back; back again nothing is lost. Written by `derive`.
use Rattle.std.specs.Prelude.{◌≡◌, refl}
use Rattle.sfp.specs.declared.Codes.{Codes}
use Rattle.flat.specs.declared.of_sfp.CodesFlat.{CodesFlat}

unfoldable pub flat_codes : Codes → CodesFlat
flat_codes s = record { b0 = s.g1; b1 = s.g10; b2 = s.cable }

unfoldable pub the_codes : CodesFlat → Codes
the_codes b = record { g1 = b.b0; g10 = b.b1; cable = b.b2 }

pub back_codes : (s : Codes) → the_codes (flat_codes s) ≡ s
unfolding flat_codes the_codes
back_codes s = refl
