use Rattle.std.proofs.Common.{◌∙◌, rules}
use mir.Facts.{to_z-of_z}
use Rattle.level.proofs.Levels.{tenths_fits, tenths_is}
use Rattle.level.proofs.lookup.level.Goals as goal

pub returns : goal.returns
returns c =
    let g = c.place.ensures in
    (c.place.result, g, to_z-of_z (tenths_fits g (search rules)) ∙ tenths_is g (search rules))
