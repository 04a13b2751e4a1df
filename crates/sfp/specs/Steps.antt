-- The number of accesses that no `identify` exceeds, by the family. `proofs/Ends.antt` has the sum that it is.
use Rattle.std.specs.Prelude.{ℕ}
use Rattle.hardware.specs.declared.Family.{Family}
use Rattle.hardware.specs.declared.Family.TheVariants.{F82599, X540, X550, X552, X553}

abbrev pub IDENTIFY_STEPS : Family → ℕ
IDENTIFY_STEPS F82599 = 332194488
IDENTIFY_STEPS X540 = 332194488
IDENTIFY_STEPS X550 = 1600450488
IDENTIFY_STEPS X552 = 1600450488
IDENTIFY_STEPS X553 = 1600450488
