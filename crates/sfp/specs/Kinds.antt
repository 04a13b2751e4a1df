-- Kinds by their numbers.
use Rattle.std.specs.Prelude.{ℕ, Bool, ◌==◌}
use Rattle.sfp.specs.declared.Kind.{Kind}
use Rattle.sfp.specs.declared.Kind.TheVariants.{DaCu, DaActiveLimiting, SrLr, Cu1g, Sx1g, Lx1g, Bx10g, Bx1g, Unknown, NotPresent}

-- the place in the Rust's list
abbrev pub kind_number : Kind → ℕ
kind_number DaCu = 0
kind_number DaActiveLimiting = 1
kind_number SrLr = 2
kind_number Cu1g = 3
kind_number Sx1g = 4
kind_number Lx1g = 5
kind_number Bx10g = 6
kind_number Bx1g = 7
kind_number Unknown = 8
kind_number NotPresent = 9

-- the two are one kind
unfoldable pub is_kind : Kind → Kind → Bool
is_kind kind other = kind_number kind == kind_number other
