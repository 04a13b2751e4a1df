-- The record of a module, and the methods of the Rust's `Module`, by the module's kind.
use Rattle.std.specs.Prelude.{ℕ, ◌+◌, Bool, not, ◌&&◌, ◌||◌, Some, None, Option}
use Rattle.hardware.specs.declared.Family.{Family}
use Rattle.hardware.specs.Prog.{pick}
use Rattle.bus.specs.Layout.{x550em}
use Rattle.sfp.specs.declared.Identity.{Identity}
use Rattle.sfp.specs.declared.Kind.{Kind}
use Rattle.sfp.specs.declared.Kind.TheVariants.{DaCu, Cu1g, Sx1g, Lx1g, Bx1g, Unknown, NotPresent}
use Rattle.sfp.specs.declared.Module.{Module}
use Rattle.sfp.specs.Kinds.{is_kind}

-- the record of a module that was identified
abbrev pub record_of : Identity → Module
record_of identity = record { identity = identity }

-- something answered
abbrev pub is_present : Kind → Bool
is_present kind = not (is_kind kind NotPresent)

-- 1G only: 1000BASE-T, SX, LX and 1G BX
unfoldable pub is_one_gig : Kind → Bool
is_one_gig kind = is_kind kind Cu1g || (is_kind kind Sx1g || (is_kind kind Lx1g || is_kind kind Bx1g))

-- a passive cable
abbrev pub is_linear : Kind → Bool
is_linear kind = is_kind kind DaCu

-- something answered, and a rule fits it
unfoldable pub is_known : Kind → Bool
is_known kind = not (is_kind kind Unknown) && is_present kind

-- a family takes every known module, the X552 and the X553 all but 1000BASE-T
unfoldable pub is_supported : Kind → Family → Bool
is_supported kind family = is_known kind && not (is_kind kind Cu1g && x550em family)

-- the key of the 82599's NVM sequence on a port: 3 and 4 are passive cables, 5 and 6 all other known modules
unfoldable pub key_of : Kind → ℕ → (Option ℕ)
key_of kind lan = pick (is_known kind) (Some (pick (is_linear kind) 3 5 + lan)) None
