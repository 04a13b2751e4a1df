-- Sizes of files that are to be images, 512 bytes each.
use Rattle.std.specs.Prelude.{ℕ, ◌≤◌, ◌<◌, ◌≡◌, Result, Ok, Err}
use Rattle.std.specs.declared.io.Error.{Error}
use Rattle.image.specs.declared.files.Unfit.{Unfit}
use Rattle.image.specs.declared.files.Unfit.TheVariants.{Short, Long, Unread}

-- what is said of a size, where of at most 512 bytes so many were read and a read after them answered past: a count of bytes,
-- or why it failed
abbrev pub SizeOf : ℕ → Result ℕ Error → Result Unit Unfit → Type 0
SizeOf count past (Ok u) = (512 ≤ count) × (past ≡ Ok 0)
SizeOf count past (Err (Short n)) = (n ≡ count) × (count < 512) × (past ≡ Ok 0)
SizeOf count past (Err Long) = (more : ℕ) × (0 < more) × (past ≡ Ok more)
SizeOf count past (Err (Unread e)) = past ≡ Err e

-- a file that is called short has fewer bytes than an image
abbrev pub Told : Unfit → Type 0
Told (Short n) = n < 512
Told Long = Unit {0}
Told (Unread e) = Unit {0}
