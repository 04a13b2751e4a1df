-- Starts of a module.
use Rattle.std.specs.Prelude.{◌≡◌}
use Rattle.bench.specs.declared.Bench.{Bench}
use Rattle.image.specs.declared.files.Image.{Image}

-- a module with the image's bytes
abbrev pub HasPages : Image → Bench → Type 0
HasPages image bench = (bench.a0.bytes ≡ image.a0) × (bench.a2.bytes ≡ image.a2)
