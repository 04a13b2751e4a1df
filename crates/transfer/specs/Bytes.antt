-- A script that gives each byte out at once, when the 30 or 31 that read it is complete.
use Rattle.std.specs.Prelude.{ℕ, suc, List, [], ◌∷◌}
use Rattle.hardware.specs.declared.Port.{Port}
use Rattle.hardware.specs.Prog.{Prog, give, R, ◌>>=◌, pick}
use Rattle.bus.specs.declared.Layout.{Layout}
use Rattle.bus.specs.declared.Taken.{Taken}
use Rattle.bus.specs.declared.command.Command.{Command}
use Rattle.bus.specs.Bus.{Bus, none, done}
use Rattle.bus.specs.Layout.{layout_of}
use Rattle.script.specs.Script.{commands, device}
use Rattle.transfer.specs.declared.attempt.Sequence.TheVariants.{Pulses}
use Rattle.transfer.specs.Transfer.{did, is_read, took_by}
use Rattle.transfer.specs.Attempt.{attempt}
use Rattle.transfer.specs.Calls.{dropped}

-- c is complete: the byte goes out if c read one
unfoldable pub gives : Command → ℕ → Bus → Bus
gives c b k ctl = pick (is_read c) (give b (k ctl)) (k ctl)

-- `transfer` and `script` with it
unfoldable pub giving : Layout → ℕ → List Command → Taken → Bus
giving l device [] t = done t
giving l device (c ∷ cs) t = did l device c (λ b. gives c b (giving l device cs (took_by c t b)))

unfoldable pub script_giving : Port → List ℕ → Prog (R (Unit {0}))
script_giving port s =
    attempt Pulses (layout_of port.family) (device s) (giving (layout_of port.family) (device s) (commands s) none) >>= dropped

-- how many commands read a byte: the 30s and 31s
unfoldable pub reads : List Command → ℕ
reads [] = 0
reads (c ∷ cs) = pick (is_read c) (suc (reads cs)) (reads cs)
