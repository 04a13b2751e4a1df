-- The clearing sequences by number, and what an opening with one gives.
use Rattle.std.specs.Prelude.{ℕ, ◌≡◌, eqb, Some, None, Option}
use Rattle.transfer.specs.declared.attempt.Sequence.{Sequence}
use Rattle.transfer.specs.declared.attempt.Sequence.TheVariants.{Pulses, Rounds}
use Rattle.i2c.specs.I2c.{standard}
use Rattle.flat.specs.declared.State.{State}
use Rattle.flat.specs.Pick.{pick}
use Rattle.host.specs.declared.Block.{Block}
use Rattle.host.specs.Shown.{refused_block}

-- 0 is the default
unfoldable pub named : ℕ → (Option Sequence)
named n = pick (eqb n 0) (Some standard) (pick (eqb n 1) (Some Pulses) (pick (eqb n 2) (Some Rounds) None))

-- 13: the number names a sequence
unfoldable pub OpenedBy : (Option Sequence) → (Sequence → Block → Type 0) → State → Block → Type 0
OpenedBy (Some q) Opened over b = Opened q b
OpenedBy None Opened over b = b ≡ refused_block 13 over
