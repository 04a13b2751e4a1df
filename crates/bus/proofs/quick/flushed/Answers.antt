use mathlib.Core.Path.{refl, sym, ◌∙◌}
use Rattle.hardware.specs.Asked.{fits}
use Rattle.hardware.specs.Marks.{acknowledged}
use Rattle.hardware.specs.Prog.{erase}
use Rattle.hardware.specs.Registers.{raw, written, flushed}
use Rattle.bus.specs.Bus.{or_held, flushing, get, wait}
use Rattle.bus.specs.Line.{access_at, access_line, heard_at, heard_goal, line_next, reached, rest_at, rest_line, settle_us, settled, valid_goal, valid_line}
use Rattle.bus.specs.Quick.{QuickBy}
use Rattle.bus.proofs.quick.flushed.Goals as goal

pub returns-in-Up : goal.returns-in-Up
unfolding QuickBy line_next acknowledged heard_at heard_goal access_line access_at rest_line rest_at erase or_held raw written flushed flushing settled reached settle_us wait get fits valid_line valid_goal
returns-in-Up c = λ v. rw (c.wait-in-Up.ensures, c.in-Up.is) (record { valid = rw c.in-Up.is at (sym c.valid_goal.ensures ∙ c.if-valid_goal.true); kind = refl; yields = λ k. refl }, record { limits = rw c.in-Up.is at (sym c.valid_goal.ensures ∙ c.if-valid_goal.true); access = refl; unheard = refl })
