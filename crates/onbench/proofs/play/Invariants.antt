use Rattle.std.proofs.Common.{◌-◌}
use Rattle.identify.specs.Calls.{said_identify, stands_identify}
use Rattle.onbench.proofs.Laws.{Invariant}
use Rattle.onbench.specs.Run.{Bounded}
use Rattle.onbench.proofs.play.Given as goal

abbrev pub invariant-loop : goal.invariant-loop
invariant-loop l =
    stands_identify l.initial.s.told → Bounded (said_identify l.initial.s.told) 1600450488 → Invariant l.port l.origin l.answers l.initial.s (1600450488 - l.counter) l.s
