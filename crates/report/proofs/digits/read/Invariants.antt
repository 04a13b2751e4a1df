use Rattle.std.proofs.Common.{◌≡◌, drop, Some}
use Rattle.report.specs.Number.{run_of}
use Rattle.report.proofs.digits.read.Given as goal

-- the rest of the text, from here, gives what the whole gives
abbrev pub invariant-loop-b : goal.invariant-loop-b
invariant-loop-b l = run_of l.base (Some l.value) (drop l.b-index l.text) ≡ run_of l.base (Some 0) l.text
