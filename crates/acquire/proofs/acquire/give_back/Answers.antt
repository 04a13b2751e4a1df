use Rattle.std.proofs.Common.{rules}
use Rattle.hostif.specs.Acquire.{given_back, with_bits}
use Rattle.hardware.specs.Prog.{◌>>=◌, or_err, pick}
use Rattle.acquire.proofs.acquire.give_back.Goals as goal

pub returns-then-hw-eq0-clause-yields : goal.returns-then-hw-eq0-clause-yields
unfolding given_back with_bits pick ◌>>=◌ or_err
returns-then-hw-eq0-clause-yields c = search rules
