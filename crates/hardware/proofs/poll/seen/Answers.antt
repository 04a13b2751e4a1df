use Rattle.std.proofs.Common.{rules}
use Rattle.hardware.specs.Prog.{erase, or_err, pick, ◌>>=◌}
use Rattle.hardware.specs.Registers.{reply}
use Rattle.hardware.specs.Poll.{poll, polled, access_poll, rest_poll, poll_next, valid_poll, valid_poll_next}
use Rattle.hardware.proofs.poll.seen.Goals as goal

pub returns-else-none_of-clause-yields : goal.returns-else-none_of-clause-yields
unfolding reply or_err polled pick erase poll_next valid_poll_next ◌>>=◌ access_poll rest_poll valid_poll
returns-else-none_of-clause-yields c = search rules
