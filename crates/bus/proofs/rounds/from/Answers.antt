use Rattle.std.proofs.Common.{◌∙◌, ◌-◌}
use Rattle.bus.proofs.Commands.{round_more}
use Rattle.bus.specs.Clear.{access_clear, clear_next, command_of, probed, rest_clear, rest_part}
use Rattle.bus.specs.Command.{call_count, free_count, job_next}
use Rattle.bus.proofs.rounds.from.Goals as goal

pub returns-clause-yields : goal.returns-clause-yields
unfolding clear_next access_clear rest_clear rest_part job_next command_of call_count free_count
returns-clause-yields c = c.begin.ensures.yields 0 (probed c.args.l (c.args.left - 1)) ∙ round_more c.args.l c.args.left c.args.ctl c.if-left-eq0.false
