use Rattle.bus.proofs.Commands.{job_free}
use Rattle.bus.specs.Bus.{clear_stop, pulled}
use Rattle.bus.specs.Clear.{access_clear, clear_next, command_of, rest_clear, rest_part, valid_clear, valid_clear_next, valid_part}
use Rattle.bus.specs.Command.{freed, job_next}
use Rattle.bus.specs.declared.command.Piece.TheVariants.{Pull}
use Rattle.hardware.specs.Prog.{erase, pick}
use mathlib.Core.Path.{◌∙◌, ap}
use Rattle.bus.proofs.rounds.pull.Goals as goal

pub returns-clause-yields : goal.returns-clause-yields
unfolding freed clear_next access_clear rest_clear rest_part job_next valid_clear_next valid_clear valid_part command_of pick pulled
returns-clause-yields c = c.«open».ensures.yields 0 (λ _. clear_stop c.args.l) ∙ ap (λ p. erase (p c.args.ctl)) (job_free c.args.l 0 Pull (λ _. clear_stop c.args.l))
