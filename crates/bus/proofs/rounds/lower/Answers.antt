use Rattle.bus.proofs.Commands.{job_free}
use Rattle.bus.specs.Bus.{rounds}
use Rattle.bus.specs.Clear.{access_clear, clear_next, command_of, rest_clear, rest_part, valid_clear, valid_clear_next, valid_part}
use Rattle.bus.specs.Command.{freed, job_next}
use Rattle.bus.specs.declared.command.Piece.TheVariants.{Lower}
use Rattle.hardware.specs.Prog.{erase}
use mathlib.Core.Path.{◌∙◌, ap}
use Rattle.bus.proofs.rounds.lower.Goals as goal

pub returns-clause-yields : goal.returns-clause-yields
unfolding freed clear_next access_clear rest_clear rest_part job_next valid_clear_next valid_clear valid_part command_of
returns-clause-yields c = c.«open».ensures.yields 0 (λ _. rounds c.args.l c.args.left) ∙ ap (λ p. erase (p c.args.ctl)) (job_free c.args.l 0 Lower (λ _. rounds c.args.l c.args.left))
