use Rattle.std.proofs.Common.{◌∙◌, ap}
use Rattle.bus.proofs.Commands.{job_free, round_probes}
use Rattle.bus.specs.Bus.{clear_rounds, release_sda}
use Rattle.bus.specs.Clear.{access_clear, clear_next, command_of, probed, rest_clear, rest_part}
use Rattle.bus.specs.Command.{freed, job_next}
use Rattle.bus.specs.declared.command.Piece.TheVariants.{Probe}
use Rattle.hardware.specs.Prog.{erase, pick}
use Rattle.bus.proofs.rounds.open.Goals as goal

pub returns-clause-yields : goal.returns-clause-yields
unfolding freed clear_next access_clear rest_clear rest_part job_next command_of pick clear_rounds
returns-clause-yields c =
    c.open.ensures.yields 0 (probed c.args.l 9)
    ∙ ap (λ p. erase (p c.args.ctl)) (job_free c.args.l 0 Probe (probed c.args.l 9))
    ∙ ap (λ k. erase (release_sda c.args.l k c.args.ctl)) (round_probes c.args.l 9)
