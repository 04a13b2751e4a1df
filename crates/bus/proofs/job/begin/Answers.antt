use Rattle.std.proofs.Common.{arith}
use Rattle.bus.proofs.Laws.{picked, valid_calls}
use Rattle.bus.proofs.Left.{line_opens}
use Rattle.bus.specs.Command.{access_job, calls_left, job_next, rest_job, valid_job}
use Rattle.bus.specs.Line.{line_next}
use Rattle.bus.specs.Left.{job_left}
use Rattle.bus.proofs.job.begin.Goals as goal

pub returns : goal.returns
unfolding job_next access_job rest_job line_next valid_job job_left
returns c =
    record {
      yields = λ device k. rw c.call.ensures at (c.open.ensures.yields (calls_left c.args.l device c.args.c c.args.left k));
      limits = λ h. picked _ _ h (c.open.ensures.limits (rw c.call.ensures (valid_calls c.args.l c.args.c c.args.left)));
      within = omega (arith, line_opens c.args.l _ c.args.ctl c.args.bits _ c.open.ensures.yields);
    }
