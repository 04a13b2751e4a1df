-- States of `bus` as numbers, and back; back again nothing is lost. Written by `derive`.
use Rattle.std.specs.Prelude.{◌≡◌, refl, eqb}
use Rattle.flat.specs.Pick.{pick}
use Rattle.bus.specs.declared.Taken.{Taken}
use Rattle.flat.specs.declared.of_bus.TakenFlat.{TakenFlat}
use Rattle.bus.specs.declared.line.Goal.{Goal}
use Rattle.bus.specs.declared.line.Goal.TheVariants.{High as GoalHigh, Free as GoalFree, Low as GoalLow, Release as GoalRelease, Down as GoalDown, Up as GoalUp, Close as GoalClose}
use Rattle.flat.specs.declared.of_bus.GoalFlat.{GoalFlat}
use Rattle.bus.specs.declared.line.Line.{Line}
use Rattle.bus.specs.declared.line.Line.TheVariants.{Look as LineLook, Pause as LinePause, Sample as LineSample, Ack as LineAck, Rest as LineRest, Write as LineWrite, Flush as LineFlush, Settle as LineSettle, Check as LineCheck, Rise as LineRise}
use Rattle.flat.specs.declared.of_bus.LineFlat.{LineFlat}
use Rattle.bus.specs.declared.line.LineState.{LineState}
use Rattle.flat.specs.declared.of_bus.LineStateFlat.{LineStateFlat}
use Rattle.bus.specs.declared.job.Job.{Job}
use Rattle.flat.specs.declared.of_bus.JobFlat.{JobFlat}
use Rattle.bus.specs.declared.clear.Part.{Part}
use Rattle.bus.specs.declared.clear.Part.TheVariants.{First as PartFirst, Free as PartFree, Again as PartAgain, Stop as PartStop, Probe as PartProbe, Lower as PartLower, Pull as PartPull}
use Rattle.flat.specs.declared.of_bus.PartFlat.{PartFlat}
use Rattle.bus.specs.declared.clear.Clear.{Clear}
use Rattle.flat.specs.declared.of_bus.ClearFlat.{ClearFlat}

unfoldable pub flat_taken : Taken → TakenFlat
flat_taken s = record { b0 = s.high; b1 = s.low; b2 = s.last }

unfoldable pub the_taken : TakenFlat → Taken
the_taken b = record { high = b.b0; low = b.b1; last = b.b2 }

pub back_taken : (s : Taken) → the_taken (flat_taken s) ≡ s
unfolding flat_taken the_taken
back_taken s = refl

unfoldable pub flat_goal : Goal → GoalFlat
flat_goal GoalHigh = record { tag = 0; b1 = 0; h0 = 0 }
flat_goal GoalFree = record { tag = 1; b1 = 0; h0 = 0 }
flat_goal GoalLow = record { tag = 2; b1 = 0; h0 = 0 }
flat_goal GoalRelease = record { tag = 3; b1 = 0; h0 = 0 }
flat_goal (GoalDown x0) = record { tag = 4; b1 = x0; h0 = 0 }
flat_goal (GoalUp x0) = record { tag = 5; b1 = 0; h0 = x0 }
flat_goal GoalClose = record { tag = 6; b1 = 0; h0 = 0 }

unfoldable pub the_goal : GoalFlat → Goal
the_goal b =
    pick (eqb b.tag 0) (GoalHigh)
    (pick (eqb b.tag 1) (GoalFree)
    (pick (eqb b.tag 2) (GoalLow)
    (pick (eqb b.tag 3) (GoalRelease)
    (pick (eqb b.tag 4) (GoalDown b.b1)
    (pick (eqb b.tag 5) (GoalUp b.h0)
    (GoalClose))))))

pub back_goal : (s : Goal) → the_goal (flat_goal s) ≡ s
unfolding flat_goal the_goal
back_goal GoalHigh = refl
back_goal GoalFree = refl
back_goal GoalLow = refl
back_goal GoalRelease = refl
back_goal (GoalDown x0) = refl
back_goal (GoalUp x0) = refl
back_goal GoalClose = refl

unfoldable pub flat_line : Line → LineFlat
flat_line LineLook = record { tag = 0; b1 = 0; b2 = 0; h0 = 0 }
flat_line (LinePause x0) = record { tag = 1; b1 = x0; b2 = 0; h0 = 0 }
flat_line LineSample = record { tag = 2; b1 = 0; b2 = 0; h0 = 0 }
flat_line (LineAck x0) = record { tag = 3; b1 = x0; b2 = 0; h0 = 0 }
flat_line (LineRest x0) = record { tag = 4; b1 = x0; b2 = 0; h0 = 0 }
flat_line (LineWrite x0) = record { tag = 5; b1 = (flat_goal x0).tag; b2 = (flat_goal x0).b1; h0 = (flat_goal x0).h0 }
flat_line (LineFlush x0) = record { tag = 6; b1 = (flat_goal x0).tag; b2 = (flat_goal x0).b1; h0 = (flat_goal x0).h0 }
flat_line (LineSettle x0) = record { tag = 7; b1 = (flat_goal x0).tag; b2 = (flat_goal x0).b1; h0 = (flat_goal x0).h0 }
flat_line LineCheck = record { tag = 8; b1 = 0; b2 = 0; h0 = 0 }
flat_line (LineRise x0) = record { tag = 9; b1 = 0; b2 = 0; h0 = x0 }

unfoldable pub the_line : LineFlat → Line
the_line b =
    pick (eqb b.tag 0) (LineLook)
    (pick (eqb b.tag 1) (LinePause b.b1)
    (pick (eqb b.tag 2) (LineSample)
    (pick (eqb b.tag 3) (LineAck b.b1)
    (pick (eqb b.tag 4) (LineRest b.b1)
    (pick (eqb b.tag 5) (LineWrite (the_goal (record { tag = b.b1; b1 = b.b2; h0 = b.h0 })))
    (pick (eqb b.tag 6) (LineFlush (the_goal (record { tag = b.b1; b1 = b.b2; h0 = b.h0 })))
    (pick (eqb b.tag 7) (LineSettle (the_goal (record { tag = b.b1; b1 = b.b2; h0 = b.h0 })))
    (pick (eqb b.tag 8) (LineCheck)
    (LineRise b.h0)))))))))

pub back_line : (s : Line) → the_line (flat_line s) ≡ s
unfolding flat_line the_line
back_line LineLook = refl
back_line (LinePause x0) = refl
back_line LineSample = refl
back_line (LineAck x0) = refl
back_line (LineRest x0) = refl
back_line (LineWrite x0) = λ i. LineWrite (back_goal x0 i)
back_line (LineFlush x0) = λ i. LineFlush (back_goal x0 i)
back_line (LineSettle x0) = λ i. LineSettle (back_goal x0 i)
back_line LineCheck = refl
back_line (LineRise x0) = refl

unfoldable pub flat_line_state : LineState → LineStateFlat
flat_line_state s = record { b0 = (flat_line s.line).tag; b1 = (flat_line s.line).b1; b2 = (flat_line s.line).b2; b3 = s.bits; h0 = (flat_line s.line).h0; w0 = s.ctl }

unfoldable pub the_line_state : LineStateFlat → LineState
the_line_state b = record { ctl = b.w0; bits = b.b3; line = the_line (record { tag = b.b0; b1 = b.b1; b2 = b.b2; h0 = b.h0 }) }

pub back_line_state : (s : LineState) → the_line_state (flat_line_state s) ≡ s
unfolding flat_line_state the_line_state
back_line_state s = λ i. record { ctl = s.ctl; bits = s.bits; line = back_line s.line i }

unfoldable pub flat_job : Job → JobFlat
flat_job s = record { b0 = (flat_line_state s.state).b0; b1 = (flat_line_state s.state).b1; b2 = (flat_line_state s.state).b2; b3 = (flat_line_state s.state).b3; b4 = s.left; h0 = (flat_line_state s.state).h0; w0 = (flat_line_state s.state).w0 }

unfoldable pub the_job : JobFlat → Job
the_job b = record { left = b.b4; state = the_line_state (record { b0 = b.b0; b1 = b.b1; b2 = b.b2; b3 = b.b3; h0 = b.h0; w0 = b.w0 }) }

pub back_job : (s : Job) → the_job (flat_job s) ≡ s
unfolding flat_job the_job
back_job s = λ i. record { left = s.left; state = back_line_state s.state i }

unfoldable pub flat_part : Part → PartFlat
flat_part PartFirst = record { tag = 0; b1 = 0 }
flat_part PartFree = record { tag = 1; b1 = 0 }
flat_part PartAgain = record { tag = 2; b1 = 0 }
flat_part PartStop = record { tag = 3; b1 = 0 }
flat_part (PartProbe x0) = record { tag = 4; b1 = x0 }
flat_part (PartLower x0) = record { tag = 5; b1 = x0 }
flat_part PartPull = record { tag = 6; b1 = 0 }

unfoldable pub the_part : PartFlat → Part
the_part b =
    pick (eqb b.tag 0) (PartFirst)
    (pick (eqb b.tag 1) (PartFree)
    (pick (eqb b.tag 2) (PartAgain)
    (pick (eqb b.tag 3) (PartStop)
    (pick (eqb b.tag 4) (PartProbe b.b1)
    (pick (eqb b.tag 5) (PartLower b.b1)
    (PartPull))))))

pub back_part : (s : Part) → the_part (flat_part s) ≡ s
unfolding flat_part the_part
back_part PartFirst = refl
back_part PartFree = refl
back_part PartAgain = refl
back_part PartStop = refl
back_part (PartProbe x0) = refl
back_part (PartLower x0) = refl
back_part PartPull = refl

unfoldable pub flat_clear : Clear → ClearFlat
flat_clear s = record { b0 = (flat_job s.job).b0; b1 = (flat_job s.job).b1; b2 = (flat_job s.job).b2; b3 = (flat_job s.job).b3; b4 = (flat_job s.job).b4; b5 = (flat_part s.part).tag; b6 = (flat_part s.part).b1; h0 = (flat_job s.job).h0; w0 = (flat_job s.job).w0 }

unfoldable pub the_clear : ClearFlat → Clear
the_clear b = record { part = the_part (record { tag = b.b5; b1 = b.b6 }); job = the_job (record { b0 = b.b0; b1 = b.b1; b2 = b.b2; b3 = b.b3; b4 = b.b4; h0 = b.h0; w0 = b.w0 }) }

pub back_clear : (s : Clear) → the_clear (flat_clear s) ≡ s
unfolding flat_clear the_clear
back_clear s = λ i. record { part = back_part s.part i; job = back_job s.job i }
