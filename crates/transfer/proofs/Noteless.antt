-- A transfer and its clearing note nothing but acknowledgements: an attempt begins no other.
use Prim.Native.Nat.{ℕ}
use mathlib.Core.List.{List, [], ◌∷◌}
use Rattle.hardware.specs.Prog.{Prog, ret, ask, note, give, R, Ok, Err, or_err}
use Rattle.hardware.specs.Registers.{read_raw}
use Rattle.bus.specs.declared.Layout.{Layout}
use Rattle.bus.specs.declared.Taken.{Taken}
use Rattle.bus.specs.declared.command.Command.{Command}
use Rattle.bus.specs.Bus.{Bus}
use Rattle.bus.proofs.Noteless.{Noteless, NotelessBus, ret_noteless, bind_noteless, pick_noteless, noteless_spreads, done_noteless, clear_noteless, clear_rounds_noteless}
use Rattle.transfer.specs.declared.attempt.Sequence.{Sequence}
use Rattle.transfer.specs.declared.attempt.Sequence.TheVariants.{Pulses, Rounds}
use Rattle.transfer.specs.Transfer.{Mode, handing, keeping, tells, took_by, handed, transfer}
use Rattle.transfer.specs.Attempt.{clearing, or_cleared, cleared, or_tried, tried, begun, attempting}
use Rattle.transfer.proofs.Laws.{did_holds}

tells_noteless : {A : Type 0} (m : Mode) (b : ℕ) (p : Prog A) → Noteless p → Noteless (tells m b p)
unfolding Noteless tells
tells_noteless keeping b p e = e
tells_noteless handing b (ret v) e = e
tells_noteless handing b (ask x f) e = e
tells_noteless handing b (note k p) e = (e.0, tells_noteless handing b p e.1)
tells_noteless handing b (give d p) e = e

handed_noteless : (m : Mode) (c : Command) (b : ℕ) (k : Bus) → NotelessBus k → NotelessBus (handed m c b k)
unfolding handed
handed_noteless m c b k e ctl = pick_noteless _ _ _ (tells_noteless m b (k ctl) (e ctl)) (e ctl)

pub transfer_noteless : (m : Mode) (l : Layout) (device : ℕ) (cs : List Command) (t : Taken) → NotelessBus (transfer m l device cs t)
unfolding transfer
transfer_noteless m l device [] t = done_noteless t
transfer_noteless m l device (c ∷ cs) t =
    did_holds Noteless noteless_spreads l device c _ (λ b. handed_noteless m c b _ (transfer_noteless m l device cs (took_by c t b)))

clearing_noteless : (q : Sequence) (l : Layout) → NotelessBus (clearing q l)
unfolding clearing
clearing_noteless Pulses l = clear_noteless l
clearing_noteless Rounds l = clear_rounds_noteless l

or_cleared_noteless : (device : ℕ) (r : R Taken) → Noteless (or_cleared device r)
unfolding or_cleared
or_cleared_noteless device (Ok t) = ret_noteless _
or_cleared_noteless device (Err e) = ret_noteless _

or_tried_noteless : (q : Sequence) (l : Layout) (device ctl : ℕ) (r : R Taken) → Noteless (or_tried q l device ctl r)
unfolding or_tried cleared
or_tried_noteless q l device ctl (Ok t) = ret_noteless _
or_tried_noteless q l device ctl (Err e) =
    pick_noteless _ _ _ (bind_noteless _ _ (clearing_noteless q l ctl) (λ h. or_cleared_noteless device h.out)) (ret_noteless _)

begun_noteless : (q : Sequence) (l : Layout) (device : ℕ) (f : Bus) → NotelessBus f → (r : R ℕ) → Noteless (or_err (begun q l device f) r)
unfolding or_err begun tried
begun_noteless q l device f e (Ok ctl) = bind_noteless _ _ (e ctl) (λ h. or_tried_noteless q l device h.ctl h.out)
begun_noteless q l device f e (Err x) = ret_noteless _

read_noteless : (l : Layout) → Noteless (read_raw l.reg)
unfolding Noteless
read_noteless l = λ a. tt

-- past its beginning
pub attempting_noteless : (q : Sequence) (l : Layout) (device : ℕ) (f : Bus) → NotelessBus f → Noteless (attempting q l device f)
unfolding attempting
attempting_noteless q l device f e = bind_noteless _ _ (read_noteless l) (begun_noteless q l device f e)
