-- States of `transfer` as numbers, and back; back again nothing is lost. Written by `derive`.
use Rattle.std.specs.Prelude.{ℕ, ◌≡◌, refl, eqb, Result, Ok, Err, Some, None}
use Rattle.flat.specs.Pick.{pick}
use Rattle.bus.specs.declared.Taken.{Taken}
use Rattle.hardware.specs.declared.Error.{Error}
use Rattle.transfer.specs.declared.attempt.Sequence.{Sequence}
use Rattle.transfer.specs.declared.attempt.Sequence.TheVariants.{Pulses as SequencePulses, Rounds as SequenceRounds}
use Rattle.transfer.specs.declared.transfer.Transfer.{Transfer}
use Rattle.flat.specs.declared.of_transfer.TransferFlat.{TransferFlat}
use Rattle.transfer.specs.declared.attempt.Attempt.{Attempt}
use Rattle.transfer.specs.declared.attempt.Attempt.TheVariants.{New as AttemptNew, Moving as AttemptMoving, Clearing as AttemptClearing}
use Rattle.flat.specs.declared.of_transfer.AttemptFlat.{AttemptFlat}
use Rattle.flat.specs.declared.of_transfer.GotFlat.{GotFlat}
use Rattle.transfer.specs.Aliases.{ScriptCall}
use Rattle.flat.specs.declared.State.{State}
use Rattle.flat.specs.Bus.{flat_taken, the_taken, back_taken}
use Rattle.flat.specs.Bus.{flat_clear, the_clear, back_clear}
use Rattle.flat.specs.Bus.{flat_job, the_job, back_job}
use Rattle.flat.specs.Hardware.{flat_error, the_error, back_error}
use Rattle.flat.specs.Hardware.{flat_meter, the_meter, back_meter}
use Rattle.flat.specs.Hardware.{flat_port, the_port, back_port}

unfoldable pub flat_sequence : Sequence → ℕ
flat_sequence SequencePulses = 0
flat_sequence SequenceRounds = 1

unfoldable pub the_sequence : ℕ → Sequence
the_sequence b =
    pick (eqb b 0) (SequencePulses)
    (SequenceRounds)

pub back_sequence : (s : Sequence) → the_sequence (flat_sequence s) ≡ s
unfolding flat_sequence the_sequence
back_sequence SequencePulses = refl
back_sequence SequenceRounds = refl

unfoldable pub flat_transfer : Transfer → TransferFlat
flat_transfer s = record { b0 = (flat_job s.job).b0; b1 = (flat_job s.job).b1; b2 = (flat_job s.job).b2; b3 = (flat_job s.job).b3; b4 = (flat_job s.job).b4; b5 = (flat_taken s.taken).b0; b6 = (flat_taken s.taken).b1; b7 = (flat_taken s.taken).b2; h0 = (flat_job s.job).h0; w0 = (flat_job s.job).w0; z0 = s.at }

unfoldable pub the_transfer : TransferFlat → Transfer
the_transfer b = record { at = b.z0; taken = the_taken (record { b0 = b.b5; b1 = b.b6; b2 = b.b7 }); job = the_job (record { b0 = b.b0; b1 = b.b1; b2 = b.b2; b3 = b.b3; b4 = b.b4; h0 = b.h0; w0 = b.w0 }) }

pub back_transfer : (s : Transfer) → the_transfer (flat_transfer s) ≡ s
unfolding flat_transfer the_transfer
back_transfer s = λ i. record { at = s.at; taken = back_taken s.taken i; job = back_job s.job i }

unfoldable pub flat_attempt : Attempt → AttemptFlat
flat_attempt AttemptNew = record { tag = 0; b1 = 0; b2 = 0; b3 = 0; b4 = 0; b5 = 0; b6 = 0; b7 = 0; b8 = 0; h0 = 0; w0 = 0; z0 = 0 }
flat_attempt (AttemptMoving x0) = record { tag = 1; b1 = (flat_transfer x0).b0; b2 = (flat_transfer x0).b1; b3 = (flat_transfer x0).b2; b4 = (flat_transfer x0).b3; b5 = (flat_transfer x0).b4; b6 = (flat_transfer x0).b5; b7 = (flat_transfer x0).b6; b8 = (flat_transfer x0).b7; h0 = (flat_transfer x0).h0; w0 = (flat_transfer x0).w0; z0 = (flat_transfer x0).z0 }
flat_attempt (AttemptClearing x0) = record { tag = 2; b1 = (flat_clear x0).b0; b2 = (flat_clear x0).b1; b3 = (flat_clear x0).b2; b4 = (flat_clear x0).b3; b5 = (flat_clear x0).b4; b6 = (flat_clear x0).b5; b7 = (flat_clear x0).b6; b8 = 0; h0 = (flat_clear x0).h0; w0 = (flat_clear x0).w0; z0 = 0 }

unfoldable pub the_attempt : AttemptFlat → Attempt
the_attempt b =
    pick (eqb b.tag 0) (AttemptNew)
    (pick (eqb b.tag 1) (AttemptMoving (the_transfer (record { b0 = b.b1; b1 = b.b2; b2 = b.b3; b3 = b.b4; b4 = b.b5; b5 = b.b6; b6 = b.b7; b7 = b.b8; h0 = b.h0; w0 = b.w0; z0 = b.z0 })))
    (AttemptClearing (the_clear (record { b0 = b.b1; b1 = b.b2; b2 = b.b3; b3 = b.b4; b4 = b.b5; b5 = b.b6; b6 = b.b7; h0 = b.h0; w0 = b.w0 }))))

pub back_attempt : (s : Attempt) → the_attempt (flat_attempt s) ≡ s
unfolding flat_attempt the_attempt
back_attempt AttemptNew = refl
back_attempt (AttemptMoving x0) = λ i. AttemptMoving (back_transfer x0 i)
back_attempt (AttemptClearing x0) = λ i. AttemptClearing (back_clear x0 i)

unfoldable pub flat_got : (Result Taken Error) → GotFlat
flat_got (Ok x0) = record { tag = 0; b1 = (flat_taken x0).b0; b2 = (flat_taken x0).b1; b3 = (flat_taken x0).b2; w0 = 0 }
flat_got (Err x0) = record { tag = 1; b1 = (flat_error x0).tag; b2 = (flat_error x0).b1; b3 = (flat_error x0).b2; w0 = (flat_error x0).w0 }

unfoldable pub the_got : GotFlat → Result Taken Error
the_got b =
    pick (eqb b.tag 0) (Ok (the_taken (record { b0 = b.b1; b1 = b.b2; b2 = b.b3 })))
    (Err (the_error (record { tag = b.b1; b1 = b.b2; b2 = b.b3; w0 = b.w0 })))

pub back_got : (s : Result Taken Error) → the_got (flat_got s) ≡ s
unfolding flat_got the_got
back_got (Ok x0) = λ i. Ok (back_taken x0 i)
back_got (Err x0) = λ i. Err (back_error x0 i)

unfoldable pub flat_script_call : ScriptCall → State
flat_script_call (Some (x0, x1, x2)) = record { call = 9; tag = 0; b1 = (flat_port x0).b0; b2 = (flat_port x0).b1; b3 = (flat_meter x1).b0; b4 = (flat_attempt x2).tag; b5 = (flat_attempt x2).b1; b6 = (flat_attempt x2).b2; b7 = (flat_attempt x2).b3; b8 = (flat_attempt x2).b4; b9 = (flat_attempt x2).b5; b10 = (flat_attempt x2).b6; b11 = (flat_attempt x2).b7; b12 = (flat_attempt x2).b8; b13 = 0; b14 = 0; b15 = 0; b16 = 0; b17 = 0; b18 = 0; b19 = 0; b20 = 0; b21 = 0; b22 = 0; b23 = 0; h0 = (flat_port x0).h0; h1 = (flat_attempt x2).h0; h2 = 0; h3 = 0; h4 = 0; h5 = 0; h6 = 0; w0 = (flat_meter x1).w0; w1 = (flat_attempt x2).w0; w2 = 0; w3 = 0; w4 = 0; w5 = 0; w6 = 0; w7 = 0; w8 = 0; z0 = (flat_attempt x2).z0 }
flat_script_call None = record { call = 9; tag = 1; b1 = 0; b2 = 0; b3 = 0; b4 = 0; b5 = 0; b6 = 0; b7 = 0; b8 = 0; b9 = 0; b10 = 0; b11 = 0; b12 = 0; b13 = 0; b14 = 0; b15 = 0; b16 = 0; b17 = 0; b18 = 0; b19 = 0; b20 = 0; b21 = 0; b22 = 0; b23 = 0; h0 = 0; h1 = 0; h2 = 0; h3 = 0; h4 = 0; h5 = 0; h6 = 0; w0 = 0; w1 = 0; w2 = 0; w3 = 0; w4 = 0; w5 = 0; w6 = 0; w7 = 0; w8 = 0; z0 = 0 }

unfoldable pub the_script_call : State → ScriptCall
the_script_call b =
    pick (eqb b.tag 0) (Some ((the_port (record { b0 = b.b1; b1 = b.b2; h0 = b.h0 })), (the_meter (record { b0 = b.b3; w0 = b.w0 })), (the_attempt (record { tag = b.b4; b1 = b.b5; b2 = b.b6; b3 = b.b7; b4 = b.b8; b5 = b.b9; b6 = b.b10; b7 = b.b11; b8 = b.b12; h0 = b.h1; w0 = b.w1; z0 = b.z0 }))))
    (None)

pub back_script_call : (s : ScriptCall) → the_script_call (flat_script_call s) ≡ s
unfolding flat_script_call the_script_call
back_script_call (Some (x0, x1, x2)) = λ i. Some ((back_port x0 i), (back_meter x1 i), (back_attempt x2 i))
back_script_call None = refl

pub number_script_call : (s : ScriptCall) → (flat_script_call s).call ≡ 9
unfolding flat_script_call
number_script_call (Some (x0, x1, x2)) = refl
number_script_call None = refl
