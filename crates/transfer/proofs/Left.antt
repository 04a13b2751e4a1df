-- The accesses left of the call of a script: the commands behind a position, and how many there are at most in each state.
use Prim.Native.Nat.{ℕ, ◌+◌, ◌<◌, ◌≤◌, suc}
use mathlib.Core.Path.{◌≡◌, refl}
use mathlib.Core.List.{List}
use native.Mathlib.Omega.{arith}
use lib.ListN.{length}
use Rattle.hardware.specs.Longest.{longest}
use Rattle.hardware.specs.Prog.{erase}
use Rattle.hardware.proofs.Longest.{longest_opened}
use Rattle.bus.specs.declared.Layout.{Layout}
use Rattle.bus.specs.Clear.{clear_next}
use Rattle.bus.specs.Steps.{CLEAR_STEPS, JOB_STEPS}
use Rattle.bus.proofs.Ends.{job_after, clear_after}
use Rattle.bus.proofs.Left.{job_some, clear_some, job_left_lem, clear_left}
use Rattle.script.specs.Script.{judged, next_at}
use Rattle.script.proofs.Laws.{accepted, fits_length, next_after_lem}
use Rattle.transfer.specs.declared.attempt.Sequence.{Sequence}
use Rattle.transfer.specs.declared.attempt.Attempt.{Attempt}
use Rattle.transfer.specs.declared.attempt.Attempt.TheVariants.{New, Moving, Clearing}
use Rattle.transfer.specs.Attempt.{clearing}
use Rattle.transfer.specs.Left.{behind, COMMANDS_STEPS, transfer_left, attempt_left}
use Rattle.transfer.proofs.Ends.{CLEARING_STEPS, clearing_ends, clearing_most, next_beyond}
use Rattle.bus.specs.Aliases.{ClearNext}

pub accepted_length : (s : List ℕ) → judged s ≡ 0 → length s ≤ 64
accepted_length s h = (fits_length s (accepted s h).0).1

-- the command behind this one, where the script has one, stands at a higher position
pub next_behind : (s : List ℕ) (at : ℕ) → length s ≤ 64 → next_at s at < length s → JOB_STEPS + behind (next_at s at) ≤ behind at
next_behind s at h l = omega (arith, next_after_lem s at (omega (arith, next_beyond s at, l)), h, l)

pub clear_opens : (q : Sequence) (l : Layout) (ctl : ℕ) (r : ClearNext) → clear_next l r ≡ erase (clearing q l ctl) → longest (clear_next l r) ≤ CLEAR_STEPS
clear_opens q l ctl r e = omega (arith, longest_opened _ (CLEARING_STEPS q) e (clearing_ends q l ctl), clearing_most q)

-- a state that awaits an answer has an access left
pub attempt_some : (l : Layout) (t : Attempt) → 0 < attempt_left l t
unfolding attempt_left transfer_left
attempt_some l New = omega arith
attempt_some l (Moving t) = omega (arith, job_some l t.job)
attempt_some l (Clearing c) = clear_some l c

-- at most the accesses of the command that is being made, of 63 less the position behind it, and of the clearing
abbrev pub attempt_most : Attempt → ℕ
attempt_most New = 1 + COMMANDS_STEPS
attempt_most (Moving t) = suc (job_after t.job) + behind t.at
attempt_most (Clearing c) = suc (clear_after c)

pub first_most : attempt_most New ≡ 6808094
first_most = refl

-- in every state, whoever made it
pub attempt_left_lem : (l : Layout) (t : Attempt) → attempt_left l t ≤ attempt_most t
unfolding attempt_left transfer_left
attempt_left_lem l New = omega arith
attempt_left_lem l (Moving t) = omega (arith, job_left_lem l t.job)
attempt_left_lem l (Clearing c) = clear_left l c
