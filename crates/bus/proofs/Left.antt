-- The accesses left of a line call and of a command: an answer takes one, and how many there are at most.
use Prim.Native.Nat.{ℕ, ◌+◌, ◌*◌, ◌-◌, ◌<◌, ◌≤◌, suc, zero}
use mathlib.Core.Path.{◌≡◌, refl, subst⁻¹}
use mathlib.Core.Bool.{Bool, true, false}
use native.Mathlib.Omega.{arith}
use lib.Dec.{eqb}
use Rattle.hardware.specs.declared.Answer.{Answer}
use Rattle.hardware.specs.Asked.{fits, InType}
use Rattle.hardware.specs.Longest.{longest}
use Rattle.hardware.specs.Prog.{ask, erase, pick}
use Rattle.hardware.proofs.Ends.{ends_more, ends_erase, ends_heard, ask_ends}
use Rattle.hardware.proofs.Longest.{longest_next, longest_few, longest_heard, longest_opened}
use Rattle.bus.specs.declared.Layout.{Layout}
use Rattle.bus.specs.declared.command.Command.{Command}
use Rattle.bus.specs.declared.command.Command.TheVariants.{Start, Send, Read, Stop, Free}
use Rattle.bus.specs.declared.command.Piece.{Piece}
use Rattle.bus.specs.declared.command.Piece.TheVariants.{Pulses, Probe, Lower, Pull}
use Rattle.bus.specs.declared.line.Call.{Call}
use Rattle.bus.specs.declared.line.LineState.{LineState}
use Rattle.bus.specs.declared.job.Job.{Job}
use Rattle.bus.specs.declared.clear.Clear.{Clear}
use Rattle.bus.specs.Clear.{access_clear, heard_clear, rest_clear, clear_next}
use Rattle.bus.specs.Bus.{Bus, done, none}
use Rattle.bus.specs.Line.{called, access_line, heard_line, rest_line, line_next}
use Rattle.bus.specs.Command.{heard_job, free_count, call_count, stop_count}
use Rattle.bus.specs.Steps.{CALL_STEPS, JOB_STEPS}
use Rattle.bus.specs.Left.{line_left, job_left}
use Rattle.bus.proofs.Laws.{some_call}
use Rattle.bus.proofs.Ends.{done_ends, line_after, job_after, clear_after, at_rest_ends, called_ends, clear_rest_ends}
use Rattle.bus.specs.Aliases.{ClearNext, LineNext}
use Rattle.hardware.specs.declared.Next.TheVariants.{Going}

-- an answer of the awaited kind takes one
pub line_falls : (l : Layout) (s : LineState) (a : Answer) (r : LineNext) → fits (access_line l s) a ≡ true → InType a
    → ((k : ℕ → Bus) → line_next l r k ≡ erase (rest_line l s a k)) → line_left l r < line_left l (Going s)
unfolding line_left line_next
line_falls l s a r f h e = subst⁻¹ (λ n. line_left l r < n) (longest_heard (heard_line s) _) (longest_next _ _ a (e (λ _. done none)) f h)

pub clear_falls : (l : Layout) (s : Clear) (a : Answer) (r : ClearNext) → fits (access_clear l s) a ≡ true → InType a → clear_next l r ≡ erase (rest_clear l s a)
    → longest (clear_next l r) < longest (clear_next l (Going s))
unfolding clear_next
clear_falls l s a r f h e = subst⁻¹ (λ n. longest (clear_next l r) < n) (longest_heard (heard_clear s) _) (longest_next _ _ a e f h)

-- a command that awaits an answer has one left
pub job_some : (l : Layout) (j : Job) → 0 < job_left l j
unfolding job_left line_left line_next longest
job_some l j = rw (longest_heard (heard_job j) (ask (access_line l j.state) (λ a. erase (rest_line l j.state a (λ _. done none))))) (omega arith)

pub clear_some : (l : Layout) (s : Clear) → 0 < longest (clear_next l (Going s))
unfolding clear_next longest
clear_some l s = rw (longest_heard (heard_clear s) (ask (access_clear l s) (λ a. erase (rest_clear l s a)))) (omega arith)

pub line_opens : (l : Layout) (c : Call) (ctl bits : ℕ) (s : LineState) → ((k : ℕ → Bus) → line_next l (Going s) k ≡ erase (called l c bits k ctl))
    → line_left l (Going s) ≤ CALL_STEPS
unfolding line_left
line_opens l c ctl bits s e = omega (arith, longest_opened _ (CALL_STEPS + 0) (e (λ _. done none)) (called_ends l c bits (λ _. done none) 0 (λ b. done_ends none 0) ctl))

few_stop : (t : Bool) → pick t 5 6 ≤ 53
unfolding pick
few_stop true = omega arith
few_stop false = omega arith

few_free : (p : Piece) → free_count p ≤ 53
unfolding free_count
few_free Pulses = omega arith
few_free Probe = omega arith
few_free Lower = omega arith
few_free Pull = omega arith

few_calls : (l : Layout) (c : Command) → call_count l c ≤ 53
unfolding call_count stop_count
few_calls l Start = omega arith
few_calls l (Send value) = omega arith
few_calls l (Read high) = omega arith
few_calls l Stop = few_stop (eqb l.bben 0)
few_calls l (Free p) = few_free p

-- one of the calls is made, and the others are left
pub one_call : (n : ℕ) → (n ≡ 0 → ⊥) → CALL_STEPS + (n - 1) * CALL_STEPS ≤ n * CALL_STEPS
one_call zero h = absurd (h refl)
one_call (suc n) h = omega arith

pub all_calls : (l : Layout) (c : Command) → CALL_STEPS + (call_count l c - 1) * CALL_STEPS ≤ JOB_STEPS
all_calls l c = omega (arith, few_calls l c, some_call l c)

-- how many there are at most in each state, whoever made it
line_left_lem : (l : Layout) (s : LineState) → line_left l (Going s) ≤ suc (line_after s.line)
unfolding line_left line_next rest_line
line_left_lem l s =
    longest_few _ (suc (line_after s.line))
    (ends_heard (heard_line s) _ _ (ask_ends _ _ (line_after s.line) (λ a. ends_erase _ (line_after s.line) (ends_more _ (line_after s.line + 0) (line_after s.line) (at_rest_ends l s.ctl s.bits s.line a (λ _. done none) 0 (λ b. done_ends none 0)) (omega arith)))))

pub job_left_lem : (l : Layout) (j : Job) → job_left l j ≤ suc (job_after j)
unfolding job_left
job_left_lem l j = omega (arith, line_left_lem l j.state)

pub clear_left : (l : Layout) (s : Clear) → longest (clear_next l (Going s)) ≤ suc (clear_after s)
unfolding clear_next
clear_left l s = longest_few _ (suc (clear_after s)) (ends_heard (heard_clear s) _ _ (ask_ends _ _ (clear_after s) (λ a. ends_erase _ (clear_after s) (clear_rest_ends l s a))))
