-- Whole calls of a page: what an opening comes to, the number of a state, and what follows it where each step is lent a buffer of
-- its own.
use Rattle.std.specs.Prelude.{ℕ, ◌≡◌, true, List, [], ◌∷◌, leb}
use Rattle.hardware.specs.declared.Answer.{Answer}
use Rattle.hardware.specs.Asked.{Asked, yes, and_then, question, open_port, InType}
use Rattle.hardware.specs.Lent.{asked}
use Rattle.hardware.specs.Longest.{lasting}
use Rattle.hardware.specs.Prog.{Counted, blank}
use Rattle.hardware.specs.Runs.{Run, run, meter_in, counted, AwaitedIn}
use Rattle.transfer.specs.declared.attempt.Sequence.{Sequence}
use Rattle.page.specs.declared.walk.Form.{Form}
use Rattle.page.specs.Page.{Filled, page}
use Rattle.page.specs.Calls.{buffer_fits, said_page, follows_buffer}
use Rattle.page.specs.Aliases.{PageTold}

-- what an opening of either form comes to over a list of answers; the count beside the result is that of the attempts that
-- the run begins
abbrev pub form_run : Sequence → Form → ℕ → ℕ → ℕ → ℕ → List ℕ → List Answer → Asked (Run (Counted Filled))
form_run q form family device lan attempts buffer l =
    and_then (open_port family device lan) (λ port. question (leb attempts 255) 4 (question (buffer_fits buffer) 9
    (yes (counted (meter_in blank (page q port form attempts buffer) l) (run (page q port form attempts buffer) l)))))

-- the accesses left, at most: a number of the state alone, since how long a page lasts is not by what its buffer holds
unfoldable pub page_left : PageTold → ℕ
page_left t = lasting (asked (said_page t []))

-- what an accepted step told, u, follows what was told before it, as the step promises, where it was lent a buffer of its own
pub record FollowsLent (t : PageTold) (a : Answer) (u : PageTold) : Type 0 where
  pub given : List ℕ
  pub then : List ℕ
  pub follows : follows_buffer t given a u then
  pub fits : buffer_fits given ≡ true
  pub awaited : AwaitedIn (asked (said_page t given)) (a ∷ [])
  pub typed : InType a
