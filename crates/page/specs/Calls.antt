-- What the public calls of a page yield: a refusal by its number, or what is left of the call, with the meter beside its
-- result, and what the buffer then holds.
use Rattle.std.specs.Prelude.{ℕ, ◌≡◌, Bool, true, false, List, ◌∷◌, leb, length, Ok, Err, Some, None}
use Rattle.hardware.specs.declared.Answer.{Answer}
use Rattle.hardware.specs.declared.Meter.{Meter}
use Rattle.hardware.specs.declared.Port.{Port}
use Rattle.hardware.specs.Asked.{Asked, no, yes, question, and_then, open_port, admitting}
use Rattle.hardware.specs.Marks.{valid_held}
use Rattle.hardware.specs.Lent.{Lent, refused, goes, lent, asked}
use Rattle.hardware.specs.Numbers.{refusal_number}
use Rattle.hardware.specs.Prog.{Prog, ret, ask, Counted, blank, tally, pick}
use Rattle.transfer.specs.declared.attempt.Sequence.{Sequence}
use Rattle.page.specs.declared.walk.Form.{Form}
use Rattle.page.specs.declared.walk.Form.TheVariants.{Sff8472, Sff8636}
use Rattle.page.specs.declared.walk.Page.{Page}
use Rattle.page.specs.Page.{Filled, page, paged_of}
use Rattle.page.specs.Walk.{Fills, access_page, rest_page, buffer_page, filled_at, valid_page}
use Rattle.page.specs.Aliases.{PageTold, PageCall}
use Rattle.hardware.specs.declared.Told.TheVariants.{Ask, End}

-- Has the buffer the bytes of a page?
unfoldable pub buffer_fits : List ℕ → Bool
buffer_fits buffer = leb 96 (length buffer)

-- 4 and 9
unfoldable pub open_form : Sequence → Form → ℕ → List ℕ → Port → Asked (Prog (Counted Filled))
open_form q form attempts buffer port =
    question (leb attempts 255) 4 (question (buffer_fits buffer) 9 (yes (tally blank (page q port form attempts buffer))))

-- 1, 2, 4 and 9
unfoldable pub open_page : Sequence → ℕ → ℕ → ℕ → ℕ → List ℕ → Lent (Counted Filled)
open_page q family device lan attempts buffer = lent buffer (and_then (open_port family device lan) (open_form q Sff8472 attempts buffer))

unfoldable pub open_qsfp_page : Sequence → ℕ → ℕ → ℕ → ℕ → List ℕ → Lent (Counted Filled)
open_qsfp_page q family device lan attempts buffer = lent buffer (and_then (open_port family device lan) (open_form q Sff8636 attempts buffer))

unfoldable pub valid_call : Port → Form → ℕ → Meter → Page → Bool
valid_call port form tries m s = pick (valid_held port m) (valid_page port form tries m s) false

-- a step: 9, then 10, 11, 12. The finished state is well formed
unfoldable pub stepped_page : PageCall → List ℕ → Answer → Asked (Prog (Counted Filled))
stepped_page (Some (port, q, form, tries, m, s)) buffer a =
    admitting (valid_call port form tries m s) (access_page port s) a (yes (tally m (rest_page q port form tries s buffer a)))
stepped_page None buffer a = no 11

unfoldable pub step_page : PageCall → List ℕ → Answer → Lent (Counted Filled)
step_page s buffer a = lent buffer (question (buffer_fits buffer) 9 (stepped_page s buffer a))

-- what the buffer holds after a step: a refusal alters nothing
unfoldable pub kept : List ℕ → Asked (List ℕ) → List ℕ
kept buffer (no n) = buffer
kept buffer (yes b) = b

unfoldable pub buffer_stepped : PageCall → List ℕ → Answer → Asked (List ℕ)
buffer_stepped (Some (port, q, form, tries, m, s)) buffer a =
    admitting (valid_call port form tries m s) (access_page port s) a (yes (buffer_page q port form s buffer a))
buffer_stepped None buffer a = no 11

unfoldable pub buffer_after : PageCall → List ℕ → Answer → List ℕ
buffer_after s buffer a = kept buffer (question (buffer_fits buffer) 9 (buffer_stepped s buffer a))

-- what was told, with the buffer as it is then; 0 is none of the papers' numbers: nothing asks with a finished state
unfoldable pub said_page : PageTold → List ℕ → Lent (Counted Filled)
said_page (Ok (Ask x (Some (port, q, form, tries, m, s)))) buffer = goes (ask x (λ a. tally m (rest_page q port form tries s buffer a)))
said_page (Ok (Ask x None)) buffer = refused 0 buffer
said_page (Ok (End (p, m))) buffer = goes (ret (record { meter = m; result = record { result = paged_of p; buffer = buffer } }))
said_page (Err q) buffer = refused (refusal_number q) buffer

-- what the buffer holds after these answers to a state's accesses
unfoldable pub filled_call : PageCall → List ℕ → List Answer → List ℕ
filled_call (Some (port, q, form, tries, m, s)) buffer l = filled_at q port form tries s buffer l
filled_call None buffer l = buffer

-- after any further answers the buffer holds what f says; nothing follows a refusal
unfoldable pub FilledAs : PageTold → List ℕ → (List Answer → List ℕ) → Type 0
FilledAs (Ok (Ask x s)) buffer f = (l : List Answer) → filled_call s buffer l ≡ f l
FilledAs (Ok (End (p, m))) buffer f = (l : List Answer) → buffer ≡ f l
FilledAs (Err q) buffer f = Unit {0}

-- a state to go on from comes with the access it awaits, and passes question 10
unfoldable pub stands_page : PageTold → Type 0
stands_page (Ok (Ask x (Some (port, q, form, tries, m, s)))) = (x ≡ access_page port s) × (valid_call port form tries m s ≡ true)
stands_page (Ok (Ask x None)) = ⊥
stands_page (Ok (End (p, m))) = Unit {0}
stands_page (Err q) = Unit {0}

-- a telling with the buffer as it is then, which is lent to the next step
pub record PageAt : Type 0 where
  pub told : PageTold
  pub buffer : List ℕ

abbrev pub said_at : PageAt → Asked (Prog (Counted Filled))
said_at t = asked (said_page t.told t.buffer)

-- what a step told, u, with the buffer c, follows what was told before it, with the buffer b: as the step promises
unfoldable pub follows_buffer : PageTold → List ℕ → Answer → PageTold → List ℕ → Type 0
follows_buffer (Ok (Ask x s)) b a u c =
    Fills (said_page u c ≡ step_page s b a) (stands_page u) (c ≡ buffer_after s b a) (FilledAs u c (λ l. filled_call s b (a ∷ l)))
follows_buffer (Ok (End (p, m))) b a u c = ⊥
follows_buffer (Err q) b a u c = ⊥

abbrev pub follows_page : PageAt → Answer → PageAt → Type 0
follows_page t a u = follows_buffer t.told t.buffer a u.told u.buffer
