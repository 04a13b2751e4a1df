-- Whole calls of a page: for every port, number of attempts and buffer that are accepted and every list of answers the
-- library's run is that of the definition, the count of the attempts in it beside the result. A state that was handed out is
-- not refused at its next step. Each successful acquire gets one release call, and the accesses show the attempts. A number of
-- the state falls at every accepted step, whatever buffer is lent.
use Prim.Native.Nat.{ℕ, ◌<◌, ◌≤◌, suc, zero}
use mathlib.Core.Path.{◌≡◌, refl, ap, ◌∙◌, sym, subst}
use mathlib.Core.Bool.{Bool, true, false}
use mathlib.Core.List.{List, [], ◌∷◌}
use native.Mathlib.Omega.{arith}
use lib.Dec.{leb}
use lib.ListN.{drop, length, length-set, set}
use lib.Seq.{drop-set-lt}
use Rattle.hardware.specs.declared.Access.{Access}
use Rattle.hardware.specs.declared.Answer.{Answer}
use Rattle.hardware.specs.declared.Meter.{Meter}
use Rattle.hardware.specs.declared.Port.{Port}
use Rattle.hardware.specs.Asked.{Asked, no, yes, and_then, question, open_port, fits, admitting}
use Rattle.hardware.specs.Lent.{goes, lent, asked}
use Rattle.hardware.specs.Prog.{Prog, ret, ask, note, give, R, Ok, Err, Counted, blank, tally}
use Rattle.hardware.specs.Promise.{Keeps}
use Rattle.hardware.specs.Runs.{run, run_asked, Awaited, AwaitedIn, driven, ended, meter_in, counted, left_after, left_asked_after, Exchange, answers_of, AllKept, last_told, Refuses, Asks, IfYes, Lasts, Unrefused, Heard}
use Rattle.hardware.proofs.Laws.{run_tally, StepsOn, is_true, opened_runs, refused_runs, samples_heard}
use Rattle.hardware.specs.Longest.{over_answers, longest, lasting}
use Rattle.hardware.proofs.Ends.{run_ends, ask_ends, ends_tally}
use Rattle.hardware.proofs.Longest.{Falls, lasting_falls, number_few, longest_few, longest_tally, longest_same}
use Rattle.bus.specs.declared.Taken.{Taken}
use Rattle.bus.specs.Layout.{layout_of}
use Rattle.transfer.specs.declared.attempt.Sequence.{Sequence}
use Rattle.i2c.specs.Handshake.{valued, rest_request}
use Rattle.i2c.specs.Paired.{Paired}
use Rattle.i2c.specs.Shown.{Shown}
use Rattle.i2c.proofs.Pairs.{pairs_paired, pairs_samples}
use Rattle.i2c.proofs.Shown.{Showing}
use Rattle.i2c.proofs.Shows.{shows_shown}
use Rattle.sfp.proofs.Spreads.{Keeping, pairs_spreads, shows_spreads}
use Rattle.page.specs.declared.walk.Form.{Form}
use Rattle.page.specs.declared.walk.Form.TheVariants.{Sff8472, Sff8636}
use Rattle.page.specs.declared.walk.Page.{Page}
use Rattle.page.specs.Page.{Filled, place_of, byte_seen, page_from, page}
use Rattle.page.specs.Walk.{rest_page, stored, buffer_page}
use Rattle.page.specs.Calls.{buffer_fits, open_form, open_page, open_qsfp_page, stepped_page, step_page, kept, buffer_stepped, buffer_after, said_page, stands_page, PageAt, said_at, follows_buffer, follows_page}
use Rattle.page.specs.Runs.{form_run, page_left, FollowsLent}
use Rattle.page.proofs.Ends.{PAGE_STEPS, page_ends, page_after, page_rest_ends}
use Rattle.page.proofs.Spreads.{page_holds}
use Rattle.page.specs.Aliases.{PageTold, PageCall}
use Rattle.hardware.specs.declared.Told.TheVariants.{Ask, End}
use Rattle.std.specs.Prelude.{Some, None}

-- a long enough list of answers of the awaited kinds brings the call to its end
pub page_finishes : (q : Sequence) (port : Port) (form : Form) (tries : ℕ) (buffer : List ℕ) (l : List Answer) → PAGE_STEPS port.family tries ≤ length l
    → Awaited (page q port form tries buffer) l → (v : Filled) × ((run (page q port form tries buffer) l).status ≡ ended v)
page_finishes q port form tries buffer l h w = run_ends (page q port form tries buffer) (PAGE_STEPS port.family tries) l (page_ends q port form tries buffer) h w

-- a state that was handed out, with a buffer that fits and any answer of the kind that its access awaits, is not refused
pub page_accepts : (x : Access) (port : Port) (q : Sequence) (form : Form) (tries : ℕ) (m : Meter) (s : Page) (buffer : List ℕ) (a : Answer)
    → stands_page (Ok (Ask x (Some (port, q, form, tries, m, s)))) → buffer_fits buffer ≡ true → fits x a ≡ true
    → step_page (Some (port, q, form, tries, m, s)) buffer a ≡ goes (tally m (rest_page q port form tries s buffer a))
unfolding stands_page step_page stepped_page lent admitting question
page_accepts x port q form tries m s buffer a h b e = rw (b, h.1, ← h.0, e)

-- what a step can do to its buffer: set one of the page's places, or nothing
module _ (P : List ℕ → Type 0) (buffer : List ℕ) (same : P buffer) (one : (place v : ℕ) → place < 96 → P (set buffer place v)) where
  stored_holds : (place : ℕ) → place < 96 → (p : Prog (R Taken)) → P (stored place buffer p)
  unfolding stored
  stored_holds place h (ret (Ok t)) = one place t.last h
  stored_holds place h (ret (Err e)) = same
  stored_holds place h (ask x f) = same
  stored_holds place h (note n p) = stored_holds place h p
  stored_holds place h (give b p) = stored_holds place h p

  kept_holds : (e : Bool) (n : ℕ) (r : Asked (List ℕ)) → P (kept buffer r) → P (kept buffer (question e n r))
  unfolding kept question
  kept_holds true n r h = h
  kept_holds false n r h = same

  after_holds : (s : PageCall) (a : Answer) → P (buffer_after s buffer a)
  unfolding buffer_after buffer_stepped buffer_page admitting kept
  after_holds (Some (port, q, form, tries, m, s)) a = kept_holds _ 9 _ (kept_holds _ 10 _ (kept_holds _ 12 _ (stored_holds (place_of s.left) (omega arith) _)))
  after_holds None a = kept_holds _ 9 _ same

after_length : (s : PageCall) (buffer : List ℕ) (a : Answer) → length (buffer_after s buffer a) ≡ length buffer
after_length s buffer a = after_holds (λ b. length b ≡ length buffer) buffer refl (λ place v h. length-set buffer place v) s a

after_past : (s : PageCall) (buffer : List ℕ) (a : Answer) → drop 96 (buffer_after s buffer a) ≡ drop 96 buffer
after_past s buffer a = after_holds (λ b. drop 96 b ≡ drop 96 buffer) buffer refl (λ place v h. drop-set-lt 96 buffer place v h) s a

-- Places past 95 hold what they held, over every run: of a call that still waits too
past_on : (t : PageTold) (b : List ℕ) (a : Answer) (u : PageTold) (c : List ℕ) → follows_buffer t b a u c → drop 96 c ≡ drop 96 b
unfolding follows_buffer
past_on (Ok (Ask x s)) b a u c k = ap (drop 96) k.holds ∙ after_past s b a
past_on (Ok (End (p, m))) b a u c k = absurd k
past_on (Err q) b a u c k = absurd k

pub page_past : (t : PageAt) (ks : List (Exchange PageAt)) → AllKept follows_page t ks → drop 96 (last_told t ks).buffer ≡ drop 96 t.buffer
unfolding AllKept last_told
page_past t [] kept = refl
page_past t (k ∷ ks) kept = page_past k.told ks kept.1 ∙ past_on t.told t.buffer _ _ _ kept.0

-- a telling whose state can be stepped on from, with a buffer that fits
abbrev pub stands_at : PageAt → Type 0
stands_at t = stands_page t.told × (buffer_fits t.buffer ≡ true)

buffer_on : (t : PageTold) (b : List ℕ) (a : Answer) (u : PageTold) (c : List ℕ) → stands_page t → buffer_fits b ≡ true → follows_buffer t b a u c
    → AwaitedIn (asked (said_page t b)) (a ∷ [])
    → (asked (said_page u c) ≡ left_asked_after (asked (said_page t b)) a) × (stands_page u × (buffer_fits c ≡ true)) × IfYes Asks (asked (said_page t b))
unfolding follows_buffer said_page stands_page asked AwaitedIn Awaited left_asked_after left_after buffer_fits IfYes Asks
buffer_on (Ok (Ask y (Some (port, q, form, tries, m, s)))) b a u c h f k w =
    (ap asked (k.yields ∙ page_accepts y port q form tries m s b a h f (is_true (fits y a) w.0)), (k.limits, rw (k.holds, after_length) f), tt)
buffer_on (Ok (Ask y None)) b a u c h f k w = absurd h
buffer_on (Ok (End (p, m))) b a u c h f k w = absurd k
buffer_on (Err q) b a u c h f k w = absurd k

pub page_steps_on : StepsOn said_at follows_page stands_at
page_steps_on t u a h k w = buffer_on t.told t.buffer a u.told u.buffer h.0 h.1 k w

-- an opening's questions and then the run
asked_runs : (buffer : List ℕ) (o : Asked Port) (e f : Bool) (p : Port → Prog Filled) (l : List Answer)
    → run_asked (asked (lent buffer (and_then o (λ port. question e 4 (question f 9 (yes (tally blank (p port)))))))) l
    ≡ and_then o (λ port. question e 4 (question f 9 (yes (counted (meter_in blank (p port) l) (run (p port) l)))))
unfolding lent asked run_asked and_then question
asked_runs buffer (no n) e f p l = refl
asked_runs buffer (yes port) false f p l = refl
asked_runs buffer (yes port) true false p l = refl
asked_runs buffer (yes port) true true p l = ap yes (run_tally blank (p port) l)

-- a buffer that does not fit is refused, by this question or one before it
short_refused : (buffer : List ℕ) (o : Asked Port) (e f : Bool) (p : Port → Prog Filled) → f ≡ false
    → Refuses (asked (lent buffer (and_then o (λ port. question e 4 (question f 9 (yes (tally blank (p port))))))))
unfolding lent asked and_then question Refuses
short_refused buffer (no n) e f p z = tt
short_refused buffer (yes port) false f p z = tt
short_refused buffer (yes port) true f p z = rw z tt

module _ (q : Sequence) (form : Form) (family device lan attempts : ℕ) (buffer : List ℕ) (t : PageTold) where
  pub page_runs : said_page t buffer ≡ lent buffer (and_then (open_port family device lan) (open_form q form attempts buffer)) → (l : List Answer)
      → run_asked (asked (said_page t buffer)) l ≡ form_run q form family device lan attempts buffer l
  unfolding open_form
  page_runs e l =
      ap (λ x. run_asked (asked x) l) e
      ∙ asked_runs buffer (open_port family device lan) (leb attempts 255) (buffer_fits buffer) (λ port. page q port form attempts buffer) l

  -- from the opening on, driven by steps that keep their promises, the buffer lent to each as the one before left it
  pub form_driven : Keeps (said_page t buffer ≡ lent buffer (and_then (open_port family device lan) (open_form q form attempts buffer))) (stands_page t)
      → (ks : List (Exchange PageAt)) → AllKept follows_page (record { told = t; buffer = buffer }) ks
      → AwaitedIn (asked (lent buffer (and_then (open_port family device lan) (open_form q form attempts buffer)))) (answers_of ks)
      → driven said_at (record { told = t; buffer = buffer }) ks ≡ form_run q form family device lan attempts buffer (answers_of ks)
  unfolding open_form
  form_driven k ks kept w = by (buffer_fits buffer) refl ∙ page_runs k.yields (answers_of ks)
    where
      by : (b : Bool) → buffer_fits buffer ≡ b → driven said_at (record { told = t; buffer = buffer }) ks ≡ run_asked (asked (said_page t buffer)) (answers_of ks)
      by true e =
          opened_runs said_at follows_page stands_at page_steps_on (record { told = t; buffer = buffer }) ks (record { yields = ap asked k.yields; limits = (k.limits, e) }) kept w
      by false e =
          refused_runs said_at (record { told = t; buffer = buffer }) ks
          (subst (λ x. Refuses (asked x)) (sym k.yields) (short_refused buffer (open_port family device lan) (leb attempts 255) (buffer_fits buffer) _ e))

-- so of each of the two openings
module _ (q : Sequence) (family device lan attempts : ℕ) (buffer : List ℕ) (t : PageTold) where
  pub page_driven : Keeps (said_page t buffer ≡ open_page q family device lan attempts buffer) (stands_page t) → (ks : List (Exchange PageAt))
      → AllKept follows_page (record { told = t; buffer = buffer }) ks → AwaitedIn (asked (open_page q family device lan attempts buffer)) (answers_of ks)
      → driven said_at (record { told = t; buffer = buffer }) ks ≡ form_run q Sff8472 family device lan attempts buffer (answers_of ks)
  unfolding open_page
  page_driven k ks kept w = form_driven q Sff8472 family device lan attempts buffer t k ks kept w

  pub qsfp_page_driven : Keeps (said_page t buffer ≡ open_qsfp_page q family device lan attempts buffer) (stands_page t) → (ks : List (Exchange PageAt))
      → AllKept follows_page (record { told = t; buffer = buffer }) ks → AwaitedIn (asked (open_qsfp_page q family device lan attempts buffer)) (answers_of ks)
      → driven said_at (record { told = t; buffer = buffer }) ks ≡ form_run q Sff8636 family device lan attempts buffer (answers_of ks)
  unfolding open_qsfp_page
  qsfp_page_driven k ks kept w = form_driven q Sff8636 family device lan attempts buffer t k ks kept w

-- each successful acquire gets one release call before the next acquire or the end, for every list of answers
pub page_paired : (q : Sequence) (port : Port) (form : Form) (tries : ℕ) (buffer : List ℕ) (l : List Answer) → Paired (page q port form tries buffer) l
page_paired q port form tries buffer l = pairs_paired _ l (page_holds q port form tries Keeping (pairs_spreads q port) buffer)

-- every acknowledgement in a run is in one of ten samples, and its result tells the greatest
pub page_heard : (q : Sequence) (port : Port) (form : Form) (tries : ℕ) (buffer : List ℕ) (l : List Answer) → Heard (page q port form tries buffer) l
page_heard q port form tries buffer l = samples_heard _ l (pairs_samples false _ _ l (page_holds q port form tries Keeping (pairs_spreads q port) buffer))

-- the accesses of a run show the attempts that it begins, for every list of answers
pub page_shown : (q : Sequence) (port : Port) (form : Form) (tries : ℕ) (buffer : List ℕ) (l : List Answer) → Shown q (layout_of port.family) (page q port form tries buffer) l
page_shown q port form tries buffer l = shows_shown _ _ _ _ l (page_holds q port form tries (Showing q port) (shows_spreads q port) buffer)

-- its number falls at every accepted step
pub page_falls : Falls said_at follows_page stands_at
page_falls = lasting_falls said_at follows_page stands_at page_steps_on

-- How long a page can last is not by what its buffer holds
seen_same : (again : List ℕ → Prog Filled) (place : ℕ) (b c : List ℕ) → ((b c : List ℕ) → longest (again b) ≡ longest (again c))
    → (r : R ℕ) → longest (byte_seen again place b r) ≡ longest (byte_seen again place c r)
unfolding byte_seen longest
seen_same again place b c h (Ok v) = h _ _
seen_same again place b c h (Err e) = refl

from_same : (q : Sequence) (port : Port) (form : Form) (tries n : ℕ) (b c : List ℕ) → longest (page_from q port form tries n b) ≡ longest (page_from q port form tries n c)
unfolding page_from longest
from_same q port form tries zero b c = refl
from_same q port form tries (suc left) b c = longest_same _ _ _ (seen_same _ (place_of left) b c (from_same q port form tries left))

rest_same : (q : Sequence) (port : Port) (form : Form) (tries : ℕ) (s : Page) (b c : List ℕ) (a : Answer)
    → longest (rest_page q port form tries s b a) ≡ longest (rest_page q port form tries s c a)
unfolding rest_page rest_request valued
rest_same q port form tries s b c a = longest_same _ _ _ (λ r. seen_same _ (place_of s.left) b c (from_same q port form tries s.left) _)

said_same : (t : PageTold) (b : List ℕ) → lasting (asked (said_page t b)) ≡ page_left t
unfolding page_left said_page asked lasting longest
said_same (Ok (Ask x (Some (port, q, form, tries, m, s)))) b =
    λ i. suc (over_answers x (λ a. (longest_tally m (rest_page q port form tries s b a) ∙ rest_same q port form tries s b [] a ∙ sym (longest_tally m (rest_page q port form tries s [] a))) i))
said_same (Ok (Ask x None)) b = refl
said_same (Ok (End (p, m))) b = refl
said_same (Err q) b = refl

-- so the number falls whatever buffer is lent
pub page_lent_falls : (t u : PageTold) (a : Answer) → stands_page t → FollowsLent t a u → stands_page u × (page_left u < page_left t)
page_lent_falls t u a h k =
    let on = buffer_on t k.given a u k.then h k.fits k.follows k.awaited in
    (on.1.0, rw (← said_same u k.then, ← said_same t k.given) (page_falls (record { told = t; buffer = k.given }) (record { told = u; buffer = k.then }) a (h, k.fits) k.follows k.awaited k.typed))

-- a telling that is no refusal with one buffer is none with another
unrefused_any : (t : PageTold) (b c : List ℕ) → Unrefused (asked (said_page t b)) → Unrefused (asked (said_page t c))
unfolding said_page asked IfYes
unrefused_any (Ok (Ask x (Some (port, q, form, tries, m, s)))) b c h = tt
unrefused_any (Ok (Ask x None)) b c h = h
unrefused_any (Ok (End (p, m))) b c h = tt
unrefused_any (Err q) b c h = h

unrefused_after : (q : Asked (Prog (Counted Filled))) (a : Answer) → IfYes Asks q → Unrefused (left_asked_after q a)
unfolding IfYes left_asked_after
unrefused_after (no n) a h = h
unrefused_after (yes p) a h = tt

abbrev StandsLent : PageTold → Type 0
StandsLent t = stands_page t × Unrefused (asked (said_page t []))

lent_on : (t u : PageTold) (a : Answer) → StandsLent t → FollowsLent t a u → StandsLent u × (page_left u < page_left t)
lent_on t u a h k =
    let on = buffer_on t k.given a u k.then h.0 k.fits k.follows k.awaited in
    let f = page_lent_falls t u a h.0 k in
    ((f.0, unrefused_any u k.then [] (subst Unrefused (sym on.0) (unrefused_after (asked (said_page t k.given)) a on.2))), f.1)

lent_over : (t : PageTold) → StandsLent t → page_left t ≡ 0 → IfYes (λ p. Asks p → ⊥) (asked (said_page t []))
unfolding page_left said_page asked lasting longest IfYes Asks
lent_over (Ok (Ask x (Some (port, q, form, tries, m, s)))) h e = absurd (omega (arith, e))
lent_over (Ok (Ask x None)) h e = absurd h.1
lent_over (Ok (End (p, m))) h e = λ k. k
lent_over (Err q) h e = absurd h.1

-- so from any state that passes question 10, whoever made it, the call takes at most so many steps more, each lent a buffer of its
-- own
pub page_lasts_lent : (x : Access) (port : Port) (q : Sequence) (form : Form) (tries : ℕ) (m : Meter) (s : Page) (ks : List (Exchange PageTold))
    → stands_page (Ok (Ask x (Some (port, q, form, tries, m, s)))) → AllKept FollowsLent (Ok (Ask x (Some (port, q, form, tries, m, s)))) ks
    → Lasts (λ t. asked (said_page t [])) (Ok (Ask x (Some (port, q, form, tries, m, s)))) ks (suc (page_after port.family form tries s))
unfolding page_left said_page asked lasting IfYes
page_lasts_lent x port q form tries m s ks h k =
    number_few (λ t. asked (said_page t [])) FollowsLent StandsLent page_left lent_on lent_over _ ks (suc (page_after port.family form tries s)) (h, tt)
    (longest_few _ _ (ask_ends x _ (page_after port.family form tries s) (λ a. ends_tally m _ _ (page_rest_ends q port form tries s [] a)))) k
