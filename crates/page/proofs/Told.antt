-- What the tellings of a page that is driven step by step say of its run: the last is an end exactly where the run has ended, with
-- its result, and with the buffer as it then is. And what the buffer holds after every step, while the call waits too.
use Prim.Native.Nat.{ℕ, ◌≤◌}
use mathlib.Core.Path.{◌≡◌, refl, ap, subst, sym, ◌∙◌}
use mathlib.Core.Bool.{true}
use mathlib.Core.List.{List, [], ◌∷◌, ◌++◌, append-nil}
use native.Mathlib.Omega.{arith}
use lib.Dec.{leb}
use lib.ListN.{length}
use borrow.Author.Tests.{leb-true}
use Rattle.hardware.specs.declared.Answer.{Answer}
use Rattle.hardware.specs.declared.Meter.{Meter}
use Rattle.hardware.specs.declared.Port.{Port}
use Rattle.hardware.specs.declared.Refusal.{Refusal}
use Rattle.hardware.specs.Asked.{Asked, no, yes, and_then, question, open_port}
use Rattle.hardware.specs.Lent.{refused, lent, asked}
use Rattle.hardware.specs.Prog.{Prog, Ok, Counted, blank}
use Rattle.hardware.specs.Promise.{Keeps}
use Rattle.hardware.specs.Runs.{Status, ended, waiting, Run, run, run_asked, on_answer, counted, counted_status, meter_in, AwaitedIn, Exchange, answers_of, AllKept, last_told, led, driven, IfYes, Unrefused}
use Rattle.transfer.specs.declared.attempt.Sequence.{Sequence}
use Rattle.page.specs.declared.walk.Form.{Form}
use Rattle.page.specs.Page.{Filled, page, paged_of}
use Rattle.page.specs.Walk.{filling, filled_at, filled_from}
use Rattle.page.specs.Calls.{buffer_fits, open_form, step_page, said_page, stands_page, filled_call, FilledAs, PageAt, said_at, follows_buffer, follows_page}
use Rattle.page.specs.Accepted.{Accepted, PageEnds, PageHolds}
use Rattle.page.proofs.Runs.{form_driven}
use Rattle.page.proofs.Accepted.{page_ends_as, page_holds_as, page_accepted}
use Rattle.page.proofs.Laws.{filled_as}
use Rattle.page.specs.Aliases.{PageTold, Paged}
use Rattle.hardware.specs.declared.Told.TheVariants.{Ask, End}
use Rattle.std.specs.Prelude.{Err, Some, None}
use Rattle.page.specs.declared.sums.PageError.TheVariants.{FirstSum, SecondSum, Bus}

-- a refusal is no run
refused_none : {A : Type 0} (n : ℕ) (r : A) → no n ≡ yes r → ⊥
refused_none n r e = let z : ◌≡◌ {A = ℕ} 0 1 = cc in absurd (omega arith)

-- a step follows a telling that asked for an access, and the run stands as it does behind it
led_on : (t : PageTold) (b : List ℕ) (a : Answer) (u : PageTold) (c : List ℕ) (rest : Asked (Run (Counted Filled))) (r : Run (Counted Filled)) → follows_buffer t b a u c
    → and_then (asked (said_page t b)) (λ p. led p rest) ≡ yes r → (s : Run (Counted Filled)) × (rest ≡ yes s) × (r.status ≡ s.status)
unfolding follows_buffer said_page asked and_then led
led_on (Ok (Ask x (Some (port, q, form, tries, m, s)))) b a u c (no n) r f d = absurd (refused_none n r d)
led_on (Ok (Ask x (Some (port, q, form, tries, m, s)))) b a u c (yes z) r f d = (z, refl, cc)
led_on (Ok (Ask x None)) b a u c rest r f d = absurd (refused_none 0 r d)
led_on (Ok (End (p, m))) b a u c rest r f d = absurd f
led_on (Err j) b a u c rest r f d = absurd f

-- so a call that was driven to an end has ended with what was told then, and with the buffer as it then was
told_ended : (t : PageAt) (ks : List (Exchange PageAt)) (p : Paged) (m : Meter) (r : Run (Counted Filled)) → AllKept follows_page t ks → (last_told t ks).told ≡ Ok (End (p, m))
    → driven said_at t ks ≡ yes r → r.status ≡ ended (record { meter = m; result = record { result = paged_of p; buffer = (last_told t ks).buffer } })
unfolding AllKept last_told driven run_asked run said_page asked
told_ended t [] p m r kept e d = let z : yes r ≡ run_asked (asked (said_page (Ok (End (p, m))) t.buffer)) [] = sym d ∙ ap (λ u. run_asked (asked (said_page u t.buffer)) []) e in cc
told_ended t (k ∷ ks) p m r kept e d =
    let (s, on, same) = led_on t.told t.buffer _ _ _ _ r kept.0 d in
    same ∙ told_ended k.told ks p m s kept.1 e on

-- and where it has ended, an end was told last: after an ask it would wait
none_waits : (t : PageTold) (b : List ℕ) (r : Run (Counted Filled)) (v : Counted Filled) → run_asked (asked (said_page t b)) [] ≡ yes r → r.status ≡ ended v
    → (p : Paged) × (m : Meter) × (t ≡ Ok (End (p, m)))
unfolding run_asked run on_answer said_page asked
none_waits (Ok (Ask x (Some (port, q, form, tries, m, s)))) b r v d e =
    let y : record { accesses = []; bytes = []; status = waiting x } ≡ r = cc in
    let z : ◌≡◌ {A = ℕ} 0 1 = cc (ap (λ u. u.status) y) in
    absurd (omega arith)
none_waits (Ok (Ask x None)) b r v d e = absurd (refused_none 0 r d)
none_waits (Ok (End (p, m))) b r v d e = (p, m, refl)
none_waits (Err j) b r v d e = absurd (refused_none _ r d)

ended_told : (t : PageAt) (ks : List (Exchange PageAt)) (r : Run (Counted Filled)) (v : Counted Filled) → AllKept follows_page t ks → driven said_at t ks ≡ yes r
    → r.status ≡ ended v → (p : Paged) × (m : Meter) × ((last_told t ks).told ≡ Ok (End (p, m)))
unfolding AllKept last_told driven
ended_told t [] r v kept d e = none_waits t.told t.buffer r v d e
ended_told t (k ∷ ks) r v kept d e =
    let (s, on, same) = led_on t.told t.buffer _ _ _ _ r kept.0 d in
    ended_told k.told ks s v kept.1 on (sym same ∙ e)

-- the result without its count
uncounted : (m : Meter) (s : Status Filled) (c : Counted Filled) → counted_status m s ≡ ended c → s ≡ ended c.result
unfolding counted_status
uncounted m (ended v) c e = let z : record { meter = m; result = v } ≡ c = cc in ap (λ d. ended d.result) z
uncounted m (waiting x) c e = cc

-- only one case is a success
only_ok : (p : Paged) → paged_of p ≡ Ok tt → p ≡ (Ok tt)
unfolding paged_of
only_ok (Ok tt) e = refl
only_ok (Err FirstSum) e = cc
only_ok (Err SecondSum) e = cc
only_ok (Err (Bus x)) e = cc

-- What the buffer holds after further answers, f, is what it holds after a step and the answers behind
filled_on : (t : PageTold) (b : List ℕ) (a : Answer) (u : PageTold) (c : List ℕ) (f : List Answer → List ℕ) → follows_buffer t b a u c → FilledAs t b f
    → FilledAs u c (λ l. f (a ∷ l))
unfolding follows_buffer FilledAs
filled_on (Ok (Ask x s)) b a u c f k h = filled_as u c _ _ (λ l. h (a ∷ l)) k.fills
filled_on (Ok (End (p, m))) b a u c f k h = absurd k
filled_on (Err q) b a u c f k h = absurd k

filled_driven : (t : PageAt) (ks : List (Exchange PageAt)) (f : List Answer → List ℕ) → AllKept follows_page t ks → FilledAs t.told t.buffer f
    → FilledAs (last_told t ks).told (last_told t ks).buffer (λ l. f (answers_of ks ++ l))
unfolding AllKept last_told answers_of
filled_driven t [] f kept h = h
filled_driven t (k ∷ ks) f kept h = filled_driven k.told ks (λ l. f (k.answer ∷ l)) kept.1 (filled_on t.told t.buffer _ _ _ f kept.0 h)

-- before any further answer it is the buffer as it is
filled_now : (t : PageTold) (b : List ℕ) (f : List Answer → List ℕ) → Unrefused (asked (said_page t b)) → FilledAs t b f → b ≡ f []
unfolding FilledAs filled_call filled_at filling said_page asked IfYes
filled_now (Ok (Ask x (Some (port, q, form, tries, m, s)))) b f u h = h []
filled_now (Ok (Ask x None)) b f u h = h []
filled_now (Ok (End (p, m))) b f u h = h []
filled_now (Err j) b f u h = absurd u

-- a run that the host sees ends in no refusal
unrefused_now : (q : Asked (Prog (Counted Filled))) (r : Run (Counted Filled)) → run_asked q [] ≡ yes r → Unrefused q
unfolding run_asked IfYes
unrefused_now (no n) r d = absurd (refused_none n r d)
unrefused_now (yes p) r d = tt

unrefused_last : (t : PageAt) (ks : List (Exchange PageAt)) (r : Run (Counted Filled)) → AllKept follows_page t ks → driven said_at t ks ≡ yes r
    → Unrefused (said_at (last_told t ks))
unfolding AllKept last_told driven
unrefused_last t [] r kept d = unrefused_now (said_at t) r d
unrefused_last t (k ∷ ks) r kept d =
    let (s, on, same) = led_on t.told t.buffer _ _ _ _ r kept.0 d in
    unrefused_last k.told ks s kept.1 on

-- A step that is refused leaves the buffer as the steps before it left it
refused_same : (n : ℕ) (b c : List ℕ) (r : Asked (Prog (Counted Filled))) → refused n c ≡ lent b r → c ≡ b
unfolding lent
refused_same n b c (no k) e = cc
refused_same n b c (yes p) e = let z : ◌≡◌ {A = ℕ} 0 1 = cc in absurd (omega arith)

refused_on : (t : PageTold) (b : List ℕ) (a : Answer) (u : PageTold) (c : List ℕ) (j : Refusal) → follows_buffer t b a u c → u ≡ Err j → c ≡ b
unfolding follows_buffer said_page step_page
refused_on (Ok (Ask x (Some (port, q, form, tries, m, s)))) b a u c j k e = refused_same _ b c _ (ap (λ v. said_page v c) (sym e) ∙ k.yields)
refused_on (Ok (Ask x None)) b a u c j k e = refused_same _ b c _ (ap (λ v. said_page v c) (sym e) ∙ k.yields)
refused_on (Ok (End (p, m))) b a u c j k e = absurd k
refused_on (Err i) b a u c j k e = absurd k

pub page_refused : (t : PageAt) (ks : List (Exchange PageAt)) (k : Exchange PageAt) (j : Refusal) → AllKept follows_page t (ks ++ (k ∷ [])) → k.told.told ≡ Err j
    → k.told.buffer ≡ (last_told t ks).buffer
unfolding AllKept last_told
page_refused t [] k j kept e = refused_on t.told t.buffer _ _ _ j kept.0 e
page_refused t (h ∷ ks) k j kept e = page_refused h.told ks k j kept.1 e

-- of an accepted opening of either form, driven by steps that keep their promises
module _ (q : Sequence) (form : Form) (family device lan attempts : ℕ) (buffer : List ℕ) (port : Port) (t : PageTold)
    (o : open_port family device lan ≡ yes port) (a : leb attempts 255 ≡ true) (b : buffer_fits buffer ≡ true)
    (k : Keeps (said_page t buffer ≡ lent buffer (and_then (open_port family device lan) (open_form q form attempts buffer))) (stands_page t))
    (ks : List (Exchange PageAt)) (kept : AllKept follows_page (record { told = t; buffer = buffer }) ks)
    (w : AwaitedIn (asked (lent buffer (and_then (open_port family device lan) (open_form q form attempts buffer)))) (answers_of ks)) where
  -- what was told last, with the buffer then
  abbrev final : PageAt
  final = last_told (record { told = t; buffer = buffer }) ks

  -- the run that the host sees is that of the page
  seen : driven said_at (record { told = t; buffer = buffer }) ks
      ≡ yes (counted (meter_in blank (page q port form attempts buffer) (answers_of ks)) (run (page q port form attempts buffer) (answers_of ks)))
  unfolding and_then question
  seen = let d = form_driven q form family device lan attempts buffer t k ks kept w in rw (o, a, b) at d

  fits : 96 ≤ length buffer
  unfolding buffer_fits
  fits = leb-true 96 (length buffer) b

  -- where an end was told last, the page ends so, and with the buffer as it then is
  pub page_ended_told : (p : Paged) (m : Meter) → final.told ≡ Ok (End (p, m))
      → PageEnds q port form attempts buffer (answers_of ks) (record { result = paged_of p; buffer = final.buffer })
  page_ended_told p m e =
      (page_ends_as q port form attempts buffer (answers_of ks) _ fits).0 (uncounted _ _ _ (told_ended _ ks p m _ kept e seen))

  -- and where the page ends so, an end was told last, with that result and that buffer
  pub page_told : (f : Filled) → PageEnds q port form attempts buffer (answers_of ks) f
      → (p : Paged) × (m : Meter) × (final.told ≡ Ok (End (p, m))) × (paged_of p ≡ f.result) × (final.buffer ≡ f.buffer)
  unfolding counted_status
  page_told f h =
      let e = (page_ends_as q port form attempts buffer (answers_of ks) f fits).1 h in
      let (p, m, z) = ended_told _ ks _ _ kept seen (ap (counted_status (meter_in blank (page q port form attempts buffer) (answers_of ks))) e) in
      let same : ended f ≡ ended (record { result = paged_of p; buffer = final.buffer }) = sym e ∙ uncounted _ _ _ (told_ended _ ks p m _ kept z seen) in
      let filled : f ≡ record { result = paged_of p; buffer = final.buffer } = cc in
      (p, m, z, sym (ap (λ g. g.result) filled), sym (ap (λ g. g.buffer) filled))

  -- so success is told exactly where the page is accepted, and with the buffer as it then is
  pub page_accepted_told : ((m : Meter) × (final.told ≡ Ok (End ((Ok tt), m))) → Accepted q port form attempts buffer (answers_of ks) final.buffer)
      × ((after : List ℕ) → Accepted q port form attempts buffer (answers_of ks) after → (m : Meter) × (final.told ≡ Ok (End ((Ok tt), m))))
  unfolding paged_of
  page_accepted_told = (
    λ (m, e).
        (page_accepted q port form attempts buffer final.buffer (answers_of ks) fits).0
        ((page_ends_as q port form attempts buffer (answers_of ks) _ fits).1 (page_ended_told (Ok tt) m e)),
    λ after h.
        let e = (page_accepted q port form attempts buffer after (answers_of ks) fits).1 h in
        let (p, m, z, success, _) = page_told _ ((page_ends_as q port form attempts buffer (answers_of ks) _ fits).0 e) in
        (m, z ∙ ap (λ u. Ok (End (u, m))) (only_ok p success)),
  )

  -- After every step, whether the call waits or has ended, the buffer holds the bytes of the reads that have succeeded, in order, and
  -- behind them what it held; h: what the opening promises of it
  pub page_holds : FilledAs t buffer (filled_from q port form attempts 96 buffer) → PageHolds q port form attempts buffer (answers_of ks) final.buffer
  page_holds h =
      let held = filled_now final.told final.buffer _ (unrefused_last _ ks _ kept seen) (filled_driven _ ks _ kept h) in
      subst (PageHolds q port form attempts buffer (answers_of ks)) (sym (held ∙ ap (filled_from q port form attempts 96 buffer) (append-nil (answers_of ks))))
      (page_holds_as q port form attempts buffer (answers_of ks) fits)
