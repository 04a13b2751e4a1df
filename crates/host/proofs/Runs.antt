-- Whole calls through the exports: from an opening on, for every list of answers of the awaited kinds, what a host sees, block
-- after block, is the run of the program that the opening says, over these answers; of the calls that the Rust has, with its
-- sequence, that is the Rust's run. What a block or a buffer holds in the end is what the run's result says; the bytes of a script
-- are the run's. From any state, whoever made it, a call that is lent nothing and stepped on comes to its end.
use Prim.Native.Nat.{ℕ, ◌+◌, ◌-◌, ◌<◌, ◌≤◌, ◌^◌, suc}
use mathlib.Core.Path.{◌≡◌, ◌∙◌, ap, refl, sym, subst}
use mathlib.Core.Bool.{Bool, true, false}
use mathlib.Core.List.{List, [], ◌∷◌}
use lib.Dec.{T, eqb, leb, ltb}
use lib.ListN.{length}
use native.Mathlib.Omega.{arith}
use borrow.Author.Tests.{eqb-true, le-leb}
use Rattle.hardware.specs.declared.Access.{Access}
use Rattle.hardware.specs.declared.Access.TheVariants.{Read, Write, Wait}
use Rattle.hardware.specs.declared.Answer.{Answer}
use Rattle.hardware.specs.declared.Answer.TheVariants.{Value, Done, Failed}
use Rattle.hardware.specs.declared.Meter.{Meter}
use Rattle.hardware.specs.declared.Port.{Port}
use Rattle.hardware.specs.Asked.{and_then, Asked, fits, InType, no, open_port, question, yes}
use Rattle.hardware.specs.Failures.{failure_of}
use Rattle.hardware.specs.Prog.{Prog, R, Ok, Err, Counted, ret, ask, note, give, blank, erase}
use Rattle.hardware.specs.Promise.{Bounds, Keeps}
use Rattle.hardware.specs.Registers.{reply}
use Rattle.hardware.specs.Runs.{Status, Exchange, AllKept, Asks, Awaited, AwaitedIn, ended, IfYes, Lasts, last_told, left_after, left_asked_after, on_answer, Refuses, run, run_asked, Unrefused, waiting}
use Rattle.hardware.proofs.Laws.{StepsOn}
use Rattle.hardware.proofs.Longest.{Accepts}
use Rattle.hardware.proofs.Ends.{update_after}
use Rattle.hardware.specs.Lent.{asked, Lent, lent}
use Rattle.script.specs.Script.{judged}
use Rattle.transfer.specs.Calls.{follows_script, judged_then, open_script, said_script, stands_script, step_script}
use Rattle.transfer.specs.Left.{call_left, script_left}
use Rattle.transfer.proofs.Runs.{script_steps_on}
use Rattle.page.specs.declared.walk.Form.{Form}
use Rattle.page.specs.declared.walk.Form.TheVariants.{Sff8472, Sff8636}
use Rattle.page.specs.Page.{Filled, paged_of as result_in}
use Rattle.page.specs.Walk.{Fills}
use Rattle.page.specs.Calls.{buffer_after, buffer_fits, FilledAs, filled_call, follows_buffer, follows_page, open_form, open_page, open_qsfp_page, PageAt, said_at as said_page_at, said_page, stands_page, step_page}
use Rattle.page.proofs.Runs.{page_steps_on, stands_at as stands_page_at}
use Rattle.hostif.specs.Hostif.{command, Left}
use Rattle.transfer.specs.declared.attempt.Sequence.{Sequence}
use Rattle.i2c.specs.Calls.{follows_setup, follows_transfer, said_setup, said_transfer, stands_setup, stands_transfer, step_setup, step_transfer}
use Rattle.i2c.proofs.Ends.{handshake_after}
use Rattle.i2c.proofs.Runs.{setup_lasts, setup_steps_on, transfer_lasts, transfer_steps_on}
use Rattle.sfp.specs.declared.Identity.{Identity}
use Rattle.identify.specs.Calls.{follows_identify, said_identify, stands_identify, step_identify}
use Rattle.identify.proofs.Ends.{identify_after}
use Rattle.identify.proofs.Runs.{identify_lasts, identify_steps_on}
use Rattle.softrate.specs.Calls.{follows_rate, said_rate, stands_rate, step_rate}
use Rattle.softrate.proofs.Runs.{rate_lasts, rate_steps_on, rate_after}
use Rattle.light.specs.declared.sensed.Measures.{Measures}
use Rattle.light.specs.Sensed.{measured_of as measures_in}
use Rattle.light.specs.Calls.{follows_light, said_light, stands_light, step_light}
use Rattle.light.proofs.Ends.{light_after}
use Rattle.light.proofs.Runs.{light_lasts, light_steps_on}
use Rattle.hostif.specs.Calls.{block_fits, CommandAt, follows_block, follows_command, follows_token, open_command, said_at as said_command_at, said_command, said_token, stands_command, stands_token, step_command, step_token}
use Rattle.hostif.proofs.Ends.{token_after}
use Rattle.hostif.proofs.Runs.{command_steps_on, stands_at as stands_command_at, token_lasts, token_steps_on}
use Rattle.acquire.specs.Calls.{follows_acquire, follows_release, said_acquire, said_release, stands_acquire, stands_release, step_acquire, step_release}
use Rattle.acquire.proofs.Ends.{acquire_after, release_after}
use Rattle.acquire.proofs.Runs.{acquire_lasts, acquire_steps_on, release_lasts, release_steps_on}
use Rattle.flat.specs.declared.State.{State}
use Rattle.flat.specs.Pick.{pick}
use Rattle.host.specs.declared.Block.{Block}
use Rattle.host.specs.declared.Next.{Next}
use Rattle.host.specs.Next.{asked_of, byte_of, ended_of, failed_of, flag_of, identified_of, identity_of, measured_of, measures_of, next_of, outcome_of, paged_of, refused_of, word_of}
use Rattle.host.specs.Open.{named, OpenedBy}
use Rattle.host.specs.Runs.{and_given, and_handed, answers_in, asked_seen, awaits, Awaits, bare, bare_block, block_of_held, bytes_of, CommandPromise, done_of, Driven, Drives, Ended, filled_of, handed_in, Held, itself, last_held, last_of, Lasting, left_of, metered_of, named_seen, names_access, names_end, PagePromise, result_of, run_seen, ScriptPromise, seen, StepPromise, through, Turn, unmetered_of, yes_of}
use Rattle.host.specs.Shown.{refused_block, Shows, ShownCommand, ShownPage, ShownScript, ShownTransfer, ShownSetup, ShownIdentify, ShownRate, ShownLight, ShownAcquire, ShownRelease, ShownToken}
use Rattle.host.specs.Step.{answered, AnsweredBy, choose, CommandStepped, LentBy, PageStepped, ScriptStepped, Stepped, SteppedAs, SteppedTransfer, SteppedSetup, SteppedIdentify, SteppedRate, SteppedLight, SteppedAcquire, SteppedRelease, SteppedToken}
use Rattle.host.specs.Tells.{TellsCommandOpen, TellsPageOpen, TellsScriptOpen, TellsTransfer, TellsSetup, TellsIdentify, TellsRate, TellsLight, TellsAcquire, TellsRelease, TellsToken}
use Rattle.host.proofs.Laws.{of_call}
use Rattle.page.specs.Aliases.{Paged, PageTold, PageCall}
use Rattle.hostif.specs.Aliases.{TokenTold, CommandTold}
use Rattle.i2c.specs.Aliases.{SetupTold, TransferTold}
use Rattle.light.specs.Aliases.{Measured, LightTold}
use Rattle.acquire.specs.Aliases.{ReleaseTold, AcquireTold}
use Rattle.identify.specs.Aliases.{IdentifyTold}
use Rattle.transfer.specs.Aliases.{ScriptTold, ScriptCall}
use Rattle.softrate.specs.Aliases.{RateTold}
use Rattle.hardware.specs.declared.Told.TheVariants.{Ask, End}
use Rattle.transfer.specs.declared.calls.Said.TheVariants.{Ask as SaidAsk, Read as SaidRead, End as SaidEnd}
use Rattle.page.specs.declared.sums.PageError.TheVariants.{FirstSum, SecondSum, Bus}
use Rattle.light.specs.declared.power.PowerError.TheVariants.{Coefficient as CaseCoefficient, Power as CasePower}
use Rattle.light.specs.declared.sensed.LightError.TheVariants.{Power as OfPower, Bus as LightBus}
use Rattle.std.specs.Prelude.{Some, None, Result, Option}
use Rattle.hardware.specs.declared.Error.{Error}

-- a value of 32 bits is an answer within its type
in_type : (kind value : ℕ) (a : Answer) → answered kind value ≡ Some a → value < 2 ^ 32 → InType a
unfolding answered InType
in_type kind value a e h = by (eqb kind 0) (eqb kind 1) (eqb kind 2) e
  where
    known : {b : Answer} → ◌≡◌ {A = (Option Answer)} (Some b) (Some a) → b ≡ a
    known e = cc

    none : ◌≡◌ {A = (Option Answer)} None (Some a) → InType a
    none e = let z : ◌≡◌ {A = ℕ} 0 1 = cc in absurd (omega arith)

    by : (x y z : Bool) → pick x (Some (Value value)) (pick y (Some Done) (pick z (Some Failed) None)) ≡ Some a → InType a
    by true y z e = subst InType (known e) h
    by false true z e = subst InType (known e) tt
    by false false true e = subst InType (known e) tt
    by false false false e = none e

-- a step that a host makes, with its answer
record Answering {Host : Type 0} (blockIn : Host → Block) (Promise : (Option Answer) → Host → Host → Type 0) (h : Host) (k : Turn Host) : Type 0 where
  answer : Answer
  is : answered k.kind k.value ≡ Some answer
  fits : T (awaits (blockIn h).next.kind answer)
  typed : InType answer
  promised : Promise (Some answer) h k.after

answering : {Host : Type 0} (blockIn : Host → Block) (Promise : (Option Answer) → Host → Host → Type 0) (h : Host) (k : Turn Host) → Drives blockIn Promise h k → Answering blockIn Promise h k
unfolding Awaits
answering blockIn Promise h k d = by (answered k.kind k.value) refl d.fits d.promised
  where
    by : (g : (Option Answer)) → answered k.kind k.value ≡ g → Awaits (blockIn h).next.kind g → Promise g h k.after → Answering blockIn Promise h k
    by (Some a) e w p = record { answer = a; is = e; fits = w; typed = in_type k.kind k.value a e d.typed; promised = p }
    by None e w p = absurd w

awaits_fits : (x : Access) (a : Answer) → awaits (asked_of x 0).kind a ≡ fits x a
unfolding awaits asked_of next_of fits
awaits_fits (Read r) (Value v) = refl
awaits_fits (Read r) Done = refl
awaits_fits (Read r) Failed = refl
awaits_fits (Write r w) (Value v) = refl
awaits_fits (Write r w) Done = refl
awaits_fits (Write r w) Failed = refl
awaits_fits (Wait t) (Value v) = refl
awaits_fits (Wait t) Done = refl
awaits_fits (Wait t) Failed = refl

-- What a program shows first. N: an end as numbers
module _ {A : Type 0} (N : A → Next) where
  unfoldable prompt_in : Prog A → Next
  prompt_in (ret v) = N v
  prompt_in (ask x f) = asked_of x 0
  prompt_in (note n p) = prompt_in p
  prompt_in (give b p) = prompt_in p

  unfoldable prompt : Asked (Prog A) → Next
  prompt (no n) = refused_of n
  prompt (yes p) = prompt_in p

  in_last : (p : Prog A) → prompt_in p ∷ [] ≡ run_seen N (run p [])
  unfolding prompt_in run on_answer through last_of
  in_last (ret v) = refl
  in_last (ask x f) = refl
  in_last (note n p) = in_last p
  in_last (give b p) = in_last p

  last : (q : Asked (Prog A)) → prompt q ∷ [] ≡ asked_seen N (run_asked q [])
  unfolding prompt run_asked asked_seen
  last (no n) = refl
  last (yes p) = in_last p

  in_first : (p : Prog A) (a : Answer) (l : List Answer) → Asks p → prompt_in p ∷ run_seen N (run (left_after p a) l) ≡ run_seen N (run p (a ∷ l))
  unfolding Asks prompt_in run on_answer left_after through
  in_first (ret v) a l k = absurd k
  in_first (ask x f) a l k = refl
  in_first (note n p) a l k = in_first p a l k
  in_first (give b p) a l k = in_first p a l k

  first : (q : Asked (Prog A)) (a : Answer) (l : List Answer) → IfYes Asks q → prompt q ∷ asked_seen N (run_asked (left_asked_after q a) l) ≡ asked_seen N (run_asked q (a ∷ l))
  unfolding IfYes prompt run_asked asked_seen left_asked_after
  first (no n) a l k = absurd k
  first (yes p) a l k = in_first p a l k

  none_awaited : (p : Prog A) → Awaited p []
  unfolding Awaited
  none_awaited (ret v) = tt
  none_awaited (ask x f) = tt
  none_awaited (note n p) = none_awaited p
  none_awaited (give b p) = none_awaited p

  in_awaited : (p : Prog A) (a : Answer) → Asks p → T (awaits (prompt_in p).kind a) → Awaited p (a ∷ [])
  unfolding Asks prompt_in Awaited
  in_awaited (ret v) a k h = tt
  in_awaited (ask x f) a k h = (subst T (awaits_fits x a) h, none_awaited (f a))
  in_awaited (note n p) a k h = in_awaited p a k h
  in_awaited (give b p) a k h = in_awaited p a k h

  awaited : (q : Asked (Prog A)) (n : Next) (a : Answer) → n ≡ prompt q → IfYes Asks q → T (awaits n.kind a) → AwaitedIn q (a ∷ [])
  unfolding prompt IfYes AwaitedIn
  awaited (no m) n a e k h = tt
  awaited (yes p) n a e k h = in_awaited p a k (subst (λ (next : Next). T (awaits next.kind a)) e h)

-- a run that ends does so after its first answer over the others
in_ends : {A : Type 0} (p : Prog A) (a : Answer) (l : List Answer) (v : A) → Asks p → (run p (a ∷ l)).status ≡ ended v → (run (left_after p a) l).status ≡ ended v
unfolding Asks run on_answer left_after
in_ends (ret w) a l v k e = absurd k
in_ends (ask x f) a l v k e = e
in_ends (note n p) a l v k e = in_ends p a l v k e
in_ends (give b p) a l v k e = in_ends p a l v k e

ends_after : {A : Type 0} (q : Asked (Prog A)) (a : Answer) (l : List Answer) (v : A) → IfYes Asks q → Ended q (a ∷ l) v → Ended (left_asked_after q a) l v
unfolding IfYes Ended left_asked_after
ends_after (no n) a l v k e = e
ends_after (yes p) a l v k e = in_ends p a l v k e

-- a block shows what was told, whatever the state before it was
abbrev ShownBy : {Told : Type 0} → (State → Told → Block → Type 0) → Told → Block → Type 0
ShownBy Shown t b = (old : State) × Shown old t b

-- a refused opening is not stepped
not_stepped : {A Host : Type 0} (N : A → Next) (blockIn : Host → Block) (Promise : (Option Answer) → Host → Host → Type 0) (q : Asked (Prog A)) (h : Host) (ks : List (Turn Host)) → Refuses q → (blockIn h).next ≡ prompt N q → Driven blockIn Promise h ks
    → seen blockIn h ks ≡ asked_seen N (run_asked q (answers_in ks))
unfolding Refuses seen answers_in Driven prompt names_access refused_of next_of
not_stepped N blockIn Promise (yes p) h ks r e d = absurd r
not_stepped N blockIn Promise (no n) h [] r e d = ap (λ m. m ∷ []) e ∙ last N (no n)
not_stepped N blockIn Promise (no n) h (k ∷ ks) r e d = absurd (subst (λ (next : Next). T (names_access next)) e d.0.names)

left_goes : {A : Type 0} (q : Asked (Prog A)) (a : Answer) → IfYes Asks q → Unrefused (left_asked_after q a)
unfolding IfYes left_asked_after
left_goes (no n) a h = h
left_goes (yes p) a h = tt

-- an end names no access
not_access : (n : Next) → names_end n ≡ true → T (names_access n) → ⊥
unfolding names_end
not_access n e k = by (names_access n) e k
  where
    by : (b : Bool) → pick b false (ltb n.kind 5) ≡ true → T b → ⊥
    by true e k = subst T (sym e) tt
    by false e k = k

-- A call whose steps are exported. ends: an end is one by its number. tells: a block shows what was told. goes: a step of a state that
-- was handed out tells what follows, and its block shows that
module _ {A Told Host : Type 0} (N : A → Next) (blockIn : Host → Block) (Promise : (Option Answer) → Host → Host → Type 0) (said : Told → Asked (Prog A)) (Follows : Told → Answer → Told → Type 0) (Stands : Told → Type 0) (Shown : Told → Host → Type 0) (on : StepsOn said Follows Stands) (ends : (v : A) → names_end (N v) ≡ true) (tells : (t : Told) (h : Host) → Stands t → Shown t h → (blockIn h).next ≡ prompt N (said t)) (goes : (t : Told) (h k : Host) (a : Answer) → IfYes Asks (said t) → Shown t h → Promise (Some a) h k → (u : Told) × Follows t a u × Shown u k) where
  in_asks : (p : Prog A) → T (names_access (prompt_in N p)) → Asks p
  unfolding prompt_in Asks
  in_asks (ret v) k = absurd (not_access (N v) (ends v) k)
  in_asks (ask x f) k = tt
  in_asks (note n p) k = in_asks p k
  in_asks (give b p) k = in_asks p k

  asks : (q : Asked (Prog A)) (n : Next) → n ≡ prompt N q → T (names_access n) → IfYes Asks q
  unfolding prompt IfYes names_access refused_of next_of
  asks (no m) n e k = subst (λ (next : Next). T (names_access next)) e k
  asks (yes p) n e k = in_asks p (subst (λ (next : Next). T (names_access next)) e k)

  -- the typed step behind a host's
  record Behind (t : Told) (h : Host) (k : Turn Host) : Type 0 where
    given : Answering blockIn Promise h k
    told : Told
    asked : IfYes Asks (said t)
    accepted : Accepts said Follows t given.answer told
    rest : said told ≡ left_asked_after (said t) given.answer
    stands : Stands told
    shown : Shown told k.after

  behind : (t : Told) (h : Host) (k : Turn Host) → Stands t → Shown t h → Drives blockIn Promise h k → Behind t h k
  behind t h k s v d =
      let i = answering blockIn Promise h k d in
      let e = tells t h s v in
      let q = asks (said t) (blockIn h).next e d.names in
      let g = goes t h k.after i.answer q v i.promised in
      let w = awaited N (said t) (blockIn h).next i.answer e q i.fits in
      let m = on t g.0 i.answer s g.1 w in
      record { given = i; told = g.0; asked = q; accepted = (g.1, w, i.typed); rest = m.0; stands = m.1; shown = g.2 }

  told_seen : (t : Told) (h : Host) (ks : List (Turn Host)) → Stands t → Shown t h → Driven blockIn Promise h ks → seen blockIn h ks ≡ asked_seen N (run_asked (said t) (answers_in ks))
  unfolding seen answers_in Driven and_given
  told_seen t h [] s v d = ap (λ n. n ∷ []) (tells t h s v) ∙ last N (said t)
  told_seen t h (k ∷ ks) s v d =
      let i = behind t h k s v d.0 in
      ap (λ n. n ∷ seen blockIn k.after ks) (tells t h s v)
      ∙ ap (λ l. prompt N (said t) ∷ l) (told_seen i.told k.after ks i.stands i.shown d.1 ∙ ap (λ q. asked_seen N (run_asked q (answers_in ks))) i.rest)
      ∙ first N (said t) i.given.answer (answers_in ks) i.asked
      ∙ ap (λ g. asked_seen N (run_asked (said t) (and_given g (answers_in ks)))) (sym i.given.is)

  -- where the run ends, so does the call, and the last that the host holds shows it
  told_ends : (t : Told) (h : Host) (ks : List (Turn Host)) → Stands t → Shown t h → Driven blockIn Promise h ks → (v : A) → Ended (said t) (answers_in ks) v
      → (u : Told) × Ended (said u) [] v × Shown u (last_held h ks)
  unfolding answers_in Driven and_given last_held
  told_ends t h [] s w d v e = (t, e, w)
  told_ends t h (k ∷ ks) s w d v e =
      let i = behind t h k s w d.0 in
      told_ends i.told k.after ks i.stands i.shown d.1 v
      (subst (λ (q : Asked (Prog A)). Ended q (answers_in ks) v) (sym i.rest)
      (ends_after (said t) i.given.answer (answers_in ks) v i.asked (subst (λ (g : (Option Answer)). Ended (said t) (and_given g (answers_in ks)) v) i.given.is e)))

  -- a host's steps are accepted steps of the call
  record Typed (t : Told) (h : Host) (ks : List (Turn Host)) : Type 0 where
    steps : List (Exchange Told)
    many : length steps ≡ length ks
    kept : AllKept (Accepts said Follows) t steps
    unrefused : Unrefused (said (last_told t steps))
    shows : (blockIn (last_held h ks)).next ≡ prompt N (said (last_told t steps))

  typed : (t : Told) (h : Host) (ks : List (Turn Host)) → Stands t → Unrefused (said t) → Shown t h → Driven blockIn Promise h ks → Typed t h ks
  unfolding AllKept Driven last_told last_held
  typed t h [] s y v d = record { steps = []; many = refl; kept = tt; unrefused = y; shows = tells t h s v }
  typed t h (k ∷ ks) s y v d =
      let i = behind t h k s v d.0 in
      let r = typed i.told k.after ks i.stands (subst Unrefused (sym i.rest) (left_goes (said t) i.given.answer i.asked)) i.shown d.1 in
      record { steps = record { answer = i.given.answer; told = i.told } ∷ r.steps; many = ap suc r.many; kept = (i.accepted, r.kept); unrefused = r.unrefused; shows = r.shows }

-- what a program shows is an access or an end
module _ {A : Type 0} (N : A → Next) (ends : (v : A) → names_end (N v) ≡ true) where
  in_goes : (p : Prog A) → T (pick (names_access (prompt_in N p)) true (names_end (prompt_in N p)))
  unfolding prompt_in names_access asked_of next_of
  in_goes (ret v) = by (names_access (N v)) (ends v)
    where
      by : (b : Bool) → names_end (N v) ≡ true → T (pick b true (names_end (N v)))
      by true e = tt
      by false e = subst T (sym e) tt
  in_goes (ask x f) = by x
    where
      by : (x : Access) → T (pick (names_access (asked_of x 0)) true (names_end (asked_of x 0)))
      by (Read r) = tt
      by (Write r w) = tt
      by (Wait t) = tt
  in_goes (note n p) = in_goes p
  in_goes (give b p) = in_goes p

  goes_on : (q : Asked (Prog A)) (n : Next) → n ≡ prompt N q → Unrefused q → T (pick (names_access n) true (names_end n))
  unfolding prompt IfYes
  goes_on (no m) n e y = absurd y
  goes_on (yes p) n e y = subst (λ (next : Next). T (pick (names_access next) true (names_end next))) (sym e) (in_goes p)

  in_over : (p : Prog A) → (Asks p → ⊥) → T (names_end (prompt_in N p))
  unfolding prompt_in Asks
  in_over (ret v) k = subst T (sym (ends v)) tt
  in_over (ask x f) k = absurd (k tt)
  in_over (note n p) k = in_over p k
  in_over (give b p) k = in_over p k

  over_now : (q : Asked (Prog A)) (n : Next) → n ≡ prompt N q → IfYes (λ p. Asks p → ⊥) q → T (names_end n)
  unfolding prompt IfYes
  over_now (no m) n e y = absurd y
  over_now (yes p) n e y = subst (λ (next : Next). T (names_end next)) (sym e) (in_over p y)

asks_goes : {A : Type 0} (q : Asked (Prog A)) → IfYes Asks q → Unrefused q
unfolding IfYes
asks_goes (no n) h = h
asks_goes (yes p) h = tt

-- of a call that is lent nothing
module _ {A Told : Type 0} (N : A → Next) (said : Told → Asked (Prog A)) (Follows : Told → Answer → Told → Type 0) (Stands : Told → Type 0) (Shown : State → Told → Block → Type 0) (on : StepsOn said Follows Stands) (ends : (v : A) → names_end (N v) ≡ true) (tells : (t : Told) (b : Block) → Stands t → ShownBy Shown t b → b.next ≡ prompt N (said t)) (goes : (t : Told) (b c : Block) (a : Answer) → IfYes Asks (said t) → ShownBy Shown t b → StepPromise (Some a) b c → (u : Told) × Follows t a u × ShownBy Shown u c) where
  -- from an opening on. o: what it says
  call_seen : (o : Asked (Prog A)) (old : State) (b : Block) (ks : List (Turn Block)) → Shows (λ t. Keeps (said t ≡ o) (Stands t)) Shown old b → Driven itself StepPromise b ks → seen itself b ks ≡ asked_seen N (run_asked o (answers_in ks))
  unfolding Shows
  call_seen o old b ks (t, k, h) d =
      told_seen N itself StepPromise said Follows Stands (ShownBy Shown) on ends tells goes t b ks k.limits (old, h) d ∙ ap (λ q. asked_seen N (run_asked q (answers_in ks))) k.yields

  -- the same of one whose sequence has a number
  named_seen_lem : (g : (Option Sequence)) (o : Sequence → Asked (Prog A)) (old : State) (b : Block) (ks : List (Turn Block)) → OpenedBy g (λ q. Shows (λ t. Keeps (said t ≡ o q) (Stands t)) Shown old) old b → Driven itself StepPromise b ks
      → seen itself b ks ≡ named_seen g (λ q. asked_seen N (run_asked (o q) (answers_in ks)))
  unfolding OpenedBy named_seen refused_block prompt asked_seen run_asked Refuses
  named_seen_lem (Some q) o old b ks h d = call_seen (o q) old b ks h d
  named_seen_lem None o old b ks h d = not_stepped N itself StepPromise (no 13) b ks tt (ap (λ (c : Block). c.next) h) d

  -- from what was told on
  lasting : (old : State) (t : Told) (b : Block) (n : ℕ) → Stands t → Unrefused (said t) → Shown old t b → ((js : List (Exchange Told)) → AllKept (Accepts said Follows) t js → Lasts said t js n) → Lasting b
  lasting old t b n s y h lasts = (
    n,
    λ ks d.
        let r = typed N itself StepPromise said Follows Stands (ShownBy Shown) on ends tells goes t b ks s y (old, h) d in
        let l = lasts r.steps r.kept in
        record { few = subst (λ (m : ℕ). m ≤ n) r.many l.few; goes = goes_on N ends _ _ r.shows r.unrefused; over = λ e. over_now N ends _ _ r.shows (l.over (r.many ∙ e)) },
  )

  call_lasting : ((old : State) (t : Told) (b : Block) → Stands t → Shown old t b → IfYes Asks (said t) → Lasting b)
      → (o : Asked (Prog A)) (old : State) (b : Block) → Shows (λ t. Keeps (said t ≡ o) (Stands t)) Shown old b → T (names_access b.next) → Lasting b
  unfolding Shows
  call_lasting few o old b (t, k, h) e = few old t b k.limits h (asks N itself StepPromise said Follows Stands (ShownBy Shown) on ends tells goes (said t) b.next (tells t b k.limits (old, h)) e)

-- a result is an end where its values are one
result_ends : {A : Type 0} (N : A → Meter → Next) → ((v : A) (m : Meter) → names_end (N v m) ≡ true) → (m : Meter) (r : R A) → names_end (result_of N m r) ≡ true
unfolding result_of names_end names_access next_of
result_ends N h m (Ok v) = h v m
result_ends N h m (Err f) = refl

-- the calls' results, by the Rust's
word_is : (w : (Result ℕ Error)) (m : Meter) → word_of w m ≡ result_of ended_of m (reply w)
unfolding word_of result_of reply failed_of failure_of
word_is (Ok v) m = refl
word_is (Err e) m = refl

outcome_is : (o : (Result (Unit {0}) Error)) (m : Meter) → outcome_of o m ≡ result_of done_of m (reply o)
unfolding outcome_of result_of reply failed_of failure_of
outcome_is (Ok tt) m = refl
outcome_is (Err e) m = refl

flag_is : (f : (Result Bool Error)) (m : Meter) → flag_of f m ≡ result_of yes_of m (reply f)
unfolding flag_of result_of reply failed_of failure_of
flag_is (Ok b) m = refl
flag_is (Err e) m = refl

identified_is : (f : (Result Identity Error)) (m : Meter) → identified_of f m ≡ result_of identity_of m (reply f)
unfolding identified_of result_of reply failed_of failure_of
identified_is (Ok i) m = refl
identified_is (Err e) m = refl

measured_is : (r : Measured) (m : Meter) → measured_of r m ≡ result_of measures_of m (measures_in r)
unfolding measured_of result_of measures_in failed_of failure_of
measured_is (Ok v) m = refl
measured_is (Err (OfPower CaseCoefficient)) m = refl
measured_is (Err (OfPower CasePower)) m = refl
measured_is (Err (LightBus e)) m = refl

transfer_ends : (v : Counted (R ℕ)) → names_end (metered_of ended_of v) ≡ true
unfolding names_end names_access ended_of next_of
transfer_ends v = result_ends ended_of (λ v m. refl) v.meter v.result

transfer_tells : (t : TransferTold) (b : Block) → stands_transfer t → ShownBy ShownTransfer t b → b.next ≡ prompt (metered_of ended_of) (said_transfer t)
unfolding stands_transfer ShownTransfer said_transfer prompt prompt_in refused_block
transfer_tells (Ok (Ask x (Some (port, r, how, m, s)))) b stands (old, h) = h.shows
transfer_tells (Ok (Ask x None)) b stands (old, h) = absurd stands
transfer_tells (Ok (End (w, m))) b stands (old, h) = h.shows ∙ word_is w m
transfer_tells (Err q) b stands (old, h) = ap (λ (c : Block). c.next) h

transfer_goes : (t : TransferTold) (b c : Block) (a : Answer) → IfYes Asks (said_transfer t) → ShownBy ShownTransfer t b → StepPromise (Some a) b c → (u : TransferTold) × follows_transfer t a u × ShownBy ShownTransfer u c
unfolding IfYes Asks said_transfer follows_transfer ShownTransfer AnsweredBy SteppedAs SteppedTransfer Shows
transfer_goes (Ok (Ask x s)) b c a k (old, h) d =
    let g = of_call 0 b.state a c h.of d in
    (g.0, record { yields = g.1.yields ∙ ap (λ z. step_transfer z a) h.state; limits = g.1.limits }, (b.state, g.2))
transfer_goes (Ok (End (w, m))) b c a k h d = absurd k
transfer_goes (Err q) b c a k h d = absurd k

transfer_lasting : (old : State) (t : TransferTold) (b : Block) → stands_transfer t → ShownTransfer old t b → IfYes Asks (said_transfer t) → Lasting b
unfolding said_transfer IfYes Asks stands_transfer
transfer_lasting old (Ok (Ask x (Some (port, r, how, m, s)))) b stands h k =
    lasting (metered_of ended_of) said_transfer follows_transfer stands_transfer ShownTransfer transfer_steps_on transfer_ends transfer_tells transfer_goes old (Ok (Ask x (Some (port, r, how, m, s)))) b (suc (handshake_after port.family r how.lock s)) stands tt h (λ js. transfer_lasts x port r how m s js stands)
transfer_lasting old (Ok (Ask x None)) b stands h k = absurd stands
transfer_lasting old (Ok (End (w, m))) b stands h k = absurd k
transfer_lasting old (Err q) b stands h k = absurd k

pub transfer_seen : (sequence : ℕ) (o : Sequence → Asked (Prog (Counted (R ℕ)))) (over : State) (b : Block) (ks : List (Turn Block)) → OpenedBy (named sequence) (λ q. Shows (TellsTransfer (o q)) ShownTransfer over) over b → Driven itself StepPromise b ks
    → seen itself b ks ≡ named_seen (named sequence) (λ q. asked_seen (metered_of ended_of) (run_asked (o q) (answers_in ks)))
transfer_seen sequence = named_seen_lem (metered_of ended_of) said_transfer follows_transfer stands_transfer ShownTransfer transfer_steps_on transfer_ends transfer_tells transfer_goes (named sequence)

setup_ends : (v : R (Unit {0})) → names_end (unmetered_of done_of v) ≡ true
unfolding names_end names_access ended_of next_of
setup_ends v = result_ends done_of (λ v m. refl) blank v

setup_tells : (t : SetupTold) (b : Block) → stands_setup t → ShownBy ShownSetup t b → b.next ≡ prompt (unmetered_of done_of) (said_setup t)
unfolding stands_setup ShownSetup said_setup prompt prompt_in refused_block
setup_tells (Ok (Ask x (Some u))) b stands (old, h) = h.shows
setup_tells (Ok (Ask x None)) b stands (old, h) = absurd stands
setup_tells (Ok (End o)) b stands (old, h) = h.shows ∙ outcome_is o blank
setup_tells (Err q) b stands (old, h) = ap (λ (c : Block). c.next) h

setup_goes : (t : SetupTold) (b c : Block) (a : Answer) → IfYes Asks (said_setup t) → ShownBy ShownSetup t b → StepPromise (Some a) b c → (u : SetupTold) × follows_setup t a u × ShownBy ShownSetup u c
unfolding IfYes Asks said_setup follows_setup ShownSetup AnsweredBy SteppedAs SteppedSetup Shows
setup_goes (Ok (Ask x s)) b c a k (old, h) d =
    let g = of_call 1 b.state a c h.of d in
    (g.0, record { yields = g.1.yields ∙ ap (λ z. step_setup z a) h.state; limits = g.1.limits }, (b.state, g.2))
setup_goes (Ok (End o)) b c a k h d = absurd k
setup_goes (Err q) b c a k h d = absurd k

setup_lasting : (old : State) (t : SetupTold) (b : Block) → stands_setup t → ShownSetup old t b → IfYes Asks (said_setup t) → Lasting b
unfolding said_setup IfYes Asks stands_setup
setup_lasting old (Ok (Ask x (Some u))) b stands h k =
    lasting (unmetered_of done_of) said_setup follows_setup stands_setup ShownSetup setup_steps_on setup_ends setup_tells setup_goes old (Ok (Ask x (Some u))) b (suc (update_after u)) stands tt h (λ js. setup_lasts x u js stands)
setup_lasting old (Ok (Ask x None)) b stands h k = absurd stands
setup_lasting old (Ok (End o)) b stands h k = absurd k
setup_lasting old (Err q) b stands h k = absurd k

pub setup_seen : (o : Asked (Prog (R (Unit {0})))) (over : State) (b : Block) (ks : List (Turn Block)) → Shows (TellsSetup o) ShownSetup over b → Driven itself StepPromise b ks
    → seen itself b ks ≡ asked_seen (unmetered_of done_of) (run_asked o (answers_in ks))
setup_seen = call_seen (unmetered_of done_of) said_setup follows_setup stands_setup ShownSetup setup_steps_on setup_ends setup_tells setup_goes

identify_ends : (v : Counted (R Identity)) → names_end (metered_of identity_of v) ≡ true
unfolding names_end names_access identity_of
identify_ends v = result_ends identity_of (λ v m. refl) v.meter v.result

identify_tells : (t : IdentifyTold) (b : Block) → stands_identify t → ShownBy ShownIdentify t b → b.next ≡ prompt (metered_of identity_of) (said_identify t)
unfolding stands_identify ShownIdentify said_identify prompt prompt_in refused_block
identify_tells (Ok (Ask x (Some (port, q, m, s)))) b stands (old, h) = h.shows
identify_tells (Ok (Ask x None)) b stands (old, h) = absurd stands
identify_tells (Ok (End (f, m))) b stands (old, h) = h.shows ∙ identified_is f m
identify_tells (Err q) b stands (old, h) = ap (λ (c : Block). c.next) h

identify_goes : (t : IdentifyTold) (b c : Block) (a : Answer) → IfYes Asks (said_identify t) → ShownBy ShownIdentify t b → StepPromise (Some a) b c → (u : IdentifyTold) × follows_identify t a u × ShownBy ShownIdentify u c
unfolding IfYes Asks said_identify follows_identify ShownIdentify AnsweredBy SteppedAs SteppedIdentify Shows
identify_goes (Ok (Ask x s)) b c a k (old, h) d =
    let g = of_call 2 b.state a c h.of d in
    (g.0, record { yields = g.1.yields ∙ ap (λ z. step_identify z a) h.state; limits = g.1.limits }, (b.state, g.2))
identify_goes (Ok (End (f, m))) b c a k h d = absurd k
identify_goes (Err q) b c a k h d = absurd k

identify_lasting : (old : State) (t : IdentifyTold) (b : Block) → stands_identify t → ShownIdentify old t b → IfYes Asks (said_identify t) → Lasting b
unfolding said_identify IfYes Asks stands_identify
identify_lasting old (Ok (Ask x (Some (port, q, m, s)))) b stands h k =
    lasting (metered_of identity_of) said_identify follows_identify stands_identify ShownIdentify identify_steps_on identify_ends identify_tells identify_goes old (Ok (Ask x (Some (port, q, m, s)))) b (suc (identify_after port.family s)) stands tt h (λ js. identify_lasts x port q m s js stands)
identify_lasting old (Ok (Ask x None)) b stands h k = absurd stands
identify_lasting old (Ok (End (f, m))) b stands h k = absurd k
identify_lasting old (Err q) b stands h k = absurd k

pub identify_seen : (sequence : ℕ) (o : Sequence → Asked (Prog (Counted (R Identity)))) (over : State) (b : Block) (ks : List (Turn Block)) → OpenedBy (named sequence) (λ q. Shows (TellsIdentify (o q)) ShownIdentify over) over b → Driven itself StepPromise b ks
    → seen itself b ks ≡ named_seen (named sequence) (λ q. asked_seen (metered_of identity_of) (run_asked (o q) (answers_in ks)))
identify_seen sequence = named_seen_lem (metered_of identity_of) said_identify follows_identify stands_identify ShownIdentify identify_steps_on identify_ends identify_tells identify_goes (named sequence)

rate_ends : (v : Counted (R Bool)) → names_end (metered_of yes_of v) ≡ true
unfolding names_end names_access ended_of next_of
rate_ends v = result_ends yes_of (λ v m. refl) v.meter v.result

rate_tells : (t : RateTold) (b : Block) → stands_rate t → ShownBy ShownRate t b → b.next ≡ prompt (metered_of yes_of) (said_rate t)
unfolding stands_rate ShownRate said_rate prompt prompt_in refused_block
rate_tells (Ok (Ask x (Some (port, q, ten, m, s)))) b stands (old, h) = h.shows
rate_tells (Ok (Ask x None)) b stands (old, h) = absurd stands
rate_tells (Ok (End (f, m))) b stands (old, h) = h.shows ∙ flag_is f m
rate_tells (Err q) b stands (old, h) = ap (λ (c : Block). c.next) h

rate_goes : (t : RateTold) (b c : Block) (a : Answer) → IfYes Asks (said_rate t) → ShownBy ShownRate t b → StepPromise (Some a) b c → (u : RateTold) × follows_rate t a u × ShownBy ShownRate u c
unfolding IfYes Asks said_rate follows_rate ShownRate AnsweredBy SteppedAs SteppedRate Shows
rate_goes (Ok (Ask x s)) b c a k (old, h) d =
    let g = of_call 3 b.state a c h.of d in
    (g.0, record { yields = g.1.yields ∙ ap (λ z. step_rate z a) h.state; limits = g.1.limits }, (b.state, g.2))
rate_goes (Ok (End (f, m))) b c a k h d = absurd k
rate_goes (Err q) b c a k h d = absurd k

rate_lasting : (old : State) (t : RateTold) (b : Block) → stands_rate t → ShownRate old t b → IfYes Asks (said_rate t) → Lasting b
unfolding said_rate IfYes Asks stands_rate
rate_lasting old (Ok (Ask x (Some (port, q, ten, m, s)))) b stands h k =
    lasting (metered_of yes_of) said_rate follows_rate stands_rate ShownRate rate_steps_on rate_ends rate_tells rate_goes old (Ok (Ask x (Some (port, q, ten, m, s)))) b (suc (rate_after port.family ten s)) stands tt h (λ js. rate_lasts x port q ten m s js stands)
rate_lasting old (Ok (Ask x None)) b stands h k = absurd stands
rate_lasting old (Ok (End (f, m))) b stands h k = absurd k
rate_lasting old (Err q) b stands h k = absurd k

pub rate_seen : (sequence : ℕ) (o : Sequence → Asked (Prog (Counted (R Bool)))) (over : State) (b : Block) (ks : List (Turn Block)) → OpenedBy (named sequence) (λ q. Shows (TellsRate (o q)) ShownRate over) over b → Driven itself StepPromise b ks
    → seen itself b ks ≡ named_seen (named sequence) (λ q. asked_seen (metered_of yes_of) (run_asked (o q) (answers_in ks)))
rate_seen sequence = named_seen_lem (metered_of yes_of) said_rate follows_rate stands_rate ShownRate rate_steps_on rate_ends rate_tells rate_goes (named sequence)

light_ends : (v : Counted (R Measures)) → names_end (metered_of measures_of v) ≡ true
unfolding names_end names_access measures_of
light_ends v = result_ends measures_of (λ v m. refl) v.meter v.result

light_tells : (t : LightTold) (b : Block) → stands_light t → ShownBy ShownLight t b → b.next ≡ prompt (metered_of measures_of) (said_light t)
unfolding stands_light ShownLight said_light prompt prompt_in refused_block
light_tells (Ok (Ask x (Some (port, q, tries, m, s)))) b stands (old, h) = h.shows
light_tells (Ok (Ask x None)) b stands (old, h) = absurd stands
light_tells (Ok (End (r, m))) b stands (old, h) = h.shows ∙ measured_is r m
light_tells (Err q) b stands (old, h) = ap (λ (c : Block). c.next) h

light_goes : (t : LightTold) (b c : Block) (a : Answer) → IfYes Asks (said_light t) → ShownBy ShownLight t b → StepPromise (Some a) b c → (u : LightTold) × follows_light t a u × ShownBy ShownLight u c
unfolding IfYes Asks said_light follows_light ShownLight AnsweredBy SteppedAs SteppedLight Shows
light_goes (Ok (Ask x s)) b c a k (old, h) d =
    let g = of_call 4 b.state a c h.of d in
    (g.0, record { yields = g.1.yields ∙ ap (λ z. step_light z a) h.state; limits = g.1.limits }, (b.state, g.2))
light_goes (Ok (End (r, m))) b c a k h d = absurd k
light_goes (Err q) b c a k h d = absurd k

light_lasting : (old : State) (t : LightTold) (b : Block) → stands_light t → ShownLight old t b → IfYes Asks (said_light t) → Lasting b
unfolding said_light IfYes Asks stands_light
light_lasting old (Ok (Ask x (Some (port, q, tries, m, s)))) b stands h k =
    lasting (metered_of measures_of) said_light follows_light stands_light ShownLight light_steps_on light_ends light_tells light_goes old (Ok (Ask x (Some (port, q, tries, m, s)))) b (suc (light_after port.family tries s)) stands tt h (λ js. light_lasts x port q tries m s js stands)
light_lasting old (Ok (Ask x None)) b stands h k = absurd stands
light_lasting old (Ok (End (r, m))) b stands h k = absurd k
light_lasting old (Err q) b stands h k = absurd k

pub light_seen : (sequence : ℕ) (o : Sequence → Asked (Prog (Counted (R Measures)))) (over : State) (b : Block) (ks : List (Turn Block)) → OpenedBy (named sequence) (λ q. Shows (TellsLight (o q)) ShownLight over) over b → Driven itself StepPromise b ks
    → seen itself b ks ≡ named_seen (named sequence) (λ q. asked_seen (metered_of measures_of) (run_asked (o q) (answers_in ks)))
light_seen sequence = named_seen_lem (metered_of measures_of) said_light follows_light stands_light ShownLight light_steps_on light_ends light_tells light_goes (named sequence)

acquire_ends : (v : R (Unit {0})) → names_end (unmetered_of done_of v) ≡ true
unfolding names_end names_access ended_of next_of
acquire_ends v = result_ends done_of (λ v m. refl) blank v

acquire_tells : (t : AcquireTold) (b : Block) → stands_acquire t → ShownBy ShownAcquire t b → b.next ≡ prompt (unmetered_of done_of) (said_acquire t)
unfolding stands_acquire ShownAcquire said_acquire prompt prompt_in refused_block
acquire_tells (Ok (Ask x (Some (port, hw, t)))) b stands (old, h) = h.shows
acquire_tells (Ok (Ask x None)) b stands (old, h) = absurd stands
acquire_tells (Ok (End o)) b stands (old, h) = h.shows ∙ outcome_is o blank
acquire_tells (Err q) b stands (old, h) = ap (λ (c : Block). c.next) h

acquire_goes : (t : AcquireTold) (b c : Block) (a : Answer) → IfYes Asks (said_acquire t) → ShownBy ShownAcquire t b → StepPromise (Some a) b c → (u : AcquireTold) × follows_acquire t a u × ShownBy ShownAcquire u c
unfolding IfYes Asks said_acquire follows_acquire ShownAcquire AnsweredBy SteppedAs SteppedAcquire Shows
acquire_goes (Ok (Ask x s)) b c a k (old, h) d =
    let g = of_call 5 b.state a c h.of d in
    (g.0, record { yields = g.1.yields ∙ ap (λ z. step_acquire z a) h.state; limits = g.1.limits }, (b.state, g.2))
acquire_goes (Ok (End o)) b c a k h d = absurd k
acquire_goes (Err q) b c a k h d = absurd k

acquire_lasting : (old : State) (t : AcquireTold) (b : Block) → stands_acquire t → ShownAcquire old t b → IfYes Asks (said_acquire t) → Lasting b
unfolding said_acquire IfYes Asks stands_acquire
acquire_lasting old (Ok (Ask x (Some (port, hw, t)))) b stands h k =
    lasting (unmetered_of done_of) said_acquire follows_acquire stands_acquire ShownAcquire acquire_steps_on acquire_ends acquire_tells acquire_goes old (Ok (Ask x (Some (port, hw, t)))) b (suc (acquire_after port.family t)) stands tt h (λ js. acquire_lasts x port hw t js stands)
acquire_lasting old (Ok (Ask x None)) b stands h k = absurd stands
acquire_lasting old (Ok (End o)) b stands h k = absurd k
acquire_lasting old (Err q) b stands h k = absurd k

pub acquire_seen : (o : Asked (Prog (R (Unit {0})))) (over : State) (b : Block) (ks : List (Turn Block)) → Shows (TellsAcquire o) ShownAcquire over b → Driven itself StepPromise b ks
    → seen itself b ks ≡ asked_seen (unmetered_of done_of) (run_asked o (answers_in ks))
acquire_seen = call_seen (unmetered_of done_of) said_acquire follows_acquire stands_acquire ShownAcquire acquire_steps_on acquire_ends acquire_tells acquire_goes

release_ends : (v : R (Unit {0})) → names_end (unmetered_of done_of v) ≡ true
unfolding names_end names_access ended_of next_of
release_ends v = result_ends done_of (λ v m. refl) blank v

release_tells : (t : ReleaseTold) (b : Block) → stands_release t → ShownBy ShownRelease t b → b.next ≡ prompt (unmetered_of done_of) (said_release t)
unfolding stands_release ShownRelease said_release prompt prompt_in refused_block
release_tells (Ok (Ask x (Some (port, hw, t)))) b stands (old, h) = h.shows
release_tells (Ok (Ask x None)) b stands (old, h) = absurd stands
release_tells (Ok (End o)) b stands (old, h) = h.shows ∙ outcome_is o blank
release_tells (Err q) b stands (old, h) = ap (λ (c : Block). c.next) h

release_goes : (t : ReleaseTold) (b c : Block) (a : Answer) → IfYes Asks (said_release t) → ShownBy ShownRelease t b → StepPromise (Some a) b c → (u : ReleaseTold) × follows_release t a u × ShownBy ShownRelease u c
unfolding IfYes Asks said_release follows_release ShownRelease AnsweredBy SteppedAs SteppedRelease Shows
release_goes (Ok (Ask x s)) b c a k (old, h) d =
    let g = of_call 6 b.state a c h.of d in
    (g.0, record { yields = g.1.yields ∙ ap (λ z. step_release z a) h.state; limits = g.1.limits }, (b.state, g.2))
release_goes (Ok (End o)) b c a k h d = absurd k
release_goes (Err q) b c a k h d = absurd k

release_lasting : (old : State) (t : ReleaseTold) (b : Block) → stands_release t → ShownRelease old t b → IfYes Asks (said_release t) → Lasting b
unfolding said_release IfYes Asks stands_release
release_lasting old (Ok (Ask x (Some (port, hw, t)))) b stands h k =
    lasting (unmetered_of done_of) said_release follows_release stands_release ShownRelease release_steps_on release_ends release_tells release_goes old (Ok (Ask x (Some (port, hw, t)))) b (suc (release_after t)) stands tt h (λ js. release_lasts x port hw t js stands)
release_lasting old (Ok (Ask x None)) b stands h k = absurd stands
release_lasting old (Ok (End o)) b stands h k = absurd k
release_lasting old (Err q) b stands h k = absurd k

pub release_seen : (o : Asked (Prog (R (Unit {0})))) (over : State) (b : Block) (ks : List (Turn Block)) → Shows (TellsRelease o) ShownRelease over b → Driven itself StepPromise b ks
    → seen itself b ks ≡ asked_seen (unmetered_of done_of) (run_asked o (answers_in ks))
release_seen = call_seen (unmetered_of done_of) said_release follows_release stands_release ShownRelease release_steps_on release_ends release_tells release_goes

token_ends : (v : R Bool) → names_end (unmetered_of yes_of v) ≡ true
unfolding names_end names_access ended_of next_of
token_ends v = result_ends yes_of (λ v m. refl) blank v

token_tells : (t : TokenTold) (b : Block) → stands_token t → ShownBy ShownToken t b → b.next ≡ prompt (unmetered_of yes_of) (said_token t)
unfolding stands_token ShownToken said_token prompt prompt_in refused_block
token_tells (Ok (Ask x (Some (port, take, t)))) b stands (old, h) = h.shows
token_tells (Ok (Ask x None)) b stands (old, h) = absurd stands
token_tells (Ok (End f)) b stands (old, h) = h.shows ∙ flag_is f blank
token_tells (Err q) b stands (old, h) = ap (λ (c : Block). c.next) h

token_goes : (t : TokenTold) (b c : Block) (a : Answer) → IfYes Asks (said_token t) → ShownBy ShownToken t b → StepPromise (Some a) b c → (u : TokenTold) × follows_token t a u × ShownBy ShownToken u c
unfolding IfYes Asks said_token follows_token ShownToken AnsweredBy SteppedAs SteppedToken Shows
token_goes (Ok (Ask x s)) b c a k (old, h) d =
    let g = of_call 7 b.state a c h.of d in
    (g.0, record { yields = g.1.yields ∙ ap (λ z. step_token z a) h.state; limits = g.1.limits }, (b.state, g.2))
token_goes (Ok (End f)) b c a k h d = absurd k
token_goes (Err q) b c a k h d = absurd k

token_lasting : (old : State) (t : TokenTold) (b : Block) → stands_token t → ShownToken old t b → IfYes Asks (said_token t) → Lasting b
unfolding said_token IfYes Asks stands_token
token_lasting old (Ok (Ask x (Some (port, take, t)))) b stands h k =
    lasting (unmetered_of yes_of) said_token follows_token stands_token ShownToken token_steps_on token_ends token_tells token_goes old (Ok (Ask x (Some (port, take, t)))) b (suc (token_after t)) stands tt h (λ js. token_lasts x port take t js stands)
token_lasting old (Ok (Ask x None)) b stands h k = absurd stands
token_lasting old (Ok (End f)) b stands h k = absurd k
token_lasting old (Err q) b stands h k = absurd k

pub token_seen_lem : (o : Asked (Prog (R Bool))) (over : State) (b : Block) (ks : List (Turn Block)) → Shows (TellsToken o) ShownToken over b → Driven itself StepPromise b ks
    → seen itself b ks ≡ asked_seen (unmetered_of yes_of) (run_asked o (answers_in ks))
token_seen_lem = call_seen (unmetered_of yes_of) said_token follows_token stands_token ShownToken token_steps_on token_ends token_tells token_goes

either : {A B C : Type 0} (b : Bool) → (A → C) → (B → C) → choose b A B → C
either true f g x = f x
either false f g x = g x

-- from any state: a step of it that names an access leads to the call's end
pub step_lasting : (s : State) (a : Answer) (b : Block) → Stepped s a b → T (names_access b.next) → Lasting b
unfolding Stepped SteppedAs refused_block refused_of next_of names_access SteppedTransfer SteppedSetup SteppedIdentify SteppedRate SteppedLight SteppedAcquire SteppedRelease SteppedToken
step_lasting s a b h e =
    either (eqb s.call 0) (λ g. call_lasting (metered_of ended_of) said_transfer follows_transfer stands_transfer ShownTransfer transfer_steps_on transfer_ends transfer_tells transfer_goes transfer_lasting _ s b g e)
    (either (eqb s.call 1) (λ g. call_lasting (unmetered_of done_of) said_setup follows_setup stands_setup ShownSetup setup_steps_on setup_ends setup_tells setup_goes setup_lasting _ s b g e)
    (either (eqb s.call 2) (λ g. call_lasting (metered_of identity_of) said_identify follows_identify stands_identify ShownIdentify identify_steps_on identify_ends identify_tells identify_goes identify_lasting _ s b g e)
    (either (eqb s.call 3) (λ g. call_lasting (metered_of yes_of) said_rate follows_rate stands_rate ShownRate rate_steps_on rate_ends rate_tells rate_goes rate_lasting _ s b g e)
    (either (eqb s.call 4) (λ g. call_lasting (metered_of measures_of) said_light follows_light stands_light ShownLight light_steps_on light_ends light_tells light_goes light_lasting _ s b g e)
    (either (eqb s.call 5) (λ g. call_lasting (unmetered_of done_of) said_acquire follows_acquire stands_acquire ShownAcquire acquire_steps_on acquire_ends acquire_tells acquire_goes acquire_lasting _ s b g e)
    (either (eqb s.call 6) (λ g. call_lasting (unmetered_of done_of) said_release follows_release stands_release ShownRelease release_steps_on release_ends release_tells release_goes release_lasting _ s b g e)
    (either (eqb s.call 7) (λ g. call_lasting (unmetered_of yes_of) said_token follows_token stands_token ShownToken token_steps_on token_ends token_tells token_goes token_lasting _ s b g e)
    (λ g. absurd (subst (λ (c : Block). T (names_access c.next)) g e))))))))) h

same_end : {A : Type 0} {v w : A} → ◌≡◌ {A = Status A} (ended v) (ended w) → v ≡ w
same_end e = cc

no_end : {A B : Type 0} {x : Access} {v : A} → ◌≡◌ {A = Status A} (waiting x) (ended v) → B
no_end e = let z : ◌≡◌ {A = ℕ} 0 1 = cc in absurd (omega arith)

never_ends : {A B : Type 0} (q : Asked (Prog A)) (l : List Answer) (v : A) → Refuses q → Ended q l v → B
unfolding Refuses Ended
never_ends (no n) l v r e = absurd e
never_ends (yes p) l v r e = absurd r

lent_here : (A B : Type 0) (n m : ℕ) → n ≡ m → choose (eqb n m) A B → choose (eqb m m) A B
lent_here A B n m e d = subst (λ (k : ℕ). choose (eqb k m) A B) e d

-- a command: a block shows what was told with the words as they are then
abbrev CommandShown : CommandAt → Held → Type 0
CommandShown t h = (t.block ≡ h.lent) × ShownBy ShownCommand t.told h.block

byte_is : (v : (Result ℕ Error)) → byte_of v ≡ result_of ended_of blank (reply v)
unfolding byte_of result_of reply failed_of failure_of
byte_is (Ok v) = refl
byte_is (Err e) = refl

command_ends : (v : Left) → names_end (left_of v) ≡ true
unfolding names_end names_access ended_of next_of
command_ends v = result_ends ended_of (λ n m. refl) blank v.status

command_tells : (t : CommandTold) (words : List ℕ) (b : Block) → stands_command t words → ShownBy ShownCommand t b → b.next ≡ prompt left_of (asked (said_command t words))
unfolding stands_command ShownCommand said_command asked prompt prompt_in refused_block
command_tells (Ok (Ask x (Some (port, s)))) words b stands (old, h) = h.shows
command_tells (Ok (Ask x None)) words b stands (old, h) = absurd stands
command_tells (Ok (End v)) words b stands (old, h) = h.shows ∙ byte_is v
command_tells (Err q) words b stands (old, h) = ap (λ (c : Block). c.next) h

command_goes : (t : CommandTold) (words : List ℕ) (h k : Held) (a : Answer) → IfYes Asks (asked (said_command t words)) → words ≡ h.lent → ShownBy ShownCommand t h.block → CommandPromise (Some a) h k
    → (u : CommandAt) × follows_block t words a u.told u.block × CommandShown u k
unfolding IfYes Asks said_command asked follows_block ShownCommand LentBy CommandStepped Shows
command_goes (Ok (Ask x s)) words h k a q e (old, v) d =
    let g = lent_here _ _ h.block.state.call 8 v.of d.0 in (
      record { told = g.0; block = k.lent },
      (record { yields = g.1.yields ∙ ap (λ z. step_command z h.lent a) v.state ∙ ap (λ l. step_command s l a) (sym e); limits = g.1.limits }, d.1 ∙ ap length (sym e)),
      (refl, (h.block.state, g.2)),
    )
command_goes (Ok (End v)) words h k a q e w d = absurd q
command_goes (Err r) words h k a q e w d = absurd q

unfit : {A : Type 0} (words : List ℕ) (o : Asked Port) (e : Bool) (p : Port → Prog A) → e ≡ false → Refuses (asked (lent words (and_then o (λ port. question e 8 (yes (p port))))))
unfolding lent asked and_then question Refuses
unfit words (no n) e p h = tt
unfit words (yes port) e p h = rw h tt

command_leaves_so : (t : CommandTold) (words : List ℕ) (v : Left) → Ended (asked (said_command t words)) [] v → words ≡ v.block
unfolding said_command asked Ended run on_answer
command_leaves_so (Ok (Ask x (Some (port, s)))) words v e = no_end e
command_leaves_so (Ok (Ask x None)) words v e = absurd e
command_leaves_so (Ok (End b)) words v e = ap (λ (l : Left). l.block) (same_end e)
command_leaves_so (Err q) words v e = absurd e

command_tells_at : (t : CommandAt) (h : Held) → stands_command_at t → CommandShown t h → h.block.next ≡ prompt left_of (said_command_at t)
command_tells_at t h s v = command_tells t.told t.block h.block s.0 v.1

command_goes_at : (t : CommandAt) (h k : Held) (a : Answer) → IfYes Asks (said_command_at t) → CommandShown t h → CommandPromise (Some a) h k → (u : CommandAt) × follows_command t a u × CommandShown u k
command_goes_at t h k a q v d = command_goes t.told t.block h k a q v.0 v.1 d

module _ (family device lan : ℕ) (words : List ℕ) (over : State) (b : Block) (ks : List (Turn Held)) (opened : Shows (TellsCommandOpen family device lan words) ShownCommand over b) (d : Driven block_of_held CommandPromise (record { block = b; lent = words }) ks) where
  refuses_words : block_fits words ≡ false → Refuses (asked (open_command family device lan words))
  unfolding open_command
  refuses_words e = unfit words (open_port family device lan) (block_fits words) (λ port. erase (command port words)) e

  pub command_seen : seen block_of_held (record { block = b; lent = words }) ks ≡ asked_seen left_of (run_asked (asked (open_command family device lan words)) (answers_in ks))
  unfolding Shows
  command_seen = by opened.0 opened.1 opened.2 (block_fits words) refl
    where
      by : (t : CommandTold) → TellsCommandOpen family device lan words t → ShownCommand over t b → (f : Bool) → block_fits words ≡ f → seen block_of_held (record { block = b; lent = words }) ks ≡ asked_seen left_of (run_asked (asked (open_command family device lan words)) (answers_in ks))
      by t k h true e =
          told_seen left_of block_of_held CommandPromise said_command_at follows_command stands_command_at CommandShown command_steps_on command_ends command_tells_at command_goes_at (record { told = t; block = words }) (record { block = b; lent = words }) ks (k.limits, e) (refl, (over, h)) d
          ∙ ap (λ q. asked_seen left_of (run_asked (asked q) (answers_in ks))) k.yields
      by t k h false e =
          not_stepped left_of block_of_held CommandPromise (asked (open_command family device lan words)) (record { block = b; lent = words }) ks (refuses_words e)
          (command_tells t words b k.limits (over, h) ∙ ap (λ q. prompt left_of (asked q)) k.yields) d

  -- where it ends, the lent words are those of the result
  pub command_leaves : (v : Left) → Ended (asked (open_command family device lan words)) (answers_in ks) v → (last_held (record { block = b; lent = words }) ks).lent ≡ v.block
  unfolding Shows
  command_leaves v n = by opened.0 opened.1 opened.2 (block_fits words) refl
    where
      by : (t : CommandTold) → TellsCommandOpen family device lan words t → ShownCommand over t b → (f : Bool) → block_fits words ≡ f → (last_held (record { block = b; lent = words }) ks).lent ≡ v.block
      by t k h true e =
          let u = told_ends left_of block_of_held CommandPromise said_command_at follows_command stands_command_at CommandShown command_steps_on command_ends command_tells_at command_goes_at (record { told = t; block = words }) (record { block = b; lent = words }) ks (k.limits, e) (refl, (over, h)) d v (subst (λ q. Ended (asked q) (answers_in ks) v) (sym k.yields) n) in
          sym u.2.0 ∙ command_leaves_so u.0.told u.0.block v u.1
      by t k h false e = never_ends _ (answers_in ks) v (refuses_words e) n

-- a page: a block shows what was told with the buffer as it is then
abbrev PageShown : PageAt → Held → Type 0
PageShown t h = (t.buffer ≡ h.lent) × ShownBy ShownPage t.told h.block

paged_is : (p : Paged) (m : Meter) → paged_of p m ≡ result_of done_of m (result_in p)
unfolding paged_of result_of result_in failed_of failure_of
paged_is (Ok tt) m = refl
paged_is (Err FirstSum) m = refl
paged_is (Err SecondSum) m = refl
paged_is (Err (Bus e)) m = refl

page_ends : (v : Counted Filled) → names_end (filled_of v) ≡ true
unfolding names_end names_access ended_of next_of
page_ends v = result_ends done_of (λ n m. refl) v.meter v.result.result

page_tells : (t : PageTold) (bytes : List ℕ) (b : Block) → stands_page t → ShownBy ShownPage t b → b.next ≡ prompt filled_of (asked (said_page t bytes))
unfolding stands_page ShownPage said_page asked prompt prompt_in refused_block
page_tells (Ok (Ask x (Some (port, q, form, tries, m, s)))) bytes b stands (old, h) = h.shows
page_tells (Ok (Ask x None)) bytes b stands (old, h) = absurd stands
page_tells (Ok (End (p, m))) bytes b stands (old, h) = h.shows ∙ paged_is p m
page_tells (Err q) bytes b stands (old, h) = ap (λ (c : Block). c.next) h

-- what a step promises of what it told, u, and of the bytes after it
abbrev PageKept : PageTold → List ℕ → Answer → PageCall → List ℕ → Type 0
PageKept u after a s before = Fills (said_page u after ≡ step_page s before a) (stands_page u) (after ≡ buffer_after s before a) (FilledAs u after (λ l. filled_call s before (a ∷ l)))

page_goes : (t : PageTold) (bytes : List ℕ) (h k : Held) (a : Answer) → IfYes Asks (asked (said_page t bytes)) → bytes ≡ h.lent → ShownBy ShownPage t h.block → PagePromise (Some a) h k
    → (u : PageAt) × follows_buffer t bytes a u.told u.buffer × PageShown u k
unfolding IfYes Asks said_page asked follows_buffer ShownPage LentBy PageStepped Shows
page_goes (Ok (Ask x s)) bytes h k a q e (old, v) d =
    let g = lent_here _ _ h.block.state.call 10 v.of d in (
      record { told = g.0; buffer = k.lent },
      subst (λ (l : List ℕ). PageKept g.0 k.lent a s l) (sym e) (subst (λ (z : PageCall). PageKept g.0 k.lent a z h.lent) v.state g.1),
      (refl, (h.block.state, g.2)),
    )
page_goes (Ok (End (p, m))) bytes h k a q e w d = absurd q
page_goes (Err r) bytes h k a q e w d = absurd q

page_tells_at : (t : PageAt) (h : Held) → stands_page_at t → PageShown t h → h.block.next ≡ prompt filled_of (said_page_at t)
page_tells_at t h s v = page_tells t.told t.buffer h.block s.0 v.1

page_goes_at : (t : PageAt) (h k : Held) (a : Answer) → IfYes Asks (said_page_at t) → PageShown t h → PagePromise (Some a) h k → (u : PageAt) × follows_page t a u × PageShown u k
page_goes_at t h k a q v d = page_goes t.told t.buffer h k a q v.0 v.1 d

too_short : {A : Type 0} (bytes : List ℕ) (o : Asked Port) (e f : Bool) (p : Port → Prog A) → f ≡ false → Refuses (asked (lent bytes (and_then o (λ port. question e 4 (question f 9 (yes (p port)))))))
unfolding lent asked and_then question Refuses
too_short bytes (no n) e f p h = tt
too_short bytes (yes port) true f p h = rw h tt
too_short bytes (yes port) false f p h = tt

page_leaves_so : (t : PageTold) (bytes : List ℕ) (v : Counted Filled) → Ended (asked (said_page t bytes)) [] v → bytes ≡ v.result.buffer
unfolding said_page asked Ended run on_answer
page_leaves_so (Ok (Ask x (Some (port, q, form, tries, m, s)))) bytes v e = no_end e
page_leaves_so (Ok (Ask x None)) bytes v e = absurd e
page_leaves_so (Ok (End (p, m))) bytes v e = ap (λ (c : Counted Filled). c.result.buffer) (same_end e)
page_leaves_so (Err q) bytes v e = absurd e

-- by the form of the page; what the opening says then
module _ (form : Form) (family device lan attempts : ℕ) (bytes : List ℕ) where
  abbrev opens : Sequence → Lent (Counted Filled)
  opens q = lent bytes (and_then (open_port family device lan) (open_form q form attempts bytes))

  refuses_bytes : (q : Sequence) → buffer_fits bytes ≡ false → Refuses (asked (opens q))
  unfolding open_form
  refuses_bytes q e = too_short bytes (open_port family device lan) _ (buffer_fits bytes) _ e

  module _ (over : State) (b : Block) (ks : List (Turn Held)) (d : Driven block_of_held PagePromise (record { block = b; lent = bytes }) ks) where
    form_seen : (g : (Option Sequence)) → OpenedBy g (λ q. Shows (TellsPageOpen (opens q) q family device lan form attempts bytes) ShownPage over) over b
        → seen block_of_held (record { block = b; lent = bytes }) ks ≡ named_seen g (λ q. asked_seen filled_of (run_asked (asked (opens q)) (answers_in ks)))
    unfolding OpenedBy named_seen Shows refused_block prompt asked_seen run_asked Refuses
    form_seen (Some q) (t, k, h) = by (buffer_fits bytes) refl
      where
        by : (f : Bool) → buffer_fits bytes ≡ f → seen block_of_held (record { block = b; lent = bytes }) ks ≡ asked_seen filled_of (run_asked (asked (opens q)) (answers_in ks))
        by true e =
            told_seen filled_of block_of_held PagePromise said_page_at follows_page stands_page_at PageShown page_steps_on page_ends page_tells_at page_goes_at (record { told = t; buffer = bytes }) (record { block = b; lent = bytes }) ks (k.limits, e) (refl, (over, h)) d
            ∙ ap (λ q. asked_seen filled_of (run_asked (asked q) (answers_in ks))) k.yields
        by false e =
            not_stepped filled_of block_of_held PagePromise (asked (opens q)) (record { block = b; lent = bytes }) ks (refuses_bytes q e)
            (page_tells t bytes b k.limits (over, h) ∙ ap (λ q. prompt filled_of (asked q)) k.yields) d
    form_seen None h =
        not_stepped filled_of block_of_held PagePromise (no 13) (record { block = b; lent = bytes }) ks tt (ap (λ (c : Block). c.next) h) d

    form_leaves : (q : Sequence) → Shows (TellsPageOpen (opens q) q family device lan form attempts bytes) ShownPage over b → (v : Counted Filled) → Ended (asked (opens q)) (answers_in ks) v
        → (last_held (record { block = b; lent = bytes }) ks).lent ≡ v.result.buffer
    unfolding Shows
    form_leaves q (t, k, h) v n = by (buffer_fits bytes) refl
      where
        by : (f : Bool) → buffer_fits bytes ≡ f → (last_held (record { block = b; lent = bytes }) ks).lent ≡ v.result.buffer
        by true e =
            let u = told_ends filled_of block_of_held PagePromise said_page_at follows_page stands_page_at PageShown page_steps_on page_ends page_tells_at page_goes_at (record { told = t; buffer = bytes }) (record { block = b; lent = bytes }) ks (k.limits, e) (refl, (over, h)) d v (subst (λ q. Ended (asked q) (answers_in ks) v) (sym k.yields) n) in
            sym u.2.0 ∙ page_leaves_so u.0.told u.0.buffer v u.1
        by false e = never_ends _ (answers_in ks) v (refuses_bytes q e) n

-- so of each of the two openings
module _ (sequence family device lan attempts : ℕ) (bytes : List ℕ) (over : State) (b : Block) (ks : List (Turn Held)) (d : Driven block_of_held PagePromise (record { block = b; lent = bytes }) ks) where
  pub page_seen : OpenedBy (named sequence) (λ q. Shows (TellsPageOpen (open_page q family device lan attempts bytes) q family device lan Sff8472 attempts bytes) ShownPage over) over b
      → seen block_of_held (record { block = b; lent = bytes }) ks ≡ named_seen (named sequence) (λ q. asked_seen filled_of (run_asked (asked (open_page q family device lan attempts bytes)) (answers_in ks)))
  unfolding open_page
  page_seen h = form_seen Sff8472 family device lan attempts bytes over b ks d (named sequence) h

  pub qsfp_page_seen : OpenedBy (named sequence) (λ q. Shows (TellsPageOpen (open_qsfp_page q family device lan attempts bytes) q family device lan Sff8636 attempts bytes) ShownPage over) over b
      → seen block_of_held (record { block = b; lent = bytes }) ks ≡ named_seen (named sequence) (λ q. asked_seen filled_of (run_asked (asked (open_qsfp_page q family device lan attempts bytes)) (answers_in ks)))
  unfolding open_qsfp_page
  qsfp_page_seen h = form_seen Sff8636 family device lan attempts bytes over b ks d (named sequence) h

  -- where it ends, the buffer is that of the result
  pub page_leaves : (q : Sequence) → Shows (TellsPageOpen (open_page q family device lan attempts bytes) q family device lan Sff8472 attempts bytes) ShownPage over b → (v : Counted Filled) → Ended (asked (open_page q family device lan attempts bytes)) (answers_in ks) v
      → (last_held (record { block = b; lent = bytes }) ks).lent ≡ v.result.buffer
  unfolding open_page
  page_leaves q h v e = form_leaves Sff8472 family device lan attempts bytes over b ks d q h v e

  pub qsfp_page_leaves : (q : Sequence) → Shows (TellsPageOpen (open_qsfp_page q family device lan attempts bytes) q family device lan Sff8636 attempts bytes) ShownPage over b → (v : Counted Filled) → Ended (asked (open_qsfp_page q family device lan attempts bytes)) (answers_in ks) v
      → (last_held (record { block = b; lent = bytes }) ks).lent ≡ v.result.buffer
  unfolding open_qsfp_page
  qsfp_page_leaves q h v e = form_leaves Sff8636 family device lan attempts bytes over b ks d q h v e

-- the bytes that a program gives before its first access
unfoldable given_in : {A : Type 0} → Prog A → List ℕ → List ℕ
given_in (ret v) l = l
given_in (ask x f) l = l
given_in (note n p) l = given_in p l
given_in (give b p) l = b ∷ given_in p l

unfoldable given_at : {A : Type 0} → Asked (Prog A) → List ℕ → List ℕ
given_at (no n) l = l
given_at (yes p) l = given_in p l

in_given_last : {A : Type 0} (p : Prog A) → given_in p [] ≡ (run p []).bytes
unfolding given_in run on_answer
in_given_last (ret v) = refl
in_given_last (ask x f) = refl
in_given_last (note n p) = in_given_last p
in_given_last (give b p) = ap (λ l. b ∷ l) (in_given_last p)

given_last : {A : Type 0} (q : Asked (Prog A)) → given_at q [] ≡ bytes_of (run_asked q [])
unfolding given_at bytes_of run_asked
given_last (no n) = refl
given_last (yes p) = in_given_last p

in_given_first : {A : Type 0} (p : Prog A) (a : Answer) (l : List Answer) → Asks p → given_in p (run (left_after p a) l).bytes ≡ (run p (a ∷ l)).bytes
unfolding Asks given_in run on_answer left_after
in_given_first (ret v) a l k = absurd k
in_given_first (ask x f) a l k = refl
in_given_first (note n p) a l k = in_given_first p a l k
in_given_first (give b p) a l k = ap (λ m. b ∷ m) (in_given_first p a l k)

given_first : {A : Type 0} (q : Asked (Prog A)) (a : Answer) (l : List Answer) → IfYes Asks q → given_at q (bytes_of (run_asked (left_asked_after q a) l)) ≡ bytes_of (run_asked q (a ∷ l))
unfolding IfYes given_at bytes_of run_asked left_asked_after
given_first (no n) a l k = absurd k
given_first (yes p) a l k = in_given_first p a l k

handed_none : (x : Access) (l : List ℕ) → and_handed (asked_of x 0) l ≡ l
unfolding and_handed asked_of next_of names_access
handed_none (Read r) l = refl
handed_none (Write r v) l = refl
handed_none (Wait t) l = refl

handed_by : (v : ℕ) (l : List ℕ) → pick (leb 256 (256 + v)) ((256 + v - 256) ∷ l) l ≡ v ∷ l
handed_by v l = rw (le-leb 256 (256 + v) (omega arith)) (ap (λ n. n ∷ l) (omega arith))

handed_one : (x : Access) (v : ℕ) (l : List ℕ) → and_handed (asked_of x (256 + v)) l ≡ v ∷ l
unfolding and_handed asked_of next_of names_access
handed_one (Read r) v l = handed_by v l
handed_one (Write r w) v l = handed_by v l
handed_one (Wait t) v l = handed_by v l

handed_ended : (o : (Result (Unit {0}) Error)) (m : Meter) (l : List ℕ) → and_handed (outcome_of o m) l ≡ l
unfolding and_handed outcome_of ended_of failed_of next_of names_access
handed_ended (Ok tt) m l = refl
handed_ended (Err e) m l = refl

-- a script, the same at each step: the accesses and the end
bare_asked : (x : Access) (handed : ℕ) → bare (asked_of x handed) ≡ asked_of x 0
unfolding bare asked_of next_of names_access
bare_asked (Read r) handed = refl
bare_asked (Write r v) handed = refl
bare_asked (Wait t) handed = refl

bare_outcome : (o : (Result (Unit {0}) Error)) (m : Meter) → bare (outcome_of o m) ≡ outcome_of o m
unfolding bare outcome_of ended_of failed_of next_of names_access
bare_outcome (Ok tt) m = refl
bare_outcome (Err e) m = refl

bare_refused : (n : ℕ) → bare (refused_of n) ≡ refused_of n
unfolding bare refused_of next_of names_access
bare_refused n = refl

script_ends : (v : Counted (R (Unit {0}))) → names_end (metered_of done_of v) ≡ true
unfolding names_end names_access ended_of next_of
script_ends v = result_ends done_of (λ n m. refl) v.meter v.result

-- what a step promises of what it told, u
abbrev ScriptKept : List ℕ → ScriptTold → Answer → ScriptCall → Type 0
ScriptKept script u a c = Bounds (said_script u script ≡ step_script c script a) (stands_script u script) (script_left u ≤ call_left c - 1)

module _ (script : List ℕ) where
  script_tells : (t : ScriptTold) (b : Block) → stands_script t script → ShownBy ShownScript t b → bare b.next ≡ prompt (metered_of done_of) (said_script t script)
  unfolding stands_script ShownScript said_script prompt prompt_in refused_block
  script_tells (Ok (SaidAsk x (Some (port, m, s)))) b stands (old, h) = ap bare h.shows ∙ bare_asked x 0
  script_tells (Ok (SaidAsk x None)) b stands (old, h) = absurd stands
  script_tells (Ok (SaidRead v x (Some (port, m, s)))) b stands (old, h) = ap bare h.shows ∙ bare_asked x _
  script_tells (Ok (SaidRead v x None)) b stands (old, h) = absurd stands
  script_tells (Ok (SaidEnd o m)) b stands (old, h) = ap bare h.shows ∙ bare_outcome o m ∙ outcome_is o m
  script_tells (Err q) b stands (old, h) = ap (λ (c : Block). bare c.next) h ∙ bare_refused _

  script_goes : (t : ScriptTold) (b c : Block) (a : Answer) → IfYes Asks (said_script t script) → ShownBy ShownScript t b → ScriptPromise script (Some a) b c → (u : ScriptTold) × follows_script script t a u × ShownBy ShownScript u c
  unfolding IfYes Asks said_script follows_script ShownScript AnsweredBy ScriptStepped Shows
  script_goes (Ok (SaidAsk x s)) b c a k (old, h) d =
      let g = lent_here _ _ b.state.call 9 h.of d in
      (g.0, subst (λ (z : ScriptCall). ScriptKept script g.0 a z) h.state g.1, (b.state, g.2))
  script_goes (Ok (SaidRead v x s)) b c a k (old, h) d =
      let g = lent_here _ _ b.state.call 9 h.of d in
      (g.0, subst (λ (z : ScriptCall). ScriptKept script g.0 a z) h.state g.1, (b.state, g.2))
  script_goes (Ok (SaidEnd o m)) b c a k h d = absurd k
  script_goes (Err q) b c a k h d = absurd k

  -- the byte that goes with a block
  handed_now : (t : ScriptTold) (b : Block) (l : List ℕ) → stands_script t script → ShownBy ShownScript t b → and_handed b.next l ≡ given_at (said_script t script) l
  unfolding stands_script ShownScript said_script and_handed given_at given_in names_access asked_of outcome_of ended_of failed_of refused_of next_of refused_block
  handed_now (Ok (SaidAsk x (Some (port, m, s)))) b l stands (old, h) = ap (λ n. and_handed n l) h.shows ∙ handed_none x l
  handed_now (Ok (SaidAsk x None)) b l stands (old, h) = absurd stands
  handed_now (Ok (SaidRead v x (Some (port, m, s)))) b l stands (old, h) = ap (λ n. and_handed n l) h.shows ∙ handed_one x v l
  handed_now (Ok (SaidRead v x None)) b l stands (old, h) = absurd stands
  handed_now (Ok (SaidEnd o m)) b l stands (old, h) = ap (λ n. and_handed n l) h.shows ∙ handed_ended o m l
  handed_now (Err q) b l stands (old, h) = ap (λ (c : Block). and_handed c.next l) h

  module _ (j : judged script ≡ 0) where
    told_hands : (t : ScriptTold) (b : Block) (ks : List (Turn Block)) → stands_script t script → ShownBy ShownScript t b → Driven bare_block (ScriptPromise script) b ks → handed_in b ks ≡ bytes_of (run_asked (said_script t script) (answers_in ks))
    unfolding handed_in answers_in Driven and_given
    told_hands t b [] s v d = handed_now t b [] s v ∙ given_last (said_script t script)
    told_hands t b (k ∷ ks) s v d =
        let i = behind (metered_of done_of) bare_block (ScriptPromise script) (λ u. said_script u script) (follows_script script) (λ u. stands_script u script) (ShownBy ShownScript) (script_steps_on script j) script_ends script_tells script_goes t b k s v d.0 in
        handed_now t b (handed_in k.after ks) s v
        ∙ ap (given_at (said_script t script)) (told_hands i.told k.after ks i.stands i.shown d.1 ∙ ap (λ q. bytes_of (run_asked q (answers_in ks))) i.rest)
        ∙ given_first (said_script t script) i.given.answer (answers_in ks) i.asked
        ∙ ap (λ g. bytes_of (run_asked (said_script t script) (and_given g (answers_in ks)))) (sym i.given.is)

handed_refused : {A : Type 0} (N : A → Next) (Promise : (Option Answer) → Block → Block → Type 0) (b : Block) (q : Asked (Prog A)) (ks : List (Turn Block)) → Refuses q → bare b.next ≡ prompt N q → and_handed b.next [] ≡ given_at q [] → Driven bare_block Promise b ks → handed_in b ks ≡ bytes_of (run_asked q (answers_in ks))
unfolding Refuses handed_in answers_in Driven prompt names_access refused_of next_of
handed_refused N Promise b (yes p) ks r e g d = absurd r
handed_refused N Promise b (no n) [] r e g d = g ∙ given_last (no n)
handed_refused N Promise b (no n) (k ∷ ks) r e g d = absurd (subst (λ (next : Next). T (names_access next)) e d.0.names)

unaccepted : {A : Type 0} (script : List ℕ) (o : Asked Port) (e : Bool) (n : ℕ) (p : Port → Prog A) → e ≡ false → Refuses (and_then o (λ port. question e n (yes (p port))))
unfolding and_then question Refuses
unaccepted script (no n) e m p h = tt
unaccepted script (yes port) e m p h = rw h tt

module _ (family device lan : ℕ) (script : List ℕ) (over : State) (b : Block) (ks : List (Turn Block)) (opened : Shows (TellsScriptOpen family device lan script) ShownScript over b) (d : Driven bare_block (ScriptPromise script) b ks) where
  refuses_script : eqb (judged script) 0 ≡ false → Refuses (open_script family device lan script)
  unfolding open_script judged_then
  refuses_script e = unaccepted script (open_port family device lan) (eqb (judged script) 0) (judged script) _ e

  pub script_seen : seen bare_block b ks ≡ asked_seen (metered_of done_of) (run_asked (open_script family device lan script) (answers_in ks))
  unfolding Shows
  script_seen = by opened.0 opened.1 opened.2 (eqb (judged script) 0) refl
    where
      by : (t : ScriptTold) → TellsScriptOpen family device lan script t → ShownScript over t b → (f : Bool) → eqb (judged script) 0 ≡ f → seen bare_block b ks ≡ asked_seen (metered_of done_of) (run_asked (open_script family device lan script) (answers_in ks))
      by t k h true e =
          told_seen (metered_of done_of) bare_block (ScriptPromise script) (λ u. said_script u script) (follows_script script) (λ u. stands_script u script) (ShownBy ShownScript) (script_steps_on script (eqb-true _ 0 e)) script_ends (script_tells script) (script_goes script) t b ks k.limits (over, h) d
          ∙ ap (λ q. asked_seen (metered_of done_of) (run_asked q (answers_in ks))) k.yields
      by t k h false e =
          not_stepped (metered_of done_of) bare_block (ScriptPromise script) _ b ks (refuses_script e) (script_tells script t b k.limits (over, h) ∙ ap (prompt (metered_of done_of)) k.yields) d

  -- and the bytes
  pub script_hands : handed_in b ks ≡ bytes_of (run_asked (open_script family device lan script) (answers_in ks))
  unfolding Shows
  script_hands = by opened.0 opened.1 opened.2 (eqb (judged script) 0) refl
    where
      by : (t : ScriptTold) → TellsScriptOpen family device lan script t → ShownScript over t b → (f : Bool) → eqb (judged script) 0 ≡ f → handed_in b ks ≡ bytes_of (run_asked (open_script family device lan script) (answers_in ks))
      by t k h true e = told_hands script (eqb-true _ 0 e) t b ks k.limits (over, h) d ∙ ap (λ q. bytes_of (run_asked q (answers_in ks))) k.yields
      by t k h false e = handed_refused (metered_of done_of) (ScriptPromise script) b _ ks (refuses_script e) (script_tells script t b k.limits (over, h) ∙ ap (prompt (metered_of done_of)) k.yields) (handed_now script t b [] k.limits (over, h) ∙ ap (λ q. given_at q []) k.yields) d
