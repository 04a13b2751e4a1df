-- From one access of a run to the next.
use Prim.Native.Nat.{ℕ, ◌+◌, ◌-◌, ◌<◌, ◌≤◌, suc}
use mathlib.Core.Path.{◌≡◌, refl, ap, ap₂, ◌∙◌, sym, subst, subst⁻¹}
use mathlib.Core.Bool.{Bool, true, false, false≢true}
use mathlib.Core.List.{List, [], ◌∷◌}
use mathlib.Core.Logic.{◌⊎◌, ⊎_elim}
use native.Mathlib.Omega.{arith}
use native.Mathlib.Numerals.{add-one}
use lib.Dec.{T, lit≤}
use lib.ListN.{drop, get_or, length, drop_of_length-le}
use lib.Seq.{drop-cons}
use Rattle.transfer.specs.declared.attempt.Sequence.{Sequence}
use Rattle.hardware.specs.declared.Access.{Access}
use Rattle.hardware.specs.declared.Answer.{Answer}
use Rattle.hardware.specs.declared.Family.{Family}
use Rattle.hardware.specs.declared.Family.TheVariants.{F82599, X540, X550, X552, X553}
use Rattle.hardware.specs.declared.Meter.{Meter}
use Rattle.hardware.specs.declared.Port.{Port}
use Rattle.hardware.specs.declared.Refusal.{Refusal}
use Rattle.hardware.specs.Asked.{yes, question, and_then, open_port, opened as opened_as, fits, admitting}
use Rattle.hardware.specs.Failures.{Io}
use Rattle.hardware.specs.Prog.{Prog, ret, ask, R, Err, pick, Counted, tally, blank}
use Rattle.hardware.specs.Runs.{Ends}
use Rattle.hardware.proofs.Ends.{ends_more, ends_tally}
use Rattle.bus.specs.declared.Layout.{Layout}
use Rattle.bus.specs.Layout.{layout_of}
use Rattle.wire.specs.Machine.{At, modelled, reply, after}
use Rattle.wire.specs.Run.{Given as Gives, given, refused, Source, listed, fixed, kind_asked, kind_checked, Finished, BenchRun, proceed, run, run_asked}
use Rattle.wire.proofs.Run.{run_own, run_other, reply_fits}
use Rattle.bench.specs.declared.register.BenchState.{BenchState}
use Rattle.bench.specs.declared.register.Reply.{Reply}
use Rattle.bench.specs.AtOnce.{at_once}
use Rattle.bench.specs.Register.{Caged, side, world, bench_state, here, accessed}
use Rattle.bench.specs.Mux.{has_mux}
use Rattle.sfp.specs.declared.Identity.{Identity}
use Rattle.sfp.specs.Identify.{identify}
use Rattle.sfp.specs.Steps.{IDENTIFY_STEPS}
use Rattle.sfp.proofs.Ends.{identify_ends}
use Rattle.identify.specs.Walk.{rest_identify}
use Rattle.identify.specs.Calls.{open_identify, step_identify, said_identify, stands_identify}
use Rattle.demand.specs.Claim.{Allowed, Starts, Premises}
use Rattle.demand.specs.Library.{start_of, identify_run, Demand3, Demand3AtOnce}
use Rattle.demand.proofs.Library.{demand_3_ended, demand_3, demand_3_at_once}
use Rattle.onbench.specs.declared.Ending.TheVariants.{Stopped}
use Rattle.onbench.specs.declared.Origin.{Origin}
use Rattle.onbench.specs.declared.Progress.{Progress}
use Rattle.onbench.specs.declared.Run.{Run}
use Rattle.onbench.specs.Run.{decoded, decoded_all, source_of, next_of, IdentifyOutcome, ending_of, outcome_of, left_of, Bounded, stops_at, Final, Step, Advances}
use Rattle.hardware.proofs.Laws.{is_true}
use Rattle.identify.specs.Aliases.{IdentifyTold, IdentifyCall}
use Rattle.hardware.specs.declared.Told.TheVariants.{Ask, End}
use Rattle.std.specs.Prelude.{Ok, Result, Some, None, Option}
use Rattle.hardware.specs.declared.Error.{Error}

-- what is left of a call once its access was answered
rest_of : IdentifyCall → Answer → Prog (Counted (R Identity))
rest_of (Some (port, q, m, s)) a = tally m (rest_identify q port s a)
rest_of None a = ret (record { meter = blank; result = Err Io })

-- a call that awaits an answer
said_ask : (x : Access) (c : IdentifyCall) → stands_identify (Ok (Ask x c)) → said_identify (Ok (Ask x c)) ≡ yes (ask x (rest_of c))
unfolding said_identify stands_identify rest_of
said_ask x (Some (port, q, m, s)) h = refl
said_ask x None h = absurd h

step_is : (x : Access) (c : IdentifyCall) (a : Answer) → stands_identify (Ok (Ask x c)) → step_identify c a ≡ question (fits x a) 12 (yes (rest_of c a))
unfolding step_identify stands_identify rest_of admitting question
step_is x (Some (port, q, m, s)) a h = rw (h.1, ← h.0)
step_is x None a h = absurd h

-- the module's reply, by whether the access is the machine's own
reply_own : (l : Layout) (mux : Bool) (x : Access) (d : BenchState) (a : Answer) (b : Bool) → modelled l (side mux) x ≡ b → (accessed l mux x d).answer ≡ Some a
    → (modelled l (side mux) x ≡ true) × (accessed l mux x d ≡ here (reply l (side mux) x (world d)) (bench_state (after l (side mux) x (world d))))
unfolding accessed pick
reply_own l mux x d a true e h = (e, rw e)
reply_own l mux x d a false e h = absurd (none_is_none a (rw e at h))
  where
    none_is_none : (z : Answer) → ◌≡◌ {A = Option Answer} None (Some z) → ⊥
    none_is_none z g = cc

reply_other : (l : Layout) (mux : Bool) (x : Access) (d : BenchState) (b : Bool) → modelled l (side mux) x ≡ b → (accessed l mux x d).answer ≡ None → modelled l (side mux) x ≡ false
unfolding accessed pick
reply_other l mux x d true e h = absurd (some_is_some _ (rw e at h))
  where
    some_is_some : (z : Answer) → ◌≡◌ {A = Option Answer} (Some z) None → ⊥
    some_is_some z g = cc
reply_other l mux x d false e h = e

one_answer : (a b : Answer) → ◌≡◌ {A = Option Answer} (Some a) (Some b) → a ≡ b
one_answer a b e = cc

-- n accesses are enough for what is asked for, so n less one for what follows
fewer : {A : Type 0} (x : Access) (f : Answer → Prog A) (a : Answer) (b : Bool) → fits x a ≡ b → (n : ℕ) → Bounded (yes (ask x f)) (suc n)
    → Bounded (question b 12 (yes (f a))) n
unfolding Bounded Ends question
fewer x f a true e n h = h a (subst⁻¹ T e tt)
fewer x f a false e n h = tt

decoded_length : (ns : List ℕ) → length (decoded_all ns) ≡ length ns
unfolding decoded_all
decoded_length [] = refl
decoded_length (n ∷ ns) = ap suc (decoded_length ns)

-- the next number lent, if there is one
pub next_lent : (x : Access) (ns : List ℕ) (used : ℕ) (a : Answer) → a ≡ decoded (get_or ns used 0) → used < length ns
    → next_of ns (Some (a, (used + 1))) ≡ listed x (decoded_all (drop used ns))
unfolding next_of listed decoded_all
next_lent x ns used a e h = rw (add-one used, drop-cons ns used 0 h, e)

pub next_none : (x : Access) (ns : List ℕ) (used : ℕ) → length ns ≤ used → next_of ns None ≡ listed x (decoded_all (drop used ns))
unfolding next_of listed decoded_all
next_none x ns used h = rw (drop_of_length-le ns h)

-- nothing more is told
abbrev Settled : IdentifyTold → Type 0
Settled (Ok (Ask x c)) = ⊥
Settled (Ok (End (f, m))) = Unit {0}
Settled (Err q) = Unit {0}

told_settles : (l : Layout) (mux : Bool) (s : Source) (q : IdentifyTold) (w : At Caged) (answers : List Answer) → Settled q → run_asked l (side mux) s (said_identify q) w answers ≡ stops_at q w
unfolding run_asked said_identify run stops_at
told_settles l mux s (Ok (Ask x c)) w answers h = absurd h
told_settles l mux s (Ok (End (f, m))) w answers h = refl
told_settles l mux s (Err q) w answers h = refl

-- with no access left there is nothing more to do
none_left : (t : IdentifyTold) → stands_identify t → Bounded (said_identify t) 0 → Settled t
unfolding Bounded Ends said_identify stands_identify
none_left (Ok (Ask x (Some (port, q, m, g)))) st b = absurd b
none_left (Ok (Ask x None)) st b = absurd st
none_left (Ok (End (f, m))) st b = tt
none_left (Err q) st b = tt

module _ (port : Port) (o : Origin) (ns : List ℕ) where
  abbrev left : Progress → IdentifyOutcome
  left = left_of port o ns

  abbrev source : Source
  source = kind_checked (source_of o)

  settles : (s : Progress) → Settled s.told → Final left s
  unfolding left_of Final
  settles s h = told_settles (layout_of port.family) (has_mux port) source s.told (world s.state) (decoded_all (drop s.used ns)) h

  module _ (x : Access) (c : IdentifyCall) (d : BenchState) (used : ℕ) where
    abbrev from : Progress
    from = record { told = Ok (Ask x c); state = d; used = used; over = false }

    abbrev lent : List Answer
    lent = decoded_all (drop used ns)

    -- the access was answered with a, and told is what the call then says
    stepped : (told : IdentifyTold) (a : Answer) (d' : BenchState) (used' : ℕ) → said_identify told ≡ step_identify c a → stands_identify told
        → (stands_identify (Ok (Ask x c))
        → run_asked (layout_of port.family) (side (has_mux port)) source (question (fits x a) 12 (yes (rest_of c a))) (world d') (decoded_all (drop used' ns)) ≡ (run (layout_of port.family) (side (has_mux port)) source (ask x (rest_of c)) (world d) lent).outcome)
        → Advances left from (record { told = told; state = d'; used = used'; over = false })
    unfolding Advances left_of run_asked
    stepped told a d' used' said stands same st =
        record {
          same =
              ap (λ q. run_asked (layout_of port.family) (side (has_mux port)) source q (world d') (decoded_all (drop used' ns))) (said ∙ step_is x c a st)
              ∙ same st
              ∙ ap (λ q. run_asked (layout_of port.family) (side (has_mux port)) source q (world d) lent) (sym (said_ask x c st));
          stands = stands;
          less = λ _ n h. subst⁻¹ (λ q. Bounded q n) (said ∙ step_is x c a st) (fewer x (rest_of c) a (fits x a) refl n (subst (λ q. Bounded q (suc n)) (said_ask x c st) h));
          final = λ z. absurd (false≢true z);
        }

    module _ (r : Reply) (er : r ≡ accessed (layout_of port.family) (has_mux port) x d) where
      answer_is : (o : Option Answer) → r.answer ≡ o → (accessed (layout_of port.family) (has_mux port) x d).answer ≡ o
      answer_is o h = sym (ap (λ (q : Reply). q.answer) er) ∙ h

      -- by the machine
      pub visit_own : (t : IdentifyTold) (a : Answer) → r.answer ≡ Some a → said_identify t ≡ step_identify c a → stands_identify t
          → Advances left from (record { told = t; state = r.state; used = used; over = false })
      unfolding run_asked question
      visit_own t a h said stands =
          let own = reply_own (layout_of port.family) (has_mux port) x d a (modelled (layout_of port.family) (side (has_mux port)) x) refl (answer_is (Some a) h) in
          let whole = er ∙ own.1 in
          let same = one_answer a _ (sym h ∙ ap (λ (q : Reply). q.answer) whole) in
          stepped t a r.state used said stands
          (λ _.
          ap₂ (λ (z : Answer) (q : Reply). run_asked (layout_of port.family) (side (has_mux port)) source (question (fits x z) 12 (yes (rest_of c z))) (world q.state) lent) same whole
          ∙ ap (λ b. run_asked (layout_of port.family) (side (has_mux port)) source (question b 12 (yes (rest_of c (reply (layout_of port.family) (side (has_mux port)) x (world d))))) (after (layout_of port.family) (side (has_mux port)) x (world d)) lent) (is_true (fits x (reply (layout_of port.family) (side (has_mux port)) x (world d))) (reply_fits (layout_of port.family) (side (has_mux port)) x (world d)))
          ∙ ap (λ (q : BenchRun (At Caged) (Counted (R Identity))). q.outcome) (sym (run_own (layout_of port.family) (side (has_mux port)) source x (rest_of c) (world d) lent own.0)))

      -- by the next answer, of the awaited kind or not
      taken : (a : Answer) (rest : List Answer) (b : Bool)
          → run_asked (layout_of port.family) (side (has_mux port)) source (question b 12 (yes (rest_of c a))) (world d) rest
          ≡ (proceed x (world d) (λ e t. run (layout_of port.family) (side (has_mux port)) source (rest_of c e) (world d) t) (pick b (given a rest) (refused 12))).outcome
      unfolding run_asked question proceed pick
      taken a rest true = refl
      taken a rest false = refl

      proceed_by : (n : (Option (Answer × ℕ))) → next_of ns n ≡ source_of o x lent → r.answer ≡ None
          → (run (layout_of port.family) (side (has_mux port)) source (ask x (rest_of c)) (world d) lent).outcome
          ≡ (proceed x (world d) (λ e t. run (layout_of port.family) (side (has_mux port)) source (rest_of c e) (world d) t) (kind_asked x (next_of ns n))).outcome
      proceed_by n en h =
          ap (λ (q : BenchRun (At Caged) (Counted (R Identity))). q.outcome) (run_other (layout_of port.family) (side (has_mux port)) source x (rest_of c) (world d) lent (reply_other (layout_of port.family) (has_mux port) x d (modelled (layout_of port.family) (side (has_mux port)) x) refl (answer_is None h)))
          ∙ ap (λ (g : Gives). (proceed x (world d) (λ e t. run (layout_of port.family) (side (has_mux port)) source (rest_of c e) (world d) t) (kind_asked x g)).outcome) (sym en)

      pub visit_given : (n : (Option (Answer × ℕ))) (t : IdentifyTold) (a : Answer) (used' : ℕ) → n ≡ Some (a, used') → next_of ns n ≡ source_of o x lent → r.answer ≡ None
          → said_identify t ≡ step_identify c a → stands_identify t
          → Advances left from (record { told = t; state = d; used = used'; over = false })
      unfolding next_of kind_asked
      visit_given n t a used' e en h said stands =
          stepped t a d used' said stands (λ _. taken a (decoded_all (drop used' ns)) (fits x a) ∙ sym (proceed_by (Some (a, used')) (ap (next_of ns) (sym e) ∙ en) h))

      -- none is left
      pub visit_none : (n : (Option (Answer × ℕ))) → n ≡ None → next_of ns n ≡ source_of o x lent → r.answer ≡ None
          → Advances left from (record { told = Ok (Ask x c); state = d; used = used; over = true })
      unfolding Advances left_of Final stops_at run_asked next_of kind_asked proceed
      visit_none n e en h st =
          record {
            same = refl;
            stands = st;
            less = λ z. absurd (false≢true (sym z));
            final = λ _. ap (λ q. run_asked (layout_of port.family) (side (has_mux port)) source q (world d) lent) (said_ask x c st) ∙ proceed_by None (ap (next_of ns) (sym e) ∙ en) h;
          }

  -- by what was told
  module _ (s : Progress) where
    pub one_ask : (t : Progress) (x : Access) (c : IdentifyCall) → s.told ≡ Ok (Ask x c)
        → Advances left (record { told = Ok (Ask x c); state = s.state; used = s.used; over = false }) t → s.over ≡ false → Advances left s t
    one_ask t x c e m z =
        let whole : ◌≡◌ {A = Progress} (record { told = Ok (Ask x c); state = s.state; used = s.used; over = false }) s
        = ap₂ (λ q b. record { told = q; state = s.state; used = s.used; over = b }) (sym e) (sym z) in
        subst (λ u. Advances left u t) whole m

    -- nothing more is to be done
    one_over : (q : IdentifyTold) → s.told ≡ q → Settled q → stands_identify q → Advances left s (record { told = q; state = s.state; used = s.used; over = true })
    unfolding Advances Final
    one_over q e h stands st =
        record {
          same =
              settles (record { told = q; state = s.state; used = s.used; over = true }) h
              ∙ ap (λ z. stops_at z (world s.state)) (sym e)
              ∙ sym (settles s (subst⁻¹ Settled e h));
          stands = stands;
          less = λ z. absurd (false≢true (sym z));
          final = λ _. settles (record { told = q; state = s.state; used = s.used; over = true }) h;
        }

    pub one_end : (f : (Result Identity Error)) (m : Meter) → s.told ≡ Ok (End (f, m)) → Advances left s (record { told = Ok (End (f, m)); state = s.state; used = s.used; over = true })
    unfolding stands_identify
    one_end f m e = one_over (Ok (End (f, m))) e tt tt

    pub one_refused : (q : Refusal) → s.told ≡ Err q → Advances left s (record { told = Err q; state = s.state; used = s.used; over = true })
    unfolding stands_identify
    one_refused q e = one_over (Err q) e tt tt

  -- The loop's invariant: the run comes to what it comes to from the first state, and the accesses that are left are enough
  pub record Invariant (first : Progress) (n : ℕ) (s : Progress) : Type 0 where
    pub same : left s ≡ left first
    pub stands : stands_identify s.told
    pub enough : s.over ≡ false → Bounded (said_identify s.told) n
    pub final : s.over ≡ true → Final left s

  module _ (first : Progress) (n : ℕ) where
    pub invariant_first : first.over ≡ false → stands_identify first.told → Bounded (said_identify first.told) n → Invariant first n first
    invariant_first z st b = record { same = refl; stands = st; enough = λ _. b; final = λ e. absurd (false≢true (sym z ∙ e)) }

    pub invariant_next : (s t : Progress) → Invariant first n s → s.over ≡ false → 0 < n → (s.over ≡ false → Advances left s t) → Invariant first (n - 1) t
    unfolding Advances
    invariant_next s t k z h m =
        let w : Step left s t = m z k.stands in
        let e : n ≡ suc (n - 1) = omega arith in
        record {
          same = w.same ∙ k.same;
          stands = w.stands;
          enough = λ y. w.less y (n - 1) (subst (Bounded (said_identify s.told)) e (k.enough z));
          final = w.final;
        }

    -- a run that stops comes to what was left at the first state
    pub invariant_stops : (s : Progress) (r : IdentifyOutcome) → Invariant first n s → s.over ≡ true → r ≡ stops_at s.told (world s.state) → r ≡ left first
    unfolding Final
    invariant_stops s r k z e = e ∙ sym (k.final z) ∙ k.same

    used_up : (s : Progress) (b : Bool) → s.over ≡ b → Invariant first n s → n ≡ 0 → Final left s
    used_up s true z k e = k.final z
    used_up s false z k e = settles s (none_left s.told k.stands (subst (Bounded (said_identify s.told)) e (k.enough z)))

    pub invariant_ends : (s : Progress) (r : IdentifyOutcome) → Invariant first n s → n ≤ 0 → r ≡ stops_at s.told (world s.state) → r ≡ left first
    unfolding Final
    invariant_ends s r k h e = e ∙ sym (used_up s s.over refl k (omega arith)) ∙ k.same

-- no identification has more accesses
steps : (f : Family) → IDENTIFY_STEPS f ≤ 1600450488
steps F82599 = lit≤ tt
steps X540 = lit≤ tt
steps X550 = lit≤ tt
steps X552 = lit≤ tt
steps X553 = lit≤ tt

enough : (q : Sequence) (p : Port) → Ends (tally blank (identify q p)) 1600450488
enough q p = ends_more _ (IDENTIFY_STEPS p.family) _ (ends_tally blank (identify q p) _ (identify_ends q p)) (steps p.family)

module _ (q : Sequence) (family device lan : ℕ) (d : BenchState) where
  -- what an opening that is not refused tells
  opened_said : (p : Port) (t : IdentifyTold) → yes p ≡ open_port family device lan → said_identify t ≡ open_identify q family device lan
      → said_identify t ≡ yes (tally blank (identify q p))
  unfolding open_identify and_then
  opened_said p t y said = said ∙ ap (λ z. and_then z (λ port. yes (tally blank (identify q port)))) (sym y)

  -- from the opening to the end
  module _ (o : Origin) (ns : List ℕ) where
    pub opened : (g : Result Port Refusal) (p : Port) (t : IdentifyTold) (r : Run) → g ≡ Ok p → opened_as g ≡ open_port family device lan
        → said_identify t ≡ open_identify q family device lan → stands_identify t
        → (stands_identify t → Bounded (said_identify t) 1600450488
        → outcome_of r ≡ left_of p o ns (record { told = t; state = d; used = 0; over = false }))
        → outcome_of r ≡ identify_run q (source_of o) (open_port family device lan) (world d) (decoded_all ns)
    unfolding opened_as Bounded left_of run_asked identify_run
    opened g p t r e h said st played =
        let y : yes p ≡ open_port family device lan = ap opened_as (sym e) ∙ h in
        played st (subst⁻¹ (λ z. Bounded z 1600450488) (opened_said p t y said) (enough q p))
        ∙ ap (λ z. run_asked (layout_of p.family) (side (has_mux p)) (kind_checked (source_of o)) z (world d) (decoded_all ns)) (opened_said p t y said)
        ∙ ap (λ z. identify_run q (source_of o) z (world d) (decoded_all ns)) y

    pub unopened : (g : Result Port Refusal) (n : Refusal) → g ≡ Err n → opened_as g ≡ open_port family device lan
        → outcome_of (record { ending = Stopped n; state = d }) ≡ identify_run q (source_of o) (open_port family device lan) (world d) (decoded_all ns)
    unfolding opened_as outcome_of ending_of identify_run
    unopened g n e h = ap (λ z. identify_run q (source_of o) z (world d) (decoded_all ns)) (ap opened_as (sym e) ∙ h)

  -- Demand 3 of what the call comes to: over the numbers lent, and with none
  module _ (small : (n : ℕ) → get_or d.bench.a0.bytes n 0 < 256) (port : Port) (y : yes port ≡ open_port family device lan) (go : Allowed port (start_of d)) where
    starts : Starts port d.bench (start_of d)
    unfolding Starts
    starts = (small, go)

    pub lent_claim : (ns : List ℕ) (r : IdentifyOutcome) → r ≡ identify_run q listed (open_port family device lan) (world d) (decoded_all ns)
        → Premises q port d.bench (start_of d) (decoded_all ns) → Finished r ⊎ (IDENTIFY_STEPS port.family ≤ length ns)
        → Demand3 q port d.bench (start_of d) (decoded_all ns) r
    lent_claim ns r e m =
        subst⁻¹ (λ z. Finished z ⊎ (IDENTIFY_STEPS port.family ≤ length ns) → Demand3 q port d.bench (start_of d) (decoded_all ns) z) (e ∙ ap (λ z. identify_run q listed z (world d) (decoded_all ns)) (sym y))
        (⊎_elim (demand_3_ended q port d.bench (start_of d) (decoded_all ns) starts m)
        (λ n. demand_3 q port d.bench (start_of d) (decoded_all ns) starts m (subst⁻¹ (λ k. IDENTIFY_STEPS port.family ≤ k) (decoded_length ns) n)))

    pub at_once_claim : (r : IdentifyOutcome) → r ≡ identify_run q (fixed at_once) (open_port family device lan) (world d) [] → Demand3AtOnce q port d.bench (start_of d) r
    at_once_claim r e =
        subst⁻¹ (Demand3AtOnce q port d.bench (start_of d)) (e ∙ ap (λ z. identify_run q (fixed at_once) z (world d) []) (sym y)) (demand_3_at_once q port d.bench (start_of d) starts)
