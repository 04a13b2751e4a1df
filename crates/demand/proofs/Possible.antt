-- The premises of the claims can be met: for every port and every start there is a list of answers, as long as one likes.
use Prim.Native.Nat.{ℕ, ◌≤◌, suc, zero}
use mathlib.Core.Path.{◌≡◌, refl, ap, subst⁻¹}
use mathlib.Core.Bool.{Bool, true, false}
use mathlib.Core.List.{List, [], ◌∷◌, ◌++◌}
use native.Mathlib.Omega.{arith}
use lib.Dec.{lit<}
use lib.ListN.{length, length-append}
use Rattle.transfer.specs.declared.attempt.Sequence.{Sequence}
use Rattle.hardware.specs.declared.Access.{Access}
use Rattle.hardware.specs.declared.Access.TheVariants.{Read, Write, Wait}
use Rattle.hardware.specs.declared.Answer.{Answer}
use Rattle.hardware.specs.declared.Answer.TheVariants.{Done}
use Rattle.hardware.specs.declared.Port.{Port}
use Rattle.hardware.specs.Prog.{Prog, ret, ask, note, give, Attempt, Acquires, Acquired, Released, Lapsed, Acknowledged, R, pick}
use Rattle.bus.specs.declared.Layout.{Layout}
use Rattle.bus.specs.Layout.{x550em, layout_of}
use Rattle.hardware.specs.declared.Family.{Family}
use Rattle.hardware.specs.declared.Family.TheVariants.{F82599, X540, X550, X552, X553}
use Rattle.hardware.specs.Asked.{is}
use Rattle.hardware.specs.Registers.{none_of}
use Rattle.wire.specs.Lines.{banging, pulling, pulls_sda, pulls_scl, master, ready, Each}
use Rattle.wire.specs.Always.{nobody}
use Rattle.wire.specs.Machine.{Side, World, modelled, reply, noted}
use Rattle.wire.specs.Run.{fixed, Finished, BenchRun, proceed, run, answers_in}
use Rattle.wire.proofs.Run.{replayed, fixed_finishes}
use Rattle.bench.specs.declared.Bench.{Bench}
use Rattle.bench.specs.declared.receiver.Chosen.{Chosen}
use Rattle.bench.specs.AtOnce.{at_once}
use Rattle.i2c.specs.declared.once.Request.TheVariants.{WriteByte}
use Rattle.i2c.specs.I2c.{standard, making}
use Rattle.sfp.specs.declared.Identity.{Identity}
use Rattle.sfp.specs.Identify.{identify}
use Rattle.sfp.specs.Steps.{IDENTIFY_STEPS}
use Rattle.page.specs.declared.walk.Form.{Form}
use Rattle.light.specs.Light.{light}
use Rattle.demand.specs.Fine.{AtOnce}
use Rattle.demand.specs.Claim.{machine, BenchWorld, Start, Allowed, bench_run, Works, Premise, at_start, Premises, CallPremises}
use Rattle.demand.specs.PageClaim.{page_call}
use Rattle.demand.specs.WriteClaim.{address_of, WriteStarts, write_call, rate_call}
use Rattle.bench.specs.Mux.{has_mux, joins}
use Rattle.demand.proofs.AtOnce.{at_once_stays}
use Rattle.demand.proofs.AtOnceCalls.{AtOnces, transferred_at_once, identify_at_once, page_at_once, rate_at_once, light_at_once}

-- each of the at-once answers works
at_once_works : (x : Access) → Works x (at_once x)
unfolding at_once
at_once_works (Read r) = at_once_stays r _ refl
at_once_works (Write r v) = tt
at_once_works (Wait n) = tt

-- a run with them meets the premises
module _ (l : Layout) (o : Side) {A : Type 0} (Q : A → Type 0) where
  premises_at : (x : Access) (b : Bool) (f : Answer → Prog A) (w : World o) (answers : List Answer) → modelled l o x ≡ b
      → ((a : Answer) (w' : World o) (rest : List Answer) → AtOnce l o at_once (f a) Q → Each Premise (run l o (fixed at_once) (f a) w' rest).trace)
      → AtOnce l o at_once (ask x f) Q → Each Premise (run l o (fixed at_once) (ask x f) w answers).trace
  unfolding run pick fixed proceed AtOnce Premise
  premises_at x true f w answers e h k = rw e (tt, h _ _ _ ((rw e at k) (reply l o x w)))
  premises_at x false f w answers e h k = rw e (at_once_works x, h _ _ _ (rw e at k))

  pub at_once_premises : (p : Prog A) (w : World o) (answers : List Answer) → AtOnce l o at_once p Q → Each Premise (run l o (fixed at_once) p w answers).trace
  unfolding run AtOnce Premise
  at_once_premises (ret a) w answers k = tt
  at_once_premises (ask x f) w answers k = premises_at x (modelled l o x) f w answers refl (λ a w' rest. at_once_premises (f a) w' rest) k
  at_once_premises (note Attempt p) w answers k = (tt, at_once_premises p (noted o Attempt w) answers k)
  at_once_premises (note Acquires p) w answers k = (tt, at_once_premises p (noted o Acquires w) answers k)
  at_once_premises (note Acquired p) w answers k = (tt, at_once_premises p (noted o Acquired w) answers k)
  at_once_premises (note Released p) w answers k = (tt, at_once_premises p (noted o Released w) answers k)
  at_once_premises (note Lapsed p) w answers k = absurd k
  at_once_premises (note (Acknowledged sample) p) w answers k = (tt, at_once_premises p (noted o (Acknowledged sample) w) answers k)
  at_once_premises (give b p) w answers k = at_once_premises p w answers k

-- so many more answers, which no run looks at
abbrev pub dones : ℕ → List Answer
dones zero = []
dones (suc n) = Done ∷ dones n

dones_length : (n : ℕ) → length (dones n) ≡ n
dones_length zero = refl
dones_length (suc n) = ap suc (dones_length n)

-- a run with the at-once answers
abbrev pub prompt_run : {A : Type 0} → Port → Prog A → Bench → Start → BenchRun BenchWorld A
prompt_run port p b start = run (layout_of port.family) (machine port) (fixed at_once) p (at_start start b) []

module _ {A : Type 0} (port : Port) (p : Prog A) (b : Bench) (start : Start) (more : ℕ) where
  -- the answers in it, and so many more
  abbrev pub prompt_list : List Answer
  prompt_list = answers_in (prompt_run port p b start).trace ++ dones more

  pub list_replayed : bench_run port p b start prompt_list ≡ prompt_run port p b start
  list_replayed =
      replayed (layout_of port.family) (machine port) (fixed at_once) (dones more) p (at_start start b) []
      (fixed_finishes (layout_of port.family) (machine port) at_once p (at_start start b) [])

  pub list_meets : AtOnces port p → Each Premise (bench_run port p b start prompt_list).trace
  list_meets h =
      subst⁻¹ (λ r. Each Premise r.trace) list_replayed (at_once_premises (layout_of port.family) (machine port) (λ _. Unit {0}) p (at_start start b) [] h)

  pub list_finishes : Finished (bench_run port p b start prompt_list).outcome
  list_finishes = subst⁻¹ (λ r. Finished r.outcome) list_replayed (fixed_finishes (layout_of port.family) (machine port) at_once p (at_start start b) [])

  pub list_long : more ≤ length prompt_list
  list_long = omega (arith, length-append (answers_in (prompt_run port p b start).trace) (dones more), dones_length more)

  -- Such a list meets the premises and is as long as one likes, and the run over it comes to its end
  pub list_possible : AtOnces port p → (answers : List Answer) × CallPremises port p b start answers × (more ≤ length answers) × Finished (bench_run port p b start answers).outcome
  unfolding CallPremises
  list_possible h = (prompt_list, list_meets h, list_long, list_finishes)

module _ (q : Sequence) (port : Port) (b : Bench) (start : Start) where
  -- a whole identification with the at-once answers
  abbrev pub prompt : BenchRun BenchWorld (R Identity)
  prompt = prompt_run port (identify q port) b start

  -- the answers in it, and more
  abbrev pub prompt_answers : List Answer
  prompt_answers = prompt_list port (identify q port) b start (IDENTIFY_STEPS port.family)

  pub prompt_replayed : bench_run port (identify q port) b start prompt_answers ≡ prompt
  prompt_replayed = list_replayed port (identify q port) b start (IDENTIFY_STEPS port.family)

  pub at_once_meets : Premises q port b start prompt_answers
  unfolding CallPremises
  at_once_meets = list_meets port (identify q port) b start (IDENTIFY_STEPS port.family) (identify_at_once port q)

  pub at_once_long : IDENTIFY_STEPS port.family ≤ length prompt_answers
  at_once_long = list_long port (identify q port) b start (IDENTIFY_STEPS port.family)

  -- For every port and every start, AckWrite included, a list of answers that meets the premises and is long enough
  pub possible : (answers : List Answer) × Premises q port b start answers × (IDENTIFY_STEPS port.family ≤ length answers)
  possible = (prompt_answers, at_once_meets, at_once_long)

  -- For a page too, on whatever buffer and with any number of attempts, and as long as one likes; its run comes to its end
  pub page_possible : (form : Form) (tries : ℕ) (buffer : List ℕ) (n : ℕ)
      → (answers : List Answer) × CallPremises port (page_call q port form tries buffer) b start answers × (n ≤ length answers) × Finished (bench_run port (page_call q port form tries buffer) b start answers).outcome
  unfolding CallPremises
  page_possible form tries buffer n = list_possible port (page_call q port form tries buffer) b start n (page_at_once port q form tries buffer)

  -- and for light and temperature
  pub light_possible : (tries n : ℕ)
      → (answers : List Answer) × CallPremises port (light q port tries) b start answers × (n ≤ length answers) × Finished (bench_run port (light q port tries) b start answers).outcome
  light_possible tries n = list_possible port (light q port tries) b start n (light_at_once port q tries)

module _ (port : Port) (b : Bench) (start : Start) (n : ℕ) where
  -- For a byte written, and for a rate select
  pub write_possible : (page : Chosen) (offset value : ℕ) (lock : Bool)
      → (answers : List Answer) × CallPremises port (write_call port page offset value lock) b start answers × (n ≤ length answers) × Finished (bench_run port (write_call port page offset value lock) b start answers).outcome
  write_possible page offset value lock =
      list_possible port (write_call port page offset value lock) b start n (transferred_at_once port (WriteByte (address_of page) offset value) (making lock standard) 2)

  pub rate_possible : (ten : Bool)
      → (answers : List Answer) × CallPremises port (rate_call port ten) b start answers × (n ≤ length answers) × Finished (bench_run port (rate_call port ten) b start answers).outcome
  rate_possible ten = list_possible port (rate_call port ten) b start n (rate_at_once port standard ten)

-- I2CCTL with every bit set: on every family the driver may begin with it, and pulls neither line
ready_free : (f : Family) → ready (layout_of f) 0xffffffff ≡ true
unfolding ready banging layout_of x550em is pick none_of
ready_free F82599 = refl
ready_free X540 = refl
ready_free X550 = refl
ready_free X552 = refl
ready_free X553 = refl

master_free : (f : Family) → master (layout_of f) 0xffffffff ≡ nobody
unfolding master pulls_sda pulls_scl pulling banging layout_of x550em is pick none_of
master_free F82599 = refl
master_free X540 = refl
master_free X550 = refl
master_free X552 = refl
master_free X553 = refl

-- so on every port there is a start that is allowed, with the mux on and with it off
abbrev pub free_start : Bool → Start
free_start on = record { word = 0xffffffff; esdp = pick on 2 0 }

pub allowed_possible : (port : Port) (on : Bool) → Allowed port (free_start on)
unfolding none_of pick
allowed_possible port on =
    record {
      fit = ready_free port.family;
      mux = λ _. record { released = master_free port.family; sound = record { bit = 0; below = lit< tt; other = refl; clear = clear on } };
    }
  where
    clear : (on : Bool) → none_of (pick on 2 0) 1 ≡ true
    clear true = refl
    clear false = refl

-- for a write too, with the lock and without
pub write_starts_possible : (port : Port) (lock : Bool) → WriteStarts port lock (free_start true)
unfolding joins none_of pick
write_starts_possible port lock = record { fit = ready_free port.family; mux = λ _. (allowed_possible port true).mux; joined = λ _. on (has_mux port) }
  where
    on : (b : Bool) → joins b 2 ≡ true
    on true = refl
    on false = refl
