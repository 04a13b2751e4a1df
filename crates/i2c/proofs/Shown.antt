-- Every transfer and every script shows its attempts: `shown` of the accesses that a run asks for is the number of attempts
-- that it begins, and of a run that has ended the count in its result.
use Prim.Native.Nat.{ℕ, suc, zero}
use mathlib.Core.Path.{◌≡◌, refl, ap, ◌∙◌, sym, subst}
use mathlib.Core.Bool.{Bool, true, false, false≢true}
use mathlib.Core.List.{List}
use lib.Dec.{eqb}
use Rattle.hardware.specs.declared.Access.{Access}
use Rattle.hardware.specs.declared.Access.TheVariants.{Read, Write}
use Rattle.hardware.specs.declared.Answer.{Answer}
use Rattle.hardware.specs.declared.Family.{Family}
use Rattle.hardware.specs.declared.Family.TheVariants.{F82599, X540, X550, X552, X553}
use Rattle.hardware.specs.declared.Port.{Port}
use Rattle.hardware.specs.declared.change.Change.{Change}
use Rattle.hardware.specs.Prog.{Attempt, Acquires, Acquired, Released, Lapsed, Acknowledged, Prog, ret, ask, note, give, R, Ok, Err, or_err, ◌>>=◌, ◌>>?◌, pick}
use Rattle.hardware.specs.Registers.{ESDP, STATUS, delay_ms}
use Rattle.hardware.specs.Asked.{is}
use Rattle.hardware.specs.Change.{change}
use Rattle.hardware.specs.Poll.{poll}
use Rattle.sync.specs.Regs.{swsm, sw_fw_sync, set_mux, smbi_watch, mux}
use Rattle.sync.specs.Lock.{lock}
use Rattle.sync.specs.Resource.{muxed, unmuxed, release_bits}
use Rattle.hardware.proofs.Spreads.{Spreads, Open, Passes, try_holds, change_holds}
use Rattle.sync.proofs.Spreads.{Semaphores, acquire_bits_holds, release_bits_holds}
use Rattle.hostif.specs.Acquire.{hw_of, with_bits, acquired_all, acquire, give_bits, release}
use Rattle.bus.specs.declared.Layout.{Layout}
use Rattle.bus.specs.declared.Taken.{Taken}
use Rattle.bus.specs.Layout.{x550em, layout_of}
use Rattle.script.specs.Script.{commands}
use Rattle.script.proofs.Laws.{commands_unfreed}
use Rattle.transfer.specs.declared.attempt.Sequence.{Sequence}
use Rattle.transfer.specs.declared.attempt.Sequence.TheVariants.{Pulses}
use Rattle.transfer.specs.Transfer.{handing, keeping}
use Rattle.transfer.specs.Attempt.{attempt}
use Rattle.transfer.specs.Calls.{dropped, script}
use Rattle.i2c.specs.declared.How.{How}
use Rattle.i2c.specs.declared.once.Request.{Request}
use Rattle.i2c.specs.declared.once.Request.TheVariants.{ReadByte, WriteByte, ReadCombined, WriteCombined}
use Rattle.i2c.specs.I2c.{mask, qsfp, locked, is_write, device_of, script_of, gives_value, failed_i2c, once, when_lock, pauses, read_judged, read_tries, write_tries, given_up, writes, retried, granted, given_bus, on_grant, with_bus, ask_bus, give_bus, handshaken, transferred}
use Rattle.i2c.specs.Shown.{Phase, outside, opens, phase_after, begins, Shown}
use Rattle.i2c.proofs.Laws.{body_is}
use Rattle.i2c.proofs.Masks.{mask_plain, mask_some}
use Rattle.i2c.proofs.Spreads.{granted_holds}
use Rattle.i2c.proofs.Shows.{Shows, Anywhere, shows_bind, shows_try, shows_either, shows_shown}
use Rattle.i2c.proofs.Phases.{Ended, Attempted, flush_after, flush_begins, commands_show}

-- no attempt is on at the end
abbrev pub Out : {A : Type 0} → A → Phase → Type 0
Out v s = s ≡ outside

-- a call that begins and ends where no attempt is on
abbrev pub Showing : {A : Type 0} → Sequence → Port → Prog A → Type 0
Showing q port p = Shows q (layout_of port.family) false outside p Out

pub shows_ret : {A : Type 0} (q : Sequence) (port : Port) (v : A) → Showing q port (ret v)
unfolding Shows
shows_ret q port v = (refl, refl)

-- an access behind which no attempt is on: where none was; and whatever was
abbrev Stays : Sequence → Layout → Access → Type 0
Stays q l x = (begins l outside x ≡ false) × (phase_after q l outside x ≡ outside)

abbrev Leads : Sequence → Layout → Access → Type 0
Leads q l x = (s : Phase) → (begins l s x ≡ false) × (phase_after q l s x ≡ outside)

-- its first access leads outside
unfoldable Leaves : {A : Type 0} → Sequence → Layout → Prog A → Type 0
Leaves q l (ret v) = ⊥
Leaves q l (ask x f) = Leads q l x
Leaves q l (note n p) = Leaves q l p
Leaves q l (give b p) = Leaves q l p

leaves_bind : {A B : Type 0} (q : Sequence) (l : Layout) (p : Prog A) (k : A → Prog B) → Leaves q l p → Leaves q l (p >>= k)
unfolding Leaves ◌>>=◌
leaves_bind q l (ret a) k e = absurd e
leaves_bind q l (ask x f) k e = e
leaves_bind q l (note n p) k e = leaves_bind q l p k e
leaves_bind q l (give b p) k e = leaves_bind q l p k e

-- so that it is all the same where it begins
leaves_shows : {A : Type 0} (q : Sequence) (l : Layout) (due : Bool) (s : Phase) (p : Prog A) (Q : A → Phase → Type 0) → Leaves q l p → Shows q l due outside p Q → Shows q l due s p Q
unfolding Shows Leaves
leaves_shows q l due s (ret v) Q h e = absurd h
leaves_shows q l due s (ask x f) Q h e =
    ((h s).0 ∙ sym (h outside).0 ∙ e.0, λ a. rw ((h s).1 ∙ sym (h outside).1) (e.1 a))
leaves_shows q l due s (note Attempt p) Q h e = (e.0, leaves_shows q l true s p Q h e.1)
leaves_shows q l due s (note Acquires p) Q h e = leaves_shows q l due s p Q h e
leaves_shows q l due s (note Acquired p) Q h e = leaves_shows q l due s p Q h e
leaves_shows q l due s (note Released p) Q h e = leaves_shows q l due s p Q h e
leaves_shows q l due s (note Lapsed p) Q h e = leaves_shows q l due s p Q h e
leaves_shows q l due s (note (Acknowledged sample) p) Q h e = leaves_shows q l due s p Q h e
leaves_shows q l due s (give b p) Q h e = leaves_shows q l due s p Q h e

-- the registers of the locks and of the handshake are neither I2CCTL nor STATUS, which a flush reads

abbrev elsewhere : Layout → ℕ → Bool
elsewhere l register = pick (eqb register l.reg) false (pick (eqb register STATUS) false true)

others : (family : Family)
    → (elsewhere (layout_of family) 0x10140 ≡ true)
    × (elsewhere (layout_of family) (swsm family) ≡ true)
    × (elsewhere (layout_of family) (sw_fw_sync family) ≡ true)
    × (elsewhere (layout_of family) ESDP ≡ true)
    × (eqb STATUS (layout_of family).reg ≡ false)
unfolding layout_of x550em swsm sw_fw_sync is pick
others F82599 = (refl, refl, refl, refl, refl)
others X540 = (refl, refl, refl, refl, refl)
others X550 = (refl, refl, refl, refl, refl)
others X552 = (refl, refl, refl, refl, refl)
others X553 = (refl, refl, refl, refl, refl)

elsewhere_leads : (q : Sequence) (l : Layout) (register : ℕ) → elsewhere l register ≡ true → Leads q l (Read register) × ((v : ℕ) → Leads q l (Write register v))
unfolding begins phase_after pick
elsewhere_leads q l register e = by (eqb register l.reg) (eqb register STATUS) refl refl e
  where
    by : (b c : Bool) → eqb register l.reg ≡ b → eqb register STATUS ≡ c → pick b false (pick c false true) ≡ true
        → Leads q l (Read register) × ((v : ℕ) → Leads q l (Write register v))
    by true c h i e = absurd (false≢true e)
    by false true h i e = absurd (false≢true e)
    by false false h i e = (λ s. (rw h refl, rw h (rw i refl)), λ v s. (refl, rw h refl))

elsewhere_open : (q : Sequence) (l : Layout) (register : ℕ) → elsewhere l register ≡ true → Open (Stays q l) register
elsewhere_open q l register e = let lead = elsewhere_leads q l register e in record { reads = lead.0 outside; writes = λ v. lead.1 v outside }

-- where a transfer may begin an attempt, and where it may end: with the lock, no attempt is on
unfoldable Ready : Bool → Phase → Type 0
Ready true s = s ≡ outside
Ready false s = opens s ≡ true

unfoldable Rests : Bool → Phase → Type 0
Rests true s = s ≡ outside
Rests false s = Unit {0}

abbrev Settled : {A : Type 0} → Bool → A → Phase → Type 0
Settled lock v s = Rests lock s

outside_ready : (lock : Bool) → Ready lock outside
unfolding Ready
outside_ready true = refl
outside_ready false = refl

ready_rests : (lock : Bool) (s : Phase) → Ready lock s → Rests lock s
unfolding Ready Rests
ready_rests true s h = h
ready_rests false s h = tt

out_rests : (lock : Bool) (s : Phase) → s ≡ outside → Rests lock s
out_rests lock s h = ready_rests lock s (rw h (outside_ready lock))

-- behind an attempt that failed on the module bus the next one may begin
failed_opens : (r : R Taken) (s : Phase) → Attempted r s → failed_i2c r ≡ true → opens s ≡ true
unfolding Ended failed_i2c
failed_opens (Ok t) s q h = absurd (false≢true h)
failed_opens (Err e) s q h = ap opens (q h)

never_pauses : (r : Request) → pauses r false ≡ false
unfolding pauses
never_pauses (ReadByte d o) = refl
never_pauses (WriteByte d o v) = refl
never_pauses (ReadCombined d reg) = refl
never_pauses (WriteCombined d reg v) = refl

module _ (q : Sequence) (port : Port) where
  abbrev lines : Layout
  lines = layout_of port.family

  abbrev apart : eqb STATUS lines.reg ≡ false
  apart = (others port.family).4

  abbrev how : Bool → How
  how lock = record { lock = lock; sequence = q }

  -- the calls on the locks, and the handshake

  out_spreads : Spreads (λ A p. Showing q port p) (Stays q lines)
  unfolding Shows
  out_spreads =
      record {
        ends = λ A v. shows_ret q port v;
        asks = λ A x f m d. (m.0, λ a. rw m.1 (d a));
        binds = λ A B p k e d. shows_bind q lines false outside p k Out Out e (λ a t h. rw h (d a));
        lapses = λ A p e. e;
      }

  passes_out : Passes (Stays q lines)
  unfolding begins phase_after
  passes_out = record { flushes = (flush_begins q lines apart outside, flush_after q lines apart outside); waits = λ us. (refl, refl) }

  semaphores_out : Semaphores (Stays q lines) port.family
  semaphores_out =
      record {
        passes = passes_out;
        first = elsewhere_open q lines _ (others port.family).0;
        swsm = elsewhere_open q lines _ (others port.family).1;
        sync = elsewhere_open q lines _ (others port.family).2;
      }

  esdp_out : Open (Stays q lines) ESDP
  esdp_out = elsewhere_open q lines _ (others port.family).3

  acquire_shows : Showing q port (acquire port (mask port))
  unfolding acquire acquired_all pick Shows
  acquire_shows =
      rw (mask_plain port)
      (try_holds _ (Stays q lines) out_spreads _ _ (acquire_bits_holds _ (Stays q lines) out_spreads port _ semaphores_out (λ e. esdp_out)) (λ _. (refl, refl)))

  lock_leaves : Leaves q lines (lock port.family)
  unfolding lock smbi_watch poll Leaves ◌>>=◌
  lock_leaves = (elsewhere_leads q lines _ (others port.family).1).0

  change_leaves : (c : Change) → c.register ≡ ESDP → Leaves q lines (change c)
  unfolding change Leaves ◌>>=◌
  change_leaves c e = rw e (elsewhere_leads q lines ESDP (others port.family).3).0

  bits_leave : (bits : ℕ) → Leaves q lines (release_bits port bits)
  unfolding release_bits muxed unmuxed set_mux or_err pick ◌>>=◌
  bits_leave bits = by (mux port bits)
    where
      by : (b : Bool) → Leaves q lines (pick b (change (set_mux false)) (ret (Ok tt)) >>? λ _. unmuxed port bits)
      by true = leaves_bind q lines _ _ (change_leaves (set_mux false) refl)
      by false = leaves_bind q lines _ _ lock_leaves

  given_shows : (s : Phase) (bits : ℕ) → eqb bits 0 ≡ false → Shows q lines false s (give_bits port bits (Ok tt)) Out
  unfolding give_bits with_bits pick
  given_shows s bits some =
      rw some
      (leaves_shows q lines false s _ Out (leaves_bind q lines _ _ (bits_leave bits))
      (try_holds _ (Stays q lines) out_spreads _ _ (release_bits_holds _ (Stays q lines) out_spreads port bits semaphores_out (λ e. esdp_out)) (λ _. shows_ret q port _)))

  release_shows : (s : Phase) → Shows q lines false s (release port (mask port)) Out
  unfolding release pick Shows
  release_shows s = rw (mask_plain port) (given_shows s (hw_of (mask port)) (mask_some port))

  change_shows : (c : Change) → c.register ≡ ESDP → (s : Phase) → Shows q lines false s (change c) Out
  change_shows c e s =
      leaves_shows q lines false s _ Out (change_leaves c e) (change_holds _ (Stays q lines) out_spreads passes_out c (rw e esdp_out))

  granted_shows : (n : ℕ) → Showing q port (granted n)
  granted_shows n = granted_holds _ (Stays q lines) out_spreads passes_out esdp_out.reads n

  -- an attempt, and the loops around it

  once_shows : (r : Request) (lock : Bool) (s : Phase) → opens s ≡ true → Shows q lines false s (once port r (how lock)) Attempted
  unfolding once
  once_shows r lock s h =
      subst (λ f. Shows q lines false s (attempt q lines (device_of r) f) Attempted) (body_is lines r)
      (commands_show q lines apart keeping (device_of r) (commands (script_of r)) s (commands_unfreed (script_of r)) h)

  taken_shows : (lock : Bool) (s : Phase) (k : Prog (R Taken)) → Ready lock s → ((t : Phase) → opens t ≡ true → Shows q lines false t k (Settled lock))
      → Shows q lines false s (when_lock lock (acquire port (mask port)) k) (Settled lock)
  unfolding when_lock Ready Rests pick
  taken_shows true s k h e = rw h (shows_try q lines outside _ _ Out Out acquire_shows (λ _ t i. rw i (e outside refl)) (λ x t i. i))
  taken_shows false s k h e = e s h

  again_shows : (r : Request) (lock : Bool) (again : Unit {0} → Prog (R Taken)) (s : Phase) → Ready lock s
      → ((t : Phase) → Ready lock t → Shows q lines false t (again tt) (Settled lock))
      → Shows q lines false s (pick (pauses r lock) (delay_ms 100 >>? λ _. again tt) (again tt)) (Settled lock)
  unfolding Shows begins phase_after Ready Rests or_err pick ◌>>=◌
  again_shows r true again s h e =
      rw h (shows_either q lines outside (pauses r true) _ _ Out (λ _. (refl, λ a. e outside refl)) (λ _. e outside refl))
  again_shows r false again s h e = rw (never_pauses r) (e s h)

  judged_shows : (r : Request) (lock : Bool) (again : Unit {0} → Prog (R Taken)) (result : R Taken) (s : Phase) → Rests lock s
      → (failed_i2c result ≡ true → Ready lock s) → ((t : Phase) → Ready lock t → Shows q lines false t (again tt) (Settled lock))
      → Shows q lines false s (read_judged r lock again result) (Settled lock)
  unfolding read_judged Shows
  judged_shows r lock again result s h i e =
      shows_either q lines s (failed_i2c result) _ _ (Settled lock) (λ j. again_shows r lock again s (i j) e) (λ _. (refl, h))

  given_back_shows : (r : Request) (lock : Bool) (again : Unit {0} → Prog (R Taken)) (result : R Taken) (s : Phase) → Attempted result s
      → ((t : Phase) → Ready lock t → Shows q lines false t (again tt) (Settled lock))
      → Shows q lines false s (when_lock lock (release port (mask port)) (read_judged r lock again result)) (Settled lock)
  unfolding when_lock Ready Rests pick
  given_back_shows r true again result s h e =
      shows_try q lines s _ _ Out Out (release_shows s) (λ _ t p. rw p (judged_shows r true again result outside refl (λ _. refl) e)) (λ x t p. p)
  given_back_shows r false again result s h e = judged_shows r false again result s tt (failed_opens result s h) e

  tries_shows : (r : Request) (lock : Bool) (n : ℕ) (s : Phase) → Ready lock s → Shows q lines false s (read_tries port r (how lock) n) (Settled lock)
  unfolding read_tries Shows
  tries_shows r lock zero s h = (refl, ready_rests lock s h)
  tries_shows r lock (suc n) s h =
      taken_shows lock s _ h
      (λ t o. shows_bind q lines false t _ _ Attempted (Settled lock) (once_shows r lock t o)
      (λ result u i. given_back_shows r lock _ result u i (tries_shows r lock n)))

  write_tries_shows : (r : Request) (lock : Bool) (n : ℕ) (before : R Taken) (s : Phase) → opens s ≡ true → Shows q lines false s (write_tries port r (how lock) n before) Anywhere
  unfolding write_tries Shows
  write_tries_shows r lock zero before s h = (refl, tt)
  write_tries_shows r lock (suc n) before s h =
      shows_bind q lines false s _ _ Attempted Anywhere (once_shows r lock s h)
      (λ result t i.
      shows_either q lines t (failed_i2c result) _ _ Anywhere (λ j. write_tries_shows r lock n result t (failed_opens result t i j)) (λ _. (refl, tt)))

  given_up_shows : (lock : Bool) (result : R Taken) (s : Phase) → Shows q lines false s (given_up port lock result) (Settled lock)
  unfolding given_up when_lock Rests Shows pick
  given_up_shows true result s = shows_try q lines s _ _ Out Out (release_shows s) (λ _ t p. (refl, p)) (λ x t p. p)
  given_up_shows false result s = (refl, tt)

  retried_shows : (r : Request) (lock : Bool) (n : ℕ) → Shows q lines false outside (retried port r (how lock) n) (Settled lock)
  unfolding retried writes
  retried_shows r lock n =
      shows_either q lines outside (is_write r) _ _ (Settled lock)
      (λ _. taken_shows lock outside _ (outside_ready lock)
      (λ t o.
      shows_bind q lines false t _ _ Anywhere (Settled lock) (write_tries_shows r lock 2 _ t o) (λ result u _. given_up_shows lock result u)))
      (λ _. tries_shows r lock n outside (outside_ready lock))

  grant_shows : (device : ℕ) (f : Prog (R Taken)) (lock got : Bool) → Shows q lines false outside f (Settled lock)
      → Shows q lines false outside (on_grant device f got) (Settled lock)
  unfolding on_grant given_bus Shows
  grant_shows device f lock got e =
      shows_bind q lines false outside _ _ (Settled lock) (Settled lock)
      (shows_either q lines outside got f _ (Settled lock) (λ _. e) (λ _. (refl, out_rests lock _ refl)))
      (λ result s _. shows_try q lines s _ _ Out (Settled lock) (change_shows give_bus refl s) (λ _ t p. (refl, out_rests lock t p)) (λ x. out_rests lock))

  with_bus_shows : (device : ℕ) (f : Prog (R Taken)) (lock : Bool) → Shows q lines false outside f (Settled lock)
      → Shows q lines false outside (with_bus port device f) (Settled lock)
  unfolding with_bus
  with_bus_shows device f lock e =
      shows_either q lines outside (qsfp port) _ _ (Settled lock)
      (λ _. shows_try q lines outside _ _ Out (Settled lock) (change_shows ask_bus refl outside)
      (λ _ t h. rw h (shows_try q lines outside _ _ Out (Settled lock) (granted_shows 200) (λ got u p. rw p (grant_shows device f lock got e)) (λ x. out_rests lock)))
      (λ x. out_rests lock))
      (λ _. e)

  handshaken_shows : (r : Request) (f : Prog (R Taken)) (lock : Bool) → Shows q lines false outside f (Settled lock)
      → Shows q lines false outside (handshaken port r f) (Settled lock)
  unfolding handshaken
  handshaken_shows (ReadByte d o) f lock e = with_bus_shows d f lock e
  handshaken_shows (WriteByte d o v) f lock e = with_bus_shows d f lock e
  handshaken_shows (ReadCombined d reg) f lock e = e
  handshaken_shows (WriteCombined d reg v) f lock e = e

  transferred_shows : (r : Request) (lock : Bool) (n : ℕ) → Shows q lines false outside (transferred port r (how lock) n) (Settled lock)
  unfolding transferred gives_value Shows
  transferred_shows r lock n =
      shows_bind q lines false outside _ _ (Settled lock) (Settled lock) (handshaken_shows r _ lock (retried_shows r lock n))
      (λ result s h. (refl, h))

  -- one that takes the lock, and what follows it
  pub shows_then : {A : Type 0} (r : Request) (n : ℕ) (k : R ℕ → Prog A) → ((result : R ℕ) → Showing q port (k result))
      → Showing q port (transferred port r (locked q) n >>= k)
  unfolding Rests
  shows_then r n k e = shows_bind q lines false outside _ k (Settled true) Out (transferred_shows r true n) (λ result s h. rw h (e result))

-- of every run of `read_byte`, `write_byte`, `read_combined` and `write_combined`, with the lock and without
pub transferred_shown : (port : Port) (r : Request) (how : How) (n : ℕ) (answers : List Answer) → Shown how.sequence (layout_of port.family) (transferred port r how n) answers
transferred_shown port r how n answers = shows_shown _ _ _ _ answers (transferred_shows how.sequence port r how.lock n)

script_shows : (port : Port) (s : List ℕ) → Shows Pulses (layout_of port.family) false outside (script port s) Anywhere
unfolding script dropped Shows
script_shows port s =
    shows_bind Pulses _ false outside _ _ Attempted Anywhere
    (commands_show Pulses _ (others port.family).4 handing _ (commands s) outside (commands_unfreed s) refl) (λ r t _. (refl, tt))

-- and of a script, which clears by pulses
pub script_shown : (port : Port) (s : List ℕ) (answers : List Answer) → Shown Pulses (layout_of port.family) (script port s) answers
script_shown port s answers = shows_shown _ _ _ _ answers (script_shows port s)
