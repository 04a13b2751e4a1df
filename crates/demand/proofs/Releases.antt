-- In a run of `identify` on a port with a mux each release begins by clearing the bit, and with the default sequence it finds the
-- module idle with both lines released. A release that reads ESDP as FFFFFFFF clears nothing and fails; that failure is not taken for
-- an absent module, so that the call would end with it, and under the premises it does not (`identified_ended`).
use Prim.Native.Nat.{ℕ, suc, zero}
use mathlib.Core.Path.{◌≡◌, refl}
use mathlib.Core.Bool.{Bool, true, false}
use mathlib.Core.List.{List}
use lib.Dec.{eqb}
use Rattle.hardware.specs.declared.Access.{Access}
use Rattle.hardware.specs.declared.Access.TheVariants.{Read, Write, Wait}
use Rattle.hardware.specs.declared.Answer.{Answer}
use Rattle.hardware.specs.declared.Answer.TheVariants.{Value, Done, Failed}
use Rattle.hardware.specs.declared.Port.{Port}
use Rattle.hardware.specs.Change.{changed, stored, change}
use Rattle.hardware.specs.Failures.{Removed}
use Rattle.hardware.specs.Prog.{Prog, ret, ask, note, give, Note, Attempt, Acquires, Acquired, Released, Lapsed, Acknowledged, R, Ok, Err, or_err, ◌>>=◌, ◌>>?◌, pick}
use Rattle.hardware.specs.Registers.{ESDP, none_of, checked}
use Rattle.sync.specs.Regs.{set_mux}
use Rattle.sync.specs.Resource.{muxed, release_bits}
use Rattle.hostif.specs.Acquire.{with_bits, acquired_all, acquire, give_bits, release}
use Rattle.transfer.specs.declared.attempt.Sequence.{Sequence}
use Rattle.transfer.specs.Attempt.{attempt}
use Rattle.bus.specs.declared.Taken.{Taken}
use Rattle.bus.specs.Bus.{is_i2c}
use Rattle.bus.specs.Layout.{layout_of}
use Rattle.wire.specs.Lines.{master, Each}
use Rattle.wire.specs.Machine.{models, modelled, reply, after, noted}
use Rattle.wire.specs.Run.{Given, given, nothing, refused, listed, BenchOutcome, ended, short, stopped, BenchRun, proceed, run}
use Rattle.bench.specs.declared.Bench.{Bench}
use Rattle.bench.specs.Mux.{has_mux}
use Rattle.i2c.specs.declared.How.{How}
use Rattle.i2c.specs.declared.once.Request.{Request}
use Rattle.i2c.specs.declared.once.Request.TheVariants.{ReadByte}
use Rattle.i2c.specs.I2c.{mask, locked, is_write, value_of, once, when_lock, read_judged, read_tries, retried, with_bus, handshaken, gives_value, transferred}
use Rattle.i2c.proofs.Masks.{mask_plain, mask_bits, mask_some}
use Rattle.i2c.proofs.Noteless.{once_noteless}
use Rattle.i2c.proofs.Quiet.{Quiet, quiet_noteless, quiet_try, quiet_ret, delay_quiet, acquire_bits_quiet, release_bits_quiet}
use Rattle.sfp.specs.declared.Identity.{Identity}
use Rattle.sfp.specs.Identify.{EEPROM, or_absent, byte, identify}
use Rattle.sfp.proofs.Spreads.{identify_bytes}
use Rattle.demand.specs.Claim.{machine, BenchWorld, Start, at_start, bench_run, Starts, Premises, Says, Absent, call}
use Rattle.demand.specs.Mux.{Settled, Switches, Switched, NextClears, AtRelease, Releases}
use Rattle.demand.proofs.Locks.{esdp_apart}
use Rattle.demand.proofs.Mux.{mux_cleared}
use Rattle.demand.proofs.Handshake.{mux_there}
use Rattle.demand.proofs.Claim.{identified_ended}
use Rattle.demand.proofs.Switched.{not_qsfp, identify_switches}

-- ---- of a call, whatever the answers are

-- What comes next is a write of ESDP with the bit clear, with nothing before it but reads of ESDP; E holds of the result where the call
-- ends instead
unfoldable Clearing : {A : Type 0} → Prog A → (A → Type 0) → Type 0
Clearing (ret a) E = E a
Clearing (ask (Read r) f) E = (r ≡ ESDP) × ((a : Answer) → Clearing (f a) E)
Clearing (ask (Write r v) f) E = (r ≡ ESDP) × (none_of v 2 ≡ true)
Clearing (ask (Wait n) f) E = ⊥
Clearing (note n p) E = ⊥
Clearing (give b p) E = ⊥

-- so behind the beginning of each release
unfoldable Clears : {A : Type 0} → Prog A → (A → Type 0) → Type 0
Clears (ret a) E = Unit {0}
Clears (ask x f) E = (a : Answer) → Clears (f a) E
Clears (note n p) E = AtRelease n (Clearing p E) × Clears p E
Clears (give b p) E = Clears p E

release_map : (n : Note) {X Y : Type 0} → (X → Y) → AtRelease n X → AtRelease n Y
release_map Attempt f x = tt
release_map Acquires f x = tt
release_map Acquired f x = tt
release_map Released f x = f x
release_map Lapsed f x = tt
release_map (Acknowledged sample) f x = tt

-- one call after another
clearing_bind : {A B : Type 0} (p : Prog A) (k : A → Prog B) (D : A → Type 0) (E : B → Type 0) → Clearing p D → ((a : A) → D a → Clearing (k a) E) → Clearing (p >>= k) E
unfolding Clearing ◌>>=◌
clearing_bind (ret a) k D E c d = d a c
clearing_bind (ask (Read r) f) k D E c d = (c.0, λ a. clearing_bind (f a) k D E (c.1 a) d)
clearing_bind (ask (Write r v) f) k D E c d = c
clearing_bind (ask (Wait n) f) k D E c d = c
clearing_bind (note n p) k D E c d = c
clearing_bind (give b p) k D E c d = c

clears_bind : {A B : Type 0} (p : Prog A) (k : A → Prog B) (D : A → Type 0) (E : B → Type 0) → Clears p D → ((a : A) → D a → Clearing (k a) E) → ((a : A) → Clears (k a) E) → Clears (p >>= k) E
unfolding Clears ◌>>=◌
clears_bind (ret a) k D E c d e = e a
clears_bind (ask x f) k D E c d e = λ a. clears_bind (f a) k D E (c a) d e
clears_bind (note n p) k D E c d e = (release_map n (λ h. clearing_bind p k D E h d) c.0, clears_bind p k D E c.1 d e)
clears_bind (give b p) k D E c d e = clears_bind p k D E c d e

-- a call that releases nothing
quiet_clears : {A : Type 0} (p : Prog A) (E : A → Type 0) → Quiet p → Clears p E
unfolding Clears Quiet
quiet_clears (ret a) E h = tt
quiet_clears (ask x f) E h = λ a. quiet_clears (f a) E (h a)
quiet_clears (note Attempt p) E h = absurd h
quiet_clears (note Acquires p) E h = absurd h
quiet_clears (note Acquired p) E h = absurd h
quiet_clears (note Released p) E h = absurd h
quiet_clears (note Lapsed p) E h = (tt, quiet_clears p E h)
quiet_clears (note (Acknowledged sample) p) E h = (tt, quiet_clears p E h.1)
quiet_clears (give b p) E h = quiet_clears p E h

-- a failure that is not taken for an absent module
abbrev Broken : {A : Type 0} → R A → Type 0
Broken (Ok a) = ⊥
Broken (Err e) = is_i2c e ≡ false

abbrev Clean : {A : Type 0} → Prog (R A) → Type 0
Clean p = Clears p Broken

ret_clean : {A : Type 0} (r : R A) → Clean (ret r)
unfolding Clears
ret_clean r = tt

pick_clean : {A : Type 0} (b : Bool) (p q : Prog (R A)) → Clean p → Clean q → Clean (pick b p q)
unfolding pick
pick_clean true p q c d = c
pick_clean false p q c d = d

or_broken : {A B : Type 0} (k : A → Prog (R B)) (r : R A) → Broken r → Clearing (or_err k r) Broken
unfolding or_err Clearing
or_broken k (Ok a) h = absurd h
or_broken k (Err e) h = h

or_clean : {A B : Type 0} (k : A → Prog (R B)) (r : R A) → ((a : A) → Clean (k a)) → Clean (or_err k r)
unfolding or_err
or_clean k (Ok a) c = c a
or_clean k (Err e) c = ret_clean _

try_clean : {A B : Type 0} (p : Prog (R A)) (k : A → Prog (R B)) → Clean p → ((a : A) → Clean (k a)) → Clean (p >>? k)
try_clean p k c d = clears_bind p (or_err k) Broken Broken c (or_broken k) (λ r. or_clean k r d)

-- ESDP was read, or not
cleared : (a : Answer) → Clearing (or_err (stored (set_mux false)) (checked a)) Broken
unfolding checked or_err stored set_mux changed Clearing is_i2c pick ◌>>=◌
cleared (Value v) = by (eqb v 0xFFFFFFFF)
  where
    by : (b : Bool) → Clearing (or_err (stored (set_mux false)) (pick b (Err Removed) (Ok v))) Broken
    by true = refl
    by false = (refl, mux_cleared v)
cleared Done = refl
cleared Failed = refl

module _ (port : Port) (has : has_mux port ≡ true) where
  mux_clearing : Clearing (muxed port (mask port) false) Broken
  unfolding muxed change set_mux Clearing pick ◌>>=◌
  mux_clearing = rw (mux_there port has) (refl, cleared)

  release_clean : Clean (release port (mask port))
  unfolding release give_bits with_bits release_bits Clears pick
  release_clean =
      rw (mask_plain port, mask_some port, mask_bits port) (
        clearing_bind _ _ Broken Broken (clearing_bind _ _ Broken Broken mux_clearing (or_broken _)) (or_broken _),
        quiet_clears _ _ (quiet_try _ _ (release_bits_quiet port (mask port)) (λ _. quiet_ret _)),
      )

  acquire_clean : Clean (acquire port (mask port))
  unfolding acquire acquired_all Clears pick
  acquire_clean = rw (mask_plain port) (tt, try_clean _ _ (quiet_clears _ _ (acquire_bits_quiet port _)) (λ _. (tt, tt)))

  once_clears : (r : Request) (how : How) (E : R Taken → Type 0) → Clears (once port r how) E
  unfolding once attempt Clears
  once_clears r how E = (tt, quiet_clears _ E (quiet_noteless _ (once_noteless port r how)))

  lock_clean : (lock : Bool) (p : Prog (R (Unit {0}))) (k : Prog (R Taken)) → Clean p → Clean k → Clean (when_lock lock p k)
  unfolding when_lock
  lock_clean lock p k c d = pick_clean lock _ _ (try_clean p _ c (λ _. d)) d

  judged_clean : (r : Request) (lock : Bool) (again : Unit {0} → Prog (R Taken)) (result : R Taken) → Clean (again tt) → Clean (read_judged r lock again result)
  unfolding read_judged
  judged_clean r lock again result c =
      pick_clean _ _ _ (pick_clean _ _ _ (try_clean _ _ (quiet_clears _ _ (delay_quiet _)) (λ _. c)) c) (ret_clean result)

  tries_clean : (r : Request) (how : How) (n : ℕ) → Clean (read_tries port r how n)
  unfolding read_tries
  tries_clean r how zero = ret_clean _
  tries_clean r how (suc n) =
      lock_clean how.lock _ _ acquire_clean
      (clears_bind _ _ (λ _. ⊥) Broken (once_clears r how _) (λ _ h. absurd h)
      (λ result. lock_clean how.lock _ _ release_clean (judged_clean r how.lock _ result (tries_clean r how n))))

  value_broken : (r : Request) (t : R Taken) → Broken t → Clearing (gives_value r t) Broken
  unfolding gives_value value_of Clearing
  value_broken r (Ok t) h = absurd h
  value_broken r (Err e) h = h

  value_clean : (r : Request) (t : R Taken) → Clean (gives_value r t)
  unfolding gives_value
  value_clean r t = ret_clean _

  read_clean : (device offset : ℕ) (how : How) (n : ℕ) → Clean (transferred port (ReadByte device offset) how n)
  unfolding transferred handshaken with_bus retried is_write pick
  read_clean device offset how n =
      rw (not_qsfp port has) (clears_bind _ _ Broken Broken (tries_clean (ReadByte device offset) how n) (value_broken _) (value_clean _))

  absent_broken : (k : ℕ → Prog (R Identity)) (r : R ℕ) → Broken r → Clearing (or_absent k r) Broken
  unfolding or_absent pick Clearing
  absent_broken k (Ok v) h = absurd h
  absent_broken k (Err e) h = rw h h

  absent_clean : (k : ℕ → Prog (R Identity)) (r : R ℕ) → ((v : ℕ) → Clean (k v)) → Clean (or_absent k r)
  unfolding or_absent
  absent_clean k (Ok v) c = c v
  absent_clean k (Err e) c = pick_clean _ _ _ (ret_clean _) (ret_clean _)

  identify_clean : (q : Sequence) → Clean (identify q port)
  unfolding byte
  identify_clean q =
      identify_bytes q port (λ p. Clean p)
      (record {
        ends = λ v. ret_clean v;
        bytes = λ offset n k c. clears_bind _ _ Broken Broken (read_clean EEPROM offset (locked q) n) (absent_broken k) (λ r. absent_clean k r c);
      })

-- ---- and of a run

-- E holds of no result with which it ends
unfoldable Never : {A : Type 0} → (A → Type 0) → BenchOutcome BenchWorld A → Type 0
Never E (ended a w) = E a → ⊥
Never E (short w) = Unit {0}
Never E (stopped n w) = Unit {0}

module _ (q : Sequence) (port : Port) (has : has_mux port ≡ true) {A : Type 0} (E : A → Type 0) where
  abbrev ran : Prog A → BenchWorld → List Answer → BenchRun BenchWorld A
  ran p w answers = run (layout_of port.family) (machine port) listed p w answers

  owned : (r : ℕ) → r ≡ ESDP → models (layout_of port.family) (machine port) r ≡ true
  unfolding models
  owned r e = rw (e, esdp_apart port.family, has)

  -- the write finds the module settled, and the reads before it change nothing
  next_run : (p : Prog A) (w : BenchWorld) (answers : List Answer) → Clearing p E → Each (Switched q port) (ran p w answers).trace → Never E (ran p w answers).outcome
      → Settled q (master (layout_of port.family) w.word) w.other × NextClears q port (ran p w answers).trace
  unfolding run Clearing Switched Switches Never NextClears modelled after pick
  next_run (ret a) w answers c s n = absurd (n c)
  next_run (ask (Read r) f) w answers c s n =
      let own = owned r c.0 in
      let rest = next_run (f (reply (layout_of port.family) (machine port) (Read r) w)) w answers (c.1 _) (rw own at s).1 (rw own at n) in
      rw own (rest.0, (c.0, rest.0, rest.1))
  next_run (ask (Write r v) f) w answers c s n =
      let own = owned r c.0 in
      let here = ((rw own at s).0 c.0).1 c.1 in
      rw own (here, (c.0, c.1, here))
  next_run (ask (Wait us) f) w answers c s n = absurd c
  next_run (note k p) w answers c s n = absurd c
  next_run (give b p) w answers c s n = absurd c

  abbrev Goes : Prog A → BenchWorld → List Answer → Type 0
  Goes p w answers = Clears p E → Each (Switched q port) (ran p w answers).trace → Never E (ran p w answers).outcome → Releases q port (ran p w answers).trace

  releases_proceed : (x : Access) (f : Answer → Prog A) (w : BenchWorld) (g : Given) → ((a : Answer) (rest : List Answer) → Goes (f a) w rest) → ((a : Answer) → Clears (f a) E)
      → Each (Switched q port) (proceed x w (λ a rest. ran (f a) w rest) g).trace → Never E (proceed x w (λ a rest. ran (f a) w rest) g).outcome
      → Releases q port (proceed x w (λ a rest. ran (f a) w rest) g).trace
  unfolding proceed Releases
  releases_proceed x f w (given a rest) h c s n = h a rest (c a) s.1 n
  releases_proceed x f w nothing h c s n = tt
  releases_proceed x f w (refused m) h c s n = tt

  releases_at : (x : Access) (b : Bool) (f : Answer → Prog A) (w : BenchWorld) (answers : List Answer) → modelled (layout_of port.family) (machine port) x ≡ b
      → ((a : Answer) (w' : BenchWorld) (rest : List Answer) → Goes (f a) w' rest) → Goes (ask x f) w answers
  unfolding run pick Releases Clears
  releases_at x true f w answers e h c s n = rw e (h _ _ answers (c _) (rw e at s).1 (rw e at n))
  releases_at x false f w answers e h c s n = rw e (releases_proceed x f w (listed x answers) (λ a rest. h a w rest) c (rw e at s) (rw e at n))

  releases_run : (p : Prog A) (w : BenchWorld) (answers : List Answer) → Goes p w answers
  unfolding run Releases Clears
  releases_run (ret a) w answers c s n = tt
  releases_run (ask x f) w answers c s n = releases_at x (modelled (layout_of port.family) (machine port) x) f w answers refl (λ a w' rest. releases_run (f a) w' rest) c s n
  releases_run (note k p) w answers c s n =
      (release_map k (λ h. (next_run p (noted (machine port) k w) answers h s.1 n).1) c.0, releases_run p (noted (machine port) k w) answers c.1 s.1 n)
  releases_run (give b p) w answers c s n = releases_run p w answers c s n

module _ (q : Sequence) (port : Port) (b : Bench) (start : Start) (answers : List Answer) (s : Starts port b start) (m : Premises q port b start answers) where
  -- under the premises the call ends with no failure
  never_broken : (o : BenchOutcome BenchWorld (R Identity)) → (bench_run port (identify q port) b start answers).outcome ≡ o → Never Broken o
  unfolding Never Says Absent
  never_broken (ended (Ok i) w) e = λ h. h
  never_broken (ended (Err x) w) e = λ h. let c = identified_ended q port b start answers s m (Err x) w e in (c.facts (λ i. (c.no_module i).0)).class
  never_broken (short w) e = tt
  never_broken (stopped n w) e = tt

pub identify_releases : (q : Sequence) (port : Port) → has_mux port ≡ true → (b : Bench) (start : Start) (answers : List Answer) → Starts port b start → Premises q port b start answers
    → Releases q port (bench_run port (call q port) b start answers).trace
identify_releases q port has b start answers s m =
    releases_run q port has Broken (identify q port) (at_start start b) answers (identify_clean port has q) (identify_switches q port b start answers s m)
    (never_broken q port b start answers s m _ refl)
