-- A request of one byte of a page: its lock, its handshake, its attempts, and the module at its end.
use Prim.Native.Nat.{ℕ, ◌+◌, ◌<◌, suc, zero, max}
use mathlib.Core.Path.{◌≡◌, refl, ap, ◌∙◌, sym, subst}
use mathlib.Core.Bool.{Bool, true, false, false≢true}
use native.Mathlib.Nat.{zero-add, le-max_right, max-eq_left}
use native.Mathlib.Omega.{arith}
use lib.ListN.{get_or}
use Rattle.hardware.specs.declared.Meter.{Meter}
use Rattle.hardware.specs.declared.Port.{Port}
use Rattle.hardware.specs.Failures.{I2c}
use Rattle.hardware.specs.Prog.{Attempt, Prog, R, Ok, Err, pick, ◌>>=◌, metered, blank}
use Rattle.bus.specs.declared.Layout.{Layout}
use Rattle.bus.specs.declared.Taken.{Taken}
use Rattle.bus.specs.Layout.{layout_of}
use Rattle.bus.specs.Bus.{none, took, is_i2c}
use Rattle.wire.specs.Lines.{drawn, Rests}
use Rattle.wire.specs.Always.{nobody, Always}
use Rattle.bench.specs.Mux.{has_mux, joins}
use Rattle.hostif.specs.Acquire.{release}
use Rattle.wire.proofs.Always.{always_bind}
use Rattle.wire.proofs.Distinct.{distinct}
use Rattle.bench.specs.declared.Bench.{Bench}
use Rattle.bench.specs.declared.receiver.Chosen.{Chosen}
use Rattle.bench.specs.declared.receiver.Chosen.TheVariants.{A0, A2}
use Rattle.bench.specs.declared.receiver.Stage.TheVariants.{Idle}
use Rattle.transfer.specs.declared.attempt.Sequence.{Sequence}
use Rattle.transfer.specs.declared.attempt.Sequence.TheVariants.{Pulses, Rounds}
use Rattle.i2c.specs.declared.How.{How}
use Rattle.i2c.specs.declared.once.Request.{Request}
use Rattle.i2c.specs.declared.once.Request.TheVariants.{ReadByte}
use Rattle.i2c.specs.I2c.{locked, device_of, is_write, body, read_off, value_of, gives_value, failed_i2c, mask, once, when_lock, pauses, read_judged, read_tries, retried, with_bus, handshaken, transferred}
use Rattle.demand.specs.Claim.{CountedBench, BenchWorld, Start, Sound, Allowed, Harms, Leaves, extra}
use Rattle.demand.specs.Mux.{Settled, watched}
use Rattle.demand.proofs.Direct.{direct}
use Rattle.demand.proofs.Mux.{lifted}
use Rattle.demand.specs.WriteClaim.{address_of}
use Rattle.demand.proofs.Receiver.{idle_free}
use Rattle.demand.proofs.Bytes.{heard}
use Rattle.demand.proofs.ReadByte.{Kept, byte_at}
use Rattle.demand.proofs.Attempts as Attempts
use Rattle.demand.proofs.Attempts.{more, Frees}
use Rattle.demand.proofs.Handshake as Handshake
use Rattle.demand.proofs.Handshake.{world, at, switch, Fit, switch_sound, switch_joins}

-- the bytes of page A0
abbrev pub bytes : CountedBench → ℕ → ℕ
bytes m i = byte_at A0 m.bench i

-- a byte was acknowledged since, or none
abbrev heard_by : Bool → CountedBench → CountedBench
heard_by true m = heard m
heard_by false m = m

abbrev slowest_by : Bool → ℕ → ℕ
slowest_by true s = max s 1
slowest_by false s = s

-- the module at n, when j transfers were made since m, the last of which left it idle: the bytes as they were, both lines released,
-- and ESDP as a mux needs it, where one is to be switched. any: a byte was acknowledged
pub record Since (any : Bool) (l : Layout) (mux : Bool) (m : CountedBench) (j : ℕ) (n : CountedBench) (w : ℕ) : Type 0 where
  pub idle : n.bench.receiver.stage ≡ Idle
  pub a0 : n.bench.a0.bytes ≡ m.bench.a0.bytes
  pub a2 : n.bench.a2.bytes ≡ m.bench.a2.bytes
  pub made : n.meter.transfers ≡ j + m.meter.transfers
  pub slowest : n.meter.slowest ≡ slowest_by any m.meter.slowest
  pub rests : Rests l (drawn false false) w
  pub sound : mux ≡ true → Sound n.esdp

-- all went well
abbrev pub After : Port → CountedBench → ℕ → CountedBench → ℕ → Type 0
After port = Since true (layout_of port.family) (has_mux port)

heard_then : (any : Bool) (s : ℕ) → max (slowest_by any s) 1 ≡ max s 1
heard_then true s = max-eq_left (le-max_right s 1)
heard_then false s = refl

pub after_then : {any : Bool} {l : Layout} {x : Bool} {m n o : CountedBench} {i j w v : ℕ} → Since any l x m j n w → Since true l x n i o v → Since true l x m (i + j) o v
after_then {any} {m = m} h k =
    record {
      idle = k.idle;
      a0 = k.a0 ∙ h.a0;
      a2 = k.a2 ∙ h.a2;
      made = omega (arith, k.made, h.made);
      slowest = k.slowest ∙ ap (λ s. max s 1) h.slowest ∙ heard_then any m.meter.slowest;
      rests = k.rests;
      sound = k.sound;
    }

-- so that the next request may take its lock
pub after_fit : {any : Bool} {port : Port} {m n : CountedBench} {j w : ℕ} → Since any (layout_of port.family) (has_mux port) m j n w → Fit port w n
after_fit h = record { released = λ _. h.rests.lines; sound = h.sound }

-- where the pages have the same bytes, they have the same at every offset
same_byte : (b c : Bench) (page : Chosen) (i : ℕ) → b.a0.bytes ≡ c.a0.bytes → b.a2.bytes ≡ c.a2.bytes → byte_at page b i ≡ byte_at page c i
same_byte b c A0 i e f = ap (λ l. get_or l i 0) e
same_byte b c A2 i e f = ap (λ l. get_or l i 0) f

pub after_byte : {any : Bool} {l : Layout} {x : Bool} {m n : CountedBench} {j w : ℕ} (page : Chosen) (i : ℕ) → Since any l x m j n w → byte_at page n.bench i ≡ byte_at page m.bench i
after_byte {m = m} {n} page i h = same_byte n.bench m.bench page i h.a0 h.a2

-- a count of transfers, written otherwise
pub counted_as : {any : Bool} {l : Layout} {x : Bool} {m o : CountedBench} {i j v : ℕ} → i ≡ j → Since any l x m i o v → Since any l x m j o v
counted_as {any} {l} {x} {m} {o} {v = v} e h = subst (λ i. Since any l x m i o v) e h

pub later : {any : Bool} {l : Layout} {x : Bool} {m n o : CountedBench} {j w v : ℕ} → Since any l x m j n w → Since true l x n 1 o v → Since true l x m (suc j) o v
later h k = counted_as (omega arith) (after_then h k)

-- an idle module does not pull SDA
pub idle_held : (m : CountedBench) → m.bench.receiver.stage ≡ Idle → (direct.pulls m).sda ≡ true → ⊥
idle_held m e held = false≢true (sym (idle_free m.bench.receiver m e) ∙ held)

pub idle_extra : (m : CountedBench) → m.bench.receiver.stage ≡ Idle → extra m.bench ≡ 0
unfolding pick
idle_extra m e = rw (idle_free m.bench.receiver m e)

-- the module at the start, no transfer made yet
abbrev pub begun : Start → Bench → CountedBench
begun start b = record { bench = b; esdp = start.esdp; meter = blank }

-- at a start that is allowed a lock may be taken
pub allowed_fit : {port : Port} {start : Start} (b : Bench) → Allowed port start → Fit port start.word (begun start b)
allowed_fit b h = record { released = λ e. (h.mux e).released; sound = λ e. (h.mux e).sound }

-- what a call leaves that began there, where all went well
pub after_leaves : {l : Layout} {x : Bool} (start : Start) (b : Bench) {i j w : ℕ} {n : CountedBench} → Since true l x (begun start b) i n w → i ≡ j → Leaves l b j (world w n)
after_leaves start b {n = n} a e =
    record {
      a0 = a.a0;
      a2 = a.a2;
      idle = a.idle;
      master_released = a.rests.lines;
      module_released = ap (λ t. drawn t false) (idle_free n.bench.receiver n a.idle);
      transfers = omega (arith, a.made, e);
      slowest = a.slowest;
    }

pub leaves_byte : {l : Layout} {b : Bench} {j : ℕ} {w : BenchWorld} (page : Chosen) (i : ℕ) → Leaves l b j w → byte_at page w.other.bench i ≡ byte_at page b i
leaves_byte {b = b} {w = w} page i h = same_byte w.other.bench b page i h.a0 h.a2

-- an attempt ended, ESDP being f meanwhile and e after it; any: it went well, so that a byte was acknowledged
pub kept_after : (any : Bool) {l : Layout} {x : Bool} (m n : CountedBench) (f e : ℕ) {v : ℕ} → n.bench.receiver.stage ≡ Idle → Kept (heard_by any (more (at f m))) n
    → Rests l (drawn false false) v → (x ≡ true → Sound e) → Since any l x m 1 (at e n) v
kept_after true m n f e idle kept rests sound =
    record { idle = idle; a0 = kept.a0; a2 = kept.a2; made = omega (arith, ap (λ t. t.transfers) kept.meter); slowest = ap (λ t. t.slowest) kept.meter; rests = rests; sound = sound }
kept_after false m n f e idle kept rests sound =
    record { idle = idle; a0 = kept.a0; a2 = kept.a2; made = omega (arith, ap (λ t. t.transfers) kept.meter); slowest = ap (λ t. t.slowest) kept.meter; rests = rests; sound = sound }

-- the same beside another ESDP
pub after_at : {any : Bool} {l : Layout} {x : Bool} {j v : ℕ} (m n : CountedBench) (f e : ℕ) → Since any l x (at f m) j n v → (x ≡ true → Sound e) → Since any l x m j (at e n) v
after_at m n f e h sound = record { idle = h.idle; a0 = h.a0; a2 = h.a2; made = h.made; slowest = h.slowest; rests = h.rests; sound = sound }

-- so many transfers failed with no byte acknowledged
abbrev pub failed_of : ℕ → Meter → Meter
failed_of tries m = record { transfers = tries + m.transfers; slowest = m.slowest }

one_more : (left : ℕ) (m : Meter) → failed_of left (metered Attempt m) ≡ failed_of (suc left) m
one_more left m = ap (λ n. record { transfers = n; slowest = m.slowest }) next
  where
    next : left + suc m.transfers ≡ suc left + m.transfers
    next = omega arith

-- what a release finds
pub idle_settled : (q : Sequence) (n : CountedBench) → n.bench.receiver.stage ≡ Idle → Settled q nobody n
unfolding Settled
idle_settled Pulses n idle = tt
idle_settled Rounds n idle = (idle, refl, ap (λ t. drawn t false) (idle_free n.bench.receiver n idle))

pub harmed_settled : (q : Sequence) (n : CountedBench) → Harms q n.bench → Settled q nobody n
unfolding Settled
harmed_settled Pulses n i = tt
harmed_settled Rounds n i = absurd i

-- what holds after j transfers since m, whatever the module's state and I2CCTL then are, as long as all went well
abbrev pub Continues : {A : Type 0} → Sequence → Port → CountedBench → (A → BenchWorld → Type 0) → ℕ → Prog A → Type 0
Continues q port m Q j p = (n : CountedBench) (w : ℕ) → After port m j n w → Always (layout_of port.family) (watched q port) p (world w n) Q

-- the count written otherwise
pub counts : {A : Type 0} (q : Sequence) (port : Port) (m : CountedBench) (Q : A → BenchWorld → Type 0) {i j : ℕ} (p : Prog A) → i ≡ j → Continues q port m Q j p → Continues q port m Q i p
counts q port m Q p e h n w a = h n w (counted_as e a)

-- around the attempts: the handshake, and the value that the call gives
pub around : (q : Sequence) (port : Port) (r : Request) (how : How) (tries : ℕ) (p : Prog (R Taken)) (w : BenchWorld) (Q : R ℕ → BenchWorld → Type 0)
    → handshaken port r (retried port r how tries) ≡ with_bus port (device_of r) p
    → Always (layout_of port.family) (watched q port) p w (λ t v. Q (value_of r t) v)
    → Always (layout_of port.family) (watched q port) (transferred port r how tries) w Q
unfolding transferred gives_value Always
around q port r how tries p w Q e h =
    always_bind _ _ (handshaken port r (retried port r how tries)) (gives_value r) w Q (rw e (Handshake.bus_alone q port (device_of r) p w _ h))

-- an attempt with the mux on, or without one
abbrev pub Joined : Port → CountedBench → Type 0
Joined port m = joins (has_mux port) m.esdp ≡ true

module _ (q : Sequence) (port : Port) (w : ℕ) (m : CountedBench) (on : Joined port m) (Q : R Taken → BenchWorld → Type 0) where
  pub through : (p : Prog (R Taken)) → Always (layout_of port.family) direct p (world w m) (λ r v. v.other.esdp ≡ m.esdp → Q r v)
      → Always (layout_of port.family) (watched q port) p (world w m) Q
  through p h = lifted q port (layout_of port.family) m.esdp on Q p (world w m) refl h

module _ (q : Sequence) (port : Port) (page : Chosen) (offset : ℕ) (small : offset < 256) where
  -- the lock is given back after an attempt that ended with the module at n
  back : (w v : ℕ) (m n : CountedBench) (Q : R Taken → BenchWorld → Type 0) (k : Prog (R Taken)) → Fit port w m → Rests (layout_of port.family) (drawn false false) v
      → n.esdp ≡ (switch port true m).esdp → Settled q nobody n → Always (layout_of port.family) (watched q port) k (world v (switch port false n)) Q
      → Always (layout_of port.family) (watched q port) (when_lock true (release port (mask port)) k) (world v n) Q
  unfolding pick
  back w v m n Q k f rests s left h =
      Handshake.unlock_alone q port v n Q true k (λ _. record { released = λ _. rests.lines; sound = λ e. rw s (switch_sound port true m f.sound e) }) (λ _. left) h

  -- and ESDP is then as it has to be
  back_sound : (w : ℕ) (m n : CountedBench) → Fit port w m → n.esdp ≡ (switch port true m).esdp → has_mux port ≡ true → Sound (switch port false n).esdp
  back_sound w m n f s e = switch_sound port false n (λ e. rw s (switch_sound port true m f.sound e)) e

  -- what comes after an attempt, with so many left
  abbrev Judged : ℕ → (R Taken → BenchWorld → Type 0) → R Taken → BenchWorld → Type 0
  Judged left Q result v =
      Always (layout_of port.family) (watched q port)
      (when_lock true (release port (mask port)) (read_judged (ReadByte (address_of page) offset) true (λ _. read_tries port (ReadByte (address_of page) offset) (locked q) left) result)) v Q

  -- with SDA free one attempt does
  tries_read : (left w : ℕ) (m : CountedBench) (a b : Bool) (Q : R Taken → BenchWorld → Type 0) → Fit port w m → Rests (layout_of port.family) (drawn a b) w
      → byte_at page m.bench offset < 256 → (direct.pulls m).sda ≡ false
      → ((n : CountedBench) (v : ℕ) → After port m 1 n v → Q (Ok (took none (byte_at page m.bench offset))) (world v n))
      → Always (layout_of port.family) (watched q port) (read_tries port (ReadByte (address_of page) offset) (locked q) (suc left)) (world w m) Q
  unfolding read_tries once body device_of read_judged failed_i2c pick Always
  tries_read left w m a b Q f r v free h =
      Handshake.lock_alone q port w m Q true _ (λ _. f)
      (always_bind _ _ (once port (ReadByte (address_of page) offset) (locked q)) _ (world w (switch port true m)) Q
      (through q port w (switch port true m) (switch_joins port m) (Judged left Q) (once port (ReadByte (address_of page) offset) (locked q))
      (Attempts.attempt_reads q (layout_of port.family) (distinct port.family) page offset w (switch port true m) a b (λ r v. v.other.esdp ≡ (switch port true m).esdp → Judged left Q r v) r small v free
      (λ n u idle kept rests s. back w u m n Q _ f rests s (idle_settled q n idle) (h (switch port false n) u (kept_after true m n (switch port true m).esdp (switch port false n).esdp idle kept rests (back_sound w m n f s)))))))

  -- where the sequence frees it, the first attempt clears and the second reads
  tries_clear : (left w : ℕ) (m : CountedBench) (a b : Bool) (Q : R Taken → BenchWorld → Type 0) → Fit port w m → Rests (layout_of port.family) (drawn a b) w
      → byte_at page m.bench offset < 256 → (direct.pulls m).sda ≡ true → Frees q m.bench.receiver
      → ((n : CountedBench) (v : ℕ) → After port m 2 n v → Q (Ok (took none (byte_at page m.bench offset))) (world v n))
      → Always (layout_of port.family) (watched q port) (read_tries port (ReadByte (address_of page) offset) (locked q) (suc (suc left))) (world w m) Q
  unfolding read_tries once body device_of read_judged failed_i2c is_i2c pauses pick
  tries_clear left w m a b Q f r v held s h =
      Handshake.lock_alone q port w m Q true _ (λ _. f)
      (always_bind _ _ (once port (ReadByte (address_of page) offset) (locked q)) _ (world w (switch port true m)) Q
      (through q port w (switch port true m) (switch_joins port m) (Judged (suc left) Q) (once port (ReadByte (address_of page) offset) (locked q))
      (Attempts.attempt_clears q (layout_of port.family) (distinct port.family) (address_of page) _ w (switch port true m) a b (λ r v. v.other.esdp ≡ (switch port true m).esdp → Judged (suc left) Q r v) r held s
      (λ n u idle kept rests t.
      back w u m n Q _ f rests t (idle_settled q n idle)
      (Handshake.pause_alone q port u (switch port false n) Q 100 _ (again (switch port false n) u (kept_after false m n (switch port true m).esdp (switch port false n).esdp idle kept rests (back_sound w m n f t))))))))
    where
      again : (n : CountedBench) (u : ℕ) → Since false (layout_of port.family) (has_mux port) m 1 n u
          → Always (layout_of port.family) (watched q port) (read_tries port (ReadByte (address_of page) offset) (locked q) (suc left)) (world u n) Q
      again n u k =
          tries_read left u n false false Q (after_fit k) k.rests (rw (after_byte page offset k) v) (idle_free n.bench.receiver n k.idle)
          (λ o y f. rw (after_byte page offset k) (h o y (later k f)))

  -- where the sequence harms it, every attempt fails
  tries_fail : (tries w : ℕ) (m : CountedBench) (a b : Bool) (Q : R Taken → BenchWorld → Type 0) → Fit port w m → Rests (layout_of port.family) (drawn a b) w
      → Harms q m.bench
      → ((n : CountedBench) (v : ℕ) → n.meter ≡ failed_of tries m.meter → Q (Err (I2c (address_of page))) (world v n))
      → Always (layout_of port.family) (watched q port) (read_tries port (ReadByte (address_of page) offset) (locked q) tries) (world w m) Q
  unfolding read_tries once body device_of read_judged failed_i2c is_i2c pauses pick Always
  tries_fail zero w m a b Q f r e h = h m w (ap (λ n. record { transfers = n; slowest = m.meter.slowest }) (sym (zero-add m.meter.transfers)))
  tries_fail (suc left) w m a b Q f r e h =
      Handshake.lock_alone q port w m Q true _ (λ _. f)
      (always_bind _ _ (once port (ReadByte (address_of page) offset) (locked q)) _ (world w (switch port true m)) Q
      (through q port w (switch port true m) (switch_joins port m) (Judged left Q) (once port (ReadByte (address_of page) offset) (locked q))
      (Attempts.attempt_stays q (layout_of port.family) (distinct port.family) (address_of page) _ w (switch port true m) a b (λ r v. v.other.esdp ≡ (switch port true m).esdp → Judged left Q r v) r e
      (λ n u ack made rests t.
      back w u m n Q _ f rests t (harmed_settled q n ack)
      (Handshake.pause_alone q port u (switch port false n) Q 100 _
      (tries_fail left u (switch port false n) false false Q (record { released = λ _. rests.lines; sound = back_sound w m n f t }) rests ack (λ o v made'. h o v (made' ∙ ap (failed_of left) made ∙ one_more left m.meter))))))))

  -- a read of the page, and what comes after it
  then : {A : Type 0} (tries : ℕ) (w : BenchWorld) (k : R ℕ → Prog A) (Q : A → BenchWorld → Type 0)
      → Always (layout_of port.family) (watched q port) (read_tries port (ReadByte (address_of page) offset) (locked q) tries) w
      (λ r v. Always (layout_of port.family) (watched q port) (k (value_of (ReadByte (address_of page) offset) r)) v Q)
      → Always (layout_of port.family) (watched q port) (transferred port (ReadByte (address_of page) offset) (locked q) tries >>= k) w Q
  unfolding handshaken retried is_write pick device_of
  then tries w k Q h =
      always_bind _ _ (transferred port (ReadByte (address_of page) offset) (locked q) tries) k w Q
      (around q port (ReadByte (address_of page) offset) (locked q) tries _ w _ refl h)

  -- a request, by the module's state at its beginning
  pub request_read : {A : Type 0} (tries left w : ℕ) (m : CountedBench) (a b : Bool) (k : R ℕ → Prog A) (Q : A → BenchWorld → Type 0) → tries ≡ suc left
      → Fit port w m → Rests (layout_of port.family) (drawn a b) w → byte_at page m.bench offset < 256 → (direct.pulls m).sda ≡ false
      → Continues q port m Q 1 (k (Ok (byte_at page m.bench offset)))
      → Always (layout_of port.family) (watched q port) (transferred port (ReadByte (address_of page) offset) (locked q) tries >>= k) (world w m) Q
  unfolding value_of read_off
  request_read tries left w m a b k Q e f r v free h = rw e (then (suc left) (world w m) k Q (tries_read left w m a b _ f r v free h))

  pub request_clears : {A : Type 0} (tries left w : ℕ) (m : CountedBench) (a b : Bool) (k : R ℕ → Prog A) (Q : A → BenchWorld → Type 0)
      → tries ≡ suc (suc left)
      → Fit port w m → Rests (layout_of port.family) (drawn a b) w → byte_at page m.bench offset < 256 → (direct.pulls m).sda ≡ true → Frees q m.bench.receiver
      → Continues q port m Q 2 (k (Ok (byte_at page m.bench offset)))
      → Always (layout_of port.family) (watched q port) (transferred port (ReadByte (address_of page) offset) (locked q) tries >>= k) (world w m) Q
  unfolding value_of read_off
  request_clears tries left w m a b k Q e f r v held s h = rw e (then (suc (suc left)) (world w m) k Q (tries_clear left w m a b _ f r v held s h))

  pub request_fails : {A : Type 0} (tries w : ℕ) (m : CountedBench) (a b : Bool) (k : R ℕ → Prog A) (Q : A → BenchWorld → Type 0)
      → Fit port w m → Rests (layout_of port.family) (drawn a b) w → Harms q m.bench
      → ((n : CountedBench) (v : ℕ) → n.meter ≡ failed_of tries m.meter → Always (layout_of port.family) (watched q port) (k (Err (I2c (address_of page)))) (world v n) Q)
      → Always (layout_of port.family) (watched q port) (transferred port (ReadByte (address_of page) offset) (locked q) tries >>= k) (world w m) Q
  unfolding value_of
  request_fails tries w m a b k Q f r e h = then tries (world w m) k Q (tries_fail tries w m a b _ f r e h)

  -- the next request
  pub request_next_lem : {A : Type 0} {m n : CountedBench} (tries left j w : ℕ) (k : R ℕ → Prog A) (Q : A → BenchWorld → Type 0) → tries ≡ suc left
      → After port m j n w → byte_at page m.bench offset < 256
      → Continues q port m Q (suc j) (k (Ok (byte_at page m.bench offset)))
      → Always (layout_of port.family) (watched q port) (transferred port (ReadByte (address_of page) offset) (locked q) tries >>= k) (world w n) Q
  request_next_lem {m} {n} tries left j w k Q e h v f =
      request_read tries left w n false false k Q e (after_fit h) h.rests (rw (after_byte page offset h) v) (idle_free n.bench.receiver n h.idle) (λ o u g. rw (after_byte page offset h) (f o u (later h g)))
