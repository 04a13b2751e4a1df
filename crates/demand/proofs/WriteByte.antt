-- `write_byte` with the bench module, for every port, both pages, with and without the lock, every start that 01 allows and
-- every list of answers that meets the premises: only the byte that it names changes.
use Prim.Native.Nat.{ℕ, ◌+◌, ◌<◌, ◌≤◌, suc}
use mathlib.Core.Path.{◌≡◌, refl, ap, ◌∙◌}
use mathlib.Core.Bool.{Bool, true, false, ◌&&◌}
use mathlib.Core.List.{List}
use lib.ListN.{length, set}
use lib.Seq.{get_or-set_same, get_or-set_other}
use Rattle.hardware.specs.declared.Answer.{Answer}
use Rattle.hardware.specs.declared.Port.{Port}
use Rattle.hardware.specs.Failures.{I2c}
use Rattle.hardware.specs.Prog.{ret, R, Ok, Err, pick}
use Rattle.bus.specs.declared.Layout.{Layout}
use Rattle.bus.specs.declared.Taken.{Taken}
use Rattle.bus.specs.Layout.{layout_of}
use Rattle.bus.specs.Bus.{Bus, none, is_i2c, start, stop, send}
use Rattle.transfer.specs.declared.attempt.Sequence.{Sequence}
use Rattle.transfer.specs.Attempt.{or_tried, tried, attempt}
use Rattle.wire.specs.Lines.{drawn, Rests, Each, Distinct}
use Rattle.wire.specs.Always.{Always, Claim, FromRest}
use Rattle.wire.specs.Run.{ended}
use Rattle.wire.proofs.Always.{always_bind}
use Rattle.wire.proofs.Distinct.{distinct}
use Rattle.wire.proofs.Edges.{rests}
use Rattle.bench.specs.declared.Bench.{Bench}
use Rattle.bench.specs.declared.receiver.Act.TheVariants.{Offset, Store}
use Rattle.bench.specs.declared.receiver.Chosen.{Chosen}
use Rattle.bench.specs.declared.receiver.Chosen.TheVariants.{A0, A2}
use Rattle.bench.specs.declared.receiver.Receiver.{Receiver}
use Rattle.bench.specs.declared.receiver.Stage.TheVariants.{Idle, Receive}
use Rattle.bench.specs.Bench.{acted, page_of, pulls_low}
use Rattle.i2c.specs.declared.once.Request.TheVariants.{WriteByte}
use Rattle.i2c.specs.I2c.{standard, making, device_of, is_write, body, read_off, value_of, failed_i2c, once, write_tries, given_up, writes, retried, handshaken, transferred}
use Rattle.i2c.proofs.Ends.{TRANSFER_STEPS, transferred_ends}
use Rattle.demand.specs.Claim.{CountedBench, bench_run, at_start, extra, CallPremises, CallComes, BenchWorld, Start, Sound}
use Rattle.bench.specs.Mux.{has_mux, joins}
use Rattle.demand.specs.Mux.{watched}
use Rattle.demand.proofs.Direct.{direct}
use Rattle.demand.specs.WriteClaim.{address_of, written, WriteStarts, WriteFacts, write_call, WriteClaim}
use Rattle.demand.proofs.Receiver.{with, asked, receive_taking, taking_free, idle_free, expecting}
use Rattle.demand.proofs.Bytes.{heard}
use Rattle.demand.proofs.ReadByte.{Kept, kept_then, kept_heard, byte_at, stops, byte_sent, offset_sent}
use Rattle.demand.proofs.Attempts.{more, Frees, begins, attempt_clears}
use Rattle.demand.proofs.Handshake.{world, Fit, locked_by, unlocked_by, fit_sound, locked_sound, unlocked_sound, locked_joins}
use Rattle.demand.proofs.Requests.{Since, after_at, later, counted_as, begun, after_leaves, leaves_byte, kept_after, idle_settled, around, Joined, through}
use Rattle.demand.proofs.Handshake as Handshake
use Rattle.demand.proofs.Runs.{Steady, run_steady, run_ended, run_told}

-- one byte of a page is set
abbrev pub wrote : Chosen → ℕ → ℕ → CountedBench → CountedBench
wrote page offset value m = record { bench = written page offset value m.bench; esdp = m.esdp; meter = m.meter }

-- an offset and a byte behind it set that byte, and leave every other
stored_kept : (page : Chosen) (offset value : ℕ) (r : Receiver) (m : CountedBench) → Kept (wrote page offset value m) (with r (asked page (Store value) (asked page (Offset offset) m)))
unfolding written acted
stored_kept A0 offset value r m = record { a0 = refl; a2 = refl; meter = refl }
stored_kept A2 offset value r m = record { a0 = refl; a2 = refl; meter = refl }

-- the same with that byte set before and after
pub wrote_after : {any : Bool} {l : Layout} {x : Bool} {m n : CountedBench} {j w : ℕ} (page : Chosen) (offset value : ℕ) → Since any l x m j n w → Since any l x (wrote page offset value m) j (wrote page offset value n) w
unfolding written
wrote_after A0 offset value h = record { idle = h.idle; a0 = ap (λ bytes. set bytes offset value) h.a0; a2 = h.a2; made = h.made; slowest = h.slowest; rests = h.rests; sound = h.sound }
wrote_after A2 offset value h = record { idle = h.idle; a0 = h.a0; a2 = ap (λ bytes. set bytes offset value) h.a2; made = h.made; slowest = h.slowest; rests = h.rests; sound = h.sound }

-- every other byte of either page is as it was
pub written_other : (page which : Chosen) (offset value i : ℕ) (b : Bench) → ((which ≡ page) × (i ≡ offset) → ⊥) → byte_at which (written page offset value b) i ≡ byte_at which b i
unfolding written
written_other A0 A0 offset value i b h = get_or-set_other b.a0.bytes offset i value 0 (λ e. h (refl, e))
written_other A0 A2 offset value i b h = refl
written_other A2 A0 offset value i b h = refl
written_other A2 A2 offset value i b h = get_or-set_other b.a2.bytes offset i value 0 (λ e. h (refl, e))

written_same : (page : Chosen) (offset value : ℕ) (b : Bench) → offset < length (page_of page b).bytes → byte_at page (written page offset value b) offset ≡ value
unfolding written page_of
written_same A0 offset value b h = get_or-set_same b.a0.bytes offset value 0 h
written_same A2 offset value b h = get_or-set_same b.a2.bytes offset value 0 h

module _ (page : Chosen) (offset value : ℕ) (small : offset < 256) (byte : value < 256) where
  module _ (l : Layout) (g : Distinct l) where
    -- `write_byte`'s commands: the byte is stored, the receiver is idle and both lines are released
    pub write_byte : (a b : Bool) (m : CountedBench) (device : ℕ) {k : Bus} {Q : Claim direct} → (direct.pulls m).sda ≡ false
        → ((n : CountedBench) → n.bench.receiver.stage ≡ Idle → Kept (heard (wrote page offset value m)) n → FromRest l direct false false n k Q)
        → FromRest l direct a b m (start l (send l device (address_of page) (send l device offset (send l device value (stop l k))))) Q
    unfolding pick
    write_byte a b m device free h =
        offset_sent l g page a b m device offset small free (λ r.
        byte_sent l g page false r (asked page (Offset offset) (heard (heard m))) device value byte
        (stops l g _ (taking_free Receive receive_taking (expecting page false r) (heard (asked page (Store value) (asked page (Offset offset) (heard (heard m))))) 0 0)
        (λ n idle kept. h n idle (kept_heard (wrote page offset value m) (kept_heard (heard (wrote page offset value m)) (kept_then (stored_kept page offset value _ (heard (heard (heard m)))) kept))))))

    -- an attempt, where SDA is free
    attempt_writes : (q : Sequence) (w : ℕ) (m : CountedBench) (a b : Bool) (Q : R Taken → BenchWorld → Type 0) → Rests l (drawn a b) w → (direct.pulls m).sda ≡ false
        → ((n : CountedBench) (v : ℕ) → n.bench.receiver.stage ≡ Idle → Kept (heard (more (wrote page offset value m))) n → Rests l (drawn false false) v → Q (Ok none) (world v n))
        → Always l direct (attempt q l (address_of page) (body l (WriteByte (address_of page) offset value))) (world w m) Q
    unfolding Always tried or_tried body
    attempt_writes q w m a b Q r free h =
        begins q l g (address_of page) w m (body l (WriteByte (address_of page) offset value)) a b Q r
        (write_byte a b (more m) (address_of page) free (λ n idle kept. record { goes = λ ctl v rests. h n v idle kept rests }))

  module _ (q : Sequence) (port : Port) (lock : Bool) where
    -- as `After`, but without the lock the mux is not switched
    abbrev Written : CountedBench → ℕ → CountedBench → ℕ → Type 0
    Written = Since true (layout_of port.family) (lock && has_mux port)

    -- what comes after an attempt, with so many left
    abbrev Judged : ℕ → (R Taken → BenchWorld → Type 0) → R Taken → BenchWorld → Type 0
    Judged left Q result v =
        Always (layout_of port.family) (watched q port)
        (pick (failed_i2c result) (write_tries port (WriteByte (address_of page) offset value) (making lock q) left result) (ret result)) v Q

    -- with SDA free one attempt does
    tries_write : (left w : ℕ) (m : CountedBench) (before : R Taken) (a b : Bool) (Q : R Taken → BenchWorld → Type 0) → Joined port m → ((lock && has_mux port) ≡ true → Sound m.esdp)
        → Rests (layout_of port.family) (drawn a b) w → (direct.pulls m).sda ≡ false
        → ((n : CountedBench) (v : ℕ) → Written (wrote page offset value m) 1 n v → n.esdp ≡ m.esdp → Q (Ok none) (world v n))
        → Always (layout_of port.family) (watched q port) (write_tries port (WriteByte (address_of page) offset value) (making lock q) (suc left) before) (world w m) Q
    unfolding write_tries once device_of failed_i2c pick Always
    tries_write left w m before a b Q on sound r free h =
        always_bind _ _ (once port (WriteByte (address_of page) offset value) (making lock q)) _ (world w m) Q
        (through q port w m on (Judged left Q) (once port (WriteByte (address_of page) offset value) (making lock q))
        (attempt_writes (layout_of port.family) (distinct port.family) q w m a b (λ r v. v.other.esdp ≡ m.esdp → Judged left Q r v) r free
        (λ n v idle kept rests s. h n v (kept_after true (wrote page offset value m) n m.esdp n.esdp idle kept rests (λ e. rw s (sound e))) s)))

    -- where the sequence frees it, the first attempt clears and the second writes
    tries_clear : (left w : ℕ) (m : CountedBench) (before : R Taken) (a b : Bool) (Q : R Taken → BenchWorld → Type 0) → Joined port m → ((lock && has_mux port) ≡ true → Sound m.esdp)
        → Rests (layout_of port.family) (drawn a b) w → (direct.pulls m).sda ≡ true → Frees q m.bench.receiver
        → ((n : CountedBench) (v : ℕ) → Written (wrote page offset value m) 2 n v → n.esdp ≡ m.esdp → Q (Ok none) (world v n))
        → Always (layout_of port.family) (watched q port) (write_tries port (WriteByte (address_of page) offset value) (making lock q) (suc (suc left)) before) (world w m) Q
    unfolding write_tries once body device_of failed_i2c is_i2c pick
    tries_clear left w m before a b Q on sound r held f h =
        always_bind _ _ (once port (WriteByte (address_of page) offset value) (making lock q)) _ (world w m) Q
        (through q port w m on (Judged (suc left) Q) (once port (WriteByte (address_of page) offset value) (making lock q))
        (attempt_clears q (layout_of port.family) (distinct port.family) (address_of page) _ w m a b (λ r v. v.other.esdp ≡ m.esdp → Judged (suc left) Q r v) r held f
        (λ n u idle kept rests s. again n u s (kept_after false m n m.esdp n.esdp idle kept rests (λ e. rw s (sound e))))))
      where
        again : (n : CountedBench) (u : ℕ) → n.esdp ≡ m.esdp → Since false (layout_of port.family) (lock && has_mux port) m 1 n u
            → Always (layout_of port.family) (watched q port) (write_tries port (WriteByte (address_of page) offset value) (making lock q) (suc left) (Err (I2c (address_of page)))) (world u n) Q
        again n u s k =
            tries_write left u n (Err (I2c (address_of page))) false false Q (ap (joins (has_mux port)) s ∙ on) k.sound k.rests (idle_free n.bench.receiver n k.idle)
            (λ o y g t. h o y (later (wrote_after page offset value k) g) (t ∙ s))

    -- the call; an attempt more where the module pulls SDA at its beginning
    pub call_writes : (w : ℕ) (m : CountedBench) (a b : Bool) (Q : R ℕ → BenchWorld → Type 0) → (lock ≡ true → Fit port w m) → (lock ≡ false → Joined port m) → Rests (layout_of port.family) (drawn a b) w
        → ((direct.pulls m).sda ≡ true → Frees q m.bench.receiver)
        → ((n : CountedBench) (v : ℕ) → Written (wrote page offset value m) (1 + extra m.bench) n v → Q (Ok 0) (world v n))
        → Always (layout_of port.family) (watched q port) (transferred port (WriteByte (address_of page) offset value) (making lock q) 2) (world w m) Q
    unfolding handshaken retried is_write writes given_up device_of value_of read_off pick Always
    call_writes w m a b Q fit joined r frees h =
        around q port (WriteByte (address_of page) offset value) (making lock q) 2 _ (world w m) Q refl
        (Handshake.lock_alone q port w m _ lock _ fit
        (always_bind _ _ (write_tries port (WriteByte (address_of page) offset value) (making lock q) 2 _) _ (world w (locked_by port lock m)) _ (by (pulls_low m.bench) refl)))
      where
        over : (j : ℕ) → j ≡ 1 + extra m.bench → (n : CountedBench) (v : ℕ) → Written (wrote page offset value (locked_by port lock m)) j n v → n.esdp ≡ (locked_by port lock m).esdp
            → Always (layout_of port.family) (watched q port) (given_up port lock (Ok none)) (world v n) (λ t u. Q (value_of (WriteByte (address_of page) offset value) t) u)
        over j e n v k s =
            Handshake.unlock_alone q port v n _ lock _ (λ e. record { released = λ _. k.rests.lines; sound = λ h. k.sound (rw e h) }) (λ _. idle_settled q n k.idle)
            (h (unlocked_by port lock n) v
            (counted_as e (after_at (wrote page offset value m) n (locked_by port lock m).esdp (unlocked_by port lock n).esdp k (unlocked_sound port lock n k.sound))))

        by : (t : Bool) → pulls_low m.bench ≡ t
            → Always (layout_of port.family) (watched q port) (write_tries port (WriteByte (address_of page) offset value) (making lock q) 2 (Err (I2c (address_of page)))) (world w (locked_by port lock m))
            (λ t v. Always (layout_of port.family) (watched q port) (given_up port lock t) v (λ t u. Q (value_of (WriteByte (address_of page) offset value) t) u))
        by false e =
            tries_write 1 w (locked_by port lock m) (Err (I2c (address_of page))) a b _ (locked_joins port lock m joined) (locked_sound port lock m (fit_sound port lock w m fit)) r e (over 1 (rw e))
        by true e =
            tries_clear 0 w (locked_by port lock m) (Err (I2c (address_of page))) a b _ (locked_joins port lock m joined) (locked_sound port lock m (fit_sound port lock w m fit)) r e (frees e) (over 2 (rw e))

  module _ (port : Port) (lock : Bool) (b : Bench) (start : Start) (answers : List Answer) (s : WriteStarts port lock start)
      (m : CallPremises port (write_call port page offset value lock) b start answers) where
    started : Always (layout_of port.family) (watched standard port) (write_call port page offset value lock) (at_start start b) (WriteFacts (layout_of port.family) b page offset value)
    started =
        call_writes standard port lock start.word (begun start b) _ _ _ (λ e. record { released = λ h. (s.mux e h).released; sound = λ h. (s.mux e h).sound }) s.joined (rests (layout_of port.family) start.word s.fit) (λ _. tt)
        (λ n v k. record { result = refl; leaves = after_leaves start (written page offset value b) k refl })

    -- A byte written with the bench module, whenever the call has come to its end
    pub write_claimed_ended : (r : R ℕ) (w : BenchWorld) → (bench_run port (write_call port page offset value lock) b start answers).outcome ≡ ended r w
        → WriteFacts (layout_of port.family) b page offset value r w
    unfolding CallPremises
    write_claimed_ended = run_ended standard port (write_call port page offset value lock) b start answers _ started m

    -- as it has for every list that is long enough, and the library's too, whose result tells the transfers made
    pub write_claimed : TRANSFER_STEPS port.family (WriteByte (address_of page) offset value) lock 2 ≤ length answers → WriteClaim port page offset value lock b start answers
    unfolding CallPremises CallComes WriteClaim
    write_claimed = run_told standard port (write_call port page offset value lock) b start answers _ started m _ (transferred_ends port (WriteByte (address_of page) offset value) (making lock standard) 2)

    -- no write of I2CCTL moves both lines
    pub write_never_both_lines : Each (Steady standard port) (bench_run port (write_call port page offset value lock) b start answers).trace
    unfolding CallPremises
    write_never_both_lines = run_steady standard port (write_call port page offset value lock) b start answers _ started m

-- what follows from the facts: the byte is there, and every other byte of either page is as it was
module _ (l : Layout) (b : Bench) (page : Chosen) (offset value : ℕ) (r : R ℕ) (w : BenchWorld) (h : WriteFacts l b page offset value r w) where
  pub write_stores : offset < length (page_of page b).bytes → byte_at page w.other.bench offset ≡ value
  write_stores k = leaves_byte page offset h.leaves ∙ written_same page offset value b k

  pub write_keeps : (which : Chosen) (i : ℕ) → ((which ≡ page) × (i ≡ offset) → ⊥) → byte_at which w.other.bench i ≡ byte_at which b i
  write_keeps which i k = leaves_byte which i h.leaves ∙ written_other page which offset value i b k
