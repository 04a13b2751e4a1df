-- The clearing sequence: nine pulses take every receiver that sends to one that doesn't pull SDA, with the bytes as they
-- were, and AckWrite to AckWrite.
use Prim.Native.Nat.{ℕ, ◌+◌, ◌<◌, ◌≤◌, suc, zero}
use mathlib.Core.Path.{◌≡◌, refl, ap, ◌∙◌, sym, subst⁻¹}
use mathlib.Core.Bool.{Bool, true, false, not}
use native.Mathlib.Omega.{arith}
use lib.Dec.{ltb, lit<}
use borrow.Author.Tests.{lt-ltb, ltb-true, ltb-false}
use Rattle.hardware.specs.Prog.{pick}
use Rattle.bus.specs.declared.Layout.{Layout}
use Rattle.bus.specs.Bus.{bit_of, Bus, none, done, or_quiet, quieted, wait, scl_high, scl_low, start, stop, pulses, clear_stop, clear_again, clear_free, clear}
use Rattle.wire.specs.Lines.{drawn, Fall, Bit, Edge, Distinct}
use Rattle.wire.specs.Always.{Always, Claim, From, FromRest}
use Rattle.wire.proofs.Lines as Lines
use Rattle.wire.proofs.Commands as Commands
use Rattle.bench.specs.declared.receiver.Chosen.{Chosen}
use Rattle.bench.specs.declared.receiver.Receiver.{Receiver}
use Rattle.bench.specs.declared.receiver.Stage.{Stage}
use Rattle.bench.specs.declared.receiver.Stage.TheVariants.{Idle, Address, Receive, AckRead, AckWrite, Send, Listen}
use Rattle.bench.specs.Receiver.{at, taken, takes, rise_at, rise, addressed, fall_at, fall, asks_at, asks, edged, asks_on, pulls_at, pulls}
use Rattle.bench.specs.Bench.{under, page_of, pulls_low}
use Rattle.demand.specs.Claim.{CountedBench}
use Rattle.demand.proofs.Direct.{direct}
use Rattle.demand.proofs.Receiver.{with, edge_takes, Keeps, rise_takes, fall_takes, rise_pulls, idle_free, taking, taking_rises, taking_stays, taking_free, address_taking}
use Rattle.demand.proofs.Bits.{took_bits, byte_taken_lem}
use Rattle.demand.proofs.Bytes as Bytes
use Rattle.demand.proofs.ReadByte.{Kept, kept_then, asked_kept, stops}

-- the receiver goes its way, and the pages keep their bytes where nothing is stored
pub edge_receiver : (e : Edge) (m : CountedBench) → (direct.takes e m).bench.receiver ≡ edged e m.bench.receiver
edge_receiver e m = ap (λ n. n.bench.receiver) (edge_takes e m)

pub edge_kept : (e : Edge) (m : CountedBench) → Keeps (asks_on e m.bench.receiver) → Kept m (direct.takes e m)
edge_kept e m h =
    let k = asked_kept m.bench.receiver.page _ m h in
    record { a0 = ap (λ n. n.bench.a0.bytes) (edge_takes e m) ∙ k.a0; a2 = ap (λ n. n.bench.a2.bytes) (edge_takes e m) ∙ k.a2; meter = refl }

-- SCL rises and falls with SDA released by the master
abbrev pub pulsed : CountedBench → CountedBench
pulsed m = direct.takes Fall (direct.takes (Bit (not (direct.pulls m).sda)) m)

-- the same of the receiver alone; byte: the one at the offset of the page chosen
abbrev pub pulsed_by : ℕ → Receiver → Receiver
pulsed_by byte r = fall (rise (not (pulls r byte)) r)

pub pulsed_receiver : (m : CountedBench) → (pulsed m).bench.receiver ≡ pulsed_by (under (page_of m.bench.receiver.page m.bench)) m.bench.receiver
unfolding edged pulls_low
pulsed_receiver m = edge_receiver Fall (direct.takes (Bit (not (direct.pulls m).sda)) m) ∙ ap fall (edge_receiver (Bit (not (direct.pulls m).sda)) m)

-- so many pulses end a byte that is being sent
abbrev pub Sends : ℕ → Stage → Type 0
Sends k Idle = Unit {0}
Sends k (Address n) = ⊥
Sends k (Receive n) = ⊥
Sends k AckRead = ⊥
Sends k AckWrite = ⊥
Sends k (Send n) = (1 ≤ k) × (8 ≤ n + k)
Sends k Listen = Unit {0}

-- what a pulse does to a receiver that sends
record Pulse (k : ℕ) (byte : ℕ) (r : Receiver) : Type 0 where
  pub stage : Sends k (pulsed_by byte r).stage
  pub keeps : Keeps (asks (rise (not (pulls r byte)) r))

send_pulse : (k n bits byte : ℕ) (page : Chosen) (first noted b : Bool) → ltb n 7 ≡ b → Sends (suc k) (Send n)
    → Pulse k byte (record { stage = Send n; bits = bits; page = page; first = first; noted = noted })
unfolding pulls rise rise_at fall fall_at asks asks_at pick
send_pulse k n bits byte page first noted true e h = record { stage = rw e (omega (arith, ltb-true n 7 e, h.1), omega (arith, h.1)); keeps = rw e tt }
send_pulse k n bits byte page first noted false e h = record { stage = rw e tt; keeps = rw e tt }

pulse : (k bits byte : ℕ) (page : Chosen) (first noted : Bool) (s : Stage) → Sends (suc k) s
    → Pulse k byte (record { stage = s; bits = bits; page = page; first = first; noted = noted })
unfolding pulls pulls_at rise rise_at fall fall_at asks asks_at pick
pulse k bits byte page first noted Idle h = record { stage = tt; keeps = tt }
pulse k bits byte page first noted (Address n) h = absurd h
pulse k bits byte page first noted (Receive n) h = absurd h
pulse k bits byte page first noted AckRead h = absurd h
pulse k bits byte page first noted AckWrite h = absurd h
pulse k bits byte page first noted (Send n) h = send_pulse k n bits byte page first noted (ltb n 7) refl h
pulse k bits byte page first noted Listen h = record { stage = tt; keeps = tt }

-- a module whose receiver sends, after one pulse
sends_pulsed : (k : ℕ) (m : CountedBench) → Sends (suc k) m.bench.receiver.stage → Sends k (pulsed m).bench.receiver.stage
sends_pulsed k m h =
    subst⁻¹ (λ (r : Receiver). Sends k r.stage) (pulsed_receiver m)
    (pulse k m.bench.receiver.bits _ m.bench.receiver.page m.bench.receiver.first m.bench.receiver.noted m.bench.receiver.stage h).stage

kept_pulsed : (k : ℕ) (m : CountedBench) → Sends (suc k) m.bench.receiver.stage → Kept m (pulsed m)
unfolding asks_on edged pulls_low
kept_pulsed k m h =
    kept_then (edge_kept (Bit (not (direct.pulls m).sda)) m tt)
    (edge_kept Fall (direct.takes (Bit (not (direct.pulls m).sda)) m)
    (subst⁻¹ (λ r. Keeps (asks r)) (edge_receiver (Bit (not (direct.pulls m).sda)) m)
    (pulse k m.bench.receiver.bits _ m.bench.receiver.page m.bench.receiver.first m.bench.receiver.noted m.bench.receiver.stage h).keeps))

-- AckWrite and the byte after it: so many pulses bring the receiver back to AckWrite
abbrev pub Writes : ℕ → Stage → Type 0
Writes k Idle = ⊥
Writes k (Address n) = ⊥
Writes k (Receive n) = (1 ≤ k) × (n + k ≡ 8)
Writes k AckRead = ⊥
Writes k AckWrite = k ≡ 0
Writes k (Send n) = ⊥
Writes k Listen = ⊥

receive_pulse : (k n bits byte : ℕ) (page : Chosen) (first noted : Bool) (b : Bool) → ltb (suc n) 8 ≡ b → Writes (suc k) (Receive n)
    → Writes k (pulsed_by byte (record { stage = Receive n; bits = bits; page = page; first = first; noted = noted })).stage
unfolding pulls pulls_at rise rise_at fall fall_at pick
receive_pulse k n bits byte page first noted true e h = rw (lt-ltb n 8 (omega (arith, h.1)), e) (omega (arith, ltb-true (suc n) 8 e, h.1), omega (arith, h.1))
receive_pulse k n bits byte page first noted false e h = rw (lt-ltb n 8 (omega (arith, h.1)), e) (omega (arith, ltb-false (suc n) 8 e, h.1))

writes_pulse : (k bits byte : ℕ) (page : Chosen) (first noted : Bool) (s : Stage) → Writes (suc k) s
    → Writes k (pulsed_by byte (record { stage = s; bits = bits; page = page; first = first; noted = noted })).stage
writes_pulse k bits byte page first noted Idle h = absurd h
writes_pulse k bits byte page first noted (Address n) h = absurd h
writes_pulse k bits byte page first noted (Receive n) h = receive_pulse k n bits byte page first noted (ltb (suc n) 8) refl h
writes_pulse k bits byte page first noted AckRead h = absurd h
writes_pulse k bits byte page first noted AckWrite h = absurd (omega (arith, h))
writes_pulse k bits byte page first noted (Send n) h = absurd h
writes_pulse k bits byte page first noted Listen h = absurd h

writes_pulsed : (k : ℕ) (m : CountedBench) → Writes (suc k) m.bench.receiver.stage → Writes k (pulsed m).bench.receiver.stage
writes_pulsed k m h =
    subst⁻¹ (λ (r : Receiver). Writes k r.stage) (pulsed_receiver m)
    (writes_pulse k m.bench.receiver.bits _ m.bench.receiver.page m.bench.receiver.first m.bench.receiver.noted m.bench.receiver.stage h)

-- in these stages SCL's rise changes nothing
abbrev pub Still : Stage → Type 0
Still Idle = Unit {0}
Still (Address n) = ⊥
Still (Receive n) = ⊥
Still AckRead = Unit {0}
Still AckWrite = Unit {0}
Still (Send n) = Unit {0}
Still Listen = ⊥

still_at : (s : Stage) (sda : Bool) (r : Receiver) → Still s → rise_at s sda r ≡ r
unfolding rise_at
still_at Idle sda r h = refl
still_at (Address n) sda r h = absurd h
still_at (Receive n) sda r h = absurd h
still_at AckRead sda r h = refl
still_at AckWrite sda r h = refl
still_at (Send n) sda r h = refl
still_at Listen sda r h = absurd h

pub still : (sda : Bool) (m : CountedBench) → Still m.bench.receiver.stage → direct.takes (Bit sda) m ≡ m
unfolding rise
still sda m h = rise_takes sda m ∙ ap (λ r. with r m) (still_at m.bench.receiver.stage sda m.bench.receiver h)

sends_free_at : (s : Stage) (byte : ℕ) → Sends 0 s → pulls_at s byte ≡ false
unfolding pulls_at
sends_free_at Idle byte h = refl
sends_free_at (Address n) byte h = refl
sends_free_at (Receive n) byte h = refl
sends_free_at AckRead byte h = absurd h
sends_free_at AckWrite byte h = absurd h
sends_free_at (Send n) byte h = absurd (omega (arith, h.0))
sends_free_at Listen byte h = refl

sends_free : (m : CountedBench) → Sends 0 m.bench.receiver.stage → (direct.pulls m).sda ≡ false
unfolding pulls_low pulls
sends_free m h = sends_free_at m.bench.receiver.stage _ h

writes_ack_at : (s : Stage) → Writes 0 s → s ≡ AckWrite
writes_ack_at Idle h = absurd h
writes_ack_at (Address n) h = absurd h
writes_ack_at (Receive n) h = absurd (omega (arith, h.0))
writes_ack_at AckRead h = absurd h
writes_ack_at AckWrite h = refl
writes_ack_at (Send n) h = absurd h
writes_ack_at Listen h = absurd h

writes_ack : (m : CountedBench) → Writes 0 m.bench.receiver.stage → m.bench.receiver.stage ≡ AckWrite
writes_ack m h = writes_ack_at m.bench.receiver.stage h

pub ack_pulls : (m : CountedBench) → m.bench.receiver.stage ≡ AckWrite → (direct.pulls m).sda ≡ true
unfolding pulls_low pulls pulls_at
ack_pulls m e = rw e

-- a pulse with SDA released is a bit 1
all_ones : (n : ℕ) → n < 8 → bit_of 0xff n ≡ true
unfolding bit_of
all_ones zero h = refl
all_ones (suc zero) h = refl
all_ones (suc (suc zero)) h = refl
all_ones (suc (suc (suc zero))) h = refl
all_ones (suc (suc (suc (suc zero)))) h = refl
all_ones (suc (suc (suc (suc (suc zero))))) h = refl
all_ones (suc (suc (suc (suc (suc (suc zero)))))) h = refl
all_ones (suc (suc (suc (suc (suc (suc (suc zero))))))) h = refl
all_ones (suc (suc (suc (suc (suc (suc (suc (suc n)))))))) h = absurd (omega (arith, h))

not_addressed : (r : Receiver) (m : CountedBench) → direct.takes Fall (with (taking Address 8 0xff r) m) ≡ with (at Idle (taking Address 8 0xff r)) m
unfolding asks asks_at fall fall_at addressed pick
not_addressed r m = fall_takes (with (taking Address 8 0xff r) m) refl

idle_falls : (r : Receiver) (m : CountedBench) → direct.takes Fall (with (at Idle r) m) ≡ with (at Idle r) m
unfolding asks asks_at fall fall_at
idle_falls r m = fall_takes (with (at Idle r) m) refl

one : (r : Receiver) (m : CountedBench) (c bits n : ℕ) → c < 8 → n < 8
    → pulsed (with (taking Address c bits r) m) ≡ direct.takes Fall (with (taking Address (suc c) (taken bits (bit_of 0xff n)) r) m)
one r m c bits n h k =
    ap (λ sda. direct.takes Fall (direct.takes (Bit (not sda)) (with (taking Address c bits r) m))) (taking_free Address address_taking r m c bits)
    ∙ ap (direct.takes Fall) (taking_rises Address address_taking r m c bits true h)
    ∙ ap (λ sda. direct.takes Fall (with (taking Address (suc c) (taken bits sda) r) m)) (sym (all_ones n k))

module _ (l : Layout) (g : Distinct l) where
  -- a pulse, where SCL is low at its beginning or high, of a receiver that keeps still
  first_pulse : (b : Bool) (m : CountedBench) {k : Bus} {Q : Claim direct} → Still m.bench.receiver.stage
      → From l direct false true (direct.takes Fall m) k Q → From l direct false b m (scl_high l (wait 4 (scl_low l (wait 5 k)))) Q
  first_pulse true m e h = Commands.pulse l g direct (λ s. refl) (Bytes.from l g (ap (direct.takes Fall) (still _ m e)) h)
  first_pulse false m e h =
      Lines.scl_high_lem l g direct refl (Bytes.from l g (Lines.turn_none direct (drawn false false) m)
      (Lines.pause l g direct 4 (Commands.down l g direct (λ s. refl) (Lines.pause l g direct 5 h))))

  -- pulses over a receiver that sends, and over one that takes a byte
  sends_pulses : (n : ℕ) (m : CountedBench) {k : Bus} {Q : Claim direct} → Sends n m.bench.receiver.stage
      → ((o : CountedBench) → Sends 0 o.bench.receiver.stage → Kept m o → From l direct false true o k Q) → From l direct false true m (pulses l n k) Q
  unfolding pulses
  sends_pulses zero m e h = h m e (record { a0 = refl; a2 = refl; meter = refl })
  sends_pulses (suc n) m e h =
      Commands.pulse l g direct (λ s. refl) (sends_pulses n (pulsed m) (sends_pulsed n m e) (λ o f kept. h o f (kept_then (kept_pulsed n m e) kept)))

  writes_pulses : (n : ℕ) (m : CountedBench) {k : Bus} {Q : Claim direct} → Writes n m.bench.receiver.stage
      → ((o : CountedBench) → Writes 0 o.bench.receiver.stage → o.meter ≡ m.meter → From l direct false true o k Q)
      → From l direct false true m (pulses l n k) Q
  unfolding pulses
  writes_pulses zero m e h = h m e refl
  writes_pulses (suc n) m e h = Commands.pulse l g direct (λ s. refl) (writes_pulses n (pulsed m) (writes_pulsed n m e) h)

  -- the stop at the end, behind a START
  pub stopped_at : (r : Receiver) (m : CountedBench) {Q : Claim direct}
      → ((n : CountedBench) → n.bench.receiver.stage ≡ Idle → Kept m n → FromRest l direct false false n (done none) Q)
      → From l direct true true (with (taking Address 0 0 r) m) (clear_stop l) Q
  unfolding clear_stop Always quieted or_quiet
  stopped_at r m h =
      Commands.quieting l g direct (λ s. refl) (stop l (done none)) (done none)
      (stops l g (with (taking Address 0 0 r) m) (taking_free Address address_taking r m 0 0) (λ n idle kept.
      record { goes = λ ctl w q. (h n idle (record { a0 = kept.a0; a2 = kept.a2; meter = kept.meter })).goes ctl w q }))

  -- the start and the stop at the end
  freed : (m : CountedBench) {Q : Claim direct} → (direct.pulls m).sda ≡ false
      → ((n : CountedBench) → n.bench.receiver.stage ≡ Idle → Kept m n → FromRest l direct false false n (done none) Q)
      → From l direct false true m (clear_again l) Q
  unfolding clear_again
  freed m free h =
      Commands.quieting l g direct (λ s. refl) (start l (done none)) (clear_stop l)
      (Commands.at_rest l g direct (λ s. refl) (Bytes.started_at l g false true m free (λ r. Commands.done_quietly l g direct (λ s. refl) none (stopped_at r m h))))

  -- the first start of the clearing finds SDA held, and the master releases it
  clear_begins : (b : Bool) (m : CountedBench) {Q : Claim direct} → (direct.pulls m).sda ≡ true → From l direct false b m (pulses l 9 (clear_again l)) Q
      → From l direct false b m (clear l) Q
  unfolding clear clear_free
  clear_begins b m held h =
      Commands.quieting l g direct (λ s. refl) (start l (done none)) (clear_free l)
      (Commands.at_rest l g direct (λ s. refl) (Commands.start_stuck l g direct (λ s. refl) (done none) held (Commands.failed_quietly l g direct (λ s. refl) 0
      (Lines.sda_released l g direct (Bytes.from l g (Lines.turn_none direct (drawn false b) m) h)))))

  nine : (b : Bool) (m : CountedBench) (k : Bus) {Q : Claim direct} → Still m.bench.receiver.stage
      → From l direct false true (direct.takes Fall m) (pulses l 8 k) Q → From l direct false b m (pulses l 9 k) Q
  unfolding pulses
  nine b m k e h = first_pulse b m e h

  -- The clearing sequence takes a receiver that sends, SDA pulled low, to Idle with the bytes as they were
  pub clears : (b : Bool) (m : CountedBench) {Q : Claim direct} → Still m.bench.receiver.stage → (direct.pulls m).sda ≡ true
      → Sends 8 (fall m.bench.receiver).stage → Keeps (asks m.bench.receiver)
      → ((n : CountedBench) → n.bench.receiver.stage ≡ Idle → Kept m n → FromRest l direct false false n (done none) Q)
      → From l direct false b m (clear l) Q
  unfolding edged asks_on
  clears b m e held sends keeps h =
      clear_begins b m held (nine b m (clear_again l) e
      (sends_pulses 8 (direct.takes Fall m) (subst⁻¹ (λ (r : Receiver). Sends 8 r.stage) (edge_receiver Fall m) sends) (λ o f kept.
      freed o (sends_free o f) (λ n idle kept'. h n idle (kept_then (edge_kept Fall m keeps) (kept_then kept kept'))))))

  -- and AckWrite to AckWrite
  pub clears_not : (b : Bool) (m : CountedBench) {Q : Claim direct} → m.bench.receiver.stage ≡ AckWrite
      → ((n : CountedBench) → n.bench.receiver.stage ≡ AckWrite → n.meter ≡ m.meter → From l direct false false n (done none) Q)
      → From l direct false b m (clear l) Q
  unfolding edged clear_again clear_stop fall fall_at
  clears_not b m e h =
      clear_begins b m (ack_pulls m e) (nine b m (clear_again l) (subst⁻¹ Still e tt)
      (writes_pulses 8 (direct.takes Fall m) (subst⁻¹ (λ (r : Receiver). Writes 8 r.stage) (edge_receiver Fall m) (rw e (omega arith, refl))) (λ o f made.
      Commands.quieting l g direct (λ s. refl) (start l (done none)) (clear_stop l)
      (Commands.at_rest l g direct (λ s. refl) (Commands.start_stuck l g direct (λ s. refl) (done none) (ack_pulls o (writes_ack o f)) (Commands.failed_quietly l g direct (λ s. refl) 0
      (Commands.quieting l g direct (λ s. refl) (stop l (done none)) (done none)
      (Commands.stop_stuck l g direct (λ s. refl) (done none) (rise_pulls false o ∙ ack_pulls o (writes_ack o f))
      (Bytes.from l g (still false o (subst⁻¹ Still (writes_ack o f) tt)) (Commands.failed_quietly l g direct (λ s. refl) 0 (h o (writes_ack o f) made)))))))))))

  -- pulses with SDA released are eight bits 1 to a receiver that takes an address; one more pulse is left
  ones : (r : Receiver) (m : CountedBench) (n c bits : ℕ) (k : Bus) {Q : Claim direct} → c + suc n ≡ 8
      → From l direct false true (direct.takes Fall (with (taking Address 8 (took_bits (suc n) 0xff bits) r) m)) (pulses l 1 k) Q
      → From l direct false true (with (taking Address c bits r) m) (pulses l (suc (suc n)) k) Q
  unfolding pulses took_bits
  ones r m zero c bits k {Q} e h =
      Commands.pulse l g direct (λ s. refl) (Bytes.from l g (one r m c bits 0 (omega arith) (omega arith))
      (subst⁻¹ (λ d. From l direct false true (direct.takes Fall (with (taking Address d (taken bits (bit_of 0xff 0)) r) m)) (pulses l 1 k) Q) last h))
    where
      last : suc c ≡ 8
      last = omega arith
  ones r m (suc n) c bits k e h =
      Commands.pulse l g direct (λ s. refl)
      (Bytes.from l g (one r m c bits (suc n) (omega arith) (omega arith) ∙ taking_stays Address address_taking r m (suc c) (taken bits (bit_of 0xff (suc n))) (omega arith))
      (ones r m n (suc c) (taken bits (bit_of 0xff (suc n))) k (omega arith) h))

  idle_pulse : (r : Receiver) (m : CountedBench) (k : Bus) {Q : Claim direct} → From l direct false true (with (at Idle r) m) k Q
      → From l direct false true (with (at Idle r) m) (pulses l 1 k) Q
  unfolding pulses
  idle_pulse r m k h = first_pulse true (with (at Idle r) m) tt (Bytes.from l g (idle_falls r m) h)

  -- The clearing takes a receiver that does not pull SDA to Idle too: it takes FF for an address, which is nobody's
  pub clears_free : (a b : Bool) (m : CountedBench) {Q : Claim direct} → (direct.pulls m).sda ≡ false
      → ((n : CountedBench) → n.bench.receiver.stage ≡ Idle → Kept m n → FromRest l direct false false n (done none) Q)
      → From l direct a b m (clear l) Q
  unfolding clear clear_free
  clears_free a b m free h =
      Commands.quieting l g direct (λ s. refl) (start l (done none)) (clear_free l)
      (Commands.at_rest l g direct (λ s. refl) (Bytes.started_at l g a b m free (λ r. Commands.done_quietly l g direct (λ s. refl) none
      (Lines.sda_released l g direct (Bytes.from l g (Commands.turn_low direct (with (taking Address 0 0 r) m) true false)
      (ones r m 7 0 0 (clear_again l) refl
      (Bytes.from l g (ap (λ v. direct.takes Fall (with (taking Address 8 v r) m)) (byte_taken_lem 0xff (lit< tt)) ∙ not_addressed r m)
      (idle_pulse (taking Address 8 0xff r) m (clear_again l) (freed (with (at Idle (taking Address 8 0xff r)) m) (idle_free (at Idle (taking Address 8 0xff r)) m refl) (λ n idle kept.
      h n idle (record { a0 = kept.a0; a2 = kept.a2; meter = kept.meter })))))))))))
