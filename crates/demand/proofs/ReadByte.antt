-- A byte of a page read back by its offset, from any receiver that does not pull SDA.
use Prim.Native.Nat.{ℕ, ◌<◌}
use mathlib.Core.Path.{◌≡◌, refl, ap, ◌∙◌, subst⁻¹}
use mathlib.Core.Bool.{Bool, true, false}
use native.Mathlib.Nat.{le-max_right, max-eq_left}
use lib.Bits.{bit_or}
use lib.Dec.{lit<}
use Rattle.hardware.specs.declared.Meter.{Meter}
use Rattle.hardware.specs.Prog.{Acknowledged, metered, pick}
use Rattle.bus.specs.declared.Layout.{Layout}
use Rattle.bus.specs.Bus.{Bus, start, stop, out_bit, in_byte, send}
use Rattle.wire.specs.Lines.{STOP, Fall, Bit, Distinct}
use Rattle.wire.specs.Always.{Claim, From, FromRest}
use Rattle.wire.proofs.Commands as Commands
use Rattle.bench.specs.declared.Bench.{Bench}
use Rattle.bench.specs.declared.receiver.Act.{Act}
use Rattle.bench.specs.declared.receiver.Act.TheVariants.{Offset, Store, Next}
use Rattle.bench.specs.declared.receiver.Chosen.{Chosen}
use Rattle.bench.specs.declared.receiver.Chosen.TheVariants.{A0, A2}
use Rattle.bench.specs.declared.receiver.Receiver.{Receiver}
use Rattle.bench.specs.declared.receiver.Stage.TheVariants.{Idle, Address, Receive, AckRead, AckWrite}
use Rattle.bench.specs.Receiver.{stopped, rise, chose, byte_taken}
use Rattle.bench.specs.Bench.{under, acted, page_of}
use Rattle.demand.specs.Claim.{CountedBench, byte_of}
use Rattle.demand.proofs.Direct.{direct}
use Rattle.demand.specs.WriteClaim.{address_of}
use Rattle.demand.proofs.Bits.{took_bits, byte_taken_lem}
use Rattle.demand.proofs.Receiver.{with, asked, Keeps, does_bytes, stop_takes, rise_takes, rise_pulls, address_taking, receive_taking, taking, taking_free, stop_free, idle_free, listening, expecting, listen_ends, listen_free, addressed_write, addressed_read, byte_ends, ack_write_ends, ack_read_ends}
use Rattle.demand.proofs.Bytes.{heard}
use Rattle.demand.proofs.Bytes as Bytes

-- every byte is as it was, and so is the meter
pub record Kept (m n : CountedBench) : Type 0 where
  pub a0 : n.bench.a0.bytes ≡ m.bench.a0.bytes
  pub a2 : n.bench.a2.bytes ≡ m.bench.a2.bytes
  pub meter : n.meter ≡ m.meter

pub kept_then : {m n o : CountedBench} → Kept m n → Kept n o → Kept m o
kept_then h k = record { a0 = k.a0 ∙ h.a0; a2 = k.a2 ∙ h.a2; meter = k.meter ∙ h.meter }

-- a byte acknowledged in the first sample tells no more where one was before
heard_twice : (m : Meter) → metered (Acknowledged 1) (metered (Acknowledged 1) m) ≡ metered (Acknowledged 1) m
heard_twice m = ap (λ s. record { transfers = m.transfers; slowest = s }) (max-eq_left (le-max_right m.slowest 1))

pub kept_heard : (m : CountedBench) {n : CountedBench} → Kept (heard (heard m)) n → Kept (heard m) n
kept_heard m h = record { a0 = h.a0; a2 = h.a2; meter = h.meter ∙ heard_twice m.meter }

-- the pages keep their bytes where nothing is stored
pub asked_kept : (page : Chosen) (act : Act) (m : CountedBench) → Keeps act → Kept m (asked page act m)
asked_kept page act m h = record { a0 = does_bytes A0 page act m.bench.a0 h; a2 = does_bytes A2 page act m.bench.a2 h; meter = refl }

-- the byte that a page holds at an offset
abbrev pub byte_at : Chosen → Bench → ℕ → ℕ
byte_at A0 b i = byte_of b.a0 i
byte_at A2 b i = byte_of b.a2 i

under_offset : (page : Chosen) (offset : ℕ) (m : CountedBench) → under (page_of page (asked page (Offset offset) m).bench) ≡ byte_at page m.bench offset
unfolding under page_of acted
under_offset A0 offset m = refl
under_offset A2 offset m = refl

-- an address is a byte
address_small : (page : Chosen) → address_of page < 256
address_small A0 = lit< tt
address_small A2 = lit< tt

read_small : (page : Chosen) → bit_or (address_of page) 1 < 256
read_small A0 = lit< tt
read_small A2 = lit< tt

module _ (l : Layout) (g : Distinct l) where
  pub from_rest : {a b : Bool} {s t : CountedBench} {k : Bus} {Q : Claim direct} → s ≡ t → FromRest l direct a b t k Q → FromRest l direct a b s k Q
  from_rest {a} {b} {k = k} {Q} e h = subst⁻¹ (λ s. FromRest l direct a b s k Q) e h

  -- a stop leaves a receiver idle that does not pull SDA
  pub stops : (m : CountedBench) {a : Bool} {k : Bus} {Q : Claim direct} → (direct.pulls m).sda ≡ false
      → ((n : CountedBench) → n.bench.receiver.stage ≡ Idle → Kept m n → FromRest l direct false false n k Q)
      → From l direct a true m (stop l k) Q
  unfolding stopped
  stops m free h =
      Commands.stop_low l g direct (λ s. refl) (rise_pulls false m ∙ free) (stop_free (direct.takes (Bit false) m))
      (from_rest (ap (direct.takes STOP) (rise_takes false m) ∙ stop_takes (with (rise false m.bench.receiver) m))
      (h (with (stopped (rise false m.bench.receiver)) m) refl (record { a0 = refl; a2 = refl; meter = refl })))

  module _ (page : Chosen) where
    -- a byte is sent to the page, and acknowledged: the first is the offset, any other is stored
    pub byte_sent : (first : Bool) (r : Receiver) (m : CountedBench) (device byte : ℕ) {a : Bool} {k : Bus} {Q : Claim direct} → byte < 256
        → From l direct false true (with (taking Receive 0 0 (expecting page false r)) (heard (asked page (pick first (Offset byte) (Store byte)) m))) k Q
        → From l direct a true (with (taking Receive 0 0 (expecting page first r)) m) (send l device byte k) Q
    byte_sent first r m device byte small h =
        Bytes.sent l g Receive receive_taking (expecting page first r) m
        (with (byte_taken (taking Receive 8 byte (expecting page first r))) (asked page (pick first (Offset byte) (Store byte)) m)) device byte
        (ap (λ v. direct.takes Fall (with (taking Receive 8 v (expecting page first r)) m)) (byte_taken_lem byte small) ∙ byte_ends byte (expecting page first r) m) tt
        (Bytes.from l g (ack_write_ends (byte_taken (taking Receive 8 byte (expecting page first r))) (heard (asked page (pick first (Offset byte) (Store byte)) m)) refl) h)

    -- a start, the page's address and an offset; the receiver then takes a byte to store
    pub offset_sent : (a b : Bool) (m : CountedBench) (device offset : ℕ) {k : Bus} {Q : Claim direct} → offset < 256 → (direct.pulls m).sda ≡ false
        → ((r : Receiver) → From l direct false true (with (taking Receive 0 0 (expecting page false r)) (asked page (Offset offset) (heard (heard m)))) k Q)
        → FromRest l direct a b m (start l (send l device (address_of page) (send l device offset k))) Q
    unfolding pick
    offset_sent a b m device offset o free h =
        Bytes.started_at l g a b m free (λ r.
        Bytes.sent l g Address address_taking r m (with (chose AckWrite page (taking Address 8 (address_of page) r)) m) device (address_of page)
        (ap (λ v. direct.takes Fall (with (taking Address 8 v r) m)) (byte_taken_lem (address_of page) (address_small page)) ∙ addressed_write page r m) tt
        (Bytes.from l g (ack_write_ends (chose AckWrite page (taking Address 8 (address_of page) r)) (heard m) refl) (byte_sent true r (heard m) device offset o (h r))))

    -- the byte is not acknowledged, and the stop leaves the receiver idle
    finished : (r : Receiver) (m : CountedBench) {a : Bool} {k : Bus} {Q : Claim direct}
        → ((n : CountedBench) → n.bench.receiver.stage ≡ Idle → Kept m n → FromRest l direct false false n k Q)
        → From l direct a true (with (listening page r) m) (out_bit l true (stop l k)) Q
    finished r m h =
        Commands.out_bit_lem l g direct (λ s. refl) true (λ _. listen_free page r m)
        (Bytes.from l g (listen_ends page r m) (stops (with q m) (idle_free q m refl) (λ n idle kept. h n idle (record { a0 = kept.a0; a2 = kept.a2; meter = kept.meter }))))
      where
        q : Receiver
        q = record { stage = Idle; bits = r.bits; page = page; first = r.first; noted = true }

    -- the offset was taken: the second start, the address, and the byte
    read_back : (r : Receiver) (m : CountedBench) (device : ℕ) (k : ℕ → Bus) {a : Bool} {Q : Claim direct}
        → ((n : CountedBench) → n.bench.receiver.stage ≡ Idle → Kept (heard m) n → FromRest l direct false false n (k (took_bits 8 (under (page_of page m.bench)) 0)) Q)
        → From l direct a true (with (taking Receive 0 0 r) m) (start l (send l device (bit_or (address_of page) 1) (in_byte l (λ value. out_bit l true (stop l (k value)))))) Q
    unfolding in_byte
    read_back r m device k {a} h =
        Commands.at_rest l g direct (λ s. refl)
        (Bytes.started_at l g a true (with (taking Receive 0 0 r) m) (taking_free Receive receive_taking r m 0 0) (λ q.
        Bytes.sent l g Address address_taking q m (with (chose AckRead page (taking Address 8 (bit_or (address_of page) 1) q)) m) device (bit_or (address_of page) 1)
        (ap (λ v. direct.takes Fall (with (taking Address 8 v q) m)) (byte_taken_lem (bit_or (address_of page) 1) (read_small page)) ∙ addressed_read page q m) tt
        (Bytes.from l g (ack_read_ends page (taking Address 8 (bit_or (address_of page) 1) q) (heard m))
        (Bytes.in_bits_lem l g page (chose AckRead page (taking Address 8 (bit_or (address_of page) 1) q)) (heard m) 7 0 0 (λ value. out_bit l true (stop l (k value))) refl
        (finished (chose AckRead page (taking Address 8 (bit_or (address_of page) 1) q)) (asked page Next (heard m)) (λ n idle kept. h n idle (kept_then (asked_kept page Next (heard m) tt) kept)))))))

    -- `read_byte`'s commands: the byte at the offset is handed on, the receiver is idle and both lines are released
    pub read_byte : (a b : Bool) (m : CountedBench) (device offset : ℕ) (k : ℕ → Bus) {Q : Claim direct} → offset < 256
        → byte_at page m.bench offset < 256 → (direct.pulls m).sda ≡ false
        → ((n : CountedBench) → n.bench.receiver.stage ≡ Idle → Kept (heard m) n → FromRest l direct false false n (k (byte_at page m.bench offset)) Q)
        → FromRest l direct a b m
        (start l (send l device (address_of page) (send l device offset (start l (send l device (bit_or (address_of page) 1) (in_byte l (λ value. out_bit l true (stop l (k value)))))))))
        Q
    read_byte a b m device offset k {Q} o v free h =
        offset_sent a b m device offset o free (λ r.
        read_back (expecting page false r) (asked page (Offset offset) (heard (heard m))) device k (λ n idle kept.
        subst⁻¹ (λ d. FromRest l direct false false n (k d) Q) (ap (λ d. took_bits 8 d 0) (under_offset page offset m) ∙ byte_taken_lem (byte_at page m.bench offset) v)
        (h n idle (kept_heard m (kept_heard (heard m) (kept_then (asked_kept page (Offset offset) (heard (heard (heard m))) tt) kept))))))
