-- What a start, a byte sent and a byte read do with the module.
use Prim.Native.Nat.{ℕ, ◌+◌, ◌-◌, suc, zero}
use mathlib.Core.Path.{◌≡◌, refl, ap, ◌∙◌, subst⁻¹}
use mathlib.Core.Bool.{Bool, true, false, not}
use native.Mathlib.Omega.{arith}
use Rattle.hardware.specs.Failures.{I2c}
use Rattle.hardware.specs.Prog.{Acknowledged, pick}
use Rattle.bus.specs.declared.Layout.{Layout}
use Rattle.bus.specs.Bus.{Bus, fail, wait, scl_high, scl_low, release_sda, ack_tries, start, out_bits, in_bit, in_bits, bit_of, shifted, send}
use Rattle.wire.specs.Lines.{START, Fall, Bit, Distinct}
use Rattle.wire.specs.Always.{Claim, From, FromRest}
use Rattle.wire.proofs.Commands as Commands
use Rattle.bench.specs.declared.receiver.Act.TheVariants.{Next}
use Rattle.bench.specs.declared.receiver.Chosen.{Chosen}
use Rattle.bench.specs.declared.receiver.Receiver.{Receiver}
use Rattle.bench.specs.declared.receiver.Stage.{Stage}
use Rattle.bench.specs.declared.receiver.Stage.TheVariants.{Address}
use Rattle.bench.specs.Receiver.{stopped, taken, rise}
use Rattle.bench.specs.Bench.{under, page_of}
use Rattle.demand.specs.Claim.{CountedBench}
use Rattle.demand.proofs.Direct.{direct}
use Rattle.demand.proofs.Bits.{took_bits, shifted_taken}
use Rattle.demand.proofs.Receiver.{with, stop_takes, rise_takes, rise_pulls, Taking, taking, taking_rises, taking_stays, taking_free, Acks, acks_pull, acks_rise, address_begun, stop_free, sending, listening, asked, send_bit, send_rise, send_next, send_last}

-- a byte was acknowledged, in the first sample
abbrev pub heard : CountedBench → CountedBench
heard m = direct.notes (Acknowledged 1) m

module _ (l : Layout) (g : Distinct l) where
  -- the same from an equal state
  pub from : {a b : Bool} {s t : CountedBench} {k : Bus} {Q : Claim direct} → s ≡ t → From l direct a b t k Q → From l direct a b s k Q
  from {a} {b} {k = k} {Q} e h = subst⁻¹ (λ s. From l direct a b s k Q) e h

  -- bits are sent, the highest first, to a receiver with c bits; SCL's last fall ends the byte
  pub out_bits_lem : (S : ℕ → Stage) → Taking S → (r : Receiver) (m : CountedBench) (n c bits byte : ℕ) {a : Bool} {k : Bus} {Q : Claim direct} → c + suc n ≡ 8
      → ((z : Bool) → From l direct z true (direct.takes Fall (with (taking S 8 (took_bits (suc n) byte bits) r) m)) k Q)
      → From l direct a true (with (taking S c bits r) m) (out_bits l byte (suc n) k) Q
  unfolding out_bits took_bits
  out_bits_lem S t r m zero c bits byte {k = k} {Q} e h =
      Commands.out_bit_lem l g direct (λ s. refl) (bit_of byte 0) (λ _. taking_free S t r m c bits)
      (from (ap (direct.takes Fall) (taking_rises S t r m c bits (bit_of byte 0) (omega arith)))
      (subst⁻¹ (λ d. From l direct (not (bit_of byte 0)) true (direct.takes Fall (with (taking S d (taken bits (bit_of byte 0)) r) m)) k Q) last (h (not (bit_of byte 0)))))
    where
      last : suc c ≡ 8
      last = omega arith
  out_bits_lem S t r m (suc n) c bits byte {k = k} {Q} e h =
      Commands.out_bit_lem l g direct (λ s. refl) (bit_of byte (suc n)) (λ _. taking_free S t r m c bits)
      (from (ap (direct.takes Fall) (taking_rises S t r m c bits (bit_of byte (suc n)) (omega arith)) ∙ taking_stays S t r m (suc c) (taken bits (bit_of byte (suc n))) (omega arith))
      (out_bits_lem S t r m n (suc c) (taken bits (bit_of byte (suc n))) byte (omega arith) h))

  -- a byte is acknowledged: SDA is low at the first sample, and SCL's fall goes on
  acked : {a : Bool} (s : CountedBench) (device : ℕ) {k : Bus} {Q : Claim direct} → Acks s.bench.receiver.stage
      → From l direct false true (direct.takes Fall (heard s)) k Q
      → From l direct a true s (release_sda l (scl_high l (wait 4 (ack_tries l 10 (λ high. scl_low l (wait 5 (pick high (fail (I2c device)) k))))))) Q
  unfolding pick
  acked s device {k} {Q} e h =
      Commands.ack l g direct (λ s. refl) (λ high. pick high (fail (I2c device)) k) (rise_pulls _ s ∙ acks_pull s e) (from (ap (λ m. direct.takes Fall (heard m)) (acks_rise _ s e)) h)

  -- a byte sent to a receiver with no bits, which then acknowledges
  pub sent : (S : ℕ → Stage) → Taking S → (r : Receiver) (m s : CountedBench) (device byte : ℕ) {a : Bool} {k : Bus} {Q : Claim direct}
      → direct.takes Fall (with (taking S 8 (took_bits 8 byte 0) r) m) ≡ s → Acks s.bench.receiver.stage
      → From l direct false true (direct.takes Fall (heard s)) k Q → From l direct a true (with (taking S 0 0 r) m) (send l device byte k) Q
  unfolding send
  sent S t r m s device byte e f h = out_bits_lem S t r m 7 0 0 byte refl (λ z. from e (acked s device f h))

  -- A start takes every receiver that does not pull SDA to Address with 0 bits
  pub started_at : (a b : Bool) (m : CountedBench) {k : Bus} {Q : Claim direct} → (direct.pulls m).sda ≡ false
      → ((r : Receiver) → From l direct true true (with (taking Address 0 0 r) m) k Q) → FromRest l direct a b m (start l k) Q
  started_at a true m free h = Commands.start_low l g direct (λ s. refl) free (rise_pulls true m ∙ free) (from (ap (λ s. direct.takes Fall (direct.takes START s)) (rise_takes true m) ∙ address_begun (rise true m.bench.receiver) m) (h (rise true m.bench.receiver)))
  started_at false false m free h = Commands.start_free l g direct (λ s. refl) free (from (address_begun m.bench.receiver m) (h m.bench.receiver))
  started_at true false m free h =
      Commands.start_after l g direct (λ s. refl) free (stop_free m) (from (ap (λ s. direct.takes Fall (direct.takes START s)) (stop_takes m) ∙ address_begun (stopped m.bench.receiver) m) (h (stopped m.bench.receiver)))

  module _ (page : Chosen) (r : Receiver) (m : CountedBench) where
    -- SDA was read while bit c was on it, and SCL falls
    in_bit_lem : (n c byte : ℕ) {a : Bool} (k : ℕ → Bus) {Q : Claim direct} → c + suc n ≡ 8
        → From l direct false true (direct.takes Fall (with (sending page c r) m)) (k (taken byte (bit_of (under (page_of page m.bench)) n))) Q
        → From l direct a true (with (sending page c r) m) (in_bit l (λ bit. k (shifted byte bit))) Q
    in_bit_lem n c byte k {Q} e h =
        Commands.in_bit_lem l g direct (λ s. refl) (λ bit. k (shifted byte bit))
        (from (ap (direct.takes Fall) (send_rise page r m c _)) (subst⁻¹ (λ d. From l direct false true (direct.takes Fall (with (sending page c r) m)) (k d) Q) heard h))
      where
        twice : (b : Bool) → not (not b) ≡ b
        twice true = refl
        twice false = refl

        place : 7 - c ≡ n
        place = omega arith

        heard : shifted byte (not (direct.pulls (direct.takes (Bit (not (direct.pulls (with (sending page c r) m)).sda)) (with (sending page c r) m))).sda) ≡ taken byte (bit_of (under (page_of page m.bench)) n)
        heard =
            shifted_taken byte _
            ∙ ap (taken byte)
            (ap not (ap (λ s. (direct.pulls s).sda) (send_rise page r m c _) ∙ send_bit page r m c)
            ∙ twice (bit_of (under (page_of page m.bench)) (7 - c))
            ∙ ap (bit_of (under (page_of page m.bench))) place)

    -- a byte of the page is read, from its bit c on; the offset moves on
    pub in_bits_lem : (n c byte : ℕ) {a : Bool} (k : ℕ → Bus) {Q : Claim direct} → c + suc n ≡ 8
        → From l direct false true (with (listening page r) (asked page Next m)) (k (took_bits (suc n) (under (page_of page m.bench)) byte)) Q
        → From l direct a true (with (sending page c r) m) (in_bits l (suc n) byte k) Q
    unfolding in_bits took_bits
    in_bits_lem zero c byte k e h = in_bit_lem 0 c byte (λ d. in_bits l 0 d k) e (from (send_last page r m c (omega arith)) h)
    in_bits_lem (suc n) c byte k e h =
        in_bit_lem (suc n) c byte (λ d. in_bits l (suc n) d k) e
        (from (send_next page r m c (omega arith)) (in_bits_lem n (suc c) (taken byte (bit_of (under (page_of page m.bench)) (suc n))) k (omega arith) h))
