-- What each command puts on the lines, for any other side that never pulls SCL.
use Prim.Native.Nat.{ℕ}
use mathlib.Core.Path.{◌≡◌, refl, ap, ◌∙◌, subst⁻¹}
use mathlib.Core.Bool.{Bool, true, false, not, ◌||◌, or-true}
use mathlib.Core.List.{◌∷◌}
use lib.Dec.{eqb}
use Rattle.hardware.specs.Failures.{I2c}
use Rattle.hardware.specs.Prog.{Acknowledged, pick}
use Rattle.bus.specs.declared.Layout.{Layout}
use Rattle.bus.specs.declared.Taken.{Taken}
use Rattle.bus.specs.Bus.{Bus, done, fail, is_i2c, or_quiet, quieted, quiet, wait, scl_high, scl_low, release_sda, ack_tries, sda, close, start, stop, out_bit, in_bit}
use Rattle.wire.specs.Lines.{drawn, START, STOP, Fall, Bit, levels, edge, scl_edge, sda_edge, Distinct}
use Rattle.wire.specs.Machine.{Side, takes_all, turn}
use Rattle.wire.specs.Always.{Always, Claim, From, FromRest}
use Rattle.wire.proofs.Always.{always_bind}
use Rattle.wire.proofs.Lines as Lines
use Rattle.wire.proofs.Lines.{edge_none, turn_none}

module _ (o : Side) (s : o.State) where
  -- SDA moves while the master holds SCL low
  pub turn_low : (a a' : Bool) → turn o (drawn a true) (drawn a' true) s ≡ s
  unfolding turn edge levels scl_edge sda_edge takes_all
  turn_low a a' = refl

  -- SDA is held low by the other side
  pub turn_held : (a a' b : Bool) → (o.pulls s).sda ≡ true → turn o (drawn a b) (drawn a' b) s ≡ s
  unfolding turn edge levels scl_edge sda_edge takes_all
  turn_held a a' b e = rw (e, or-true a, or-true a') (ap (λ es. takes_all o es s) (edge_none (not (b || (o.pulls s).scl)) false))

  -- SCL rises and falls
  pub turn_rise : (a : Bool) → (o.pulls s).scl ≡ false → turn o (drawn a true) (drawn a false) s ≡ o.takes (Bit (not (a || (o.pulls s).sda))) s
  unfolding turn edge levels scl_edge sda_edge takes_all
  turn_rise a e = rw e (by (not (a || (o.pulls s).sda)))
    where
      by : (d : Bool) → takes_all o (Bit d ∷ sda_edge true d d) s ≡ o.takes (Bit d) s
      by true = refl
      by false = refl

  pub turn_fall : (a : Bool) → (o.pulls s).scl ≡ false → turn o (drawn a false) (drawn a true) s ≡ o.takes Fall s
  unfolding turn edge levels scl_edge sda_edge takes_all
  turn_fall a e = rw e

  -- SDA falls and rises while SCL is high
  pub turn_start : (o.pulls s).sda ≡ false → (o.pulls s).scl ≡ false → turn o (drawn false false) (drawn true false) s ≡ o.takes START s
  unfolding turn edge levels scl_edge sda_edge takes_all
  turn_start e c = rw (e, c)

  pub turn_stop : (o.pulls s).sda ≡ false → (o.pulls s).scl ≡ false → turn o (drawn true false) (drawn false false) s ≡ o.takes STOP s
  unfolding turn edge levels scl_edge sda_edge takes_all
  turn_stop e c = rw (e, c)

module _ (l : Layout) (g : Distinct l) (o : Side) (scl_free : (s : o.State) → (o.pulls s).scl ≡ false) where
  -- the same with k from there
  moved : {a b : Bool} {s t : o.State} {k : Bus} {Q : Claim o} → s ≡ t → From l o a b t k Q → From l o a b s k Q
  moved {a} {b} {k = k} {Q} e h = subst⁻¹ (λ s. From l o a b s k Q) e h

  -- SCL is raised and lowered
  pub up : {a : Bool} {s : o.State} {k : Bus} {Q : Claim o} → From l o a false (o.takes (Bit (not (a || (o.pulls s).sda))) s) k Q
      → From l o a true s (scl_high l k) Q
  up {a} {s} h = Lines.scl_high_lem l g o (scl_free _) (moved (turn_rise o s a (scl_free s)) h)

  pub down : {a : Bool} {s : o.State} {k : Bus} {Q : Claim o} → From l o a true (o.takes Fall s) k Q → From l o a false s (scl_low l k) Q
  down {a} {s} h = Lines.scl_low_lem l g o (moved (turn_fall o s a (scl_free s)) h)

  -- Up, a wait, Down, a wait
  pub pulse : {a : Bool} {s : o.State} {k : Bus} {Q : Claim o} → From l o a true (o.takes Fall (o.takes (Bit (not (a || (o.pulls s).sda))) s)) k Q
      → From l o a true s (scl_high l (wait 4 (scl_low l (wait 5 k)))) Q
  pulse h = up (Lines.pause l g o 4 (down (Lines.pause l g o 5 h)))

  -- a bit sent: SDA is set while SCL is low
  pub out_bit_lem : {a : Bool} {s : o.State} {k : Bus} {Q : Claim o} (x : Bool) → (x ≡ true → (o.pulls s).sda ≡ false)
      → From l o (not x) true (o.takes Fall (o.takes (Bit x) s)) k Q → From l o a true s (out_bit l x k) Q
  unfolding out_bit
  out_bit_lem {a} {s} true e h =
      Lines.sda_high l g o (ap (λ t. (o.pulls t).sda) (turn_low o s a false) ∙ e refl)
      (moved (turn_low o s a false) (pulse (moved (ap (λ (t : Bool). o.takes Fall (o.takes (Bit (not t)) s)) (e refl)) h)))
  out_bit_lem {a} {s} false e h = Lines.sda_low l g o (moved (turn_low o s a true) (pulse h))

  -- a 1 is not sent where the other side holds SDA
  pub out_bit_stuck : {a : Bool} {s : o.State} (k : Bus) {Q : Claim o} → (o.pulls s).sda ≡ true
      → From l o false true s (fail (I2c 0)) Q → From l o a true s (out_bit l true k) Q
  unfolding out_bit
  out_bit_stuck {a} {s} k e h =
      Lines.sda_stuck l g o _ (ap (λ t. (o.pulls t).sda) (turn_low o s a false) ∙ e) (moved (turn_low o s a false) h)

  -- a bit read: SDA is released, and its level handed on
  pub in_bit_lem : {a : Bool} {s : o.State} (k : Bool → Bus) {Q : Claim o}
      → From l o false true (o.takes Fall (o.takes (Bit (not (o.pulls s).sda)) s)) (k (not (o.pulls (o.takes (Bit (not (o.pulls s).sda)) s)).sda)) Q
      → From l o a true s (in_bit l k) Q
  unfolding in_bit
  in_bit_lem {a} {s} k h =
      Lines.sda_released l g o (moved (turn_low o s a false) (up (Lines.pause l g o 4 (Lines.sampled l g o _ (down (Lines.pause l g o 5 h))))))

  -- the acknowledgement after a byte: SDA is released, and low at the first sample or high at all of them
  pub ack : {a : Bool} {s : o.State} (k : Bool → Bus) {Q : Claim o} → (o.pulls (o.takes (Bit (not (o.pulls s).sda)) s)).sda ≡ true
      → From l o false true (o.takes Fall (o.notes (Acknowledged 1) (o.takes (Bit (not (o.pulls s).sda)) s))) (k false) Q
      → From l o a true s (release_sda l (scl_high l (wait 4 (ack_tries l 10 (λ high. scl_low l (wait 5 (k high))))))) Q
  ack {a} {s} k e h =
      Lines.sda_released l g o (moved (turn_low o s a false) (up (Lines.pause l g o 4 (Lines.acked l g o _ e (down (Lines.pause l g o 5 h))))))

  pub no_ack : {a : Bool} {s : o.State} (left : ℕ) (k : Bool → Bus) {Q : Claim o} → (o.pulls (o.takes (Bit (not (o.pulls s).sda)) s)).sda ≡ false
      → From l o false true (o.takes Fall (o.takes (Bit (not (o.pulls s).sda)) s)) (k true) Q
      → From l o a true s (release_sda l (scl_high l (wait 4 (ack_tries l left (λ high. scl_low l (wait 5 (k high))))))) Q
  no_ack {a} {s} left k e h =
      Lines.sda_released l g o (moved (turn_low o s a false) (up (Lines.pause l g o 4 (Lines.not_acked l g o left _ e (down (Lines.pause l g o 5 h))))))

  -- SDA falls while SCL is high, then SCL falls
  pub pull : {s : o.State} {k : Bus} {Q : Claim o} → (o.pulls s).sda ≡ false → From l o true true (o.takes Fall (o.takes START s)) k Q
      → From l o false false s (sda l false (wait 4 (scl_low l (wait 5 k)))) Q
  pull {s} e h = Lines.sda_low l g o (moved (turn_start o s e (scl_free s)) (Lines.pause l g o 4 (down (Lines.pause l g o 5 h))))

  -- the second half of a start
  start_ends : {s : o.State} {k : Bus} {Q : Claim o} → (o.pulls s).sda ≡ false → From l o true true (o.takes Fall (o.takes START s)) k Q
      → From l o false false s (wait 5 (sda l false (wait 4 (scl_low l (wait 5 k))))) Q
  start_ends e h = Lines.pause l g o 5 (pull e h)

  -- a start while the master holds SCL low
  pub start_low : {a : Bool} {s : o.State} {k : Bus} {Q : Claim o} → (o.pulls s).sda ≡ false → (o.pulls (o.takes (Bit true) s)).sda ≡ false
      → From l o true true (o.takes Fall (o.takes START (o.takes (Bit true) s))) k Q → FromRest l o a true s (start l k) Q
  unfolding start
  start_low {a} {s} e f h =
      Lines.looked l g o (Lines.sda_high l g o (ap (λ t. (o.pulls t).sda) (turn_low o s a false) ∙ e)
      (moved (turn_low o s a false) (up (moved (ap (λ (t : Bool). o.takes (Bit (not t)) s) e) (start_ends f h)))))

  -- a start with both lines released
  pub start_free : {s : o.State} {k : Bus} {Q : Claim o} → (o.pulls s).sda ≡ false
      → From l o true true (o.takes Fall (o.takes START s)) k Q → FromRest l o false false s (start l k) Q
  unfolding start
  start_free {s} e h =
      Lines.looked l g o (Lines.sda_high l g o (ap (λ t. (o.pulls t).sda) (turn_none o (drawn false false) s) ∙ e)
      (moved (turn_none o (drawn false false) s) (Lines.scl_high_lem l g o (scl_free _) (moved (turn_none o (drawn false false) s) (start_ends e h)))))

  -- a start while the master holds SDA low and SCL is high: a STOP comes first
  pub start_after : {s : o.State} {k : Bus} {Q : Claim o} → (o.pulls s).sda ≡ false → (o.pulls (o.takes STOP s)).sda ≡ false
      → From l o true true (o.takes Fall (o.takes START (o.takes STOP s))) k Q → FromRest l o true false s (start l k) Q
  unfolding start
  start_after {s} e f h =
      Lines.looked l g o (Lines.sda_high l g o (ap (λ t. (o.pulls t).sda) (turn_stop o s e (scl_free s)) ∙ f)
      (moved (turn_stop o s e (scl_free s)) (Lines.scl_high_lem l g o (scl_free _) (moved (turn_none o (drawn false false) (o.takes STOP s)) (start_ends f h)))))

  -- no start where the other side holds SDA; nothing is seen of it
  pub start_stuck : {a b : Bool} {s : o.State} (k : Bus) {Q : Claim o} → (o.pulls s).sda ≡ true
      → From l o false b s (fail (I2c 0)) Q → FromRest l o a b s (start l k) Q
  unfolding start
  start_stuck {a} {b} {s} k e h =
      Lines.looked l g o (Lines.sda_stuck l g o _ (ap (λ t. (o.pulls t).sda) (turn_held o s a false b e) ∙ e) (moved (turn_held o s a false b e) h))

  -- the second half of a stop: SDA rises while SCL is high
  stop_ends : {s : o.State} {k : Bus} {Q : Claim o} → (o.pulls s).sda ≡ false → (o.pulls (o.takes STOP s)).sda ≡ false
      → FromRest l o false false (o.takes STOP s) k Q → From l o true false s (wait 4 (sda l true (wait 5 (pick (eqb l.bben 0) k (close l k))))) Q
  stop_ends {s} e f h =
      Lines.pause l g o 4 (Lines.sda_high l g o (ap (λ t. (o.pulls t).sda) (turn_stop o s e (scl_free s)) ∙ f) (moved (turn_stop o s e (scl_free s)) (Lines.pause l g o 5 (Lines.closed l g o h))))

  -- a stop while the master holds SCL low
  pub stop_low : {a : Bool} {s : o.State} {k : Bus} {Q : Claim o} → (o.pulls (o.takes (Bit false) s)).sda ≡ false
      → (o.pulls (o.takes STOP (o.takes (Bit false) s))).sda ≡ false
      → FromRest l o false false (o.takes STOP (o.takes (Bit false) s)) k Q → From l o a true s (stop l k) Q
  unfolding stop
  stop_low {a} {s} e f h = Lines.sda_low l g o (moved (turn_low o s a true) (up (stop_ends e f h)))

  -- a stop while SCL is high and the master holds SDA low
  pub stop_held : {s : o.State} {k : Bus} {Q : Claim o} → (o.pulls s).sda ≡ false → (o.pulls (o.takes STOP s)).sda ≡ false
      → FromRest l o false false (o.takes STOP s) k Q → From l o true false s (stop l k) Q
  unfolding stop
  stop_held {s} e f h =
      Lines.sda_low l g o (moved (turn_none o (drawn true false) s) (Lines.scl_high_lem l g o (scl_free _) (moved (turn_none o (drawn true false) s) (stop_ends e f h))))

  -- a stop with both lines released: a START comes first
  pub stop_after : {s : o.State} {k : Bus} {Q : Claim o} → (o.pulls s).sda ≡ false → (o.pulls (o.takes START s)).sda ≡ false
      → (o.pulls (o.takes STOP (o.takes START s))).sda ≡ false
      → FromRest l o false false (o.takes STOP (o.takes START s)) k Q → From l o false false s (stop l k) Q
  unfolding stop
  stop_after {s} e f f' h =
      Lines.sda_low l g o (moved (turn_start o s e (scl_free s)) (Lines.scl_high_lem l g o (scl_free _) (moved (turn_none o (drawn true false) (o.takes START s)) (stop_ends f f' h))))

  -- no STOP where the other side holds SDA
  pub stop_stuck : {a : Bool} {s : o.State} (k : Bus) {Q : Claim o} → (o.pulls (o.takes (Bit false) s)).sda ≡ true
      → From l o false false (o.takes (Bit false) s) (fail (I2c 0)) Q → From l o a true s (stop l k) Q
  unfolding stop
  stop_stuck {a} {s} k e h =
      Lines.sda_low l g o (moved (turn_low o s a true) (up (Lines.pause l g o 4 (Lines.sda_stuck l g o _ (ap (λ t. (o.pulls t).sda) gone ∙ e) (moved gone h)))))
    where
      gone : turn o (drawn true false) (drawn false false) (o.takes (Bit false) s) ≡ o.takes (Bit false) s
      gone = turn_held o (o.takes (Bit false) s) true false false e

  -- what may be said before a start may be said between two calls
  pub at_rest : {a b : Bool} {s : o.State} {k : Bus} {Q : Claim o} → FromRest l o a b s k Q → From l o a b s k Q
  at_rest h = record { goes = λ ctl w n. h.goes ctl w n.now }

  -- `quiet`: k comes after the end of m, or after its I2c failure
  pub quieting : {a b : Bool} {s : o.State} (m k : Bus) {Q : Claim o} → From l o a b s m (λ h w. Always l o (quieted k h) w Q)
      → From l o a b s (quiet m k) Q
  unfolding quiet
  quieting m k {Q} h = record { goes = λ ctl w n. always_bind l o (m ctl) (quieted k) _ Q (h.goes ctl w n) }

  pub done_quietly : {a b : Bool} {s : o.State} (t : Taken) {k : Bus} {Q : Claim o} → From l o a b s k Q
      → From l o a b s (done t) (λ h w. Always l o (quieted k h) w Q)
  unfolding Always quieted or_quiet
  done_quietly t h = record { goes = λ ctl w n. h.goes ctl w n }

  pub failed_quietly : {a b : Bool} {s : o.State} (device : ℕ) {k : Bus} {Q : Claim o} → From l o a b s k Q
      → From l o a b s (fail (I2c device)) (λ h w. Always l o (quieted k h) w Q)
  unfolding Always quieted or_quiet is_i2c pick
  failed_quietly device h = record { goes = λ ctl w n. h.goes ctl w n }
