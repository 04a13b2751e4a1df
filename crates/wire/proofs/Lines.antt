-- What each line call does to the lines, for any other side.
use Prim.Native.Nat.{ℕ, suc, zero}
use mathlib.Core.Path.{◌≡◌, refl, ap, ap₂, ◌∙◌, subst⁻¹}
use mathlib.Core.Bool.{Bool, true, false, not, ◌||◌}
use mathlib.Core.List.{[], ◌++◌}
use mathlib.Core.Logic.{inl, inr}
use lib.Bits.{bit_or}
use lib.Dec.{eqb}
use borrow.Author.Tests.{eq-eqb}
use Rattle.hardware.specs.Failures.{I2c}
use Rattle.hardware.specs.Marks.{acknowledged}
use Rattle.hardware.specs.Prog.{Acknowledged, pick}
use Rattle.hardware.specs.Registers.{STATUS, none_of, raw, written, flushed}
use Rattle.bus.specs.declared.Layout.{Layout}
use Rattle.bus.specs.Bus.{Bus, fail, or_held, flushing, put, get, wait, sda_level, scl_seen, scl_tries, scl_high, scl_low, sda_seen, sda_free, sda, release_sda, look_seen, look, close, sample_seen, sample, heard, ack_seen, ack_tries}
use Rattle.wire.specs.Lines.{Pulls, drawn, OneMoves, master, levels, edge, scl_edge, sda_edge, Drives, Rests, Known, Distinct}
use Rattle.wire.specs.Machine.{Side, World, takes_all, turn, wrote, reading, models, modelled, at_lines, reply, after}
use Rattle.wire.specs.Always.{Either, ByKind, Meets, Answered, Always, Claim, From, FromRest}
use Rattle.wire.proofs.Words as Words

pub first : (X Y : Type 0) (b : Bool) → b ≡ true → X → Either b X Y
first X Y b e x = subst⁻¹ (λ (t : Bool). Either t X Y) e x

pub second : (X Y : Type 0) (b : Bool) → b ≡ false → Y → Either b X Y
second X Y b e y = subst⁻¹ (λ (t : Bool). Either t X Y) e y

pub edge_none : (c d : Bool) → scl_edge c c d ++ sda_edge c d d ≡ []
unfolding scl_edge sda_edge
edge_none true true = refl
edge_none true false = refl
edge_none false true = refl
edge_none false false = refl

-- a write that moves no line
pub turn_none : (o : Side) (m : Pulls) (s : o.State) → turn o m m s ≡ s
unfolding turn edge takes_all
turn_none o m s = ap (λ es. takes_all o es s) (edge_none _ _)

twice : (b : Bool) → not (not b) ≡ b
twice true = refl
twice false = refl

flipped : (b : Bool) → pick b false true ≡ not b
unfolding pick
flipped true = refl
flipped false = refl

-- STATUS is none of the machine's registers
pub status_other : (l : Layout) → Distinct l → (o : Side) → models l o STATUS ≡ false
unfolding models
status_other l g o = rw g.reg

module _ (l : Layout) (g : Distinct l) (o : Side) where
  put_goes : (k : Bus) (v w : ℕ) (s : o.State) (Q : Claim o) → OneMoves (master l w) (master l v)
      → Always l o (k v) (wrote l o v (record { word = w; other = s })) Q → Always l o (put l k v) (record { word = w; other = s }) Q
  unfolding Always Answered Meets ByKind modelled models at_lines reply after wrote put flushing or_held written flushed pick
  put_goes k v w s Q u h = rw (eq-eqb l.reg l.reg refl) (u, second _ _ _ (status_other l g o) (λ _ _. h))

  pub get_goes : (k : ℕ → Bus) (ctl : ℕ) (w : World o) (Q : Claim o)
      → Always l o (k (reading l o w) ctl) w Q → Always l o (get l k ctl) w Q
  unfolding Always Answered Meets modelled models at_lines reply after get or_held raw pick
  get_goes k ctl w Q h = rw (eq-eqb l.reg l.reg refl) (inl refl, h)

  -- a program that goes by a Boolean u, which is t
  by_it : {t u : Bool} (f : Bool → Bus) (ctl : ℕ) (w : World o) (Q : Claim o) → u ≡ t → Always l o (f t ctl) w Q → Always l o (f u ctl) w Q
  by_it f ctl w Q e h = subst⁻¹ (λ (t : Bool). Always l o (f t ctl) w Q) e h

  wait_goes : (k : Bus) (us ctl : ℕ) (w : World o) (Q : Claim o) → Always l o (k ctl) w Q → Always l o (wait us k ctl) w Q
  unfolding Always Answered ByKind modelled wait
  wait_goes k us ctl w Q h = h

  put_from : {m n : Pulls} {w : ℕ} (v : ℕ) (k : Bus) (s : o.State) (Q : Claim o) → Rests l m w → master l v ≡ n → OneMoves m n
      → Always l o (k v) (record { word = v; other = turn o m n s }) Q → Always l o (put l k v) (record { word = w; other = s }) Q
  unfolding wrote
  put_from {w = w} v k s Q r d u h =
      put_goes k v w s Q (rw (r.lines, d) u) (subst⁻¹ (λ t. Always l o (k v) (record { word = v; other = t }) Q) (ap₂ (λ x y. turn o x y s) r.lines d) h)

  -- a word is put, by which the master's pulls change
  putting : {a b a' b' : Bool} (s : o.State) {k : Bus} {Q : Claim o} {v w : ℕ} → OneMoves (drawn a b) (drawn a' b')
      → From l o a' b' (turn o (drawn a b) (drawn a' b') s) k Q → Drives l (drawn a' b') v → Rests l (drawn a b) w
      → Always l o (put l k v) (record { word = w; other = s }) Q
  putting s {k} {Q} {v} u h d r = put_from v k s Q r d.lines u (h.goes _ _ (record { held = d; now = Words.drives_rests l g d }))

  pub pause : {a b : Bool} {s : o.State} {k : Bus} {Q : Claim o} (us : ℕ) → From l o a b s k Q → From l o a b s (wait us k) Q
  pause {k = k} {Q} us h = record { goes = λ ctl w n. wait_goes k us ctl _ Q (h.goes ctl w n) }

  pub sda_low : {a b : Bool} {s : o.State} {k : Bus} {Q : Claim o}
      → From l o true b (turn o (drawn a b) (drawn true b) s) k Q → From l o a b s (sda l false k) Q
  unfolding sda
  sda_low h = record { goes = λ ctl w n. putting _ (inr refl) (pause 3 h) (Words.sda_down l g n.held) n.now }

  pub sda_released : {a b : Bool} {s : o.State} {k : Bus} {Q : Claim o}
      → From l o false b (turn o (drawn a b) (drawn false b) s) k Q → From l o a b s (release_sda l k) Q
  unfolding release_sda
  sda_released h = record { goes = λ ctl w n. putting _ (inr refl) (pause 1 h) (Words.sda_free_lem l g n.held) n.now }

  pub scl_low_lem : {a b : Bool} {s : o.State} {k : Bus} {Q : Claim o}
      → From l o a true (turn o (drawn a b) (drawn a true) s) k Q → From l o a b s (scl_low l k) Q
  unfolding scl_low
  scl_low_lem h = record { goes = λ ctl w n. putting _ (inl refl) (pause 1 h) (Words.scl_down l g n.held) n.now }

  -- a read of I2CCTL has the input bit clear where either side pulls the line
  pub hears_sda : {a b : Bool} (s : o.State) {w : ℕ} → Rests l (drawn a b) w → none_of (reading l o (record { word = w; other = s })) l.sdain ≡ (a || (o.pulls s).sda)
  unfolding reading levels
  hears_sda {a} s {w} r = Words.reads_sda l g _ w ∙ rw r.lines (twice (a || (o.pulls s).sda))

  pub hears_scl : {a b : Bool} (s : o.State) {w : ℕ} → Rests l (drawn a b) w → none_of (reading l o (record { word = w; other = s })) l.sclin ≡ (b || (o.pulls s).scl)
  unfolding reading levels
  hears_scl {b = b} s {w} r = Words.reads_scl l g _ w ∙ rw r.lines (twice (b || (o.pulls s).scl))

  -- SDA was released and is looked at: is it pulled by the other side?
  sda_looked : {b : Bool} {s : o.State} (k : Bus) {Q : Claim o}
      → From l o false b s (pick (o.pulls s).sda (fail (I2c 0)) k) Q → From l o false b s (get l (sda_seen l k)) Q
  unfolding sda_seen
  sda_looked {s = s} k {Q} h =
      record { goes = λ ctl w n. get_goes (sda_seen l k) ctl _ Q (by_it (λ t. pick t (fail (I2c 0)) k) ctl _ Q (hears_sda s n.now) (h.goes ctl w n)) }

  sda_freed : {b : Bool} {s : o.State} (k : Bus) {Q : Claim o} (t : Bool) → eqb l.sdaoen 0 ≡ t
      → From l o false b s (get l (sda_seen l k)) Q → From l o false b s (sda_free l k) Q
  unfolding sda_free pick
  sda_freed {b} {s} k {Q} true e h = record { goes = λ ctl w n. rw e (h.goes ctl w n) }
  sda_freed {b} {s} k {Q} false e h =
      record { goes = λ ctl w n. rw e (putting _ (inl refl) (subst⁻¹ (λ t. From l o false b t (get l (sda_seen l k)) Q) (turn_none o (drawn false b) s) h) (Words.sda_off l g n.held) n.now) }

  -- `sda(true)` fails exactly where the other side then pulls SDA
  pub sda_raised : {a b : Bool} {s : o.State} (k : Bus) {Q : Claim o}
      → From l o false b (turn o (drawn a b) (drawn false b) s) (pick (o.pulls (turn o (drawn a b) (drawn false b) s)).sda (fail (I2c 0)) k) Q
      → From l o a b s (sda l true k) Q
  unfolding sda
  sda_raised k h = record { goes = λ ctl w n. putting _ (inr refl) (pause 3 (sda_freed k _ refl (sda_looked k h))) (Words.sda_up l g n.held) n.now }

  pub sda_high : {a b : Bool} {s : o.State} {k : Bus} {Q : Claim o} → (o.pulls (turn o (drawn a b) (drawn false b) s)).sda ≡ false
      → From l o false b (turn o (drawn a b) (drawn false b) s) k Q → From l o a b s (sda l true k) Q
  unfolding pick
  sda_high {a} {b} {s} {k} {Q} e h =
      sda_raised k (subst⁻¹ (λ (t : Bool). From l o false b (turn o (drawn a b) (drawn false b) s) (pick t (fail (I2c 0)) k) Q) e h)

  pub sda_stuck : {a b : Bool} {s : o.State} (k : Bus) {Q : Claim o} → (o.pulls (turn o (drawn a b) (drawn false b) s)).sda ≡ true
      → From l o false b (turn o (drawn a b) (drawn false b) s) (fail (I2c 0)) Q → From l o a b s (sda l true k) Q
  unfolding pick
  sda_stuck {a} {b} {s} k {Q} e h =
      sda_raised k (subst⁻¹ (λ (t : Bool). From l o false b (turn o (drawn a b) (drawn false b) s) (pick t (fail (I2c 0)) k) Q) e h)

  -- SCL was released and is looked at
  scl_looked : {a : Bool} {s : o.State} (again : Bus) {k : Bus} {Q : Claim o} → (o.pulls s).scl ≡ false
      → From l o a false s k Q → From l o a false s (get l (scl_seen l again k)) Q
  unfolding scl_seen pick
  scl_looked {s = s} again {k} {Q} e h =
      record { goes = λ ctl w n. get_goes (scl_seen l again k) ctl _ Q (by_it (λ t. pick t again k) ctl _ Q (hears_scl s n.now ∙ e) (h.goes ctl w n)) }

  -- SCL is released once and no second try is made, whatever it would be
  pub scl_once : {a b : Bool} (s : o.State) (again : Bus) {k : Bus} {Q : Claim o} → (o.pulls (turn o (drawn a b) (drawn a false) s)).scl ≡ false
      → From l o a false (turn o (drawn a b) (drawn a false) s) k Q → (ctl w : ℕ) → Known l (drawn a b) ctl w
      → Always l o (put l (wait 1 (get l (scl_seen l again k))) (bit_or (bit_or ctl l.scloen) l.sclout)) (record { word = w; other = s }) Q
  scl_once s again e h ctl w n = putting s (inl refl) (pause 1 (scl_looked again e h)) (Words.scl_up l g n.held) n.now

  scl_tried : {a b : Bool} (s : o.State) {k : Bus} {Q : Claim o} (left : ℕ) → (o.pulls (turn o (drawn a b) (drawn a false) s)).scl ≡ false
      → From l o a false (turn o (drawn a b) (drawn a false) s) k Q
      → (ctl w : ℕ) → Known l (drawn a b) ctl w → Always l o (scl_tries l (suc left) k (bit_or ctl l.scloen)) (record { word = w; other = s }) Q
  unfolding scl_tries
  scl_tried s {k} left e h ctl w n = scl_once s (scl_tries l left k) e h ctl w n

  -- `scl_high` ends at its first try
  pub scl_high_lem : {a b : Bool} {s : o.State} {k : Bus} {Q : Claim o} → (o.pulls (turn o (drawn a b) (drawn a false) s)).scl ≡ false
      → From l o a false (turn o (drawn a b) (drawn a false) s) k Q → From l o a b s (scl_high l k) Q
  unfolding scl_high
  scl_high_lem e h = record { goes = λ ctl w n. scl_tried _ 499 e h ctl w n }

  pub looked : {a b : Bool} {s : o.State} {k : Bus} {Q : Claim o} → From l o a b s k Q → FromRest l o a b s (look l k) Q
  unfolding look look_seen reading
  looked {k = k} {Q} h = record { goes = λ ctl w r. get_goes (look_seen l k) ctl _ Q (h.goes _ w (record { held = Words.look_word l g _ r; now = r })) }

  -- the level of SDA is handed on
  pub sampled : {a b : Bool} {s : o.State} (k : Bool → Bus) {Q : Claim o}
      → From l o a b s (k (not (a || (o.pulls s).sda))) Q → From l o a b s (sample l k) Q
  unfolding sample sample_seen sda_level
  sampled {a} {b} {s} k {Q} h =
      record { goes = λ ctl w n. get_goes (sample_seen l k) ctl _ Q (by_it (λ t. k t) ctl _ Q (ap (λ t. pick t false true) (hears_sda s n.now) ∙ flipped (a || (o.pulls s).sda)) (h.goes ctl w n)) }

  -- a word is put by which both lines are as before, released
  resting : (s : o.State) {k : Bus} {Q : Claim o} {v w : ℕ} → FromRest l o false false s k Q → Rests l (drawn false false) v → Rests l (drawn false false) w
      → Always l o (put l k v) (record { word = w; other = s }) Q
  resting s {k} {Q} {v} h d r =
      put_from v k s Q r d.lines (inl refl) (subst⁻¹ (λ t. Always l o (k v) (record { word = v; other = t }) Q) (turn_none o (drawn false false) s) (h.goes v v d))

  close_or : {s : o.State} {k : Bus} {Q : Claim o} (t : Bool) → eqb l.bben 0 ≡ t → FromRest l o false false s k Q
      → From l o false false s (pick t k (close l k)) Q
  unfolding pick close
  close_or true e h = record { goes = λ ctl w n. h.goes ctl w n.now }
  close_or {s} false e h = record { goes = λ ctl w n. resting s h (Words.close_word l g ctl e) n.now }

  -- after both lines are released, the end of a stop moves none
  pub closed : {s : o.State} {k : Bus} {Q : Claim o} → FromRest l o false false s k Q
      → From l o false false s (pick (eqb l.bben 0) k (close l k)) Q
  closed h = close_or (eqb l.bben 0) refl h

  ack_looked : {a b : Bool} {s : o.State} (t : Bool) (left : ℕ) (again : Bus) (k : Bool → Bus) {Q : Claim o} → (a || (o.pulls s).sda) ≡ t
      → From l o a b s (pick t (heard left (k false)) (wait 1 again)) Q → From l o a b s (get l (ack_seen l left again k)) Q
  unfolding ack_seen
  ack_looked {s = s} t left again k {Q} e h =
      record { goes = λ ctl w n. get_goes (ack_seen l left again k) ctl _ Q (by_it (λ t. pick t (heard left (k false)) (wait 1 again)) ctl _ Q (hears_sda s n.now ∙ e) (h.goes ctl w n)) }

  -- SDA is low at the first of the ten samples, or high at all of them
  pub acked : {a b : Bool} {s : o.State} (k : Bool → Bus) {Q : Claim o} → (a || (o.pulls s).sda) ≡ true
      → From l o a b (o.notes (Acknowledged 1) s) (k false) Q → From l o a b s (ack_tries l 10 k) Q
  unfolding ack_tries pick acknowledged Always
  acked k e h = ack_looked true 9 _ k e (record { goes = λ ctl w n. h.goes ctl w n })

  pub not_acked : {a b : Bool} {s : o.State} (left : ℕ) (k : Bool → Bus) {Q : Claim o} → (a || (o.pulls s).sda) ≡ false
      → From l o a b s (k true) Q → From l o a b s (ack_tries l left k) Q
  unfolding ack_tries pick
  not_acked zero k e h = h
  not_acked (suc left) k e h = ack_looked false left _ k e (pause 1 (not_acked left k e h))
