-- What the line calls do to the control word: each changes one line and leaves the other as it was.
use Prim.Native.Nat.{ℕ, ◌^◌, ◌<◌, suc, zero}
use mathlib.Core.Path.{◌≡◌, refl, ap, ap₂, ◌∙◌, sym}
use mathlib.Core.Bool.{Bool, true, false, not, ◌&&◌, ◌||◌, and-true, and-false, true≢false}
use mathlib.Core.List.{List, [], ◌∷◌}
use lib.Bits.{bit_and, bit_or, and_comm, and_self, or_lt}
use lib.Dec.{T, eqb, lit<}
use lib.ListN.{get_or, drop}
use lib.Pow.{pow-lt, pow_pos}
use borrow.Author.Tests.{ne_eqb}
use native.Mathlib.Omega.{arith}
use Rattle.hardware.specs.Registers.{not32, none_of}
use Rattle.bus.specs.declared.Layout.{Layout}
use Rattle.wire.specs.Bits.{OneBit, absent, at}
use Rattle.wire.specs.Lines.{Pulls, drawn, Levels, banging, pulling, pulls_sda, pulls_scl, master, ready, input, inputs, Drives, Rests, masks, clear_of, apart, Distinct}
use Rattle.wire.proofs.Bits.{none_zero, none_set, none_clear}

-- the word has none of n's bits after m is set or cleared in it
keep_set : {n : ℕ} (w m : ℕ) → OneBit n → none_of m n ≡ true → none_of (bit_or w m) n ≡ none_of w n
keep_set w m o h = none_set w m o ∙ rw h

keep_clear : {n : ℕ} (w m : ℕ) → m < 2 ^ 32 → OneBit n → none_of m n ≡ true → none_of (bit_and w (not32 m)) n ≡ none_of w n
keep_clear w m b o h = none_clear w m b o ∙ rw h

has_set : {n : ℕ} (w m : ℕ) → OneBit n → none_of m n ≡ false → none_of (bit_or w m) n ≡ false
has_set w m o h = none_set w m o ∙ rw h

-- m has n's bit, if there is one
gone : {n : ℕ} (w m : ℕ) → m < 2 ^ 32 → OneBit n → none_of m n ≡ eqb n 0 → none_of (bit_and w (not32 m)) n ≡ true
gone w m b absent h = none_zero (bit_and w (not32 m))
gone w m b (at k t) h = none_clear w m b (at k t) ∙ rw (h, ne_eqb (2 ^ k) 0 (λ z. omega (arith, z, pow_pos k)))

own : (n : ℕ) → none_of n n ≡ eqb n 0
unfolding none_of
own n = ap (λ t. eqb t 0) (and_self n)

none_comm : (m n : ℕ) → none_of m n ≡ none_of n m
unfolding none_of
none_comm m n = ap (λ t. eqb t 0) (and_comm m n)

-- of two masks joined
own_left : {a : ℕ} (b : ℕ) → OneBit a → none_of b a ≡ true → none_of (bit_or a b) a ≡ eqb a 0
own_left {a} b o h = none_set a b o ∙ rw (h, own a)

own_right : {b : ℕ} (a : ℕ) → OneBit b → none_of a b ≡ true → none_of (bit_or a b) b ≡ eqb b 0
own_right {b} a o h = none_set a b o ∙ rw (h, own b) (and-true _)

one_lt : {n : ℕ} → OneBit n → n < 2 ^ 32
one_lt absent = lit< tt
one_lt (at k h) = pow-lt h

input_keeps : {n : ℕ} (m w : ℕ) (b : Bool) → m < 2 ^ 32 → OneBit n → none_of m n ≡ true → none_of (input m b w) n ≡ none_of w n
unfolding input
input_keeps m w true t o h = keep_set w m o h
input_keeps m w false t o h = keep_clear w m t o h

input_own : {m : ℕ} (w : ℕ) (b : Bool) → OneBit m → eqb m 0 ≡ false → none_of (input m b w) m ≡ not b
unfolding input
input_own {m} w true o h = has_set w m o (own m ∙ h)
input_own {m} w false o h = gone w m (one_lt o) o (own m)

-- a pair of masks of a list
both : (a b : Bool) → T (a && b) → T a × T b
both true b h = (tt, h)
both false b h = absurd h

holds : (b : Bool) → T b → b ≡ true
holds true h = refl
holds false h = absurd h

far : (m : ℕ) (ns : List ℕ) → T (clear_of m ns) → (j : ℕ) → none_of m (get_or ns j 0) ≡ true
unfolding none_of
far m [] h j = none_zero m
far m (n ∷ ns) h zero = holds _ (both (eqb (bit_and m n) 0) (clear_of m ns) h).0
far m (n ∷ ns) h (suc j) = far m ns (both (eqb (bit_and m n) 0) (clear_of m ns) h).1 j

pair : (ms : List ℕ) → T (apart ms) → (i j : ℕ) → none_of (get_or ms i 0) (get_or (drop (suc i) ms) j 0) ≡ true
pair [] h i j = none_zero 0
pair (m ∷ ms) h zero j = far m ms (both (clear_of m ms) (apart ms) h).0 j
pair (m ∷ ms) h (suc i) j = pair ms (both (clear_of m ms) (apart ms) h).1 i j

-- m has nothing to do with BB_EN nor with a line's enable and output
record Off (l : Layout) (e q m : ℕ) : Type 0 where
  bben : none_of m l.bben ≡ true
  oen : none_of m e ≡ true
  out : none_of m q ≡ true
  fits : m < 2 ^ 32

-- these three are in w' as in w
record Same (l : Layout) (e q w w' : ℕ) : Type 0 where
  bben : none_of w' l.bben ≡ none_of w l.bben
  oen : none_of w' e ≡ none_of w e
  out : none_of w' q ≡ none_of w q

same_banging : (l : Layout) {oen out w w' : ℕ} → Same l oen out w w' → banging l w' ≡ banging l w
unfolding banging
same_banging l h = rw h.bben

same_pulling : (l : Layout) {oen out w w' : ℕ} → Same l oen out w w' → pulling l oen out w' ≡ pulling l oen out w
unfolding pulling banging
same_pulling l h = rw (h.bben, h.oen, h.out)

same_trans : (l : Layout) {oen out u v w : ℕ} → Same l oen out u v → Same l oen out v w → Same l oen out u w
same_trans l g h = record { bben = h.bben ∙ g.bben; oen = h.oen ∙ g.oen; out = h.out ∙ g.out }

module _ (l : Layout) (g : Distinct l) where
  at_sclout : OneBit l.sclout
  at_sclout = g.bits.1.0

  at_sdaout : OneBit l.sdaout
  at_sdaout = g.bits.1.1.1.0

  at_sdaoen : OneBit l.sdaoen
  at_sdaoen = g.bits.1.1.1.1.0

  at_scloen : OneBit l.scloen
  at_scloen = g.bits.1.1.1.1.1.0

  at_bben : OneBit l.bben
  at_bben = g.bits.1.1.1.1.1.1.0

  free : (i j : ℕ) → none_of (get_or (masks l) i 0) (get_or (drop (suc i) (masks l)) j 0) ≡ true
  free i j = pair (masks l) g.apart i j

  -- the same the other way round
  free_of : (i j : ℕ) → none_of (get_or (drop (suc i) (masks l)) j 0) (get_or (masks l) i 0) ≡ true
  free_of i j = none_comm _ _ ∙ free i j

  -- a mask that a line call sets or clears
  sdaout_off : Off l l.scloen l.sclout l.sdaout
  sdaout_off = record { bben = free 3 2; oen = free 3 1; out = free_of 1 1; fits = one_lt at_sdaout }

  sdaoen_off : Off l l.scloen l.sclout l.sdaoen
  sdaoen_off = record { bben = free 4 1; oen = free 4 0; out = free_of 1 2; fits = one_lt at_sdaoen }

  sclout_off : Off l l.sdaoen l.sdaout l.sclout
  sclout_off = record { bben = free 1 4; oen = free 1 2; out = free 1 1; fits = one_lt at_sclout }

  scloen_off : Off l l.sdaoen l.sdaout l.scloen
  scloen_off = record { bben = free 5 0; oen = free_of 4 0; out = free_of 3 1; fits = one_lt at_scloen }

  module _ (oen out : ℕ) (at-oen : OneBit oen) (at_out : OneBit out) where
    off_or : {m n : ℕ} → Off l oen out m → Off l oen out n → Off l oen out (bit_or m n)
    off_or {m} {n} h k =
        record {
          bben = keep_set m n at_bben k.bben ∙ h.bben;
          oen = keep_set m n at-oen k.oen ∙ h.oen;
          out = keep_set m n at_out k.out ∙ h.out;
          fits = or_lt 32 m n h.fits k.fits;
        }

    same_set : {m : ℕ} (w : ℕ) → Off l oen out m → Same l oen out w (bit_or w m)
    same_set {m} w h = record { bben = keep_set w m at_bben h.bben; oen = keep_set w m at-oen h.oen; out = keep_set w m at_out h.out }

    same_clear : {m : ℕ} (w : ℕ) → Off l oen out m → Same l oen out w (bit_and w (not32 m))
    same_clear {m} w h =
        record {
          bben = keep_clear w m h.fits at_bben h.bben;
          oen = keep_clear w m h.fits at-oen h.oen;
          out = keep_clear w m h.fits at_out h.out;
        }

    same_input : {m : ℕ} (w : ℕ) (b : Bool) → Off l oen out m → Same l oen out w (input m b w)
    same_input {m} w b h =
        record {
          bben = input_keeps m w b h.fits at_bben h.bben;
          oen = input_keeps m w b h.fits at-oen h.oen;
          out = input_keeps m w b h.fits at_out h.out;
        }

  -- a word by which SCL's part is as it was
  sda_set : {m : ℕ} (w : ℕ) → Off l l.scloen l.sclout m → Same l l.scloen l.sclout w (bit_or w m)
  sda_set w h = same_set l.scloen l.sclout at_scloen at_sclout w h

  sda_clear : {m : ℕ} (w : ℕ) → Off l l.scloen l.sclout m → Same l l.scloen l.sclout w (bit_and w (not32 m))
  sda_clear w h = same_clear l.scloen l.sclout at_scloen at_sclout w h

  scl_set : {m : ℕ} (w : ℕ) → Off l l.sdaoen l.sdaout m → Same l l.sdaoen l.sdaout w (bit_or w m)
  scl_set w h = same_set l.sdaoen l.sdaout at_sdaoen at_sdaout w h

  scl_clear : {m : ℕ} (w : ℕ) → Off l l.sdaoen l.sdaout m → Same l l.sdaoen l.sdaout w (bit_and w (not32 m))
  scl_clear w h = same_clear l.sdaoen l.sdaout at_sdaoen at_sdaout w h

  -- the line whose part it is: pulled or not
  pulled : (oen out w : ℕ) → banging l w ≡ true → none_of w oen ≡ true → none_of w out ≡ true → pulling l oen out w ≡ true
  unfolding pulling
  pulled oen out w b e q = rw (b, e, q)

  let_go : (oen out w : ℕ) → none_of w out ≡ false → pulling l oen out w ≡ false
  unfolding pulling
  let_go oen out w q = rw q (and-false (banging l w && none_of w oen))

  less : (b c e q : Bool) → (b && e && q) ≡ false → (b && (c && e) && q) ≡ false
  less b true e q h = h
  less b false e q h = rw (and-false b)

  -- SDA is let go, and then its enable goes off
  sda_drives : {a a' b : Bool} {w w' : ℕ} → Drives l (drawn a b) w → Same l l.scloen l.sclout w w' → pulls_sda l w' ≡ a' → Drives l (drawn a' b) w'
  unfolding master pulls_scl
  sda_drives d s e = record { enabled = same_banging l s ∙ d.enabled; lines = ap₂ drawn e (same_pulling l s ∙ ap (λ m. m.scl) d.lines) }

  scl_drives : {a b b' : Bool} {w w' : ℕ} → Drives l (drawn a b) w → Same l l.sdaoen l.sdaout w w' → pulls_scl l w' ≡ b' → Drives l (drawn a b') w'
  unfolding master pulls_sda
  scl_drives d s e = record { enabled = same_banging l s ∙ d.enabled; lines = ap₂ drawn (same_pulling l s ∙ ap (λ m. m.sda) d.lines) e }

  pub sda_up : {a b : Bool} {w : ℕ} → Drives l (drawn a b) w → Drives l (drawn false b) (bit_and (bit_or w l.sdaout) (not32 l.sdaoen))
  unfolding pulls_sda
  sda_up {w = w} d =
      sda_drives d (same_trans l (sda_set w sdaout_off) (sda_clear (bit_or w l.sdaout) sdaoen_off))
      (let_go _ _ _ (keep_clear (bit_or w l.sdaout) l.sdaoen (one_lt at_sdaoen) at_sdaout (free_of 3 0) ∙ has_set w l.sdaout at_sdaout (own l.sdaout ∙ g.sdaout)))

  pub sda_off : {b : Bool} {w : ℕ} → Drives l (drawn false b) w → Drives l (drawn false b) (bit_or w l.sdaoen)
  unfolding pulls_sda pulling master
  sda_off {w = w} d =
      sda_drives d (sda_set w sdaoen_off)
      (rw (same_banging l (sda_set w sdaoen_off), none_set w l.sdaoen at_sdaoen, keep_set w l.sdaoen at_sdaout (free_of 3 0))
      (less (banging l w) (none_of l.sdaoen l.sdaoen) (none_of w l.sdaoen) (none_of w l.sdaout) (ap (λ m. m.sda) d.lines)))

  pub sda_down : {a b : Bool} {w : ℕ} → Drives l (drawn a b) w → Drives l (drawn true b) (bit_and (bit_and w (not32 l.sdaout)) (not32 l.sdaoen))
  unfolding pulls_sda
  sda_down {w = w} d =
      sda_drives d same
      (pulled _ _ _ (same_banging l same ∙ d.enabled) (gone (bit_and w (not32 l.sdaout)) l.sdaoen (one_lt at_sdaoen) at_sdaoen (own _))
      (keep_clear _ l.sdaoen (one_lt at_sdaoen) at_sdaout (free_of 3 0) ∙ gone w l.sdaout (one_lt at_sdaout) at_sdaout (own _)))
    where
      same : Same l l.scloen l.sclout w (bit_and (bit_and w (not32 l.sdaout)) (not32 l.sdaoen))
      same = same_trans l (sda_clear w sdaout_off) (sda_clear _ sdaoen_off)

  pub sda_free_lem : {a b : Bool} {w : ℕ} → Drives l (drawn a b) w → Drives l (drawn false b) (bit_or w (bit_or l.sdaout l.sdaoen))
  unfolding pulls_sda
  sda_free_lem {w = w} d =
      sda_drives d (sda_set w (off_or l.scloen l.sclout at_scloen at_sclout sdaout_off sdaoen_off))
      (let_go _ _ _ (has_set w _ at_sdaout (own_left l.sdaoen at_sdaout (free_of 3 0) ∙ g.sdaout)))

  pub scl_up : {a b : Bool} {w : ℕ} → Drives l (drawn a b) w → Drives l (drawn a false) (bit_or (bit_or w l.scloen) l.sclout)
  unfolding pulls_scl
  scl_up {w = w} d =
      scl_drives d (same_trans l (scl_set w scloen_off) (scl_set _ sclout_off)) (let_go _ _ _ (has_set (bit_or w l.scloen) l.sclout at_sclout (own l.sclout ∙ g.sclout)))

  pub scl_down : {a b : Bool} {w : ℕ} → Drives l (drawn a b) w → Drives l (drawn a true) (bit_and w (not32 (bit_or l.sclout l.scloen)))
  unfolding pulls_scl
  scl_down {w = w} d =
      scl_drives d (scl_clear w off)
      (pulled _ _ _ (same_banging l (scl_clear w off) ∙ d.enabled) (gone w _ off.fits at_scloen (own_right l.sclout at_scloen (free 1 3)))
      (gone w _ off.fits at_sclout (own_left l.scloen at_sclout (free_of 1 3))))
    where
      off : Off l l.sdaoen l.sdaout (bit_or l.sclout l.scloen)
      off = off_or l.sdaoen l.sdaout at_sdaoen at_sdaout sclout_off scloen_off

  -- a word as it reads: only the inputs are changed
  at_sclin : OneBit l.sclin
  at_sclin = g.bits.0

  at_sdain : OneBit l.sdain
  at_sdain = g.bits.1.1.0

  pub reads_sda : (v : Levels) (w : ℕ) → none_of (inputs l v w) l.sdain ≡ not v.sda
  unfolding inputs
  reads_sda v w = input_own _ v.sda at_sdain g.sdain

  pub reads_scl : (v : Levels) (w : ℕ) → none_of (inputs l v w) l.sclin ≡ not v.scl
  unfolding inputs
  reads_scl v w =
      input_keeps l.sdain _ v.sda (one_lt at_sdain) at_sclin (free_of 0 1) ∙ input_own w v.scl at_sclin g.sclin

  same_sda : (v : Levels) (w : ℕ) → Same l l.sdaoen l.sdaout w (inputs l v w)
  unfolding inputs
  same_sda v w =
      same_trans l
      (same_input l.sdaoen l.sdaout at_sdaoen at_sdaout w v.scl (record { bben = free 0 5; oen = free 0 3; out = free 0 2; fits = one_lt at_sclin }))
      (same_input l.sdaoen l.sdaout at_sdaoen at_sdaout _ v.sda (record { bben = free 2 3; oen = free 2 1; out = free 2 0; fits = one_lt at_sdain }))

  same_scl : (v : Levels) (w : ℕ) → Same l l.scloen l.sclout w (inputs l v w)
  unfolding inputs
  same_scl v w =
      same_trans l
      (same_input l.scloen l.sclout at_scloen at_sclout w v.scl (record { bben = free 0 5; oen = free 0 4; out = free 0 0; fits = one_lt at_sclin }))
      (same_input l.scloen l.sclout at_scloen at_sclout _ v.sda (record { bben = free 2 3; oen = free 2 2; out = free_of 1 0; fits = one_lt at_sdain }))

  -- BB_EN is set in it
  enables : (w : ℕ) → banging l (bit_or w l.bben) ≡ true
  unfolding banging
  enables w = rw (none_set w l.bben at_bben, own l.bben) (by (eqb l.bben 0) (none_of w l.bben))
    where
      by : (z n : Bool) → (z || not (z && n)) ≡ true
      by true n = refl
      by false n = refl

  -- where BB_EN was set, or the enable is off, the line is as it was
  either_way : (b e f q : Bool) → (b || not e && not f) ≡ true → (e && q) ≡ (b && e && q)
  either_way true e f q h = refl
  either_way false true f q h = absurd (true≢false (sym h))
  either_way false false f q h = refl

  either_way' : (b e f q : Bool) → (b || not f && not e) ≡ true → (e && q) ≡ (b && e && q)
  either_way' true e f q h = refl
  either_way' false e true q h = absurd (true≢false (sym h))
  either_way' false true false q h = absurd (true≢false (sym h))
  either_way' false false false q h = refl

  pub look_word : {m : Pulls} {w : ℕ} (v : Levels) → Rests l m w → Drives l m (bit_or (inputs l v w) l.bben)
  unfolding master pulls_sda pulls_scl pulling ready
  look_word {w = w} v r =
      record {
        enabled = enables (inputs l v w);
        lines =
            ap₂ drawn
            (rw (enables (inputs l v w), keep_set (inputs l v w) l.bben at_sdaoen (free_of 4 1), keep_set (inputs l v w) l.bben at_sdaout (free_of 3 2), (same_sda v w).oen, (same_sda v w).out)
            (either_way (banging l w) (none_of w l.sdaoen) (none_of w l.scloen) (none_of w l.sdaout) r.fit))
            (rw (enables (inputs l v w), keep_set (inputs l v w) l.bben at_scloen (free_of 5 0), keep_set (inputs l v w) l.bben at_sclout (free_of 1 4), (same_scl v w).oen, (same_scl v w).out)
            (either_way' (banging l w) (none_of w l.scloen) (none_of w l.sdaoen) (none_of w l.sclout) r.fit))
            ∙ r.lines;
      }

  pub drives_rests : {m : Pulls} {w : ℕ} → Drives l m w → Rests l m w
  unfolding ready
  drives_rests d = record { fit = rw d.enabled; lines = d.lines }

  -- BB_EN is cleared
  pub shut : (w : ℕ) → eqb l.bben 0 ≡ false → banging l (bit_or (bit_and w (not32 l.bben)) (bit_or l.sdaoen l.scloen)) ≡ false
  unfolding banging
  shut w h =
      rw (h, none_set (bit_and w (not32 l.bben)) (bit_or l.sdaoen l.scloen) at_bben, keep_set l.sdaoen l.scloen at_bben (free 5 0), free 4 1, gone w l.bben (one_lt at_bben) at_bben (own _))

  -- on the X552 layout, which has BB_EN
  pub close_word : (w : ℕ) → eqb l.bben 0 ≡ false
      → Rests l (drawn false false) (bit_or (bit_and w (not32 l.bben)) (bit_or l.sdaoen l.scloen))
  unfolding master pulls_sda pulls_scl pulling ready
  close_word w h =
      record {
        fit =
            rw (has_set (bit_and w (not32 l.bben)) _ at_sdaoen (own_left l.scloen at_sdaoen (free_of 4 0) ∙ g.sdaoen ∙ h), has_set (bit_and w (not32 l.bben)) _ at_scloen (own_right l.sdaoen at_scloen (free 4 0) ∙ g.scloen ∙ h))
            (by (banging l (bit_or (bit_and w (not32 l.bben)) (bit_or l.sdaoen l.scloen))));
        lines = ap₂ drawn (rw off) (rw off);
      }
    where
      by : (b : Bool) → (b || true) ≡ true
      by true = refl
      by false = refl

      off : banging l (bit_or (bit_and w (not32 l.bben)) (bit_or l.sdaoen l.scloen)) ≡ false
      off = shut w h
