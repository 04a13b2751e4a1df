-- The bytes are read in the papers' order, and each number is that of its bytes, high byte first.
use Prim.Native.Nat.{ℕ, ◌<◌}
use mathlib.Core.Path.{◌≡◌, ◌∙◌, ap, refl}
use mathlib.Core.Bool.{true}
use mathlib.Core.List.{[]}
use native.Mathlib.Omega.{arith}
use Rattle.hardware.specs.declared.Port.{Port}
use Rattle.hardware.specs.Prog.{pick}
use Rattle.transfer.specs.declared.attempt.Sequence.{Sequence}
use Rattle.sfp.specs.Classes.{Bytes}
use Rattle.light.specs.Sensed.{fresh, pattern_on, patterns_on, taken, word_on}
use Rattle.light.specs.Light.{byte_seen, device_at, light, light_from, light_on, offset_at, request_at, stops}
use Rattle.light.specs.Order.{light_read, patterns_at, placed, read, reads, sensed_of, span, taken_all}
use Rattle.light.specs.Words.{pattern_of, word_of}

-- byte 92 of A0; then bytes 96 to 105 of A2 where bit 6 is set; then its bytes 56 to 75 where bit 4 is set too
pub light_reads : (q : Sequence) (port : Port) (tries : ℕ) → light q port tries ≡ light_read q port tries
unfolding light light_from byte_seen light_on stops request_at device_at offset_at light_read read reads sensed_of taken_all taken pick
light_reads q port tries = refl

-- a word is of its two bytes, and a pattern of its four, whatever was there before
word_is : (word high low : ℕ) → high < 256 → word_on true (word_on true word high) low ≡ word_of high low
unfolding word_on pick
word_is word high low h = omega arith

pattern_is : (pattern b0 b1 b2 b3 : ℕ) → b0 < 256 → b1 < 256 → b2 < 256 → b3 < 256
    → pattern_on true (pattern_on true (pattern_on true (pattern_on true pattern b0) b1) b2) b3 ≡ pattern_of b0 b1 b2 b3
unfolding pattern_on pick
pattern_is pattern b0 b1 b2 b3 h0 h1 h2 h3 = omega arith

module _ (kind : ℕ) (a2 : Bytes) (small : (i : ℕ) → a2 i < 256) where
  -- bytes 96 to 105 of A2 stand where SFF-8472 has them, and so do bytes 56 to 75 where they are read
  words_placed : taken_all (taken fresh 30 kind) 30 (span a2 96 10) ≡ placed kind a2 fresh.patterns
  unfolding span taken_all taken word_on patterns_on pattern_on placed pick
  words_placed = λ i. record {
    kind = kind;
    temperature = word_is 0 (a2 96) (a2 97) (small 96) i;
    voltage = word_is 0 (a2 98) (a2 99) (small 98) i;
    bias = word_is 0 (a2 100) (a2 101) (small 100) i;
    sent = word_is 0 (a2 102) (a2 103) (small 102) i;
    received = word_is 0 (a2 104) (a2 105) (small 104) i;
    patterns = fresh.patterns;
  }

  pub values_placed : sensed_of kind (span a2 96 10) [] ≡ placed kind a2 fresh.patterns
  unfolding sensed_of taken_all
  values_placed = words_placed

  patterns_placed : taken_all (placed kind a2 fresh.patterns) 20 (span a2 56 20) ≡ placed kind a2 (patterns_at a2)
  unfolding span taken_all taken word_on patterns_on pattern_on placed patterns_at pick
  patterns_placed = λ i. placed kind a2 (record {
    c4 = pattern_is 0 (a2 56) (a2 57) (a2 58) (a2 59) (small 56) (small 57) (small 58) (small 59) i;
    c3 = pattern_is 0 (a2 60) (a2 61) (a2 62) (a2 63) (small 60) (small 61) (small 62) (small 63) i;
    c2 = pattern_is 0 (a2 64) (a2 65) (a2 66) (a2 67) (small 64) (small 65) (small 66) (small 67) i;
    c1 = pattern_is 0 (a2 68) (a2 69) (a2 70) (a2 71) (small 68) (small 69) (small 70) (small 71) i;
    c0 = pattern_is 0 (a2 72) (a2 73) (a2 74) (a2 75) (small 72) (small 73) (small 74) (small 75) i;
  })

  pub all_placed : sensed_of kind (span a2 96 10) (span a2 56 20) ≡ placed kind a2 (patterns_at a2)
  unfolding sensed_of
  all_placed = ap (λ s. taken_all s 20 (span a2 56 20)) words_placed ∙ patterns_placed
