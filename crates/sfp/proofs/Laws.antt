-- Laws of the classes and of the sum.
use Rattle.std.proofs.Common.{◌≡◌, ℕ, zero, suc, ◌+◌, ◌*◌, ◌/◌, ◌%◌, ◌<◌, ◌≤◌, Bool, true, false, not, ◌&&◌, ◌||◌, eqb, ltb, List, [], ◌∷◌, sym, refl, ap, ◌∙◌, ap₂, arith}
use Rattle.std.specs.List.{fold}
use lib.Bits.{and_high}
use Rattle.hardware.specs.Prog.{pick}
use Rattle.hardware.specs.Registers.{none_of}
use Rattle.sfp.specs.declared.Codes.{Codes}
use Rattle.sfp.specs.declared.Kind.{Kind}
use Rattle.sfp.specs.declared.Kind.TheVariants.{DaCu, DaActiveLimiting, SrLr, Unknown}
use Rattle.sfp.specs.declared.Identity.{Identity}
use Rattle.sfp.specs.Bytes.{sfp_bytes, sfp_bytes_of, qsfp_bytes, qsfp_bytes_of, codes_of, codes_ask_rate}
use Rattle.sfp.specs.Classes.{Bytes, has, SR, LR, PASSIVE_DA, ACTIVE_DA, LIMITING, asks_rate, asks_reach, asks_active, bx10g, kind_of, multispeed_of, class_of, requests, qsfp_active, qsfp_kind_of, qsfp_multispeed_of, qsfp_class_of}
use Rattle.sfp.specs.Identify.{fibre_of, recorded}
use Rattle.sfp.specs.Coded.{coded_by, qsfp_coded, qsfp_cable}
use Rattle.sfp.specs.Qsfp.{qsfp_recorded}
use Rattle.sfp.specs.Finds.{class_in}
use Rattle.sfp.specs.Sum.{total, sum_of}
use Rattle.std.specs.Prelude.{Some, None, Option}

-- SR or LR: one look at both bits, or one at each
pub either_bit : (v : ℕ) → has v 0x30 ≡ (has v SR || has v LR)
unfolding has none_of
either_bit v =
    ap (λ n. not (eqb n 0)) (and_high v 2 4) ∙ by (v / 16 % 4) (omega arith)
    ∙ ap₂ (λ x y. not (eqb x 0) || not (eqb y 0)) (ap (λ n. n * 16) low ∙ sym (and_high v 1 4)) (ap (λ n. n * 32) high ∙ sym (and_high v 1 5))
  where
    low : v / 16 % 4 % 2 ≡ v / 16 % 2
    low = omega arith

    high : v / 16 % 4 / 2 ≡ v / 32 % 2
    high = omega arith

    by : (x : ℕ) → x < 4 → not (eqb (x * 16) 0) ≡ (not (eqb (x % 2 * 16) 0) || not (eqb (x / 2 * 32) 0))
    by zero h = refl
    by (suc zero) h = refl
    by (suc (suc zero)) h = refl
    by (suc (suc (suc zero))) h = refl
    by (suc (suc (suc (suc x)))) h = absurd (omega (arith, h))

pub pick_most : (b : Bool) (n : ℕ) → pick b n 0 ≤ n
unfolding pick
pick_most true n = omega arith
pick_most false n = omega arith

-- a class and the requests go by the named bytes alone
pub class_by : (at : Bytes) → class_of (sfp_bytes (sfp_bytes_of at)) ≡ class_of at
unfolding sfp_bytes pick class_of kind_of multispeed_of bx10g asks_reach asks_rate
class_by at = refl

pub requests_by : (at : Bytes) → requests (sfp_bytes (sfp_bytes_of at)) ≡ requests at
unfolding sfp_bytes pick requests asks_active asks_reach asks_rate
requests_by at = refl

pub qsfp_class_by : (at : Bytes) → qsfp_class_of (qsfp_bytes (qsfp_bytes_of at)) ≡ qsfp_class_of at
unfolding qsfp_bytes pick qsfp_class_of qsfp_kind_of qsfp_active qsfp_multispeed_of
qsfp_class_by at = refl

-- the codes of a module ask for byte 12 where its bytes do
pub codes_ask : (at : Bytes) → codes_ask_rate (codes_of at) ≡ asks_rate at
unfolding codes_ask_rate asks_rate
codes_ask at = refl

-- the same of what a program finds of the codes
pub rate_asked : {q : Bool} {c : Codes} (at : Bytes) → q ≡ codes_ask_rate c → c ≡ codes_of at → q ≡ asks_rate at
rate_asked at e f = e ∙ ap codes_ask_rate f ∙ codes_ask at

-- the kind by the codes: a cable, or the first of the others that fits
pub kind_by_codes : (at : Bytes)
    → pick (has (at 8) PASSIVE_DA) DaCu (pick (has (at 8) ACTIVE_DA) (pick (has (at 60) LIMITING) DaActiveLimiting Unknown) (fibre_of (codes_of at) (bx10g at)))
    ≡ kind_of at
unfolding kind_of fibre_of
kind_by_codes at = rw (either_bit (at 3))

-- the kind that the codes decide, or another's
abbrev pub kind_in : (Option Kind) → Kind → Kind
kind_in (Some kind) other = kind
kind_in None other = other

pub coded_kind : {r : (Option Kind)} {c : Codes} {bx : Bool} (at : Bytes) → r ≡ coded_by c bx → c ≡ codes_of at → bx ≡ bx10g at
    → kind_in r (pick (has (at 60) LIMITING) DaActiveLimiting Unknown) ≡ kind_of at
unfolding coded_by pick
coded_kind at e f g =
    ap (λ r. kind_in r (pick (has (at 60) LIMITING) DaActiveLimiting Unknown)) (e ∙ ap₂ coded_by f g)
    ∙ by (has (at 8) PASSIVE_DA) (has (at 8) ACTIVE_DA) (fibre_of (codes_of at) (bx10g at)) (pick (has (at 60) LIMITING) DaActiveLimiting Unknown)
    ∙ kind_by_codes at
  where
    by : (a b : Bool) (kind other : Kind) → kind_in (pick a (Some DaCu) (pick b None (Some kind))) other ≡ pick a DaCu (pick b other kind)
    by true b kind other = refl
    by false true kind other = refl
    by false false kind other = refl

pub qsfp_coded_kind : {r : (Option Kind)} (at : Bytes) → r ≡ qsfp_coded (at 0x83)
    → kind_in r (pick (eqb (at 0x82) 0x23) (pick (ltb 0 (at 0x92)) (qsfp_cable (at 0x93)) Unknown) Unknown) ≡ qsfp_kind_of at
unfolding qsfp_coded qsfp_cable qsfp_kind_of qsfp_active pick
qsfp_coded_kind at e =
    rw (e, ← either_bit (at 0x83))
    (by (has (at 0x83) 0x08) (has (at 0x83) 0x30) (has (at 0x83) 0x01) (eqb (at 0x82) 0x23) (ltb 0 (at 0x92)) (eqb (at 0x93 / 16) 0))
  where
    by : (a b c d e f : Bool)
        → kind_in (pick a (Some DaCu) (pick b (Some SrLr) (pick c (Some DaActiveLimiting) None))) (pick d (pick e (pick f DaActiveLimiting Unknown) Unknown) Unknown)
        ≡ pick a DaCu (pick b SrLr (pick (c || (d && (e && f))) DaActiveLimiting Unknown))
    by true b c d e f = refl
    by false true c d e f = refl
    by false false true d e f = refl
    by false false false false e f = refl
    by false false false true false f = refl
    by false false false true true true = refl
    by false false false true true false = refl

-- the class in the record of a module with these bytes
pub recorded_class : {m : Identity} {c : Codes} {kind : Kind} (identifier : ℕ) (at : Bytes)
    → m ≡ recorded identifier c kind → c ≡ codes_of at → kind ≡ kind_of at → class_in m ≡ record { kind = kind_of at; multispeed = multispeed_of at }
unfolding recorded multispeed_of
recorded_class identifier at e f g = ap class_in (e ∙ ap₂ (recorded identifier) f g)

pub qsfp_recorded_class : {m : Identity} {kind : Kind} (at : Bytes)
    → m ≡ qsfp_recorded (at 0x83) (at 0x86) kind → kind ≡ qsfp_kind_of at → class_in m ≡ record { kind = qsfp_kind_of at; multispeed = qsfp_multispeed_of at }
unfolding qsfp_recorded qsfp_multispeed_of
qsfp_recorded_class at e g = ap class_in (e ∙ ap (qsfp_recorded (at 0x83) (at 0x86)) g)

-- the sum of the bytes, the low eight bits at each of them
summed_from : (n : ℕ) (l : List ℕ) → n < 256 → fold (λ t b. (t + b) % 256) n l ≡ (n + total l) % 256
unfolding total
summed_from n [] h = omega (arith, h)
summed_from n (b ∷ l) h = summed_from ((n + b) % 256) l (omega arith) ∙ omega arith

pub summed : (l : List ℕ) → fold (λ t b. (t + b) % 256) 0 l ≡ sum_of l
unfolding sum_of
summed l = summed_from 0 l (omega arith) ∙ omega arith
