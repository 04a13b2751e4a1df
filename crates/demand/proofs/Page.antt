-- A whole page read with the bench module, for every port, both forms, every start that 01 allows and every list of answers
-- that meets the premises.
use Prim.Native.Nat.{ℕ, ◌+◌, ◌-◌, ◌<◌, ◌≤◌, suc, zero}
use mathlib.Core.Path.{◌≡◌, refl, ap, ◌∙◌, sym}
use mathlib.Core.Bool.{Bool, true, false}
use mathlib.Core.List.{List, ◌++◌}
use mathlib.Core.Logic.{⊎_elim, ◌↔◌}
use native.Mathlib.Nat.{add-zero}
use native.Mathlib.Omega.{arith}
use lib.ListN.{length, get_or, drop, get_or-append}
use lib.Seq.{sets, sets-eq}
use Rattle.transfer.specs.declared.attempt.Sequence.{Sequence}
use Rattle.hardware.specs.declared.Answer.{Answer}
use Rattle.hardware.specs.declared.Port.{Port}
use Rattle.hardware.specs.Failures.{I2c}
use Rattle.hardware.specs.Prog.{ret, Ok, Err, pick}
use Rattle.bus.specs.declared.Layout.{Layout}
use Rattle.bus.specs.Layout.{layout_of}
use Rattle.wire.specs.Lines.{drawn, Rests, Each}
use Rattle.wire.specs.Always.{Always}
use Rattle.wire.specs.Run.{ended}
use Rattle.wire.proofs.Edges.{rests}
use Rattle.bench.specs.declared.Bench.{Bench}
use Rattle.bench.specs.Bench.{pulls_low}
use Rattle.bench.specs.declared.receiver.Chosen.TheVariants.{A0}
use Rattle.sfp.specs.Classes.{Bytes}
use Rattle.sfp.specs.Identify.{EEPROM}
use Rattle.page.specs.declared.walk.Form.{Form}
use Rattle.page.specs.declared.walk.Form.TheVariants.{Sff8472, Sff8636}
use Rattle.page.specs.Page.{offset_of, sums_of, Filled, byte_seen, place_of, request_at, page_from, page}
use Rattle.page.specs.Spans.{BothCheck, Carries}
use Rattle.page.proofs.Accepted.{sums_front}
use Rattle.page.proofs.Ends.{PAGE_STEPS, page_ends}
use Rattle.page.proofs.Spans.{sums_check}
use Rattle.demand.specs.Claim.{unheard, CountedBench, bench_run, at_start, byte_of, extra, CallPremises, CallComes, Harms, Starts, BenchWorld, Start}
use Rattle.demand.specs.Mux.{watched}
use Rattle.demand.proofs.Direct.{direct}
use Rattle.demand.specs.PageClaim.{bytes_from, module_page, PageFacts, PageFails, page_call, PageClaim}
use Rattle.demand.proofs.Attempts.{Frees, harms_or_frees}
use Rattle.demand.proofs.Handshake.{world, Fit}
use Rattle.demand.proofs.Requests.{failed_of, bytes, After, begun, allowed_fit, after_leaves, Continues, counts, request_read, request_clears, request_fails, request_next_lem}
use Rattle.demand.proofs.Runs.{Steady, run_steady, run_ended, run_told}

-- every place's byte is one of the module's page A0
offset_small : (form : Form) (place : ℕ) → place < 96 → offset_of form place < 256
unfolding offset_of
offset_small Sff8472 place h = omega arith
offset_small Sff8636 place h = omega arith

offset_at_lem : (form : Form) (place : ℕ) → offset_of form place ≡ offset_of form 0 + place
unfolding offset_of
offset_at_lem Sff8472 place = omega arith
offset_at_lem Sff8636 place = omega arith

-- so many bytes stored, from a place on
abbrev stored : Form → Bytes → ℕ → ℕ → List ℕ → List ℕ
stored form at place n buffer = sets buffer place (bytes_from form at place n)

-- every byte is read
abbrev over : List ℕ → Filled
over buffer = record { result = sums_of buffer; buffer = buffer }

module _ (q : Sequence) (port : Port) (form : Form) (tries : ℕ) (m : CountedBench) (small : (i : ℕ) → bytes m i < 256) (Q : Filled → BenchWorld → Type 0) where
  -- a byte is read, and the rest goes on
  byte_read : (left place : ℕ) (buffer : List ℕ) (j : ℕ) → place + suc left ≡ 96
      → ((l : List ℕ) → Continues q port m Q (left + suc j) (ret (over (stored form (bytes m) (suc place) left l))) → Continues q port m Q (suc j) (page_from q port form tries left l))
      → Continues q port m Q (suc left + j) (ret (over (stored form (bytes m) place (suc left) buffer)))
      → Continues q port m Q (suc j) (byte_seen (page_from q port form tries left) (place_of left) buffer (Ok (bytes m (offset_of form (place_of left)))))
  unfolding byte_seen bytes_from
  byte_read left place buffer j c again h = again _ (rw at (counts q port m Q _ (omega arith) h))
    where
      at : place_of left ≡ place
      at = omega (arith, c)

  -- the last n bytes
  bytes_read : (n place more : ℕ) (buffer : List ℕ) (j : ℕ) → place + n ≡ 96 → tries ≡ suc more
      → Continues q port m Q (n + j) (ret (over (stored form (bytes m) place n buffer))) → Continues q port m Q j (page_from q port form tries n buffer)
  unfolding page_from request_at bytes_from
  bytes_read zero place more buffer j c e h = counts q port m Q _ (omega arith) h
  bytes_read (suc left) place more buffer j c e h =
      λ n w a.
      request_next_lem q port A0 _ (offset_small form (place_of left) (omega arith)) tries more j w _ Q e a (small _)
      (byte_read left place buffer j c (λ l. bytes_read left (suc place) more l (suc j) (omega (arith, c)) e) h)

  -- the first byte, by the module's state at the beginning: where it does not pull SDA
  read_first : (left place more : ℕ) (buffer : List ℕ) (w : ℕ) (a b : Bool) → place + suc left ≡ 96 → tries ≡ suc more
      → Fit port w m → Rests (layout_of port.family) (drawn a b) w → (direct.pulls m).sda ≡ false
      → Continues q port m Q (suc left) (ret (over (stored form (bytes m) place (suc left) buffer)))
      → Always (layout_of port.family) (watched q port) (page_from q port form tries (suc left) buffer) (world w m) Q
  unfolding page_from request_at
  read_first left place more buffer w a b c e f r free h =
      request_read q port A0 _ (offset_small form (place_of left) (omega arith)) tries more w m a b _ Q e f r (small _) free
      (byte_read left place buffer 0 c (λ l. bytes_read left (suc place) more l 1 (omega (arith, c)) e) (counts q port m Q _ (omega arith) h))

  -- where the sequence frees it
  read_cleared : (left place more : ℕ) (buffer : List ℕ) (w : ℕ) (a b : Bool) → place + suc left ≡ 96 → tries ≡ suc (suc more)
      → Fit port w m → Rests (layout_of port.family) (drawn a b) w → (direct.pulls m).sda ≡ true → Frees q m.bench.receiver
      → Continues q port m Q (suc left + 1) (ret (over (stored form (bytes m) place (suc left) buffer)))
      → Always (layout_of port.family) (watched q port) (page_from q port form tries (suc left) buffer) (world w m) Q
  unfolding page_from request_at
  read_cleared left place more buffer w a b c e f r held s h =
      request_clears q port A0 _ (offset_small form (place_of left) (omega arith)) tries more w m a b _ Q e f r (small _) held s
      (byte_read left place buffer 1 c (λ l. bytes_read left (suc place) (suc more) l 2 (omega (arith, c)) e) h)

  -- where the sequence harms it
  read_fails : (left : ℕ) (buffer : List ℕ) (w : ℕ) (a b : Bool) → Fit port w m → Rests (layout_of port.family) (drawn a b) w → Harms q m.bench
      → ((n : CountedBench) (v : ℕ) → n.meter ≡ failed_of tries m.meter → Q (record { result = Err (I2c EEPROM); buffer = buffer }) (world v n))
      → Always (layout_of port.family) (watched q port) (page_from q port form tries (suc left) buffer) (world w m) Q
  unfolding page_from request_at byte_seen Always
  read_fails left buffer w a b f r i h = request_fails q port A0 _ (offset_small form (place_of left) (omega arith)) tries w m a b _ Q f r i h

from_length : (form : Form) (at : Bytes) (place n : ℕ) → length (bytes_from form at place n) ≡ n
unfolding bytes_from
from_length form at place zero = refl
from_length form at place (suc n) = ap suc (from_length form at (suc place) n)

-- a buffer with room for the bytes has them, and beyond them what it had
all_stored : (form : Form) (at : Bytes) (n : ℕ) (buffer : List ℕ) → n ≤ length buffer
    → stored form at 0 n buffer ≡ bytes_from form at 0 n ++ drop n buffer
all_stored form at n buffer h =
    sets-eq (bytes_from form at 0 n) buffer 0 (omega (arith, from_length form at 0 n))
    ∙ ap (λ k. bytes_from form at 0 n ++ drop k buffer) whole
  where
    whole : 0 + length (bytes_from form at 0 n) ≡ n
    whole = omega (arith, from_length form at 0 n)

module _ (q : Sequence) (port : Port) (form : Form) (tries : ℕ) (buffer : List ℕ) (b : Bench) (start : Start) (small : (n : ℕ) → byte_of b.a0 n < 256) where
  -- the end, where all went well
  well : (e j : ℕ) → extra b ≡ e → 96 ≤ length buffer → (n : CountedBench) (w : ℕ) → After port (begun start b) j n w → j ≡ 96 + e
      → PageFacts (layout_of port.family) b form buffer (over (stored form (byte_of b.a0) 0 96 buffer)) (world w n)
  unfolding module_page
  well e j x room n w a c =
      record {
        buffer = kept;
        result = ap sums_of kept ∙ sums_front _ _ (from_length form (byte_of b.a0) 0 96);
        leaves = after_leaves start b a (omega (arith, c, x));
      }
    where
      kept : stored form (byte_of b.a0) 0 96 buffer ≡ bytes_from form (byte_of b.a0) 0 96 ++ drop 96 buffer
      kept = all_stored form (byte_of b.a0) 96 buffer room

  -- it holds of the page, whatever the other answers are
  always_read : (Harms q b → ⊥) → 1 + extra b ≤ tries → 96 ≤ length buffer → (x y : Bool) → Fit port start.word (begun start b) → Rests (layout_of port.family) (drawn x y) start.word
      → Always (layout_of port.family) (watched q port) (page_call q port form tries buffer) (at_start start b) (PageFacts (layout_of port.family) b form buffer)
  unfolding page Always pick
  always_read other enough room x y f r = by (pulls_low b) refl
    where
      by : (t : Bool) → pulls_low b ≡ t
          → Always (layout_of port.family) (watched q port) (page_call q port form tries buffer) (at_start start b) (PageFacts (layout_of port.family) b form buffer)
      by false e =
          read_first q port form tries (begun start b) small _ 95 0 (tries - 1) buffer start.word x y refl (omega (arith, enough)) f r e
          (λ n w a. well 0 _ (rw e) room n w a refl)
      by true e =
          ⊎_elim
          (λ i. absurd (other i))
          (λ s.
          read_cleared q port form tries (begun start b) small _ 95 0 (tries - 2) buffer start.word x y refl (omega (arith, rw e at enough)) f r e s
          (λ n w a. well 1 _ (rw e) room n w a refl))
          (harms_or_frees q (begun start b) e)

  -- where the sequence harms the module
  always_fails : Harms q b → (x y : Bool) → Fit port start.word (begun start b) → Rests (layout_of port.family) (drawn x y) start.word
      → Always (layout_of port.family) (watched q port) (page_call q port form tries buffer) (at_start start b) (PageFails tries buffer)
  unfolding page
  always_fails i x y f r =
      read_fails q port form tries (begun start b) small _ 95 buffer start.word x y f r i
      (λ n v made. record { buffer = refl; result = refl; meter = made ∙ ap unheard (add-zero tries) })

module _ (q : Sequence) (port : Port) (form : Form) (tries : ℕ) (buffer : List ℕ) (b : Bench) (start : Start) (answers : List Answer) (s : Starts port b start)
    (m : CallPremises port (page_call q port form tries buffer) b start answers) where
  -- a module that the sequence does not harm, attempts enough, and room for a page
  module _ (other : Harms q b → ⊥) (enough : 1 + extra b ≤ tries) (room : 96 ≤ length buffer) where
    started : Always (layout_of port.family) (watched q port) (page_call q port form tries buffer) (at_start start b) (PageFacts (layout_of port.family) b form buffer)
    unfolding Starts
    started = always_read q port form tries buffer b start s.0 other enough room _ _ (allowed_fit b s.1) (rests (layout_of port.family) start.word s.1.fit)

    -- A page read with the bench module, whenever the call has come to its end
    pub page_claimed_ended : (f : Filled) (w : BenchWorld) → (bench_run port (page_call q port form tries buffer) b start answers).outcome ≡ ended f w
        → PageFacts (layout_of port.family) b form buffer f w
    unfolding CallPremises
    page_claimed_ended = run_ended q port (page_call q port form tries buffer) b start answers _ started m

    -- as it has for every list that is long enough, and the library's too, whose result tells the transfers made
    pub page_claimed : PAGE_STEPS port.family tries ≤ length answers → PageClaim q port form tries buffer b start answers
    unfolding CallPremises CallComes PageClaim
    page_claimed = run_told q port (page_call q port form tries buffer) b start answers _ started m (PAGE_STEPS port.family tries) (page_ends q port form tries buffer)

    -- no write moves both lines
    pub page_never_both_lines : Each (Steady q port) (bench_run port (page_call q port form tries buffer) b start answers).trace
    unfolding CallPremises
    page_never_both_lines = run_steady q port (page_call q port form tries buffer) b start answers _ started m

  -- a module that it harms, whatever the buffer and the number of attempts
  module _ (ack : Harms q b) where
    failing : Always (layout_of port.family) (watched q port) (page_call q port form tries buffer) (at_start start b) (PageFails tries buffer)
    unfolding Starts
    failing = always_fails q port form tries buffer b start s.0 ack _ _ (allowed_fit b s.1) (rests (layout_of port.family) start.word s.1.fit)

    pub page_fails_ended : (f : Filled) (w : BenchWorld) → (bench_run port (page_call q port form tries buffer) b start answers).outcome ≡ ended f w → PageFails tries buffer f w
    unfolding CallPremises
    page_fails_ended = run_ended q port (page_call q port form tries buffer) b start answers _ failing m

    pub page_fails : PAGE_STEPS port.family tries ≤ length answers → CallComes port (page_call q port form tries buffer) b start answers (PageFails tries buffer)
    unfolding CallPremises CallComes
    page_fails = run_told q port (page_call q port form tries buffer) b start answers _ failing m (PAGE_STEPS port.family tries) (page_ends q port form tries buffer)

from_at : (form : Form) (at : Bytes) (n place i : ℕ) → i < n → get_or (bytes_from form at place n) i 0 ≡ at (offset_of form (place + i))
unfolding bytes_from
from_at form at zero place i h = absurd (omega arith)
from_at form at (suc n) place zero h = ap (λ k. at (offset_of form k)) whole
  where
    whole : place ≡ place + 0
    whole = omega arith
from_at form at (suc n) place (suc i) h = from_at form at n (suc place) i (omega arith) ∙ ap (λ k. at (offset_of form k)) next
  where
    next : suc place + i ≡ place + suc i
    next = omega arith

pub module_page_length : (form : Form) (b : Bench) → length (module_page form b) ≡ 96
unfolding module_page
module_page_length form b = from_length form (byte_of b.a0) 0 96

pub module_page_at : (form : Form) (b : Bench) (place : ℕ) → place < 96 → get_or (module_page form b) place 0 ≡ byte_of b.a0 (offset_of form place)
unfolding module_page
module_page_at form b place h = from_at form (byte_of b.a0) 96 0 place h ∙ ap (λ k. byte_of b.a0 (offset_of form k)) whole
  where
    whole : 0 + place ≡ place
    whole = omega arith

module_checks : (form : Form) (b : Bench) → (sums_of (module_page form b) ≡ Ok tt) ↔ BothCheck form (byte_of b.a0)
unfolding Carries
module_checks form b =
    sums_check form (byte_of b.a0) (module_page form b)
    (λ i low high. module_page_at form b i (omega (arith, high)) ∙ ap (byte_of b.a0) (offset_at_lem form i))

-- what follows from the facts
module _ (l : Layout) (b : Bench) (form : Form) (before : List ℕ) (f : Filled) (w : BenchWorld) (h : PageFacts l b form before f w) where
  -- each byte of the page stands at its place
  pub read_at : (place : ℕ) → place < 96 → get_or f.buffer place 0 ≡ byte_of b.a0 (offset_of form place)
  read_at place k = rw h.buffer (get_or-append (module_page form b) (drop 96 before) 0 place (omega (arith, module_page_length form b)) ∙ module_page_at form b place k)

  -- the result is by the sums of the buffer, of which those of the module's page are
  pub judged : f.result ≡ sums_of f.buffer
  judged = rw h.buffer (h.result ∙ sym (sums_front (module_page form b) (drop 96 before) (module_page_length form b)))

  -- the page is accepted exactly where both check bytes of the module are right
  pub accepted : (f.result ≡ Ok tt) ↔ BothCheck form (byte_of b.a0)
  accepted = (λ e. (module_checks form b).0 (sym h.result ∙ e), λ k. h.result ∙ (module_checks form b).1 k)
