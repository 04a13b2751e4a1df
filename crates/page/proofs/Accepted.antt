-- How a page ends, exactly, and what its buffer holds until then; so it is accepted exactly when every read succeeds and both sums
-- are right.
use Prim.Native.Nat.{ℕ, ◌+◌, ◌-◌, ◌<◌, ◌≤◌, suc, zero}
use mathlib.Core.Path.{◌≡◌, ◌∙◌, refl, ap, ap₂, subst, sym}
use mathlib.Core.Bool.{true, false}
use mathlib.Core.List.{List, [], ◌∷◌, ◌++◌, append_assoc}
use mathlib.Core.Logic.{◌↔◌}
use native.Mathlib.Nat.{zero-add}
use native.Mathlib.Omega.{arith}
use lib.ListN.{get_or-append, drop, length, length-append, length-drop, set}
use lib.Seq.{drop-append-le, sets, sets-eq, take-append-le}
use Rattle.hardware.specs.declared.Access.{Access}
use Rattle.hardware.specs.declared.Answer.{Answer}
use Rattle.hardware.specs.declared.Port.{Port}
use Rattle.hardware.specs.Prog.{Note, Prog, ret, ask, note, give, R, Ok, Err, pick}
use Rattle.hardware.specs.Runs.{ended, run, on_answer, EndsOver}
use Rattle.hardware.proofs.Ends.{run_then, run_parted}
use Rattle.transfer.specs.declared.attempt.Sequence.{Sequence}
use Rattle.i2c.specs.I2c.{locked, transferred}
use Rattle.page.specs.declared.walk.Form.{Form}
use Rattle.page.specs.Page.{Filled, FirstSum, SecondSum, byte_seen, page, page_from, place_of, request_at, sum_right, sums_of}
use Rattle.page.specs.Walk.{filling, filled_from}
use Rattle.page.specs.Accepted.{Accepted, Closes, judged, failed, PageEnds, PageHolds, Reads, ReadsFirst, none, one, with_page}

-- what stands behind a page does not count
sum_front : (bytes rest : List ℕ) (from at : ℕ) → from ≤ at → at < length bytes → sum_right (bytes ++ rest) from at ≡ sum_right bytes from at
unfolding sum_right
sum_front bytes rest from at f h =
    rw (drop-append-le from bytes rest (omega arith), take-append-le (at - from) (drop from bytes) rest within, get_or-append bytes rest 0 at h)
  where
    within : at - from ≤ length (drop from bytes)
    within = rw length-drop (omega arith)

pub sums_front : (bytes rest : List ℕ) → length bytes ≡ 96 → sums_of (bytes ++ rest) ≡ sums_of bytes
unfolding sums_of
sums_front bytes rest h = rw (sum_front bytes rest 0 63 (omega arith) (omega arith), sum_front bytes rest 64 95 (omega arith) (omega arith))

-- the buffer with the last n bytes of a page so far as these were read, by one byte
sets_one : (left b : ℕ) (buffer bytes : List ℕ) → suc left ≤ 96 → sets (set buffer (place_of left) b) (96 - left) bytes ≡ sets buffer (96 - suc left) (b ∷ bytes)
sets_one left b buffer bytes h = rw (place, next)
  where
    place : 96 - suc left ≡ place_of left
    place = omega arith

    next : 96 - left ≡ suc (place_of left)
    next = omega arith

-- and from the first place on
sets_first : (buffer bytes : List ℕ) → 96 ≤ length buffer → length bytes ≤ 96 → sets buffer 0 bytes ≡ bytes ++ drop (length bytes) buffer
sets_first buffer bytes h e = rw (sets-eq bytes buffer 0 (omega arith), zero-add (length bytes))

-- what the answers bring of a byte: it has come over a front part of them, and is stored, or it has not
module _ (place : ℕ) (next : List ℕ → List Answer → List ℕ) (buffer : List ℕ) where
  data Comes (p : Prog (R ℕ)) (l : List Answer) : Type 0 where
    came : (v : ℕ) (front behind : List Answer) → l ≡ front ++ behind → EndsOver p front (Ok v)
        → filling place next buffer p l ≡ next (set buffer place v) behind → Comes p l
    waits : ((v : ℕ) → (run p l).status ≡ ended (Ok v) → ⊥) → filling place next buffer p l ≡ buffer → Comes p l

  comes_after : (x : Access) (f : Answer → Prog (R ℕ)) (a : Answer) (l : List Answer) → Comes (f a) l → Comes (ask x f) (a ∷ l)
  unfolding EndsOver run on_answer filling
  comes_after x f a l (came v front behind parts ends h) = came v (a ∷ front) behind (ap (λ t. a ∷ t) parts) (ends.0, ap suc ends.1) h
  comes_after x f a l (waits unread h) = waits unread h

  comes_noted : (n : Note) (p : Prog (R ℕ)) (l : List Answer) → Comes p l → Comes (note n p) l
  unfolding EndsOver run filling
  comes_noted n p l (came v front behind parts ends h) = came v front behind parts ends h
  comes_noted n p l (waits unread h) = waits unread h

  comes_given : (b : ℕ) (p : Prog (R ℕ)) (l : List Answer) → Comes p l → Comes (give b p) l
  unfolding EndsOver run filling
  comes_given b p l (came v front behind parts ends h) = came v front behind parts ends h
  comes_given b p l (waits unread h) = waits unread h

  comes : (p : Prog (R ℕ)) (l : List Answer) → Comes p l
  unfolding EndsOver run on_answer filling
  comes (ret (Ok v)) l = came v [] l refl (refl, refl) refl
  comes (ret (Err e)) l = waits (λ v d. let z : ◌≡◌ {A = ℕ} 0 1 = cc in omega arith) refl
  comes (ask x f) [] = waits (λ v d. let z : ◌≡◌ {A = ℕ} 0 1 = cc in omega arith) refl
  comes (ask x f) (a ∷ l) = comes_after x f a l (comes (f a) l)
  comes (note n p) l = comes_noted n p l (comes p l)
  comes (give b p) l = comes_given b p l (comes p l)

module _ (q : Sequence) (port : Port) (form : Form) (tries : ℕ) where
  -- a byte for each read
  length_read : (left n : ℕ) (l : List Answer) (bytes : List ℕ) → Reads q port form tries left n l bytes → left + length bytes ≡ n
  length_read left n l bytes none = omega arith
  length_read left n l bytes (one m b l₁ l₂ bs e r) = omega (arith, length_read left m l₂ bs r)

  all_read : (left : ℕ) (l : List Answer) (bytes : List ℕ) → Reads q port form tries left 96 l bytes → left ≡ 0 → length bytes ≡ 96
  all_read left l bytes r e = omega (arith, length_read left 96 l bytes r)

  -- the sums count only where no byte is left
  closes_by : (a b : R (Unit {0})) (left : ℕ) (l : List Answer) (r : R (Unit {0})) → (left ≡ 0 → a ≡ b)
      → Closes q port form tries a left l r → Closes q port form tries b left l r
  closes_by a b left l r e judged = subst (λ z. Closes q port form tries b 0 [] z) (sym (e refl)) judged
  closes_by a b left l r e (failed n x m d) = failed n x m d

  -- a close with success is that of right sums
  closes_ok : (sums : R (Unit {0})) (left : ℕ) (l : List Answer) (r : R (Unit {0})) → r ≡ Ok tt → Closes q port form tries sums left l r
      → (left ≡ 0) × (sums ≡ Ok tt)
  closes_ok sums left l r o judged = (refl, o)
  closes_ok sums left l r o (failed n x m d) = let z : ◌≡◌ {A = ℕ} 0 1 = cc in absurd (omega arith)

  -- f: how the last n bytes of a page end
  record RestEnds (n : ℕ) (buffer : List ℕ) (l : List Answer) (f : Filled) : Type 0 where
    pub bytes : List ℕ
    pub left : ℕ
    pub before : List Answer
    pub last : List Answer
    pub behind : List Answer
    pub parts : l ≡ before ++ (last ++ behind)
    pub reads : Reads q port form tries left n before bytes
    pub closes : Closes q port form tries (sums_of f.buffer) left last f.result
    pub stored : f.buffer ≡ sets buffer (96 - n) bytes

  -- where they end so, the run does
  close_run : (left : ℕ) (buffer : List ℕ) (l m : List Answer) (r : R (Unit {0})) → Closes q port form tries (sums_of buffer) left l r
      → (run (page_from q port form tries left buffer) (l ++ m)).status ≡ ended (record { result = r; buffer = buffer })
  unfolding run page_from byte_seen EndsOver
  close_run left buffer l m r judged = refl
  close_run left buffer l m r (failed n x k d) = (run_then _ _ (Err x) k m d.0 d.1).1

  rest_run : (left n : ℕ) (buffer bytes : List ℕ) (l last m : List Answer) (r : R (Unit {0})) → n ≤ 96 → Reads q port form tries left n l bytes
      → Closes q port form tries (sums_of (sets buffer (96 - n) bytes)) left last r
      → (run (page_from q port form tries n buffer) (l ++ (last ++ m))).status ≡ ended (record { result = r; buffer = sets buffer (96 - n) bytes })
  unfolding run page_from byte_seen EndsOver
  rest_run left n buffer bytes l last m r h none c = close_run n buffer last m r c
  rest_run left n buffer bytes l last m r h (one k b l₁ l₂ bs e d) c =
      rw (append_assoc, ← sets_one k b buffer bs h)
      ((run_then _ _ (Ok b) l₁ (l₂ ++ (last ++ m)) e.0 e.1).1
      ∙ rest_run left k (set buffer (place_of k) b) bs l₂ last m r (omega arith) d (rw (sets_one k b buffer bs h) c))

  -- where the run has ended, they end so
  one_ended : (n : ℕ) (buffer : List ℕ) (f : Filled) (l m : List Answer) (r : R ℕ) → suc n ≤ 96
      → EndsOver (transferred port (request_at form n) (locked q) tries) l r
      → (run (byte_seen (page_from q port form tries n) (place_of n) buffer r) m).status ≡ ended f
      → ((b : List ℕ) → (run (page_from q port form tries n b) m).status ≡ ended f → RestEnds n b m f)
      → RestEnds (suc n) buffer (l ++ m) f
  unfolding run byte_seen
  one_ended n buffer f l m (Ok b) h first second again =
      let w = again (set buffer (place_of n) b) second in
      record {
        bytes = b ∷ w.bytes;
        left = w.left;
        before = l ++ w.before;
        last = w.last;
        behind = w.behind;
        parts = rw append_assoc (ap (λ t. l ++ t) w.parts);
        reads = one n b l w.before w.bytes first w.reads;
        closes = w.closes;
        stored = w.stored ∙ sets_one n b buffer w.bytes h;
      }
  one_ended n buffer f l m (Err e) h first second again =
      let z : record { result = Err e; buffer = buffer } ≡ f = cc in
      subst (RestEnds (suc n) buffer (l ++ m)) z
      (record { bytes = []; left = suc n; before = []; last = l; behind = m; parts = refl; reads = none; closes = failed n e l first; stored = refl })

  rest_ended : (n : ℕ) (buffer : List ℕ) (f : Filled) (l : List Answer) → n ≤ 96 → (run (page_from q port form tries n buffer) l).status ≡ ended f → RestEnds n buffer l f
  unfolding run page_from
  rest_ended zero buffer f l h e =
      let z : record { result = sums_of buffer; buffer = buffer } ≡ f = cc in
      subst (RestEnds 0 buffer l) z
      (record { bytes = []; left = 0; before = []; last = []; behind = l; parts = refl; reads = none; closes = judged; stored = refl })
  rest_ended (suc n) buffer f l h e =
      let (r, front, behind, parts, first, second) = run_parted _ _ l f e in
      rw parts (one_ended n buffer f front behind r h first second (λ b d. rest_ended n b f behind (omega arith) d))

  -- of a whole page the sums are those of the bytes that were read
  all_sums : (left : ℕ) (buffer bytes : List ℕ) (l : List Answer) → Reads q port form tries left 96 l bytes → left ≡ 0
      → sums_of (bytes ++ drop (length bytes) buffer) ≡ sums_of bytes
  all_sums left buffer bytes l r e = sums_front bytes _ (all_read left l bytes r e)

  -- How a page ends, for every list of answers
  pub page_ends_as : (buffer : List ℕ) (l : List Answer) (f : Filled) → 96 ≤ length buffer
      → ((run (page q port form tries buffer) l).status ≡ ended f) ↔ PageEnds q port form tries buffer l f
  unfolding page
  page_ends_as buffer l f h = (so, back)
    where
      so : (run (page q port form tries buffer) l).status ≡ ended f → PageEnds q port form tries buffer l f
      so e =
          let w = rest_ended 96 buffer f l (omega arith) e in
          let few : length w.bytes ≤ 96 = omega (arith, length_read w.left 96 w.before w.bytes w.reads) in
          let held : f.buffer ≡ w.bytes ++ drop (length w.bytes) buffer = w.stored ∙ sets_first buffer w.bytes h few in
          record {
            bytes = w.bytes;
            left = w.left;
            before = w.before;
            last = w.last;
            behind = w.behind;
            parts = w.parts;
            reads = w.reads;
            closes = closes_by _ _ w.left w.last f.result (λ z. ap sums_of held ∙ all_sums w.left buffer w.bytes w.before w.reads z) w.closes;
            stored = held;
          }

      back : PageEnds q port form tries buffer l f → (run (page q port form tries buffer) l).status ≡ ended f
      back w =
          let few : length w.bytes ≤ 96 = omega (arith, length_read w.left 96 w.before w.bytes w.reads) in
          let first = sets_first buffer w.bytes h few in
          let c = closes_by _ (sums_of (sets buffer 0 w.bytes)) w.left w.last f.result (λ z. sym (ap sums_of first ∙ all_sums w.left buffer w.bytes w.before w.reads z)) w.closes in
          ap (λ t. (run (page q port form tries buffer) t).status) w.parts
          ∙ rest_run w.left 96 buffer w.bytes w.before w.last w.behind f.result (omega arith) w.reads c
          ∙ ap (λ b. ended (record { result = f.result; buffer = b })) (first ∙ sym w.stored)

  -- what the buffer holds over the last n bytes
  record RestHolds (n : ℕ) (buffer : List ℕ) (l : List Answer) (after : List ℕ) : Type 0 where
    pub bytes : List ℕ
    pub left : ℕ
    pub before : List Answer
    pub behind : List Answer
    pub parts : l ≡ before ++ behind
    pub reads : Reads q port form tries left n before bytes
    pub next : (m b : ℕ) → left ≡ suc m → (run (transferred port (request_at form m) (locked q) tries) behind).status ≡ ended (Ok b) → ⊥
    pub stored : after ≡ sets buffer (96 - n) bytes

  one_holds : (n : ℕ) (buffer : List ℕ) (l : List Answer) → suc n ≤ 96
      → ((b : List ℕ) (m : List Answer) → RestHolds n b m (filled_from q port form tries n b m))
      → Comes (place_of n) (filled_from q port form tries n) buffer (transferred port (request_at form n) (locked q) tries) l
      → RestHolds (suc n) buffer l (filled_from q port form tries (suc n) buffer l)
  unfolding filled_from
  one_holds n buffer l h again (came v front behind parts ends held) =
      let w = again (set buffer (place_of n) v) behind in
      record {
        bytes = v ∷ w.bytes;
        left = w.left;
        before = front ++ w.before;
        behind = w.behind;
        parts = parts ∙ rw append_assoc (ap (λ t. front ++ t) w.parts);
        reads = one n v front w.before w.bytes ends w.reads;
        next = w.next;
        stored = held ∙ w.stored ∙ sets_one n v buffer w.bytes h;
      }
  one_holds n buffer l h again (waits unread held) =
      record {
        bytes = [];
        left = suc n;
        before = [];
        behind = l;
        parts = refl;
        reads = none;
        next = λ m b e d.
            let same : m ≡ n = omega (arith, e) in
            unread b (subst (λ k. (run (transferred port (request_at form k) (locked q) tries) l).status ≡ ended (Ok b)) same d);
        stored = held;
      }

  rest_holds : (n : ℕ) (buffer : List ℕ) (l : List Answer) → n ≤ 96 → RestHolds n buffer l (filled_from q port form tries n buffer l)
  unfolding filled_from
  rest_holds zero buffer l h =
      record { bytes = []; left = 0; before = []; behind = l; parts = refl; reads = none; next = λ m b e d. omega (arith, e); stored = refl }
  rest_holds (suc n) buffer l h = one_holds n buffer l h (λ b m. rest_holds n b m (omega arith)) (comes (place_of n) (filled_from q port form tries n) buffer _ l)

  -- What the buffer holds, for every list of answers
  pub page_holds_as : (buffer : List ℕ) (l : List Answer) → 96 ≤ length buffer → PageHolds q port form tries buffer l (filled_from q port form tries 96 buffer l)
  page_holds_as buffer l h =
      let w = rest_holds 96 buffer l (omega arith) in
      let few : length w.bytes ≤ 96 = omega (arith, length_read w.left 96 w.before w.bytes w.reads) in
      record {
        bytes = w.bytes;
        left = w.left;
        before = w.before;
        behind = w.behind;
        parts = w.parts;
        reads = w.reads;
        next = w.next;
        stored = w.stored ∙ sets_first buffer w.bytes h few;
      }

  -- the buffer keeps its length
  pub page_length : (buffer : List ℕ) (l : List Answer) (f : Filled) → 96 ≤ length buffer → PageEnds q port form tries buffer l f → length f.buffer ≡ length buffer
  page_length buffer l f h w =
      ap length w.stored
      ∙ length-append w.bytes (drop (length w.bytes) buffer)
      ∙ rw length-drop (omega (arith, length_read w.left 96 w.before w.bytes w.reads))

  -- where every read succeeds, the sums are judged, and the buffer holds the bytes
  pub page_read : (buffer bytes : List ℕ) (l : List Answer) → 96 ≤ length buffer → ReadsFirst q port form tries 96 l bytes
      → (run (page q port form tries buffer) l).status ≡ ended (record { result = sums_of bytes; buffer = with_page bytes buffer })
  page_read buffer bytes l h r =
      (page_ends_as buffer l _ h).1
      (record {
        bytes = bytes;
        left = 0;
        before = r.front;
        last = [];
        behind = r.behind;
        parts = r.parts;
        reads = r.reads;
        closes = judged;
        stored = ap (λ n. bytes ++ drop n buffer) (sym (all_read 0 r.front bytes r.reads refl));
      })

  -- A page is accepted exactly when every read succeeds and both sums are right of the bytes
  pub page_accepted : (buffer after : List ℕ) (l : List Answer) → 96 ≤ length buffer
      → ((run (page q port form tries buffer) l).status ≡ ended (record { result = Ok tt; buffer = after })) ↔ Accepted q port form tries buffer l after
  page_accepted buffer after l h = (
    λ e.
        let w = (page_ends_as buffer l _ h).0 e in
        let (none_left, sums) = closes_ok _ w.left w.last _ refl w.closes in
        record {
          bytes = w.bytes;
          read = record { front = w.before; behind = w.last ++ w.behind; parts = w.parts; reads = rw none_left at w.reads };
          sums = sums;
          stored = w.stored ∙ ap (λ n. w.bytes ++ drop n buffer) (all_read w.left w.before w.bytes w.reads none_left);
        },
    λ a. page_read buffer a.bytes l h a.read ∙ ap₂ (λ r b. ended (record { result = r; buffer = b })) a.sums (sym a.stored),
  )

  -- every read succeeds, and a sum is wrong: the first is told before the second
  pub first_wrong : (buffer bytes : List ℕ) (l : List Answer) → 96 ≤ length buffer → ReadsFirst q port form tries 96 l bytes
      → sum_right bytes 0 63 ≡ false
      → (run (page q port form tries buffer) l).status ≡ ended (record { result = Err FirstSum; buffer = with_page bytes buffer })
  unfolding sums_of pick
  first_wrong buffer bytes l h r e = page_read buffer bytes l h r ∙ rw e

  pub second_wrong : (buffer bytes : List ℕ) (l : List Answer) → 96 ≤ length buffer → ReadsFirst q port form tries 96 l bytes
      → sum_right bytes 0 63 ≡ true → sum_right bytes 64 95 ≡ false
      → (run (page q port form tries buffer) l).status ≡ ended (record { result = Err SecondSum; buffer = with_page bytes buffer })
  unfolding sums_of pick
  second_wrong buffer bytes l h r e d = page_read buffer bytes l h r ∙ rw (e, d)
