-- How a page ends, exactly: which reads succeed, in order, and then the sums of the bytes, or the request that fails; what its
-- buffer holds until then; and when it is accepted: every read succeeds, and both sums are right of the bytes that were read.
use Rattle.std.specs.Prelude.{ℕ, suc, ◌≡◌, List, [], ◌∷◌, ◌++◌, drop, length}
use Rattle.hardware.specs.declared.Answer.{Answer}
use Rattle.hardware.specs.declared.Port.{Port}
use Rattle.hardware.specs.Failures.{Failure}
use Rattle.hardware.specs.Prog.{R, Ok, Err}
use Rattle.hardware.specs.Runs.{EndsOver, ended, run}
use Rattle.transfer.specs.declared.attempt.Sequence.{Sequence}
use Rattle.i2c.specs.I2c.{locked, transferred}
use Rattle.page.specs.declared.walk.Form.{Form}
use Rattle.page.specs.Page.{Filled, request_at, sums_of}

-- over these answers, all of them needed, the reads succeed one after another from where n bytes are left to where only `left`
-- are, and bring these bytes
pub data Reads (q : Sequence) (port : Port) (form : Form) (tries left : ℕ) : ℕ → List Answer → List ℕ → Type 0 where
  none : Reads q port form tries left left [] []
  one : (n b : ℕ) (l m : List Answer) (bytes : List ℕ) → EndsOver (transferred port (request_at form n) (locked q) tries) l (Ok b)
      → Reads q port form tries left n m bytes → Reads q port form tries left (suc n) (l ++ m) (b ∷ bytes)

-- how a page comes to its end where so many bytes are left, with this result: none is, and the sums are judged, or the request
-- for the next fails over these answers
pub data Closes (q : Sequence) (port : Port) (form : Form) (tries : ℕ) (sums : R (Unit {0})) : ℕ → List Answer → R (Unit {0}) → Type 0 where
  judged : Closes q port form tries sums 0 [] sums
  failed : (n : ℕ) (e : Failure) (l : List Answer) → EndsOver (transferred port (request_at form n) (locked q) tries) l (Err e)
      → Closes q port form tries sums (suc n) l (Err e)

-- A page ends so over these answers: reads that succeed, then its close; the answers after the end are not looked at. The buffer
-- has the bytes that were read in its first places, and behind them what it held
pub record PageEnds (q : Sequence) (port : Port) (form : Form) (tries : ℕ) (buffer : List ℕ) (l : List Answer) (f : Filled) : Type 0 where
  pub bytes : List ℕ
  -- how many bytes were not read
  pub left : ℕ
  pub before : List Answer
  pub last : List Answer
  pub behind : List Answer
  pub parts : l ≡ before ++ (last ++ behind)
  pub reads : Reads q port form tries left 96 before bytes
  pub closes : Closes q port form tries (sums_of bytes) left last f.result
  pub stored : f.buffer ≡ bytes ++ drop (length bytes) buffer

-- What the buffer of a page holds after these answers, whether the call waits or has ended: reads have succeeded, one after
-- another, and the one after them, if any is left, has not; the buffer has the bytes that were read in its first places, and behind
-- them what it held
pub record PageHolds (q : Sequence) (port : Port) (form : Form) (tries : ℕ) (buffer : List ℕ) (l : List Answer) (after : List ℕ) : Type 0 where
  pub bytes : List ℕ
  pub left : ℕ
  pub before : List Answer
  pub behind : List Answer
  pub parts : l ≡ before ++ behind
  pub reads : Reads q port form tries left 96 before bytes
  pub next : (n b : ℕ) → left ≡ suc n → (run (transferred port (request_at form n) (locked q) tries) behind).status ≡ ended (Ok b) → ⊥
  pub stored : after ≡ bytes ++ drop (length bytes) buffer

-- over a front part of the answers each read of the last n bytes of a page succeeds
pub record ReadsFirst (q : Sequence) (port : Port) (form : Form) (tries n : ℕ) (l : List Answer) (bytes : List ℕ) : Type 0 where
  pub front : List Answer
  pub behind : List Answer
  pub parts : l ≡ front ++ behind
  pub reads : Reads q port form tries 0 n front bytes

-- a buffer with these bytes in its first 96 places
abbrev pub with_page : List ℕ → List ℕ → List ℕ
with_page bytes buffer = bytes ++ drop 96 buffer

-- all 96 bytes are read, both sums are right of them, and the buffer at the end has them
pub record Accepted (q : Sequence) (port : Port) (form : Form) (tries : ℕ) (buffer : List ℕ) (l : List Answer) (after : List ℕ) : Type 0 where
  pub bytes : List ℕ
  pub read : ReadsFirst q port form tries 96 l bytes
  pub sums : sums_of bytes ≡ Ok tt
  pub stored : after ≡ with_page bytes buffer
