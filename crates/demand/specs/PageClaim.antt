-- What is claimed of a whole page read with the bench module. `page` is in `page/specs/Page.antt`; the bench, the start and
-- the premises are those of `Claim.antt`.
use Rattle.std.specs.Prelude.{ℕ, ◌+◌, suc, zero, ◌≡◌, List, [], ◌∷◌, ◌++◌, drop}
use Rattle.transfer.specs.declared.attempt.Sequence.{Sequence}
use Rattle.hardware.specs.declared.Answer.{Answer}
use Rattle.hardware.specs.declared.Port.{Port}
use Rattle.hardware.specs.Failures.{I2c}
use Rattle.hardware.specs.Prog.{Prog, Err}
use Rattle.bus.specs.declared.Layout.{Layout}
use Rattle.bus.specs.Layout.{layout_of}
use Rattle.bench.specs.declared.Bench.{Bench}
use Rattle.sfp.specs.Classes.{Bytes}
use Rattle.sfp.specs.Identify.{EEPROM}
use Rattle.page.specs.declared.walk.Form.{Form}
use Rattle.page.specs.Page.{offset_of, sums_of, Filled, page}
use Rattle.demand.specs.Claim.{BenchWorld, Start, byte_of, Leaves, unheard, extra, CallComes}

-- so many bytes, from a place of the page on
unfoldable pub bytes_from : Form → Bytes → ℕ → ℕ → List ℕ
bytes_from form at place zero = []
bytes_from form at place (suc n) = at (offset_of form place) ∷ bytes_from form at (suc place) n

-- the module's page: its 96 bytes, in order
unfoldable pub module_page : Form → Bench → List ℕ
module_page form b = bytes_from form (byte_of b.a0) 0 96

-- The facts, of the module and the buffer at the start, of what the page came to, and of I2CCTL and the module at the end:
-- the buffer has the module's page, and beyond it what it had; the result is by the sums of the module's page
pub record PageFacts (l : Layout) (b : Bench) (form : Form) (before : List ℕ) (f : Filled) (w : BenchWorld) : Type 0 where
  pub buffer : f.buffer ≡ module_page form b ++ drop 96 before
  pub result : f.result ≡ sums_of (module_page form b)
  pub leaves : Leaves l b (96 + extra b) w

-- where the sequence harms the module, no attempt reads the first byte, and nothing is stored
pub record PageFails (tries : ℕ) (before : List ℕ) (f : Filled) (w : BenchWorld) : Type 0 where
  pub buffer : f.buffer ≡ before
  pub result : f.result ≡ Err (I2c EEPROM)
  pub meter : w.other.meter ≡ unheard tries

module _ (q : Sequence) (port : Port) (form : Form) (tries : ℕ) (buffer : List ℕ) where
  -- the call that the claim is about
  abbrev pub page_call : Prog Filled
  page_call = page q port form tries buffer

  module _ (b : Bench) (start : Start) (answers : List Answer) where
    unfoldable pub PageClaim : Type 0
    PageClaim = CallComes port page_call b start answers (PageFacts (layout_of port.family) b form buffer)
