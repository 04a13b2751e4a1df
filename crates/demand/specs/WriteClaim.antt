-- What is claimed of `write_byte` and `soft_rate_select` with the bench module and the default clearing sequence. The calls are
-- in `i2c/specs/I2c.antt` and `sfp/specs/Rate.antt`; the bench, the start and the premises are those of `Claim.antt`.
use Rattle.std.specs.Prelude.{ℕ, ◌+◌, ◌<◌, ◌≡◌, Bool, true, false, List, set}
use Rattle.hardware.specs.declared.Answer.{Answer}
use Rattle.hardware.specs.declared.Port.{Port}
use Rattle.hardware.specs.Prog.{Prog, R, Ok}
use Rattle.bus.specs.declared.Layout.{Layout}
use Rattle.bus.specs.Layout.{layout_of}
use Rattle.wire.specs.Lines.{ready}
use Rattle.bench.specs.declared.Bench.{Bench}
use Rattle.bench.specs.declared.Page.{Page}
use Rattle.bench.specs.Mux.{has_mux, joins}
use Rattle.bench.specs.declared.receiver.Chosen.{Chosen}
use Rattle.bench.specs.declared.receiver.Chosen.TheVariants.{A0, A2}
use Rattle.i2c.specs.declared.once.Request.TheVariants.{WriteByte}
use Rattle.i2c.specs.I2c.{standard, making, transferred}
use Rattle.sfp.specs.Rate.{selected, soft_rate_select}
use Rattle.demand.specs.Claim.{BenchWorld, Start, Switchable, Allowed, byte_of, Leaves, extra, CallComes}

-- the device of a page
abbrev pub address_of : Chosen → ℕ
address_of A0 = 0xa0
address_of A2 = 0xa2

-- the page with that byte at that offset
abbrev pub set_at : ℕ → ℕ → Page → Page
set_at offset value p = record { offset = p.offset; bytes = set p.bytes offset value }

-- the module with one byte of a page set, and every other byte as it was
unfoldable pub written : Chosen → ℕ → ℕ → Bench → Bench
written A0 offset value b = record { receiver = b.receiver; a0 = set_at offset value b.a0; a2 = b.a2 }
written A2 offset value b = record { receiver = b.receiver; a0 = b.a0; a2 = set_at offset value b.a2 }

-- the module with bytes 6E and 76 of page A2 set by what stood there, and every other byte as it was
unfoldable pub rated : Bool → Bench → Bench
rated ten b = written A2 0x76 (selected ten (byte_of b.a2 0x76)) (written A2 0x6e (selected ten (byte_of b.a2 0x6e)) b)

-- The facts of a write, of the module at the start, the result, and I2CCTL and the module at the end; one transfer, and one
-- more where the module pulled SDA at the start
pub record WriteFacts (l : Layout) (b : Bench) (page : Chosen) (offset value : ℕ) (r : R ℕ) (w : BenchWorld) : Type 0 where
  pub result : r ≡ Ok 0
  pub leaves : Leaves l (written page offset value b) (1 + extra b) w

-- of a rate select: a read and a write for each of its two bytes
pub record RateFacts (l : Layout) (b : Bench) (ten : Bool) (r : R Bool) (w : BenchWorld) : Type 0 where
  pub result : r ≡ Ok true
  pub leaves : Leaves l (rated ten b) (4 + extra b) w

-- A write's start: with the lock, which switches the mux, the registers are as `Allowed` says; without it, which leaves ESDP alone, I2CCTL
-- is as 01 allows and the mux is on
pub record WriteStarts (port : Port) (lock : Bool) (start : Start) : Type 0 where
  pub fit : ready (layout_of port.family) start.word ≡ true
  pub mux : lock ≡ true → has_mux port ≡ true → Switchable (layout_of port.family) start
  pub joined : lock ≡ false → joins (has_mux port) start.esdp ≡ true

-- A rate select's: what it reads are bytes, too
unfoldable pub RateStarts : Port → Bench → Start → Type 0
RateStarts port b start = ((n : ℕ) → byte_of b.a2 n < 256) × Allowed port start

-- the calls that the claims are about
abbrev pub write_call : Port → Chosen → ℕ → ℕ → Bool → Prog (R ℕ)
write_call port page offset value lock = transferred port (WriteByte (address_of page) offset value) (making lock standard) 2

abbrev pub rate_call : Port → Bool → Prog (R Bool)
rate_call port ten = soft_rate_select standard port ten

unfoldable pub WriteClaim : Port → Chosen → ℕ → ℕ → Bool → Bench → Start → List Answer → Type 0
WriteClaim port page offset value lock b start answers =
    CallComes port (write_call port page offset value lock) b start answers (WriteFacts (layout_of port.family) b page offset value)

unfoldable pub RateClaim : Port → Bool → Bench → Start → List Answer → Type 0
RateClaim port ten b start answers = CallComes port (rate_call port ten) b start answers (RateFacts (layout_of port.family) b ten)
