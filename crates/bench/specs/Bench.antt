-- The bench module on the lines: its pages, what it pulls, and I2CCTL with it.
use Rattle.std.specs.Prelude.{ℕ, ◌+◌, ◌%◌, Bool, false, slice_index, slice_set}
use Rattle.wire.specs.Lines.{Pulls, drawn, Edge}
use Rattle.bench.specs.declared.receiver.Act.{Act}
use Rattle.bench.specs.declared.receiver.Act.TheVariants.{Nothing, Offset, Store, Next}
use Rattle.bench.specs.declared.receiver.Chosen.{Chosen}
use Rattle.bench.specs.declared.receiver.Chosen.TheVariants.{A0, A2}
use Rattle.bench.specs.declared.receiver.Receiver.{Receiver}
use Rattle.bench.specs.declared.Page.{Page}
use Rattle.bench.specs.declared.Bench.{Bench}
use Rattle.bench.specs.Receiver.{edged, asks_on, pulls}

-- after offset 255 comes offset 0
unfoldable pub next_offset : ℕ → ℕ
next_offset offset = (offset + 1) % 256

-- the byte at the page's offset
unfoldable pub under : Page → ℕ
under p = slice_index p.bytes p.offset

unfoldable pub acted : Act → Page → Page
acted Nothing p = p
acted (Offset n) p = record { offset = n; bytes = p.bytes }
acted (Store b) p = record { offset = next_offset p.offset; bytes = slice_set p.bytes p.offset b }
acted Next p = record { offset = next_offset p.offset; bytes = p.bytes }

unfoldable pub page_of : Chosen → Bench → Page
page_of A0 b = b.a0
page_of A2 b = b.a2

-- the receiver after an edge, and what it asked of the page
unfoldable pub with_page : Chosen → Act → Receiver → Bench → Bench
with_page A0 act r b = record { receiver = r; a0 = acted act b.a0; a2 = b.a2 }
with_page A2 act r b = record { receiver = r; a0 = b.a0; a2 = acted act b.a2 }

-- one edge of the lines
unfoldable pub takes_edge : Edge → Bench → Bench
takes_edge e b = with_page b.receiver.page (asks_on e b.receiver) (edged e b.receiver) b

-- the module pulls SDA low
unfoldable pub pulls_low : Bench → Bool
pulls_low b = pulls b.receiver (under (page_of b.receiver.page b))

-- it never delays SCL
abbrev pub bench_pulls : Bench → Pulls
bench_pulls b = drawn (pulls_low b) false
