-- The bench module's receiver (01, "The bench module"), edge by edge.
use Rattle.std.specs.Prelude.{ℕ, suc, ◌+◌, ◌-◌, ◌*◌, ◌%◌, Bool, true, false, not, ◌==◌, nat_lt}
use Rattle.hardware.specs.Prog.{pick}
use Rattle.bus.specs.Bus.{bit_of}
use Rattle.wire.specs.Lines.{Edge, START, STOP, Fall, Bit}
use Rattle.bench.specs.declared.receiver.Act.{Act}
use Rattle.bench.specs.declared.receiver.Act.TheVariants.{Nothing, Offset, Store, Next}
use Rattle.bench.specs.declared.receiver.Chosen.{Chosen}
use Rattle.bench.specs.declared.receiver.Chosen.TheVariants.{A0, A2}
use Rattle.bench.specs.declared.receiver.Receiver.{Receiver}
use Rattle.bench.specs.declared.receiver.Stage.{Stage}
use Rattle.bench.specs.declared.receiver.Stage.TheVariants.{Idle, Address, Receive, AckRead, AckWrite, Send, Listen}

-- the same receiver in another stage
abbrev pub at : Stage → Receiver → Receiver
at s r = record { stage = s; bits = r.bits; page = r.page; first = r.first; noted = r.noted }

-- in a stage with no bits taken
abbrev pub fresh : Stage → Receiver → Receiver
fresh s r = record { stage = s; bits = 0; page = r.page; first = r.first; noted = r.noted }

unfoldable pub started : Receiver → Receiver
started r = fresh (Address 0) r

unfoldable pub stopped : Receiver → Receiver
stopped r = at Idle r

-- one more bit, of eight
unfoldable pub taken : ℕ → Bool → ℕ
taken bits sda = bits % 128 * 2 + pick sda 1 0

abbrev pub takes : Stage → Bool → Receiver → Receiver
takes s sda r = record { stage = s; bits = taken r.bits sda; page = r.page; first = r.first; noted = r.noted }

abbrev pub notes : Bool → Receiver → Receiver
notes sda r = record { stage = r.stage; bits = r.bits; page = r.page; first = r.first; noted = sda }

-- SCL rises: Address and Receive below 8 bits take SDA, Listen notes it
unfoldable pub rise_at : Stage → Bool → Receiver → Receiver
rise_at Idle sda r = r
rise_at (Address n) sda r = pick (nat_lt n 8) (takes (Address (suc n)) sda r) r
rise_at (Receive n) sda r = pick (nat_lt n 8) (takes (Receive (suc n)) sda r) r
rise_at AckRead sda r = r
rise_at AckWrite sda r = r
rise_at (Send n) sda r = r
rise_at Listen sda r = notes sda r

unfoldable pub rise : Bool → Receiver → Receiver
rise sda r = rise_at r.stage sda r

-- an address of this module: the page is chosen, and the next byte is the offset
abbrev pub chose : Stage → Chosen → Receiver → Receiver
chose s page r = record { stage = s; bits = r.bits; page = page; first = true; noted = r.noted }

-- A0 and A2 write, A1 and A3 read, any other address is somebody else's
unfoldable pub addressed : Receiver → Receiver
addressed r =
    pick (r.bits == 0xa0) (chose AckWrite A0 r)
    (pick (r.bits == 0xa2) (chose AckWrite A2 r)
    (pick (r.bits == 0xa1) (chose AckRead A0 r)
    (pick (r.bits == 0xa3) (chose AckRead A2 r) (at Idle r))))

-- a byte was taken: the one after it is no offset
abbrev pub byte_taken : Receiver → Receiver
byte_taken r = record { stage = AckWrite; bits = r.bits; page = r.page; first = false; noted = r.noted }

-- SCL falls
unfoldable pub fall_at : Stage → Receiver → Receiver
fall_at Idle r = r
fall_at (Address n) r = pick (nat_lt n 8) r (addressed r)
fall_at (Receive n) r = pick (nat_lt n 8) r (byte_taken r)
fall_at AckRead r = at (Send 0) r
fall_at AckWrite r = fresh (Receive 0) r
fall_at (Send n) r = pick (nat_lt n 7) (at (Send (suc n)) r) (at Listen r)
fall_at Listen r = pick r.noted (at Idle r) (at (Send 0) r)

unfoldable pub fall : Receiver → Receiver
fall r = fall_at r.stage r

-- what that fall asks of the page chosen
unfoldable pub asks_at : Stage → Receiver → Act
asks_at Idle r = Nothing
asks_at (Address n) r = Nothing
asks_at (Receive n) r = pick (nat_lt n 8) Nothing (pick r.first (Offset r.bits) (Store r.bits))
asks_at AckRead r = Nothing
asks_at AckWrite r = Nothing
asks_at (Send n) r = pick (nat_lt n 7) Nothing Next
asks_at Listen r = Nothing

unfoldable pub asks : Receiver → Act
asks r = asks_at r.stage r

-- one edge
unfoldable pub edged : Edge → Receiver → Receiver
edged START r = started r
edged STOP r = stopped r
edged (Bit sda) r = rise sda r
edged Fall r = fall r

unfoldable pub asks_on : Edge → Receiver → Act
asks_on START r = Nothing
asks_on STOP r = Nothing
asks_on (Bit sda) r = Nothing
asks_on Fall r = asks r

-- SDA is pulled low: to acknowledge, or for a bit that is 0; byte: the one at the offset of the page chosen
unfoldable pub pulls_at : Stage → ℕ → Bool
pulls_at Idle byte = false
pulls_at (Address n) byte = false
pulls_at (Receive n) byte = false
pulls_at AckRead byte = true
pulls_at AckWrite byte = true
pulls_at (Send n) byte = not (bit_of byte (7 - n))
pulls_at Listen byte = false

unfoldable pub pulls : Receiver → ℕ → Bool
pulls r byte = pulls_at r.stage byte
