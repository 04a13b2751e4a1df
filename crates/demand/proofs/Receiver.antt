-- What edges make of the module, by the receiver's stage.
use Prim.Native.Nat.{ℕ, ◌-◌, ◌<◌, ◌≤◌, suc}
use mathlib.Core.Path.{◌≡◌, refl, ap, ◌∙◌}
use mathlib.Core.Bool.{Bool, true, false, not}
use lib.Bits.{bit_or}
use lib.Dec.{ltb}
use native.Mathlib.Omega.{arith}
use borrow.Author.Tests.{lt-ltb, le-ltb}
use Rattle.hardware.specs.Prog.{pick}
use Rattle.bus.specs.Bus.{bit_of}
use Rattle.wire.specs.Lines.{Edge, START, STOP, Fall, Bit}
use Rattle.bench.specs.declared.Bench.{Bench}
use Rattle.bench.specs.declared.Page.{Page}
use Rattle.bench.specs.declared.receiver.Act.{Act}
use Rattle.bench.specs.declared.receiver.Act.TheVariants.{Nothing, Offset, Store, Next}
use Rattle.bench.specs.declared.receiver.Chosen.{Chosen}
use Rattle.bench.specs.declared.receiver.Chosen.TheVariants.{A0, A2}
use Rattle.bench.specs.declared.receiver.Receiver.{Receiver}
use Rattle.bench.specs.declared.receiver.Stage.{Stage}
use Rattle.bench.specs.declared.receiver.Stage.TheVariants.{Idle, Address, Receive, AckRead, AckWrite, Send, Listen}
use Rattle.bench.specs.Receiver.{started, stopped, taken, takes, rise_at, rise, chose, addressed, byte_taken, fall_at, fall, asks_at, asks, edged, asks_on, pulls_at, pulls}
use Rattle.bench.specs.Bench.{under, acted, page_of, with_page, takes_edge, pulls_low}
use Rattle.demand.specs.Claim.{CountedBench}
use Rattle.demand.proofs.Direct.{direct}
use Rattle.demand.specs.WriteClaim.{address_of}

-- the same pages and count with another receiver
abbrev pub with : Receiver → CountedBench → CountedBench
with r m = record { bench = record { receiver = r; a0 = m.bench.a0; a2 = m.bench.a2 }; esdp = m.esdp; meter = m.meter }

-- one page, after something was asked of it or of the other
abbrev pub does : Chosen → Chosen → Act → Page → Page
does A0 A0 act p = acted act p
does A0 A2 act p = p
does A2 A0 act p = p
does A2 A2 act p = acted act p

-- the same receiver and count, after something was asked of a page
abbrev pub asked : Chosen → Act → CountedBench → CountedBench
asked page act m =
    record { bench = record { receiver = m.bench.receiver; a0 = does A0 page act m.bench.a0; a2 = does A2 page act m.bench.a2 }; esdp = m.esdp; meter = m.meter }

with_page_lem : (page : Chosen) (act : Act) (r : Receiver) (b : Bench) → with_page page act r b ≡ record { receiver = r; a0 = does A0 page act b.a0; a2 = does A2 page act b.a2 }
unfolding with_page
with_page_lem A0 act r b = refl
with_page_lem A2 act r b = refl

-- an edge: the receiver goes its way, and its page does what it asks
pub edge_takes : (e : Edge) (m : CountedBench) → direct.takes e m ≡ with (edged e m.bench.receiver) (asked m.bench.receiver.page (asks_on e m.bench.receiver) m)
unfolding takes_edge
edge_takes e m = ap (λ b. record { bench = b; esdp = m.esdp; meter = m.meter }) (with_page_lem m.bench.receiver.page _ _ m.bench)

-- nothing is stored
abbrev pub Keeps : Act → Type 0
Keeps Nothing = Unit {0}
Keeps (Offset n) = Unit {0}
Keeps (Store b) = ⊥
Keeps Next = Unit {0}

acted_bytes : (act : Act) (p : Page) → Keeps act → (acted act p).bytes ≡ p.bytes
unfolding acted
acted_bytes Nothing p h = refl
acted_bytes (Offset n) p h = refl
acted_bytes (Store v) p h = absurd h
acted_bytes Next p h = refl

pub does_bytes : (this page : Chosen) (act : Act) (p : Page) → Keeps act → (does this page act p).bytes ≡ p.bytes
does_bytes A0 A0 act p h = acted_bytes act p h
does_bytes A0 A2 act p h = refl
does_bytes A2 A0 act p h = refl
does_bytes A2 A2 act p h = acted_bytes act p h

asked_none : (page : Chosen) (r : Receiver) (m : CountedBench) → with r (asked page Nothing m) ≡ with r m
unfolding acted
asked_none A0 r m = refl
asked_none A2 r m = refl

-- an edge that asks nothing of the page
pub plain : (e : Edge) (m : CountedBench) → asks_on e m.bench.receiver ≡ Nothing → direct.takes e m ≡ with (edged e m.bench.receiver) m
plain e m h =
    edge_takes e m
    ∙ ap (λ act. with (edged e m.bench.receiver) (asked m.bench.receiver.page act m)) h
    ∙ asked_none m.bench.receiver.page _ m

-- START takes every receiver to Address with 0 bits, and SCL's fall leaves it there
pub start_takes : (m : CountedBench) → direct.takes START m ≡ with (started m.bench.receiver) m
unfolding asks_on edged
start_takes m = plain START m refl

pub stop_takes : (m : CountedBench) → direct.takes STOP m ≡ with (stopped m.bench.receiver) m
unfolding asks_on edged
stop_takes m = plain STOP m refl

pub rise_takes : (sda : Bool) (m : CountedBench) → direct.takes (Bit sda) m ≡ with (rise sda m.bench.receiver) m
unfolding asks_on edged
rise_takes sda m = plain (Bit sda) m refl

pub fall_takes : (m : CountedBench) → asks m.bench.receiver ≡ Nothing → direct.takes Fall m ≡ with (fall m.bench.receiver) m
unfolding asks_on edged
fall_takes m h = plain Fall m h

-- where the receiver does not ask the page for anything, the module's pull is the stage's
pub pulls_at_lem : (r : Receiver) (m : CountedBench) → (direct.pulls (with r m)).sda ≡ pulls_at r.stage (under (page_of r.page (with r m).bench))
unfolding pulls_low pulls
pulls_at_lem r m = refl

-- SCL's rise changes nothing of what is pulled
rise_pulls_at : (s : Stage) (sda : Bool) (r : Receiver) (byte : ℕ) → r.stage ≡ s → pulls_at (rise_at s sda r).stage byte ≡ pulls_at s byte
unfolding rise_at pulls_at pick
rise_pulls_at Idle sda r byte e = ap (λ s. pulls_at s byte) e
rise_pulls_at (Address n) sda r byte e = by (ltb n 8)
  where
    by : (b : Bool) → pulls_at (pick b (takes (Address (suc n)) sda r) r).stage byte ≡ false
    by true = refl
    by false = ap (λ s. pulls_at s byte) e
rise_pulls_at (Receive n) sda r byte e = by (ltb n 8)
  where
    by : (b : Bool) → pulls_at (pick b (takes (Receive (suc n)) sda r) r).stage byte ≡ false
    by true = refl
    by false = ap (λ s. pulls_at s byte) e
rise_pulls_at AckRead sda r byte e = ap (λ s. pulls_at s byte) e
rise_pulls_at AckWrite sda r byte e = ap (λ s. pulls_at s byte) e
rise_pulls_at (Send n) sda r byte e = ap (λ s. pulls_at s byte) e
rise_pulls_at Listen sda r byte e = ap (λ s. pulls_at s byte) e

rise_page_at : (s : Stage) (sda : Bool) (r : Receiver) → (rise_at s sda r).page ≡ r.page
unfolding rise_at pick
rise_page_at Idle sda r = refl
rise_page_at (Address n) sda r = by (ltb n 8)
  where
    by : (b : Bool) → (pick b (takes (Address (suc n)) sda r) r).page ≡ r.page
    by true = refl
    by false = refl
rise_page_at (Receive n) sda r = by (ltb n 8)
  where
    by : (b : Bool) → (pick b (takes (Receive (suc n)) sda r) r).page ≡ r.page
    by true = refl
    by false = refl
rise_page_at AckRead sda r = refl
rise_page_at AckWrite sda r = refl
rise_page_at (Send n) sda r = refl
rise_page_at Listen sda r = refl

-- the pages are the same with any receiver
pub page_with : (page : Chosen) (r : Receiver) (m : CountedBench) → page_of page (with r m).bench ≡ page_of page m.bench
unfolding page_of
page_with A0 r m = refl
page_with A2 r m = refl

pub rise_pulls : (sda : Bool) (m : CountedBench) → (direct.pulls (direct.takes (Bit sda) m)).sda ≡ (direct.pulls m).sda
unfolding pulls_low pulls rise
rise_pulls sda m =
    ap (λ n. (direct.pulls n).sda) (rise_takes sda m)
    ∙ rise_pulls_at m.bench.receiver.stage sda m.bench.receiver _ refl
    ∙ ap (λ page. pulls_at m.bench.receiver.stage (under page))
    (ap (λ page. page_of page (with (rise sda m.bench.receiver) m).bench) (rise_page_at m.bench.receiver.stage sda m.bench.receiver) ∙ page_with m.bench.receiver.page _ m)

-- the stages that take bits
pub record Taking (S : ℕ → Stage) : Type 0 where
  pub rises : (n : ℕ) (sda : Bool) (r : Receiver) → n < 8 → rise_at (S n) sda r ≡ takes (S (suc n)) sda r
  pub stays : (n : ℕ) (r : Receiver) → n < 8 → fall_at (S n) r ≡ r
  pub asks : (n : ℕ) (r : Receiver) → n < 8 → asks_at (S n) r ≡ Nothing
  pub free : (n byte : ℕ) → pulls_at (S n) byte ≡ false

pub address_taking : Taking Address
unfolding rise_at fall_at asks_at pulls_at pick
address_taking =
    record {
      rises = λ n sda r h. rw (lt-ltb n 8 h);
      stays = λ n r h. rw (lt-ltb n 8 h);
      asks = λ n r h. refl;
      free = λ n byte. refl;
    }

pub receive_taking : Taking Receive
unfolding rise_at fall_at asks_at pulls_at pick
receive_taking =
    record {
      rises = λ n sda r h. rw (lt-ltb n 8 h);
      stays = λ n r h. rw (lt-ltb n 8 h);
      asks = λ n r h. rw (lt-ltb n 8 h);
      free = λ n byte. refl;
    }

-- in such a stage, with n bits
abbrev pub taking : (ℕ → Stage) → ℕ → ℕ → Receiver → Receiver
taking S n bits r = record { stage = S n; bits = bits; page = r.page; first = r.first; noted = r.noted }

module _ (S : ℕ → Stage) (t : Taking S) (r : Receiver) (m : CountedBench) where
  pub taking_rises : (n bits : ℕ) (sda : Bool) → n < 8 → direct.takes (Bit sda) (with (taking S n bits r) m) ≡ with (taking S (suc n) (taken bits sda) r) m
  unfolding rise
  taking_rises n bits sda h = rise_takes sda (with (taking S n bits r) m) ∙ ap (λ q. with q m) (t.rises n sda (taking S n bits r) h)

  pub taking_stays : (n bits : ℕ) → n < 8 → direct.takes Fall (with (taking S n bits r) m) ≡ with (taking S n bits r) m
  unfolding fall asks
  taking_stays n bits h = fall_takes (with (taking S n bits r) m) (t.asks n (taking S n bits r) h) ∙ ap (λ q. with q m) (t.stays n (taking S n bits r) h)

  pub taking_free : (n bits : ℕ) → (direct.pulls (with (taking S n bits r) m)).sda ≡ false
  unfolding pulls_low pulls
  taking_free n bits = t.free n _

-- stages in which the receiver acknowledges
abbrev pub Acks : Stage → Type 0
Acks Idle = ⊥
Acks (Address n) = ⊥
Acks (Receive n) = ⊥
Acks AckRead = Unit {0}
Acks AckWrite = Unit {0}
Acks (Send n) = ⊥
Acks Listen = ⊥

acks_pull_at : (s : Stage) (byte : ℕ) → Acks s → pulls_at s byte ≡ true
unfolding pulls_at
acks_pull_at Idle byte h = absurd h
acks_pull_at (Address n) byte h = absurd h
acks_pull_at (Receive n) byte h = absurd h
acks_pull_at AckRead byte h = refl
acks_pull_at AckWrite byte h = refl
acks_pull_at (Send n) byte h = absurd h
acks_pull_at Listen byte h = absurd h

acks_rise_at : (s : Stage) (sda : Bool) (r : Receiver) → Acks s → rise_at s sda r ≡ r
unfolding rise_at
acks_rise_at Idle sda r h = refl
acks_rise_at (Address n) sda r h = absurd h
acks_rise_at (Receive n) sda r h = absurd h
acks_rise_at AckRead sda r h = refl
acks_rise_at AckWrite sda r h = refl
acks_rise_at (Send n) sda r h = refl
acks_rise_at Listen sda r h = absurd h

pub acks_pull : (m : CountedBench) → Acks m.bench.receiver.stage → (direct.pulls m).sda ≡ true
unfolding pulls_low pulls
acks_pull m h = acks_pull_at m.bench.receiver.stage _ h

pub acks_rise : (sda : Bool) (m : CountedBench) → Acks m.bench.receiver.stage → direct.takes (Bit sda) m ≡ m
unfolding rise
acks_rise sda m h = rise_takes sda m ∙ ap (λ r. with r m) (acks_rise_at m.bench.receiver.stage sda m.bench.receiver h)

-- after START, SCL's fall leaves Address with 0 bits
pub address_begun : (r : Receiver) (m : CountedBench) → direct.takes Fall (direct.takes START (with r m)) ≡ with (taking Address 0 0 r) m
unfolding started
address_begun r m = ap (direct.takes Fall) (start_takes (with r m)) ∙ taking_stays Address address_taking r m 0 0 (omega arith)

pub idle_free : (r : Receiver) (m : CountedBench) → r.stage ≡ Idle → (direct.pulls (with r m)).sda ≡ false
unfolding pulls_low pulls pulls_at
idle_free r m e = rw e

-- a byte of a page is being sent, its bit n on SDA
abbrev pub sending : Chosen → ℕ → Receiver → Receiver
sending page n r = record { stage = Send n; bits = r.bits; page = page; first = r.first; noted = r.noted }

abbrev pub listening : Chosen → Receiver → Receiver
listening page r = record { stage = Listen; bits = r.bits; page = page; first = r.first; noted = r.noted }

-- the receiver of a page before an offset (first), or before a byte to store
abbrev pub expecting : Chosen → Bool → Receiver → Receiver
expecting page first r = record { stage = r.stage; bits = r.bits; page = page; first = first; noted = r.noted }

-- STOP leaves an idle receiver, which pulls nothing
pub stop_free : (m : CountedBench) → (direct.pulls (direct.takes STOP m)).sda ≡ false
unfolding stopped
stop_free m = ap (λ s. (direct.pulls s).sda) (stop_takes m) ∙ idle_free (stopped m.bench.receiver) m refl

module _ (page : Chosen) (r : Receiver) (m : CountedBench) where
  pub send_bit : (n : ℕ) → (direct.pulls (with (sending page n r) m)).sda ≡ not (bit_of (under (page_of page m.bench)) (7 - n))
  unfolding pulls_low pulls pulls_at
  send_bit n = ap (λ p. not (bit_of (under p) (7 - n))) (page_with page (sending page n r) m)

  pub send_rise : (n : ℕ) (sda : Bool) → direct.takes (Bit sda) (with (sending page n r) m) ≡ with (sending page n r) m
  unfolding rise rise_at
  send_rise n sda = rise_takes sda (with (sending page n r) m)

  pub send_next : (n : ℕ) → n < 7 → direct.takes Fall (with (sending page n r) m) ≡ with (sending page (suc n) r) m
  unfolding asks asks_at fall fall_at pick
  send_next n h = fall_takes (with (sending page n r) m) (rw (lt-ltb n 7 h)) ∙ ap (λ q. with q m) (rw (lt-ltb n 7 h))

  -- the offset moves on
  pub send_last : (n : ℕ) → 7 ≤ n → direct.takes Fall (with (sending page n r) m) ≡ with (listening page r) (asked page Next m)
  unfolding edged asks_on asks asks_at fall fall_at pick
  send_last n h = edge_takes Fall (with (sending page n r) m) ∙ rw (le-ltb n 7 h)

  -- a receiver that listens hears a bit that is not acknowledged, and is idle
  pub listen_ends : direct.takes Fall (direct.takes (Bit true) (with (listening page r) m)) ≡ with (record { stage = Idle; bits = r.bits; page = page; first = r.first; noted = true }) m
  unfolding rise rise_at asks asks_at fall fall_at pick
  listen_ends = ap (direct.takes Fall) (rise_takes true (with (listening page r) m)) ∙ fall_takes _ refl

  pub listen_free : (direct.pulls (with (listening page r) m)).sda ≡ false
  unfolding pulls_low pulls pulls_at
  listen_free = refl

-- the address of a page, to write or to read, taken whole
pub addressed_write : (page : Chosen) (r : Receiver) (m : CountedBench)
    → direct.takes Fall (with (taking Address 8 (address_of page) r) m) ≡ with (chose AckWrite page (taking Address 8 (address_of page) r)) m
unfolding asks asks_at fall fall_at addressed pick
addressed_write A0 r m = fall_takes (with (taking Address 8 (address_of A0) r) m) refl
addressed_write A2 r m = fall_takes (with (taking Address 8 (address_of A2) r) m) refl

pub addressed_read : (page : Chosen) (r : Receiver) (m : CountedBench)
    → direct.takes Fall (with (taking Address 8 (bit_or (address_of page) 1) r) m) ≡ with (chose AckRead page (taking Address 8 (bit_or (address_of page) 1) r)) m
unfolding asks asks_at fall fall_at addressed pick
addressed_read A0 r m = fall_takes (with (taking Address 8 (bit_or (address_of A0) 1) r) m) refl
addressed_read A2 r m = fall_takes (with (taking Address 8 (bit_or (address_of A2) 1) r) m) refl

-- a byte taken whole: the first is the offset, any other is stored
pub byte_ends : (n : ℕ) (r : Receiver) (m : CountedBench)
    → direct.takes Fall (with (taking Receive 8 n r) m) ≡ with (byte_taken (taking Receive 8 n r)) (asked r.page (pick r.first (Offset n) (Store n)) m)
unfolding edged asks_on asks asks_at fall fall_at pick
byte_ends n r m = edge_takes Fall (with (taking Receive 8 n r) m)

-- SCL's fall after an acknowledgement
pub ack_write_ends : (r : Receiver) (m : CountedBench) → r.stage ≡ AckWrite → direct.takes Fall (with r m) ≡ with (taking Receive 0 0 r) m
unfolding asks asks_at fall fall_at
ack_write_ends r m e = fall_takes (with r m) (rw e) ∙ ap (λ q. with q m) (rw e)

pub ack_read_ends : (page : Chosen) (r : Receiver) (m : CountedBench) → direct.takes Fall (with (chose AckRead page r) m) ≡ with (sending page 0 (chose AckRead page r)) m
unfolding asks asks_at fall fall_at
ack_read_ends page r m = fall_takes (with (chose AckRead page r) m) refl
