-- The sequence of rounds takes every receiver to Idle, with the bytes as they were: ten rounds see the end of whatever it
-- sends, an acknowledgement ends with the next fall of SCL, and a START behind that leaves it no bit of a byte.
use Prim.Native.Nat.{ℕ, ◌+◌, ◌≤◌, suc, zero}
use mathlib.Core.Path.{◌≡◌, refl, ◌∙◌, subst⁻¹}
use mathlib.Core.Bool.{Bool, true, false, not, false≢true}
use native.Mathlib.Omega.{arith}
use lib.Dec.{ltb}
use borrow.Author.Tests.{ltb-true}
use Rattle.hardware.specs.Prog.{pick}
use Rattle.bus.specs.declared.Layout.{Layout}
use Rattle.bus.specs.Bus.{Bus, none, done, wait, scl_high, scl_low, release_sda, pulled, rounds, clear_rounds}
use Rattle.wire.specs.Lines.{drawn, STOP, Fall, Bit, Distinct}
use Rattle.wire.specs.Machine.{turn}
use Rattle.wire.specs.Always.{Claim, From, FromRest}
use Rattle.wire.proofs.Lines as Lines
use Rattle.wire.proofs.Commands as Commands
use Rattle.bench.specs.declared.receiver.Chosen.{Chosen}
use Rattle.bench.specs.declared.receiver.Receiver.{Receiver}
use Rattle.bench.specs.declared.receiver.Stage.{Stage}
use Rattle.bench.specs.declared.receiver.Stage.TheVariants.{Idle, Address, Receive, AckRead, AckWrite, Send, Listen}
use Rattle.bench.specs.Receiver.{fall_at, fall, asks_at, asks, edged, asks_on, pulls_at, pulls}
use Rattle.bench.specs.Bench.{pulls_low}
use Rattle.demand.specs.Claim.{CountedBench}
use Rattle.demand.proofs.Direct.{direct}
use Rattle.demand.proofs.Receiver.{Keeps, rise_pulls, address_begun}
use Rattle.demand.proofs.Bytes as Bytes
use Rattle.demand.proofs.ReadByte.{Kept, kept_then}
use Rattle.demand.proofs.Clearing.{Still, still, edge_receiver, edge_kept, stopped_at}

-- in so many rounds, the first of which begins in this stage, SDA is read high
abbrev pub Lets : ℕ → Stage → Type 0
Lets k Idle = 1 ≤ k
Lets k (Address n) = 1 ≤ k
Lets k (Receive n) = 1 ≤ k
Lets k AckRead = 10 ≤ k
Lets k AckWrite = 2 ≤ k
Lets k (Send n) = (2 ≤ k) × (9 ≤ n + k)
Lets k Listen = 1 ≤ k

pub ten : (s : Stage) → Lets 10 s
ten Idle = omega arith
ten (Address n) = omega arith
ten (Receive n) = omega arith
ten AckRead = omega arith
ten AckWrite = omega arith
ten (Send n) = (omega arith, omega arith)
ten Listen = omega arith

some : (s : Stage) → Lets 0 s → ⊥
some Idle h = omega (arith, h)
some (Address n) h = omega (arith, h)
some (Receive n) h = omega (arith, h)
some AckRead h = omega (arith, h)
some AckWrite h = omega (arith, h)
some (Send n) h = omega (arith, h.0)
some Listen h = omega (arith, h)

-- what SCL's rise and fall do to a receiver that pulls SDA
record Round (k : ℕ) (r : Receiver) : Type 0 where
  pub still : Still r.stage
  pub lets : Lets k (fall r).stage
  pub keeps : Keeps (asks r)

send_round : (k n bits : ℕ) (page : Chosen) (first noted b : Bool) → ltb n 7 ≡ b → Lets (suc k) (Send n)
    → Round k (record { stage = Send n; bits = bits; page = page; first = first; noted = noted })
unfolding fall fall_at asks asks_at pick
send_round k n bits page first noted true e h =
    record { still = tt; lets = rw e (omega (arith, ltb-true n 7 e, h.1), omega (arith, h.1)); keeps = rw e tt }
send_round k n bits page first noted false e h = record { still = tt; lets = rw e (omega (arith, h.0)); keeps = rw e tt }

round : (k bits byte : ℕ) (page : Chosen) (first noted : Bool) (s : Stage) → pulls_at s byte ≡ true → Lets (suc k) s
    → Round k (record { stage = s; bits = bits; page = page; first = first; noted = noted })
unfolding fall fall_at asks asks_at pulls_at
round k bits byte page first noted Idle p h = absurd (false≢true p)
round k bits byte page first noted (Address n) p h = absurd (false≢true p)
round k bits byte page first noted (Receive n) p h = absurd (false≢true p)
round k bits byte page first noted AckRead p h = record { still = tt; lets = (omega (arith, h), omega (arith, h)); keeps = tt }
round k bits byte page first noted AckWrite p h = record { still = tt; lets = omega (arith, h); keeps = tt }
round k bits byte page first noted (Send n) p h = send_round k n bits page first noted (ltb n 7) refl h
round k bits byte page first noted Listen p h = absurd (false≢true p)

rounded : (k : ℕ) (m : CountedBench) → (direct.pulls m).sda ≡ true → Lets (suc k) m.bench.receiver.stage → Round k m.bench.receiver
unfolding pulls_low pulls
rounded k m p h = round k _ _ _ _ _ m.bench.receiver.stage p h

kept_all : (m : CountedBench) → Kept m m
kept_all m = record { a0 = refl; a2 = refl; meter = refl }

module _ (l : Layout) (g : Distinct l) where
  -- SDA is read high while SCL is high
  pull_frees : (m : CountedBench) {Q : Claim direct} → (direct.pulls m).sda ≡ false
      → ((n : CountedBench) → n.bench.receiver.stage ≡ Idle → Kept m n → FromRest l direct false false n (done none) Q)
      → From l direct false false m (pulled l) Q
  unfolding pulled
  pull_frees m free h =
      Commands.pull l g direct (λ s. refl) free (Bytes.from l g (address_begun m.bench.receiver m) (stopped_at l g m.bench.receiver m h))

  -- SCL is raised, from low or from high, and SDA is then as before
  raises : (b : Bool) (m : CountedBench) {k : Bus} {Q : Claim direct}
      → ((o : CountedBench) → Kept m o → (direct.pulls o).sda ≡ (direct.pulls m).sda → ((direct.pulls m).sda ≡ true → Still m.bench.receiver.stage → o ≡ m)
      → From l direct false false o k Q)
      → From l direct false b m (scl_high l k) Q
  unfolding asks_on
  raises true m h =
      Commands.up l g direct (λ s. refl)
      (h _ (edge_kept (Bit (not (direct.pulls m).sda)) m tt) (rise_pulls _ m) (λ p e. still _ m e))
  raises false m h = Lines.scl_high_lem l g direct refl (Bytes.from l g (Lines.turn_none direct (drawn false false) m) (h m (kept_all m) refl (λ p e. refl)))

  rounds_free : (left : ℕ) (b : Bool) (m : CountedBench) {Q : Claim direct} → Lets left m.bench.receiver.stage
      → ((n : CountedBench) → n.bench.receiver.stage ≡ Idle → Kept m n → FromRest l direct false false n (done none) Q)
      → From l direct false b m (rounds l left) Q
  unfolding rounds pick edged asks_on
  rounds_free zero b m e h = absurd (some m.bench.receiver.stage e)
  rounds_free (suc left) b m {Q} e h =
      raises b m (λ o kept same stays. Lines.pause l g direct 4 (Lines.sampled l g direct _
      (by o kept same stays (λ d f k. rounds_free left true d f k) (direct.pulls m).sda refl)))
    where
      by : (o : CountedBench) → Kept m o → (direct.pulls o).sda ≡ (direct.pulls m).sda
          → ((direct.pulls m).sda ≡ true → Still m.bench.receiver.stage → o ≡ m)
          → ((d : CountedBench) → Lets left d.bench.receiver.stage
          → ((n : CountedBench) → n.bench.receiver.stage ≡ Idle → Kept d n → FromRest l direct false false n (done none) Q) → From l direct false true d (rounds l left) Q)
          → (p : Bool) → (direct.pulls m).sda ≡ p
          → From l direct false false o (pick (not (direct.pulls o).sda) (pulled l) (scl_low l (wait 5 (rounds l left)))) Q
      by o kept same stays again false p = rw (same ∙ p) (pull_frees o (same ∙ p) (λ n idle k. h n idle (kept_then kept k)))
      by o kept same stays again true p =
          let r = rounded left m p e in
          rw (same ∙ p)
          (Bytes.from l g (stays p r.still)
          (Commands.down l g direct (λ s. refl) (Lines.pause l g direct 5
          (again (direct.takes Fall m) (subst⁻¹ (λ (q : Receiver). Lets left q.stage) (edge_receiver Fall m) r.lets)
          (λ n idle k. h n idle (kept_then (edge_kept Fall m r.keeps) k))))))

  -- SDA is released: nothing moves, or a STOP is seen
  releases : (a b : Bool) (m : CountedBench) {k : Bus} {Q : Claim direct} → ((o : CountedBench) → Kept m o → From l direct false b o k Q)
      → From l direct a b m (release_sda l k) Q
  unfolding asks_on
  releases a true m h = Lines.sda_released l g direct (Bytes.from l g (Commands.turn_low direct m a false) (h m (kept_all m)))
  releases false false m h = Lines.sda_released l g direct (Bytes.from l g (Lines.turn_none direct (drawn false false) m) (h m (kept_all m)))
  releases true false m {k} {Q} h = Lines.sda_released l g direct (by (direct.pulls m).sda refl)
    where
      by : (p : Bool) → (direct.pulls m).sda ≡ p → From l direct false false (turn direct (drawn true false) (drawn false false) m) k Q
      by true e = Bytes.from l g (Commands.turn_held direct m true false false e) (h m (kept_all m))
      by false e = Bytes.from l g (Commands.turn_stop direct m e refl) (h _ (edge_kept STOP m tt))

  -- The sequence of rounds takes every receiver to Idle, whatever the master pulls at its beginning
  pub clears_by_rounds : (a b : Bool) (m : CountedBench) {Q : Claim direct}
      → ((n : CountedBench) → n.bench.receiver.stage ≡ Idle → Kept m n → FromRest l direct false false n (done none) Q)
      → From l direct a b m (clear_rounds l) Q
  unfolding clear_rounds
  clears_by_rounds a b m h = releases a b m (λ o kept. rounds_free 10 b o (ten o.bench.receiver.stage) (λ n idle k. h n idle (kept_then kept k)))
