-- One attempt, by the module's state at its beginning. Where SDA is free it is a read.
use Prim.Native.Nat.{ℕ, ◌<◌}
use mathlib.Core.Path.{◌≡◌, refl}
use mathlib.Core.Bool.{Bool, true, false, false≢true}
use mathlib.Core.Logic.{◌⊎◌, inl, inr}
use native.Mathlib.Omega.{arith}
use lib.Dec.{ltb}
use borrow.Author.Tests.{eq-eqb}
use Rattle.hardware.specs.Failures.{I2c}
use Rattle.hardware.specs.Prog.{Attempt, R, Ok, Err, or_err, ◌>>=◌, pick}
use Rattle.hardware.specs.Registers.{raw}
use Rattle.bus.specs.declared.Layout.{Layout}
use Rattle.bus.specs.declared.Taken.{Taken}
use Rattle.bus.specs.Bus.{Bus, none, took, done, is_i2c, start}
use Rattle.transfer.specs.declared.attempt.Sequence.{Sequence}
use Rattle.transfer.specs.declared.attempt.Sequence.TheVariants.{Pulses, Rounds}
use Rattle.transfer.specs.Attempt.{clearing, or_cleared, cleared, or_tried, tried, begun, attempting, attempt}
use Rattle.i2c.specs.declared.once.Request.TheVariants.{ReadByte}
use Rattle.i2c.specs.I2c.{body}
use Rattle.wire.specs.Lines.{drawn, Rests, Distinct}
use Rattle.wire.specs.Machine.{World, reading, models, modelled, at_lines, reply, after}
use Rattle.wire.specs.Always.{Always, Meets, Answered, Claim, From, FromRest}
use Rattle.wire.proofs.Always.{always_bind}
use Rattle.wire.proofs.Commands as Commands
use Rattle.bench.specs.declared.receiver.Chosen.{Chosen}
use Rattle.bench.specs.declared.receiver.Receiver.{Receiver}
use Rattle.bench.specs.declared.receiver.Stage.{Stage}
use Rattle.bench.specs.declared.receiver.Stage.TheVariants.{Idle, Address, Receive, AckRead, AckWrite, Send, Listen}
use Rattle.bench.specs.Receiver.{fall_at, fall, asks_at, asks, pulls_at, pulls}
use Rattle.bench.specs.Bench.{pulls_low}
use Rattle.demand.specs.Claim.{CountedBench, Harms}
use Rattle.demand.proofs.Direct.{direct}
use Rattle.demand.specs.WriteClaim.{address_of}
use Rattle.demand.proofs.Receiver.{Keeps}
use Rattle.demand.proofs.Bytes.{heard}
use Rattle.demand.proofs.ReadByte.{Kept, byte_at, read_byte}
use Rattle.demand.proofs.Clearing.{Sends, Still, ack_pulls, clears, clears_not}
use Rattle.demand.proofs.Rounds.{clears_by_rounds}

-- one more transfer is begun
abbrev pub more : CountedBench → CountedBench
more m = direct.notes Attempt m

-- the receiver sends, and its pull ends within the clearing
pub record Stuck (r : Receiver) : Type 0 where
  pub still : Still r.stage
  pub sends : Sends 8 (fall r).stage
  pub keeps : Keeps (asks r)

stuck_send : (n bits : ℕ) (page : Chosen) (first noted b : Bool) → ltb n 7 ≡ b
    → Stuck (record { stage = Send n; bits = bits; page = page; first = first; noted = noted })
unfolding fall fall_at asks asks_at pick
stuck_send n bits page first noted true e = record { still = tt; sends = rw e (omega arith, omega arith); keeps = rw e tt }
stuck_send n bits page first noted false e = record { still = tt; sends = rw e tt; keeps = rw e tt }

stuck_at : (s : Stage) (bits byte : ℕ) (page : Chosen) (first noted : Bool) → pulls_at s byte ≡ true
    → (s ≡ AckWrite) ⊎ Stuck (record { stage = s; bits = bits; page = page; first = first; noted = noted })
unfolding fall fall_at asks asks_at pulls_at
stuck_at Idle bits byte page first noted h = absurd (false≢true h)
stuck_at (Address n) bits byte page first noted h = absurd (false≢true h)
stuck_at (Receive n) bits byte page first noted h = absurd (false≢true h)
stuck_at AckRead bits byte page first noted h = inr (record { still = tt; sends = (omega arith, omega arith); keeps = tt })
stuck_at AckWrite bits byte page first noted h = inl refl
stuck_at (Send n) bits byte page first noted h = inr (stuck_send n bits page first noted (ltb n 7) refl)
stuck_at Listen bits byte page first noted h = absurd (false≢true h)

-- a module that pulls SDA low is in AckWrite, or the Rust's clearing frees it
stuck : (m : CountedBench) → (direct.pulls m).sda ≡ true → (m.bench.receiver.stage ≡ AckWrite) ⊎ Stuck m.bench.receiver
unfolding pulls_low pulls
stuck m h = stuck_at m.bench.receiver.stage _ _ _ _ _ h

-- the sequence frees the receiver
abbrev pub Frees : Sequence → Receiver → Type 0
Frees Pulses r = Stuck r
Frees Rounds r = Unit {0}

-- either sequence harms a module that pulls SDA low, or frees it, and not both
pub harms_or_frees : (q : Sequence) (m : CountedBench) → (direct.pulls m).sda ≡ true → Harms q m.bench ⊎ Frees q m.bench.receiver
harms_or_frees Pulses m h = stuck m h
harms_or_frees Rounds m h = inr tt

pub harms_not_free : (q : Sequence) (m : CountedBench) → Frees q m.bench.receiver → Harms q m.bench → ⊥
unfolding fall fall_at
harms_not_free Pulses m s e = rw e at s.sends
harms_not_free Rounds m s e = e

-- and it harms none that does not pull SDA
pub harms_pulls : (q : Sequence) (m : CountedBench) → Harms q m.bench → (direct.pulls m).sda ≡ true
harms_pulls Pulses m e = ack_pulls m e
harms_pulls Rounds m e = absurd e

module _ (q : Sequence) (l : Layout) (g : Distinct l) where
  -- an attempt begins with a look at I2CCTL
  pub begins : (device w : ℕ) (m : CountedBench) (f : Bus) (a b : Bool) (Q : R Taken → World direct → Type 0) → Rests l (drawn a b) w
      → FromRest l direct a b (more m) f (λ h v. Always l direct (tried q l device h) v Q)
      → Always l direct (attempt q l device f) (record { word = w; other = m }) Q
  unfolding attempt attempting begun Always Answered Meets modelled models at_lines reply after ◌>>=◌ or_err raw pick
  begins device w m f a b Q r h =
      rw (eq-eqb l.reg l.reg refl)
      (inl refl, always_bind l direct (f (reading l direct (record { word = w; other = more m }))) (tried q l device) (record { word = w; other = more m }) Q (h.goes _ w r))

  -- where SDA is free, the byte is read
  pub attempt_reads : (page : Chosen) (offset w : ℕ) (m : CountedBench) (a b : Bool) (Q : R Taken → World direct → Type 0) → Rests l (drawn a b) w → offset < 256
      → byte_at page m.bench offset < 256 → (direct.pulls m).sda ≡ false
      → ((n : CountedBench) (v : ℕ) → n.bench.receiver.stage ≡ Idle → Kept (heard (more m)) n → Rests l (drawn false false) v
      → Q (Ok (took none (byte_at page m.bench offset))) (record { word = v; other = n }))
      → Always l direct (attempt q l (address_of page) (body l (ReadByte (address_of page) offset))) (record { word = w; other = m }) Q
  unfolding Always tried or_tried body
  attempt_reads page offset w m a b Q r o v free h =
      begins (address_of page) w m (body l (ReadByte (address_of page) offset)) a b Q r
      (read_byte l g page a b (more m) (address_of page) offset (λ value. done (took none value)) o v free (λ n idle kept. record { goes = λ ctl v rests. h n v idle kept rests }))

  -- where it is held, the start fails and the clearing follows; k: what was to come after the start
  fails : (device : ℕ) (k : Bus) (w : ℕ) (m : CountedBench) (a b : Bool) (Q : R Taken → World direct → Type 0) → Rests l (drawn a b) w → (direct.pulls m).sda ≡ true
      → From l direct false b (more m) (clearing q l) (λ h v. Always l direct (cleared device h) v Q)
      → Always l direct (attempt q l device (start l k)) (record { word = w; other = m }) Q
  unfolding Always tried or_tried is_i2c pick
  fails device k w m a b Q r held h =
      begins device w m (start l k) a b Q r
      (Commands.start_stuck l g direct (λ s. refl) _ held
      (record { goes = λ ctl v known. always_bind l direct (clearing q l ctl) (cleared device) _ Q (h.goes ctl v known) }))

  frees : (b : Bool) (m : CountedBench) {Q : Claim direct} → (direct.pulls m).sda ≡ true → Frees q m.bench.receiver
      → ((n : CountedBench) → n.bench.receiver.stage ≡ Idle → Kept m n → FromRest l direct false false n (done none) Q)
      → From l direct false b m (clearing q l) Q
  unfolding clearing
  frees b m {Q} held s h = by q s
    where
      by : (q : Sequence) → Frees q m.bench.receiver → From l direct false b m (clearing q l) Q
      by Pulses s = clears l g b m s.still held s.sends s.keeps h
      by Rounds s = clears_by_rounds l g false b m h

  pub attempt_clears : (device : ℕ) (k : Bus) (w : ℕ) (m : CountedBench) (a b : Bool) (Q : R Taken → World direct → Type 0) → Rests l (drawn a b) w
      → (direct.pulls m).sda ≡ true → Frees q m.bench.receiver
      → ((n : CountedBench) (v : ℕ) → n.bench.receiver.stage ≡ Idle → Kept (more m) n → Rests l (drawn false false) v → Q (Err (I2c device)) (record { word = v; other = n }))
      → Always l direct (attempt q l device (start l k)) (record { word = w; other = m }) Q
  unfolding Always cleared or_cleared
  attempt_clears device k w m a b Q r held s h =
      fails device k w m a b Q r held
      (frees b (more m) held s (λ n idle kept. record { goes = λ ctl v rests. h n v idle kept rests }))

  harmed : (b : Bool) (m : CountedBench) {Q : Claim direct} → Harms q m.bench
      → ((n : CountedBench) → Harms q n.bench → n.meter ≡ m.meter → From l direct false false n (done none) Q)
      → From l direct false b m (clearing q l) Q
  unfolding clearing
  harmed b m {Q} e h = by q e h
    where
      by : (q : Sequence) → Harms q m.bench → ((n : CountedBench) → Harms q n.bench → n.meter ≡ m.meter → From l direct false false n (done none) Q)
          → From l direct false b m (clearing q l) Q
      by Pulses e h = clears_not l g b m e h
      by Rounds e h = absurd e

  pub attempt_stays : (device : ℕ) (k : Bus) (w : ℕ) (m : CountedBench) (a b : Bool) (Q : R Taken → World direct → Type 0) → Rests l (drawn a b) w
      → Harms q m.bench
      → ((n : CountedBench) (v : ℕ) → Harms q n.bench → n.meter ≡ (more m).meter → Rests l (drawn false false) v
      → Q (Err (I2c device)) (record { word = v; other = n }))
      → Always l direct (attempt q l device (start l k)) (record { word = w; other = m }) Q
  unfolding Always cleared or_cleared
  attempt_stays device k w m a b Q r e h =
      fails device k w m a b Q r (harms_pulls q m e) (harmed b (more m) e (λ n ack made. record { goes = λ ctl v known. h n v ack made known.now }))
