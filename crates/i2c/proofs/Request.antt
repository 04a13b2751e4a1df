-- One request of a call and what the call makes of its value: the laws of every call that makes requests one after
-- another, whatever they ask for and whatever follows.
use Prim.Native.Nat.{ℕ, ◌+◌, ◌<◌, ◌≤◌, suc, zero}
use mathlib.Core.Path.{◌≡◌, refl, ap, ◌∙◌, sym}
use mathlib.Core.Bool.{Bool, true, false}
use native.Mathlib.Omega.{arith}
use borrow.Author.Tests.{le-leb}
use Rattle.hardware.specs.declared.Marks.{Marks}
use Rattle.hardware.specs.declared.Meter.{Meter}
use Rattle.hardware.specs.declared.Port.{Port}
use Rattle.hardware.specs.Prog.{Prog, ret, ask, R, Ok, Err, erase, followed, ◌>>=◌, ◌>>?◌, pick}
use Rattle.hardware.specs.Change.{change}
use Rattle.hardware.specs.Failures.{I2c}
use Rattle.hardware.specs.Runs.{Asks}
use Rattle.hardware.specs.Marks.{FULL, marked, meter_on}
use Rattle.hardware.proofs.Prog.{over, bind_assoc, going_on}
use Rattle.bus.proofs.Laws.{picked}
use Rattle.bus.specs.declared.Taken.{Taken}
use Rattle.i2c.specs.declared.How.{How}
use Rattle.i2c.specs.declared.handshake.Handshake.{Handshake}
use Rattle.i2c.specs.declared.once.Request.{Request}
use Rattle.i2c.specs.declared.once.Request.TheVariants.{ReadByte}
use Rattle.i2c.specs.I2c.{qsfp, device_of, is_write, read_tries, ask_bus, granted, on_grant, with_bus, gives_value, retried, handshaken, transferred}
use Rattle.i2c.specs.Retry.{wanted}
use Rattle.i2c.specs.Handshake.{access_handshake, handshake_next, valid_handshake_next, due_handshake_next, allows, valid_request, valued, rest_request}
use Rattle.i2c.proofs.Asks.{asks_erase, request_begins}
use Rattle.i2c.proofs.Laws.{fits_valid}
use Rattle.hardware.specs.Registers.{reply}
use Rattle.hardware.specs.declared.Next.TheVariants.{Going, End}
use Rattle.std.specs.Prelude.{Result}
use Rattle.hardware.specs.declared.Error.{Error}

module _ (port : Port) (r : Request) (how : How) (tries : ℕ) where
  -- the request, and then f of its value
  request_is : {A : Type 0} (f : R ℕ → Prog A) → handshaken port r (retried port r how tries) >>= valued r f ≡ transferred port r how tries >>= f
  unfolding transferred gives_value valued ◌>>=◌
  request_is f = sym (bind_assoc (handshaken port r (retried port r how tries)) (gives_value r) f)

  -- a request that has begun
  pub request_begun : {A : Type 0} (f : R ℕ → Prog A) (k : Marks) (s : Handshake)
      → handshake_next port r how (Going (k, s)) ≡ erase (handshaken port r (retried port r how tries))
      → marked k (ask (access_handshake port s) (λ a. erase (rest_request port r how f s a))) ≡ erase (transferred port r how tries >>= f)
  unfolding handshake_next rest_request
  request_begun f k s h = over _ (valued r f) (going_on k _ _ (valued r f)) h ∙ ap erase (request_is f)

  -- with an attempt it has an access at once
  pub request_asks : (g : (Result Taken Error)) → 0 < wanted r tries → handshake_next port r how (End g) ≡ erase (handshaken port r (retried port r how tries)) → ⊥
  unfolding handshake_next
  request_asks g h e = asks_erase _ _ (request_begins port r how tries h) e

  -- one that is over at once
  pub request_over : {A : Type 0} (f : R ℕ → Prog A) (g : (Result Taken Error)) → handshake_next port r how (End g) ≡ erase (handshaken port r (retried port r how tries))
      → erase (valued r f (reply g)) ≡ erase (transferred port r how tries >>= f)
  unfolding handshake_next followed ◌>>=◌
  request_over f g h = over _ (valued r f) refl h ∙ ap erase (request_is f)

-- a read that is over at once has failed
pub none_read : (port : Port) (device offset : ℕ) (how : How) (tries : ℕ) (t : Taken)
    → handshake_next port (ReadByte device offset) how (End (Ok t)) ≡ erase (handshaken port (ReadByte device offset) (retried port (ReadByte device offset) how tries)) → ⊥
unfolding handshake_next handshaken with_bus retried is_write read_tries wanted device_of reply change Asks pick erase ◌>>=◌
none_read port device offset how zero t e = by (qsfp port) e
  where
    by : (b : Bool) → ret (Ok t) ≡ erase (pick b (change ask_bus >>? λ _. granted 200 >>? on_grant device (ret (Err (I2c device)))) (ret (Err (I2c device)))) → ⊥
    by true e = asks_erase (change ask_bus >>? λ _. granted 200 >>? on_grant device (ret (Err (I2c device)))) (Ok t) tt e
    by false e = let z : ◌≡◌ {A = ℕ} 0 1 = cc in omega arith
none_read port device offset how (suc n) t e = request_asks port (ReadByte device offset) how (suc n) (Ok t) (omega arith) e

-- the attempts in the state of a request are those that it makes: a write's are two
pub own_allows : (r : Request) (tries : ℕ) → wanted r tries ≤ tries → allows tries r tries ≡ true
unfolding allows
own_allows r tries h = picked _ _ (le-leb tries tries (omega arith)) (le-leb _ _ h)

-- a request that begins where there is room for its attempts
pub begun_valid : (port : Port) (r : Request) (tries cap : ℕ) (m : Meter) (k : Marks) (s : Handshake) → cap < FULL → wanted r tries ≤ tries
    → valid_handshake_next tries port r (Going (k, s)) ≡ true → due_handshake_next r (Going (k, s)) ≤ wanted r tries → m.transfers + tries ≤ cap
    → valid_request port r tries cap (meter_on k m) s ≡ true
unfolding valid_handshake_next due_handshake_next
begun_valid port r tries cap m k s c w v d h = fits_valid k port r tries cap m s c v (omega (arith, w, d, h))
