-- With the answers of `at_once`, and any of the machine's, no lock and no grant of a transfer, of an identification, of a page or of
-- a rate select runs out.
use Prim.Native.Nat.{ℕ, suc, zero}
use mathlib.Core.Path.{◌≡◌, refl}
use mathlib.Core.Bool.{Bool, true, false}
use mathlib.Core.List.{List}
use Rattle.hardware.specs.declared.Port.{Port}
use Rattle.hardware.specs.Prog.{Prog, ret, Attempt, R, Ok, Err, ◌>>=◌, ◌>>?◌, pick}
use Rattle.hardware.specs.Registers.{none_of}
use Rattle.hardware.specs.Change.{change}
use Rattle.hostif.specs.Acquire.{acquire, release}
use Rattle.bus.specs.declared.Taken.{Taken}
use Rattle.bus.specs.Layout.{layout_of}
use Rattle.i2c.specs.declared.How.{How}
use Rattle.transfer.specs.Attempt.{attempt}
use Rattle.i2c.specs.declared.once.Request.{Request}
use Rattle.i2c.specs.declared.once.Request.TheVariants.{ReadByte, WriteByte, ReadCombined, WriteCombined}
use Rattle.transfer.specs.declared.attempt.Sequence.{Sequence}
use Rattle.i2c.specs.I2c.{locked, mask, qsfp, once, when_lock, read_judged, read_tries, write_tries, given_up, writes, retried, ask_bus, give_bus, granting, granted, given_bus, on_grant, with_bus, handshaken, gives_value, transferred}
use Rattle.sfp.specs.Identify.{EEPROM, identify}
use Rattle.sfp.specs.Rate.{DIAG, or_not, selected, rate_byte, soft_rate_select}
use Rattle.page.specs.declared.walk.Form.{Form}
use Rattle.page.specs.Page.{Filled, byte_seen, request_at, page_from, page}
use Rattle.demand.specs.Fine.{AtOnce}
use Rattle.bench.specs.AtOnce.{at_once_at, at_once}
use Rattle.demand.specs.Claim.{machine}
use Rattle.bench.specs.Mux.{has_mux}
use Rattle.demand.proofs.Handshake.{qsfp_plain}
use Rattle.sfp.proofs.Spreads.{identify_holds}
use Rattle.light.specs.Light.{light, request_at as lightRequest}
use Rattle.light.proofs.Spreads.{light_holds}
use Rattle.i2c.proofs.Masks.{mask_plain}
use Rattle.i2c.proofs.Noteless.{once_noteless}
use Rattle.demand.proofs.AtOnce.{at_once_then, at_once_try, at_once_pick, at_once_ret, at_once_note, at_once_any, noteless_at_once, delay_at_once, acquire_at_once, release_at_once, esdp_at_once, read_esdp_at_once}

-- nothing is asked of the result
abbrev pub AtOnces : {A : Type 0} → Port → Prog A → Type 0
AtOnces port p = AtOnce (layout_of port.family) (machine port) at_once p (λ _. Unit {0})

module _ (port : Port) where
  -- the first look finds the grant
  granted_at_once : has_mux port ≡ false → (n : ℕ) → AtOnce (layout_of port.family) (machine port) at_once (granted (suc n)) (λ r. r ≡ Ok true)
  unfolding granted granting at_once_at none_of pick
  granted_at_once none n = at_once_try _ _ _ _ _ _ _ (read_esdp_at_once port none) (at_once_ret _ _ _ _ _ refl)

  ret_at_once : {A : Type 0} (a : A) → AtOnces port (ret a)
  ret_at_once a = at_once_ret _ _ _ a _ tt

  bind_at_once : {A B : Type 0} (p : Prog A) (k : A → Prog B) → AtOnces port p → ((a : A) → AtOnces port (k a)) → AtOnces port (p >>= k)
  bind_at_once p k h f = at_once_then _ _ _ p k _ _ h (λ a _. f a)

  -- an attempt, whatever happens on the lines
  pub once_at_once : (r : Request) (how : How) → AtOnces port (once port r how)
  unfolding once attempt
  once_at_once r how =
      at_once_note _ _ _ Attempt _ _
      (noteless_at_once _ _ _ _ _ (once_noteless port r how) (λ _. tt))

  locked_at_once : (on : Bool) (k : Prog (R Taken)) → AtOnces port k → AtOnces port (when_lock on (acquire port (mask port)) k)
  unfolding when_lock
  locked_at_once on k h = at_once_pick _ _ _ _ _ _ _ (at_once_any _ _ _ _ (acquire_at_once port (mask port) (mask_plain port)) (λ _. h)) h

  unlocked_at_once : (on : Bool) (k : Prog (R Taken)) → AtOnces port k → AtOnces port (when_lock on (release port (mask port)) k)
  unfolding when_lock
  unlocked_at_once on k h = at_once_pick _ _ _ _ _ _ _ (at_once_any _ _ _ _ (release_at_once port (mask port) (mask_plain port)) (λ _. h)) h

  judged_at_once : (r : Request) (on : Bool) (again : Unit {0} → Prog (R Taken)) (result : R Taken) → AtOnces port (again tt)
      → AtOnces port (read_judged r on again result)
  unfolding read_judged
  judged_at_once r on again result h =
      at_once_pick _ _ _ _ _ _ _ (at_once_pick _ _ _ _ _ _ _ (at_once_try _ _ _ _ _ _ _ (delay_at_once _ _ _) h) h) (ret_at_once result)

  pub reads_at_once : (r : Request) (how : How) (n : ℕ) → AtOnces port (read_tries port r how n)
  unfolding read_tries
  reads_at_once r how zero = ret_at_once _
  reads_at_once r how (suc n) =
      locked_at_once how.lock _ (bind_at_once _ _ (once_at_once r how) (λ result. unlocked_at_once how.lock _ (judged_at_once r how.lock _ result (reads_at_once r how n))))

  pub writes_at_once : (r : Request) (how : How) (n : ℕ) (before : R Taken) → AtOnces port (write_tries port r how n before)
  unfolding write_tries
  writes_at_once r how zero before = ret_at_once before
  writes_at_once r how (suc n) before =
      bind_at_once _ _ (once_at_once r how) (λ result. at_once_pick _ _ _ _ _ _ _ (writes_at_once r how n result) (ret_at_once result))

  retried_at_once : (r : Request) (how : How) (n : ℕ) → AtOnces port (retried port r how n)
  unfolding retried writes given_up
  retried_at_once r how n =
      at_once_pick _ _ _ _ _ _ _
      (locked_at_once how.lock _ (bind_at_once _ _ (writes_at_once r how 2 _) (λ result. unlocked_at_once how.lock _ (ret_at_once result))))
      (reads_at_once r how n)

  given_at_once : has_mux port ≡ false → (result : R Taken) → AtOnces port (given_bus result)
  unfolding given_bus
  given_at_once none result = at_once_try _ _ _ _ _ _ _ (esdp_at_once port none give_bus refl) (ret_at_once result)

  -- the handshake around a call
  pub bus_at_once : (device : ℕ) (p : Prog (R Taken)) → AtOnces port p → AtOnces port (with_bus port device p)
  unfolding with_bus on_grant pick
  bus_at_once device p h = by (qsfp port) refl
    where
      by : (b : Bool) → qsfp port ≡ b → AtOnces port (pick b (change ask_bus >>? λ _. granted 200 >>? on_grant device p) p)
      by true e =
          at_once_try _ _ _ _ _ _ _ (esdp_at_once port (qsfp_plain port e) ask_bus refl)
          (at_once_try _ _ _ _ _ _ _ (granted_at_once (qsfp_plain port e) 199) (bind_at_once p given_bus h (given_at_once (qsfp_plain port e))))
      by false e = h

  handshake_at_once : (r : Request) (p : Prog (R Taken)) → AtOnces port p → AtOnces port (handshaken port r p)
  unfolding handshaken
  handshake_at_once (ReadByte device offset) p h = bus_at_once device p h
  handshake_at_once (WriteByte device offset value) p h = bus_at_once device p h
  handshake_at_once (ReadCombined device reg) p h = h
  handshake_at_once (WriteCombined device reg value) p h = h

  pub transferred_at_once : (r : Request) (how : How) (n : ℕ) → AtOnces port (transferred port r how n)
  unfolding transferred gives_value
  transferred_at_once r how n = bind_at_once _ _ (handshake_at_once r _ (retried_at_once r how n)) (λ result. ret_at_once _)

  pub identify_at_once : (q : Sequence) → AtOnce (layout_of port.family) (machine port) at_once (identify q port) (λ _. Unit {0})
  identify_at_once q =
      identify_holds q port (λ p. AtOnces port p)
      (record { ends = λ v. ret_at_once v; requests = λ offset n k h. bind_at_once _ k (transferred_at_once (ReadByte EEPROM offset) (locked q) n) h })

  seen_at_once : (again : List ℕ → Prog Filled) (place : ℕ) (buffer : List ℕ) (r : R ℕ) → ((l : List ℕ) → AtOnces port (again l)) → AtOnces port (byte_seen again place buffer r)
  unfolding byte_seen
  seen_at_once again place buffer (Ok v) h = h _
  seen_at_once again place buffer (Err e) h = ret_at_once _

  bytes_at_once : (q : Sequence) (form : Form) (tries n : ℕ) (buffer : List ℕ) → AtOnces port (page_from q port form tries n buffer)
  unfolding page_from
  bytes_at_once q form tries zero buffer = ret_at_once _
  bytes_at_once q form tries (suc left) buffer =
      bind_at_once _ _ (transferred_at_once (request_at form left) (locked q) tries) (λ r. seen_at_once _ _ _ r (bytes_at_once q form tries left))

  pub page_at_once : (q : Sequence) (form : Form) (tries : ℕ) (buffer : List ℕ) → AtOnces port (page q port form tries buffer)
  unfolding page
  page_at_once q form tries buffer = bytes_at_once q form tries 96 buffer

  not_at_once : (k : Bool → Prog (R Bool)) (f : ℕ → Prog (R Bool)) (r : R ℕ) → ((b : Bool) → AtOnces port (k b)) → ((v : ℕ) → AtOnces port (f v)) → AtOnces port (or_not k f r)
  unfolding or_not
  not_at_once k f (Ok v) h g = g v
  not_at_once k f (Err e) h g = at_once_pick _ _ _ _ _ _ _ (h false) (ret_at_once _)

  rate_byte_at_once : (q : Sequence) (ten ok : Bool) (offset : ℕ) (k : Bool → Prog (R Bool)) → ((b : Bool) → AtOnces port (k b)) → AtOnces port (rate_byte q port ten ok offset k)
  unfolding rate_byte
  rate_byte_at_once q ten ok offset k h =
      bind_at_once _ _ (transferred_at_once (ReadByte DIAG offset) (locked q) _) (λ r. not_at_once k _ r h (λ v.
      bind_at_once _ _ (transferred_at_once (WriteByte DIAG offset (selected ten v)) (locked q) 2) (λ t. not_at_once k _ t h (λ _. h ok))))

  pub rate_at_once : (q : Sequence) (ten : Bool) → AtOnces port (soft_rate_select q port ten)
  unfolding soft_rate_select
  rate_at_once q ten = rate_byte_at_once q ten true 0x6e _ (λ ok. rate_byte_at_once q ten ok 0x76 _ (λ both. ret_at_once _))

  pub light_at_once : (q : Sequence) (tries : ℕ) → AtOnces port (light q port tries)
  light_at_once q tries =
      light_holds (λ p. AtOnces port p) (λ v. ret_at_once v) q port tries (λ left k h. bind_at_once _ k (transferred_at_once (lightRequest left) (locked q) tries) h)
