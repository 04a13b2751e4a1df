-- A whole call one access at a time: the handshake around the attempts.
use Rattle.std.specs.Prelude.{ℕ, ◌+◌, Bool, true, false, ltb, leb}
use Rattle.hardware.specs.declared.Access.{Access}
use Rattle.hardware.specs.declared.Access.TheVariants.{Read, Wait}
use Rattle.hardware.specs.declared.Answer.{Answer}
use Rattle.hardware.specs.declared.Meter.{Meter}
use Rattle.hardware.specs.declared.Port.{Port}
use Rattle.hardware.specs.Failures.{I2c}
use Rattle.hardware.specs.Prog.{Prog, ret, ask, R, Err, or_err, erase, ◌>>=◌, ◌>>?◌, pick}
use Rattle.hardware.specs.Marks.{marked, more}
use Rattle.hardware.specs.Registers.{ESDP, checked, micros, reply}
use Rattle.hardware.specs.Change.{access_update, rest_update}
use Rattle.bus.specs.declared.Taken.{Taken}
use Rattle.i2c.specs.declared.How.{How}
use Rattle.i2c.specs.declared.once.Request.{Request}
use Rattle.i2c.specs.declared.once.Request.TheVariants.{ReadByte, WriteByte, ReadCombined, WriteCombined}
use Rattle.i2c.specs.declared.handshake.Handshake.{Handshake}
use Rattle.i2c.specs.declared.handshake.Handshake.TheVariants.{Asking, Granting, Waiting, Inside, Giving}
use Rattle.i2c.specs.I2c.{qsfp, device_of, retried, ask_bus, give_bus, granting, granted, given_bus, value_of}
use Rattle.i2c.specs.Retry.{wanted, access_retry, rest_retry, due_retry, valid_retry}
use Rattle.i2c.specs.Aliases.{HandshakeNext}
use Rattle.hardware.specs.declared.Next.TheVariants.{Going, End}

-- the call has the handshake on this port
unfoldable pub has_handshake : Port → Request → Bool
has_handshake port (ReadByte device offset) = qsfp port
has_handshake port (WriteByte device offset value) = qsfp port
has_handshake port (ReadCombined device reg) = false
has_handshake port (WriteCombined device reg value) = false

-- the request for the bus is taken back
unfoldable pub closing : Port → Request → R Taken → Prog (R Taken)
closing port r result = pick (has_handshake port r) (given_bus result) (ret result)

unfoldable pub entered : Port → Request → How → ℕ → Prog (R Taken)
entered port r how tries = retried port r how tries >>= closing port r

unfoldable pub on_granted : Port → Request → How → ℕ → Bool → Prog (R Taken)
on_granted port r how tries came = pick came (retried port r how tries) (ret (Err (I2c (device_of r)))) >>= closing port r

-- the grant is awaited, with so many looks left
unfoldable pub awaiting_grant : Port → Request → How → ℕ → ℕ → Prog (R Taken)
awaiting_grant port r how tries left = granted left >>? on_granted port r how tries

-- ESDP was read
unfoldable pub looked_at : Port → Request → How → ℕ → ℕ → R ℕ → Prog (R Taken)
looked_at port r how tries left v = or_err (granting (λ _. granted left)) v >>? on_granted port r how tries

unfoldable pub access_handshake : Port → Handshake → Access
access_handshake port (Asking tries u) = access_update ask_bus u
access_handshake port (Granting tries left) = Read ESDP
access_handshake port (Waiting tries left) = Wait (micros 5000)
access_handshake port (Inside t) = access_retry port t
access_handshake port (Giving g u) = access_update give_bus u

unfoldable pub rest_handshake : Port → Request → How → Handshake → Answer → Prog (R Taken)
rest_handshake port r how (Asking tries u) a = rest_update ask_bus u a >>? λ _. awaiting_grant port r how tries 200
rest_handshake port r how (Granting tries left) a = looked_at port r how tries left (checked a)
rest_handshake port r how (Waiting tries left) a = awaiting_grant port r how tries left
rest_handshake port r how (Inside t) a = rest_retry port r how t a >>= closing port r
rest_handshake port r how (Giving g u) a = rest_update give_bus u a >>? λ _. ret (reply g)

-- a call makes f of the value of its request
unfoldable pub valued : {A : Type 0} → Request → (R ℕ → Prog A) → R Taken → Prog A
valued r f result = f (value_of r result)

-- what is left of the call then
unfoldable pub rest_request : {A : Type 0} → Port → Request → How → (R ℕ → Prog A) → Handshake → Answer → Prog A
rest_request port r how f s a = rest_handshake port r how s a >>= valued r f

unfoldable pub handshake_next : Port → Request → How → HandshakeNext → Prog (R Taken)
handshake_next port r how (Going (k, s)) = marked k (ask (access_handshake port s) (λ a. erase (rest_handshake port r how s a)))
handshake_next port r how (End g) = ret (reply g)

-- the most attempts that are to come
unfoldable pub due_handshake : Request → Handshake → ℕ
due_handshake r (Asking tries u) = wanted r tries
due_handshake r (Granting tries left) = wanted r tries
due_handshake r (Waiting tries left) = wanted r tries
due_handshake r (Inside t) = due_retry t
due_handshake r (Giving g u) = 0

unfoldable pub due_handshake_next : Request → HandshakeNext → ℕ
due_handshake_next r (Going (k, s)) = more k.attempt (due_handshake r s)
due_handshake_next r (End g) = 0

-- the number of attempts that stands in the state, and that of those to come, are at most so many; a write makes two
unfoldable pub allows : ℕ → Request → ℕ → Bool
allows most r tries = pick (leb tries most) (leb (wanted r tries) most) false

-- the counters of a request that has so many attempts
unfoldable pub valid_handshake : ℕ → Port → Request → Handshake → Bool
valid_handshake most port r (Asking tries u) = allows most r tries
valid_handshake most port r (Granting tries left) = pick (allows most r tries) (ltb left 200) false
valid_handshake most port r (Waiting tries left) = pick (allows most r tries) (ltb left 200) false
valid_handshake most port r (Inside t) = valid_retry most port r t
valid_handshake most port r (Giving g u) = true

unfoldable pub valid_handshake_next : ℕ → Port → Request → HandshakeNext → Bool
valid_handshake_next most port r (Going (k, s)) = valid_handshake most port r s
valid_handshake_next most port r (End g) = true

-- a call's request within its limits: those of its attempts, and with the transfers made those to come are at most cap
unfoldable pub valid_request : Port → Request → ℕ → ℕ → Meter → Handshake → Bool
valid_request port r tries cap m s = pick (valid_handshake tries port r s) (leb (m.transfers + due_handshake r s) cap) false
