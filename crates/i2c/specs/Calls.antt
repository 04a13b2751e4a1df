-- What the public calls of the four transfers and of `qsfp_setup` yield: a refusal by its number, or what is left of the
-- call, with the meter beside its result.
use Rattle.std.specs.Prelude.{ℕ, ◌%◌, ◌≡◌, Bool, true, false, eqb, leb, Ok, Err, Some, None}
use Rattle.hardware.specs.declared.Answer.{Answer}
use Rattle.hardware.specs.declared.Meter.{Meter}
use Rattle.hardware.specs.declared.Port.{Port}
use Rattle.hardware.specs.Asked.{Asked, yes, no, question, and_then, open_port, admitting}
use Rattle.hardware.specs.Marks.{valid_held}
use Rattle.hardware.specs.Numbers.{refusal_number}
use Rattle.hardware.specs.Prog.{Prog, ret, ask, erase, R, Counted, blank, tally, pick, ◌>>=◌}
use Rattle.hardware.specs.Registers.{reply}
use Rattle.hardware.specs.Change.{access_update, rest_update}
use Rattle.i2c.specs.declared.How.{How}
use Rattle.i2c.specs.declared.once.Request.{Request}
use Rattle.i2c.specs.declared.once.Request.TheVariants.{ReadByte, WriteByte, ReadCombined, WriteCombined}
use Rattle.i2c.specs.declared.handshake.Handshake.{Handshake}
use Rattle.i2c.specs.I2c.{device_of, gives_value, transferred, setup_bus}
use Rattle.i2c.specs.Handshake.{access_handshake, rest_handshake, valid_request}
use Rattle.hardware.specs.Promise.{Keeps}
use Rattle.i2c.specs.Aliases.{SetupTold, TransferTold, SetupCall, TransferCall}
use Rattle.hardware.specs.declared.Told.TheVariants.{Ask, End}

-- the most attempts of a call
unfoldable pub limit_of : Request → ℕ
limit_of (ReadByte device offset) = 255
limit_of (WriteByte device offset value) = 2
limit_of (ReadCombined device reg) = 4
limit_of (WriteCombined device reg value) = 2

-- only `read_byte` is told its number of attempts
unfoldable pub tries_of : Request → ℕ → ℕ
tries_of (ReadByte device offset) attempts = attempts
tries_of (WriteByte device offset value) attempts = 2
tries_of (ReadCombined device reg) attempts = 4
tries_of (WriteCombined device reg value) attempts = 2

-- Is the I2C device even?
unfoldable pub even_device : Request → Bool
even_device r = eqb (device_of r % 2) 0

-- 1 and 2, then 3, then 4
unfoldable pub open_transfer : ℕ → ℕ → ℕ → Request → ℕ → How → Asked (Prog (Counted (R ℕ)))
open_transfer family device lan r attempts how =
    and_then (open_port family device lan) (λ port.
    question (even_device r) 3 (question (leb attempts 255) 4 (yes (tally blank (transferred port r how (tries_of r attempts))))))

unfoldable pub rest_call : Port → Request → How → Handshake → Answer → Prog (R ℕ)
rest_call port r how s a = rest_handshake port r how s a >>= gives_value r

-- the port and the device are such as an opening gives, and the meter's sample is one of ten
unfoldable pub valid_operands : Port → Request → Meter → Bool
valid_operands port r m = pick (valid_held port m) (even_device r) false

unfoldable pub valid_call : Port → Request → Meter → Handshake → Bool
valid_call port r m s = pick (valid_operands port r m) (valid_request port r (limit_of r) (limit_of r) m s) false

-- a step: 10, 11, 12
unfoldable pub step_transfer : TransferCall → Answer → Asked (Prog (Counted (R ℕ)))
step_transfer (Some (port, r, how, m, s)) a = admitting (valid_call port r m s) (access_handshake port s) a (yes (tally m (rest_call port r how s a)))
step_transfer None a = no 11

unfoldable pub said_transfer : TransferTold → Asked (Prog (Counted (R ℕ)))
said_transfer (Ok (Ask x (Some (port, r, how, m, s)))) = yes (ask x (λ a. tally m (rest_call port r how s a)))
said_transfer (Ok (Ask x None)) = no 0
said_transfer (Ok (End (w, m))) = yes (ret (record { meter = m; result = reply w }))
said_transfer (Err q) = no (refusal_number q)

-- a state to go on from comes with the access it awaits, and passes question 10
unfoldable pub stands_transfer : TransferTold → Type 0
stands_transfer (Ok (Ask x (Some (port, r, how, m, s)))) = (x ≡ access_handshake port s) × (valid_call port r m s ≡ true)
stands_transfer (Ok (Ask x None)) = ⊥
stands_transfer (Ok (End (w, m))) = Unit {0}
stands_transfer (Err q) = Unit {0}

-- what a step told, u, follows what was told before it, t: as the step promises
unfoldable pub follows_transfer : TransferTold → Answer → TransferTold → Type 0
follows_transfer (Ok (Ask x s)) a u = Keeps (said_transfer u ≡ step_transfer s a) (stands_transfer u)
follows_transfer (Ok (End (w, m))) a u = ⊥
follows_transfer (Err q) a u = ⊥

-- `qsfp_setup` takes no port and asks nothing; its state has no counter
unfoldable pub step_setup : SetupCall → Answer → Asked (Prog (R (Unit {0})))
step_setup (Some u) a = admitting true (access_update setup_bus u) a (yes (erase (rest_update setup_bus u a)))
step_setup None a = no 11

unfoldable pub said_setup : SetupTold → Asked (Prog (R (Unit {0})))
said_setup (Ok (Ask x (Some u))) = yes (ask x (λ a. erase (rest_update setup_bus u a)))
said_setup (Ok (Ask x None)) = no 0
said_setup (Ok (End o)) = yes (ret (reply o))
said_setup (Err q) = no (refusal_number q)

unfoldable pub stands_setup : SetupTold → Type 0
stands_setup (Ok (Ask x (Some u))) = x ≡ access_update setup_bus u
stands_setup (Ok (Ask x None)) = ⊥
stands_setup (Ok (End o)) = Unit {0}
stands_setup (Err q) = Unit {0}

unfoldable pub follows_setup : SetupTold → Answer → SetupTold → Type 0
follows_setup (Ok (Ask x s)) a u = Keeps (said_setup u ≡ step_setup s a) (stands_setup u)
follows_setup (Ok (End o)) a u = ⊥
follows_setup (Err q) a u = ⊥
