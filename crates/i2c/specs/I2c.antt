-- The four transfers of `i2c.rs`: what they do on the bus, the loops around it, and the QSFP handshake.
use Rattle.std.specs.Prelude.{ℕ, ◌+◌, ◌*◌, suc, zero, Bool, true, false, List, eqb}
use Rattle.std.specs.Int.Bits.{bit_or}
use Rattle.hardware.specs.declared.Family.TheVariants.{F82599}
use Rattle.hardware.specs.declared.Port.{Port}
use Rattle.hardware.specs.declared.change.Bits.TheVariants.{Set, Clear, SetClear}
use Rattle.hardware.specs.declared.change.Change.{Change}
use Rattle.hardware.specs.Asked.{is}
use Rattle.hardware.specs.Failures.{I2c}
use Rattle.hardware.specs.Prog.{Prog, ret, note, Lapsed, R, Ok, Err, ◌>>=◌, ◌>>?◌, pick}
use Rattle.hardware.specs.Registers.{ESDP, read, delay_ms, none_of}
use Rattle.hardware.specs.Change.{change}
use Rattle.sync.specs.Regs.{phy}
use Rattle.hostif.specs.Acquire.{acquire, release}
use Rattle.bus.specs.declared.Layout.{Layout}
use Rattle.bus.specs.declared.Taken.{Taken}
use Rattle.bus.specs.Layout.{x550em, layout_of}
use Rattle.bus.specs.Bus.{Bus, done, none, took, is_i2c, start, stop, send, in_byte, out_bit}
use Rattle.script.specs.Sum.{low, high, high_read, high_write, read_check, write_check}
use Rattle.script.specs.Scripts.{read_byte_script, write_byte_script, read_combined_script, write_combined_script}
use Rattle.transfer.specs.declared.attempt.Sequence.{Sequence}
use Rattle.transfer.specs.declared.attempt.Sequence.TheVariants.{Rounds}
use Rattle.transfer.specs.Attempt.{attempt}
use Rattle.i2c.specs.declared.How.{How}
use Rattle.i2c.specs.declared.once.Request.{Request}
use Rattle.i2c.specs.declared.once.Request.TheVariants.{ReadByte, WriteByte, ReadCombined, WriteCombined}

abbrev pub SHARED_I2C : ℕ
SHARED_I2C = 0x1806

unfoldable pub mask : Port → ℕ
mask port = pick (x550em port.family) SHARED_I2C (phy port.lan)

unfoldable pub attempts : Port → ℕ
attempts port = pick (x550em port.family) 4 11

unfoldable pub qsfp : Port → Bool
qsfp port = pick (is port.family F82599) (eqb port.device 0x1558) false

-- the clearing sequence of a call that names none
abbrev pub standard : Sequence
standard = Rounds

abbrev pub making : Bool → Sequence → How
making lock q = record { lock = lock; sequence = q }

abbrev pub by_default : Bool → How
by_default lock = making lock standard

-- the calls of `sfp.rs` always lock
abbrev pub locked : Sequence → How
locked q = making true q

unfoldable pub device_of : Request → ℕ
device_of (ReadByte device offset) = device
device_of (WriteByte device offset value) = device
device_of (ReadCombined device reg) = device
device_of (WriteCombined device reg value) = device

unfoldable pub script_of : Request → List ℕ
script_of (ReadByte device offset) = read_byte_script device offset
script_of (WriteByte device offset value) = write_byte_script device offset value
script_of (ReadCombined device reg) = read_combined_script device reg
script_of (WriteCombined device reg value) = write_combined_script device reg value

unfoldable pub is_write : Request → Bool
is_write (ReadByte device offset) = false
is_write (WriteByte device offset value) = true
is_write (ReadCombined device reg) = false
is_write (WriteCombined device reg value) = true

-- the closures that the Rust hands to `attempt`; the bytes read are the result
unfoldable pub body : Layout → Request → Bus
body l (ReadByte device offset) =
    start l (send l device device (send l device offset
    (start l (send l device (bit_or device 1) (in_byte l (λ value. out_bit l true (stop l (done (took none value)))))))))
body l (WriteByte device offset value) =
    start l (send l device device (send l device offset (send l device value (stop l (done none)))))
body l (ReadCombined device reg) =
    start l (send l device device (send l device (high_read reg) (send l device (low reg) (send l device (read_check reg)
    (start l (send l device (bit_or device 1)
    (in_byte l (λ hi. out_bit l false (in_byte l (λ lo. out_bit l false (in_byte l (λ sum. out_bit l true
    (stop l (done (took (took (took none hi) lo) sum)))))))))))))))
body l (WriteCombined device reg value) =
    start l (send l device device (send l device (high_write reg) (send l device (low reg)
    (send l device (high value) (send l device (low value) (send l device (write_check reg value) (stop l (done none))))))))

-- what the Rust gives for the bytes read; 0 stands for its `()`
unfoldable pub read_off : Request → Taken → ℕ
read_off (ReadByte device offset) t = t.last
read_off (WriteByte device offset value) t = 0
read_off (ReadCombined device reg) t = t.high * 256 + t.low
read_off (WriteCombined device reg value) t = 0

unfoldable pub value_of : Request → R Taken → R ℕ
value_of r (Ok t) = Ok (read_off r t)
value_of r (Err e) = Err e

unfoldable pub gives_value : Request → R Taken → Prog (R ℕ)
gives_value r result = ret (value_of r result)

unfoldable pub failed_i2c : R Taken → Bool
failed_i2c (Ok t) = false
failed_i2c (Err e) = is_i2c e

unfoldable pub once : Port → Request → How → Prog (R Taken)
once port r how = attempt how.sequence (layout_of port.family) (device_of r) (body (layout_of port.family) r)

-- the Rust's `if lock { ...?; }`
unfoldable pub when_lock : Bool → Prog (R (Unit {0})) → Prog (R Taken) → Prog (R Taken)
when_lock lock p k = pick lock (p >>? λ _. k) k

-- only a failed locked `read_byte` waits, 100 ms
unfoldable pub pauses : Request → Bool → Bool
pauses (ReadByte device offset) lock = lock
pauses (WriteByte device offset value) lock = false
pauses (ReadCombined device reg) lock = false
pauses (WriteCombined device reg value) lock = false

-- a read was attempted and the lock given back; again: the attempts that are left
unfoldable pub read_judged : Request → Bool → (Unit {0} → Prog (R Taken)) → R Taken → Prog (R Taken)
read_judged r lock again result =
    pick (failed_i2c result) (pick (pauses r lock) (delay_ms 100 >>? λ _. again tt) (again tt)) (ret result)

-- `read_byte` and `read_combined`: the lock is taken for each attempt
unfoldable pub read_tries : Port → Request → How → ℕ → Prog (R Taken)
read_tries port r how zero = ret (Err (I2c (device_of r)))
read_tries port r how (suc left) =
    when_lock how.lock (acquire port (mask port))
    (once port r how >>= λ result.
    when_lock how.lock (release port (mask port)) (read_judged r how.lock (λ _. read_tries port r how left) result))

-- `write_byte` and `write_combined`: the lock is held across the attempts
unfoldable pub write_tries : Port → Request → How → ℕ → R Taken → Prog (R Taken)
write_tries port r how zero result = ret result
write_tries port r how (suc left) before =
    once port r how >>= λ result. pick (failed_i2c result) (write_tries port r how left result) (ret result)

unfoldable pub given_up : Port → Bool → R Taken → Prog (R Taken)
given_up port lock result = when_lock lock (release port (mask port)) (ret result)

unfoldable pub writes : Port → Request → How → Prog (R Taken)
writes port r how = when_lock how.lock (acquire port (mask port)) (write_tries port r how 2 (Err (I2c (device_of r))) >>= given_up port how.lock)

-- the attempts of a call; a write has two
unfoldable pub retried : Port → Request → How → ℕ → Prog (R Taken)
retried port r how tries = pick (is_write r) (writes port r how) (read_tries port r how tries)

-- the handshake: the bus is asked for on SDP0, and the grant awaited on SDP1, 200 looks 5 ms apart
abbrev pub ask_bus : Change
ask_bus = record { register = ESDP; bits = Set 1; flushed = true }

abbrev pub give_bus : Change
give_bus = record { register = ESDP; bits = Clear 1; flushed = true }

unfoldable pub granting : (Unit {0} → Prog (R Bool)) → ℕ → Prog (R Bool)
granting again v = pick (none_of v 2) (delay_ms 5 >>? λ _. again tt) (ret (Ok true))

unfoldable pub granted : ℕ → Prog (R Bool)
granted zero = note Lapsed (ret (Ok false))
granted (suc left) = read ESDP >>? granting (λ _. granted left)

unfoldable pub given_bus : R Taken → Prog (R Taken)
given_bus result = change give_bus >>? λ _. ret result

-- without the grant the call has failed with the device; the request is taken back in any case
unfoldable pub on_grant : ℕ → Prog (R Taken) → Bool → Prog (R Taken)
on_grant device f got = pick got f (ret (Err (I2c device))) >>= given_bus

unfoldable pub with_bus : Port → ℕ → Prog (R Taken) → Prog (R Taken)
with_bus port device f = pick (qsfp port) (change ask_bus >>? λ _. granted 200 >>? on_grant device f) f

-- only `read_byte` and `write_byte` have the handshake
unfoldable pub handshaken : Port → Request → Prog (R Taken) → Prog (R Taken)
handshaken port (ReadByte device offset) f = with_bus port device f
handshaken port (WriteByte device offset value) f = with_bus port device f
handshaken port (ReadCombined device reg) f = f
handshaken port (WriteCombined device reg value) f = f

-- a whole call, with `tries` attempts for a read
unfoldable pub transferred : Port → Request → How → ℕ → Prog (R ℕ)
transferred port r how tries = handshaken port r (retried port r how tries) >>= gives_value r

-- `qsfp_setup`
abbrev pub setup_bus : Change
setup_bus = record { register = ESDP; bits = SetClear 0x100 0x30201; flushed = true }
