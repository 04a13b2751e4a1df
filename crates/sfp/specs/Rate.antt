-- `soft_rate_select` of `sfp.rs`: bit 3 of bytes 6E and 76 of page A2, set for 10G and clear for 1G.
use Rattle.std.specs.Prelude.{ℕ, Bool, true, false, bit_and, bit_or}
use Rattle.hardware.specs.declared.Port.{Port}
use Rattle.hardware.specs.Prog.{Prog, ret, R, Ok, Err, ◌>>=◌, pick}
use Rattle.bus.specs.Bus.{is_i2c}
use Rattle.transfer.specs.declared.attempt.Sequence.{Sequence}
use Rattle.i2c.specs.declared.once.Request.TheVariants.{ReadByte, WriteByte}
use Rattle.i2c.specs.I2c.{locked, attempts, transferred}

abbrev pub DIAG : ℕ
DIAG = 0xa2

-- an I2C failure is no error: the result says that not both bytes were written; k: on with the next byte
unfoldable pub or_not : (Bool → Prog (R Bool)) → (ℕ → Prog (R Bool)) → R ℕ → Prog (R Bool)
or_not k f (Ok v) = f v
or_not k f (Err e) = pick (is_i2c e) (k false) (ret (Err e))

unfoldable pub selected : Bool → ℕ → ℕ
selected ten v = pick ten (bit_or v 0x08) (bit_and v 0xf7)

-- a byte is read, changed and written back; ok: whether all went well so far
unfoldable pub rate_byte : Sequence → Port → Bool → Bool → ℕ → (Bool → Prog (R Bool)) → Prog (R Bool)
rate_byte q port ten ok offset k =
    transferred port (ReadByte DIAG offset) (locked q) (attempts port) >>= or_not k (λ v.
    transferred port (WriteByte DIAG offset (selected ten v)) (locked q) 2 >>= or_not k (λ _. k ok))

-- a failed byte does not stop the second
unfoldable pub soft_rate_select : Sequence → Port → Bool → Prog (R Bool)
soft_rate_select q port ten = rate_byte q port ten true 0x6e (λ ok. rate_byte q port ten ok 0x76 (λ both. ret (Ok both)))
