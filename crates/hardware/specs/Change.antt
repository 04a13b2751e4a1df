-- A register is read, some of its bits changed, and written back, with a flush behind it where one is asked for.
use Rattle.std.specs.Prelude.{ℕ, Bool, true, false}
use Rattle.std.specs.Int.Bits.{bit_and, bit_or}
use Rattle.hardware.specs.declared.Access.{Access}
use Rattle.hardware.specs.declared.Access.TheVariants.{Read, Write}
use Rattle.hardware.specs.declared.Answer.{Answer}
use Rattle.hardware.specs.declared.change.Bits.{Bits}
use Rattle.hardware.specs.declared.change.Bits.TheVariants.{Set, Clear, SetClear}
use Rattle.hardware.specs.declared.change.Change.{Change}
use Rattle.hardware.specs.declared.Update.{Update}
use Rattle.hardware.specs.declared.Update.TheVariants.{Reading, Writing, Flushing}
use Rattle.hardware.specs.Aliases.{UpdateNext}
use Rattle.hardware.specs.declared.Next.TheVariants.{Going, End}
use Rattle.hardware.specs.Prog.{Prog, ret, ask, erase, R, Ok, or_err, ◌>>?◌}
use Rattle.hardware.specs.Registers.{STATUS, not32, read, write, flush, checked, written, flushed, reply}

unfoldable pub changed : Bits → ℕ → ℕ
changed (Set bits) v = bit_or v bits
changed (Clear bits) v = bit_and v (not32 bits)
changed (SetClear bits cleared) v = bit_and (bit_or v bits) (not32 cleared)

-- what follows the write
unfoldable pub settled : Bool → Prog (R (Unit {0}))
settled true = flush
settled false = ret (Ok tt)

-- what follows the read
unfoldable pub stored : Change → ℕ → Prog (R (Unit {0}))
stored c v = write c.register (changed c.bits v) >>? λ _. settled c.flushed

unfoldable pub change : Change → Prog (R (Unit {0}))
change c = read c.register >>? stored c

unfoldable pub access_update : Change → Update → Access
access_update c Reading = Read c.register
access_update c (Writing v) = Write c.register v
access_update c Flushing = Read STATUS

unfoldable pub rest_update : Change → Update → Answer → Prog (R (Unit {0}))
rest_update c Reading a = or_err (stored c) (checked a)
rest_update c (Writing v) a = or_err (λ _. settled c.flushed) (written a)
rest_update c Flushing a = ret (flushed a)

unfoldable pub update_next : Change → UpdateNext → Prog (R (Unit {0}))
update_next c (Going s) = ask (access_update c s) (λ a. erase (rest_update c s a))
update_next c (End o) = ret (reply o)
