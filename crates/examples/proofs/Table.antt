-- The examples of the table are so.
use mathlib.Core.Path.{◌≡◌, refl}
use mathlib.Core.Bool.{Bool, true, false, ◌||◌}
use Rattle.hardware.specs.Asked.{is}
use Rattle.hardware.specs.Prog.{pick}
use Rattle.hardware.specs.Registers.{none_of}
use Rattle.sync.specs.Regs.{bits, bits82599, bits_x540}
use Rattle.script.specs.Script.{alone, commands}
use Rattle.script.specs.Scripts.{read_combined_script, write_combined_script}
use Rattle.script.specs.Sum.{ones_add, ones_sum_from, ones_sum, check_byte, high_write, high_read, read_check, write_check}
use Rattle.sfp.specs.Bytes.{sfp_bytes}
use Rattle.sfp.specs.Classes.{has, asks_rate, asks_reach, bx10g, kind_of, is_cable, multispeed_of, class_of}
use Rattle.sfp.specs.Kinds.{is_kind}
use Rattle.examples.specs.Table.{Starred}

or_true : (x y : Bool) → (x || (y || true)) ≡ true
or_true true y = refl
or_true false true = refl
or_true false false = refl

pub starred : Starred
unfolding bits bits82599 bits_x540 is pick none_of commands alone read_combined_script write_combined_script read_check write_check check_byte ones_sum ones_sum_from ones_add high_write high_read sfp_bytes has asks_rate asks_reach bx10g kind_of is_kind is_cable multispeed_of class_of
starred =
    record {
      shared_i2c = refl;
      eeprom = refl;
      read_1234 = λ device. refl;
      read_7_fff = λ device. refl;
      read_0080 = λ device. refl;
      write_abcd = λ device. refl;
      reach_0_a = λ b60. refl;
      reach_09 = λ b60. refl;
      rate_66 = λ b14 b15 b60. refl;
      cable_0_c = λ b3 b6 b12 b14 b15 b60. rw or_true;
      sr_sx = λ b12 b14 b15 b60. refl;
      lr_sx = λ b12 b14 b15 b60. refl;
    }
