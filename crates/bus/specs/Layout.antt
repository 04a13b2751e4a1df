-- I2CCTL's two layouts, as `L82599` and `LX552` of `i2c.rs` have them: bit positions.
use Rattle.std.specs.Prelude.{◌^◌, Bool, true, false}
use Rattle.hardware.specs.declared.Family.{Family}
use Rattle.hardware.specs.declared.Family.TheVariants.{F82599, X540, X550, X552, X553}
use Rattle.hardware.specs.Prog.{pick}
use Rattle.bus.specs.declared.Layout.{Layout}

-- the shared code's X550EM
unfoldable pub x550em : Family → Bool
x550em F82599 = false
x550em X540 = false
x550em X550 = false
x550em X552 = true
x550em X553 = true

abbrev pub L82599 : Layout
L82599 =
    record {
      reg = 0x00028;
      sclin = 2 ^ 0;
      sclout = 2 ^ 1;
      sdain = 2 ^ 2;
      sdaout = 2 ^ 3;
      sdaoen = 0;
      scloen = 0;
      bben = 0;
    }

abbrev pub LX552 : Layout
LX552 =
    record {
      reg = 0x15F5C;
      sclin = 2 ^ 14;
      sclout = 2 ^ 9;
      sdain = 2 ^ 12;
      sdaout = 2 ^ 10;
      sdaoen = 2 ^ 11;
      scloen = 2 ^ 13;
      bben = 2 ^ 8;
    }

unfoldable pub layout_of : Family → Layout
layout_of family = pick (x550em family) LX552 L82599
