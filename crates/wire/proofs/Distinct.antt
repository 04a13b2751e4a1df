-- Both layouts are as the laws of the line calls need them.
use mathlib.Core.Path.{refl}
use lib.Dec.{lit<}
use Rattle.hardware.specs.declared.Family.{Family}
use Rattle.hardware.specs.declared.Family.TheVariants.{F82599, X540, X550, X552, X553}
use Rattle.hardware.specs.Prog.{pick}
use Rattle.bus.specs.Layout.{L82599, LX552, x550em, layout_of}
use Rattle.wire.specs.Bits.{absent, at}
use Rattle.wire.specs.Lines.{Distinct}

pub distinct_82599 : Distinct L82599
distinct_82599 =
    record {
      bits = (at 0 (lit< tt), (at 1 (lit< tt), (at 2 (lit< tt), (at 3 (lit< tt), (absent, (absent, (absent, tt)))))));
      apart = tt;
      sdain = refl;
      sclin = refl;
      sdaout = refl;
      sclout = refl;
      sdaoen = refl;
      scloen = refl;
      reg = refl;
    }

pub distinct_x552 : Distinct LX552
distinct_x552 =
    record {
      bits = (at 14 (lit< tt), (at 9 (lit< tt), (at 12 (lit< tt), (at 10 (lit< tt), (at 11 (lit< tt), (at 13 (lit< tt), (at 8 (lit< tt), tt)))))));
      apart = tt;
      sdain = refl;
      sclin = refl;
      sdaout = refl;
      sclout = refl;
      sdaoen = refl;
      scloen = refl;
      reg = refl;
    }

pub distinct : (f : Family) → Distinct (layout_of f)
unfolding layout_of x550em pick
distinct F82599 = distinct_82599
distinct X540 = distinct_82599
distinct X550 = distinct_82599
distinct X552 = distinct_x552
distinct X553 = distinct_x552
