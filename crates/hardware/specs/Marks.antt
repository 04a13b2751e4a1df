-- What a machine says with the access that it awaits, and what a call's meter makes of it.
use Rattle.std.specs.Prelude.{ℕ, ◌-◌, suc, max, Bool, true, false, leb, ltb}
use Rattle.hardware.specs.declared.Marks.{Marks}
use Rattle.hardware.specs.declared.Meter.{Meter}
use Rattle.hardware.specs.declared.Port.{Port}
use Rattle.hardware.specs.Asked.{valid_port}
use Rattle.hardware.specs.Prog.{Prog, Attempt, Acknowledged, note_if, pick}

abbrev pub unmarked : Marks
unmarked = record { attempt = false; left = 10 }

abbrev pub attempt_begins : Marks
attempt_begins = record { attempt = true; left = 10 }

-- a byte was acknowledged, with so many samples left
abbrev pub hears : ℕ → Marks
hears left = record { attempt = false; left = left }

-- p, before which a byte was acknowledged with so many of the ten samples left; with ten left none was
unfoldable pub acknowledged : {A : Type 0} → ℕ → Prog A → Prog A
acknowledged left p = note_if (ltb left 10) (Acknowledged (10 - left)) p

-- p, with what the marks tell noted before it
unfoldable pub marked : {A : Type 0} → Marks → Prog A → Prog A
marked k p = note_if k.attempt Attempt (acknowledged k.left p)

-- one more where an attempt begins
unfoldable pub more : Bool → ℕ → ℕ
more begins n = pick begins (suc n) n

-- the greatest count that a meter holds
abbrev pub FULL : ℕ
FULL = 4294967295

-- at the top of its type, which no count within its limit is near, a count stays
unfoldable pub count_of : Bool → ℕ → ℕ
count_of begins n = pick (ltb n FULL) (more begins n) n

-- the meter after the marks
unfoldable pub meter_on : Marks → Meter → Meter
meter_on k m = record { transfers = count_of k.attempt m.transfers; slowest = max m.slowest (10 - k.left) }

-- what every call's state holds: the port is one that an opening gives, and the meter's sample one of ten, or none
unfoldable pub valid_held : Port → Meter → Bool
valid_held port m = pick (valid_port port) (leb m.slowest 10) false
