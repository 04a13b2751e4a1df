-- Where an identification stands: the byte that is requested, and what is left of the call once it was read.
use Rattle.std.specs.Prelude.{ℕ, ◌+◌, ◌*◌, ◌-◌, ◌≤◌, ◌≡◌, Bool, true, false, ◌||◌, eqb, leb, ltb, Result}
use Rattle.hardware.specs.declared.Port.{Port}
use Rattle.hardware.specs.Failures.{failure_of}
use Rattle.hardware.specs.Prog.{Prog, ret, R, Ok, Err, pick}
use Rattle.bus.specs.declared.Taken.{Taken}
use Rattle.transfer.specs.declared.attempt.Sequence.{Sequence}
use Rattle.i2c.specs.declared.once.Request.{Request}
use Rattle.i2c.specs.declared.once.Request.TheVariants.{ReadByte}
use Rattle.i2c.specs.I2c.{attempts}
use Rattle.i2c.specs.Handshake.{valued}
use Rattle.sfp.specs.declared.Codes.{Codes}
use Rattle.sfp.specs.declared.Kind.TheVariants.{DaActiveLimiting, Unknown}
use Rattle.sfp.specs.declared.Identity.{Identity}
use Rattle.sfp.specs.Classes.{has, SFP, LIMITING}
use Rattle.sfp.specs.Identify.{EEPROM, or_absent, byte, identifier_of, reach_of, kind_by, recorded, classify, identified}
use Rattle.sfp.specs.Qsfp.{qsfp_technology, qsfp_length, qsfp_connector, qsfp_classify, qsfp_identified}
use Rattle.identify.specs.declared.place.Place.{Place}
use Rattle.identify.specs.declared.place.Place.TheVariants.{Identifier, Comp1g, Comp10g, Cable, Rate, Km, Hm, Active, QsfpIdentifier, Qsfp10g, Qsfp1g, QsfpConnector, QsfpLength, QsfpTechnology}
use Rattle.identify.specs.declared.place.Row.{Row}
use Rattle.hardware.specs.declared.Error.{Error}
use Rattle.hardware.specs.declared.Next.{Next}
use Rattle.hardware.specs.declared.Next.TheVariants.{Going, End}
use Rattle.hardware.specs.Registers.{reply}

-- of a place: the byte's offset; the most readings of byte 0, and how many of them are left; the requests after byte 0, this
-- one among them
abbrev row : ℕ → ℕ → ℕ → ℕ → Row
row offset readings left requests = record { 0 = offset; 1 = readings; 2 = left; 3 = requests }

abbrev pub row_at : Place → Row
row_at (Identifier left) = row 0 5 left 0
row_at Comp1g = row 6 5 0 1
row_at (Comp10g g1) = row 3 5 0 2
row_at (Cable g1 g10) = row 8 5 0 3
row_at (Rate c) = row 12 5 0 4
row_at (Km c) = row 14 5 0 5
row_at (Hm c km) = row 15 5 0 6
row_at (Active c) = row 60 5 0 7
row_at QsfpIdentifier = row 0 1 0 0
row_at Qsfp10g = row 0x83 1 0 1
row_at (Qsfp1g g10) = row 0x86 1 0 2
row_at (QsfpConnector g10 g1) = row 0x82 1 0 3
row_at (QsfpLength g10 g1) = row 0x92 1 0 4
row_at (QsfpTechnology g10 g1) = row 0x93 1 0 5

abbrev pub offset_at : Place → ℕ
offset_at p = (row_at p).0

-- the readings of byte 0, this one among them
abbrev pub readings_at : Place → ℕ
readings_at p = (row_at p).1 - (row_at p).2

abbrev pub requests_at : Place → ℕ
requests_at p = (row_at p).3

unfoldable pub request_at : Place → Request
request_at p = ReadByte EEPROM (offset_at p)

-- byte 0 gets the long probe's attempts
unfoldable pub tries_at : Port → Place → ℕ
tries_at port p = pick (eqb (requests_at p) 0) 11 (attempts port)

-- the most transfers of so many readings of byte 0 and so many requests after it
unfoldable pub most : Port → ℕ → ℕ → ℕ
most port readings requests = readings * 11 + requests * attempts port

-- ... up to this place's end
unfoldable pub cap_at : Port → Place → ℕ
cap_at port p = most port (readings_at p) (requests_at p)

-- byte 0 is requested at most five times, once at least
unfoldable pub valid_place : Place → Bool
valid_place p = ltb 0 (readings_at p)

-- the kind of an SFP once the 10G-BX test is decided
unfoldable pub kinded : Sequence → Port → Codes → Bool → Prog (R Identity)
kinded q port c bx = kind_by q port c bx (λ kind. ret (Ok (recorded SFP c kind)))

-- what is left once the byte was read
unfoldable pub on_at : Sequence → Port → Place → ℕ → Prog (R Identity)
on_at q port (Identifier left) v = pick (eqb v SFP) (identified q port v) (identifier_of q port left v (identified q port))
on_at q port Comp1g g1 =
    byte q port 3 (attempts port) (λ g10. byte q port 8 (attempts port) (λ cable. classify q port SFP (record { g1 = g1; g10 = g10; cable = cable })))
on_at q port (Comp10g g1) g10 = byte q port 8 (attempts port) (λ cable. classify q port SFP (record { g1 = g1; g10 = g10; cable = cable }))
on_at q port (Cable g1 g10) cable = classify q port SFP (record { g1 = g1; g10 = g10; cable = cable })
on_at q port (Rate c) rate = pick (eqb rate 0x67) (reach_of q port (kinded q port c)) (kinded q port c false)
on_at q port (Km c) km = byte q port 15 (attempts port) (λ hm. kinded q port c (ltb 0 km || leb 10 hm))
on_at q port (Hm c km) hm = kinded q port c (ltb 0 km || leb 10 hm)
on_at q port (Active c) v = ret (Ok (recorded SFP c (pick (has v LIMITING) DaActiveLimiting Unknown)))
on_at q port QsfpIdentifier v = qsfp_identified q port v
on_at q port Qsfp10g g10 = byte q port 0x86 (attempts port) (qsfp_classify q port g10)
on_at q port (Qsfp1g g10) g1 = qsfp_classify q port g10 g1
on_at q port (QsfpConnector g10 g1) v = qsfp_connector q port g10 g1 v
on_at q port (QsfpLength g10 g1) v = qsfp_length q port g10 g1 v
on_at q port (QsfpTechnology g10 g1) v = qsfp_technology g10 g1 v

-- ... or was not
unfoldable pub told_at : Sequence → Port → Place → R Taken → Prog (R Identity)
told_at q port p = valued (request_at p) (or_absent (on_at q port p))

-- from the request on
unfoldable pub placed : Sequence → Port → Place → Prog (R Identity)
placed q port p = byte q port (offset_at p) (tries_at port p) (on_at q port p)

unfoldable pub rest_then : Sequence → Port → Next Place (Result Identity Error) → Prog (R Identity)
rest_then q port (Going p) = placed q port p
rest_then q port (End r) = ret (reply r)

-- the next request has room for its attempts after n transfers
unfoldable pub Later : Port → ℕ → Next Place (Result Identity Error) → Type 0
Later port n (Going p) = (valid_place p ≡ true) × (n + tries_at port p ≤ cap_at port p)
Later port n (End r) = Unit {0}
