-- States of `hardware` as numbers, and back; back again nothing is lost. Written by `derive`.
use Rattle.std.specs.Prelude.{ℕ, Bool, ◌≡◌, refl, eqb, Result, Ok, Err}
use Rattle.flat.specs.Pick.{pick, bit, set, back_bit}
use Rattle.hardware.specs.declared.Family.{Family}
use Rattle.hardware.specs.declared.Family.TheVariants.{F82599 as FamilyF82599, X540 as FamilyX540, X550 as FamilyX550, X552 as FamilyX552, X553 as FamilyX553}
use Rattle.hardware.specs.declared.Port.{Port}
use Rattle.flat.specs.declared.of_hardware.PortFlat.{PortFlat}
use Rattle.hardware.specs.declared.Meter.{Meter}
use Rattle.flat.specs.declared.of_hardware.MeterFlat.{MeterFlat}
use Rattle.hardware.specs.declared.Update.{Update}
use Rattle.hardware.specs.declared.Update.TheVariants.{Reading as UpdateReading, Writing as UpdateWriting, Flushing as UpdateFlushing}
use Rattle.flat.specs.declared.of_hardware.UpdateFlat.{UpdateFlat}
use Rattle.hardware.specs.declared.poll.Poll.{Poll}
use Rattle.hardware.specs.declared.poll.Poll.TheVariants.{Reading as PollReading, Waiting as PollWaiting}
use Rattle.flat.specs.declared.of_hardware.PollFlat.{PollFlat}
use Rattle.hardware.specs.declared.Error.{Error}
use Rattle.hardware.specs.declared.Error.TheVariants.{Io as ErrorIo, Removed as ErrorRemoved, Semaphore as ErrorSemaphore, I2c as ErrorI2c, HostInterface as ErrorHostInterface, Firmware as ErrorFirmware}
use Rattle.flat.specs.declared.of_hardware.ErrorFlat.{ErrorFlat}
use Rattle.flat.specs.declared.of_hardware.OutcomeFlat.{OutcomeFlat}
use Rattle.flat.specs.declared.of_hardware.ByteFlat.{ByteFlat}
use Rattle.flat.specs.declared.of_hardware.FlagFlat.{FlagFlat}

unfoldable pub flat_family : Family → ℕ
flat_family FamilyF82599 = 0
flat_family FamilyX540 = 1
flat_family FamilyX550 = 2
flat_family FamilyX552 = 3
flat_family FamilyX553 = 4

unfoldable pub the_family : ℕ → Family
the_family b =
    pick (eqb b 0) (FamilyF82599)
    (pick (eqb b 1) (FamilyX540)
    (pick (eqb b 2) (FamilyX550)
    (pick (eqb b 3) (FamilyX552)
    (FamilyX553))))

pub back_family : (s : Family) → the_family (flat_family s) ≡ s
unfolding flat_family the_family
back_family FamilyF82599 = refl
back_family FamilyX540 = refl
back_family FamilyX550 = refl
back_family FamilyX552 = refl
back_family FamilyX553 = refl

unfoldable pub flat_port : Port → PortFlat
flat_port s = record { b0 = flat_family s.family; b1 = s.lan; h0 = s.device }

unfoldable pub the_port : PortFlat → Port
the_port b = record { family = the_family b.b0; device = b.h0; lan = b.b1 }

pub back_port : (s : Port) → the_port (flat_port s) ≡ s
unfolding flat_port the_port
back_port s = λ i. record { family = back_family s.family i; device = s.device; lan = s.lan }

unfoldable pub flat_meter : Meter → MeterFlat
flat_meter s = record { b0 = s.slowest; w0 = s.transfers }

unfoldable pub the_meter : MeterFlat → Meter
the_meter b = record { transfers = b.w0; slowest = b.b0 }

pub back_meter : (s : Meter) → the_meter (flat_meter s) ≡ s
unfolding flat_meter the_meter
back_meter s = refl

unfoldable pub flat_update : Update → UpdateFlat
flat_update UpdateReading = record { tag = 0; w0 = 0 }
flat_update (UpdateWriting x0) = record { tag = 1; w0 = x0 }
flat_update UpdateFlushing = record { tag = 2; w0 = 0 }

unfoldable pub the_update : UpdateFlat → Update
the_update b =
    pick (eqb b.tag 0) (UpdateReading)
    (pick (eqb b.tag 1) (UpdateWriting b.w0)
    (UpdateFlushing))

pub back_update : (s : Update) → the_update (flat_update s) ≡ s
unfolding flat_update the_update
back_update UpdateReading = refl
back_update (UpdateWriting x0) = refl
back_update UpdateFlushing = refl

unfoldable pub flat_poll : Poll → PollFlat
flat_poll (PollReading x0) = record { tag = 0; w0 = x0; w1 = 0 }
flat_poll (PollWaiting x0 x1) = record { tag = 1; w0 = x0; w1 = x1 }

unfoldable pub the_poll : PollFlat → Poll
the_poll b =
    pick (eqb b.tag 0) (PollReading b.w0)
    (PollWaiting b.w0 b.w1)

pub back_poll : (s : Poll) → the_poll (flat_poll s) ≡ s
unfolding flat_poll the_poll
back_poll (PollReading x0) = refl
back_poll (PollWaiting x0 x1) = refl

unfoldable pub flat_error : Error → ErrorFlat
flat_error ErrorIo = record { tag = 0; b1 = 0; b2 = 0; w0 = 0 }
flat_error ErrorRemoved = record { tag = 1; b1 = 0; b2 = 0; w0 = 0 }
flat_error (ErrorSemaphore x0) = record { tag = 2; b1 = 0; b2 = 0; w0 = x0 }
flat_error (ErrorI2c x0) = record { tag = 3; b1 = x0; b2 = 0; w0 = 0 }
flat_error (ErrorHostInterface x0) = record { tag = 4; b1 = 0; b2 = 0; w0 = x0 }
flat_error (ErrorFirmware x0 x1) = record { tag = 5; b1 = x0; b2 = x1; w0 = 0 }

unfoldable pub the_error : ErrorFlat → Error
the_error b =
    pick (eqb b.tag 0) (ErrorIo)
    (pick (eqb b.tag 1) (ErrorRemoved)
    (pick (eqb b.tag 2) (ErrorSemaphore b.w0)
    (pick (eqb b.tag 3) (ErrorI2c b.b1)
    (pick (eqb b.tag 4) (ErrorHostInterface b.w0)
    (ErrorFirmware b.b1 b.b2)))))

pub back_error : (s : Error) → the_error (flat_error s) ≡ s
unfolding flat_error the_error
back_error ErrorIo = refl
back_error ErrorRemoved = refl
back_error (ErrorSemaphore x0) = refl
back_error (ErrorI2c x0) = refl
back_error (ErrorHostInterface x0) = refl
back_error (ErrorFirmware x0 x1) = refl

unfoldable pub flat_outcome : (Result (Unit {0}) Error) → OutcomeFlat
flat_outcome (Ok tt) = record { tag = 0; b1 = 0; b2 = 0; b3 = 0; w0 = 0 }
flat_outcome (Err x0) = record { tag = 1; b1 = (flat_error x0).tag; b2 = (flat_error x0).b1; b3 = (flat_error x0).b2; w0 = (flat_error x0).w0 }

unfoldable pub the_outcome : OutcomeFlat → Result (Unit {0}) Error
the_outcome b =
    pick (eqb b.tag 0) (Ok tt)
    (Err (the_error (record { tag = b.b1; b1 = b.b2; b2 = b.b3; w0 = b.w0 })))

pub back_outcome : (s : Result (Unit {0}) Error) → the_outcome (flat_outcome s) ≡ s
unfolding flat_outcome the_outcome
back_outcome (Ok tt) = refl
back_outcome (Err x0) = λ i. Err (back_error x0 i)

unfoldable pub flat_byte : (Result ℕ Error) → ByteFlat
flat_byte (Ok x0) = record { tag = 0; b1 = x0; b2 = 0; b3 = 0; w0 = 0 }
flat_byte (Err x0) = record { tag = 1; b1 = (flat_error x0).tag; b2 = (flat_error x0).b1; b3 = (flat_error x0).b2; w0 = (flat_error x0).w0 }

unfoldable pub the_byte : ByteFlat → Result ℕ Error
the_byte b =
    pick (eqb b.tag 0) (Ok b.b1)
    (Err (the_error (record { tag = b.b1; b1 = b.b2; b2 = b.b3; w0 = b.w0 })))

pub back_byte : (s : Result ℕ Error) → the_byte (flat_byte s) ≡ s
unfolding flat_byte the_byte
back_byte (Ok x0) = refl
back_byte (Err x0) = λ i. Err (back_error x0 i)

unfoldable pub flat_flag : (Result Bool Error) → FlagFlat
flat_flag (Ok x0) = record { tag = 0; b1 = bit x0; b2 = 0; b3 = 0; w0 = 0 }
flat_flag (Err x0) = record { tag = 1; b1 = (flat_error x0).tag; b2 = (flat_error x0).b1; b3 = (flat_error x0).b2; w0 = (flat_error x0).w0 }

unfoldable pub the_flag : FlagFlat → Result Bool Error
the_flag b =
    pick (eqb b.tag 0) (Ok (set b.b1))
    (Err (the_error (record { tag = b.b1; b1 = b.b2; b2 = b.b3; w0 = b.w0 })))

pub back_flag : (s : Result Bool Error) → the_flag (flat_flag s) ≡ s
unfolding flat_flag the_flag
back_flag (Ok x0) = λ i. Ok (back_bit x0 i)
back_flag (Err x0) = λ i. Err (back_error x0 i)
