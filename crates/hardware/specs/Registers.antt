-- `read`, `write`, `flush` and the waits of the Rust's `hardware.rs`.
use Rattle.std.specs.Prelude.{ℕ, ◌*◌, ◌-◌, ◌^◌, Bool, Result, eqb}
use Rattle.std.specs.Int.Bits.{bit_and}
use Rattle.hardware.specs.declared.Access.TheVariants.{Read, Write, Wait}
use Rattle.hardware.specs.declared.Answer.{Answer}
use Rattle.hardware.specs.declared.Answer.TheVariants.{Value, Done, Failed}
use Rattle.hardware.specs.declared.Micros.{Micros}
use Rattle.hardware.specs.declared.Error.{Error}
use Rattle.hardware.specs.Failures.{Io, Removed, failure_of}
use Rattle.hardware.specs.Prog.{Prog, ret, ask, R, Ok, Err, pick}

abbrev pub STATUS : ℕ
STATUS = 0x00008

abbrev pub ESDP : ℕ
ESDP = 0x00020

-- the Rust's `!` of a 32-bit word
abbrev pub not32 : ℕ → ℕ
not32 x = (2 ^ 32 - 1) - x

-- v has none of the bits set
unfoldable pub none_of : ℕ → ℕ → Bool
none_of v bits = eqb (bit_and v bits) 0

-- a checked read: FFFFFFFF is Removed. An answer of another kind than the awaited counts as a failed access
unfoldable pub checked : Answer → R ℕ
checked (Value v) = pick (eqb v 0xFFFFFFFF) (Err Removed) (Ok v)
checked Done = Err Io
checked Failed = Err Io

unfoldable pub raw : Answer → R ℕ
raw (Value v) = Ok v
raw Done = Err Io
raw Failed = Err Io

unfoldable pub written : Answer → R (Unit {0})
written (Value v) = Err Io
written Done = Ok tt
written Failed = Err Io

unfoldable pub flushed : Answer → R (Unit {0})
flushed (Value v) = Ok tt
flushed Done = Err Io
flushed Failed = Err Io

abbrev pub read : ℕ → Prog (R ℕ)
read register = ask (Read register) (λ a. ret (checked a))

abbrev pub read_raw : ℕ → Prog (R ℕ)
read_raw register = ask (Read register) (λ a. ret (raw a))

abbrev pub write : ℕ → ℕ → Prog (R (Unit {0}))
write register v = ask (Write register v) (λ a. ret (written a))

abbrev pub flush : Prog (R (Unit {0}))
flush = ask (Read STATUS) (λ a. ret (flushed a))

abbrev pub micros : ℕ → Micros
micros n = record { 0 = n }

-- a wait in microseconds
abbrev pub delay : ℕ → Prog (R (Unit {0}))
delay us = ask (Wait (micros us)) (λ a. ret (Ok tt))

-- a wait in milliseconds, 1,000 microseconds each
abbrev pub delay_ms : ℕ → Prog (R (Unit {0}))
delay_ms ms = delay (ms * 1000)

-- what the code's result tells, its failure by number and values
unfoldable pub reply : {A : Type 0} → Result A Error → R A
reply (Ok v) = Ok v
reply (Err e) = Err (failure_of e)
