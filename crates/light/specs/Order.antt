-- The order of the reads as the papers have it, and the places of what is read in SFF-8472's pages.
use Rattle.std.specs.Prelude.{ℕ, suc, zero, List, [], ◌∷◌, ◌++◌}
use Rattle.hardware.specs.declared.Answer.{Answer}
use Rattle.hardware.specs.declared.Port.{Port}
use Rattle.hardware.specs.Failures.{Failure}
use Rattle.hardware.specs.Prog.{Prog, ret, R, Ok, Err, pick, ◌>>?◌}
use Rattle.hardware.specs.Registers.{none_of}
use Rattle.hardware.specs.Runs.{EndsOver}
use Rattle.transfer.specs.declared.attempt.Sequence.{Sequence}
use Rattle.i2c.specs.declared.once.Request.TheVariants.{ReadByte}
use Rattle.i2c.specs.I2c.{locked, transferred}
use Rattle.sfp.specs.Classes.{Bytes}
use Rattle.sfp.specs.Identify.{EEPROM}
use Rattle.sfp.specs.Rate.{DIAG}
use Rattle.light.specs.declared.power.Patterns.{Patterns}
use Rattle.light.specs.declared.power.Reading.{Reading}
use Rattle.light.specs.declared.sensed.Sensed.{Sensed}
use Rattle.light.specs.declared.sensed.Measures.{Measures}
use Rattle.light.specs.Sensed.{EXTERNAL, MONITORED, fresh, measured, taken}
use Rattle.light.specs.Words.{pattern_of, temperature_of, word_of}

-- a byte by one locked `read_byte`; a failed one ends the call
unfoldable pub read : Sequence → Port → ℕ → ℕ → ℕ → (ℕ → Prog (R Measures)) → Prog (R Measures)
read q port tries device offset k = transferred port (ReadByte device offset) (locked q) tries >>? k

-- n bytes from one on, in rising order
unfoldable pub reads : Sequence → Port → ℕ → ℕ → ℕ → ℕ → (List ℕ → Prog (R Measures)) → Prog (R Measures)
reads q port tries device offset zero k = k []
reads q port tries device offset (suc n) k = read q port tries device offset (λ byte. reads q port tries device (suc offset) n (λ bytes. k (byte ∷ bytes)))

-- bytes in the order of their reading, of n that are left
unfoldable pub taken_all : Sensed → ℕ → List ℕ → Sensed
taken_all s n [] = s
taken_all s zero (byte ∷ bytes) = s
taken_all s (suc left) (byte ∷ bytes) = taken_all (taken s left byte) left bytes

-- kind: byte 92 of A0. values: bytes 96 to 105 of A2. coefficients: its bytes 56 to 75
unfoldable pub sensed_of : ℕ → List ℕ → List ℕ → Sensed
sensed_of kind values coefficients = taken_all (taken_all (taken fresh 30 kind) 30 values) 20 coefficients

-- Byte 92 is read first. Bit 6 clear: nothing more is read. Else bytes 96 to 105. Bit 4 clear: nothing more. Else bytes 56 to 75
unfoldable pub light_read : Sequence → Port → ℕ → Prog (R Measures)
light_read q port tries =
    read q port tries EEPROM 92 (λ kind.
    pick (none_of kind MONITORED) (ret (measured (sensed_of kind [] [])))
    (reads q port tries DIAG 96 10 (λ values.
    pick (none_of kind EXTERNAL) (ret (measured (sensed_of kind values [])))
    (reads q port tries DIAG 56 20 (λ coefficients.
    ret (measured (sensed_of kind values coefficients)))))))

-- n bytes of a page from one on
unfoldable pub span : Bytes → ℕ → ℕ → List ℕ
span page offset zero = []
span page offset (suc n) = page offset ∷ span page (suc offset) n

-- the places of SFF-8472's page A2: the other four values beside a reading, the raw count of received power, and the coefficients
unfoldable pub measures_at : Bytes → Reading → Measures
measures_at a2 reading = record {
  temperature = temperature_of (a2 96) (a2 97);
  voltage = word_of (a2 98) (a2 99);
  bias = word_of (a2 100) (a2 101);
  sent = word_of (a2 102) (a2 103);
  reading = reading;
}

abbrev pub received_at : Bytes → ℕ
received_at a2 = word_of (a2 104) (a2 105)

unfoldable pub patterns_at : Bytes → Patterns
patterns_at a2 = record {
  c4 = pattern_of (a2 56) (a2 57) (a2 58) (a2 59);
  c3 = pattern_of (a2 60) (a2 61) (a2 62) (a2 63);
  c2 = pattern_of (a2 64) (a2 65) (a2 66) (a2 67);
  c1 = pattern_of (a2 68) (a2 69) (a2 70) (a2 71);
  c0 = pattern_of (a2 72) (a2 73) (a2 74) (a2 75);
}

-- all that is read of it
unfoldable pub placed : ℕ → Bytes → Patterns → Sensed
placed kind a2 patterns = record {
  kind = kind;
  temperature = word_of (a2 96) (a2 97);
  voltage = word_of (a2 98) (a2 99);
  bias = word_of (a2 100) (a2 101);
  sent = word_of (a2 102) (a2 103);
  received = received_at a2;
  patterns = patterns;
}

-- over these answers, all of them needed, the reads of bytes from one on succeed one after another, and bring these bytes
pub data Brings (q : Sequence) (port : Port) (tries device : ℕ) : ℕ → List Answer → List ℕ → Type 0 where
  none : (offset : ℕ) → Brings q port tries device offset [] []
  one : (offset byte : ℕ) (l m : List Answer) (bytes : List ℕ) → EndsOver (transferred port (ReadByte device offset) (locked q) tries) l (Ok byte)
      → Brings q port tries device (suc offset) m bytes → Brings q port tries device offset (l ++ m) (byte ∷ bytes)

-- over these answers, all of them needed, of n bytes from one on one fails so, after those before it were read
pub data Fails (q : Sequence) (port : Port) (tries device : ℕ) : ℕ → ℕ → List Answer → Failure → Type 0 where
  here : (offset n : ℕ) (l : List Answer) (e : Failure) → EndsOver (transferred port (ReadByte device offset) (locked q) tries) l (Err e)
      → Fails q port tries device offset (suc n) l e
  later : (offset n byte : ℕ) (l m : List Answer) (e : Failure) → EndsOver (transferred port (ReadByte device offset) (locked q) tries) l (Ok byte)
      → Fails q port tries device (suc offset) n m e → Fails q port tries device offset (suc n) (l ++ m) e
