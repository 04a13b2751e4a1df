-- How many accesses the line calls, the commands and the clearing sequences make at most.
use Rattle.std.specs.Prelude.{ℕ, ◌+◌, ◌*◌}

-- a write and a flush
abbrev pub PUT_STEPS : ℕ
PUT_STEPS = 2

abbrev pub GET_STEPS : ℕ
GET_STEPS = 1

abbrev pub WAIT_STEPS : ℕ
WAIT_STEPS = 1

-- a try of SCL: a word is put, a wait and a read
abbrev pub SCL_TRY_STEPS : ℕ
SCL_TRY_STEPS = PUT_STEPS + WAIT_STEPS + GET_STEPS

-- 500 tries at most
abbrev pub SCL_HIGH_STEPS : ℕ
SCL_HIGH_STEPS = 500 * SCL_TRY_STEPS

abbrev pub SCL_LOW_STEPS : ℕ
SCL_LOW_STEPS = PUT_STEPS + WAIT_STEPS

-- SDA pulled low
abbrev pub SDA_LOW_STEPS : ℕ
SDA_LOW_STEPS = PUT_STEPS + WAIT_STEPS

-- SDA released and looked at; the second word is put on the X552 and X553 only
abbrev pub SDA_STEPS : ℕ
SDA_STEPS = PUT_STEPS + WAIT_STEPS + (PUT_STEPS + GET_STEPS)

abbrev pub RELEASE_SDA_STEPS : ℕ
RELEASE_SDA_STEPS = PUT_STEPS + WAIT_STEPS

abbrev pub START_STEPS : ℕ
START_STEPS = GET_STEPS + SDA_STEPS + SCL_HIGH_STEPS + WAIT_STEPS + SDA_LOW_STEPS + WAIT_STEPS + SCL_LOW_STEPS + WAIT_STEPS

-- the last word is put on the X552 and X553 only
abbrev pub STOP_STEPS : ℕ
STOP_STEPS = SDA_LOW_STEPS + SCL_HIGH_STEPS + WAIT_STEPS + SDA_STEPS + WAIT_STEPS + PUT_STEPS

-- SCL high, a wait, SCL low and a wait
abbrev pub PULSE_STEPS : ℕ
PULSE_STEPS = SCL_HIGH_STEPS + WAIT_STEPS + SCL_LOW_STEPS + WAIT_STEPS

abbrev pub OUT_BIT_STEPS : ℕ
OUT_BIT_STEPS = SDA_STEPS + PULSE_STEPS

-- a pulse with SDA released and read while SCL is high
abbrev pub IN_BIT_STEPS : ℕ
IN_BIT_STEPS = RELEASE_SDA_STEPS + SCL_HIGH_STEPS + WAIT_STEPS + GET_STEPS + SCL_LOW_STEPS + WAIT_STEPS

abbrev pub IN_BYTE_STEPS : ℕ
IN_BYTE_STEPS = 8 * IN_BIT_STEPS

-- ten samples at most, each a read and a wait
abbrev pub ACK_STEPS : ℕ
ACK_STEPS = 10 * (GET_STEPS + WAIT_STEPS)

-- eight bits, SDA released, and the acknowledgement
abbrev pub SEND_STEPS : ℕ
SEND_STEPS = 8 * OUT_BIT_STEPS + (RELEASE_SDA_STEPS + SCL_HIGH_STEPS + WAIT_STEPS + ACK_STEPS + SCL_LOW_STEPS + WAIT_STEPS)

-- SDA released and nine pulses
abbrev pub FREE_STEPS : ℕ
FREE_STEPS = RELEASE_SDA_STEPS + 9 * PULSE_STEPS

-- a start, the pulses, a start and a stop
abbrev pub CLEAR_STEPS : ℕ
CLEAR_STEPS = START_STEPS + FREE_STEPS + START_STEPS + STOP_STEPS

-- SCL raised, SDA read, and SCL lowered
abbrev pub ROUND_STEPS : ℕ
ROUND_STEPS = SCL_HIGH_STEPS + WAIT_STEPS + GET_STEPS + SCL_LOW_STEPS + WAIT_STEPS

-- SDA pulled before SCL is lowered in a round, and the stop behind it
abbrev pub FINISH_STEPS : ℕ
FINISH_STEPS = SDA_LOW_STEPS + WAIT_STEPS + STOP_STEPS

-- SDA released and ten rounds
abbrev pub CLEAR_ROUNDS_STEPS : ℕ
CLEAR_ROUNDS_STEPS = RELEASE_SDA_STEPS + (10 * ROUND_STEPS + FINISH_STEPS)

-- no line call makes more than that of SCL
abbrev pub CALL_STEPS : ℕ
CALL_STEPS = SCL_HIGH_STEPS

-- no command has more than 53 line calls
abbrev pub JOB_STEPS : ℕ
JOB_STEPS = 53 * CALL_STEPS
