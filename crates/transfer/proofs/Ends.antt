-- How many answers of the awaited kinds bring commands, transfers and attempts to their end, for every layout, device
-- and control word. The numbers are accesses.
use Prim.Native.Nat.{ℕ, ◌+◌, ◌*◌, ◌-◌, ◌≤◌, suc, zero}
use mathlib.Core.Path.{◌≡◌, refl, sym}
use mathlib.Core.List.{List, [], ◌∷◌}
use lib.ListN.{length, drop, length-drop}
use native.Mathlib.Omega.{arith}
use Rattle.hardware.specs.Prog.{Prog, ret, ask, note, give, R, Ok, Err, or_err, pick, ◌>>=◌}
use Rattle.hardware.specs.Runs.{Ends, Awaited, run, on_answer}
use Rattle.hardware.proofs.Ends.{ends_more, ends_bind, ends_try, ends_pick, ret_ends, note_ends, read_raw_ends, ends_or}
use Rattle.bus.specs.declared.Layout.{Layout}
use Rattle.bus.specs.declared.Taken.{Taken}
use Rattle.bus.specs.declared.command.Command.{Command}
use Rattle.bus.specs.declared.command.Command.TheVariants.{Start, Send, Read, Stop, Free}
use Rattle.hardware.specs.Failures.{Failure, I2c}
use Rattle.bus.specs.Bus.{Bus, none, fail, or_held, flushing, put, get, wait, look, look_seen, sda, sda_free, sda_seen, start}
use Rattle.bus.specs.Layout.{L82599}
use Rattle.bus.specs.Steps.{PUT_STEPS, GET_STEPS, WAIT_STEPS, SEND_STEPS, CLEAR_STEPS, CLEAR_ROUNDS_STEPS}
use Rattle.bus.proofs.Ends.{EndsBus, bus_more, done_ends, fail_ends, Words, any_words, no_words, look_ends, sda_by, clear_by, clear_rounds_by, start_ends, send_ends, in_byte_ends, out_bit_ends, stop_ends, free_ends, clear_ends, clear_rounds_ends, job_after, clear_after, job_rest_ends, clear_rest_ends}
use Rattle.transfer.specs.declared.attempt.Sequence.{Sequence}
use Rattle.transfer.specs.declared.attempt.Sequence.TheVariants.{Pulses, Rounds}
use Rattle.transfer.specs.Transfer.{Mode, handing, keeping, tells, did, took_by, handed, transfer, ran_on, rest_transfer}
use Rattle.transfer.specs.Attempt.{clearing, or_cleared, cleared, or_tried, tried, begun, attempting, attempt, rest_attempt}
use mathlib.Core.Bool.{Bool, true, false, true≢false}
use Rattle.hardware.specs.Registers.{none_of, raw, written, flushed}
use lib.Bits.{bit_or}
use lib.Dec.{eqb, ltb}
use borrow.Author.Tests.{ltb-true, ltb-false}
use Rattle.hardware.specs.declared.Access.{Access}
use Rattle.hardware.specs.declared.Answer.{Answer}
use Rattle.script.specs.Script.{commands, next_at}
use Rattle.script.proofs.Laws.{commands_length, next_after_lem}
use Rattle.transfer.specs.declared.transfer.Transfer.{Transfer}
use Rattle.transfer.specs.declared.attempt.Attempt.{Attempt}
use Rattle.transfer.specs.declared.attempt.Attempt.TheVariants.{New, Moving, Clearing}

-- the longest command sends a byte
abbrev pub COMMAND_STEPS : ℕ
COMMAND_STEPS = SEND_STEPS

-- a clearing sequence
abbrev pub CLEARING_STEPS : Sequence → ℕ
CLEARING_STEPS Pulses = CLEAR_STEPS
CLEARING_STEPS Rounds = CLEAR_ROUNDS_STEPS

-- I2CCTL read, n accesses on the bus, and the clearing after a failure
abbrev pub ATTEMPT_STEPS : ℕ → ℕ
ATTEMPT_STEPS n = 1 + n + CLEAR_STEPS

pub command_steps : COMMAND_STEPS ≡ 18116
command_steps = refl

pub attempt_steps : (count : ℕ) → ATTEMPT_STEPS (COMMAND_STEPS * count) ≡ 18116 * count + 24094
attempt_steps count = omega arith

-- a byte given out takes no answer
pub ends_tells : {A : Type 0} (m : Mode) (b : ℕ) (p : Prog A) (n : ℕ) → Ends p n → Ends (tells m b p) n
unfolding Ends tells
ends_tells keeping b p n e = e
ends_tells handing b (ret v) n e = e
ends_tells handing b (ask x f) n e = e
ends_tells handing b (note k p) n e = ends_tells handing b p n e
ends_tells handing b (give d p) n e = e

pub command_ends : (l : Layout) (device : ℕ) (c : Command) (k : ℕ → Bus) (n : ℕ) → ((b : ℕ) → EndsBus (k b) n)
    → EndsBus (did l device c k) (COMMAND_STEPS + n)
unfolding did
command_ends l device Start k n e = bus_more _ _ (COMMAND_STEPS + n) (start_ends l (k 0) n (e 0)) (omega arith)
command_ends l device (Send value) k n e = send_ends l device value (k 0) n (e 0)
command_ends l device (Read high) k n e =
    bus_more _ _ (COMMAND_STEPS + n) (in_byte_ends l _ _ (λ value. out_bit_ends l high (k value) n (e value))) (omega arith)
command_ends l device Stop k n e = bus_more _ _ (COMMAND_STEPS + n) (stop_ends l (k 0) n (e 0)) (omega arith)
command_ends l device (Free p) k n e = bus_more _ _ (COMMAND_STEPS + n) (free_ends l p k n e) (omega arith)

handed_ends : (m : Mode) (c : Command) (b : ℕ) (k : Bus) (n : ℕ) → EndsBus k n → EndsBus (handed m c b k) n
unfolding handed
handed_ends m c b k n e ctl = ends_pick _ _ _ n (ends_tells m b (k ctl) n (e ctl)) (e ctl)

pub transfer_ends : (m : Mode) (l : Layout) (device : ℕ) (cs : List Command) (t : Taken) → EndsBus (transfer m l device cs t) (COMMAND_STEPS * length cs)
unfolding transfer
transfer_ends m l device [] t = done_ends t _
transfer_ends m l device (c ∷ cs) t =
    bus_more _ _ (COMMAND_STEPS * length (c ∷ cs))
    (command_ends l device c _ (COMMAND_STEPS * length cs) (λ b. handed_ends m c b _ _ (transfer_ends m l device cs (took_by c t b))))
    (omega arith)

pub clearing_ends : (q : Sequence) (l : Layout) → EndsBus (clearing q l) (CLEARING_STEPS q)
unfolding clearing
clearing_ends Pulses l = clear_ends l
clearing_ends Rounds l = clear_rounds_ends l

-- no sequence takes more than that of the Rust
pub clearing_most : (q : Sequence) → CLEARING_STEPS q ≤ CLEAR_STEPS
clearing_most Pulses = omega arith
clearing_most Rounds = omega arith

or_cleared_ends : (device : ℕ) (r : R Taken) → Ends (or_cleared device r) 0
unfolding or_cleared
or_cleared_ends device (Ok t) = ret_ends _ 0
or_cleared_ends device (Err e) = ret_ends _ 0

-- n: the accesses of what the attempt does on the bus; c: those of the clearing
module _ (q : Sequence) (l : Layout) (device c : ℕ) (clears : EndsBus (clearing q l) c) where
  or_tried_by : (ctl : ℕ) (r : R Taken) → Ends (or_tried q l device ctl r) c
  unfolding or_tried cleared
  or_tried_by ctl (Ok t) = ret_ends _ c
  or_tried_by ctl (Err e) = ends_pick _ _ _ c (ends_more _ (c + 0) c (ends_bind _ _ c 0 (clears ctl) (λ h. or_cleared_ends device h.out)) (omega arith)) (ret_ends _ c)

  begun_by : (f : Bus) (n : ℕ) → EndsBus f n → (ctl : ℕ) → Ends (begun q l device f ctl) (n + c)
  unfolding begun tried
  begun_by f n e ctl = ends_bind _ _ n c (e ctl) (λ h. or_tried_by h.ctl h.out)

  attempt_by : (f : Bus) (n : ℕ) → EndsBus f n → Ends (attempt q l device f) (1 + n + c)
  unfolding attempt attempting
  attempt_by f n e = ends_more _ (1 + (n + c)) (1 + n + c) (note_ends _ _ _ (ends_try _ _ 1 (n + c) (read_raw_ends _) (begun_by f n e))) (omega arith)

or_tried_ends : (q : Sequence) (l : Layout) (device ctl : ℕ) (r : R Taken) → Ends (or_tried q l device ctl r) (CLEARING_STEPS q)
or_tried_ends q l device ctl r = or_tried_by q l device (CLEARING_STEPS q) (clearing_ends q l) ctl r

begun_ends : (q : Sequence) (l : Layout) (device : ℕ) (f : Bus) (n : ℕ) → EndsBus f n → (ctl : ℕ) → Ends (begun q l device f ctl) (n + CLEARING_STEPS q)
begun_ends q l device f n e ctl = begun_by q l device (CLEARING_STEPS q) (clearing_ends q l) f n e ctl

pub attempt_ends_by : (q : Sequence) (l : Layout) (device : ℕ) (f : Bus) (n : ℕ) → EndsBus f n → Ends (attempt q l device f) (1 + n + CLEARING_STEPS q)
attempt_ends_by q l device f n e = attempt_by q l device (CLEARING_STEPS q) (clearing_ends q l) f n e

-- with either sequence
pub attempt_ends : (q : Sequence) (l : Layout) (device : ℕ) (f : Bus) (n : ℕ) → EndsBus f n → Ends (attempt q l device f) (ATTEMPT_STEPS n)
attempt_ends q l device f n e = ends_more _ (1 + n + CLEARING_STEPS q) (ATTEMPT_STEPS n) (attempt_ends_by q l device f n e) (omega (arith, clearing_most q))

-- An attempt that fails at its first look. Where the answer at a position is a word, SDA is low in it
unfoldable pub LowAt : Layout → ℕ → List Answer → Type 0
LowAt l i [] = Unit {0}
LowAt l zero (a ∷ answers) = (v : ℕ) → raw a ≡ Ok v → none_of v l.sdain ≡ true
LowAt l (suc i) (a ∷ answers) = LowAt l i answers

-- a run over answers of the awaited kinds, SDA low in the one at i, makes at most n accesses
abbrev pub AtMost : {A : Type 0} → Layout → ℕ → Prog A → ℕ → Type 0
AtMost l i p n = (answers : List Answer) → Awaited p answers → LowAt l i answers → length (run p answers).accesses ≤ n

-- the accesses before the first look: I2CCTL is read by the attempt and by the start, a word is put, there is a wait, and on the X552's
-- layout a second word is put
abbrev pub LOOK_AT : Layout → ℕ
LOOK_AT l = suc (suc (suc (suc (suc (pick (eqb l.sdaoen 0) 0 2)))))

-- the further words in a clearing sequence, which the 82599's layout does not put: in each start, and two in a stop
abbrev WORDS : Sequence → ℕ
WORDS Pulses = 4
WORDS Rounds = 2

-- I2CCTL read, the start up to its look, and the clearing; m: the accesses of a further word
abbrev pub FIRST_LOOK_STEPS : Sequence → ℕ → ℕ
FIRST_LOOK_STEPS q m = GET_STEPS + (GET_STEPS + PUT_STEPS + WAIT_STEPS + m + GET_STEPS) + (CLEARING_STEPS q - WORDS q * PUT_STEPS + WORDS q * m)

ends_few : {A : Type 0} (p : Prog A) (n : ℕ) → Ends p n → (answers : List Answer) → Awaited p answers → length (run p answers).accesses ≤ n
unfolding Ends Awaited run on_answer
ends_few (ret v) n e answers w = omega arith
ends_few (ask x f) zero e answers w = absurd e
ends_few (ask x f) (suc n) e [] w = omega arith
ends_few (ask x f) (suc n) e (a ∷ answers) w = omega (arith, ends_few (f a) n (e a w.0) answers w.1)
ends_few (note k p) n e answers w = ends_few p n e answers w
ends_few (give b p) n e answers w = ends_few p n e answers w

asked : {A : Type 0} (l : Layout) (x : Access) (f : Answer → Prog A) (i n : ℕ) → ((a : Answer) → AtMost l i (f a) n) → AtMost l (suc i) (ask x f) (suc n)
unfolding LowAt Awaited run on_answer
asked l x f i n d [] w t = omega arith
asked l x f i n d (a ∷ answers) w t = omega (arith, d a answers w.1 t)

module _ (q : Sequence) (l : Layout) (device c : ℕ) (clears : EndsBus (clearing q l) c) where
  -- with what the attempt does after it; i accesses come before the look
  Left : ℕ → Bus → ℕ → Type 0
  Left i k n = (ctl : ℕ) → AtMost l i (k ctl >>= tried q l device) n

  fails : (e : Failure) (n : ℕ) → c ≤ n → (ctl : ℕ) (answers : List Answer) → Awaited (fail e ctl >>= tried q l device) answers
      → length (run (fail e ctl >>= tried q l device) answers).accesses ≤ n
  unfolding ◌>>=◌ tried
  fails e n h ctl answers w = ends_few (or_tried q l device ctl (Err e)) n (ends_more _ c n (or_tried_by q l device c clears ctl (Err e)) h) answers w

  held : {A : Type 0} (k : A → Bus) (i n : ℕ) → c ≤ n → ((a : A) → Left i (k a) n) → (ctl : ℕ) (r : R A) → AtMost l i (or_held k ctl r >>= tried q l device) n
  unfolding Left or_held
  held k i n h d ctl (Ok a) = d a ctl
  held k i n h d ctl (Err e) = λ answers w t. fails e n h ctl answers w

  puts : (k : Bus) (i n : ℕ) → c ≤ n → Left i k n → Left (suc (suc i)) (put l k) (suc (suc n))
  unfolding Left put flushing ◌>>=◌
  puts k i n h d ctl =
      asked l _ _ (suc i) (suc n) (λ a. held (λ _. flushing k) (suc i) (suc n) (omega arith)
      (λ _ ctl. asked l _ _ i n (λ b. held (λ _. k) i n h (λ _. d) ctl (flushed b))) ctl (written a))

  -- SDA is low: what was to come after the look plays no part
  looks : (k : Bus) (n : ℕ) → c ≤ n → Left zero (get l (sda_seen l k)) (suc n)
  unfolding Left LowAt Awaited get or_held sda_seen pick ◌>>=◌ run on_answer
  looks k n h ctl [] w t = omega arith
  looks k n h ctl (a ∷ answers) w t = omega (arith, by (raw a) t w.1)
    where
      seen : (b : Bool) → b ≡ true → Awaited (pick b (fail (I2c 0)) k ctl >>= tried q l device) answers
          → length (run (pick b (fail (I2c 0)) k ctl >>= tried q l device) answers).accesses ≤ n
      seen true e u = fails (I2c 0) n h ctl answers u
      seen false e u = absurd (true≢false (sym e))

      by : (r : R ℕ) → ((v : ℕ) → r ≡ Ok v → none_of v l.sdain ≡ true) → Awaited (or_held (sda_seen l k) ctl r >>= tried q l device) answers
          → length (run (or_held (sda_seen l k) ctl r >>= tried q l device) answers).accesses ≤ n
      by (Ok v) low u = seen (none_of v l.sdain) (low v refl) u
      by (Err e) low u = fails e n h ctl answers u

  frees : (m : ℕ) → Words l m → (k : Bus) → Left (pick (eqb l.sdaoen 0) 0 2) (sda_free l k) (suc (m + c))
  unfolding Left sda_free pick
  frees m h k ctl = by (eqb l.sdaoen 0) h.look
    where
      by : (b : Bool) → (b ≡ false → PUT_STEPS ≤ m)
          → AtMost l (pick b 0 2) (pick b (get l (sda_seen l k) ctl) (put l (get l (sda_seen l k)) (bit_or ctl l.sdaoen)) >>= tried q l device) (suc (m + c))
      by true g = looks k (m + c) (omega arith) ctl
      by false g = λ answers w t. omega (arith, g refl, puts (get l (sda_seen l k)) 0 (suc c) (omega arith) (looks k c (omega arith)) (bit_or ctl l.sdaoen) answers w t)

  releases : (m : ℕ) → Words l m → (k : Bus) → Left (suc (suc (suc (pick (eqb l.sdaoen 0) 0 2)))) (sda l true k) (suc (suc (suc (suc (m + c)))))
  unfolding Left sda wait ◌>>=◌
  releases m h k ctl = puts (wait 3 (sda_free l k)) _ (suc (suc (m + c))) (omega arith) (λ ctl. asked l _ _ _ _ (λ a. frees m h k ctl)) _

  reads : (k : Bus) (i n : ℕ) → c ≤ n → Left i k n → Left (suc i) (look l k) (suc n)
  unfolding Left look look_seen get ◌>>=◌
  reads k i n h d ctl = asked l _ _ i n (λ a. held (look_seen l k) i n h (λ v _. d (bit_or v l.bben)) ctl (raw a))

  begins : (k : Bus) (i n : ℕ) → Left i k n → (r : R ℕ) → AtMost l i (or_err (begun q l device k) r) n
  unfolding Left or_err begun run
  begins k i n d (Ok ctl) = d ctl
  begins k i n d (Err e) = λ answers w t. omega arith

  first_look_by : (m : ℕ) → Words l m → (k : Bus) → AtMost l (LOOK_AT l) (attempt q l device (look l (sda l true k))) (suc (suc (suc (suc (suc (suc (m + c)))))))
  unfolding attempt attempting ◌>>=◌ Awaited run
  first_look_by m h k = asked l _ (λ a. or_err (begun q l device (look l (sda l true k))) (raw a)) _ _ (λ a. begins (look l (sda l true k)) _ _ (reads (sda l true k) _ _ (omega arith) (releases m h k)) (raw a))

-- whatever comes after the start
pub first_look : (q : Sequence) (l : Layout) (m : ℕ) → Words l m → (device : ℕ) (k : Bus) → AtMost l (LOOK_AT l) (attempt q l device (start l k)) (FIRST_LOOK_STEPS q m)
unfolding clearing start
first_look Pulses l m h device k answers w t = omega (arith, first_look_by Pulses l device (24085 + 4 * m) (clear_by l m h) m h _ answers w t)
first_look Rounds l m h device k answers w t = omega (arith, first_look_by Rounds l device (22076 + 2 * m) (clear_rounds_by l m h) m h _ answers w t)

-- so of every list of commands that begins with a start
pub first_look_transfer : (q : Sequence) (l : Layout) (m : ℕ) → Words l m → (mode : Mode) (device : ℕ) (cs : List Command) (t : Taken)
    → AtMost l (LOOK_AT l) (attempt q l device (transfer mode l device (Start ∷ cs) t)) (FIRST_LOOK_STEPS q m)
unfolding transfer did
first_look_transfer q l m h mode device cs t = first_look q l m h device _

-- on the 82599's layout 24,091 and 22,082, on any 24,101 and 22,088
pub first_look_82599 : (q : Sequence) (device : ℕ) (k : Bus) → AtMost L82599 (LOOK_AT L82599) (attempt q L82599 device (start L82599 k)) (FIRST_LOOK_STEPS q 0)
first_look_82599 q device k = first_look q L82599 0 no_words device k

pub first_look_any : (q : Sequence) (l : Layout) (device : ℕ) (k : Bus) → AtMost l (LOOK_AT l) (attempt q l device (start l k)) (FIRST_LOOK_STEPS q PUT_STEPS)
first_look_any q l device k = first_look q l PUT_STEPS (any_words l) device k

pub first_look_steps : (FIRST_LOOK_STEPS Pulses 0 ≡ 24091) × (FIRST_LOOK_STEPS Rounds 0 ≡ 22082) × (FIRST_LOOK_STEPS Pulses PUT_STEPS ≡ 24101) × (FIRST_LOOK_STEPS Rounds PUT_STEPS ≡ 22088)
first_look_steps = (refl, refl, refl, refl)

-- an attempt at a list of commands
pub commands_ends : (m : Mode) (q : Sequence) (l : Layout) (device : ℕ) (cs : List Command) (t : Taken)
    → Ends (attempt q l device (transfer m l device cs t)) (ATTEMPT_STEPS (COMMAND_STEPS * length cs))
commands_ends m q l device cs t = attempt_ends q l device _ (COMMAND_STEPS * length cs) (transfer_ends m l device cs t)

-- the answers that each machine may still need after the one it awaits, whatever accepted script is lent: behind a position
-- it has at most 63 commands less the position
abbrev pub transfer_after : Transfer → ℕ
transfer_after t = job_after t.job + COMMAND_STEPS * (63 - t.at)

abbrev pub attempt_after : Attempt → ℕ
attempt_after New = COMMAND_STEPS * 64 + CLEAR_STEPS
attempt_after (Moving t) = transfer_after t + CLEAR_STEPS
attempt_after (Clearing c) = clear_after c

pub next_beyond : (s : List ℕ) (at : ℕ) → at ≤ next_at s at
unfolding next_at
next_beyond s at = omega arith

behind_few : (s : List ℕ) (at : ℕ) → length s ≤ 64 → length (commands (drop (next_at s at) s)) ≤ 63 - at
behind_few s at h = by (ltb at (length s)) refl
  where
    by : (b : Bool) → ltb at (length s) ≡ b → length (commands (drop (next_at s at) s)) ≤ 63 - at
    by true e = omega (arith, commands_length (drop (next_at s at) s), length-drop (next_at s at) s, next_after_lem s at (ltb-true at (length s) e), h)
    by false e = omega (arith, commands_length (drop (next_at s at) s), length-drop (next_at s at) s, next_beyond s at, ltb-false at (length s) e)

transfer_rest_ends : (m : Mode) (l : Layout) (device : ℕ) (s : List ℕ) (t : Transfer) (a : Answer) → length s ≤ 64 → Ends (rest_transfer m l device s t a) (transfer_after t)
unfolding rest_transfer ran_on
transfer_rest_ends m l device s t a h =
    job_rest_ends l device _ t.job a _ (COMMAND_STEPS * (63 - t.at))
    (λ b. handed_ends m _ b _ _ (bus_more _ _ (COMMAND_STEPS * (63 - t.at)) (transfer_ends m l device (commands (drop (next_at s t.at) s)) _) (omega (arith, behind_few s t.at h))))

pub attempt_rest_ends : (m : Mode) (q : Sequence) (l : Layout) (device : ℕ) (s : List ℕ) (t : Attempt) (a : Answer) → length s ≤ 64
    → Ends (rest_attempt m q l device s t a) (attempt_after t)
unfolding rest_attempt tried cleared
attempt_rest_ends m q l device s New a h =
    ends_or _ _ (COMMAND_STEPS * 64 + CLEAR_STEPS) (λ ctl. ends_more _ (COMMAND_STEPS * 64 + CLEARING_STEPS q) (COMMAND_STEPS * 64 + CLEAR_STEPS)
    (begun_ends q l device _ (COMMAND_STEPS * 64) (bus_more _ _ (COMMAND_STEPS * 64) (transfer_ends m l device (commands s) none) (omega (arith, commands_length s, h))) ctl) (omega (arith, clearing_most q)))
attempt_rest_ends m q l device s (Moving t) a h =
    ends_more _ (transfer_after t + CLEARING_STEPS q) (transfer_after t + CLEAR_STEPS)
    (ends_bind _ _ (transfer_after t) (CLEARING_STEPS q) (transfer_rest_ends m l device s t a h) (λ r. or_tried_ends q l device r.ctl r.out)) (omega (arith, clearing_most q))
attempt_rest_ends m q l device s (Clearing c) a h =
    ends_more _ (clear_after c + 0) (clear_after c) (ends_bind _ _ (clear_after c) 0 (clear_rest_ends l c a) (λ r. or_cleared_ends device r.out)) (omega arith)
