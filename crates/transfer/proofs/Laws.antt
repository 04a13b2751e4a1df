-- Laws of transfers and attempts that the proofs cite.
use Prim.Native.Nat.{ℕ, ◌-◌, ◌<◌}
use mathlib.Core.Path.{◌≡◌, refl, ap, ◌∙◌, sym}
use mathlib.Core.Bool.{Bool, true, false}
use mathlib.Core.List.{List}
use lib.Dec.{eqb, ltb}
use native.Mathlib.Omega.{arith}
use lib.ListN.{length, drop}
use Rattle.hardware.specs.declared.Access.{Access}
use Rattle.hardware.specs.declared.Answer.{Answer}
use Rattle.hardware.specs.declared.Meter.{Meter}
use Rattle.hardware.specs.declared.Port.{Port}
use Rattle.hardware.specs.declared.Refusal.{Refusal}
use Rattle.hardware.specs.declared.Refusal.TheVariants.{Family, Lan, Device, Attempts, ScriptLength, Command as RefusedCommand, Script, Block, Buffer, State, Finished, Kind}
use Rattle.hardware.specs.Asked.{Asked, no, question}
use Rattle.hardware.specs.Numbers.{refusal_number}
use Rattle.hardware.specs.Marks.{acknowledged, hears, marked, more, FULL, count_of, meter_on}
use Rattle.hardware.specs.Prog.{Note, Acknowledged, Prog, ret, ask, note, give, is_told, note_if, stays, erase, followed, pick, blank, tally, ◌>>=◌}
use Rattle.hardware.proofs.Prog.{going, heard_on, followed_heard, going_tally, over_tally, asked_on}
use Rattle.bus.specs.declared.Layout.{Layout}
use Rattle.bus.specs.declared.Taken.{Taken}
use Rattle.bus.specs.declared.command.Command.{Command}
use Rattle.bus.specs.declared.command.Command.TheVariants.{Start, Send, Read, Stop, Free}
use Rattle.bus.specs.Bus.{Held, Bus}
use Rattle.bus.specs.Command.{commanded}
use Rattle.bus.specs.Layout.{layout_of}
use Rattle.bus.proofs.Commands.{job_start, job_send, job_read, job_stop, job_free}
use Rattle.bus.proofs.Spreads.{Spreads, Throughout, start_holds, send_holds, in_byte_holds, out_bit_holds, stop_holds, free_holds}
use Rattle.script.specs.Script.{commands, command_at, next_at, judged, judged_as, device}
use Rattle.script.proofs.Laws.{commands_at}
use Rattle.transfer.specs.declared.attempt.Sequence.TheVariants.{Pulses}
use Rattle.transfer.specs.declared.attempt.Attempt.{Attempt}
use Rattle.transfer.specs.declared.attempt.Attempt.TheVariants.{New}
use Rattle.transfer.specs.Transfer.{Mode, handing, keeping, tells, did, is_read, took_by, handed, transfer, ran_on, transfer_next}
use Rattle.transfer.specs.Attempt.{attempting, attempt, access_attempt, heard_attempt, rest_attempt, awaiting, attempt_next}
use Rattle.transfer.specs.Calls.{dropped, single, script, rest_script, judged_then}
use Rattle.transfer.specs.Aliases.{AttemptNext}
use Rattle.transfer.specs.declared.transfer.Handing.TheVariants.{Going, End}
use Rattle.std.specs.Prelude.{Ok, Err, Result}
use Rattle.hardware.specs.declared.Error.{Error}

pub tells_stays : {A : Type 0} (b : ℕ) (n : Note) (p : Prog A) → stays n (tells handing b p) ≡ tells handing b (stays n p)
unfolding tells
tells_stays b n p = by (is_told n)
  where
    by : (k : Bool) → note_if k n (tells handing b p) ≡ tells handing b (note_if k n p)
    by true = refl
    by false = refl

pub tells_erase : {A : Type 0} (m : Mode) (b : ℕ) (p : Prog A) → erase (tells m b p) ≡ tells m b (erase p)
unfolding tells erase
tells_erase keeping b p = refl
tells_erase handing b (ret v) = refl
tells_erase handing b (ask x f) = refl
tells_erase handing b (note n p) = ap (stays n) (tells_erase handing b p) ∙ tells_stays b n (erase p)
tells_erase handing b (give d p) = refl

-- the machine's list of line calls is the command
pub job_did : (l : Layout) (device : ℕ) (c : Command) (k : ℕ → Bus) → commanded l device c k ≡ did l device c k
unfolding did
job_did l device Start k = job_start l device k
job_did l device (Send value) k = job_send l device value k
job_did l device (Read high) k = job_read l device high k
job_did l device Stop k = job_stop l device k
job_did l device (Free p) k = job_free l device p k

-- what spreads holds of a command wherever it holds of what comes after it
pub did_holds : (P : Prog Held → Type 0) → Spreads P → (l : Layout) (device : ℕ) (c : Command) (k : ℕ → Bus) → ((b : ℕ) → Throughout P (k b))
    → Throughout P (did l device c k)
unfolding did
did_holds P s l device Start k e = start_holds P s l (k 0) (e 0)
did_holds P s l device (Send value) k e = send_holds P s l device value (k 0) (e 0)
did_holds P s l device (Read high) k e = in_byte_holds P s l _ (λ value. out_bit_holds P s l high (k value) (e value))
did_holds P s l device Stop k e = stop_holds P s l (k 0) (e 0)
did_holds P s l device (Free p) k e = free_holds P s l p k e

-- a position on the script: its command comes, and then the rest
pub transfer_at : (m : Mode) (l : Layout) (device : ℕ) (s : List ℕ) (at : ℕ) (t : Taken) (ctl : ℕ) → at < length s
    → erase (commanded l device (command_at s at) (ran_on m l device s at t) ctl) ≡ erase (transfer m l device (commands (drop at s)) t ctl)
unfolding transfer ran_on
transfer_at m l device s at t ctl h =
    ap (λ p. erase (p ctl)) (job_did l device (command_at s at) (ran_on m l device s at t))
    ∙ ap (λ cs. erase (transfer m l device cs t ctl)) (sym (commands_at s at h))

pub after_read_lem : (m : Mode) (l : Layout) (device : ℕ) (s : List ℕ) (at : ℕ) (t : Taken) (b ctl : ℕ) → is_read (command_at s at) ≡ true
    → tells m b (erase (transfer m l device (commands (drop (next_at s at) s)) (took_by (command_at s at) t b) ctl)) ≡ erase (ran_on m l device s at t b ctl)
unfolding ran_on handed pick
after_read_lem m l device s at t b ctl h = rw (h) (sym (tells_erase m b _))

pub after_other : (m : Mode) (l : Layout) (device : ℕ) (s : List ℕ) (at : ℕ) (t : Taken) (b ctl : ℕ) → is_read (command_at s at) ≡ false
    → erase (transfer m l device (commands (drop (next_at s at) s)) (took_by (command_at s at) t b) ctl) ≡ erase (ran_on m l device s at t b ctl)
unfolding ran_on handed pick
after_other m l device s at t b ctl h = rw (h)

-- an acknowledgement before the access that a byte goes out with
tells_heard : {A : Type 0} (m : Mode) (b left : ℕ) (p : Prog A) → acknowledged left (tells m b p) ≡ tells m b (acknowledged left p)
unfolding acknowledged tells
tells_heard keeping b left p = refl
tells_heard handing b left p = by (ltb left 10)
  where
    by : (k : Bool) → note_if k (Acknowledged (10 - left)) (tells handing b p) ≡ tells handing b (note_if k (Acknowledged (10 - left)) p)
    by true = refl
    by false = refl

pub told_twice : {A : Type 0} (m : Mode) (b d left : ℕ) (x : Access) (f : Answer → Prog A)
    → tells m b (acknowledged left (ask x f)) ≡ tells m b (tells m d (acknowledged left (ask x f)))
unfolding tells
told_twice keeping b d left x f = refl
told_twice handing b d left x f = sym (tells_heard handing b left (ask x f)) ∙ tells_heard handing b left (give d (ask x f)) ∙ ap (tells handing b) (tells_heard handing d left (ask x f))

pub told_end : (m : Mode) (b : ℕ) (l : Layout) (device : ℕ) (s : List ℕ) (ctl : ℕ) (t : Taken) (o : (Result (Unit {0}) Error))
    → transfer_next m l device s (End (ctl, t, o)) ≡ tells m b (transfer_next m l device s (End (ctl, t, o)))
unfolding tells transfer_next
told_end keeping b l device s ctl t o = refl
told_end handing b l device s ctl t (Ok tt) = refl
told_end handing b l device s ctl t (Err e) = refl

told_going : {A B : Type 0} (m : Mode) (b : ℕ) (x : Access) (p : Answer → Prog A) (k : A → Prog B)
    → tells m b (ask x (λ a. erase (p a >>= k))) ≡ followed (tells m b (ask x (λ a. erase (p a)))) k
unfolding tells followed ◌>>=◌
told_going keeping b x p k = going x p k
told_going handing b x p k = ap (give b) (going x p k)

pub told_on : {A B : Type 0} (m : Mode) (b left : ℕ) (x : Access) (p : Answer → Prog A) (k : A → Prog B)
    → tells m b (acknowledged left (ask x (λ a. erase (p a >>= k)))) ≡ followed (tells m b (acknowledged left (ask x (λ a. erase (p a))))) k
told_on m b left x p k =
    sym (tells_heard m b left _) ∙ ap (acknowledged left) (told_going m b x p k) ∙ followed_heard left _ k ∙ ap (λ q. followed q k) (tells_heard m b left _)

-- a script that is accepted or refused

pub judged_yes : {A : Type 0} (s : List ℕ) (k : Asked A) → judged s ≡ 0 → judged_then s k ≡ k
unfolding judged_then question
judged_yes s k h = rw h

pub judged_accepted : (s : List ℕ) {j : (Result (Unit {0}) Refusal)} → j ≡ (Ok tt) → judged_as j ≡ judged s → judged s ≡ 0
unfolding judged_as
judged_accepted s h e = rw h at (sym e)

numbered : {A : Type 0} (q : Refusal) (k : Asked A) → question (eqb (refusal_number q) 0) (refusal_number q) k ≡ no (refusal_number q)
unfolding question
numbered Family k = refl
numbered Lan k = refl
numbered Device k = refl
numbered Attempts k = refl
numbered ScriptLength k = refl
numbered RefusedCommand k = refl
numbered Script k = refl
numbered Block k = refl
numbered Buffer k = refl
numbered State k = refl
numbered Finished k = refl
numbered Kind k = refl

pub judged_no : {A : Type 0} (s : List ℕ) (k : Asked A) {j : (Result (Unit {0}) Refusal)} {q : Refusal} → j ≡ Err q → judged_as j ≡ judged s
    → judged_then s k ≡ no (refusal_number q)
unfolding judged_then judged_as
judged_no s k {q = q} h e = rw (← e, h) (numbered q k)

-- the call of a script begins as an attempt that is counted
pub script_begins : (port : Port) (s : List ℕ)
    → tally single (followed (attempt_next handing Pulses (layout_of port.family) (device s) s (Going New)) dropped) ≡ tally blank (script port s)
unfolding attempt_next awaiting heard_attempt acknowledged access_attempt rest_attempt script attempt attempting tally ◌>>=◌
script_begins port s =
    sym (going_tally single (access_attempt (layout_of port.family) New) (rest_attempt handing Pulses (layout_of port.family) (device s) s New) dropped)

pub script_rest : (port : Port) (m : Meter) (s : List ℕ) (t : Attempt) (a : Answer) (n : AttemptNext)
    → attempt_next handing Pulses (layout_of port.family) (device s) s n ≡ erase (rest_attempt handing Pulses (layout_of port.family) (device s) s t a)
    → tally m (followed (attempt_next handing Pulses (layout_of port.family) (device s) s n) dropped) ≡ tally m (rest_script port s t a)
unfolding rest_script
script_rest port m s t a n e = over_tally m (rest_attempt handing Pulses (layout_of port.family) (device s) s t a) dropped refl e

-- the meter of a script that goes on, where no byte goes out and where one does
pub heard_tally : {A B : Type 0} (m : Meter) (left : ℕ) (x : Access) (p : Answer → Prog A) (k : A → Prog B) → m.transfers ≡ 1
    → ask x (λ a. tally (meter_on (hears left) m) (p a >>= k)) ≡ tally m (followed (acknowledged left (ask x (λ a. erase (p a)))) k)
unfolding marked
heard_tally m left x p k h = asked_on (hears left) m x (λ a. p a >>= k) (omega (arith, h)) ∙ ap (tally m) (heard_on left x p k)

pub told_tally : {A B : Type 0} (m : Meter) (b left : ℕ) (x : Access) (p : Answer → Prog A) (k : A → Prog B) → m.transfers ≡ 1
    → give b (ask x (λ a. tally (meter_on (hears left) m) (p a >>= k))) ≡ tally m (followed (tells handing b (acknowledged left (ask x (λ a. erase (p a))))) k)
unfolding acknowledged tells followed tally ◌>>=◌
told_tally {A} m b left x p k h = ap (give b) (heard_tally m left x p k h) ∙ by (ltb left 10)
  where
    q : Prog A
    q = ask x (λ a. erase (p a))

    by : (c : Bool) → give b (tally m (followed (note_if c (Acknowledged (10 - left)) q) k)) ≡ tally m (followed (tells handing b (note_if c (Acknowledged (10 - left)) q)) k)
    by true = refl
    by false = refl

-- a script's meter keeps its count, and its limits
pub hears_one : (m : Meter) (left : ℕ) → m.transfers ≡ 1 → (meter_on (hears left) m).transfers ≡ 1
unfolding meter_on count_of more pick
hears_one m left h = by (ltb m.transfers FULL)
  where
    by : (b : Bool) → pick b m.transfers m.transfers ≡ 1
    by true = h
    by false = h
