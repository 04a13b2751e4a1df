-- The bytes that an accepted script hands out: one for each 30 and 31 that is complete, in order. Each goes out with the
-- access that follows its read, and in an accepted script a command follows each read.
use Prim.Native.Nat.{ℕ, ◌≤◌, suc, zero}
use mathlib.Core.Path.{◌≡◌, refl, ap, fun_ext, ◌∙◌, sym, subst}
use mathlib.Core.Bool.{Bool, true, false}
use mathlib.Core.List.{List, [], ◌∷◌, ◌++◌}
use native.Mathlib.Omega.{arith}
use lib.ListN.{length}
use Rattle.hardware.specs.declared.Answer.{Answer}
use Rattle.hardware.specs.declared.Port.{Port}
use Rattle.hardware.specs.Asked.{yes, and_then, open_port}
use Rattle.hardware.specs.Prog.{Prog, ret, ask, note, give, R, Ok, Err, or_err, pick, ◌>>=◌, blank}
use Rattle.hardware.specs.Promise.{Keeps}
use Rattle.hardware.specs.Registers.{raw}
use Rattle.hardware.specs.Runs.{run, on_answer, ended, meter_in, counted, AwaitedIn, Exchange, answers_of, AllKept, driven}
use Rattle.bus.specs.declared.Layout.{Layout}
use Rattle.bus.specs.declared.Taken.{Taken}
use Rattle.bus.specs.declared.command.Command.{Command}
use Rattle.bus.specs.declared.command.Command.TheVariants.{Start, Send, Read, Stop, Free}
use Rattle.bus.specs.declared.command.Piece.TheVariants.{Pulses as PulsesPiece, Probe, Lower, Pull}
use Rattle.bus.specs.Command.{freed}
use Rattle.bus.specs.Bus.{Held, Bus, none, is_i2c, look, get, put, sda, release_sda, start, stop, send, out_bit, out_bits, in_bit, in_bits, in_byte, bit_of, scl_low}
use Rattle.bus.specs.Layout.{layout_of}
use Rattle.bus.proofs.Spreads.{Spreads, Throughout, clear_holds, clear_rounds_holds}
use Rattle.script.specs.Grammar.{Script, last_phrase, phrase}
use Rattle.script.specs.Script.{commands, device, judged}
use Rattle.script.proofs.Grammar.{accepts_script, script_begins}
use Rattle.script.proofs.Laws.{accepted}
use Rattle.transfer.specs.declared.attempt.Sequence.{Sequence}
use Rattle.transfer.specs.declared.attempt.Sequence.TheVariants.{Pulses, Rounds}
use Rattle.transfer.specs.Transfer.{handing, tells, did, is_read, took_by, handed, transfer}
use Rattle.transfer.specs.Attempt.{clearing, or_cleared, cleared, or_tried, tried, begun, attempting, attempt}
use Rattle.transfer.specs.Calls.{without, dropped, script, open_script, said_script, stands_script, follows_script}
use Rattle.transfer.specs.Bytes.{gives, giving, script_giving, reads}
use Rattle.transfer.proofs.Laws.{did_holds, judged_yes}
use Rattle.transfer.proofs.Runs.{script_driven}
use Rattle.transfer.specs.Aliases.{ScriptTold}

-- a command begins with an access, with which a byte goes out

sda_tells : (l : Layout) (high : Bool) (k : Bus) (b ctl : ℕ) → tells handing b (sda l high k ctl) ≡ give b (sda l high k ctl)
unfolding tells sda put
sda_tells l true k b ctl = refl
sda_tells l false k b ctl = refl

command_tells : (l : Layout) (device : ℕ) (c : Command) (k : ℕ → Bus) (b ctl : ℕ) → tells handing b (did l device c k ctl) ≡ give b (did l device c k ctl)
unfolding tells did freed start look get stop send out_bits out_bit in_byte in_bits in_bit release_sda scl_low put
command_tells l device Start k b ctl = refl
command_tells l device (Send value) k b ctl = sda_tells l (bit_of value 7) _ b ctl
command_tells l device (Read high) k b ctl = refl
command_tells l device Stop k b ctl = sda_tells l false _ b ctl
command_tells l device (Free PulsesPiece) k b ctl = refl
command_tells l device (Free Probe) k b ctl = refl
command_tells l device (Free Lower) k b ctl = refl
command_tells l device (Free Pull) k b ctl = sda_tells l false _ b ctl

-- a command follows each read
Followed : List Command → Type 0
Followed [] = Unit {0}
Followed (c ∷ []) = is_read c ≡ false
Followed (c ∷ d ∷ cs) = Followed (d ∷ cs)

followed_on : (p : List Command) (c : Command) (cs : List Command) → Followed (c ∷ cs) → Followed (p ++ c ∷ cs)
unfolding Followed
followed_on [] c cs f = f
followed_on (d ∷ []) c cs f = f
followed_on (d ∷ e ∷ p) c cs f = followed_on (e ∷ p) c cs f

script_followed : {l : List Command} → Script l → Followed l
unfolding Followed is_read
script_followed (last_phrase {p} q) = followed_on p Stop [] refl
script_followed (phrase {p} {l} q s) =
    let b = script_begins s in subst (λ m. Followed (p ++ m)) (sym b.begins) (followed_on p Start _ (subst Followed b.begins (script_followed s)))

transfer_gives : (l : Layout) (device : ℕ) (cs : List Command) (t : Taken) → Followed cs → transfer handing l device cs t ≡ giving l device cs t
unfolding transfer giving handed gives pick Followed
transfer_gives l device [] t f = refl
transfer_gives l device (c ∷ []) t f = ap (did l device c) (fun_ext (λ b. fun_ext (λ ctl. rw f)))
transfer_gives l device (c ∷ d ∷ cs) t f =
    ap (did l device c) (fun_ext (λ b. fun_ext (λ ctl.
    ap (λ p. pick (is_read c) p (transfer handing l device (d ∷ cs) (took_by c t b) ctl)) (command_tells l device d _ b ctl)
    ∙ ap (λ k. gives c b k ctl) (transfer_gives l device (d ∷ cs) (took_by c t b) f))))

-- an accepted script is the one in which each 30 and 31 gives its byte when it is complete: none is lost
pub script_gives : (port : Port) (s : List ℕ) → judged s ≡ 0 → script port s ≡ script_giving port s
unfolding script script_giving
script_gives port s h =
    ap (λ f. attempt Pulses (layout_of port.family) (device s) f >>= dropped)
    (transfer_gives (layout_of port.family) (device s) (commands s) none (script_followed (accepts_script s (accepted s h).2)))

-- how many bytes a run gives out

Well : {A : Type 0} → R A → Type 0
Well (Ok a) = Unit {0}
Well (Err e) = ⊥

-- on a way that ends well n bytes are given out, on any other at most n
Gives : {A : Type 0} → (A → Type 0) → Prog A → ℕ → Type 0
Gives Good (ret v) n = Good v → n ≡ 0
Gives Good (ask x f) n = (a : Answer) → Gives Good (f a) n
Gives Good (note k p) n = Gives Good p n
Gives Good (give b p) zero = ⊥
Gives Good (give b p) (suc n) = Gives Good p n

run_most : {A : Type 0} (Good : A → Type 0) (p : Prog A) (n : ℕ) (l : List Answer) → Gives Good p n → length (run p l).bytes ≤ n
unfolding Gives run on_answer
run_most Good (ret v) n l g = omega arith
run_most Good (ask x f) n [] g = omega arith
run_most Good (ask x f) n (a ∷ l) g = run_most Good (f a) n l (g a)
run_most Good (note k p) n l g = run_most Good p n l g
run_most Good (give b p) zero l g = absurd g
run_most Good (give b p) (suc n) l g = omega (arith, run_most Good p n l g)

run_all : {A : Type 0} (Good : A → Type 0) (p : Prog A) (n : ℕ) (l : List Answer) (v : A) → Gives Good p n → (run p l).status ≡ ended v → Good v
    → length (run p l).bytes ≡ n
unfolding Gives run on_answer
run_all Good (ret w) n l v g e good = let same : v ≡ w = cc in sym (g (subst Good same good))
run_all Good (ask x f) n [] v g e good = let no : ◌≡◌ {A = ℕ} 0 1 = cc in absurd (omega arith)
run_all Good (ask x f) n (a ∷ l) v g e good = run_all Good (f a) n l v (g a) e good
run_all Good (note k p) n l v g e good = run_all Good p n l v g e good
run_all Good (give b p) zero l v g e good = absurd g
run_all Good (give b p) (suc n) l v g e good = ap suc (run_all Good p n l v g e good)

gives_bind : {A B : Type 0} (Good : A → Type 0) (Fine : B → Type 0) (p : Prog A) (k : A → Prog B) (n : ℕ) → Gives Good p n
    → ((v : A) (m : ℕ) → (Good v → m ≡ 0) → Gives Fine (k v) m) → Gives Fine (p >>= k) n
unfolding Gives ◌>>=◌
gives_bind Good Fine (ret v) k n g d = d v n g
gives_bind Good Fine (ask x f) k n g d = λ a. gives_bind Good Fine (f a) k n (g a) d
gives_bind Good Fine (note m p) k n g d = gives_bind Good Fine p k n g d
gives_bind Good Fine (give b p) k zero g d = absurd g
gives_bind Good Fine (give b p) k (suc n) g d = gives_bind Good Fine p k n g d

gives_pick : {A : Type 0} (Good : A → Type 0) (b : Bool) (p q : Prog A) (n : ℕ) → Gives Good p n → Gives Good q n → Gives Good (pick b p q) n
unfolding pick
gives_pick Good true p q n g d = g
gives_pick Good false p q n g d = d

-- a line program ended well
abbrev WellHeld : Held → Type 0
WellHeld h = Well h.out

well_spreads : (n : ℕ) → Spreads (λ p. Gives WellHeld p n)
unfolding Gives Well
well_spreads n = record { asked = λ x f g. g; failed = λ e ctl good. absurd good; noted = λ sample p h g. g }

command_counts : (c : Command) (b : ℕ) (k : Bus) (n ctl : ℕ) → Gives WellHeld (k ctl) n → Gives WellHeld (gives c b k ctl) (pick (is_read c) (suc n) n)
unfolding gives pick Gives
command_counts c b k n ctl g = by (is_read c)
  where
    by : (x : Bool) → Gives WellHeld (pick x (give b (k ctl)) (k ctl)) (pick x (suc n) n)
    by true = g
    by false = g

giving_counts : (l : Layout) (device : ℕ) (cs : List Command) (t : Taken) → Throughout (λ p. Gives WellHeld p (reads cs)) (giving l device cs t)
unfolding giving reads Gives
giving_counts l device [] t = λ ctl good. refl
giving_counts l device (c ∷ cs) t =
    did_holds _ (well_spreads (reads (c ∷ cs))) l device c _
    (λ b ctl. command_counts c b _ (reads cs) ctl (giving_counts l device cs (took_by c t b) ctl))

-- no byte is given out, however many there may be: so it is with the clearing, by which no attempt ends well
abbrev Giveless : Prog Held → Type 0
Giveless p = (n : ℕ) → Gives (λ h. ⊥) p n

clearing_counts : (q : Sequence) (l : Layout) → Throughout Giveless (clearing q l)
unfolding clearing Gives
clearing_counts Pulses l =
    clear_holds Giveless (record { asked = λ x f g n a. g a n; failed = λ e ctl n. absurd; noted = λ sample p h g. g }) (λ t ctl n. absurd)
    (λ p k g d n. gives_bind (λ h. ⊥) (λ h. ⊥) p k n (g n) (λ h m z. d h m)) l
clearing_counts Rounds l =
    clear_rounds_holds Giveless (record { asked = λ x f g n a. g a n; failed = λ e ctl n. absurd; noted = λ sample p h g. g }) (λ t ctl n. absurd)
    (λ p k g d n. gives_bind (λ h. ⊥) (λ h. ⊥) p k n (g n) (λ h m z. d h m)) l

cleared_counts : (device : ℕ) (r : R Taken) (n : ℕ) → Gives Well (or_cleared device r) n
unfolding or_cleared Gives Well
cleared_counts device (Ok t) n = absurd
cleared_counts device (Err e) n = absurd

tried_counts : (q : Sequence) (l : Layout) (device ctl : ℕ) (r : R Taken) (n : ℕ) → (Well r → n ≡ 0) → Gives Well (or_tried q l device ctl r) n
unfolding or_tried cleared Gives Well
tried_counts q l device ctl (Ok t) n z = z
tried_counts q l device ctl (Err e) n z =
    gives_pick Well (is_i2c e) _ _ n
    (gives_bind (λ h. ⊥) Well _ _ n (clearing_counts q l ctl n) (λ h m y. cleared_counts device h.out m)) absurd

begun_counts : (q : Sequence) (l : Layout) (device : ℕ) (f : Bus) (n : ℕ) → Throughout (λ p. Gives WellHeld p n) f → (r : R ℕ)
    → Gives Well (or_err (begun q l device f) r) n
unfolding or_err begun tried Gives Well
begun_counts q l device f n g (Ok ctl) = gives_bind WellHeld Well (f ctl) _ n (g ctl) (λ h m z. tried_counts q l device h.ctl h.out m z)
begun_counts q l device f n g (Err e) = absurd

attempt_counts : (q : Sequence) (l : Layout) (device : ℕ) (f : Bus) (n : ℕ) → Throughout (λ p. Gives WellHeld p n) f → Gives Well (attempt q l device f) n
unfolding attempt attempting ◌>>=◌ Gives
attempt_counts q l device f n g = λ a. begun_counts q l device f n g (raw a)

dropped_counts : (r : R Taken) (n : ℕ) → (Well r → n ≡ 0) → Gives Well (dropped r) n
unfolding dropped without Gives Well
dropped_counts (Ok t) n z = z
dropped_counts (Err e) n z = absurd

script_counts : (port : Port) (s : List ℕ) → Gives Well (script_giving port s) (reads (commands s))
unfolding script_giving
script_counts port s =
    gives_bind Well Well _ dropped (reads (commands s))
    (attempt_counts Pulses (layout_of port.family) (device s) _ (reads (commands s)) (giving_counts (layout_of port.family) (device s) (commands s) none))
    dropped_counts

-- for every list of answers: no more bytes than the script has 30s and 31s, and as many where it ends well
pub script_bytes : (port : Port) (s : List ℕ) (l : List Answer) → judged s ≡ 0 → length (run (script port s) l).bytes ≤ reads (commands s)
script_bytes port s l h = rw (script_gives port s h) (run_most Well (script_giving port s) (reads (commands s)) l (script_counts port s))

pub script_bytes_all : (port : Port) (s : List ℕ) (l : List Answer) → judged s ≡ 0 → (run (script port s) l).status ≡ ended (Ok tt)
    → length (run (script port s) l).bytes ≡ reads (commands s)
unfolding Well
script_bytes_all port s l h e =
    rw (script_gives port s h) (run_all Well (script_giving port s) (reads (commands s)) l (Ok tt) (script_counts port s) (rw (script_gives port s h) at e) tt)

-- with further answers the bytes given out so far are the first ones
pub bytes_first : {A : Type 0} (p : Prog A) (l m : List Answer) → (rest : List ℕ) × ((run p (l ++ m)).bytes ≡ (run p l).bytes ++ rest)
unfolding run on_answer
bytes_first (ret v) l m = ([], refl)
bytes_first (ask x f) [] m = ((run (ask x f) m).bytes, refl)
bytes_first (ask x f) (a ∷ l) m = bytes_first (f a) l m
bytes_first (note n p) l m = bytes_first p l m
bytes_first (give b p) l m = let r = bytes_first p l m in (r.0, ap (λ t. b ∷ t) r.1)

-- the same of the library: what its host is told from the opening on is the run in which each byte goes out at once
pub script_hands_out : (family device lan : ℕ) (s : List ℕ) (t : ScriptTold) → judged s ≡ 0
    → Keeps (said_script t s ≡ open_script family device lan s) (stands_script t s)
    → (ks : List (Exchange ScriptTold)) → AllKept (follows_script s) t ks → AwaitedIn (open_script family device lan s) (answers_of ks)
    → driven (λ t. said_script t s) t ks
    ≡ and_then (open_port family device lan) (λ port. yes (counted (meter_in blank (script port s) (answers_of ks)) (run (script_giving port s) (answers_of ks))))
script_hands_out family device lan s t h k ks kept w =
    script_driven family device lan s t k ks kept w
    ∙ ap (and_then (open_port family device lan)) (fun_ext (λ port. judged_yes s _ h
    ∙ ap (λ p. yes (counted (meter_in blank (script port s) (answers_of ks)) (run p (answers_of ks)))) (script_gives port s h)))
