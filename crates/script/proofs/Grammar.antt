-- The walk over the commands accepts exactly the scripts of the grammar.
use Prim.Native.Nat.{ℕ, ◌-◌, ◌%◌}
use mathlib.Core.Path.{◌≡◌, refl, ap, ◌∙◌, subst}
use mathlib.Core.Bool.{true, false, false≢true}
use mathlib.Core.List.{List, [], ◌∷◌, ◌++◌}
use mathlib.Core.Logic.{◌⊎◌, inl, inr, ⊎_elim}
use native.Mathlib.Omega.{arith}
use lib.Dec.{eqb}
use lib.ListN.{get_or}
use borrow.Author.Tests.{eq-eqb, ne_eqb, eqb-true, eqb-false}
use Rattle.hardware.specs.Prog.{pick}
use Rattle.bus.specs.declared.command.Command.{Command}
use Rattle.bus.specs.declared.command.Command.TheVariants.{Start, Send, Read, Stop, Free}
use Rattle.script.specs.declared.cursor.Where.{Where}
use Rattle.script.specs.declared.cursor.Where.TheVariants.{Begin, Address, Sending, Reading, Between, End, Wrong}
use Rattle.script.specs.Script.{commands, leads, follows, walked, at_end, is_script, operand, first_address, device}
use Rattle.script.specs.Grammar.{Sends, no_more, another, Reads, last, before, Phrase, writing, reading, Script, last_phrase, phrase}

not_even : (a : ℕ) → (a % 2 ≡ 0 → ⊥) → a % 2 ≡ 1
not_even a h = omega arith

-- a script is accepted

sends_walked : {p : List Command} → Sends p → (l : List Command) → walked Sending (p ++ l) ≡ walked Sending l
unfolding walked follows leads
sends_walked no_more l = refl
sends_walked (another s) l = sends_walked s l

reads_walked : {p : List Command} → Reads p → (l : List Command) → walked Reading (p ++ l) ≡ walked Between l
unfolding walked follows leads pick
reads_walked last l = refl
reads_walked (before s) l = reads_walked s l

-- after a phrase the walk stands where a start or a stop may come
phrase_walked : {p : List Command} → Phrase p → (w : Where) → follows w Start ≡ Address → (l : List Command)
    → (walked w (p ++ l) ≡ walked Sending l) ⊎ (walked w (p ++ l) ≡ walked Between l)
unfolding walked follows leads pick
phrase_walked (writing {a} {l = p} even s) w e l =
    inl (ap (λ v. walked (follows v (Send a)) (p ++ l)) e ∙ ap (λ x. walked (pick x Sending Reading) (p ++ l)) (eq-eqb (a % 2) 0 even) ∙ sends_walked s l)
phrase_walked (reading {a} {l = p} odd s) w e l =
    inr (ap (λ v. walked (follows v (Send a)) (p ++ l)) e ∙ ap (λ x. walked (pick x Sending Reading) (p ++ l)) (ne_eqb (a % 2) 0 (λ z. omega arith)) ∙ reads_walked s l)

script_walked : {l : List Command} → Script l → (w : Where) → follows w Start ≡ Address → walked w l ≡ End
unfolding walked follows leads
script_walked (last_phrase p) w e = ⊎_elim (λ h. h) (λ h. h) (phrase_walked p w e (Stop ∷ []))
script_walked (phrase {l} p s) w e =
    ⊎_elim (λ h. h ∙ script_walked s Sending refl) (λ h. h ∙ script_walked s Between refl) (phrase_walked p w e l)

-- what is accepted is a script

-- what may come after a phrase
abbrev After : List Command → Type 0
After l = (l ≡ Stop ∷ []) ⊎ Script l

record Split (P : List Command → Type 0) (l : List Command) : Type 0 where
  part : List Command
  rest : List Command
  whole : part ++ rest ≡ l
  of : P part
  after : After rest

-- what the walk still accepts at each place
Left : Where → List Command → Type 0
Left Begin l = Script l
Left Address l = Script (Start ∷ l)
Left Sending l = Split Sends l
Left Reading l = Split Reads l
Left Between l = After l
Left End l = l ≡ []
Left Wrong l = ⊥

phrased : {p l : List Command} → Phrase p → After l → Script (p ++ l)
phrased p (inl e) = rw e (last_phrase p)
phrased p (inr s) = phrase p s

addressed : (a : ℕ) (l : List Command) → Left (pick (eqb (a % 2) 0) Sending Reading) l → Script (Start ∷ Send a ∷ l)
unfolding Left pick
addressed a l =
    elim (eqb (a % 2) 0) as (λ x. eqb (a % 2) 0 ≡ x → Left (pick x Sending Reading) l → Script (Start ∷ Send a ∷ l)) [
      | true ↦ λ e h. subst (λ m. Script (Start ∷ Send a ∷ m)) h.whole (phrased (writing (eqb-true (a % 2) 0 e) h.of) h.after)
      | false ↦ λ e h. subst (λ m. Script (Start ∷ Send a ∷ m)) h.whole (phrased (reading (not_even a (eqb-false (a % 2) 0 e)) h.of) h.after)
    ] refl

step : (w : Where) (c : Command) (l : List Command) → Left (follows w c) l → Left w (c ∷ l)
unfolding Left follows leads pick
step Begin Start l h = h
step Begin (Send b) l h = absurd h
step Begin (Read v) l h = absurd h
step Begin Stop l h = absurd h
step Begin (Free p) l h = absurd h
step Address Start l h = absurd h
step Address (Send a) l h = addressed a l h
step Address (Read v) l h = absurd h
step Address Stop l h = absurd h
step Address (Free p) l h = absurd h
step Sending Start l h = record { part = []; rest = Start ∷ l; whole = refl; of = no_more; after = inr h }
step Sending (Send b) l h =
    record { part = Send b ∷ h.part; rest = h.rest; whole = ap (λ m. Send b ∷ m) h.whole; of = another h.of; after = h.after }
step Sending (Read v) l h = absurd h
step Sending Stop l h = record { part = []; rest = Stop ∷ l; whole = refl; of = no_more; after = inl (ap (λ m. Stop ∷ m) h) }
step Sending (Free p) l h = absurd h
step Reading Start l h = absurd h
step Reading (Send b) l h = absurd h
step Reading (Read true) l h = record { part = Read true ∷ []; rest = l; whole = refl; of = last; after = h }
step Reading (Read false) l h =
    record { part = Read false ∷ h.part; rest = h.rest; whole = ap (λ m. Read false ∷ m) h.whole; of = before h.of; after = h.after }
step Reading Stop l h = absurd h
step Reading (Free p) l h = absurd h
step Between Start l h = inr h
step Between (Send b) l h = absurd h
step Between (Read v) l h = absurd h
step Between Stop l h = inl (ap (λ m. Stop ∷ m) h)
step Between (Free p) l h = absurd h
step End c l h = absurd h
step Wrong c l h = absurd h

left : (l : List Command) (w : Where) → at_end (walked w l) ≡ true → Left w l
unfolding walked at_end Left
left [] Begin h = absurd (false≢true h)
left [] Address h = absurd (false≢true h)
left [] Sending h = absurd (false≢true h)
left [] Reading h = absurd (false≢true h)
left [] Between h = absurd (false≢true h)
left [] End h = refl
left [] Wrong h = absurd (false≢true h)
left (c ∷ l) w h = step w c l (left l (follows w c) h)

-- is_script is the grammar's answer
pub accepts_script : (s : List ℕ) → is_script s ≡ true → Script (commands s)
unfolding is_script Left
accepts_script s h = left (commands s) Begin h

pub script_accepted : (s : List ℕ) → Script (commands s) → is_script s ≡ true
unfolding is_script at_end follows leads
script_accepted s h = ap at_end (script_walked h Begin refl)

-- a script begins with a start and an address
pub record Begins (l : List Command) : Type 0 where
  pub address : ℕ
  pub rest : List Command
  pub begins : l ≡ Start ∷ Send address ∷ rest

phrase_begins : {p : List Command} → Phrase p → (l : List Command) → Begins (p ++ l)
phrase_begins (writing {a} {l = p} e s) l = record { address = a; rest = p ++ l; begins = refl }
phrase_begins (reading {a} {l = p} e s) l = record { address = a; rest = p ++ l; begins = refl }

pub script_begins : {l : List Command} → Script l → Begins l
script_begins (last_phrase p) = phrase_begins p (Stop ∷ [])
script_begins (phrase {l} p s) = phrase_begins p l

-- the device is the first address with its lowest bit cleared
pub device_address : (s : List ℕ) (a : ℕ) (l : List Command) → commands s ≡ Start ∷ Send a ∷ l → device s ≡ a - a % 2
unfolding device first_address operand
device_address s a l e = ap (λ m. operand (get_or m 1 Stop) - operand (get_or m 1 Stop) % 2) e
