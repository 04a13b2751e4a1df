-- The questions that are put to arguments, to a state and to an answer.
use Rattle.std.specs.Prelude.{ℕ, ◌^◌, ◌<◌, suc, zero, Bool, true, false, ◌≡◌, eqb, ltb, Result, Ok, Err}
use Rattle.hardware.specs.declared.Family.{Family}
use Rattle.hardware.specs.declared.Family.TheVariants.{F82599, X540, X550, X552, X553}
use Rattle.hardware.specs.declared.Port.{Port}
use Rattle.hardware.specs.declared.Access.{Access}
use Rattle.hardware.specs.declared.Access.TheVariants.{Read, Write, Wait}
use Rattle.hardware.specs.declared.Answer.{Answer}
use Rattle.hardware.specs.declared.Answer.TheVariants.{Value, Done, Failed}
use Rattle.hardware.specs.declared.Refusal.{Refusal}
use Rattle.hardware.specs.Numbers.{refusal_number}

-- refused with a number, or gone on with
pub data Asked (A : Type 0) : Type 0 where
  no : ℕ → Asked A
  yes : A → Asked A

-- a question with its number, and what comes after a yes
unfoldable pub question : {A : Type 0} → Bool → ℕ → Asked A → Asked A
question true n k = k
question false n k = no n

unfoldable pub family_numbered : ℕ → Family
family_numbered zero = F82599
family_numbered (suc zero) = X540
family_numbered (suc (suc zero)) = X550
family_numbered (suc (suc (suc zero))) = X552
family_numbered (suc (suc (suc (suc n)))) = X553

abbrev pub family_number : Family → ℕ
family_number F82599 = 0
family_number X540 = 1
family_number X550 = 2
family_number X552 = 3
family_number X553 = 4

unfoldable pub is : Family → Family → Bool
is f g = eqb (family_number f) (family_number g)

-- what comes after an opening
unfoldable pub and_then : {A B : Type 0} → Asked A → (A → Asked B) → Asked B
and_then (no n) k = no n
and_then (yes a) k = k a

-- Is the family 0 to 4?
unfoldable pub open_family : ℕ → Asked Family
open_family family = question (ltb family 5) 1 (yes (family_numbered family))

-- Is the port number 0 or 1?
unfoldable pub open_lan : ℕ → ℕ → Family → Asked Port
open_lan device lan family = question (ltb lan 2) 2 (yes (record { family = family; device = device; lan = lan }))

unfoldable pub open_port : ℕ → ℕ → ℕ → Asked Port
open_port family device lan = and_then (open_family family) (open_lan device lan)

-- what an opening's result says
unfoldable pub opened : {A : Type 0} → Result A Refusal → Asked A
opened (Ok a) = yes a
opened (Err q) = no (refusal_number q)

-- the port of a state is one that an opening gives
unfoldable pub valid_port : Port → Bool
valid_port p = ltb p.lan 2

-- Is the answer of the kind that the access awaits?
unfoldable pub fits : Access → Answer → Bool
fits (Read r) (Value v) = true
fits (Read r) Done = false
fits (Read r) Failed = true
fits (Write r w) (Value v) = false
fits (Write r w) Done = true
fits (Write r w) Failed = true
fits (Wait t) (Value v) = false
fits (Wait t) Done = true
fits (Wait t) Failed = false

-- A step goes on with k: 10, is its state within its limits? 12, is the answer of the kind that x awaits?
unfoldable pub admitting : {A : Type 0} → Bool → Access → Answer → Asked A → Asked A
admitting valid x a k = question valid 10 (question (fits x a) 12 k)

-- a value that was read is a word of 32 bits
unfoldable pub InType : Answer → Type 0
InType (Value v) = v < 2 ^ 32
InType Done = Unit {0}
InType Failed = Unit {0}

-- what the questions came to. That the answer is within its type is no question
unfoldable pub Admits : Bool → Access → Answer → Result (Unit {0}) Refusal → Type 0
Admits valid x a (Ok u) = (valid ≡ true) × (fits x a ≡ true) × InType a
Admits valid x a (Err q) = admitting valid x a (yes (tt {0})) ≡ no (refusal_number q)
