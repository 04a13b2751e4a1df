-- Whole calls as a host drives them through the exports: what it sees and what it gives is numbers.
use Rattle.std.specs.Prelude.{ℕ, ◌-◌, ◌<◌, ◌≤◌, ◌^◌, ◌≡◌, Bool, true, false, List, [], ◌∷◌, T, eqb, leb, ltb, get_or, length, Some, None, Option}
use Rattle.hardware.specs.declared.Access.{Access}
use Rattle.hardware.specs.declared.Answer.{Answer}
use Rattle.hardware.specs.declared.Answer.TheVariants.{Value, Done, Failed}
use Rattle.hardware.specs.declared.Meter.{Meter}
use Rattle.hardware.specs.Asked.{Asked, no, yes}
use Rattle.hardware.specs.Prog.{Prog, R, Ok, Err, Counted, blank}
use Rattle.hardware.specs.Runs.{Run, Status, ended, run, waiting}
use Rattle.hostif.specs.Hostif.{Left}
use Rattle.page.specs.Page.{Filled}
use Rattle.transfer.specs.declared.attempt.Sequence.{Sequence}
use Rattle.flat.specs.Pick.{bit, pick}
use Rattle.host.specs.declared.Block.{Block}
use Rattle.host.specs.declared.Next.{Next}
use Rattle.host.specs.Next.{asked_of, ended_of, next_of, refused_of}
use Rattle.host.specs.Step.{answered, AnsweredBy, CommandStepped, LentBy, PageStepped, ScriptStepped, Stepped}

-- a result: its values, by N, or a failure's number and values
unfoldable pub result_of : {A : Type 0} → (A → Meter → Next) → Meter → R A → Next
result_of N m (Ok v) = N v m
result_of N m (Err f) = next_of 4 f.number (get_or f.values 0 0) (get_or f.values 1 0) m

abbrev pub done_of : Unit {0} → Meter → Next
done_of v m = ended_of 0 m

abbrev pub yes_of : Bool → Meter → Next
yes_of v m = ended_of (bit v) m

-- of a call that is metered, and of one that is not
abbrev pub metered_of : {A : Type 0} → (A → Meter → Next) → Counted (R A) → Next
metered_of N c = result_of N c.meter c.result

abbrev pub unmetered_of : {A : Type 0} → (A → Meter → Next) → R A → Next
unmetered_of N r = result_of N blank r

-- of one that is lent words, or a buffer
abbrev pub left_of : Left → Next
left_of v = unmetered_of ended_of v.status

abbrev pub filled_of : Counted Filled → Next
filled_of c = result_of done_of c.meter c.result.result

-- the end, by N, or the access that is awaited
unfoldable pub last_of : {A : Type 0} → (A → Next) → Status A → Next
last_of N (ended v) = N v
last_of N (waiting x) = asked_of x 0

unfoldable pub through : List Access → Next → List Next
through [] last = last ∷ []
through (x ∷ l) last = asked_of x 0 ∷ through l last

-- a run: the accesses that were answered, and then its last
abbrev pub run_seen : {A : Type 0} → (A → Next) → Run A → List Next
run_seen N r = through r.accesses (last_of N r.status)

-- or a refusal
unfoldable pub asked_seen : {A : Type 0} → (A → Next) → Asked (Run A) → List Next
asked_seen N (no n) = refused_of n ∷ []
asked_seen N (yes r) = run_seen N r

-- what an opening says ends so over these answers
unfoldable pub Ended : {A : Type 0} → Asked (Prog A) → List Answer → A → Type 0
Ended (no n) l v = ⊥
Ended (yes p) l v = (run p l).status ≡ ended v

-- of an opening whose sequence has a number
unfoldable pub named_seen : (Option Sequence) → (Sequence → List Next) → List Next
named_seen (Some q) s = s q
named_seen None s = refused_of 13 ∷ []

-- A step as its host makes it: the answer, by its kind and value, and what the host holds after it
pub record Turn (Host : Type 0) : Type 0 where
  pub kind : ℕ
  pub value : ℕ
  pub after : Host

-- Of a call that is lent nothing the host holds a block; of one that is lent words or bytes these too, as they are then
pub record Held : Type 0 where
  pub block : Block
  pub lent : List ℕ

-- what the host sees, from what it holds first on
unfoldable pub seen : {Host : Type 0} → (Host → Block) → Host → List (Turn Host) → List Next
seen blockIn h [] = (blockIn h).next ∷ []
seen blockIn h (k ∷ ks) = (blockIn h).next ∷ seen blockIn k.after ks

unfoldable pub last_held : {Host : Type 0} → Host → List (Turn Host) → Host
last_held h [] = h
last_held h (k ∷ ks) = last_held k.after ks

-- the answers that it gives; a kind that is none is none
unfoldable pub and_given : (Option Answer) → List Answer → List Answer
and_given (Some a) l = a ∷ l
and_given None l = l

unfoldable pub answers_in : {Host : Type 0} → List (Turn Host) → List Answer
answers_in [] = []
answers_in (k ∷ ks) = and_given (answered k.kind k.value) (answers_in ks)

-- an access is next; or it is an end, well or not. What is neither is a refusal
unfoldable pub names_access : Next → Bool
names_access n = ltb n.kind 3

unfoldable pub names_end : Next → Bool
names_end n = pick (names_access n) false (ltb n.kind 5)

-- an answer of the kind that an access awaits: a value of a read, done of a write or a wait; a read or a write may fail
unfoldable pub awaits : ℕ → Answer → Bool
awaits kind (Value v) = eqb kind 0
awaits kind Done = ltb 0 kind
awaits kind Failed = ltb kind 2

unfoldable pub Awaits : ℕ → (Option Answer) → Type 0
Awaits kind (Some a) = T (awaits kind a)
Awaits kind None = ⊥

-- the host steps where an access is next, with an answer of the awaited kind, and the step keeps the promise of its export
pub record Drives {Host : Type 0} (blockIn : Host → Block) (Promise : (Option Answer) → Host → Host → Type 0) (h : Host) (k : Turn Host) : Type 0 where
  pub names : T (names_access (blockIn h).next)
  pub fits : Awaits (blockIn h).next.kind (answered k.kind k.value)
  pub typed : k.value < 2 ^ 32
  pub promised : Promise (answered k.kind k.value) h k.after

unfoldable pub Driven : {Host : Type 0} → (Host → Block) → ((Option Answer) → Host → Host → Type 0) → Host → List (Turn Host) → Type 0
Driven blockIn Promise h [] = Unit {0}
Driven blockIn Promise h (k ∷ ks) = Drives blockIn Promise h k × Driven blockIn Promise k.after ks

-- the promises of `sulfryk_step`, of `sulfryk_script_step`, which is lent the same script each time, of `sulfryk_command_step`,
-- where the lent block keeps its length, and of `sulfryk_page_step`
abbrev pub StepPromise : (Option Answer) → Block → Block → Type 0
StepPromise g b c = AnsweredBy g (λ a. Stepped b.state a) b.state c

abbrev pub ScriptPromise : List ℕ → (Option Answer) → Block → Block → Type 0
ScriptPromise script g b c = AnsweredBy g (λ a. ScriptStepped b.state script a) b.state c

abbrev pub CommandPromise : (Option Answer) → Held → Held → Type 0
CommandPromise g h k =
    LentBy g (λ a. CommandStepped h.block.state h.lent k.lent a) h.block.state h.lent k.lent k.block × (length k.lent ≡ length h.lent)

abbrev pub PagePromise : (Option Answer) → Held → Held → Type 0
PagePromise g h k = LentBy g (λ a. PageStepped h.block.state h.lent k.lent a) h.block.state h.lent k.lent k.block

abbrev pub itself : Block → Block
itself b = b

abbrev pub block_of_held : Held → Block
block_of_held h = h.block

-- of a script what is next without the byte that was just read, and these bytes
unfoldable pub bare : Next → Next
bare n =
    record { kind = n.kind; first = n.first; second = n.second; third = pick (names_access n) 0 n.third; fourth = n.fourth; fifth = n.fifth; sixth = n.sixth; transfers = n.transfers; slowest = n.slowest; temperature = n.temperature }

abbrev pub bare_block : Block → Block
bare_block b = record { next = bare b.next; state = b.state }

unfoldable pub and_handed : Next → List ℕ → List ℕ
and_handed n l = pick (names_access n) (pick (leb 256 n.third) ((n.third - 256) ∷ l) l) l

unfoldable pub handed_in : Block → List (Turn Block) → List ℕ
handed_in b [] = and_handed b.next []
handed_in b (k ∷ ks) = and_handed b.next (handed_in k.after ks)

-- the bytes of a run, or none of a refusal
unfoldable pub bytes_of : {A : Type 0} → Asked (Run A) → List ℕ
bytes_of (no n) = []
bytes_of (yes r) = r.bytes

-- from a block on there are at most n steps; none of them is refused, and after n of them the call has ended
pub record Few (b : Block) (ks : List (Turn Block)) (n : ℕ) : Type 0 where
  pub few : length ks ≤ n
  pub goes : T (pick (names_access (last_held b ks).next) true (names_end (last_held b ks).next))
  pub over : length ks ≡ n → T (names_end (last_held b ks).next)

abbrev pub Lasting : Block → Type 0
Lasting b = (n : ℕ) × ((ks : List (Turn Block)) → Driven itself StepPromise b ks → Few b ks n)
