-- The bytes of a script, their commands and the questions about them: 10 start; 20 with an operand, send it; 30 read a
-- byte and acknowledge; 31 read a byte and don't; 40 stop.
use Rattle.std.specs.Prelude.{ℕ, ◌+◌, ◌-◌, ◌%◌, Bool, true, false, List, [], ◌∷◌, eqb, leb, length, get_or, drop, Ok, Err, Result}
use Rattle.hardware.specs.Numbers.{refusal_number}
use Rattle.hardware.specs.Prog.{pick}
use Rattle.bus.specs.declared.command.Command.{Command}
use Rattle.bus.specs.declared.command.Command.TheVariants.{Start, Send, Read, Stop, Free}
use Rattle.script.specs.declared.cursor.Where.{Where}
use Rattle.script.specs.declared.cursor.Where.TheVariants.{Begin, Address, Sending, Reading, Between, End, Wrong}
use Rattle.script.specs.declared.reader.Step.{Step}
use Rattle.hardware.specs.declared.Refusal.{Refusal}

-- the command of a byte that stands alone; one that is unknown or lacks its operand counts as a stop
unfoldable pub alone : ℕ → Command
alone b = pick (eqb b 0x10) Start (pick (eqb b 0x30) (Read false) (pick (eqb b 0x31) (Read true) Stop))

-- the known commands of one byte
unfoldable pub single : ℕ → Bool
single b = pick (eqb b 0x10) true (pick (eqb b 0x30) true (pick (eqb b 0x31) true (eqb b 0x40)))

unfoldable pub commands : List ℕ → List Command
commands [] = []
commands (b ∷ []) = alone b ∷ []
commands (b ∷ v ∷ s) = pick (eqb b 0x20) (Send v ∷ commands s) (alone b ∷ commands (v ∷ s))

-- Is each command known and complete?
unfoldable pub complete : List ℕ → Bool
complete [] = true
complete (b ∷ []) = single b
complete (b ∷ v ∷ s) = pick (eqb b 0x20) (complete s) (pick (single b) (complete (v ∷ s)) false)

-- for each byte, whether a command begins there
unfoldable pub starts : List ℕ → List Bool
starts [] = []
starts (b ∷ []) = true ∷ []
starts (b ∷ v ∷ s) = true ∷ pick (eqb b 0x20) (false ∷ starts s) (starts (v ∷ s))

-- the position is that of a command
unfoldable pub on_command : List ℕ → ℕ → Bool
on_command s at = get_or (starts s) at false

-- a send and its operand stand at the head of the bytes
unfoldable pub head_sends : List ℕ → Bool
head_sends [] = false
head_sends (b ∷ []) = false
head_sends (b ∷ v ∷ s) = eqb b 0x20

-- the command at the head, the bytes that it takes, and whether it is known and complete
unfoldable pub head_command : List ℕ → Command
head_command s = pick (head_sends s) (Send (get_or s 1 0)) (alone (get_or s 0 0))

unfoldable pub head_width : List ℕ → ℕ
head_width [] = 0
head_width (b ∷ s) = pick (head_sends (b ∷ s)) 2 1

unfoldable pub head_known : List ℕ → Bool
head_known s = pick (head_sends s) true (single (get_or s 0 0))

-- the command at a position, and the position behind it; past the end a stop of no bytes
unfoldable pub command_at : List ℕ → ℕ → Command
command_at s at = head_command (drop at s)

unfoldable pub next_at : List ℕ → ℕ → ℕ
next_at s at = at + head_width (drop at s)

unfoldable pub step_at : List ℕ → ℕ → Step
step_at s at = record { command = command_at s at; next = next_at s at }

-- the positions of the commands of bytes that begin at n
unfoldable pub places_from : ℕ → List ℕ → List ℕ
places_from n [] = []
places_from n (b ∷ []) = n ∷ []
places_from n (b ∷ v ∷ s) = n ∷ pick (eqb b 0x20) (places_from (n + 2) s) (places_from (n + 1) (v ∷ s))

-- those from a command's position on
unfoldable pub places : List ℕ → ℕ → List ℕ
places s at = places_from at (drop at s)

-- where a command leads: a start, a send, a read with its acknowledge bit, a stop
unfoldable pub leads : Where → (ℕ → Where) → (Bool → Where) → Where → Command → Where
leads start send read stop Start = start
leads start send read stop (Send b) = send b
leads start send read stop (Read level) = read level
leads start send read stop Stop = stop
leads start send read stop (Free p) = Wrong

-- a walk over the commands: what each place lets follow
unfoldable pub follows : Where → Command → Where
follows Begin = leads Address (λ _. Wrong) (λ _. Wrong) Wrong
follows Address = leads Wrong (λ a. pick (eqb (a % 2) 0) Sending Reading) (λ _. Wrong) Wrong
follows Sending = leads Address (λ _. Sending) (λ _. Wrong) End
follows Reading = leads Wrong (λ _. Wrong) (λ level. pick level Between Reading) Wrong
follows Between = leads Address (λ _. Wrong) (λ _. Wrong) End
follows End = λ _. Wrong
follows Wrong = λ _. Wrong

unfoldable pub walked : Where → List Command → Where
walked w [] = w
walked w (c ∷ l) = walked (follows w c) l

unfoldable pub at_end : Where → Bool
at_end Begin = false
at_end Address = false
at_end Sending = false
at_end Reading = false
at_end Between = false
at_end End = true
at_end Wrong = false

-- Do they form a script?
unfoldable pub is_script : List ℕ → Bool
is_script s = at_end (walked Begin (commands s))

-- Has the script 1 to 64 bytes?
unfoldable pub length_fits : List ℕ → Bool
length_fits s = pick (leb 1 (length s)) (leb (length s) 64) false

-- 0, or the number of the first question that is answered by no
unfoldable pub judged : List ℕ → ℕ
judged s = pick (length_fits s) (pick (complete s) (pick (is_script s) 0 7) 6) 5

unfoldable pub judged_as : (Result (Unit {0}) Refusal) → ℕ
judged_as (Ok tt) = 0
judged_as (Err q) = refusal_number q

unfoldable pub operand : Command → ℕ
operand Start = 0
operand (Send b) = b
operand (Read level) = 0
operand Stop = 0
operand (Free p) = 0

-- the second command of a script sends the first address
unfoldable pub first_address : List ℕ → ℕ
first_address s = operand (get_or (commands s) 1 Stop)

-- the first address with its lowest bit cleared
unfoldable pub device : List ℕ → ℕ
device s = first_address s - first_address s % 2
