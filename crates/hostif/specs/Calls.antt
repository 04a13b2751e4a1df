-- What the public calls of `command` and `token` yield: a refusal by its number, or what is left of the call.
use Rattle.std.specs.Prelude.{ℕ, ◌-◌, ◌≤◌, ◌≡◌, Bool, true, false, List, leb, length, Ok, Err, Some, None}
use Rattle.hardware.specs.declared.Answer.{Answer}
use Rattle.hardware.specs.declared.Port.{Port}
use Rattle.hardware.specs.Asked.{Asked, yes, no, question, and_then, open_port, valid_port, admitting}
use Rattle.hardware.specs.Numbers.{refusal_number}
use Rattle.hardware.specs.Prog.{Prog, ret, ask, erase, R, pick}
use Rattle.hardware.specs.Registers.{reply}
use Rattle.hostif.specs.declared.command.Command.{Command}
use Rattle.hostif.specs.declared.token.Token.{Token}
use Rattle.hostif.specs.Hostif.{Left, command, access_command, rest_command, valid_command, token, access_token, rest_token, valid_token}
use Rattle.hostif.specs.Left.{call_left, told_left}
use Rattle.hardware.specs.Runs.{Unrefused}
use Rattle.hardware.specs.Lent.{Lent, refused, goes, lent, asked}
use Rattle.hardware.specs.Promise.{Keeps, Bounds}
use Rattle.hostif.specs.Aliases.{CommandTold, TokenTold, CommandCall, TokenCall}
use Rattle.hardware.specs.declared.Told.TheVariants.{Ask, End}

-- Has the block 1 to 64 words?
unfoldable pub block_fits : List ℕ → Bool
block_fits block = pick (leb 1 (length block)) (leb (length block) 64) false

-- `command`: 1 and 2, then 8
unfoldable pub open_command : ℕ → ℕ → ℕ → List ℕ → Lent Left
open_command family device lan block =
    lent block (and_then (open_port family device lan) (λ port. question (block_fits block) 8 (yes (erase (command port block)))))

-- n: the words of the block
unfoldable pub valid_command_call : Port → ℕ → Command → Bool
valid_command_call port n t = pick (valid_port port) (valid_command port n t) false

-- a step: 8 again, 10, 11, 12. The finished state is well formed
unfoldable pub stepped : CommandCall → List ℕ → Answer → Asked (Prog Left)
stepped (Some (port, t)) block a =
    admitting (valid_command_call port (length block) t) (access_command port t block) a (yes (erase (rest_command port t block a)))
stepped None block a = no 11

unfoldable pub step_command : CommandCall → List ℕ → Answer → Lent Left
step_command s block a = lent block (question (block_fits block) 8 (stepped s block a))

-- what was told, with the block as it is then
unfoldable pub said_command : CommandTold → List ℕ → Lent Left
said_command (Ok (Ask x (Some (port, t)))) block = goes (ask x (λ a. erase (rest_command port t block a)))
said_command (Ok (Ask x None)) block = refused 0 block
said_command (Ok (End b)) block = goes (ret (record { status = reply b; block = block }))
said_command (Err q) block = refused (refusal_number q) block

-- a state to go on from comes with the access it awaits, and passes question 10 with the block as it is then
unfoldable pub stands_command : CommandTold → List ℕ → Type 0
stands_command (Ok (Ask x (Some (port, t)))) block = (x ≡ access_command port t block) × (valid_command_call port (length block) t ≡ true)
stands_command (Ok (Ask x None)) block = ⊥
stands_command (Ok (End b)) block = Unit {0}
stands_command (Err q) block = Unit {0}

-- a telling with the block as it is then, which is lent to the next step
pub record CommandAt : Type 0 where
  pub told : CommandTold
  pub block : List ℕ

abbrev pub said_at : CommandAt → Asked (Prog Left)
said_at t = asked (said_command t.told t.block)

-- what a step told, u, with the block c, follows what was told before it, t, with the block b: as the step promises. A lent
-- block keeps its length
unfoldable pub follows_block : CommandTold → List ℕ → Answer → CommandTold → List ℕ → Type 0
follows_block (Ok (Ask x s)) b a u c = Keeps (said_command u c ≡ step_command s b a) (stands_command u c) × (length c ≡ length b)
follows_block (Ok (End v)) b a u c = ⊥
follows_block (Err q) b a u c = ⊥

abbrev pub follows_command : CommandAt → Answer → CommandAt → Type 0
follows_command t a u = follows_block t.told t.block a u.told u.block

-- what an accepted step told, u, with the block c, follows what was told before it: as the step promises, where it was lent
-- a block b of its own
unfoldable pub follows_own : CommandTold → Answer → CommandTold → List ℕ → Type 0
follows_own (Ok (Ask x s)) a u c =
    Unrefused (asked (said_command u c)) × ((b : List ℕ) × Bounds (said_command u c ≡ step_command s b a) (stands_command u c) (told_left u ≤ call_left s - 1))
follows_own (Ok (End v)) a u c = ⊥
follows_own (Err q) a u c = ⊥

abbrev pub follows_lent : CommandAt → Answer → CommandAt → Type 0
follows_lent t a u = follows_own t.told a u.told u.block

-- `token`: 1 and 2
unfoldable pub open_token : ℕ → ℕ → ℕ → Bool → Asked (Prog (R Bool))
open_token family device lan take = and_then (open_port family device lan) (λ port. yes (erase (token port take)))

unfoldable pub valid_token_call : Port → Token → Bool
valid_token_call port t = pick (valid_port port) (valid_token port t) false

unfoldable pub step_token : TokenCall → Answer → Asked (Prog (R Bool))
step_token (Some (port, take, t)) a = admitting (valid_token_call port t) (access_token port t) a (yes (erase (rest_token port take t a)))
step_token None a = no 11

unfoldable pub said_token : TokenTold → Asked (Prog (R Bool))
said_token (Ok (Ask x (Some (port, take, t)))) = yes (ask x (λ a. erase (rest_token port take t a)))
said_token (Ok (Ask x None)) = no 0
said_token (Ok (End b)) = yes (ret (reply b))
said_token (Err q) = no (refusal_number q)

unfoldable pub stands_token : TokenTold → Type 0
stands_token (Ok (Ask x (Some (port, take, t)))) = (x ≡ access_token port t) × (valid_token_call port t ≡ true)
stands_token (Ok (Ask x None)) = ⊥
stands_token (Ok (End b)) = Unit {0}
stands_token (Err q) = Unit {0}

-- what a step told, u, follows what was told before it, t: as the step promises
unfoldable pub follows_token : TokenTold → Answer → TokenTold → Type 0
follows_token (Ok (Ask x s)) a u = Keeps (said_token u ≡ step_token s a) (stands_token u)
follows_token (Ok (End b)) a u = ⊥
follows_token (Err q) a u = ⊥
