-- Whole calls of `command` and `token`: for every port and block that is accepted and every list of answers the
-- library's run is the Rust's, and every list of answers of the awaited kinds that is long enough brings it to its end.
-- A state that was handed out is not refused at its next step. From any state a command ends, whatever block is lent to each
-- step.
use Prim.Native.Nat.{ℕ, ◌<◌, ◌≤◌, suc}
use mathlib.Core.Path.{◌≡◌, ap, ◌∙◌, subst, sym, refl}
use mathlib.Core.Bool.{Bool, true, false}
use mathlib.Core.List.{List, [], ◌∷◌}
use native.Mathlib.Omega.{arith}
use lib.ListN.{length}
use Rattle.hardware.specs.declared.Access.{Access}
use Rattle.hardware.specs.declared.Answer.{Answer}
use Rattle.hardware.specs.declared.Port.{Port}
use Rattle.hardware.specs.Asked.{yes, and_then, question, open_port, fits, admitting, Asked, no}
use Rattle.hardware.specs.Prog.{Prog, R, erase}
use Rattle.hardware.specs.Runs.{run, run_asked, Awaited, ended, AwaitedIn, left_after, left_asked_after, Exchange, answers_of, AllKept, driven, Refuses, Asks, IfYes, Lasts, Unrefused}
use Rattle.hardware.proofs.Laws.{runs_open, is_true, StepsOn, opened_runs, refused_runs}
use Rattle.hardware.proofs.Longest.{Falls, lasting_falls, Accepts, steps_few, number_few}
use Rattle.hardware.proofs.Ends.{run_ends, ask_ends, ends_erase}
use Rattle.hostif.specs.declared.command.Command.{Command}
use Rattle.hostif.specs.declared.token.Token.{Token}
use Rattle.hostif.specs.Hostif.{Left, command, rest_command, token, rest_token}
use Rattle.hostif.specs.Left.{call_left, told_left}
use Rattle.hostif.specs.Calls.{block_fits, open_command, stepped, step_command, said_command, stands_command, open_token, step_token, said_token, stands_token, follows_token, CommandAt, said_at, follows_command, follows_block, follows_own, follows_lent}
use Rattle.hardware.specs.Lent.{goes, lent, asked}
use Rattle.hostif.proofs.Ends.{COMMAND_STEPS, command_ends, TOKEN_STEPS, token_ends, token_after, token_rest_ends, command_after, command_rest_ends}
use Rattle.hostif.proofs.Left.{command_some, command_left_lem}
use Rattle.hardware.specs.Promise.{Keeps}
use Rattle.hardware.proofs.Prog.{run_erase}
use Rattle.hostif.specs.Aliases.{CommandTold, TokenTold}
use Rattle.hardware.specs.declared.Told.TheVariants.{Ask, End}
use Rattle.std.specs.Prelude.{Ok, Err, Some, None}

-- an accepted command goes on as the Rust's, from the first access to the block that it leaves
pub command_goes : (family device lan : ℕ) (block : List ℕ) (port : Port) (r : CommandTold)
    → said_command r block ≡ open_command family device lan block → open_port family device lan ≡ yes port → block_fits block ≡ true
    → said_command r block ≡ goes (erase (command port block))
unfolding open_command lent and_then question
command_goes family device lan block port r e p b = rw (p, b) at e

pub command_runs : (port : Port) (block : List ℕ) (l : List Answer) → run (erase (command port block)) l ≡ run (command port block) l
command_runs port block l = ap (λ f. f l) (run_erase (command port block))

pub command_finishes : (port : Port) (block : List ℕ) (l : List Answer) → COMMAND_STEPS port.family (length block) ≤ length l
    → Awaited (command port block) l → (v : Left) × ((run (command port block) l).status ≡ ended v)
command_finishes port block l h w = run_ends (command port block) (COMMAND_STEPS port.family (length block)) l (command_ends port block) h w

-- a state that was handed out, with its block and any answer of the kind that its access awaits, is not refused
pub command_accepts : (x : Access) (port : Port) (t : Command) (block : List ℕ) (a : Answer)
    → stands_command (Ok (Ask x (Some (port, t)))) block → block_fits block ≡ true → fits x a ≡ true
    → step_command (Some (port, t)) block a ≡ goes (erase (rest_command port t block a))
unfolding stands_command step_command stepped lent admitting question
command_accepts x port t block a h b e = rw (b, h.1, ← h.0, e)

-- a telling whose state can be stepped on from, with an accepted block
abbrev pub stands_at : CommandAt → Type 0
stands_at t = stands_command t.told t.block × (block_fits t.block ≡ true)

block_on : (t : CommandTold) (b : List ℕ) (a : Answer) (u : CommandTold) (c : List ℕ) → stands_command t b → block_fits b ≡ true → follows_block t b a u c
    → AwaitedIn (asked (said_command t b)) (a ∷ [])
    → (asked (said_command u c) ≡ left_asked_after (asked (said_command t b)) a) × (stands_command u c × (block_fits c ≡ true)) × IfYes Asks (asked (said_command t b))
unfolding follows_block said_command stands_command asked AwaitedIn Awaited left_asked_after left_after block_fits IfYes Asks
block_on (Ok (Ask y (Some (port, t)))) b a u c h f k w =
    (ap asked (k.0.yields ∙ command_accepts y port t b a h f (is_true (fits y a) w.0)), (k.0.limits, rw k.1 f), tt)
block_on (Ok (Ask y None)) b a u c h f k w = absurd h
block_on (Ok (End v)) b a u c h f k w = absurd k
block_on (Err q) b a u c h f k w = absurd k

pub command_steps_on : StepsOn said_at follows_command stands_at
command_steps_on t u a h k w = block_on t.told t.block a u.told u.block h.0 h.1 k w

-- an opening's questions and then the run
command_opened : (block : List ℕ) (l : List Answer) (o : Asked Port) (b : Bool)
    → run_asked (asked (lent block (and_then o (λ port. question b 8 (yes (erase (command port block))))))) l
    ≡ and_then o (λ port. question b 8 (yes (run (command port block) l)))
unfolding lent asked and_then question run_asked
command_opened block l (no n) b = refl
command_opened block l (yes port) false = refl
command_opened block l (yes port) true = ap yes (command_runs port block l)

command_refuses : (block : List ℕ) (o : Asked Port) (b : Bool) → b ≡ false → Refuses (asked (lent block (and_then o (λ port. question b 8 (yes (erase (command port block)))))))
unfolding lent asked and_then question Refuses
command_refuses block (no n) b e = tt
command_refuses block (yes port) b e = rw e tt

-- from the opening on, driven by steps that keep their promises, the block lent to each as the one before left it
pub command_driven : (family device lan : ℕ) (block : List ℕ) (t : CommandTold) → Keeps (said_command t block ≡ open_command family device lan block) (stands_command t block)
    → (ks : List (Exchange CommandAt)) → AllKept follows_command (record { told = t; block = block }) ks → AwaitedIn (asked (open_command family device lan block)) (answers_of ks)
    → driven said_at (record { told = t; block = block }) ks
    ≡ and_then (open_port family device lan) (λ port. question (block_fits block) 8 (yes (run (command port block) (answers_of ks))))
unfolding open_command
command_driven family device lan block t k ks kept w =
    by (block_fits block) refl ∙ ap (λ q. run_asked (asked q) (answers_of ks)) k.yields ∙ command_opened block (answers_of ks) (open_port family device lan) (block_fits block)
  where
    by : (b : Bool) → block_fits block ≡ b → driven said_at (record { told = t; block = block }) ks ≡ run_asked (asked (said_command t block)) (answers_of ks)
    by true e =
        opened_runs said_at follows_command stands_at command_steps_on (record { told = t; block = block }) ks (record { yields = ap asked k.yields; limits = (k.limits, e) }) kept w
    by false e =
        refused_runs said_at (record { told = t; block = block }) ks (subst (λ q. Refuses (asked q)) (sym k.yields) (command_refuses block (open_port family device lan) (block_fits block) e))

-- from any state that passes question 10, whoever made it, the call takes at most so many steps more, with a block that only
-- the steps alter
pub command_lasts : (x : Access) (port : Port) (s : Command) (block : List ℕ) (ks : List (Exchange CommandAt)) → stands_command (Ok (Ask x (Some (port, s)))) block → block_fits block ≡ true
    → AllKept (Accepts said_at follows_command) (record { told = Ok (Ask x (Some (port, s))); block = block }) ks → Lasts said_at (record { told = Ok (Ask x (Some (port, s))); block = block }) ks (suc (command_after (length block) s))
unfolding said_command asked IfYes
command_lasts x port s block ks h f k =
    steps_few said_at follows_command stands_at command_steps_on (record { told = Ok (Ask x (Some (port, s))); block = block }) ks (suc (command_after (length block) s)) (h, f) k
    (ask_ends x _ (command_after (length block) s) (λ a. ends_erase _ _ (command_rest_ends port s block a)))

-- its number falls at every accepted step
pub command_falls : Falls said_at follows_command stands_at
command_falls = lasting_falls said_at follows_command stands_at command_steps_on

over_refuses : (b : List ℕ) (a : Answer) → Unrefused (asked (step_command None b a)) → ⊥
unfolding IfYes asked step_command stepped lent question
over_refuses b a = by (block_fits b)
  where
    by : (f : Bool) → Unrefused {A = Prog Left} (asked (lent b (question f 8 (no 11)))) → ⊥
    by true h = h
    by false h = h

-- Whatever block is lent to each step, the number falls at every one that is accepted: of the finished state none is
pub own_falls : (t : CommandTold) (a : Answer) (u : CommandTold) (c : List ℕ) → follows_own t a u c → Unrefused (asked (said_command u c)) × (told_left u < told_left t)
unfolding follows_own told_left call_left
own_falls (Ok (Ask x (Some (port, s)))) a u c k = (k.0, omega (arith, k.1.1.within, command_some port s))
own_falls (Ok (Ask x None)) a u c k = absurd (over_refuses k.1.0 a (subst (λ q. Unrefused (asked q)) k.1.1.yields k.0))
own_falls (Ok (End b)) a u c k = absurd k
own_falls (Err q) a u c k = absurd k

own_ends : (t : CommandTold) (b : List ℕ) → Unrefused (asked (said_command t b)) → told_left t ≡ 0 → IfYes (λ p. Asks p → ⊥) (asked (said_command t b))
unfolding told_left call_left said_command asked IfYes Asks
own_ends (Ok (Ask x (Some (port, s)))) b g e = absurd (omega (arith, e, command_some port s))
own_ends (Ok (Ask x None)) b g e = absurd g
own_ends (Ok (End v)) b g e = λ z. z
own_ends (Err q) b g e = absurd g

-- so with at most n accesses left, as the contract of an opening says of what it tells, the call takes at most n accepted steps more,
-- each lent a block of its own, and has ended after n
pub command_lasts_within : (t : CommandAt) (ks : List (Exchange CommandAt)) (n : ℕ) → Unrefused (said_at t) → told_left t.told ≤ n → AllKept follows_lent t ks → Lasts said_at t ks n
command_lasts_within t ks n g w k =
    number_few said_at follows_lent (λ t. Unrefused (said_at t)) (λ t. told_left t.told)
    (λ t u a s k. own_falls t.told a u.told u.block k) (λ t s e. own_ends t.told t.block s e) t ks n g w k

-- from any state, whoever made it
pub command_lasts_lent : (x : Access) (port : Port) (s : Command) (block : List ℕ) (ks : List (Exchange CommandAt))
    → AllKept follows_lent (record { told = Ok (Ask x (Some (port, s))); block = block }) ks
    → Lasts said_at (record { told = Ok (Ask x (Some (port, s))); block = block }) ks (suc (command_after 64 s))
unfolding IfYes said_command asked told_left call_left
command_lasts_lent x port s block ks k = command_lasts_within _ ks (suc (command_after 64 s)) tt (command_left_lem port s) k

pub token_runs : (family device lan : ℕ) (take : Bool) (r : TokenTold) → said_token r ≡ open_token family device lan take → (l : List Answer)
    → run_asked (said_token r) l ≡ and_then (open_port family device lan) (λ port. yes (run (token port take) l))
unfolding open_token
token_runs family device lan take r e l = ap (λ x. run_asked x l) e ∙ runs_open (open_port family device lan) (λ port. token port take) l

pub token_finishes : (port : Port) (take : Bool) (l : List Answer) → TOKEN_STEPS port.family ≤ length l → Awaited (token port take) l
    → (v : R Bool) × ((run (token port take) l).status ≡ ended v)
token_finishes port take l h w = run_ends (token port take) (TOKEN_STEPS port.family) l (token_ends port take) h w

pub token_accepts : (x : Access) (port : Port) (take : Bool) (t : Token) (a : Answer) → stands_token (Ok (Ask x (Some (port, take, t))))
    → fits x a ≡ true → step_token (Some (port, take, t)) a ≡ yes (erase (rest_token port take t a))
unfolding stands_token step_token admitting question
token_accepts x port take t a h e = rw (h.1, ← h.0, e)

pub token_steps_on : StepsOn said_token follows_token stands_token
unfolding follows_token said_token stands_token AwaitedIn Awaited left_asked_after left_after IfYes Asks
token_steps_on (Ok (Ask y (Some (port, take, t)))) u a h k w = (k.yields ∙ token_accepts y port take t a h (is_true (fits y a) w.0), k.limits, tt)
token_steps_on (Ok (Ask y None)) u a h k w = absurd h
token_steps_on (Ok (End b)) u a h k w = absurd k
token_steps_on (Err q) u a h k w = absurd k

-- its number falls at every accepted step
pub token_falls : Falls said_token follows_token stands_token
token_falls = lasting_falls said_token follows_token stands_token token_steps_on

-- from the opening on, driven by steps that keep their promises
pub token_driven : (family device lan : ℕ) (take : Bool) (t : TokenTold) → Keeps (said_token t ≡ open_token family device lan take) (stands_token t) → (ks : List (Exchange TokenTold)) → AllKept follows_token t ks
    → AwaitedIn (open_token family device lan take) (answers_of ks) → driven said_token t ks ≡ and_then (open_port family device lan) (λ port. yes (run (token port take) (answers_of ks)))
token_driven family device lan take t k ks kept w = opened_runs said_token follows_token stands_token token_steps_on t ks k kept w ∙ token_runs family device lan take t k.yields (answers_of ks)

-- from any state that passes question 10, whoever made it, the call takes at most so many steps more
pub token_lasts : (x : Access) (port : Port) (take : Bool) (s : Token) (ks : List (Exchange TokenTold)) → stands_token (Ok (Ask x (Some (port, take, s))))
    → AllKept (Accepts said_token follows_token) (Ok (Ask x (Some (port, take, s)))) ks → Lasts said_token (Ok (Ask x (Some (port, take, s)))) ks (suc (token_after s))
unfolding said_token IfYes
token_lasts x port take s ks h k =
    steps_few said_token follows_token stands_token token_steps_on (Ok (Ask x (Some (port, take, s)))) ks (suc (token_after s)) h k (ask_ends x _ (token_after s) (λ a. ends_erase _ _ (token_rest_ends port take s a)))
