-- How many answers of the awaited kinds bring a firmware command to its end, n words in its block.
use Prim.Native.Nat.{ℕ, ◌+◌, ◌*◌, suc, zero, ◌≤◌}
use mathlib.Core.Path.{◌≡◌, refl}
use mathlib.Core.Bool.{Bool, true, false}
use mathlib.Core.List.{List, [], ◌∷◌}
use native.Mathlib.Omega.{arith}
use borrow.Author.Tests.{ltb-false}
use lib.ListN.{length, drop}
use Rattle.hardware.specs.declared.Family.{Family}
use Rattle.hardware.specs.declared.Port.{Port}
use Rattle.hardware.specs.Prog.{Prog, R, Ok, Err, pick}
use Rattle.hardware.specs.Runs.{Ends}
use Rattle.hardware.proofs.Ends.{ends_more, ends_bind, ends_try, ends_pick, ret_ends, note_ends, read_ends, read_raw_ends, write_ends, unflushed_ends, poll_ends, ends_or, update_after, poll_after, update_rest_ends, poll_rest_ends}
use Rattle.sync.specs.Regs.{SW_MNG, tries}
use Rattle.sync.proofs.Ends.{ACQUIRE_BITS_STEPS, RELEASE_BITS_STEPS, acquire_bits_ends, release_bits_ends, acquire_bits_after, release_bits_after, acquire_bits_rest_ends, release_bits_rest_ends}
use Rattle.hostif.specs.Hostif.{POLLS, Left, words, completed, polling, start, enabled, hicr_read, request, word_seen, len_of, words_of, fill, head_seen, respond, closed, released, requested, acquired, command, token_block, tokened, token, rest_request, rest_response, rest_command, token_words, rest_token}
use Rattle.hardware.specs.declared.Answer.{Answer}
use Rattle.hostif.specs.declared.request.Request.{Request}
use Rattle.hostif.specs.declared.request.Request.TheVariants.{Fwsts, Hicr, Word, Start, Polling}
use Rattle.hostif.specs.declared.response.Response.{Response}
use Rattle.hostif.specs.declared.response.Response.TheVariants.{Head, Rest}
use Rattle.hostif.specs.declared.command.Command.{Command}
use Rattle.hostif.specs.declared.command.Command.TheVariants.{Acquiring, Requesting, Responding, Releasing}
use Rattle.hostif.specs.declared.token.Token.{Token}

-- FWSTS read and written, HICR read, the words, HICR written, a read and a wait for each poll
abbrev pub REQUEST_STEPS : ℕ → ℕ
REQUEST_STEPS n = 2 + (1 + (n + (1 + 2 * POLLS)))

-- the head, and the words behind it, which fit the block
abbrev pub RESPOND_STEPS : ℕ → ℕ
RESPOND_STEPS n = 1 + n

-- under SW_MNG
abbrev pub COMMAND_STEPS : Family → ℕ → ℕ
COMMAND_STEPS family n = ACQUIRE_BITS_STEPS (tries family) + (REQUEST_STEPS n + (RESPOND_STEPS n + RELEASE_BITS_STEPS))

-- a command of two words
abbrev pub TOKEN_STEPS : Family → ℕ
TOKEN_STEPS family = COMMAND_STEPS family 2

words_ends : (at : ℕ) (l : List ℕ) (k : Prog (R ℕ)) (m : ℕ) → Ends k m → Ends (words at l k) (length l + m)
unfolding words
words_ends at [] k m e = ends_more _ m (0 + m) e (omega arith)
words_ends at (v ∷ l) k m e =
    ends_more _ (1 + (length l + m)) (length (v ∷ l) + m)
    (ends_try _ _ 1 (length l + m) (write_ends _ _) (λ _. words_ends (at + 1) l k m e))
    (omega arith)

completed_ends : (last : ℕ) → Ends (completed last) 0
unfolding completed
completed_ends last = ends_pick _ _ _ 0 (ends_pick _ _ _ 0 (ret_ends _ 0) (ret_ends _ 0)) (ret_ends _ 0)

start_ends : (hicr : ℕ) → Ends (start hicr) (1 + 2 * POLLS)
unfolding start polling
start_ends hicr =
    ends_try _ _ 1 (2 * POLLS) (write_ends _ _) (λ _. ends_try _ _ (2 * POLLS) 0 (poll_ends _ POLLS _) (λ last. completed_ends last))

hicr_read_ends : (block : List ℕ) → Ends (hicr_read block) (1 + (length block + (1 + 2 * POLLS)))
unfolding hicr_read enabled
hicr_read_ends block =
    ends_try _ _ 1 (length block + (1 + 2 * POLLS)) (read_ends _)
    (λ hicr. ends_pick _ _ _ (length block + (1 + 2 * POLLS)) (ret_ends _ _) (words_ends 0 block _ (1 + 2 * POLLS) (start_ends hicr)))

pub request_ends : (block : List ℕ) → Ends (request block) (REQUEST_STEPS (length block))
unfolding request
request_ends block = ends_try _ _ 2 (1 + (length block + (1 + 2 * POLLS))) (unflushed_ends _ refl) (λ _. hicr_read_ends block)

seen_ends : (again : List ℕ → Prog Left) (at : ℕ) (block : List ℕ) (m : ℕ) → ((l : List ℕ) → Ends (again l) m) → (r : R ℕ) → Ends (word_seen again at block r) m
unfolding word_seen
seen_ends again at block m d (Ok v) = d _
seen_ends again at block m d (Err e) = ret_ends _ m

fill_ends : (head n : ℕ) (block : List ℕ) → Ends (fill head n block) n
unfolding fill
fill_ends head zero block = ret_ends _ 0
fill_ends head (suc n) block =
    ends_more _ (1 + n) (suc n)
    (ends_bind _ _ 1 n (read_raw_ends _) (λ r. seen_ends (fill head n) _ block n (fill_ends head n) r))
    (omega arith)

-- where the test fails, it is known to
ends_else : {A : Type 0} (b : Bool) (p q : Prog A) (n : ℕ) → Ends p n → (b ≡ false → Ends q n) → Ends (pick b p q) n
unfolding pick
ends_else true p q n e d = e
ends_else false p q n e d = d refl

head_ends : (last : ℕ) (block : List ℕ) (r : R ℕ) → Ends (head_seen last block r) (length block)
unfolding head_seen words_of
head_ends last block (Ok head) =
    ends_else _ _ _ (length block) (ret_ends _ _)
    (λ e. ends_more _ (words_of head) (length block) (fill_ends head _ _) (omega (arith, ltb-false (4 * length block) (len_of head + 4) e)))
head_ends last block (Err e) = ret_ends _ _

pub respond_ends : (last : ℕ) (block : List ℕ) → Ends (respond last block) (RESPOND_STEPS (length block))
unfolding respond
respond_ends last block = ends_bind _ _ 1 (length block) (read_raw_ends _) (λ r. head_ends last block r)

released_ends : (port : Port) (left : Left) → Ends (released port left) RELEASE_BITS_STEPS
unfolding released closed
released_ends port left = note_ends _ _ _ (ends_bind _ _ RELEASE_BITS_STEPS 0 (release_bits_ends port SW_MNG) (λ r. ret_ends _ 0))

requested_ends : (port : Port) (block : List ℕ) (r : R ℕ) → Ends (requested port block r) (RESPOND_STEPS (length block) + RELEASE_BITS_STEPS)
unfolding requested
requested_ends port block (Err e) =
    ends_more _ RELEASE_BITS_STEPS (RESPOND_STEPS (length block) + RELEASE_BITS_STEPS) (released_ends port _) (omega arith)
requested_ends port block (Ok last) =
    ends_bind _ _ (RESPOND_STEPS (length block)) RELEASE_BITS_STEPS (respond_ends last block) (λ left. released_ends port left)

acquired_ends : (port : Port) (block : List ℕ) (r : R (Unit {0}))
    → Ends (acquired port block r) (REQUEST_STEPS (length block) + (RESPOND_STEPS (length block) + RELEASE_BITS_STEPS))
unfolding acquired
acquired_ends port block (Err e) = ret_ends _ _
acquired_ends port block (Ok u) =
    note_ends _ _ _
    (ends_bind _ _ (REQUEST_STEPS (length block)) (RESPOND_STEPS (length block) + RELEASE_BITS_STEPS) (request_ends block) (λ r. requested_ends port block r))

pub command_ends : (port : Port) (block : List ℕ) → Ends (command port block) (COMMAND_STEPS port.family (length block))
unfolding command
command_ends port block =
    note_ends _ _ _
    (ends_bind _ _ (ACQUIRE_BITS_STEPS (tries port.family)) (REQUEST_STEPS (length block) + (RESPOND_STEPS (length block) + RELEASE_BITS_STEPS))
    (acquire_bits_ends port SW_MNG) (λ r. acquired_ends port block r))

pub token_ends : (port : Port) (take : Bool) → Ends (token port take) (TOKEN_STEPS port.family)
unfolding token tokened token_block
token_ends port take =
    ends_more _ (TOKEN_STEPS port.family + 0) (TOKEN_STEPS port.family)
    (ends_bind _ _ (TOKEN_STEPS port.family) 0 (command_ends port (token_block port take)) (λ left. ret_ends _ 0))
    (omega arith)

-- the answers that each machine may still need after the one it awaits, n words in the block
abbrev pub request_after : ℕ → Request → ℕ
request_after n (Fwsts t) = update_after t + (1 + (n + (1 + 2 * POLLS)))
request_after n Hicr = n + (1 + 2 * POLLS)
request_after n (Word hicr at) = n + (1 + 2 * POLLS)
request_after n (Start hicr) = 2 * POLLS
request_after n (Polling t) = poll_after t

abbrev pub response_after : ℕ → Response → ℕ
response_after n (Head last) = n
response_after n (Rest head left) = left

abbrev pub command_after : ℕ → Command → ℕ
command_after n (Acquiring t) = acquire_bits_after t + (REQUEST_STEPS n + (RESPOND_STEPS n + RELEASE_BITS_STEPS))
command_after n (Requesting t) = request_after n t + (RESPOND_STEPS n + RELEASE_BITS_STEPS)
command_after n (Responding t) = response_after n t + RELEASE_BITS_STEPS
command_after n (Releasing t s) = release_bits_after t

abbrev pub token_after : Token → ℕ
token_after s = command_after 2 s.command

drop_few : (n : ℕ) (l : List ℕ) → length (drop n l) ≤ length l
drop_few zero l = omega arith
drop_few (suc n) [] = omega arith
drop_few (suc n) (v ∷ l) = omega (arith, drop_few n l)

request_rest_ends : (t : Request) (block : List ℕ) (a : Answer) → Ends (rest_request t block a) (request_after (length block) t)
unfolding rest_request enabled polling
request_rest_ends (Fwsts t) block a = ends_try _ _ (update_after t) _ (update_rest_ends _ t a) (λ _. hicr_read_ends block)
request_rest_ends Hicr block a =
    ends_or _ _ _ (λ hicr. ends_pick _ _ _ (length block + (1 + 2 * POLLS)) (ret_ends _ _) (words_ends 0 block _ (1 + 2 * POLLS) (start_ends hicr)))
request_rest_ends (Word hicr at) block a =
    ends_or _ _ _ (λ _. ends_more _ (length (drop (at + 1) block) + (1 + 2 * POLLS)) (length block + (1 + 2 * POLLS)) (words_ends (at + 1) (drop (at + 1) block) _ (1 + 2 * POLLS) (start_ends hicr))
    (omega (arith, drop_few (at + 1) block)))
request_rest_ends (Start hicr) block a = ends_or _ _ _ (λ _. ends_more _ (2 * POLLS + 0) (2 * POLLS) (ends_try _ _ (2 * POLLS) 0 (poll_ends _ POLLS _) (λ last. completed_ends last)) (omega arith))
request_rest_ends (Polling t) block a = ends_more _ (poll_after t + 0) (poll_after t) (ends_try _ _ (poll_after t) 0 (poll_rest_ends _ t a) (λ last. completed_ends last)) (omega arith)

response_rest_ends : (t : Response) (block : List ℕ) (a : Answer) → Ends (rest_response t block a) (response_after (length block) t)
unfolding rest_response
response_rest_ends (Head last) block a = head_ends last block _
response_rest_ends (Rest head left) block a = seen_ends (fill head left) _ block left (fill_ends head left) _

pub command_rest_ends : (port : Port) (t : Command) (block : List ℕ) (a : Answer) → Ends (rest_command port t block a) (command_after (length block) t)
unfolding rest_command closed
command_rest_ends port (Acquiring t) block a =
    ends_bind _ _ (acquire_bits_after t) _ (acquire_bits_rest_ends port SW_MNG t a) (λ r. acquired_ends port block r)
command_rest_ends port (Requesting t) block a = ends_bind _ _ (request_after (length block) t) _ (request_rest_ends t block a) (λ r. requested_ends port block r)
command_rest_ends port (Responding t) block a =
    ends_bind _ _ (response_after (length block) t) RELEASE_BITS_STEPS (response_rest_ends t block a) (λ left. released_ends port left)
command_rest_ends port (Releasing t s) block a =
    ends_more _ (release_bits_after t + 0) (release_bits_after t) (ends_bind _ _ (release_bits_after t) 0 (release_bits_rest_ends port SW_MNG t a) (λ r. ret_ends _ 0)) (omega arith)

pub token_rest_ends : (port : Port) (take : Bool) (t : Token) (a : Answer) → Ends (rest_token port take t a) (token_after t)
unfolding rest_token tokened
token_rest_ends port take t a =
    ends_more _ (token_after t + 0) (token_after t) (ends_bind _ _ (token_after t) 0 (command_rest_ends port t.command (token_words t) a) (λ left. ret_ends _ 0)) (omega arith)
