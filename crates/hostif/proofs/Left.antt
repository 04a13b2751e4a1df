-- The number of each state of a firmware command is above 0, and at most what `Ends` has.
use Prim.Native.Nat.{ℕ, ◌+◌, ◌<◌, ◌≤◌, suc}
use mathlib.Core.Path.{◌≡◌, refl}
use native.Mathlib.Omega.{arith}
use Rattle.hardware.specs.declared.Port.{Port}
use Rattle.hardware.specs.declared.Update.TheVariants.{Reading}
use Rattle.hardware.specs.Change.{change, access_update, rest_update, update_next}
use Rattle.hardware.specs.Longest.{longest}
use Rattle.hardware.specs.Poll.{poll_next}
use Rattle.hardware.specs.Prog.{erase, ◌>>=◌}
use Rattle.hardware.proofs.Ends.{ends_erase, ask_ends, unflushed_ends, update_after, poll_after, update_rest_ends, poll_rest_ends}
use Rattle.hardware.proofs.Longest.{longest_few}
use Rattle.sync.specs.Regs.{SW_MNG}
use Rattle.sync.specs.Resource.{acquire_bits_next, release_bits_next}
use Rattle.sync.proofs.Ends.{RELEASE_BITS_STEPS, acquire_bits_ends, release_bits_ends, acquire_bits_after, release_bits_after, acquire_bits_rest_ends, release_bits_rest_ends}
use Rattle.hostif.specs.declared.request.Request.{Request}
use Rattle.hostif.specs.declared.request.Request.TheVariants.{Fwsts, Hicr, Word, Start, Polling}
use Rattle.hostif.specs.declared.response.Response.{Response}
use Rattle.hostif.specs.declared.response.Response.TheVariants.{Head, Rest}
use Rattle.hostif.specs.declared.command.Command.{Command}
use Rattle.hostif.specs.declared.command.Command.TheVariants.{Acquiring, Requesting, Responding, Releasing}
use Rattle.hostif.specs.Hostif.{set_fwri, len_of, words_of}
use Rattle.hostif.specs.Left.{request_left, response_left, release_left, respond_left, acquired_left, opened_left, command_left}
use Rattle.hostif.proofs.Ends.{COMMAND_STEPS, REQUEST_STEPS, RESPOND_STEPS, request_after, response_after, command_after}
use Rattle.hardware.specs.declared.Next.TheVariants.{Going}

-- with the number of what comes first falls that of the whole, m coming after
pub sum_falls : {n p q : ℕ} (m : ℕ) → n ≤ p + m → p < q → n < q + m
sum_falls m h k = omega arith

-- a response has at most 64 words after its head
pub words_few : (n head : ℕ) → n ≡ words_of head → n ≤ 64
unfolding words_of len_of
words_few n head e = omega (arith, e)

-- a state awaits an access
request_some : (s : Request) → 0 < request_left s
unfolding request_left longest poll_next
request_some (Fwsts t) = omega arith
request_some Hicr = omega arith
request_some (Word hicr at) = omega arith
request_some (Start hicr) = omega arith
request_some (Polling t) = omega arith

response_some : (s : Response) → 0 < response_left s
unfolding response_left
response_some (Head last) = omega arith
response_some (Rest head left) = omega arith

pub command_some : (port : Port) (s : Command) → 0 < command_left port s
unfolding command_left longest acquire_bits_next release_bits_next
command_some port (Acquiring t) = omega arith
command_some port (Requesting t) = omega (arith, request_some t)
command_some port (Responding t) = omega (arith, response_some t)
command_some port (Releasing t s) = omega arith

-- the bound of each state
request_left_lem : (s : Request) → request_left s ≤ suc (request_after 64 s)
unfolding request_left update_next poll_next
request_left_lem (Fwsts t) =
    let d : longest (update_next set_fwri (Going t)) ≤ suc (update_after t) = longest_few _ _ (ask_ends _ _ (update_after t) (λ a. ends_erase _ _ (update_rest_ends _ t a))) in
    omega arith
request_left_lem Hicr = omega arith
request_left_lem (Word hicr at) = omega arith
request_left_lem (Start hicr) = omega arith
request_left_lem (Polling t) = longest_few _ _ (ask_ends _ _ (poll_after t) (λ a. ends_erase _ _ (poll_rest_ends _ t a)))

response_left_lem : (s : Response) → response_left s ≤ suc (response_after 64 s)
unfolding response_left
response_left_lem (Head last) = omega arith
response_left_lem (Rest head left) = omega arith

release_left_lem : (port : Port) → release_left port ≤ RELEASE_BITS_STEPS
release_left_lem port = longest_few _ _ (release_bits_ends port SW_MNG)

respond_left_lem : (port : Port) → respond_left port ≤ RESPOND_STEPS 64 + RELEASE_BITS_STEPS
respond_left_lem port = omega (arith, release_left_lem port)

acquired_left_lem : (port : Port) → acquired_left port ≤ REQUEST_STEPS 64 + (RESPOND_STEPS 64 + RELEASE_BITS_STEPS)
unfolding request_left update_next change access_update rest_update erase ◌>>=◌
acquired_left_lem port =
    let d : longest (update_next set_fwri (Going Reading)) ≤ 2 = longest_few _ _ (ends_erase _ 2 (unflushed_ends set_fwri refl)) in
    omega (arith, respond_left_lem port)

-- a whole command, with no more words than 64 in the blocks that are lent
pub opened_left_lem : (port : Port) → opened_left port ≤ COMMAND_STEPS port.family 64
opened_left_lem port = omega (arith, longest_few _ _ (acquire_bits_ends port SW_MNG), acquired_left_lem port)

pub command_left_lem : (port : Port) (s : Command) → command_left port s ≤ suc (command_after 64 s)
unfolding command_left acquire_bits_next release_bits_next
command_left_lem port (Acquiring t) =
    let d : longest (acquire_bits_next port SW_MNG (Going t)) ≤ suc (acquire_bits_after t) = longest_few _ _ (ask_ends _ _ (acquire_bits_after t) (λ a. ends_erase _ _ (acquire_bits_rest_ends port SW_MNG t a))) in
    omega (arith, acquired_left_lem port)
command_left_lem port (Requesting t) = omega (arith, request_left_lem t, respond_left_lem port)
command_left_lem port (Responding t) = omega (arith, response_left_lem t, release_left_lem port)
command_left_lem port (Releasing t s) = longest_few _ _ (ask_ends _ _ (release_bits_after t) (λ a. ends_erase _ _ (release_bits_rest_ends port SW_MNG t a)))
