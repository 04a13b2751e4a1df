-- The accesses left of a firmware command, at most, the awaited one counted: a number of the state, whatever block of 1 to 64
-- words is lent to each step. It falls at every accepted step.
use Rattle.std.specs.Prelude.{ℕ, ◌+◌, ◌*◌, ◌-◌, Ok, Err, Some, None}
use Rattle.hardware.specs.declared.Port.{Port}
use Rattle.hardware.specs.declared.Update.TheVariants.{Reading}
use Rattle.hardware.specs.Change.{update_next}
use Rattle.hardware.specs.Poll.{poll_next}
use Rattle.hardware.specs.Longest.{longest}
use Rattle.sync.specs.Regs.{SW_MNG}
use Rattle.sync.specs.Resource.{acquire_bits, acquire_bits_next, release_bits, release_bits_next}
use Rattle.hostif.specs.declared.request.Request.{Request}
use Rattle.hostif.specs.declared.request.Request.TheVariants.{Fwsts, Hicr, Word, Start, Polling}
use Rattle.hostif.specs.declared.response.Response.{Response}
use Rattle.hostif.specs.declared.response.Response.TheVariants.{Head, Rest}
use Rattle.hostif.specs.declared.command.Command.{Command}
use Rattle.hostif.specs.declared.command.Command.TheVariants.{Acquiring, Requesting, Responding, Releasing}
use Rattle.hostif.specs.Hostif.{POLLS, hicr_watch, set_fwri}
use Rattle.hostif.specs.Aliases.{RequestNext, CommandTold, ResponseNext, CommandNext, CommandCall}
use Rattle.hardware.specs.declared.Next.TheVariants.{Going, End}
use Rattle.hardware.specs.declared.Told.TheVariants.{Ask, End as Ends}

-- HICR written, a read and a wait for each poll
abbrev pub START_LEFT : ℕ
START_LEFT = 1 + 2 * POLLS

-- HICR read, and the words of the longest block
abbrev pub HICR_LEFT : ℕ
HICR_LEFT = 1 + (64 + START_LEFT)

-- a response's head, and the words of the longest, whose length is a byte
abbrev pub HEAD_LEFT : ℕ
HEAD_LEFT = 1 + 64

-- of a word, those at the later places below 64
unfoldable pub request_left : Request → ℕ
request_left (Fwsts t) = longest (update_next set_fwri (Going t)) + HICR_LEFT
request_left Hicr = HICR_LEFT
request_left (Word hicr at) = 1 + (63 - at + START_LEFT)
request_left (Start hicr) = START_LEFT
request_left (Polling t) = longest (poll_next hicr_watch (Going t))

unfoldable pub request_next_left : RequestNext → ℕ
request_next_left (Going s) = request_left s
request_next_left (End w) = 0

unfoldable pub response_left : Response → ℕ
response_left (Head last) = HEAD_LEFT
response_left (Rest head left) = 1 + left

unfoldable pub response_next_left : ResponseNext → ℕ
response_next_left (Going s) = response_left s
response_next_left (End b) = 0

-- the release
abbrev pub release_left : Port → ℕ
release_left port = longest (release_bits port SW_MNG)

-- the response, then the release
abbrev pub respond_left : Port → ℕ
respond_left port = HEAD_LEFT + release_left port

-- with SW_MNG taken: the request, then the response and the release
abbrev pub acquired_left : Port → ℕ
acquired_left port = request_left (Fwsts Reading) + respond_left port

-- a whole command
abbrev pub opened_left : Port → ℕ
opened_left port = longest (acquire_bits port SW_MNG) + acquired_left port

unfoldable pub command_left : Port → Command → ℕ
command_left port (Acquiring t) = longest (acquire_bits_next port SW_MNG (Going t)) + acquired_left port
command_left port (Requesting t) = request_left t + respond_left port
command_left port (Responding t) = response_left t + release_left port
command_left port (Releasing t s) = longest (release_bits_next port SW_MNG (Going t))

unfoldable pub command_next_left : Port → CommandNext → ℕ
command_next_left port (Going s) = command_left port s
command_next_left port (End b) = 0

unfoldable pub call_left : CommandCall → ℕ
call_left (Some (port, t)) = command_left port t
call_left None = 0

unfoldable pub told_left : CommandTold → ℕ
told_left (Ok (Ask x s)) = call_left s
told_left (Ok (Ends b)) = 0
told_left (Err q) = 0
