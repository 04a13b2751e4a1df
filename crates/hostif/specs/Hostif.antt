-- `command` and `token` of `hostif.rs`, and what is left of each at every state. The block is lent: what is left is a
-- function of the words that it holds now, and the end hands them back.
use Rattle.std.specs.Prelude.{ℕ, suc, zero, ◌+◌, ◌*◌, ◌-◌, ◌/◌, ◌%◌, ◌^◌, Bool, true, false, List, [], ◌∷◌, eqb, ltb, length, get_or, set, drop}
use Rattle.std.specs.Int.Bits.{bit_or}
use Rattle.hardware.specs.declared.Port.{Port}
use Rattle.hardware.specs.declared.Access.{Access}
use Rattle.hardware.specs.declared.Access.TheVariants.{Read, Write}
use Rattle.hardware.specs.declared.Answer.{Answer}
use Rattle.hardware.specs.declared.poll.Watch.{Watch}
use Rattle.hardware.specs.declared.change.Change.{Change}
use Rattle.hardware.specs.declared.change.Bits.TheVariants.{Set}
use Rattle.hardware.specs.Failures.{HostInterface, Firmware}
use Rattle.hardware.specs.Prog.{Prog, ret, ask, note, Acquires, Acquired, Released, erase, R, Ok, Err, or_err, ◌>>=◌, ◌>>?◌, pick}
use Rattle.hardware.specs.Registers.{none_of, read, read_raw, write, checked, raw, written, micros, reply}
use Rattle.hardware.specs.Poll.{poll, access_poll, rest_poll, valid_poll}
use Rattle.hardware.specs.Change.{change, access_update, rest_update}
use Rattle.hostif.specs.declared.request.Request.{Request}
use Rattle.hostif.specs.declared.request.Request.TheVariants.{Fwsts, Hicr, Word, Start, Polling}
use Rattle.hostif.specs.declared.response.Response.{Response}
use Rattle.hostif.specs.declared.response.Response.TheVariants.{Head, Rest}
use Rattle.hostif.specs.declared.command.Command.{Command}
use Rattle.hostif.specs.declared.command.Command.TheVariants.{Acquiring, Requesting, Responding, Releasing}
use Rattle.hostif.specs.declared.token.Token.{Token}
use Rattle.sync.specs.Regs.{SW_MNG}
use Rattle.sync.specs.Resource.{acquire_bits, access_acquire_bits, rest_acquire_bits, valid_acquire_bits, release_bits, access_release_bits, rest_release_bits, valid_release_bits}
use Rattle.hostif.specs.Aliases.{RequestNext, TokenNext, ResponseNext, CommandNext}
use Rattle.hardware.specs.declared.Next.TheVariants.{Going, End}

abbrev pub HICR : ℕ
HICR = 0x15f00

abbrev pub FLEX_MNG : ℕ
FLEX_MNG = 0x15800

abbrev pub HICR_EN : ℕ
HICR_EN = 2 ^ 0

abbrev pub HICR_C : ℕ
HICR_C = 2 ^ 1

abbrev pub HICR_SV : ℕ
HICR_SV = 2 ^ 2

-- 500 ms of polls 10 µs apart
abbrev pub POLLS : ℕ
POLLS = 50000

abbrev pub hicr_watch : Watch
hicr_watch = record { register = HICR; bit = HICR_C; us = micros 10 }

-- FWSTS with FWRI set
abbrev pub set_fwri : Change
set_fwri = record { register = 0x15f0c; bits = Set 0x200; flushed = false }

-- byte 3 of a header is FF, byte 1 the length and byte 0 the command
unfoldable pub header : ℕ → ℕ → ℕ
header command len = 0xff000000 + len * 256 + command

-- of a response's head: byte 1, its length; byte 2, its status; and the words that hold it
unfoldable pub len_of : ℕ → ℕ
len_of head = head / 256 % 256

unfoldable pub status_of : ℕ → ℕ
status_of head = head / 65536 % 256

unfoldable pub words_of : ℕ → ℕ
words_of head = (len_of head + 3) / 4

-- how a command closed, and what its block then holds
pub record Left : Type 0 where
  pub status : R ℕ
  pub block : List ℕ

-- the words are written from place `at` on; then k
unfoldable pub words : ℕ → List ℕ → Prog (R ℕ) → Prog (R ℕ)
words at [] k = k
words at (v ∷ vs) k = write (FLEX_MNG + 4 * at) v >>? λ _. words (at + 1) vs k

-- HICR as it was last read: C clear and SV set, or the command failed
unfoldable pub completed : ℕ → Prog (R ℕ)
completed last = pick (none_of last HICR_C) (pick (none_of last HICR_SV) (ret (Err (HostInterface last))) (ret (Ok last))) (ret (Err (HostInterface last)))

unfoldable pub polling : ℕ → Prog (R ℕ)
polling hicr = poll hicr_watch POLLS (bit_or hicr HICR_C) >>? completed

unfoldable pub start : ℕ → Prog (R ℕ)
start hicr = write HICR (bit_or hicr HICR_C) >>? λ _. polling hicr

unfoldable pub enabled : List ℕ → ℕ → Prog (R ℕ)
enabled block hicr = pick (none_of hicr HICR_EN) (ret (Err (HostInterface hicr))) (words 0 block (start hicr))

-- the request, up to HICR's last value
unfoldable pub hicr_read : List ℕ → Prog (R ℕ)
hicr_read block = read HICR >>? enabled block

unfoldable pub request : List ℕ → Prog (R ℕ)
request block = change set_fwri >>? λ _. hicr_read block

-- a word of the response was read, or not; again: the rest, with the word stored
unfoldable pub word_seen : (List ℕ → Prog Left) → ℕ → List ℕ → R ℕ → Prog Left
word_seen again at block (Err e) = ret (record { status = Err e; block = block })
word_seen again at block (Ok v) = again (set block at v)

-- the words of the response after its head, words 1 to `words_of head`, with those left
unfoldable pub fill : ℕ → ℕ → List ℕ → Prog Left
fill head zero block = ret (record { status = Ok (status_of head); block = block })
fill head (suc left) block = read_raw (FLEX_MNG + 4 * (words_of head - left)) >>= word_seen (fill head left) (words_of head - left) block

-- the response's head was read, or not; a response that doesn't fit the block leaves it as it was
unfoldable pub head_seen : ℕ → List ℕ → R ℕ → Prog Left
head_seen last block (Err e) = ret (record { status = Err e; block = block })
head_seen last block (Ok head) =
    pick (ltb (4 * length block) (len_of head + 4)) (ret (record { status = Err (HostInterface last); block = block }))
    (fill head (words_of head) (set block 0 head))

unfoldable pub respond : ℕ → List ℕ → Prog Left
respond last block = read_raw FLEX_MNG >>= head_seen last block

-- `locked`: the command's failure first, then the release's
unfoldable pub both : R ℕ → R (Unit {0}) → R ℕ
both (Err e) r = Err e
both (Ok s) (Err e) = Err e
both (Ok s) (Ok u) = Ok s

unfoldable pub closed : R ℕ → List ℕ → R (Unit {0}) → Prog Left
closed s block r = ret (record { status = both s r; block = block })

unfoldable pub released : Port → Left → Prog Left
released port left = note Released (release_bits port SW_MNG >>= closed left.status left.block)

unfoldable pub requested : Port → List ℕ → R ℕ → Prog Left
requested port block (Err e) = released port (record { status = Err e; block = block })
requested port block (Ok last) = respond last block >>= released port

unfoldable pub acquired : Port → List ℕ → R (Unit {0}) → Prog Left
acquired port block (Err e) = ret (record { status = Err e; block = block })
acquired port block (Ok u) = note Acquired (request block >>= requested port block)

-- SW_MNG holds no TOKEN, so that `acquire` and `release` are here `acquire_bits` and `release_bits`
unfoldable pub command : Port → List ℕ → Prog Left
command port block = note Acquires (acquire_bits port SW_MNG >>= acquired port block)

-- `token`'s block: its header, then the port number and, to give back, bit 8
unfoldable pub token_second : Port → Bool → ℕ
token_second port take = pick take port.lan (port.lan + 256)

unfoldable pub token_block : Port → Bool → List ℕ
token_block port take = header 0x0a 2 ∷ token_second port take ∷ []

-- 1 grants; 80 hexadecimal is busy, where the token is asked for; any other status is the firmware's refusal
unfoldable pub token_status : Bool → R ℕ → R Bool
token_status take (Err e) = Err e
token_status take (Ok s) = pick (eqb s 1) (Ok true) (pick (eqb s 0x80) (pick take (Ok false) (Err (Firmware 0x0a s))) (Err (Firmware 0x0a s)))

unfoldable pub tokened : Bool → Left → Prog (R Bool)
tokened take left = ret (token_status take left.status)

unfoldable pub token : Port → Bool → Prog (R Bool)
token port take = command port (token_block port take) >>= tokened take

-- the machines

unfoldable pub access_request : Request → List ℕ → Access
access_request (Fwsts t) block = access_update set_fwri t
access_request Hicr block = Read HICR
access_request (Word hicr at) block = Write (FLEX_MNG + 4 * at) (get_or block at 0)
access_request (Start hicr) block = Write HICR (bit_or hicr HICR_C)
access_request (Polling t) block = access_poll hicr_watch t

unfoldable pub rest_request : Request → List ℕ → Answer → Prog (R ℕ)
rest_request (Fwsts t) block a = rest_update set_fwri t a >>? λ _. hicr_read block
rest_request Hicr block a = or_err (enabled block) (checked a)
rest_request (Word hicr at) block a = or_err (λ _. words (at + 1) (drop (at + 1) block) (start hicr)) (written a)
rest_request (Start hicr) block a = or_err (λ _. polling hicr) (written a)
rest_request (Polling t) block a = rest_poll hicr_watch t a >>? completed

unfoldable pub request_next : RequestNext → List ℕ → Prog (R ℕ)
request_next (Going s) block = ask (access_request s block) (λ a. erase (rest_request s block a))
request_next (End w) block = ret (reply w)

-- a word that is written is one of the block's
unfoldable pub valid_request : ℕ → Request → Bool
valid_request n (Fwsts t) = true
valid_request n Hicr = true
valid_request n (Word hicr at) = ltb at n
valid_request n (Start hicr) = true
valid_request n (Polling t) = valid_poll POLLS t

-- what is left keeps within the limits
unfoldable pub valid_request_next : ℕ → RequestNext → Bool
valid_request_next n (Going s) = valid_request n s
valid_request_next n (End w) = true

unfoldable pub access_response : Response → Access
access_response (Head last) = Read FLEX_MNG
access_response (Rest head left) = Read (FLEX_MNG + 4 * (words_of head - left))

unfoldable pub rest_response : Response → List ℕ → Answer → Prog Left
rest_response (Head last) block a = head_seen last block (raw a)
rest_response (Rest head left) block a = word_seen (fill head left) (words_of head - left) block (raw a)

unfoldable pub response_next : ResponseNext → List ℕ → Prog Left
response_next (Going s) block = ask (access_response s) (λ a. erase (rest_response s block a))
response_next (End b) block = ret (record { status = reply b; block = block })

-- what is left of a response are words of it, and it fits the block
unfoldable pub valid_response : ℕ → Response → Bool
valid_response n (Head last) = true
valid_response n (Rest head left) = pick (ltb left (words_of head)) (ltb (words_of head) n) false

unfoldable pub valid_response_next : ℕ → ResponseNext → Bool
valid_response_next n (Going s) = valid_response n s
valid_response_next n (End b) = true

unfoldable pub access_command : Port → Command → List ℕ → Access
access_command port (Acquiring t) block = access_acquire_bits port SW_MNG t
access_command port (Requesting t) block = access_request t block
access_command port (Responding t) block = access_response t
access_command port (Releasing t s) block = access_release_bits port SW_MNG t

unfoldable pub rest_command : Port → Command → List ℕ → Answer → Prog Left
rest_command port (Acquiring t) block a = rest_acquire_bits port SW_MNG t a >>= acquired port block
rest_command port (Requesting t) block a = rest_request t block a >>= requested port block
rest_command port (Responding t) block a = rest_response t block a >>= released port
rest_command port (Releasing t s) block a = rest_release_bits port SW_MNG t a >>= closed (reply s) block

unfoldable pub command_next : Port → CommandNext → List ℕ → Prog Left
command_next port (Going s) block = ask (access_command port s block) (λ a. erase (rest_command port s block a))
command_next port (End b) block = ret (record { status = reply b; block = block })

unfoldable pub valid_command : Port → ℕ → Command → Bool
valid_command port n (Acquiring t) = valid_acquire_bits port.family t
valid_command port n (Requesting t) = valid_request n t
valid_command port n (Responding t) = valid_response n t
valid_command port n (Releasing t s) = valid_release_bits t

unfoldable pub valid_command_next : Port → ℕ → CommandNext → Bool
valid_command_next port n (Going s) = valid_command port n s
valid_command_next port n (End b) = true

-- the token's two words stand in its state
abbrev pub token_words : Token → List ℕ
token_words s = s.first ∷ s.second ∷ []

unfoldable pub access_token : Port → Token → Access
access_token port s = access_command port s.command (token_words s)

unfoldable pub rest_token : Port → Bool → Token → Answer → Prog (R Bool)
rest_token port take s a = rest_command port s.command (token_words s) a >>= tokened take

unfoldable pub token_next : Port → Bool → TokenNext → Prog (R Bool)
token_next port take (Going s) = ask (access_token port s) (λ a. erase (rest_token port take s a))
token_next port take (End b) = ret (reply b)

unfoldable pub valid_token : Port → Token → Bool
valid_token port s = valid_command port 2 s.command

unfoldable pub valid_token_next : Port → TokenNext → Bool
valid_token_next port (Going s) = valid_token port s
valid_token_next port (End b) = true
