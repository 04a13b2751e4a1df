-- `acquire` and `release` of `sync.rs`: the bits of SW_FW_SYNC, and the token of the firmware where the mask has it.
use Rattle.std.specs.Prelude.{ℕ, suc, zero, Bool, true, false, eqb}
use Rattle.std.specs.Int.Bits.{bit_and}
use Rattle.hardware.specs.declared.Port.{Port}
use Rattle.hardware.specs.declared.Access.TheVariants.{Wait}
use Rattle.hardware.specs.declared.Answer.{Answer}
use Rattle.hardware.specs.Failures.{Firmware}
use Rattle.hardware.specs.Prog.{Prog, ret, ask, note, Acquires, Acquired, Released, R, Ok, Err, ◌>>=◌, ◌>>?◌, pick}
use Rattle.hardware.specs.Registers.{none_of, not32, micros}
use Rattle.sync.specs.Regs.{TOKEN}
use Rattle.sync.specs.Resource.{acquire_bits, release_bits}
use Rattle.hostif.specs.Hostif.{token}

-- the tries for the token, 5 ms apart
abbrev pub TOKEN_TRIES : ℕ
TOKEN_TRIES = 1000

-- the mask's bits of SW_FW_SYNC
unfoldable pub hw_of : ℕ → ℕ
hw_of mask = bit_and mask (not32 TOKEN)

-- where the mask has bits of SW_FW_SYNC
unfoldable pub with_bits : ℕ → Prog (R (Unit {0})) → Prog (R (Unit {0}))
with_bits hw p = pick (eqb hw 0) (ret (Ok tt)) p

unfoldable pub acquired_all : Prog (R (Unit {0}))
acquired_all = note Acquired (ret (Ok tt))

-- the bits are given back: a failure ends the call, busy waits; again: the next try
unfoldable pub not_granted : (Answer → Prog (R (Unit {0}))) → R Bool → Prog (R (Unit {0}))
not_granted again (Err e) = ret (Err e)
not_granted again (Ok b) = ask (Wait (micros 5000)) again

-- the token did not come: the bits go back
unfoldable pub given_back : Port → ℕ → (Answer → Prog (R (Unit {0}))) → R Bool → Prog (R (Unit {0}))
given_back port hw again g = with_bits hw (release_bits port hw) >>? λ _. not_granted again g

unfoldable pub token_seen : Port → ℕ → (Answer → Prog (R (Unit {0}))) → R Bool → Prog (R (Unit {0}))
token_seen port hw again (Ok true) = acquired_all
token_seen port hw again (Ok false) = given_back port hw again (Ok false)
token_seen port hw again (Err e) = given_back port hw again (Err e)

-- both the bits and the token, with the tries left: 80 hexadecimal, busy, at the last
unfoldable pub acquire_token : Port → ℕ → ℕ → Prog (R (Unit {0}))
acquire_token port hw zero = ret (Err (Firmware 0x0a 0x80))
acquire_token port hw (suc left) =
    with_bits hw (acquire_bits port hw) >>? λ _. token port true >>= token_seen port hw (λ _. acquire_token port hw left)

-- a try once the bits are ours
unfoldable pub try_token : Port → ℕ → ℕ → Prog (R (Unit {0}))
try_token port hw left = token port true >>= token_seen port hw (λ _. acquire_token port hw left)

-- the bits are ours; token: whether it is wanted too
unfoldable pub after_bits : Port → ℕ → ℕ → Bool → Prog (R (Unit {0}))
after_bits port hw left token = pick token (try_token port hw left) acquired_all

unfoldable pub acquire : Port → ℕ → Prog (R (Unit {0}))
acquire port mask =
    note Acquires (pick (none_of mask TOKEN) (acquire_bits port (hw_of mask) >>? λ _. acquired_all) (acquire_token port (hw_of mask) TOKEN_TRIES))

-- whether the token was given back
unfoldable pub gave : R Bool → R (Unit {0})
gave (Ok b) = Ok tt
gave (Err e) = Err e

-- the bits go back even if the token did not; the bits' failure first, then the token's
unfoldable pub give_bits : Port → ℕ → R (Unit {0}) → Prog (R (Unit {0}))
give_bits port hw t = with_bits hw (release_bits port hw) >>? λ _. ret t

unfoldable pub token_given : Port → ℕ → R Bool → Prog (R (Unit {0}))
token_given port hw g = give_bits port hw (gave g)

unfoldable pub release : Port → ℕ → Prog (R (Unit {0}))
release port mask =
    note Released (pick (none_of mask TOKEN) (give_bits port (hw_of mask) (Ok tt)) (token port false >>= token_given port (hw_of mask)))
