-- How many answers of the awaited kinds bring `acquire` and `release` to their end.
use Prim.Native.Nat.{ℕ, ◌+◌, ◌*◌, ◌≤◌, suc, zero}
use mathlib.Core.Path.{◌≡◌, refl}
use mathlib.Core.Bool.{Bool, true, false}
use native.Mathlib.Nat.{suc-mul}
use native.Mathlib.Omega.{arith}
use Rattle.hardware.specs.declared.Family.{Family}
use Rattle.hardware.specs.declared.Port.{Port}
use Rattle.hardware.specs.declared.Answer.{Answer}
use Rattle.hardware.specs.Prog.{Prog, R, Ok, Err, ◌>>?◌}
use Rattle.hardware.specs.Runs.{Ends}
use Rattle.hardware.proofs.Ends.{ends_more, ends_bind, ends_try, ends_pick, ret_ends, note_ends, ask_ends}
use Rattle.sync.specs.Regs.{tries}
use Rattle.sync.specs.Resource.{acquire_bits}
use Rattle.sync.proofs.Ends.{ACQUIRE_BITS_STEPS, RELEASE_BITS_STEPS, acquire_bits_ends, release_bits_ends, acquire_bits_after, release_bits_after, acquire_bits_rest_ends, release_bits_rest_ends}
use Rattle.hostif.proofs.Ends.{TOKEN_STEPS, token_ends, token_after, token_rest_ends}
use Rattle.hostif.specs.Acquire.{TOKEN_TRIES, hw_of, with_bits, acquired_all, not_granted, given_back, token_seen, acquire_token, acquire, give_bits, token_given, release, after_bits, try_token}
use Rattle.acquire.specs.declared.acquire.Acquire.{Acquire}
use Rattle.acquire.specs.declared.acquire.Stage.{Stage}
use Rattle.acquire.specs.declared.acquire.Stage.TheVariants.{Bits, Token, Releasing, Waiting}
use Rattle.acquire.specs.declared.release.Release.{Release}
use Rattle.acquire.specs.declared.release.Release.TheVariants.{Token as GivingToken, Bits as GivingBits}
use Rattle.acquire.specs.Acquire.{rest_acquire_at, rest_acquire, rest_release}

-- a try that the firmware refuses: the bits, the token, the bits back, a wait
abbrev pub TOKEN_TRY_STEPS : Family → ℕ
TOKEN_TRY_STEPS family = ACQUIRE_BITS_STEPS (tries family) + (TOKEN_STEPS family + (RELEASE_BITS_STEPS + 1))

abbrev pub ACQUIRE_STEPS : Family → ℕ
ACQUIRE_STEPS family = TOKEN_TRIES * TOKEN_TRY_STEPS family

-- the token, then the bits
abbrev pub RELEASE_STEPS : Family → ℕ
RELEASE_STEPS family = TOKEN_STEPS family + RELEASE_BITS_STEPS

with_bits_ends : (hw : ℕ) (p : Prog (R (Unit {0}))) (n : ℕ) → Ends p n → Ends (with_bits hw p) n
unfolding with_bits
with_bits_ends hw p n e = ends_pick _ _ _ n (ret_ends _ n) e

-- m: the answers for the next try
not_granted_ends : (again : Answer → Prog (R (Unit {0}))) (m : ℕ) → ((a : Answer) → Ends (again a) m) → (g : R Bool) → Ends (not_granted again g) (1 + m)
unfolding not_granted
not_granted_ends again m d (Err e) = ret_ends _ _
not_granted_ends again m d (Ok b) = ends_more _ (suc m) (1 + m) (ask_ends _ _ m d) (omega arith)

gave_back_ends : (port : Port) (hw : ℕ) (again : Answer → Prog (R (Unit {0}))) (m : ℕ) → ((a : Answer) → Ends (again a) m) → (g : R Bool)
    → Ends (given_back port hw again g) (RELEASE_BITS_STEPS + (1 + m))
unfolding given_back
gave_back_ends port hw again m d g =
    ends_try _ _ RELEASE_BITS_STEPS (1 + m) (with_bits_ends hw _ _ (release_bits_ends port hw)) (λ _. not_granted_ends again m d g)

seen_ends : (port : Port) (hw : ℕ) (again : Answer → Prog (R (Unit {0}))) (m : ℕ) → ((a : Answer) → Ends (again a) m) → (g : R Bool)
    → Ends (token_seen port hw again g) (RELEASE_BITS_STEPS + (1 + m))
unfolding token_seen acquired_all
seen_ends port hw again m d (Ok true) = note_ends _ _ _ (ret_ends _ _)
seen_ends port hw again m d (Ok false) = gave_back_ends port hw again m d (Ok false)
seen_ends port hw again m d (Err e) = gave_back_ends port hw again m d (Err e)

one_more : (n a t r s : ℕ) → s ≡ a + (t + (r + 1)) → a + (t + (r + (1 + n * s))) ≤ suc n * s
one_more n a t r s e = rw suc-mul (omega arith)

pub acquire_token_ends : (port : Port) (hw n : ℕ) → Ends (acquire_token port hw n) (n * TOKEN_TRY_STEPS port.family)
unfolding acquire_token
acquire_token_ends port hw zero = ret_ends _ _
acquire_token_ends port hw (suc n) =
    let a : ℕ = ACQUIRE_BITS_STEPS (tries port.family) in
    let t : ℕ = TOKEN_STEPS port.family in
    let s : ℕ = TOKEN_TRY_STEPS port.family in
    ends_more _ (a + (t + (RELEASE_BITS_STEPS + (1 + n * s)))) (suc n * s)
    (ends_try _ _ a (t + (RELEASE_BITS_STEPS + (1 + n * s))) (with_bits_ends hw _ _ (acquire_bits_ends port hw))
    (λ _. ends_bind _ _ t (RELEASE_BITS_STEPS + (1 + n * s)) (token_ends port true)
    (λ g. seen_ends port hw _ (n * s) (λ _. acquire_token_ends port hw n) g)))
    (one_more n a t RELEASE_BITS_STEPS s refl)

plain_ends : (port : Port) (hw : ℕ) → Ends (acquire_bits port hw >>? λ _. acquired_all) (ACQUIRE_BITS_STEPS (tries port.family) + 0)
unfolding acquired_all
plain_ends port hw = ends_try _ _ (ACQUIRE_BITS_STEPS (tries port.family)) 0 (acquire_bits_ends port hw) (λ _. note_ends _ _ 0 (ret_ends _ 0))

pub acquire_ends : (port : Port) (mask : ℕ) → Ends (acquire port mask) (ACQUIRE_STEPS port.family)
unfolding acquire
acquire_ends port mask =
    note_ends _ _ _
    (ends_pick _ _ _ (ACQUIRE_STEPS port.family)
    (ends_more _ (ACQUIRE_BITS_STEPS (tries port.family) + 0) (ACQUIRE_STEPS port.family) (plain_ends port (hw_of mask)) (omega arith))
    (acquire_token_ends port (hw_of mask) TOKEN_TRIES))

give_ends : (port : Port) (hw : ℕ) (t : R (Unit {0})) → Ends (give_bits port hw t) RELEASE_BITS_STEPS
unfolding give_bits
give_ends port hw t = ends_try _ _ RELEASE_BITS_STEPS 0 (with_bits_ends hw _ _ (release_bits_ends port hw)) (λ _. ret_ends _ 0)

pub release_ends : (port : Port) (mask : ℕ) → Ends (release port mask) (RELEASE_STEPS port.family)
unfolding release token_given
release_ends port mask =
    note_ends _ _ _
    (ends_pick _ _ _ (RELEASE_STEPS port.family)
    (ends_more _ RELEASE_BITS_STEPS (RELEASE_STEPS port.family) (give_ends port (hw_of mask) _) (omega arith))
    (ends_bind _ _ (TOKEN_STEPS port.family) RELEASE_BITS_STEPS (token_ends port false) (λ g. give_ends port (hw_of mask) _)))

-- the answers that the machines may still need after the one they await; left: the tries after this one
abbrev pub acquire_at_after : Family → ℕ → Stage → ℕ
acquire_at_after family left (Bits t token) = acquire_bits_after t + (TOKEN_STEPS family + (RELEASE_BITS_STEPS + (1 + left * TOKEN_TRY_STEPS family)))
acquire_at_after family left (Token t) = token_after t + (RELEASE_BITS_STEPS + (1 + left * TOKEN_TRY_STEPS family))
acquire_at_after family left (Releasing t g) = release_bits_after t + (1 + left * TOKEN_TRY_STEPS family)
acquire_at_after family left Waiting = left * TOKEN_TRY_STEPS family

abbrev pub acquire_after : Family → Acquire → ℕ
acquire_after family s = acquire_at_after family s.left s.stage

abbrev pub release_after : Release → ℕ
release_after (GivingToken t) = token_after t + RELEASE_BITS_STEPS
release_after (GivingBits t w) = release_bits_after t

pub acquire_rest_ends : (port : Port) (hw : ℕ) (s : Acquire) (a : Answer) → Ends (rest_acquire port hw s a) (acquire_after port.family s)
unfolding rest_acquire rest_acquire_at after_bits try_token acquired_all
acquire_rest_ends port hw s a = by s.left s.stage
  where
    tried : (left : ℕ) → Ends (try_token port hw left) (TOKEN_STEPS port.family + (RELEASE_BITS_STEPS + (1 + left * TOKEN_TRY_STEPS port.family)))
    tried left =
        ends_bind _ _ (TOKEN_STEPS port.family) _ (token_ends port true) (λ g. seen_ends port hw _ (left * TOKEN_TRY_STEPS port.family) (λ _. acquire_token_ends port hw left) g)

    by : (left : ℕ) (t : Stage) → Ends (rest_acquire_at port hw left t a) (acquire_at_after port.family left t)
    by left (Bits t token) =
        ends_try _ _ (acquire_bits_after t) _ (acquire_bits_rest_ends port hw t a) (λ _. ends_pick _ _ _ _ (tried left) (note_ends _ _ _ (ret_ends _ _)))
    by left (Token t) =
        ends_bind _ _ (token_after t) _ (token_rest_ends port true t a) (λ g. seen_ends port hw _ (left * TOKEN_TRY_STEPS port.family) (λ _. acquire_token_ends port hw left) g)
    by left (Releasing t g) =
        ends_try _ _ (release_bits_after t) _ (release_bits_rest_ends port hw t a) (λ _. not_granted_ends _ (left * TOKEN_TRY_STEPS port.family) (λ _. acquire_token_ends port hw left) _)
    by left Waiting = acquire_token_ends port hw left

pub release_rest_ends : (port : Port) (hw : ℕ) (s : Release) (a : Answer) → Ends (rest_release port hw s a) (release_after s)
unfolding rest_release token_given
release_rest_ends port hw (GivingToken t) a = ends_bind _ _ (token_after t) RELEASE_BITS_STEPS (token_rest_ends port false t a) (λ g. give_ends port hw _)
release_rest_ends port hw (GivingBits t w) a =
    ends_more _ (release_bits_after t + 0) (release_bits_after t) (ends_try _ _ (release_bits_after t) 0 (release_bits_rest_ends port hw t a) (λ _. ret_ends _ 0)) (omega arith)
