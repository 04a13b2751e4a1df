-- `acquire` and `release` of a mask without TOKEN are the mask's bits of SW_FW_SYNC, taken and given back; so `command`,
-- which takes and gives back SW_MNG's bits itself, makes the two calls as the Rust does.
use Prim.Native.Nat.{ℕ}
use mathlib.Core.Path.{◌≡◌, refl, ap, fun_ext, ◌∙◌, sym}
use mathlib.Core.Bool.{true, false}
use mathlib.Core.List.{List}
use lib.Dec.{eqb}
use Rattle.hardware.specs.declared.Port.{Port}
use Rattle.hardware.specs.Prog.{Prog, ret, note, Acquires, Acquired, Released, R, Ok, Err, or_err, erase, pick, ◌>>=◌, ◌>>?◌}
use Rattle.hardware.specs.Registers.{none_of}
use Rattle.hardware.proofs.Prog.{erase_bind, bind_assoc, bind_ret}
use Rattle.sync.specs.Regs.{SW_MNG, TOKEN}
use Rattle.sync.specs.Resource.{acquire_bits, release_bits}
use Rattle.hostif.specs.Hostif.{Left, request, respond, released, requested, acquired, command}
use Rattle.hostif.specs.Acquire.{hw_of, with_bits, acquired_all, acquire, give_bits, release}
use Rattle.hostif.specs.Locked.{released_call, requested_call, acquired_call, locked_command}

ended : (r : R (Unit {0})) → or_err (λ _. ret (Ok (tt {0}))) r ≡ ret r
unfolding or_err
ended (Ok u) = refl
ended (Err e) = refl

-- that it succeeded is noted, which the host does not see
noted : {A : Type 0} (k : R (Unit {0}) → Prog A) (r : R (Unit {0})) → erase (k r) ≡ erase (or_err (λ _. acquired_all) r >>= k)
unfolding or_err acquired_all erase ◌>>=◌
noted k (Ok u) = refl
noted k (Err e) = refl

module _ (port : Port) (mask : ℕ) (plain : none_of mask TOKEN ≡ true) where
  pub acquire_plain : acquire port mask ≡ note Acquires (acquire_bits port (hw_of mask) >>? λ _. acquired_all)
  unfolding acquire pick
  acquire_plain = rw plain

  -- the bits taken, and then k
  pub bits_taken_lem : {A : Type 0} (k : R (Unit {0}) → Prog A) → erase (acquire_bits port (hw_of mask) >>= k) ≡ erase (acquire port mask >>= k)
  unfolding erase ◌>>=◌
  bits_taken_lem k =
      rw acquire_plain
      (erase_bind (acquire_bits port (hw_of mask)) k
      ∙ ap (λ f. erase (acquire_bits port (hw_of mask)) >>= f) (fun_ext (noted k))
      ∙ sym (erase_bind (acquire_bits port (hw_of mask)) (λ r. or_err (λ _. acquired_all) r >>= k))
      ∙ ap erase (sym (bind_assoc (acquire_bits port (hw_of mask)) (or_err (λ _. acquired_all)) k)))

  pub release_plain : eqb (hw_of mask) 0 ≡ false → release port mask ≡ note Released (release_bits port (hw_of mask))
  unfolding release give_bits with_bits pick
  release_plain some =
      rw (plain, some) (ap (note Released) (ap (λ f. release_bits port (hw_of mask) >>= f) (fun_ext ended) ∙ bind_ret (release_bits port (hw_of mask))))

  -- the bits given back, and then k
  pub bits_given : {A : Type 0} → eqb (hw_of mask) 0 ≡ false → (k : R (Unit {0}) → Prog A)
      → erase (release_bits port (hw_of mask) >>= k) ≡ erase (release port mask >>= k)
  unfolding erase ◌>>=◌
  bits_given some k = rw (release_plain some)

-- `command`

module _ (port : Port) where
  released_call_lem : (left : Left) → released port left ≡ released_call port left
  unfolding released released_call hw_of none_of ◌>>=◌
  released_call_lem left = rw (release_plain port SW_MNG refl refl)

  requested_call_lem : (block : List ℕ) (r : R ℕ) → requested port block r ≡ requested_call port block r
  unfolding requested requested_call
  requested_call_lem block (Err e) = released_call_lem _
  requested_call_lem block (Ok last) = ap (λ f. respond last block >>= f) (fun_ext released_call_lem)

  acquired_call_lem : (block : List ℕ) (r : R (Unit {0})) → acquired port block r ≡ or_err (λ _. acquired_all) r >>= acquired_call port block
  unfolding acquired acquired_call acquired_all or_err ◌>>=◌
  acquired_call_lem block (Err e) = refl
  acquired_call_lem block (Ok u) = ap (λ f. note Acquired (request block >>= f)) (fun_ext (requested_call_lem block))

  pub command_locked : (block : List ℕ) → command port block ≡ locked_command port block
  unfolding command locked_command hw_of none_of ◌>>=◌
  command_locked block =
      rw (acquire_plain port SW_MNG refl)
      (ap (note Acquires)
      (ap (λ f. acquire_bits port SW_MNG >>= f) (fun_ext (acquired_call_lem block))
      ∙ sym (bind_assoc (acquire_bits port SW_MNG) (or_err (λ _. acquired_all)) (acquired_call port block))))
