-- The premises of the contract can be met by numbers that are lent: for every port and every start there are such, as many as
-- one likes.
use Prim.Native.Nat.{ℕ, ◌<◌, ◌≤◌, suc, zero}
use mathlib.Core.Path.{◌≡◌, refl, ap₂, subst⁻¹}
use mathlib.Core.Bool.{Bool, true, false, ◌||◌}
use mathlib.Core.List.{List, [], ◌∷◌, ◌++◌, map}
use native.Mathlib.Omega.{arith}
use lib.Dec.{eqb, lit<}
use lib.ListN.{length, length-map}
use borrow.Author.Tests.{lt-ltb}
use Rattle.transfer.specs.declared.attempt.Sequence.{Sequence}
use Rattle.hardware.specs.declared.Access.{Access}
use Rattle.hardware.specs.declared.Access.TheVariants.{Read, Write, Wait}
use Rattle.hardware.specs.declared.Answer.{Answer}
use Rattle.hardware.specs.declared.Answer.TheVariants.{Value, Done, Failed}
use Rattle.hardware.specs.declared.Port.{Port}
use Rattle.hardware.specs.Prog.{Prog, ret, ask, note, give, pick}
use Rattle.hardware.specs.Registers.{ESDP}
use Rattle.bus.specs.declared.Layout.{Layout}
use Rattle.bus.specs.Layout.{layout_of}
use Rattle.wire.specs.Machine.{Side, World, modelled, noted}
use Rattle.wire.specs.Run.{fixed, proceed, run, answers_in}
use Rattle.bench.specs.declared.Bench.{Bench}
use Rattle.bench.specs.AtOnce.{at_once, at_once_at}
use Rattle.sfp.specs.Identify.{identify}
use Rattle.sfp.specs.Steps.{IDENTIFY_STEPS}
use Rattle.demand.specs.Claim.{Start, machine, at_start, Premises}
use Rattle.demand.proofs.Possible.{dones, prompt, prompt_answers, at_once_meets, at_once_long}
use Rattle.onbench.specs.Run.{decoded, decoded_all}

-- an answer as a number; its value has 32 bits
abbrev encoded : Answer → ℕ
encoded (Value v) = v
encoded Done = 0x100000000
encoded Failed = 0x100000001

abbrev Plain : Answer → Type 0
Plain (Value v) = v < 0x100000000
Plain Done = Unit {0}
Plain Failed = Unit {0}

decoded_encoded : (a : Answer) → Plain a → decoded (encoded a) ≡ a
unfolding decoded pick
decoded_encoded (Value v) h = rw (lt-ltb _ _ h)
decoded_encoded Done h = refl
decoded_encoded Failed h = refl

abbrev AllPlain : List Answer → Type 0
AllPlain [] = Unit {0}
AllPlain (a ∷ l) = Plain a × AllPlain l

decoded_all_lem : (l : List Answer) → AllPlain l → decoded_all (map encoded l) ≡ l
unfolding decoded_all
decoded_all_lem [] h = refl
decoded_all_lem (a ∷ l) h = ap₂ ◌∷◌ (decoded_encoded a h.0) (decoded_all_lem l h.1)

plain_append : (l m : List Answer) → AllPlain l → AllPlain m → AllPlain (l ++ m)
plain_append [] m h k = k
plain_append (a ∷ l) m h k = (h.0, plain_append l m h.1 k)

plain_dones : (n : ℕ) → AllPlain (dones n)
plain_dones zero = tt
plain_dones (suc n) = (tt, plain_dones n)

at_once_plain : (x : Access) → Plain (at_once x)
unfolding at_once at_once_at pick
at_once_plain (Read r) = by (eqb r 0x10140 || eqb r ESDP)
  where
    by : (b : Bool) → pick b 2 0 < 0x100000000
    by true = lit< tt
    by false = lit< tt
at_once_plain (Write r v) = tt
at_once_plain (Wait n) = tt

module _ (l : Layout) (o : Side) {A : Type 0} where
  plain_at : (x : Access) (b : Bool) (f : Answer → Prog A) (w : World o) (answers : List Answer) → modelled l o x ≡ b
      → ((a : Answer) (w' : World o) (rest : List Answer) → AllPlain (answers_in (run l o (fixed at_once) (f a) w' rest).trace))
      → AllPlain (answers_in (run l o (fixed at_once) (ask x f) w answers).trace)
  unfolding run pick fixed proceed answers_in
  plain_at x true f w answers e h = rw e (h _ _ _)
  plain_at x false f w answers e h = rw e (at_once_plain x, h _ _ _)

  run_plain : (p : Prog A) (w : World o) (answers : List Answer) → AllPlain (answers_in (run l o (fixed at_once) p w answers).trace)
  unfolding run answers_in
  run_plain (ret a) w answers = tt
  run_plain (ask x f) w answers = plain_at x (modelled l o x) f w answers refl (λ a w' rest. run_plain (f a) w' rest)
  run_plain (note k p) w answers = run_plain p (noted o k w) answers
  run_plain (give b p) w answers = run_plain p w answers

-- each fits the type of what is lent
abbrev pub Lendable : List ℕ → Type 0
Lendable [] = Unit {0}
Lendable (n ∷ ns) = (n < 0x10000000000000000) × Lendable ns

encoded_fits : (a : Answer) → Plain a → encoded a < 0x10000000000000000
encoded_fits (Value v) h = omega (arith, h)
encoded_fits Done h = lit< tt
encoded_fits Failed h = lit< tt

lendable : (l : List Answer) → AllPlain l → Lendable (map encoded l)
lendable [] h = tt
lendable (a ∷ l) h = (encoded_fits a h.0, lendable l h.1)

-- For every port and every start, AckWrite included, numbers that stand for answers which meet the premises, and enough of them
pub possible_lent : (q : Sequence) (port : Port) (b : Bench) (start : Start)
    → (ns : List ℕ) × Lendable ns × Premises q port b start (decoded_all ns) × (IDENTIFY_STEPS port.family ≤ length ns)
possible_lent q port b start =
    let plain = plain_append (answers_in (prompt q port b start).trace) (dones (IDENTIFY_STEPS port.family)) (run_plain (layout_of port.family) (machine port) (identify q port) (at_start start b) []) (plain_dones (IDENTIFY_STEPS port.family)) in (
      map encoded (prompt_answers q port b start),
      lendable (prompt_answers q port b start) plain,
      subst⁻¹ (Premises q port b start) (decoded_all_lem (prompt_answers q port b start) plain) (at_once_meets q port b start),
      omega (arith, at_once_long q port b start, length-map (prompt_answers q port b start) encoded),
    )
