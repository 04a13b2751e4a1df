-- How long a call can last: a number of what is left of it.
use Rattle.std.specs.Prelude.{ℕ, ◌^◌, suc, zero, max}
use Rattle.hardware.specs.declared.Access.{Access}
use Rattle.hardware.specs.declared.Access.TheVariants.{Read, Write, Wait}
use Rattle.hardware.specs.declared.Answer.{Answer}
use Rattle.hardware.specs.declared.Answer.TheVariants.{Value, Done, Failed}
use Rattle.hardware.specs.Asked.{Asked, no, yes}
use Rattle.hardware.specs.Prog.{Prog, ret, ask, note, give}

-- the greatest of g 0 to g (n - 1)
unfoldable pub greatest : (ℕ → ℕ) → ℕ → ℕ
greatest g zero = 0
greatest g (suc n) = max (g n) (greatest g n)

-- the greatest over the answers of the kind that an access awaits
unfoldable pub over_answers : Access → (Answer → ℕ) → ℕ
over_answers (Read r) g = max (greatest (λ v. g (Value v)) (2 ^ 32)) (g Failed)
over_answers (Write r v) g = max (g Done) (g Failed)
over_answers (Wait t) g = g Done

-- the accesses to come, at most
unfoldable pub longest : {A : Type 0} → Prog A → ℕ
longest (ret v) = 0
longest (ask x f) = suc (over_answers x (λ a. longest (f a)))
longest (note n p) = longest p
longest (give b p) = longest p

-- of what a call told: none where it was refused
unfoldable pub lasting : {A : Type 0} → Asked (Prog A) → ℕ
lasting (no n) = 0
lasting (yes p) = longest p
