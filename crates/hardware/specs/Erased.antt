-- A call without the slowest acknowledgement, which the Rust does not tell: all but this number is compared with it.
use Rattle.std.specs.Prelude.{ℕ}
use Rattle.hardware.specs.Asked.{Asked, no, yes}
use Rattle.hardware.specs.Prog.{Prog, ret, ask, note, give, ◌>>=◌, Counted, attempts_after}

-- what a result then tells of the way to it: the transfers made
pub record Made (A : Type 0) : Type 0 where
  pub transfers : ℕ
  pub result : A

unfoldable pub made : {A : Type 0} → Counted A → Prog (Made A)
made c = ret (record { transfers = c.meter.transfers; result = c.result })

unfoldable pub made_by : {A : Type 0} → Asked (Prog (Counted A)) → Asked (Prog (Made A))
made_by (no n) = no n
made_by (yes p) = yes (p >>= made)

-- the end carries the count of the attempts noted on the way, and nothing else of it
unfoldable pub counting : {A : Type 0} → ℕ → Prog A → Prog (Made A)
counting n (ret a) = ret (record { transfers = n; result = a })
counting n (ask x f) = ask x (λ r. counting n (f r))
counting n (note k p) = counting (attempts_after k n) p
counting n (give b p) = give b (counting n p)
