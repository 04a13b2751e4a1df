-- The whole call of `identify` on the bench: answers as numbers, how a run ends, and what is left of it on the way.
use Rattle.std.specs.Prelude.{ℕ, suc, ◌≡◌, true, false, List, [], ◌∷◌, eqb, ltb, drop, Ok, Err, Some, None, Option}
use Rattle.hardware.specs.declared.Answer.{Answer}
use Rattle.hardware.specs.declared.Answer.TheVariants.{Value, Done, Failed}
use Rattle.hardware.specs.Asked.{Asked, no, yes}
use Rattle.hardware.specs.Numbers.{refusal_number}
use Rattle.hardware.specs.Prog.{Prog, R, pick, Counted}
use Rattle.hardware.specs.Runs.{Ends}
use Rattle.hardware.specs.declared.Port.{Port}
use Rattle.bus.specs.Layout.{layout_of}
use Rattle.wire.specs.Machine.{At}
use Rattle.wire.specs.Run.{Given as Gives, given, nothing, Source, listed, fixed, kind_checked, BenchOutcome, ended, short, stopped, run_asked}
use Rattle.bench.specs.AtOnce.{at_once}
use Rattle.bench.specs.Register.{Caged, side, world}
use Rattle.bench.specs.Mux.{has_mux}
use Rattle.sfp.specs.declared.Identity.{Identity}
use Rattle.identify.specs.Calls.{said_identify, stands_identify}
use Rattle.onbench.specs.declared.Ending.{Ending}
use Rattle.onbench.specs.declared.Ending.TheVariants.{Ended, Short, Stopped}
use Rattle.onbench.specs.declared.Origin.{Origin}
use Rattle.onbench.specs.declared.Origin.TheVariants.{Lent, AtOnce}
use Rattle.onbench.specs.declared.Progress.{Progress}
use Rattle.onbench.specs.declared.Run.{Run}
use Rattle.hardware.specs.Registers.{reply}
use Rattle.identify.specs.Aliases.{IdentifyTold}
use Rattle.hardware.specs.declared.Told.TheVariants.{Ask, End}

-- below 2^32 a value, 2^32 done, above it a failure
unfoldable pub decoded : ℕ → Answer
decoded n = pick (ltb n 0x100000000) (Value n) (pick (eqb n 0x100000000) Done Failed)

unfoldable pub decoded_all : List ℕ → List Answer
decoded_all [] = []
decoded_all (n ∷ ns) = decoded n ∷ decoded_all ns

unfoldable pub source_of : Origin → Source
source_of Lent = listed
source_of AtOnce = fixed at_once

-- ns: the numbers lent
unfoldable pub next_of : List ℕ → (Option (Answer × ℕ)) → Gives
next_of ns (Some (a, used)) = given a (decoded_all (drop used ns))
next_of ns None = nothing

abbrev pub IdentifyOutcome : Type 0
IdentifyOutcome = BenchOutcome (At Caged) (Counted (R Identity))

unfoldable pub ending_of : Ending → At Caged → IdentifyOutcome
ending_of (Ended f m) w = ended (record { meter = m; result = reply f }) w
ending_of Short w = short w
ending_of (Stopped q) w = stopped (refusal_number q) w

unfoldable pub outcome_of : Run → IdentifyOutcome
outcome_of r = ending_of r.ending (world r.state)

-- what the call comes to from here
unfoldable pub left_of : Port → Origin → List ℕ → Progress → IdentifyOutcome
left_of port o ns s = run_asked (layout_of port.family) (side (has_mux port)) (kind_checked (source_of o)) (said_identify s.told) (world s.state) (decoded_all (drop s.used ns))

-- n more accesses are enough
unfoldable pub Bounded : {A : Type 0} → Asked (Prog A) → ℕ → Type 0
Bounded (no k) n = Unit {0}
Bounded (yes p) n = Ends p n

-- what a run comes to that stops here
unfoldable pub stops_at : IdentifyTold → At Caged → IdentifyOutcome
stops_at (Ok (Ask x c)) w = short w
stops_at (Ok (End (f, m))) w = ended (record { meter = m; result = reply f }) w
stops_at (Err q) w = stopped (refusal_number q) w

-- nothing more is done; left: what is left of the run on the way
unfoldable pub Final : (Progress → IdentifyOutcome) → Progress → Type 0
Final left s = left s ≡ stops_at s.told (world s.state)

-- one access further: the run comes to the same, with one access less to go
pub record Step (left : Progress → IdentifyOutcome) (s t : Progress) : Type 0 where
  pub same : left t ≡ left s
  pub stands : stands_identify t.told
  pub less : t.over ≡ false → (n : ℕ) → Bounded (said_identify s.told) (suc n) → Bounded (said_identify t.told) n
  pub final : t.over ≡ true → Final left t

unfoldable pub Advances : (Progress → IdentifyOutcome) → Progress → Progress → Type 0
Advances left s t = stands_identify s.told → Step left s t
