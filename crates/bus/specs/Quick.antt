-- The direct way through a step that stays inside a command.
use Rattle.std.specs.Prelude.{ℕ, ◌≡◌, true, ltb, Ok, Some, None, Option}
use Rattle.hardware.specs.declared.Access.{Access}
use Rattle.hardware.specs.declared.Answer.{Answer}
use Rattle.hardware.specs.Asked.{fits}
use Rattle.hardware.specs.Prog.{erase}
use Rattle.bus.specs.declared.Layout.{Layout}
use Rattle.bus.specs.declared.command.Command.{Command}
use Rattle.bus.specs.declared.job.Job.{Job}
use Rattle.bus.specs.declared.line.Line.{Line}
use Rattle.bus.specs.declared.line.LineState.{LineState}
use Rattle.bus.specs.declared.quick.Quick.{Quick}
use Rattle.bus.specs.declared.quick.Quick.TheVariants.{On, Ended}
use Rattle.bus.specs.Bus.{Bus}
use Rattle.bus.specs.Line.{access_line, called, heard_line, line_next, rest_line, valid_line}
use Rattle.bus.specs.Command.{access_job, call_at, call_count, calls_left, heard_job, job_next, rest_job, valid_job}
use Rattle.bus.specs.Aliases.{LineNext}
use Rattle.hardware.specs.declared.Next.TheVariants.{Going, End}

abbrev pub line_of : ℕ → ℕ → Line → LineState
line_of ctl bits line = record { ctl = ctl; bits = bits; line = line }

-- a line call was within its limits, the answer of the awaited kind, and n is what follows it
pub record LineMoves (l : Layout) (s : LineState) (a : Answer) (n : LineNext) : Type 0 where
  pub valid : valid_line s.line ≡ true
  pub kind : fits (access_line l s) a ≡ true
  pub yields : (k : ℕ → Bus) → line_next l n k ≡ erase (rest_line l s a k)

-- a line call is within its limits, with the access that it awaits, and no byte was acknowledged just before
pub record Stands (l : Layout) (s : LineState) (x : Access) : Type 0 where
  pub limits : valid_line s.line ≡ true
  pub access : x ≡ access_line l s
  pub unheard : heard_line s ≡ 10

-- the direct way promises something where it goes
unfoldable pub QuickBy : Layout → LineState → Answer → Option Quick → Type 0
QuickBy l s a (Some (On next x)) = LineMoves l s a (Going next) × Stands l next x
QuickBy l s a (Some (Ended ctl bits)) = LineMoves l s a (End (ctl, bits, Ok tt))
QuickBy l s a None = Unit {0}

unfoldable pub MovedBy : (Access → Job → Type 0) → Option (Access × Job) → Type 0
MovedBy Goes (Some (x, next)) = Goes x next
MovedBy Goes None = Unit {0}

-- of a command the line call is made that has so many after it
pub record BegunBy (l : Layout) (c : Command) (ctl bits left : ℕ) (x : Access) (next : Job) : Type 0 where
  pub yields : (device : ℕ) (k : ℕ → Bus) → job_next l device c (Going next) k ≡ erase (called l (call_at l c left) bits (calls_left l device c left k) ctl)
  pub limits : ltb left (call_count l c) ≡ true → valid_job l c next ≡ true
  pub access : x ≡ access_job l next
  pub unheard : heard_job next ≡ 10

-- the job of a command goes on: it was within its limits, the answer of the awaited kind
pub record JobMoves (l : Layout) (device : ℕ) (c : Command) (job : Job) (a : Answer) (x : Access) (next : Job) : Type 0 where
  pub valid : valid_job l c job ≡ true
  pub kind : fits (access_job l job) a ≡ true
  pub yields : (k : ℕ → Bus) → job_next l device c (Going next) k ≡ erase (rest_job l device c job a k)
  pub limits : valid_job l c next ≡ true
  pub access : x ≡ access_job l next
  pub unheard : heard_job next ≡ 10
