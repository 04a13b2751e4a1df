-- A step inside a command: where its job goes on, nothing else of a request moves.
use Prim.Native.Nat.{ℕ, ◌+◌}
use mathlib.Core.Path.{◌≡◌, ap, sym, ◌∙◌}
use mathlib.Core.Bool.{Bool, true}
use lib.Dec.{leb, ltb}
use Rattle.hardware.specs.declared.Access.{Access}
use Rattle.hardware.specs.declared.Answer.{Answer}
use Rattle.hardware.specs.declared.Meter.{Meter}
use Rattle.hardware.specs.declared.Port.{Port}
use Rattle.hardware.specs.Asked.{Asked, yes, question, fits, admitting}
use Rattle.hardware.specs.Promise.{Keeps}
use Rattle.hardware.specs.Marks.{acknowledged, hears, marked}
use Rattle.hardware.specs.Prog.{Prog, R, ask, erase, tally, ◌>>=◌}
use Rattle.hardware.proofs.Prog.{over, heard_on, going_on, going_tally, over_tally}
use Rattle.bus.specs.declared.Taken.{Taken}
use Rattle.bus.specs.declared.job.Job.{Job}
use Rattle.bus.specs.Bus.{Bus}
use Rattle.bus.specs.Command.{access_job, heard_job, job_next, rest_job, valid_job}
use Rattle.bus.specs.Layout.{layout_of}
use Rattle.bus.specs.Quick.{JobMoves}
use Rattle.bus.proofs.Laws.{picked}
use Rattle.script.specs.Script.{command_at, on_command}
use Rattle.transfer.specs.declared.attempt.Attempt.TheVariants.{Moving}
use Rattle.transfer.specs.Transfer.{keeping, ran_on, access_transfer, rest_transfer, valid_transfer}
use Rattle.transfer.specs.Attempt.{access_attempt, rest_attempt, tried, valid_attempt}
use Rattle.i2c.specs.declared.How.{How}
use Rattle.i2c.specs.declared.once.Request.{Request}
use Rattle.i2c.specs.declared.retry.Stage.TheVariants.{Trying}
use Rattle.i2c.specs.declared.handshake.Handshake.{Handshake}
use Rattle.i2c.specs.I2c.{device_of, gives_value, script_of}
use Rattle.i2c.specs.Retry.{access_stage, access_retry, rest_stage, rest_retry, after_try, due_stage, due_retry, valid_stage, valid_retry}
use Rattle.i2c.specs.Handshake.{access_handshake, rest_handshake, handshake_next, closing, due_handshake, valid_handshake, valid_request}
use Rattle.i2c.specs.Calls.{limit_of, rest_call, said_transfer, stands_transfer, step_transfer, valid_call, valid_operands}
use Rattle.i2c.specs.Direct.{carrying, RequestMoves, WentBy}
use Rattle.hardware.specs.declared.Next.TheVariants.{Going}
use Rattle.hardware.specs.declared.Told.TheVariants.{Ask}
use Rattle.std.specs.Prelude.{Ok, Some, None, Option}

module _ (port : Port) (r : Request) (how : How) (left at : ℕ) (taken : Taken) (job next : Job) (a : Answer) where
  -- the job goes on from one to the next
  abbrev JobOn : Type 0
  JobOn = (k : ℕ → Bus) → job_next (layout_of port.family) (device_of r) (command_at (script_of r) at) (Going next) k ≡ erase (rest_job (layout_of port.family) (device_of r) (command_at (script_of r) at) job a k)

  job_on : JobOn
      → handshake_next port r how (Going ((hears (heard_job next)), (carrying left at taken next))) ≡ erase (rest_handshake port r how (carrying left at taken job) a)
  unfolding handshake_next access_handshake rest_handshake access_retry access_stage rest_retry rest_stage access_attempt rest_attempt access_transfer rest_transfer job_next marked
  job_on h =
      over _ (closing port r) (going_on (hears (heard_job next)) (access_handshake port (carrying left at taken next)) (rest_retry port r how (record { left = left; stage = Trying (Moving (record { at = at; taken = taken; job = next })) })) (closing port r))
      (over _ (after_try port r how left) (heard_on _ _ _ _)
      (over _ (tried how.sequence (layout_of port.family) (device_of r)) (heard_on _ _ _ _)
      (h (ran_on keeping (layout_of port.family) (device_of r) (script_of r) at taken))))

  unheard_on : JobOn
      → heard_job next ≡ 10
      → ask (access_job (layout_of port.family) next) (λ b. erase (rest_handshake port r how (carrying left at taken next) b)) ≡ erase (rest_handshake port r how (carrying left at taken job) a)
  unfolding handshake_next access_handshake access_retry access_stage access_attempt access_transfer marked acknowledged
  unheard_on h u = rw u at (job_on h)

-- a request that carries out a command is within its limits
carrying_valid : (port : Port) (r : Request) (tries cap : ℕ) (m : Meter) (left at : ℕ) (taken : Taken) (job : Job)
    → ltb left tries ≡ true → leb (m.transfers + left) cap ≡ true → on_command (script_of r) at ≡ true → valid_job (layout_of port.family) (command_at (script_of r) at) job ≡ true
    → valid_request port r tries cap m (carrying left at taken job) ≡ true
unfolding valid_request valid_handshake due_handshake valid_retry valid_stage due_retry due_stage valid_attempt valid_transfer
carrying_valid port r tries cap m left at taken job h g o v = picked _ _ (picked _ _ h (picked _ _ o v)) g

pub carrying_on : (port : Port) (r : Request) (tries cap : ℕ) (m : Meter) (left at : ℕ) (taken : Taken) (job next : Job) (a : Answer) (x : Access)
    → ltb left tries ≡ true → leb (m.transfers + left) cap ≡ true → on_command (script_of r) at ≡ true
    → JobMoves (layout_of port.family) (device_of r) (command_at (script_of r) at) job a x next
    → RequestMoves port r tries cap m (carrying left at taken job) a x (carrying left at taken next)
unfolding access_handshake access_retry access_stage access_attempt access_transfer
carrying_on port r tries cap m left at taken job next a x h g o j =
    record {
      valid = carrying_valid port r tries cap m left at taken job h g o j.valid;
      kind = j.kind;
      yields = λ how. rw j.access (unheard_on port r how left at taken job next a j.yields j.unheard);
      limits = carrying_valid port r tries cap m left at taken next h g o j.limits;
      access = j.access;
    }

-- and so of a call that goes on with the request's result
pub request_on : {A : Type 0} (port : Port) (r : Request) (how : How) (tries cap : ℕ) (m : Meter) (h g : Handshake) (a : Answer) (x : Access) (f : R Taken → Prog A)
    → RequestMoves port r tries cap m h a x g
    → ask x (λ b. tally m (rest_handshake port r how g b >>= f)) ≡ tally m (rest_handshake port r how h a >>= f)
request_on port r how tries cap m h g a x f d = over_tally m (rest_handshake port r how h a) f (going_tally m x (rest_handshake port r how g) f) (d.yields how)

-- a step that is within its limits, with an answer of the awaited kind
pub admitted : {A : Type 0} (v : Bool) (x : Access) (a : Answer) (p : Asked A) → v ≡ true → fits x a ≡ true → admitting v x a p ≡ p
unfolding admitting question
admitted v x a p e f = rw (e, f)

pub transfer_on : (port : Port) (r : Request) (how : How) (m : Meter) (h g : Handshake) (a : Answer) (x : Access)
    → valid_operands port r m ≡ true → RequestMoves port r (limit_of r) (limit_of r) m h a x g
    → Keeps (said_transfer (Ok (Ask x (Some (port, r, how, m, g)))) ≡ step_transfer (Some (port, r, how, m, h)) a) (stands_transfer (Ok (Ask x (Some (port, r, how, m, g)))))
unfolding said_transfer stands_transfer step_transfer valid_call rest_call
transfer_on port r how m h g a x v d =
    record {
      yields = ap yes (request_on port r how (limit_of r) (limit_of r) m h g a x (gives_value r) d) ∙ sym (admitted _ _ a _ (picked _ _ v d.valid) d.kind);
      limits = (d.access, picked _ _ v d.limits);
    }

pub went_map : (P Q : Access → Handshake → Type 0) → ((x : Access) (g : Handshake) → P x g → Q x g) → (w : (Option (Access × Handshake))) → WentBy P w → WentBy Q w
unfolding WentBy
went_map P Q f (Some (x, g)) h = f x g h
went_map P Q f None h = tt
