-- The direct way through a step that stays inside a command, over the numbers of a state.
use Rattle.std.specs.Prelude.{ℕ, ◌≡◌, Bool, false, eqb}
use Rattle.hardware.specs.declared.Access.{Access}
use Rattle.hardware.specs.declared.Meter.{Meter}
use Rattle.hardware.specs.declared.Port.{Port}
use Rattle.hardware.specs.Prog.{pick}
use Rattle.bus.specs.declared.Taken.{Taken}
use Rattle.bus.specs.declared.job.Job.{Job}
use Rattle.i2c.specs.declared.once.Request.{Request}
use Rattle.i2c.specs.declared.handshake.Handshake.{Handshake}
use Rattle.i2c.specs.Calls.{limit_of, valid_operands}
use Rattle.i2c.specs.Direct.{carrying}
use Rattle.identify.specs.declared.place.Place.{Place}
use Rattle.identify.specs.Place.{request_at, tries_at, cap_at, valid_place}
use Rattle.softrate.specs.declared.spot.Spot.{Spot}
use Rattle.softrate.specs.Spot.{request_at as request_on, tries_at as tries_on, cap_at as cap_on, valid_spot}
use Rattle.flat.specs.declared.State.{State}
use Rattle.flat.specs.Hardware.{the_port, the_meter}
use Rattle.flat.specs.Bus.{flat_job, the_job, the_taken}
use Rattle.flat.specs.I2c.{the_request}
use Rattle.flat.specs.Identify.{the_place}
use Rattle.flat.specs.Pick.{set}
use Rattle.flat.specs.Softrate.{the_spot}
use Rattle.host.specs.declared.Block.{Block}
use Rattle.host.specs.declared.direct.Terms.{Terms}
use Rattle.host.specs.Next.{asked_of}
use Rattle.host.specs.Shown.{block_of}
use Rattle.host.specs.Step.{choose}

-- a call that is not over, its request inside the bus, in an attempt, in a command
unfoldable pub shape : State → Bool
shape s = pick (eqb s.tag 0) (pick (eqb s.b1 3) (pick (eqb s.b2 1) (eqb s.b3 1) false) false) false

-- what stands at the same places in every call that makes requests
abbrev pub port_in : State → Port
port_in s = the_port (record { b0 = s.b15; b1 = s.b16; h0 = s.h1 })

abbrev pub meter_in : State → Meter
meter_in s = the_meter (record { b0 = s.b17; w0 = s.w3 })

abbrev pub taken_in : State → Taken
taken_in s = the_taken (record { b0 = s.b9; b1 = s.b10; b2 = s.b11 })

abbrev pub job_in : State → Job
job_in s = the_job (record { b0 = s.b4; b1 = s.b5; b2 = s.b6; b3 = s.b7; b4 = s.b8; h0 = s.h0; w0 = s.w0 })

abbrev pub carrying_in : State → Handshake
carrying_in s = carrying s.b14 s.z0 (taken_in s) (job_in s)

abbrev pub request_in : State → Request
request_in s = the_request (record { tag = s.b18; b1 = s.b19; b2 = s.b20; b3 = s.b21; h0 = s.h2; h1 = s.h3 })

abbrev pub place_in : State → Place
place_in s = the_place (record { tag = s.b18; b1 = s.b19; b2 = s.b20; b3 = s.b21; b4 = s.b22 })

abbrev pub spot_in : State → Spot
spot_in s = the_spot (record { b0 = s.b18; b1 = s.b19; b2 = s.b20; b3 = s.b21 })

unfoldable pub with_job : State → Job → State
with_job s j =
    record {
      call = s.call;
      tag = s.tag;
      b1 = s.b1;
      b2 = s.b2;
      b3 = s.b3;
      b4 = (flat_job j).b0;
      b5 = (flat_job j).b1;
      b6 = (flat_job j).b2;
      b7 = (flat_job j).b3;
      b8 = (flat_job j).b4;
      b9 = s.b9;
      b10 = s.b10;
      b11 = s.b11;
      b12 = s.b12;
      b13 = s.b13;
      b14 = s.b14;
      b15 = s.b15;
      b16 = s.b16;
      b17 = s.b17;
      b18 = s.b18;
      b19 = s.b19;
      b20 = s.b20;
      b21 = s.b21;
      b22 = s.b22;
      b23 = s.b23;
      h0 = (flat_job j).h0;
      h1 = s.h1;
      h2 = s.h2;
      h3 = s.h3;
      h4 = s.h4;
      h5 = s.h5;
      h6 = s.h6;
      w0 = (flat_job j).w0;
      w1 = s.w1;
      w2 = s.w2;
      w3 = s.w3;
      w4 = s.w4;
      w5 = s.w5;
      w6 = s.w6;
      w7 = s.w7;
      w8 = s.w8;
      z0 = s.z0;
    }

-- the block with the next access of a state whose job moved
abbrev pub moved_block : State → Access → Job → Block
moved_block s x next = block_of (asked_of x 0) (with_job s next)

-- a call's request with its limits
pub record TermsAs (v : Bool) (r : Request) (most all : ℕ) (t : Terms) : Type 0 where
  pub held : t.held ≡ v
  pub request : t.request ≡ r
  pub tries : t.tries ≡ most
  pub cap : t.cap ≡ all

abbrev pub TransferTerms : Port → Meter → State → Terms → Type 0
TransferTerms port m s t = TermsAs (valid_operands port (request_in s) m) (request_in s) (limit_of (request_in s)) (limit_of (request_in s)) t

abbrev pub IdentifyTerms : Port → State → Terms → Type 0
IdentifyTerms port s t = TermsAs (valid_place (place_in s)) (request_at (place_in s)) (tries_at port (place_in s)) (cap_at port (place_in s)) t

abbrev pub RateTerms : Port → State → Terms → Type 0
RateTerms port s t = TermsAs (valid_spot (spot_in s)) (request_on (set s.b23) (spot_in s)) (tries_on port (spot_in s).place) (cap_on port (spot_in s)) t

-- by the number of the call; of the others there are none
unfoldable pub TermsOf : ℕ → Port → Meter → State → Terms → Type 0
TermsOf call port m s t =
    choose (eqb call 0) (TransferTerms port m s t)
    (choose (eqb call 1) (t.held ≡ false)
    (choose (eqb call 2) (IdentifyTerms port s t)
    (choose (eqb call 3) (RateTerms port s t)
    (t.held ≡ false))))
