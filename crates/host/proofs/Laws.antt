-- A step inside a command, over the numbers of a state: its job is read from them and put back.
use Prim.Native.Nat.{ℕ}
use mathlib.Core.Path.{◌≡◌, ◌∙◌, ap, refl, sym, subst}
use mathlib.Core.Bool.{Bool, true, false}
use lib.Dec.{T, eqb}
use borrow.Author.Tests.{eqb-true}
use Rattle.hardware.specs.declared.Answer.{Answer}
use Rattle.hardware.specs.declared.Access.{Access}
use Rattle.hardware.specs.Marks.{valid_held}
use Rattle.bus.proofs.Laws.{picked_first, picked_second}
use Rattle.bus.specs.declared.job.Job.{Job}
use Rattle.i2c.specs.Direct.{carrying, RequestMoves}
use Rattle.i2c.proofs.Moves.{transfer_on}
use Rattle.identify.proofs.Moves.{identify_on}
use Rattle.softrate.proofs.Moves.{rate_on}
use Rattle.flat.specs.declared.State.{State}
use Rattle.flat.specs.declared.of_i2c.HandshakeFlat.{HandshakeFlat}
use Rattle.flat.specs.Bus.{the_job, the_taken, back_job}
use Rattle.flat.specs.Transfer.{the_sequence, the_transfer, the_attempt}
use Rattle.flat.specs.I2c.{the_how, the_stage, the_retry, the_handshake, the_transfer_call}
use Rattle.flat.specs.Identify.{the_identify, the_identify_call}
use Rattle.flat.specs.Pick.{set}
use Rattle.flat.specs.Softrate.{the_rate, the_rate_call}
use Rattle.host.specs.declared.Block.{Block}
use Rattle.host.specs.declared.direct.Terms.{Terms}
use Rattle.host.specs.Direct.{carrying_in, shape, port_in, meter_in, taken_in, request_in, place_in, spot_in, with_job, moved_block, TransferTerms, IdentifyTerms, RateTerms, TermsOf}
use Rattle.host.specs.Shown.{Shows, ShownIdentify, ShownRate, ShownTransfer}
use Rattle.host.specs.Step.{choose, Stepped, SteppedAs, SteppedTransfer, SteppedIdentify, SteppedRate}
use Rattle.hardware.specs.declared.Told.TheVariants.{Ask}
use Rattle.std.specs.Prelude.{Ok, Some}

-- the numbers of a request that carries out a command
in_request : (g : HandshakeFlat) → g.tag ≡ 3 → g.b1 ≡ 1 → g.b2 ≡ 1
    → the_handshake g ≡ carrying g.b13 g.z0 (the_taken (record { b0 = g.b8; b1 = g.b9; b2 = g.b10 })) (the_job (record { b0 = g.b3; b1 = g.b4; b2 = g.b5; b3 = g.b6; b4 = g.b7; h0 = g.h0; w0 = g.w0 }))
unfolding the_handshake the_retry the_stage the_attempt the_transfer
in_request g e f h = rw (e, f, h)

record Tags (s : State) : Type 0 where
  call : s.tag ≡ 0
  request : s.b1 ≡ 3
  stage : s.b2 ≡ 1
  attempt : s.b3 ≡ 1

tags : (s : State) → shape s ≡ true → Tags s
unfolding shape
tags s h =
    let h1 = picked_second (eqb s.tag 0) _ h in
    let h2 = picked_second (eqb s.b1 3) _ h1 in
    record {
      call = eqb-true s.tag 0 (picked_first (eqb s.tag 0) _ h);
      request = eqb-true s.b1 3 (picked_first (eqb s.b1 3) _ h1);
      stage = eqb-true s.b2 1 (picked_first (eqb s.b2 1) _ h2);
      attempt = eqb-true s.b3 1 (picked_second (eqb s.b2 1) _ h2);
    }

with_tags : (s : State) (j : Job) → Tags s → Tags (with_job s j)
unfolding with_job
with_tags s j t = record { call = t.call; request = t.request; stage = t.stage; attempt = t.attempt }

in_identify : (s : State) → Tags s → the_identify_call s ≡ Some ((port_in s), (the_sequence s.b23), (meter_in s), (record { place = place_in s; request = carrying_in s }))
unfolding the_identify_call the_identify
in_identify s t = rw (t.call, in_request (record { tag = s.b1; b1 = s.b2; b2 = s.b3; b3 = s.b4; b4 = s.b5; b5 = s.b6; b6 = s.b7; b7 = s.b8; b8 = s.b9; b9 = s.b10; b10 = s.b11; b11 = s.b12; b12 = s.b13; b13 = s.b14; h0 = s.h0; w0 = s.w0; w1 = s.w1; w2 = s.w2; z0 = s.z0 }) t.request t.stage t.attempt)

in_transfer : (s : State) → Tags s → the_transfer_call s ≡ Some ((port_in s), (request_in s), (the_how (record { b0 = s.b22; b1 = s.b23 })), (meter_in s), (carrying_in s))
unfolding the_transfer_call
in_transfer s t = rw (t.call, in_request (record { tag = s.b1; b1 = s.b2; b2 = s.b3; b3 = s.b4; b4 = s.b5; b5 = s.b6; b6 = s.b7; b7 = s.b8; b8 = s.b9; b9 = s.b10; b10 = s.b11; b11 = s.b12; b12 = s.b13; b13 = s.b14; h0 = s.h0; w0 = s.w0; w1 = s.w1; w2 = s.w2; z0 = s.z0 }) t.request t.stage t.attempt)

in_rate : (s : State) → Tags s → the_rate_call s ≡ Some ((port_in s), (the_sequence s.b22), (set s.b23), (meter_in s), (record { spot = spot_in s; request = carrying_in s }))
unfolding the_rate_call the_rate
in_rate s t = rw (t.call, in_request (record { tag = s.b1; b1 = s.b2; b2 = s.b3; b3 = s.b4; b4 = s.b5; b5 = s.b6; b6 = s.b7; b7 = s.b8; b8 = s.b9; b9 = s.b10; b10 = s.b11; b11 = s.b12; b12 = s.b13; b13 = s.b14; h0 = s.h0; w0 = s.w0; w1 = s.w1; w2 = s.w2; z0 = s.z0 }) t.request t.stage t.attempt)

chosen : {A B C D : Type 0} (b : Bool) → (b ≡ true → A → C) → (B → D) → choose b A B → choose b C D
chosen true f g x = f refl x
chosen false f g x = g x

-- the request of a state goes on, within the terms of its call
abbrev Goes : State → Answer → Access → Job → Terms → Type 0
Goes s a x next t = RequestMoves (port_in s) t.request t.tries t.cap (meter_in s) (carrying_in s) a x (carrying s.b14 s.z0 (taken_in s) next)

module _ (s : State) (a : Answer) (x : Access) (next : Job) (t : Terms) (h : shape s ≡ true) (held : valid_held (port_in s) (meter_in s) ≡ true) (ok : t.held ≡ true) (d : Goes s a x next t) where
  transfer_moves : s.call ≡ 0 → TransferTerms (port_in s) (meter_in s) s t → SteppedTransfer s a (moved_block s x next)
  unfolding SteppedTransfer Shows ShownTransfer with_job
  transfer_moves call e =
      let how = the_how (record { b0 = s.b22; b1 = s.b23 }) in
      let k = transfer_on (port_in s) (request_in s) how (meter_in s) (carrying_in s) (carrying s.b14 s.z0 (taken_in s) next) a x (sym e.held ∙ ok) (rw (e.request, e.tries, e.cap) at d) in (
        Ok (Ask x (Some ((port_in s), (request_in s), how, (meter_in s), (carrying s.b14 s.z0 (taken_in s) next)))),
        record { yields = rw (in_transfer s (tags s h)) k.yields; limits = k.limits },
        record {
          shows = refl;
          of = call;
          state = in_transfer (with_job s next) (with_tags s next (tags s h)) ∙ ap (λ j. Some ((port_in s), (request_in s), how, (meter_in s), (carrying s.b14 s.z0 (taken_in s) j))) (back_job next);
        },
      )

  identify_moves : s.call ≡ 2 → IdentifyTerms (port_in s) s t → SteppedIdentify s a (moved_block s x next)
  unfolding SteppedIdentify Shows ShownIdentify with_job
  identify_moves call e =
      let q = the_sequence s.b23 in
      let k = identify_on (port_in s) q (meter_in s) (place_in s) (carrying_in s) (carrying s.b14 s.z0 (taken_in s) next) a x held (sym e.held ∙ ok) (rw (e.request, e.tries, e.cap) at d) in (
        Ok (Ask x (Some ((port_in s), q, (meter_in s), (record { place = place_in s; request = carrying s.b14 s.z0 (taken_in s) next })))),
        record { yields = rw (in_identify s (tags s h)) k.yields; limits = k.limits },
        record {
          shows = refl;
          of = call;
          state = in_identify (with_job s next) (with_tags s next (tags s h)) ∙ ap (λ j. Some ((port_in s), q, (meter_in s), (record { place = place_in s; request = carrying s.b14 s.z0 (taken_in s) j }))) (back_job next);
        },
      )

  rate_moves : s.call ≡ 3 → RateTerms (port_in s) s t → SteppedRate s a (moved_block s x next)
  unfolding SteppedRate Shows ShownRate with_job
  rate_moves call e =
      let q = the_sequence s.b22 in
      let k = rate_on (port_in s) q (set s.b23) (meter_in s) (spot_in s) (carrying_in s) (carrying s.b14 s.z0 (taken_in s) next) a x held (sym e.held ∙ ok) (rw (e.request, e.tries, e.cap) at d) in (
        Ok (Ask x (Some ((port_in s), q, (set s.b23), (meter_in s), (record { spot = spot_in s; request = carrying s.b14 s.z0 (taken_in s) next })))),
        record { yields = rw (in_rate s (tags s h)) k.yields; limits = k.limits },
        record {
          shows = refl;
          of = call;
          state = in_rate (with_job s next) (with_tags s next (tags s h)) ∙ ap (λ j. Some ((port_in s), q, (set s.b23), (meter_in s), (record { spot = spot_in s; request = carrying s.b14 s.z0 (taken_in s) j }))) (back_job next);
        },
      )

  no_terms : {A : Type 0} → t.held ≡ false → A
  no_terms n = absurd (subst T (sym (sym n ∙ ok)) tt)

  pub call_moves : TermsOf s.call (port_in s) (meter_in s) s t → Stepped s a (moved_block s x next)
  unfolding TermsOf Stepped SteppedAs
  call_moves =
      chosen (eqb s.call 0) (λ e. transfer_moves (eqb-true s.call 0 e))
      (chosen (eqb s.call 1) (λ e n. no_terms n)
      (chosen (eqb s.call 2) (λ e. identify_moves (eqb-true s.call 2 e))
      (chosen (eqb s.call 3) (λ e. rate_moves (eqb-true s.call 3 e)) (λ n. no_terms n))))

pub chosen_both : {A : Type 0} (b : Bool) → A → choose b A A
chosen_both true x = x
chosen_both false x = x

pub by_call : (n : ℕ) (s : State) (a : Answer) (b : Block) → s.call ≡ n → SteppedAs n s a b → Stepped s a b
unfolding Stepped
by_call n s a b e h = subst (λ (m : ℕ). SteppedAs m s a b) (sym e) h

pub of_call : (n : ℕ) (s : State) (a : Answer) (b : Block) → s.call ≡ n → Stepped s a b → SteppedAs n s a b
unfolding Stepped
of_call n s a b e h = subst (λ (m : ℕ). SteppedAs m s a b) e h
