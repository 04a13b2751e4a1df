-- The edges that each command shows before what comes after it, where the other side's pull does not change.
use Prim.Native.Nat.{ℕ}
use mathlib.Core.Path.{◌≡◌, refl, ap, ◌∙◌, sym}
use mathlib.Core.Bool.{Bool, true, false, not}
use mathlib.Core.List.{List, [], ◌∷◌, ◌++◌, append-nil, append_assoc}
use Rattle.bus.specs.declared.Layout.{Layout}
use Rattle.bus.specs.declared.Taken.{Taken}
use Rattle.bus.specs.Layout.{L82599}
use Rattle.bus.specs.Bus.{Bus, none, took, done, shifted, start, stop, out_bit, in_bit}
use Rattle.wire.specs.Lines.{Pulls, drawn, Edge, START, STOP, Fall, Bit, banging, pulls_sda, pulls_scl, master, ready, Rests, Known, Distinct}
use Rattle.wire.specs.Machine.{Side, takes_all}
use Rattle.wire.specs.Always.{listener, nobody, Always, Claim, From, FromRest, start_lead, stop_lead, Ended, Shows}
use Rattle.wire.proofs.Commands as Commands

-- what is known of a word by itself: before a start, and with bit-banging enabled
pub rests : (l : Layout) (w : ℕ) → ready l w ≡ true → Rests l (drawn (pulls_sda l w) (pulls_scl l w)) w
unfolding master
rests l w h = record { fit = h; lines = refl }

pub known : (l : Layout) (w : ℕ) → banging l w ≡ true → Known l (drawn (pulls_sda l w) (pulls_scl l w)) w w
unfolding master ready
known l w h = record { held = record { enabled = h; lines = refl }; now = rests l w (rw h) }

-- on the 82599 layout any word will do
pub banging_82599 : (w : ℕ) → banging L82599 w ≡ true
unfolding banging
banging_82599 w = refl

pub ready_82599 : (w : ℕ) → ready L82599 w ≡ true
unfolding ready banging
ready_82599 w = refl

-- the listener's list is what it took
listens : (p : Pulls) (fs es : List Edge) → takes_all (listener p) es fs ≡ fs ++ es
unfolding takes_all
listens p fs [] = sym (append-nil fs)
listens p fs (e ∷ es) = listens p (fs ++ (e ∷ [])) es ∙ append_assoc fs (e ∷ []) es

listened : (p : Pulls) (es : List Edge) → takes_all (listener p) es [] ≡ es
listened p es = listens p [] es

module _ (l : Layout) (g : Distinct l) (o : Side) where
  -- A start where nobody else pulls a line: one START, no STOP after SCL is high, and both lines pulled
  pub start_edges : ((s : o.State) → o.pulls s ≡ nobody) → (a b : Bool) {s : o.State} {k : Bus} {Q : Claim o}
      → From l o true true (takes_all o (start_lead a b ++ START ∷ Fall ∷ []) s) k Q → FromRest l o a b s (start l k) Q
  unfolding takes_all start_lead
  start_edges free a true h = Commands.start_low l g o (λ t. ap (λ p. p.scl) (free t)) (ap (λ p. p.sda) (free _)) (ap (λ p. p.sda) (free _)) h
  start_edges free true false h = Commands.start_after l g o (λ t. ap (λ p. p.scl) (free t)) (ap (λ p. p.sda) (free _)) (ap (λ p. p.sda) (free _)) h
  start_edges free false false h = Commands.start_free l g o (λ t. ap (λ p. p.scl) (free t)) (ap (λ p. p.sda) (free _)) h

  -- A stop where nobody else pulls a line: one STOP at its end, and both lines released
  pub stop_edges : ((s : o.State) → o.pulls s ≡ nobody) → (a b : Bool) {s : o.State} {k : Bus} {Q : Claim o}
      → FromRest l o false false (takes_all o (stop_lead a b ++ STOP ∷ []) s) k Q → From l o a b s (stop l k) Q
  unfolding takes_all stop_lead
  stop_edges free a true h = Commands.stop_low l g o (λ t. ap (λ p. p.scl) (free t)) (ap (λ p. p.sda) (free _)) (ap (λ p. p.sda) (free _)) h
  stop_edges free true false h = Commands.stop_held l g o (λ t. ap (λ p. p.scl) (free t)) (ap (λ p. p.sda) (free _)) (ap (λ p. p.sda) (free _)) h
  stop_edges free false false h =
      Commands.stop_after l g o (λ t. ap (λ p. p.scl) (free t)) (ap (λ p. p.sda) (free _)) (ap (λ p. p.sda) (free _)) (ap (λ p. p.sda) (free _)) h

  -- A bit x sent while SCL is low, where nobody else pulls a line: the bit x and no START or STOP
  pub out_bit_edges : ((s : o.State) → o.pulls s ≡ nobody) → (x : Bool) {a : Bool} {s : o.State} {k : Bus} {Q : Claim o}
      → From l o (not x) true (takes_all o (Bit x ∷ Fall ∷ []) s) k Q → From l o a true s (out_bit l x k) Q
  unfolding takes_all
  out_bit_edges free x h = Commands.out_bit_lem l g o (λ t. ap (λ p. p.scl) (free t)) x (λ _. ap (λ p. p.sda) (free _)) h

  -- A bit read while SCL is low, where somebody else pulls SDA (q) or doesn't: SDA is released, the one bit is its level,
  -- 1 where nobody pulls it, and that bit is handed on
  pub in_bit_edges : (q : Bool) → ((s : o.State) → o.pulls s ≡ drawn q false) → {a : Bool} {s : o.State} (k : Bool → Bus) {Q : Claim o}
      → From l o false true (takes_all o (Bit (not q) ∷ Fall ∷ []) s) (k (not q)) Q → From l o a true s (in_bit l k) Q
  unfolding takes_all
  in_bit_edges q free {s = s} k {Q} h = Commands.in_bit_lem l g o (λ t. ap (λ p. p.scl) (free t)) k (rw (free s, free (o.takes (Bit (not q)) s)) h)

-- The same for each command alone on the lines
module _ (l : Layout) (g : Distinct l) where
  ended_rest : {a b : Bool} (p : Pulls) (t : Taken) (es : List Edge) → FromRest l (listener p) a b (takes_all (listener p) es []) (done t) (Ended l p t es (drawn a b))
  unfolding Always
  ended_rest p t es = record { goes = λ ctl w r. (refl, listened p es, r) }

  ended : {a b : Bool} (p : Pulls) (t : Taken) (es : List Edge) → From l (listener p) a b (takes_all (listener p) es []) (done t) (Ended l p t es (drawn a b))
  unfolding Always
  ended p t es = record { goes = λ ctl w n. (refl, listened p es, n.now) }

  pub start_alone : (a b : Bool) (ctl w : ℕ) → Rests l (drawn a b) w
      → Shows l nobody (start l (done none) ctl) w none (start_lead a b ++ START ∷ Fall ∷ []) (drawn true true)
  unfolding Shows
  start_alone a b ctl w r = (start_edges l g (listener nobody) (λ s. refl) a b (ended nobody none _)).goes ctl w r

  pub stop_alone : (a b : Bool) (ctl w : ℕ) → Known l (drawn a b) ctl w
      → Shows l nobody (stop l (done none) ctl) w none (stop_lead a b ++ STOP ∷ []) (drawn false false)
  unfolding Shows
  stop_alone a b ctl w n = (stop_edges l g (listener nobody) (λ s. refl) a b (ended_rest nobody none _)).goes ctl w n

  pub out_bit_alone : (x a : Bool) (ctl w : ℕ) → Known l (drawn a true) ctl w
      → Shows l nobody (out_bit l x (done none) ctl) w none (Bit x ∷ Fall ∷ []) (drawn (not x) true)
  unfolding Shows
  out_bit_alone x a ctl w n = (out_bit_edges l g (listener nobody) (λ s. refl) x (ended nobody none _)).goes ctl w n

  -- somebody else pulls SDA (q) all the time, or doesn't; the bit is given as the byte read
  pub in_bit_alone : (q a : Bool) (ctl w : ℕ) → Known l (drawn a true) ctl w
      → Shows l (drawn q false) (in_bit l (λ bit. done (took none (shifted 0 bit))) ctl) w (took none (shifted 0 (not q))) (Bit (not q) ∷ Fall ∷ []) (drawn false true)
  unfolding Shows
  in_bit_alone q a ctl w n =
      (in_bit_edges l g (listener (drawn q false)) q (λ s. refl) (λ bit. done (took none (shifted 0 bit))) (ended (drawn q false) _ _)).goes ctl w n
