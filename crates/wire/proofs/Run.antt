-- Laws of runs, for any other side and any source.
use mathlib.Core.Path.{◌≡◌, refl, ap, fun_ext}
use mathlib.Core.Bool.{Bool, true, false}
use mathlib.Core.List.{List, ◌++◌}
use lib.Dec.{T}
use Rattle.hardware.specs.declared.Access.{Access}
use Rattle.hardware.specs.declared.Access.TheVariants.{Read, Write, Wait}
use Rattle.hardware.specs.declared.Answer.{Answer}
use Rattle.hardware.specs.Asked.{fits}
use Rattle.hardware.specs.Prog.{Prog, ret, ask, note, give, pick}
use Rattle.bus.specs.declared.Layout.{Layout}
use Rattle.wire.specs.Lines.{Each}
use Rattle.wire.specs.Machine.{Side, World, modelled, reply, after, noted}
use Rattle.wire.specs.Run.{Given, given, nothing, refused, Source, listed, fixed, kind_asked, kind_checked, Event, at_machine, answered, noticed, Finished, BenchRun, saw, proceed, run, answers_in}
use Rattle.hardware.proofs.Laws.{is_true}

-- an answer of the awaited kind
unfoldable pub Fits : {W : Type 0} → Event W → Type 0
Fits (at_machine x w) = Unit {0}
Fits (answered x a) = T (fits x a)
Fits (noticed n) = Unit {0}

-- fixed answers of the awaited kinds pass the question
pub fixed_kind_checked : (f : Access → Answer) → ((x : Access) → T (fits x (f x))) → kind_checked (fixed f) ≡ fixed f
unfolding fixed kind_asked pick
fixed_kind_checked f h = fun_ext (λ x. fun_ext (λ answers. rw (is_true (fits x (f x)) (h x))))

module _ (l : Layout) (o : Side) {A : Type 0} where
  -- an access of the machine's own, and any other
  pub run_own : (s : Source) (x : Access) (f : Answer → Prog A) (w : World o) (answers : List Answer) → modelled l o x ≡ true
      → run l o s (ask x f) w answers ≡ saw (at_machine x w) (run l o s (f (reply l o x w)) (after l o x w) answers)
  unfolding run pick
  run_own s x f w answers e = rw e

  pub run_other : (s : Source) (x : Access) (f : Answer → Prog A) (w : World o) (answers : List Answer) → modelled l o x ≡ false
      → run l o s (ask x f) w answers ≡ proceed x w (λ a rest. run l o s (f a) w rest) (s x answers)
  unfolding run pick
  run_other s x f w answers e = rw e

  -- Where every answer is of the awaited kind, that question changes nothing
  kind_checked_proceed : (x : Access) (w : World o) (h k : Answer → List Answer → BenchRun (World o) A) (g : Given)
      → ((a : Answer) (rest : List Answer) → Each Fits (k a rest).trace → h a rest ≡ k a rest) → Each Fits (proceed x w k g).trace
      → proceed x w h (kind_asked x g) ≡ proceed x w k g
  unfolding proceed kind_asked pick Fits
  kind_checked_proceed x w h k (given a rest) e m = rw (is_true (fits x a) m.0) (ap (saw (answered x a)) (e a rest m.1))
  kind_checked_proceed x w h k nothing e m = refl
  kind_checked_proceed x w h k (refused n) e m = refl

  kind_checked_at : (s : Source) (x : Access) (b : Bool) (f : Answer → Prog A) (w : World o) (answers : List Answer) → modelled l o x ≡ b
      → ((a : Answer) (w' : World o) (rest : List Answer) → Each Fits (run l o s (f a) w' rest).trace
      → run l o (kind_checked s) (f a) w' rest ≡ run l o s (f a) w' rest)
      → Each Fits (run l o s (ask x f) w answers).trace → run l o (kind_checked s) (ask x f) w answers ≡ run l o s (ask x f) w answers
  unfolding run pick
  kind_checked_at s x true f w answers e h m = rw e (ap (saw _) (h _ _ _ (rw e at m).1))
  kind_checked_at s x false f w answers e h m = rw e (kind_checked_proceed x w _ _ (s x answers) (λ a rest. h a w rest) (rw e at m))

  pub kind_checked_run : (s : Source) (p : Prog A) (w : World o) (answers : List Answer) → Each Fits (run l o s p w answers).trace
      → run l o (kind_checked s) p w answers ≡ run l o s p w answers
  unfolding run
  kind_checked_run s (ret a) w answers m = refl
  kind_checked_run s (ask x f) w answers m = kind_checked_at s x (modelled l o x) f w answers refl (λ a w' rest. kind_checked_run s (f a) w' rest) m
  kind_checked_run s (note n p) w answers m = ap (saw (noticed n)) (kind_checked_run s p (noted o n w) answers m.1)
  kind_checked_run s (give b p) w answers m = kind_checked_run s p w answers m

  -- A run that came to its end is the run over the list of the answers in it, whatever stands after them
  module _ (s : Source) (rest : List Answer) where
    replayed_proceed : (x : Access) (f : Answer → Prog A) (w : World o) (g : Given)
        → ((a : Answer) (w' : World o) (t : List Answer) → Finished (run l o s (f a) w' t).outcome
        → run l o listed (f a) w' (answers_in (run l o s (f a) w' t).trace ++ rest) ≡ run l o s (f a) w' t)
        → Finished (proceed x w (λ a t. run l o s (f a) w t) g).outcome
        → proceed x w (λ a t. run l o listed (f a) w t) (listed x (answers_in (proceed x w (λ a t. run l o s (f a) w t) g).trace ++ rest)) ≡ proceed x w (λ a t. run l o s (f a) w t) g
    unfolding proceed listed answers_in Finished
    replayed_proceed x f w (given a t) h m = ap (saw (answered x a)) (h a w t m)
    replayed_proceed x f w nothing h m = absurd m
    replayed_proceed x f w (refused n) h m = absurd m

    replayed_at : (x : Access) (b : Bool) (f : Answer → Prog A) (w : World o) (answers : List Answer) → modelled l o x ≡ b
        → ((a : Answer) (w' : World o) (t : List Answer) → Finished (run l o s (f a) w' t).outcome
        → run l o listed (f a) w' (answers_in (run l o s (f a) w' t).trace ++ rest) ≡ run l o s (f a) w' t)
        → Finished (run l o s (ask x f) w answers).outcome
        → run l o listed (ask x f) w (answers_in (run l o s (ask x f) w answers).trace ++ rest) ≡ run l o s (ask x f) w answers
    unfolding run pick answers_in
    replayed_at x true f w answers e h m = rw e (ap (saw _) (h _ _ _ (rw e at m)))
    replayed_at x false f w answers e h m = rw e (replayed_proceed x f w (s x answers) h (rw e at m))

    pub replayed : (p : Prog A) (w : World o) (answers : List Answer) → Finished (run l o s p w answers).outcome
        → run l o listed p w (answers_in (run l o s p w answers).trace ++ rest) ≡ run l o s p w answers
    unfolding run answers_in
    replayed (ret a) w answers m = refl
    replayed (ask x f) w answers m = replayed_at x (modelled l o x) f w answers refl (λ a w' t. replayed (f a) w' t) m
    replayed (note n p) w answers m = ap (saw (noticed n)) (replayed p (noted o n w) answers m)
    replayed (give b p) w answers m = replayed p w answers m

  -- a run with fixed answers comes to its end
  module _ (fix : Access → Answer) where
    finishes_at : (x : Access) (b : Bool) (f : Answer → Prog A) (w : World o) (answers : List Answer) → modelled l o x ≡ b
        → ((a : Answer) (w' : World o) (t : List Answer) → Finished (run l o (fixed fix) (f a) w' t).outcome) → Finished (run l o (fixed fix) (ask x f) w answers).outcome
    unfolding run pick fixed proceed
    finishes_at x true f w answers e h = rw e (h _ _ _)
    finishes_at x false f w answers e h = rw e (h _ _ _)

    pub fixed_finishes : (p : Prog A) (w : World o) (answers : List Answer) → Finished (run l o (fixed fix) p w answers).outcome
    unfolding run Finished
    fixed_finishes (ret a) w answers = tt
    fixed_finishes (ask x f) w answers = finishes_at x (modelled l o x) f w answers refl (λ a w' t. fixed_finishes (f a) w' t)
    fixed_finishes (note n p) w answers = fixed_finishes p (noted o n w) answers
    fixed_finishes (give b p) w answers = fixed_finishes p w answers

-- what the machine answers is of the awaited kind
pub reply_fits : (l : Layout) (o : Side) (x : Access) (w : World o) → T (fits x (reply l o x w))
unfolding reply fits
reply_fits l o (Read r) w = tt
reply_fits l o (Write r v) w = tt
reply_fits l o (Wait n) w = tt
