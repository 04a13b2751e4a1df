-- The rule of the locks: each `acquire` that succeeds gets one call of `release` before the next `acquire` or the end.
use Rattle.std.specs.Prelude.{◌≡◌, List, [], ◌∷◌}
use Rattle.hardware.specs.declared.Answer.{Answer}
use Rattle.hardware.specs.Prog.{Prog, ret, ask, note, give, Note, Attempt, Acquires, Acquired, Released, Lapsed, Acknowledged}
use Rattle.hardware.specs.Runs.{run, ended}

-- what a run notes
unfoldable pub notes_in : {A : Type 0} → Prog A → List Answer → List Note
notes_in (ret v) l = []
notes_in (ask x f) [] = []
notes_in (ask x f) (a ∷ l) = notes_in (f a) l
notes_in (note n p) l = n ∷ notes_in p l
notes_in (give b p) l = notes_in p l

-- broken: `acquire` called while held, or `release` while free
pub data Hold : Type 0 where
  free held broken : Hold

unfoldable pub noted : Note → Hold → Hold
noted Acquires free = free
noted Acquired free = held
noted Acquires held = broken
noted Acquired held = broken
noted Acquires broken = broken
noted Acquired broken = broken
noted Released free = broken
noted Released held = free
noted Released broken = broken
noted Attempt h = h
noted Lapsed h = h
noted (Acknowledged sample) h = h

unfoldable pub hold_after : Hold → List Note → Hold
hold_after h [] = h
hold_after h (n ∷ ns) = hold_after (noted n h) ns

-- a run keeps the rule, and has left nothing held where it has ended
unfoldable pub Paired : {A : Type 0} → Prog A → List Answer → Type 0
Paired {A} p l =
    (hold_after free (notes_in p l) ≡ broken → ⊥) × ((v : A) → (run p l).status ≡ ended v → hold_after free (notes_in p l) ≡ free)
