-- Programs that leave the machine alone: the handshake, and the locks but for the mux.
use Rattle.std.specs.Prelude.{◌≡◌, false}
use Rattle.hardware.specs.declared.Access.{Access}
use Rattle.hardware.specs.declared.Answer.{Answer}
use Rattle.hardware.specs.Prog.{Prog, ret, ask, note, give, Note, Attempt, Acquires, Acquired, Released, Lapsed, Acknowledged}
use Rattle.bus.specs.declared.Layout.{Layout}
use Rattle.wire.specs.Machine.{Side, modelled}
use Rattle.wire.specs.Always.{Either, ByKind}

-- no transfer begins, no byte is acknowledged, and where a lock or a grant runs out there is nothing to show
abbrev pub Apart : Note → Type 0 → Type 0
Apart Attempt X = ⊥
Apart Acquires X = X
Apart Acquired X = X
Apart Released X = X
Apart Lapsed X = Unit {0}
Apart (Acknowledged sample) X = ⊥

-- no access of p is the machine's own, p begins no transfer, and Q holds of its result
unfoldable pub Fine : Layout → Side → {A : Type 0} → Prog A → (A → Type 0) → Type 0
Fine l o (ret a) Q = Q a
Fine l o (ask x f) Q = (modelled l o x ≡ false) × ByKind o.may x (λ a. Fine l o (f a) Q)
Fine l o (note n p) Q = Apart n (Fine l o p Q)
Fine l o (give b p) Q = Fine l o p Q

abbrev pub Unlapsed : Note → Type 0 → Type 0
Unlapsed Attempt X = X
Unlapsed Acquires X = X
Unlapsed Acquired X = X
Unlapsed Released X = X
Unlapsed Lapsed X = ⊥
Unlapsed (Acknowledged sample) X = X

-- with these answers to all accesses but the machine's own, which may get any answer, no lock or grant runs out, and Q
-- holds of the result
unfoldable pub AtOnce : Layout → Side → (Access → Answer) → {A : Type 0} → Prog A → (A → Type 0) → Type 0
AtOnce l o answers (ret a) Q = Q a
AtOnce l o answers (ask x f) Q = Either (modelled l o x) ((a : Answer) → AtOnce l o answers (f a) Q) (AtOnce l o answers (f (answers x)) Q)
AtOnce l o answers (note n p) Q = Unlapsed n (AtOnce l o answers p Q)
AtOnce l o answers (give b p) Q = AtOnce l o answers p Q
