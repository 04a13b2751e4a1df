-- Without the slowest acknowledgement every call yields the count of its attempts beside its result, whatever bytes are acknowledged.
use mathlib.Core.Path.{◌≡◌, refl, ap, fun_ext, ◌∙◌}
use Rattle.hardware.specs.declared.Meter.{Meter}
use Rattle.hardware.specs.Asked.{Asked, yes}
use Rattle.hardware.specs.Prog.{Prog, ret, ask, note, give, ◌>>=◌, Counted, metered, tally}
use Rattle.hardware.specs.Erased.{made, made_by, counting}

pub erased : {A : Type 0} (m : Meter) (p : Prog A) → tally m p >>= made ≡ counting m.transfers p
unfolding tally made counting ◌>>=◌
erased m (ret a) = refl
erased m (ask x f) = ap (ask x) (fun_ext (λ r. erased m (f r)))
erased m (note k p) = erased (metered k m) p
erased m (give b p) = ap (give b) (erased m p)

-- so of what any opening or step says
pub erased_said : {A : Type 0} {o : Asked (Prog (Counted A))} (m : Meter) (p : Prog A) → o ≡ yes (tally m p) → made_by o ≡ yes (counting m.transfers p)
unfolding made_by
erased_said m p e = ap made_by e ∙ ap yes (erased m p)
