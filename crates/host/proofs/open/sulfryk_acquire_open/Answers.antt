use Rattle.host.specs.Shown.{Shows, over_acquire, shows_acquire}
use Rattle.host.proofs.open.sulfryk_acquire_open.Goals as goal

pub returns : goal.returns
unfolding Shows
returns c = (c.acquire_open.result, c.acquire_open.ensures, shows_acquire over_acquire c.acquire_open.result c.acquire.result (rw c.acquire_over.ensures at c.acquire.ensures))
