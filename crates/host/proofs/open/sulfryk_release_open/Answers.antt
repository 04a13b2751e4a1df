use Rattle.host.specs.Shown.{Shows, over_release, shows_release}
use Rattle.host.proofs.open.sulfryk_release_open.Goals as goal

pub returns : goal.returns
unfolding Shows
returns c = (c.release_open.result, c.release_open.ensures, shows_release over_release c.release_open.result c.release.result (rw c.release_over.ensures at c.release.ensures))
