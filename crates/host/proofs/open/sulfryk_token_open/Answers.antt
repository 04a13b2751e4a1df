use Rattle.host.specs.Shown.{Shows, over_token, shows_token}
use Rattle.host.proofs.open.sulfryk_token_open.Goals as goal

pub returns : goal.returns
unfolding Shows
returns c = (c.token_open.result, c.token_open.ensures, shows_token over_token c.token_open.result c.token.result (rw c.token_over.ensures at c.token.ensures))
