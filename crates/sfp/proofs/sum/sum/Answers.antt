use Rattle.std.proofs.Common.{◌∙◌, ◌+◌, ◌%◌, rules}
use Rattle.std.proofs.lemmas.Iterator.{YieldsList-from_slice}
use Rattle.std.proofs.lemmas.Iterator.Consumers.{fold_from_yields_List}
use Rattle.sfp.proofs.Laws.{summed}
use Rattle.sfp.proofs.sum.sum.Goals as goal

pub returns : goal.returns
returns c =
    fold_from_yields_List _ (λ t b. (t + b) % 256) _ _ c.fold.ensures.ran (YieldsList-from_slice c.args.bytes.now cc) (λ t x r q k. search rules)
    ∙ summed c.args.bytes.now
