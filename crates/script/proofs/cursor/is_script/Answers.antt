use Rattle.std.proofs.Common.{◌∙◌, ap, rules, tests}
use Rattle.std.proofs.lemmas.Iterator.Consumers.{YieldsList-from_first, fold_from_yields_List}
use Rattle.script.specs.Script.{at_end, command_at, follows, is_script, places}
use Rattle.script.specs.declared.cursor.Where.TheVariants.{Begin}
use Rattle.script.proofs.Laws.{followed}
use Rattle.script.proofs.cursor.is_script.Goals as goal

pub returns : goal.returns
unfolding is_script
returns c =
    let walk = fold_from_yields_List _ (λ w at. follows w (command_at c.args.script.now at)) _ _ c.fold.ensures.ran
    (YieldsList-from_first (λ at. at) (λ p. places p.script.now p.at) _ c.places_of.ensures) (λ w x r q k. search (rules, tests)) in
    c.closed.ensures ∙ ap at_end (walk ∙ followed c.args.script.now 0 Begin)
