use Rattle.std.proofs.Common.{◌∙◌, drop, rules, tests}
use Rattle.std.proofs.lemmas.Iterator.Consumers.{YieldsList-from_first}
use Rattle.std.proofs.lemmas.Iterator.Search.{all_from_yields_List}
use Rattle.script.specs.Script.{head_known, places}
use Rattle.script.proofs.Laws.{all_known}
use Rattle.script.proofs.cursor.complete.Goals as goal

pub returns : goal.returns
returns c =
    all_from_yields_List (λ at. head_known (drop at c.args.script.now)) c.all.new.self _ _ c.all.ensures.ran
    (YieldsList-from_first (λ at. at) (λ p. places p.script.now p.at) _ c.places_of.ensures) (λ x b q k. search (rules, tests))
    ∙ all_known c.args.script.now 0
