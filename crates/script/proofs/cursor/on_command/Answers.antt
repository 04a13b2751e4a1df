use Rattle.std.proofs.Common.{◌∙◌, eqb, rules, tests}
use Rattle.std.proofs.lemmas.Iterator.Consumers.{YieldsList-from_first}
use Rattle.std.proofs.lemmas.Iterator.Search.{any_from_yields_List}
use Rattle.script.specs.Script.{places}
use Rattle.script.proofs.Laws.{found}
use Rattle.script.proofs.cursor.on_command.Goals as goal

pub returns : goal.returns
returns c =
    any_from_yields_List (λ place. eqb place c.args.at) c.any.new.self _ _ c.any.ensures.ran
    (YieldsList-from_first (λ at. at) (λ p. places p.script.now p.at) _ c.places_of.ensures) (λ x b q k. search (rules, tests))
    ∙ found c.args.script.now c.args.at
