use Rattle.std.proofs.Common.{rules, tests, ◌∙◌}
use Rattle.std.proofs.lemmas.Iterator.Consumers.{YieldsList-from_first}
use Rattle.std.proofs.lemmas.Iterator.Search.{find_from_yields_List}
use Rattle.open_agents.specs.OpenRule.{is_driver_item}
use Rattle.open_agents.proofs.questions.first_driver_item.Goals as goal

pub returns : goal.returns
returns c =
    c.copied.ensures
    ∙ find_from_yields_List (is_driver_item c.args.handle c.args.guid) _ _ _ c.find.ensures.ran
    (YieldsList-from_first (λ x. x.now) (λ left. left) _ c.items.ensures.items)
    (λ x b q k. search (rules, tests))
