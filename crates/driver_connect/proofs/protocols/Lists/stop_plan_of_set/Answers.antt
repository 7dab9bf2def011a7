use Rattle.std.proofs.Common.{rules, ◌≡◌, [], length, refl, sym, ◌∙◌}
use Rattle.driver_connect.specs.Stopping.{made_by}
use Rattle.driver_connect.proofs.NoPairs.{none_in}
use Rattle.driver_connect.proofs.OnePair.{childless}
use Rattle.driver_connect.proofs.protocols.Lists.stop_plan_of_set.Goals as goal

pub returns-then-is_empty : goal.returns-then-is_empty
returns-then-is_empty g c = λ pairs e.
    let made : c.in_ok-made.made.items ≡ made_by c.args.self.now.handles.now c.args.set.items = rw c.as_slice.ensures.value at c.in_ok-made.ensures.made in
    let zero : length c.in_ok-made.made.items ≡ 0 = search rules in
    let none : c.in_ok-made.made.items ≡ [] = none_in c.in_ok-made.made.items (rw zero refl) in
    rw none (childless c.args.self.now.handles.now c.args.self.now.opens.now pairs c.args.set.items e (sym made ∙ none))
