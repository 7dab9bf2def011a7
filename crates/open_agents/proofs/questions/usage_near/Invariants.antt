use Rattle.std.proofs.Common.{◌≡◌, ◌||◌}
use Rattle.std.specs.List.{list_any}
use Rattle.open_agents.specs.OpenItems as spec
use Rattle.open_agents.specs.Blocks.{items_near}
use Rattle.open_agents.proofs.questions.usage_near.Given as goal

abbrev pub invariant-loop-o : goal.invariant-loop-o
invariant-loop-o l = record {
  open_ : (l.usage.is_open || list_any (spec.is_open_on l.handle l.guid) l.o-iterator) ≡ list_any (spec.is_open_on l.handle l.guid) (items_near l.near);
  driven : (l.usage.is_driven || list_any (spec.is_driving l.handle l.guid) l.o-iterator) ≡ list_any (spec.is_driving l.handle l.guid) (items_near l.near);
  kept : (l.usage.is_kept || list_any (spec.is_keeping l.handle l.guid) l.o-iterator) ≡ list_any (spec.is_keeping l.handle l.guid) (items_near l.near);
}
