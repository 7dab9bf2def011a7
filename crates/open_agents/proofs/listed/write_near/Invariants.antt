use Rattle.std.proofs.Common.{◌≡◌, ◌+◌, ◌++◌, drop, length, take}
use Rattle.guid_handles.specs.HandleTables.{written_over}
use Rattle.open_agents.specs.OpenItems.{items_on}
use Rattle.open_agents.specs.Blocks.{items_near}
use Rattle.open_agents.proofs.listed.write_near.Given as goal

-- the items passed are counted and written
abbrev pub invariant-loop-o : goal.invariant-loop-o
invariant-loop-o l = record {
  counted : length (items_on (items_near l.near) l.handle l.guid) ≡ l.count + length (items_on l.o-iterator l.handle l.guid);
  written : written_over (items_on (items_near l.near) l.handle l.guid) l.fn.out
      ≡ take l.count l.out ++ written_over (items_on l.o-iterator l.handle l.guid) (drop l.count l.out);
}
