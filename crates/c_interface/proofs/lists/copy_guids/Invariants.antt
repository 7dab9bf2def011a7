use Rattle.std.proofs.Common.{◌≡◌, map, take, drop, ◌++◌}
use Rattle.c_machines.specs.Guids.{standard_guid}
use Rattle.c_interface.proofs.lists.copy_guids.Given as goal

abbrev pub invariant-loop-index : goal.invariant-loop-index
invariant-loop-index l = l.buffer ≡ take l.index (map standard_guid l.guids) ++ drop l.index l.fn.buffer
