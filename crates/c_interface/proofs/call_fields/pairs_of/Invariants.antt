use Rattle.std.proofs.Common.{◌≡◌, map, take}
use Rattle.c_machines.specs.Guids.{interface_in}
use Rattle.c_interface.proofs.call_fields.pairs_of.Given as goal

-- the interfaces before this place
abbrev pub invariant-loop-interface : goal.invariant-loop-interface
invariant-loop-interface g l = l.pairs.items ≡ map interface_in (take l.interface-index l.interfaces)
