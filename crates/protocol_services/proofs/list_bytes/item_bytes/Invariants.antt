use Rattle.std.proofs.Common.{◌≡◌, take}
use Rattle.protocol_services.specs.ListBytes.{item_bytes}
use Rattle.protocol_services.proofs.list_bytes.item_bytes.Given as goal

abbrev pub invariant-loop-item : goal.invariant-loop-item
invariant-loop-item g l = l.bytes.items ≡ item_bytes (take l.item-index l.items)
