use Rattle.std.proofs.Common.{◌≡◌, take}
use Rattle.protocol_services.specs.ListBytes.{handle_bytes}
use Rattle.protocol_services.proofs.list_bytes.handle_bytes.Given as goal

abbrev pub invariant-loop-handle : goal.invariant-loop-handle
invariant-loop-handle g l = l.bytes.items ≡ handle_bytes (take l.handle-index l.handles)
