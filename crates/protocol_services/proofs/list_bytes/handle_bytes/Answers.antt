use Rattle.std.proofs.Common.{ap₂, List, ℕ, ◌++◌, ◌∙◌, sym}
use Rattle.byteorder.specs.Endian.{little_bytes}
use Rattle.protocol_services.proofs.ListSizes.{one_more}
use Rattle.protocol_services.proofs.list_bytes.handle_bytes.Goals as goal

pub loop-handle-preserved : goal.loop-handle-preserved
loop-handle-preserved g c =
    c.in_ok-extend_from_slice.ensures.items
    ∙ ap₂ (λ (a b : List ℕ). a ++ b) c.loop-handle.invariant c.write_u64.ensures
    ∙ sym (one_more (little_bytes 8) c.args.handles.now c.loop-handle.handle-index 0 c.loop-handle-test.true)
