use Rattle.std.proofs.Common.{ap₂, List, ℕ, ◌++◌, ◌∙◌, sym}
use Rattle.open_agents.specs.declared.items.OpenItem.{OpenItem}
use Rattle.protocol_services.specs.ListBytes.{entry_of}
use Rattle.protocol_services.proofs.ListSizes.{one_more}
use Rattle.protocol_services.proofs.list_bytes.item_bytes.Goals as goal

pub loop-item-preserved : goal.loop-item-preserved
loop-item-preserved g c =
    let blank : OpenItem = record { agent = 0; controller = 0; attributes = 0; count = 0 } in
    c.in_ok-extend_from_slice.ensures.items
    ∙ ap₂ (λ (a b : List ℕ). a ++ b) c.loop-item.invariant c.write_entry.ensures
    ∙ sym (one_more entry_of c.args.items.now c.loop-item.item-index blank c.loop-item-test.true)
