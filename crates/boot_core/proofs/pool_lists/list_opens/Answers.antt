use Rattle.std.proofs.Common.{List, length, ap, sym, refl, arith, ◌∙◌}
use Rattle.page_services.specs.PageRules.{IsBestChoice}
use Rattle.open_agents.specs.declared.items.OpenItem.{OpenItem}
use Rattle.protocol_services.specs.ListBytes.{item_bytes}
use Rattle.boot_core.proofs.PutItems.{puts_items, some_of}
use Rattle.boot_core.proofs.pool_lists.list_opens.Goals as goal

pub returns : goal.returns
returns g c =
    let (carried, items) = c.in_ok-items.ensures in
    let count = ap (λ (xs : List OpenItem). length xs) items in
    let some = some_of _ (sym c.is_empty.ensures ∙ c.if-is_empty.false) in
    let bytes = c.as_slice-2.ensures.value ∙ c.in-Ok.ensures ∙ ap item_bytes (c.as_slice.ensures.value ∙ items) in
    record { lists = (carried, omega (arith, count), puts_items IsBestChoice _ _ _ _ _ (omega (arith, count, some)) bytes c.in_ok-address.ensures.fills refl); memory = c.in_ok-address.ensures.memory }
