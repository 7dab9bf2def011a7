use Rattle.std.proofs.Common.{◌≡◌, ℕ, true, false, List, Ok, Err, refl, sym, ◌∙◌, arith}
use Rattle.std.specs.List.{list_any}
use Rattle.page_ranges.specs.declared.statuses.Status.TheVariants.{NotFound}
use Rattle.guid_handles.specs.HandleTables.{carries}
use Rattle.open_agents.specs.OpenItems.{is_closed_by, without_items}
use Rattle.protocol_services.specs.Lists.{Lists}
use Rattle.protocol_services.specs.Opening.{Closes, names_none}
use Rattle.protocol_services.proofs.OpenCounts.{closed_counts, none_gone}
use Rattle.protocol_services.proofs.protocols.Protocols.close.Goals as goal
use Rattle.protocol_services.proofs.protocols.Protocols.close.Goals.{then-close, else-close}

some_closed : (l : Lists) (handle : ℕ) (guid : List ℕ) (agent controller : ℕ) → names_none l handle agent controller ≡ false → carries l.handles guid handle ≡ true
    → list_any (is_closed_by handle guid agent controller) l.opens ≡ true
    → Closes l handle guid agent controller (Ok tt) (record l { opens = without_items (is_closed_by handle guid agent controller) l.opens })
some_closed l handle guid agent controller named there some = (named, rw (there, some) refl, refl)

none_closed : (l : Lists) (handle : ℕ) (guid : List ℕ) (agent controller : ℕ) → names_none l handle agent controller ≡ false → carries l.handles guid handle ≡ true
    → list_any (is_closed_by handle guid agent controller) l.opens ≡ false
    → Closes l handle guid agent controller (Err NotFound) (record l { opens = without_items (is_closed_by handle guid agent controller) l.opens })
none_closed l handle guid agent controller named there none = (named, rw (there, none) refl, rw (none_gone (is_closed_by handle guid agent controller) l.opens none) refl)

pub returns-clause-closes : goal.returns-clause-closes
returns-clause-closes g c =
    let l : Lists = record { handles = c.self.inside.handles; opens = c.self.inside.opens; registrations = c.self.inside.registrations } in
    let named : names_none l c.args.handle c.args.agent c.args.controller ≡ false = rw (← c.self.view_is) at (sym c.names_none.ensures ∙ c.if-names_none.false) in
    let there : carries c.self.inside.handles c.args.guid c.args.handle ≡ true = sym c.interface.ensures.there ∙ c.if-is_none.ensures in
    rw (← c.self.view_is, c.close.ensures.items) (elim c.if-close.branch [
      | then-close w ↦ rw w.result-is (some_closed l c.args.handle c.args.guid c.args.agent c.args.controller named there (sym c.close.ensures.found ∙ w.if-close.true))
      | else-close w ↦ rw w.result-is (none_closed l c.args.handle c.args.guid c.args.agent c.args.controller named there (sym c.close.ensures.found ∙ w.if-close.false))
    ])

pub returns-clause-raised : goal.returns-clause-raised
returns-clause-raised g c = rw (← c.self.view_is) (rw c.close.ensures.items record {
  numbers = omega arith;
  stamps = omega arith;
  keys = omega arith;
  counts = λ n h. closed_counts (is_closed_by c.args.handle c.args.guid c.args.agent c.args.controller) c.self.inside.opens n h;
})
