use Rattle.std.proofs.Common.{not, map, refl, ap, ◌∙◌}
use Rattle.open_agents.specs.Blocks.{items_near}
use Rattle.protocol_services.specs.Lists.{Lists}
use Rattle.protocol_services.proofs.Freed.{free_answer}
use Rattle.protocol_services.proofs.protocols.Protocols.plan_to_free.Goals as goal

pub returns-then-is_kept_after : goal.returns-then-is_kept_after
returns-then-is_kept_after g c =
    let l : Lists = record { handles = c.self.inside.handles; opens = c.self.inside.opens; registrations = c.self.inside.registrations } in
    rw (← c.self.view_is) (
      free_answer (map g.D.Driver.meaning c.args.drivers.now) l c.args.handle c.args.guid c.in-Ok.plan (items_near c.near.result) c.in-Ok-can_be_stopped.can c.is_kept_after.result c.near.ensures
          (rw (← c.self.view_is) at c.in-Ok.ensures) (rw (c.lists.ensures.handles, c.lists.ensures.opens, ← c.self.view_is) at c.in-Ok-can_be_stopped.ensures) c.if-not-can.false c.is_kept_after.ensures
          ∙ ap not c.if-is_kept_after.true,
      refl,
    )

pub returns : goal.returns
returns g c =
    let l : Lists = record { handles = c.self.inside.handles; opens = c.self.inside.opens; registrations = c.self.inside.registrations } in
    let planned = rw (← c.self.view_is) at c.in-Ok.ensures in
    rw (← c.self.view_is) (
      free_answer (map g.D.Driver.meaning c.args.drivers.now) l c.args.handle c.args.guid c.in-Ok.plan (items_near c.near.result) c.in-Ok-can_be_stopped.can c.is_kept_after.result c.near.ensures
          planned (rw (c.lists.ensures.handles, c.lists.ensures.opens, ← c.self.view_is) at c.in-Ok-can_be_stopped.ensures) c.if-not-can.false c.is_kept_after.ensures
          ∙ ap not c.if-is_kept_after.false,
      planned,
    )
