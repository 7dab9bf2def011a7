use Rattle.std.proofs.Common.{sym, ◌∙◌}
use Rattle.protocol_services.proofs.Carried.{next_one_carries}
use Rattle.protocol_services.proofs.protocols.Protocols.next_value.Goals as goal

pub value_on-value-requires : goal.value_on-value-requires
value_on-value-requires g c =
    rw (← c.self.view_is)
    (next_one_carries
    (record { handles = c.self.inside.handles; opens = c.self.inside.opens; registrations = c.self.inside.registrations })
    c.args.guid c.args.key c.in-Some.handle (rw (← c.self.view_is) at c.requires.given) (sym c.next.ensures ∙ c.in-Some.is))
