use Rattle.std.proofs.Common.{sym, ◌∙◌, arith}
use Rattle.guid_handles.specs.HandleTables.{guids_on, is_live}
use Rattle.protocol_services.proofs.WrittenOver.{returned_whole}
use Rattle.protocol_services.proofs.protocols.Protocols.protocols_of.Goals as goal

pub returns : goal.returns
returns g c =
    rw (← c.self.view_is)
    (returned_whole (is_live c.self.inside.handles c.args.handle) (guids_on c.self.inside.handles c.args.handle) c.in-Some.count c.in-Ok.guids.len c.protocols_of-2.result c.in-Ok.guids.items c.protocols_of-2.new.guids
    (sym c.in-Some.is ∙ c.protocols_of.ensures.count) c.protocols_of-2.ensures.count c.in-Ok.ensures (omega (arith, c.in-Ok.guids.ok.0)) (rw c.as_mut_slice.ensures.value at c.protocols_of-2.ensures.written))
