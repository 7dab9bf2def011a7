use Rattle.std.proofs.Common.{◌∙◌, sym, ap, arith, is_some}
use Rattle.guid_handles.proofs.Found.{carried_live}
use Rattle.protocol_services.specs.Opening.{by_handle_protocol}
use Rattle.protocol_services.proofs.OpenCounts.{one_higher, opened_counts}
use Rattle.protocol_services.proofs.OpensByNone.{found_opens}
use Rattle.protocol_services.proofs.protocols.Protocols.handle_protocol.Goals as goal

pub returns-in-Ok-clause-opens : goal.returns-in-Ok-clause-opens
returns-in-Ok-clause-opens g c =
    let carried = sym c.interface.ensures.there ∙ ap is_some c.in-Some.is in
    let live = carried_live c.self.inside.handles c.all-numbers.ensures.proper c.args.guid c.args.handle carried in
    rw (← c.self.view_is) (found_opens (record { handles = c.self.inside.handles; opens = c.self.inside.opens; registrations = c.self.inside.registrations }) c.args.handle c.args.guid c.in-Some.value _ live carried (sym c.interface.ensures.value ∙ c.in-Some.is)
    (ap (λ opens. record { handles = c.self.inside.handles; opens = opens; registrations = c.self.inside.registrations }) c.in-Ok.ensures.ok))

pub returns-in-Ok-clause-raised : goal.returns-in-Ok-clause-raised
returns-in-Ok-clause-raised g c =
    rw (← c.self.view_is) (rw c.in-Ok.ensures.ok record {
      numbers = omega arith;
      stamps = omega arith;
      keys = omega arith;
      counts = λ n h. opened_counts c.args.handle c.args.guid 0 0 by_handle_protocol c.self.inside.opens n h;
    })

pub returns-in-None-clause-raised : goal.returns-in-None-clause-raised
returns-in-None-clause-raised g c = record {
  numbers = omega arith;
  stamps = omega arith;
  keys = omega arith;
  counts = λ n h. one_higher n c.args.self.now.opens h;
}

pub returns-in-None-2-clause-raised : goal.returns-in-None-2-clause-raised
returns-in-None-2-clause-raised g c = record {
  numbers = omega arith;
  stamps = omega arith;
  keys = omega arith;
  counts = λ n h. one_higher n c.args.self.now.opens h;
}
