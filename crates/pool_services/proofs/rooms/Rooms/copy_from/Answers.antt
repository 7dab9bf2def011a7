use Rattle.std.proofs.Common.{◌∙◌}
use Rattle.std.proofs.lemmas.List.{take_rest}
use Rattle.pool_services.proofs.Reached.{bounded-rest}
use Rattle.pool_services.proofs.rooms.Rooms.copy_from.Goals as goal

pub invariant_of-result : goal.invariant_of-result
invariant_of-result g c = record {
  bounded = bounded-rest c.args.self.now.rooms.items c.extend_from_slice.new.self.items c.args.self.now.bounds c.args.at c.args.self.now.bounded
      (rw (c.new-rooms.ensures.items, c.as_slice.ensures.value) at c.in_ok-extend_from_slice.ensures.items ∙ take_rest c.args.self.now.rooms.items c.args.at);
}
