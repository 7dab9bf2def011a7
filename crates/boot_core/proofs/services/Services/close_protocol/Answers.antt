use Rattle.std.proofs.Common.{arith}
use Rattle.boot_core.specs.Machines.{Parts}
use Rattle.boot_core.proofs.Follows.{follows_now, follows_on}
use Rattle.boot_core.proofs.Soundness.{any_lists}
use Rattle.boot_core.proofs.services.Services.close_protocol.Goals as goal

pub invariant_of-self : goal.invariant_of-self
invariant_of-self g c =
    let old : Parts = record { book = c.self.inside.book; pools = c.self.inside.pools.extents; lists = c.self.inside.protocols } in
    let follows = follows_now old c.self.inside.exited c.self.inside.calls_left _ c.begin.new.self c.self.view_is c.begin.ensures.follows in
    (follows_on old (record { book = old.book; pools = old.pools; lists = c.close.new.self }) c.self.inside.calls_left follows (omega arith) c.close.ensures.raised, any_lists old.book old.pools old.lists c.close.new.self c.self.invariant.1)
