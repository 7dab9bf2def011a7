use Rattle.std.proofs.Common.{refl}
use Rattle.boot_core.specs.Machines.{Parts}
use Rattle.boot_core.proofs.Follows.{follows_now, follows_on, not_raised}
use Rattle.boot_core.proofs.Soundness.{writes_kept}
use Rattle.boot_core.proofs.services.Services.pool_write.Goals as goal

pub invariant_of-self : goal.invariant_of-self
invariant_of-self g c =
    let old : Parts = record { book = c.self.inside.book; pools = c.self.inside.pools.extents; lists = c.self.inside.protocols } in
    let follows = follows_now old c.self.inside.exited c.self.inside.calls_left _ c.begin.new.self c.self.view_is c.begin.ensures.follows in
    let kept = writes_kept old c.args.address c.args.bytes.now c.write.result c.write.new.self.extents c.self.invariant.1 c.write.ensures.writes in
    (follows_on old (record { book = old.book; pools = c.write.new.self.extents; lists = old.lists }) c.self.inside.calls_left follows kept.key (not_raised old.lists old.lists refl), kept.sound old.lists)
