use Rattle.std.proofs.Common.{refl}
use Rattle.boot_core.specs.Machines.{Parts}
use Rattle.boot_core.proofs.Follows.{follows_now, follows_on, not_raised}
use Rattle.boot_core.proofs.Soundness.{frees_pool_kept}
use Rattle.boot_core.proofs.services.Services.free_pool.Goals as goal

pub invariant_of-self : goal.invariant_of-self
invariant_of-self g c =
    let old : Parts = record { book = c.self.inside.book; pools = c.self.inside.pools.extents; lists = c.self.inside.protocols } in
    let follows = follows_now old c.self.inside.exited c.self.inside.calls_left _ c.begin.new.self c.self.view_is c.begin.ensures.follows in
    let kept = frees_pool_kept old c.args.address c.free.result c.free.new.book c.free.new.self.extents c.self.invariant.1 c.free.ensures.frees in
    (follows_on old (record { book = c.free.new.book; pools = c.free.new.self.extents; lists = old.lists }) c.self.inside.calls_left follows kept.key (not_raised old.lists old.lists refl), kept.sound old.lists)
