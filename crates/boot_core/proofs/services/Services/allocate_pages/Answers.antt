use Rattle.page_services.proofs.Choices.{best_is_permitted}
use Rattle.std.proofs.Common.{[], refl}
use Rattle.boot_core.specs.Machines.{Parts}
use Rattle.boot_core.specs.Steps.{best_starts}
use Rattle.boot_core.proofs.Follows.{follows_now, follows_on, not_raised}
use Rattle.boot_core.proofs.Soundness.{allocates_kept}
use Rattle.boot_core.proofs.services.Services.allocate_pages.Goals as goal

pub invariant_of-self : goal.invariant_of-self
invariant_of-self g c =
    let old : Parts = record { book = c.self.inside.book; pools = c.self.inside.pools.extents; lists = c.self.inside.protocols } in
    let follows = follows_now old c.self.inside.exited c.self.inside.calls_left _ c.begin.new.self c.self.view_is c.begin.ensures.follows in
    let kept = allocates_kept (best_starts []) best_is_permitted old c.args.kind c.args.mtype c.args.pages c.args.memory c.allocate.result c.allocate.new.self c.self.invariant.1 c.allocate.ensures in
    (follows_on old (record { book = c.allocate.new.self; pools = old.pools; lists = old.lists }) c.self.inside.calls_left follows kept.key (not_raised old.lists old.lists refl), kept.sound old.lists)
