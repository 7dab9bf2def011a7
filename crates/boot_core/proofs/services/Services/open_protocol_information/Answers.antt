use Rattle.page_services.proofs.Choices.{best_is_permitted}
use Rattle.std.proofs.Common.{[], refl}
use Rattle.boot_core.specs.Machines.{Parts}
use Rattle.boot_core.specs.Steps.{best_starts}
use Rattle.boot_core.proofs.Follows.{follows_now, follows_on, not_raised}
use Rattle.boot_core.proofs.Soundness.{lists_opens_kept}
use Rattle.boot_core.proofs.services.Services.open_protocol_information.Goals as goal

pub invariant_of-self : goal.invariant_of-self
invariant_of-self g c =
    let old : Parts = record { book = c.self.inside.book; pools = c.self.inside.pools.extents; lists = c.self.inside.protocols } in
    let follows = follows_now old c.self.inside.exited c.self.inside.calls_left _ c.begin.new.self c.self.view_is c.begin.ensures.follows in
    let kept = lists_opens_kept (best_starts []) best_is_permitted old c.args.handle c.args.guid c.list_opens.result (record { book = c.list_opens.new.book; pools = c.list_opens.new.pools.extents; lists = old.lists }) c.self.invariant.1 c.list_opens.ensures.lists in
    (follows_on old (record { book = c.list_opens.new.book; pools = c.list_opens.new.pools.extents; lists = old.lists }) c.self.inside.calls_left follows kept.key (not_raised old.lists old.lists refl), kept.sound old.lists)
