use Rattle.page_services.proofs.Choices.{best_is_permitted}
use Rattle.std.proofs.Common.{[]}
use Rattle.boot_core.specs.Machines.{Parts}
use Rattle.boot_core.specs.Steps.{best_starts}
use Rattle.boot_core.proofs.Follows.{follows_now, follows_on}
use Rattle.boot_core.proofs.Soundness.{locates_buffer_kept}
use Rattle.boot_core.proofs.services.Services.locate_handle_buffer.Goals as goal

pub invariant_of-self : goal.invariant_of-self
invariant_of-self g c =
    let old : Parts = record { book = c.self.inside.book; pools = c.self.inside.pools.extents; lists = c.self.inside.protocols } in
    let follows = follows_now old c.self.inside.exited c.self.inside.calls_left _ c.begin.new.self c.self.view_is c.begin.ensures.follows in
    let kept = locates_buffer_kept (best_starts []) best_is_permitted old c.args.search c.args.guid c.args.key c.locate_buffer.result (record { book = c.locate_buffer.new.book; pools = c.locate_buffer.new.pools.extents; lists = c.locate_buffer.new.protocols }) c.self.invariant.1 c.locate_buffer.ensures.locates in
    (follows_on old (record { book = c.locate_buffer.new.book; pools = c.locate_buffer.new.pools.extents; lists = c.locate_buffer.new.protocols }) c.self.inside.calls_left follows kept.key c.locate_buffer.ensures.raised, kept.sound c.locate_buffer.new.protocols)
