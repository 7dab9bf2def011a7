use Rattle.placement_certificate.proofs.FoundStarts.{found_more}
use Rattle.placement_certificate.proofs.starts.EntryStarts.try_start.Goals as goal

pub returns-clause-found : goal.returns-clause-found
returns-clause-found g c =
    let m = g.C.PageCursor.memory c.args.cursor.now in
    let s = c.args.self.now in
    rw c.better_of.ensures (found_more m s.request s.entry c.args.found c.price_of-count.result c.args.start c.requires.found c.requires.in_entry c.requires.permitted c.price_of-count.ensures.price)
