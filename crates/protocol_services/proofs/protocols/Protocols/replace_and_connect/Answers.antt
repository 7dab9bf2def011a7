use Rattle.std.proofs.Common.{map}
use Rattle.protocol_services.specs.Lists.{Lists}
use Rattle.protocol_services.proofs.Freed.{all_stays, below_raised, replaced_below}
use Rattle.protocol_services.proofs.protocols.Protocols.replace_and_connect.Goals as goal

pub replace_and_connect-requires-clause-there : goal.replace_and_connect-requires-clause-there
replace_and_connect-requires-clause-there g c = rw (← c.self.view_is) at c.requires.there

pub replace_and_connect-requires-clause-numbers : goal.replace_and_connect-requires-clause-numbers
replace_and_connect-requires-clause-numbers g c = (rw (← c.self.view_is) at c.requires.room).numbers

pub replace_and_connect-requires-clause-stamps : goal.replace_and_connect-requires-clause-stamps
replace_and_connect-requires-clause-stamps g c = (rw (← c.self.view_is) at c.requires.room).stamps

pub returns-clause-ok : goal.returns-clause-ok
returns-clause-ok g c =
    let l : Lists = record { handles = c.self.inside.handles; opens = c.self.inside.opens; registrations = c.self.inside.registrations } in
    rw (← c.self.view_is)
    (replaced_below (map g.D.Driver.meaning c.args.drivers.now) l c.args.replacement.now.handle c.args.replacement.now.guid c.args.replacement.now.value c.args.given.items c.replace_and_connect.result c.replace_and_connect.new.handles c.replace_and_connect.new.opens
    (rw (← c.self.view_is) at c.requires.given) c.replace_and_connect.ensures.ok)

pub returns-clause-raised : goal.returns-clause-raised
returns-clause-raised g c =
    let l : Lists = record { handles = c.self.inside.handles; opens = c.self.inside.opens; registrations = c.self.inside.registrations } in
    rw (← c.self.view_is)
    (below_raised (map g.D.Driver.meaning c.args.drivers.now) l c.args.replacement.now.handle c.args.replacement.now.guid c.args.replacement.now.value c.args.given.items c.replace_and_connect.result c.replace_and_connect.new.handles c.replace_and_connect.new.opens
    c.replace_and_connect.ensures.ok c.replace_and_connect.ensures.numbers c.replace_and_connect.ensures.stamps)

pub returns-clause-err : goal.returns-clause-err
returns-clause-err g c =
    let l : Lists = record { handles = c.self.inside.handles; opens = c.self.inside.opens; registrations = c.self.inside.registrations } in
    rw (← c.self.view_is) (all_stays l c.replace_and_connect.result c.replace_and_connect.new.handles c.replace_and_connect.new.opens c.replace_and_connect.ensures.err)
