use Rattle.std.proofs.Common.{sym, ap, ◌∙◌}
use Rattle.raw_pool.specs.Bytes.{Bytes}
use Rattle.raw_pool.specs.Blocks.{Pool, longest_run}
use Rattle.raw_pool.specs.Searches.{IsFresh}
use Rattle.raw_pool.proofs.Regions.{fresh_of, store_of, prepared}
use Rattle.raw_pool.proofs.store.Store.prepare.Goals as goal

pub set_run-requires-clause-few : goal.set_run-requires-clause-few
set_run-requires-clause-few g c =
    let f : IsFresh c.args.self.now.region.bytes c.args.self.now.region.marks c.args.self.now.cells = fresh_of c.args.self.now.region.bytes c.args.self.now.region.marks c.args.self.now.cells c.args.self.now.head c.requires.0 (sym c.len.ensures.len ∙ c.if-len-eq0.true) in
    (f.few, f.some)

pub set_run-requires-clause-room : goal.set_run-requires-clause-room
set_run-requires-clause-room g c =
    let f : IsFresh c.args.self.now.region.bytes c.args.self.now.region.marks c.args.self.now.cells = fresh_of c.args.self.now.region.bytes c.args.self.now.region.marks c.args.self.now.cells c.args.self.now.head c.requires.0 (sym c.len.ensures.len ∙ c.if-len-eq0.true) in
    ap (λ (b : Bytes). b.room) f.bytes_is

pub returns-then-len-eq0-clause-pool : goal.returns-then-len-eq0-clause-pool
returns-then-len-eq0-clause-pool g c =
    let f : IsFresh c.args.self.now.region.bytes c.args.self.now.region.marks c.args.self.now.cells = fresh_of c.args.self.now.region.bytes c.args.self.now.region.marks c.args.self.now.cells c.args.self.now.head c.requires.0 (sym c.len.ensures.len ∙ c.if-len-eq0.true) in
    let d = prepared c.args.self.now.region.bytes c.args.self.now.region.marks c.set_run.new.self.region.bytes c.args.self.now.cells f c.set_run.ensures.bytes in
    rw (c.set_run.ensures.others.1, c.set_run.ensures.others.2) d.0

pub returns-then-len-eq0-clause-store : goal.returns-then-len-eq0-clause-store
returns-then-len-eq0-clause-store g c =
    let f : IsFresh c.args.self.now.region.bytes c.args.self.now.region.marks c.args.self.now.cells = fresh_of c.args.self.now.region.bytes c.args.self.now.region.marks c.args.self.now.cells c.args.self.now.head c.requires.0 (sym c.len.ensures.len ∙ c.if-len-eq0.true) in
    let d = prepared c.args.self.now.region.bytes c.args.self.now.region.marks c.set_run.new.self.region.bytes c.args.self.now.cells f c.set_run.ensures.bytes in
    rw (c.set_run.ensures.others.1, c.set_run.ensures.others.2) d.1

pub returns-else-len-eq0-clause-store : goal.returns-else-len-eq0-clause-store
returns-else-len-eq0-clause-store g c = store_of c.args.self.now.region.bytes c.args.self.now.region.marks c.args.self.now.cells c.args.self.now.head c.requires.0 (λ e. c.if-len-eq0.false (c.len.ensures.len ∙ e))

pub returns-then-len-eq0-clause-longest : goal.returns-then-len-eq0-clause-longest
returns-then-len-eq0-clause-longest g c =
    c.set_run.ensures.others.3 ∙ c.requires.1 ∙ sym (ap (λ (p : Pool). longest_run p.cells 0 p.blocks) (returns-then-len-eq0-clause-pool g c))
