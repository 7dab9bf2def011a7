use Rattle.std.proofs.Common.{◌≡◌, ◌<◌, ◌∷◌, ℕ, [], ap, ◌∙◌, arith, max, sym}
use Rattle.raw_pool.specs.Bytes.{Bytes, put}
use Rattle.raw_pool.specs.Blocks.{Pool, cells_for, longest_run}
use Rattle.raw_pool.specs.FreeList.{FreeRun, cells_in}
use Rattle.raw_pool.proofs.Takes.{Fit, fit, last_within}
use Rattle.raw_pool.proofs.Gives.{Held, held, freeing_by, next_within, last_ready, given, given_store}
use Rattle.raw_pool.proofs.Longest.{longest_given}
use Rattle.raw_pool.proofs.store.Store.free.Goals as goal

pub overflow_mul-cell : goal.overflow_mul-cell
overflow_mul-cell g c =
    let b : Held c.args.self.now.region.bytes.set c.args.self.now.cells c.args.cell = held c.args.self.now.region.bytes c.args.self.now.region.marks c.args.self.now.cells c.args.self.now.head c.args.cell c.requires.store c.requires.block.0 c.requires.block.1 in
    omega (arith, b.within, c.requires.store.few)

pub word-requires : goal.word-requires
word-requires g c =
    let b : Held c.args.self.now.region.bytes.set c.args.self.now.cells c.args.cell = held c.args.self.now.region.bytes c.args.self.now.region.marks c.args.self.now.cells c.args.self.now.head c.args.cell c.requires.store c.requires.block.0 c.requires.block.1 in
    omega (arith, b.set)

pub cells_of-requires : goal.cells_of-requires
cells_of-requires g c =
    let b : Held c.args.self.now.region.bytes.set c.args.self.now.cells c.args.cell = held c.args.self.now.region.bytes c.args.self.now.region.marks c.args.self.now.cells c.args.self.now.head c.args.cell c.requires.store c.requires.block.0 c.requires.block.1 in
    omega (arith, b.within, b.size, c.requires.store.few, c.word.ensures)

pub overflow_add-block_end : goal.overflow_add-block_end
overflow_add-block_end g c =
    let b : Held c.args.self.now.region.bytes.set c.args.self.now.cells c.args.cell = held c.args.self.now.region.bytes c.args.self.now.region.marks c.args.self.now.cells c.args.self.now.head c.args.cell c.requires.store c.requires.block.0 c.requires.block.1 in
    let n : c.cells_of.result ≡ cells_in c.args.self.now.region.bytes.set c.args.cell = c.cells_of.ensures ∙ ap cells_for (c.word.ensures ∙ b.size) in
    omega (arith, b.within, n, c.requires.store.few)

pub find_place-last-requires-clause-within : goal.find_place-last-requires-clause-within
find_place-last-requires-clause-within g c =
    let b : Held c.args.self.now.region.bytes.set c.args.self.now.cells c.args.cell = held c.args.self.now.region.bytes c.args.self.now.region.marks c.args.self.now.cells c.args.self.now.head c.args.cell c.requires.store c.requires.block.0 c.requires.block.1 in
    omega (arith, b.within)

pub run_behind-end-requires-clause-set : goal.run_behind-end-requires-clause-set
run_behind-end-requires-clause-set g c = λ h.
    let q : Fit c.args.self.now.region.bytes.set c.args.self.now.cells c.args.self.now.head _ c.find_place-last.result.0 c.find_place-last.result.1 _ _ =
    fit (λ (r : FreeRun). r.first < c.args.cell) c.args.self.now.region.bytes c.args.self.now.region.marks c.args.self.now.cells c.args.self.now.head c.find_place-last.result.0 c.find_place-last.result.1 c.requires.store c.find_place-last.ensures.0 h in
    (q.set, q.within)

pub run_behind-end-requires-clause-within : goal.run_behind-end-requires-clause-within
run_behind-end-requires-clause-within g c =
    next_within (λ (r : FreeRun). r.first < c.args.cell) c.args.self.now.region.bytes c.args.self.now.region.marks c.args.self.now.cells c.args.self.now.head c.find_place-last.result.0 c.find_place-last.result.1 c.requires.store c.find_place-last.ensures.0

pub join-run-requires-clause-few : goal.join-run-requires-clause-few
join-run-requires-clause-few g c =
    let b : Held c.args.self.now.region.bytes.set c.args.self.now.cells c.args.cell = held c.args.self.now.region.bytes c.args.self.now.region.marks c.args.self.now.cells c.args.self.now.head c.args.cell c.requires.store c.requires.block.0 c.requires.block.1 in
    let f = freeing_by c.args.self.now.region.bytes c.args.self.now.region.marks c.args.self.now.cells c.args.self.now.head c.args.cell c.find_place-last.result.0 c.find_place-last.result.1 c.run_behind-end.result.0 c.run_behind-end.result.1 c.cells_of.result
    c.requires.store c.requires.block.0 c.requires.block.1 c.find_place-last.ensures.0 c.find_place-last.ensures.1 (c.cells_of.ensures ∙ ap cells_for (c.word.ensures ∙ b.size)) c.run_behind-end.ensures.run c.run_behind-end.ensures.none in
    let w = last_within c.args.self.now.region.bytes.set c.args.self.now.cells _ c.find_place-last.result.0 c.find_place-last.ensures.0.before f.passed_run in
    (c.requires.store.few, omega (arith, f.up), f.within, w)

pub join-run-requires-clause-last : goal.join-run-requires-clause-last
join-run-requires-clause-last g c = λ h.
    let b : Held c.args.self.now.region.bytes.set c.args.self.now.cells c.args.cell = held c.args.self.now.region.bytes c.args.self.now.region.marks c.args.self.now.cells c.args.self.now.head c.args.cell c.requires.store c.requires.block.0 c.requires.block.1 in
    let f = freeing_by c.args.self.now.region.bytes c.args.self.now.region.marks c.args.self.now.cells c.args.self.now.head c.args.cell c.find_place-last.result.0 c.find_place-last.result.1 c.run_behind-end.result.0 c.run_behind-end.result.1 c.cells_of.result
    c.requires.store c.requires.block.0 c.requires.block.1 c.find_place-last.ensures.0 c.find_place-last.ensures.1 (c.cells_of.ensures ∙ ap cells_for (c.word.ensures ∙ b.size)) c.run_behind-end.ensures.run c.run_behind-end.ensures.none in
    last_ready c.args.self.now.region.bytes.set c.args.self.now.region.marks.set c.args.self.now.cells c.args.self.now.head c.args.cell c.find_place-last.result.0 c.run_behind-end.result.0 c.run_behind-end.result.1 c.find_place-last.ensures.0.before f c.find_place-last.ensures.0.passed h

pub join-run-requires-clause-set : goal.join-run-requires-clause-set
join-run-requires-clause-set g c =
    let b : Held c.args.self.now.region.bytes.set c.args.self.now.cells c.args.cell = held c.args.self.now.region.bytes c.args.self.now.region.marks c.args.self.now.cells c.args.self.now.head c.args.cell c.requires.store c.requires.block.0 c.requires.block.1 in
    omega (arith, b.set)

pub overwrite_mark-requires : goal.overwrite_mark-requires
overwrite_mark-requires g c = rw c.join-run.ensures.others.0 c.requires.block.0

pub returns-clause-pool : goal.returns-clause-pool
returns-clause-pool g c =
    let b : Held c.args.self.now.region.bytes.set c.args.self.now.cells c.args.cell = held c.args.self.now.region.bytes c.args.self.now.region.marks c.args.self.now.cells c.args.self.now.head c.args.cell c.requires.store c.requires.block.0 c.requires.block.1 in
    let f = freeing_by c.args.self.now.region.bytes c.args.self.now.region.marks c.args.self.now.cells c.args.self.now.head c.args.cell c.find_place-last.result.0 c.find_place-last.result.1 c.run_behind-end.result.0 c.run_behind-end.result.1 c.cells_of.result
    c.requires.store c.requires.block.0 c.requires.block.1 c.find_place-last.ensures.0 c.find_place-last.ensures.1 (c.cells_of.ensures ∙ ap cells_for (c.word.ensures ∙ b.size)) c.run_behind-end.ensures.run c.run_behind-end.ensures.none in
    let w = last_within c.args.self.now.region.bytes.set c.args.self.now.cells _ c.find_place-last.result.0 c.find_place-last.ensures.0.before f.passed_run in
    let d = given c.args.self.now.region.bytes c.args.self.now.region.marks c.join-run.new.self.region.bytes c.args.self.now.cells c.args.self.now.head c.join-run.new.self.head c.args.cell c.find_place-last.result.0 c.run_behind-end.result.0 c.run_behind-end.result.1 c.join-run.result
    c.find_place-last.ensures.0.before f c.requires.block.0 c.requires.block.1 w c.requires.store.few (omega arith) c.join-run.ensures.touching c.join-run.ensures.apart in
    let e = given_store c.args.self.now.region.bytes c.args.self.now.region.marks c.join-run.new.self.region.bytes c.overwrite_mark.new.self.marks c.args.self.now.cells c.join-run.new.self.cells c.args.self.now.head c.join-run.new.self.head c.args.cell c.requires.store d
    (c.overwrite_mark.ensures.marks ∙ ap (λ (m : Bytes). record { set = put m.set c.args.cell (0 ∷ []); room = m.room }) c.join-run.ensures.others.0) c.join-run.ensures.others.1 in
    rw c.overwrite_mark.ensures.bytes e.0

pub returns-clause-store : goal.returns-clause-store
returns-clause-store g c =
    let b : Held c.args.self.now.region.bytes.set c.args.self.now.cells c.args.cell = held c.args.self.now.region.bytes c.args.self.now.region.marks c.args.self.now.cells c.args.self.now.head c.args.cell c.requires.store c.requires.block.0 c.requires.block.1 in
    let f = freeing_by c.args.self.now.region.bytes c.args.self.now.region.marks c.args.self.now.cells c.args.self.now.head c.args.cell c.find_place-last.result.0 c.find_place-last.result.1 c.run_behind-end.result.0 c.run_behind-end.result.1 c.cells_of.result
    c.requires.store c.requires.block.0 c.requires.block.1 c.find_place-last.ensures.0 c.find_place-last.ensures.1 (c.cells_of.ensures ∙ ap cells_for (c.word.ensures ∙ b.size)) c.run_behind-end.ensures.run c.run_behind-end.ensures.none in
    let w = last_within c.args.self.now.region.bytes.set c.args.self.now.cells _ c.find_place-last.result.0 c.find_place-last.ensures.0.before f.passed_run in
    let d = given c.args.self.now.region.bytes c.args.self.now.region.marks c.join-run.new.self.region.bytes c.args.self.now.cells c.args.self.now.head c.join-run.new.self.head c.args.cell c.find_place-last.result.0 c.run_behind-end.result.0 c.run_behind-end.result.1 c.join-run.result
    c.find_place-last.ensures.0.before f c.requires.block.0 c.requires.block.1 w c.requires.store.few (omega arith) c.join-run.ensures.touching c.join-run.ensures.apart in
    let e = given_store c.args.self.now.region.bytes c.args.self.now.region.marks c.join-run.new.self.region.bytes c.overwrite_mark.new.self.marks c.args.self.now.cells c.join-run.new.self.cells c.args.self.now.head c.join-run.new.self.head c.args.cell c.requires.store d
    (c.overwrite_mark.ensures.marks ∙ ap (λ (m : Bytes). record { set = put m.set c.args.cell (0 ∷ []); room = m.room }) c.join-run.ensures.others.0) c.join-run.ensures.others.1 in
    rw c.overwrite_mark.ensures.bytes e.1

pub returns-clause-longest : goal.returns-clause-longest
returns-clause-longest g c =
    let b : Held c.args.self.now.region.bytes.set c.args.self.now.cells c.args.cell = held c.args.self.now.region.bytes c.args.self.now.region.marks c.args.self.now.cells c.args.self.now.head c.args.cell c.requires.store c.requires.block.0 c.requires.block.1 in
    let f = freeing_by c.args.self.now.region.bytes c.args.self.now.region.marks c.args.self.now.cells c.args.self.now.head c.args.cell c.find_place-last.result.0 c.find_place-last.result.1 c.run_behind-end.result.0 c.run_behind-end.result.1 c.cells_of.result
    c.requires.store c.requires.block.0 c.requires.block.1 c.find_place-last.ensures.0 c.find_place-last.ensures.1 (c.cells_of.ensures ∙ ap cells_for (c.word.ensures ∙ b.size)) c.run_behind-end.ensures.run c.run_behind-end.ensures.none in
    c.larger-self.ensures ∙ ap (λ (k : ℕ). max k c.join-run.result) (c.join-run.ensures.others.2 ∙ c.requires.longest)
    ∙ sym (longest_given c.args.self.now.region.bytes.set c.args.self.now.region.marks.set c.args.self.now.cells c.args.self.now.head c.args.cell c.find_place-last.result.0 c.run_behind-end.result.0 c.run_behind-end.result.1 c.join-run.result
    c.find_place-last.ensures.0.before f c.requires.block.0 c.requires.block.1 (λ x y. (c.join-run.ensures.touching x y).2) (λ x. (c.join-run.ensures.apart x).2))
    ∙ sym (ap (λ (p : Pool). longest_run p.cells 0 p.blocks) (returns-clause-pool g c))
