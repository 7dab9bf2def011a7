use Rattle.std.proofs.Common.{◌≡◌, ◌<◌, ◌-◌, ◌*◌, ℕ, sym, ap, ◌∙◌, subst, arith}
use Rattle.std.specs.List.{AllByRecursion}
use Rattle.raw_pool.specs.Bytes.{word}
use Rattle.raw_pool.specs.Blocks.{Pool, cells_for, longest_run}
use Rattle.raw_pool.specs.FreeList.{FreeRun, blocks_in, marked}
use Rattle.raw_pool.specs.Searches.{runs_of}
use Rattle.raw_pool.proofs.Takes.{lowest_place, run_set}
use Rattle.raw_pool.proofs.Listed.{no-fit, no-room}
use Rattle.raw_pool.proofs.Longest.{longest_last, longest_taken}
use Rattle.raw_pool.proofs.store.Store.take_prepared.Goals as goal

pub returns-then-size-self-clause-cell : goal.returns-then-size-self-clause-cell
returns-then-size-self-clause-cell g c = sym (no-room c.args.self.now.region.bytes.set c.args.self.now.cells (cells_for c.args.size) 0 (marked 0 c.args.self.now.region.marks.set) c.requires.store.laid.apart (omega arith))

pub returns-in_err-last-clause-cell : goal.returns-in_err-last-clause-cell
returns-in_err-last-clause-cell g c =
    c.from_residual.ensures ∙ sym (no-fit c.args.self.now.region.bytes.set c.args.self.now.cells (cells_for c.args.size) 0 (marked 0 c.args.self.now.region.marks.set) (omega arith)
    (subst (λ (n : ℕ). AllByRecursion (λ (r : FreeRun). r.cells < n) (runs_of c.args.self.now.region.bytes c.args.self.now.region.marks c.args.self.now.cells)) c.cells_of-need.ensures c.in_err-last.ensures))

pub run_cells-run-requires-clause-set : goal.run_cells-run-requires-clause-set
run_cells-run-requires-clause-set g c = run_set c.args.self.now.region.bytes c.args.self.now.region.marks c.args.self.now.cells c.args.self.now.head c.in_ok-last.last c.in_ok-last.at c.cells_of-need.result c.requires.store c.in_ok-last.ensures.0 c.in_ok-last.ensures.1

pub link-next-requires-clause-set : goal.link-next-requires-clause-set
link-next-requires-clause-set g c = run_set c.args.self.now.region.bytes c.args.self.now.region.marks c.args.self.now.cells c.args.self.now.head c.in_ok-last.last c.in_ok-last.at c.cells_of-need.result c.requires.store c.in_ok-last.ensures.0 c.in_ok-last.ensures.1

pub longest_left-self-requires-clause-last : goal.longest_left-self-requires-clause-last
longest_left-self-requires-clause-last g c = λ none half.
    let cells : c.place.new.self.cells ≡ c.args.self.now.cells = ap (λ (p : Pool). p.cells) c.place.ensures.pool in
    ap (λ (p : Pool). longest_run p.cells 0 p.blocks) c.place.ensures.pool
    ∙ longest_last c.args.self.now.region.bytes c.args.self.now.region.marks c.args.self.now.cells c.args.self.now.head c.in_ok-last.last c.in_ok-last.at c.args.size c.cells_of-need.result c.requires.store c.in_ok-last.ensures.0 c.in_ok-last.ensures.1
    c.cells_of-need.ensures (omega (arith, none, cells, c.link-next.ensures)) (omega (arith, half, c.run_cells-run.ensures))
    ∙ ap (λ (k : ℕ). k - c.cells_of-need.result) (sym c.run_cells-run.ensures)

pub returns-then-run-self-clause-cell : goal.returns-then-run-self-clause-cell
returns-then-run-self-clause-cell g c =
    lowest_place c.args.self.now.region.bytes c.args.self.now.region.marks c.args.self.now.cells c.args.self.now.head c.in_ok-last.last c.in_ok-last.at c.args.size c.cells_of-need.result c.requires.store c.in_ok-last.ensures.0 c.in_ok-last.ensures.1
    c.cells_of-need.ensures c.in_ok-last.ensures.2

pub returns-else-run-self-clause-cell : goal.returns-else-run-self-clause-cell
returns-else-run-self-clause-cell g c =
    lowest_place c.args.self.now.region.bytes c.args.self.now.region.marks c.args.self.now.cells c.args.self.now.head c.in_ok-last.last c.in_ok-last.at c.args.size c.cells_of-need.result c.requires.store c.in_ok-last.ensures.0 c.in_ok-last.ensures.1
    c.cells_of-need.ensures c.in_ok-last.ensures.2

pub returns-else-run-self-clause-longest : goal.returns-else-run-self-clause-longest
returns-else-run-self-clause-longest g c =
    let less : word c.args.self.now.region.bytes.set (32 * c.in_ok-last.at) < longest_run c.args.self.now.cells 0 (blocks_in c.args.self.now.region.bytes.set c.args.self.now.region.marks.set) =
    omega (arith, c.if-run-self.false, c.run_cells-run.ensures, c.place.ensures.longest, c.requires.longest) in
    c.place.ensures.longest ∙ c.requires.longest
    ∙ sym (longest_taken c.args.self.now.region.bytes c.args.self.now.region.marks c.args.self.now.cells c.args.self.now.head c.in_ok-last.last c.in_ok-last.at c.args.size c.cells_of-need.result c.requires.store c.in_ok-last.ensures.0 c.in_ok-last.ensures.1
    c.cells_of-need.ensures less)
    ∙ sym (ap (λ (p : Pool). longest_run p.cells 0 p.blocks) c.place.ensures.pool)
