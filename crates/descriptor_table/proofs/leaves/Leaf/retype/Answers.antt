use Rattle.std.proofs.Common.{◌-◌, length, take, drop, ap, sym, subst, ◌∙◌, arith}
use Rattle.page_ranges.specs.MemoryTypes.{page_count}
use Rattle.page_ranges.specs.Runs.{pages_of, AreMaximalRuns}
use Rattle.page_ranges.proofs.MaximalRuns.{maximal_are_runs}
use Rattle.descriptor_table.specs.Leaves.{entry_count}
use Rattle.descriptor_table.proofs.CutRuns.{behind_none}
use Rattle.descriptor_table.proofs.LeafRetyped.{gone_runs, gone_ends, gone_length, gone_cuts, new_order, new_count, new_pages, new_length, some_left}
use Rattle.descriptor_table.proofs.LeafEnds.{same_ends}
use Rattle.descriptor_table.proofs.leaves.Leaf.retype.Goals as goal

pub count_entries-less-requires-clause-runs : goal.count_entries-less-requires-clause-runs
count_entries-less-requires-clause-runs g c =
    let r = c.args.retyping.now in
    let w = c.requires.window in
    rw c.runs-runs.ensures (gone_runs c.args.self.now r.range r.mtype r.owner c.args.window.0 c.args.window.1 w c.requires.order)

pub push_behind-requires-clause-behind : goal.push_behind-requires-clause-behind
push_behind-requires-clause-behind g c =
    rw c.clear.ensures.items (behind_none (take (c.args.window.1 - c.args.window.0) (drop c.args.window.0 c.runs-runs.result.now)))

pub push_behind-requires-clause-runs : goal.push_behind-requires-clause-runs
push_behind-requires-clause-runs g c =
    let r = c.args.retyping.now in
    let w = c.requires.window in
    rw c.runs-runs.ensures (gone_runs c.args.self.now r.range r.mtype r.owner c.args.window.0 c.args.window.1 w c.requires.order)

pub unreachable-requires : goal.unreachable-requires
unreachable-requires g c =
    let r = c.args.retyping.now in
    let low = c.args.window.0 in
    let high = c.args.window.1 in
    let w = c.requires.window in
    let full = rw (c.runs-runs.ensures, c.clear.ensures.items) at c.in_default.ensures.full in
    let size = gone_length c.args.self.now r.range r.mtype r.owner low high w c.requires.order in
    let cuts = gone_cuts c.args.self.now r.range r.mtype r.owner low high w c.requires.order in
    omega (arith, full, c.clear.ensures.capacity, c.requires.room, c.requires.fits, size, cuts, w.order, w.bound)

pub count_entries-more-requires-clause-runs : goal.count_entries-more-requires-clause-runs
count_entries-more-requires-clause-runs g c = rw c.as_slice.ensures.value (maximal_are_runs c.push_behind.new.parts.items c.in-Ok.ensures.order)

pub count_entries-more-requires-clause-ends : goal.count_entries-more-requires-clause-ends
count_entries-more-requires-clause-ends g c =
    let r = c.args.retyping.now in
    let w = c.requires.window in
    let gone_end = gone_ends c.args.self.now r.range r.mtype r.owner c.args.window.0 c.args.window.1 w c.requires.order page_count c.requires.ends in
    let ends = rw (c.runs-runs.ensures, c.clear.ensures.items) at c.in-Ok.ensures.ends in
    rw c.as_slice.ensures.value (ends page_count gone_end tt)

pub replace-requires-clause-some : goal.replace-requires-clause-some
replace-requires-clause-some g c =
    let r = c.args.retyping.now in
    let w = c.requires.window in
    let pages = rw (c.runs-runs.ensures, c.clear.ensures.items) at c.in-Ok.ensures.pages in
    rw c.as_slice-2.ensures.value (some_left c.args.self.now r.range r.mtype r.owner c.args.window.0 c.args.window.1 w c.requires.order c.push_behind.new.parts.items c.in-Ok.ensures.order pages c.requires.some)

pub replace-requires-clause-fits : goal.replace-requires-clause-fits
replace-requires-clause-fits g c =
    let r = c.args.retyping.now in
    let low = c.args.window.0 in
    let high = c.args.window.1 in
    let w = c.requires.window in
    let few = rw (c.runs-runs.ensures, c.clear.ensures.items) at c.in-Ok.ensures.few in
    let size = gone_length c.args.self.now r.range r.mtype r.owner low high w c.requires.order in
    let cuts = gone_cuts c.args.self.now r.range r.mtype r.owner low high w c.requires.order in
    omega (arith, few, ap length c.as_slice-2.ensures.value, c.requires.fits, size, cuts, w.order, w.bound)

pub returns-clause-pages : goal.returns-clause-pages
returns-clause-pages g c =
    let r = c.args.retyping.now in
    let w = c.requires.window in
    let pages = rw (c.runs-runs.ensures, c.clear.ensures.items) at c.in-Ok.ensures.pages in
    let put = rw c.as_slice-2.ensures.value at c.replace.ensures in
    ap pages_of put ∙ new_pages c.args.self.now r.range r.mtype r.owner c.args.window.0 c.args.window.1 w c.requires.order c.push_behind.new.parts.items c.in-Ok.ensures.order pages

pub returns-clause-order : goal.returns-clause-order
returns-clause-order g c =
    let r = c.args.retyping.now in
    let w = c.requires.window in
    let pages = rw (c.runs-runs.ensures, c.clear.ensures.items) at c.in-Ok.ensures.pages in
    let put = rw c.as_slice-2.ensures.value at c.replace.ensures in
    subst AreMaximalRuns (sym put) (new_order c.args.self.now r.range r.mtype r.owner c.args.window.0 c.args.window.1 w c.requires.order c.push_behind.new.parts.items c.in-Ok.ensures.order pages)

pub returns-clause-few : goal.returns-clause-few
returns-clause-few g c =
    let r = c.args.retyping.now in
    let low = c.args.window.0 in
    let high = c.args.window.1 in
    let rs = c.args.self.now in
    let parts = c.push_behind.new.parts.items in
    let w = c.requires.window in
    let pages = rw (c.runs-runs.ensures, c.clear.ensures.items) at c.in-Ok.ensures.pages in
    let few = rw (c.runs-runs.ensures, c.clear.ensures.items) at c.in-Ok.ensures.few in
    let put = rw c.as_slice-2.ensures.value at c.replace.ensures in
    let size = gone_length rs r.range r.mtype r.owner low high w c.requires.order in
    let cuts = gone_cuts rs r.range r.mtype r.owner low high w c.requires.order in
    let all = new_length rs r.range r.mtype r.owner low high w c.requires.order parts c.in-Ok.ensures.order pages in
    omega (arith, ap length put, few, size, cuts, all, w.order)

pub returns-clause-entries : goal.returns-clause-entries
returns-clause-entries g c =
    let r = c.args.retyping.now in
    let rs = c.args.self.now in
    let parts = c.push_behind.new.parts.items in
    let w = c.requires.window in
    let pages = rw (c.runs-runs.ensures, c.clear.ensures.items) at c.in-Ok.ensures.pages in
    let put = rw c.as_slice-2.ensures.value at c.replace.ensures in
    let less = rw c.runs-runs.ensures at c.count_entries-less.ensures.count in
    let more = rw c.as_slice.ensures.value at c.count_entries-more.ensures.count in
    let count = new_count rs r.range r.mtype r.owner c.args.window.0 c.args.window.1 w c.requires.order parts c.in-Ok.ensures.order pages in
    omega (arith, ap entry_count put, less, more, count)

pub returns-clause-few_entries : goal.returns-clause-few_entries
returns-clause-few_entries g c =
    let r = c.args.retyping.now in
    let low = c.args.window.0 in
    let high = c.args.window.1 in
    let w = c.requires.window in
    let few = rw (c.runs-runs.ensures, c.clear.ensures.items) at c.in-Ok.ensures.few in
    let size = gone_length c.args.self.now r.range r.mtype r.owner low high w c.requires.order in
    let cuts = gone_cuts c.args.self.now r.range r.mtype r.owner low high w c.requires.order in
    omega (arith, c.count_entries-more.ensures.bound, ap length c.as_slice.ensures.value, few, size, cuts, c.requires.fits, w.order, w.bound)

pub returns-clause-ends : goal.returns-clause-ends
returns-clause-ends g c = λ low high.
    let rs = c.args.self.now in
    let put = rw c.as_slice-2.ensures.value at c.replace.ensures in
    same_ends rs c.push_behind.new.parts.items c.replace.new.self c.args.window.0 c.args.window.1 low high put (omega (arith, high, c.requires.window.order))
