use Rattle.std.proofs.Common.{◌≡◌, ◌+◌, ◌-◌, ◌≤◌, ◌++◌, length, take, drop, [], sym, ap, ap₂, ◌∙◌, append-nil, arith}
use Rattle.std.proofs.lemmas.List.{length-append, length-take-le, take_all}
use Rattle.std.proofs.Math.Seq.{paste}
use Rattle.arrayvec.specs.ArrayVec.{array_vec_len, with_items}
use Rattle.arrayvec.proofs.ArrayVecLemmas.{items-with_items}
use Rattle.descriptor_table.proofs.RunArrays.{of_ok, written, written_length, written_is, at_end, replaced}
use Rattle.descriptor_table.proofs.run_arrays.replace_runs.Goals as goal

-- as many as went
pub returns-then-end-high : goal.returns-then-end-high
returns-then-end-high g c =
    let old = c.args.runs.now in
    let all = c.as_mut_slice.result.now in
    let put = c.copy_from_slice.new.self in
    let same = c.as_mut_slice.ensures.value in
    let long = written_length all c.args.low c.args.high put (omega (arith, c.if-end-high.true, ap length c.copy_from_slice.ensures.after)) (omega (arith, ap length same, c.requires.bound)) ∙ ap length same in
    items-with_items old (written all c.args.low c.args.high put) long
    ∙ ap₂ (λ xs ys. written xs c.args.low c.args.high ys) same c.copy_from_slice.ensures.after
    ∙ written_is old.items c.args.low c.args.high c.args.parts.now c.requires.order

-- fewer
pub returns-then-end-high-2 : goal.returns-then-end-high-2
returns-then-end-high-2 g c =
    let old = c.args.runs.now in
    let parts = c.args.parts.now in
    let low = c.args.low in
    let high = c.args.high in
    let end = low + length parts in
    let moved = c.copy_within.new.self in
    let put = c.copy_from_slice-then-end-high-2 in
    let same = c.as_mut_slice-all.ensures.value in
    let was = c.copy_within.ensures.len ∙ ap length same in
    let long = written_length moved low end put.new.self (omega (arith, ap length put.ensures.after)) (omega (arith, was, c.requires.bound)) ∙ was in
    let n = c.len-count.result + end - high in
    c.truncate.ensures.items
    ∙ ap (take n) (items-with_items old (written moved low end put.new.self) long)
    ∙ replaced old.items [] parts low high n c.requires.order c.requires.bound (omega arith) (omega (arith, c.len-count.ensures.value, c.requires.bound)) old.items moved put.new.self (sym (append-nil old.items)) (c.copy_within.ensures.after ∙ ap₂ (λ xs k. paste xs end (drop high xs) (k - high)) same c.len-count.ensures.value) put.ensures.after

-- more, and the last ones went
pub returns-then-high-count : goal.returns-then-high-count
returns-then-high-count g c =
    let old = c.args.runs.now in
    let parts = c.args.parts.now in
    let low = c.args.low in
    let high = c.args.high in
    let all = c.as_mut_slice-then-high-count.result.now in
    let put = c.copy_from_slice-then-high-count in
    let grown = c.try_extend_from_slice-grown in
    let last : high ≡ length old.items = c.if-high-count.true ∙ c.len-count.ensures.value in
    let same = c.as_mut_slice-then-high-count.ensures.value in
    let here : length all ≡ high = ap length same ∙ sym last in
    let front = put.ensures.after ∙ c.split_at.ensures.front in
    let long = written_length all low (length all) put.new.self (omega (arith, ap length put.ensures.after, c.split_at.ensures.front_len, here, c.requires.order)) (omega arith) ∙ ap length same in
    let kept = items-with_items old (written all low (length all) put.new.self) long in
    let fits : array_vec_len (with_items old (written all low (length all) put.new.self)) + length c.split_at.result.1.now ≤ g.row.N = omega (arith, ap length kept, long, c.split_at.ensures.back_len, c.requires.fits, c.requires.order) in
    of_ok grown.result (grown.ensures.variant.1 fits) grown.ensures.ok
    ∙ ap₂ (λ xs ys. xs ++ ys) (kept ∙ ap₂ (λ xs ys. written xs low (length all) ys) same front ∙ ap (λ k. written old.items low k (take (high - low) parts)) here) c.split_at.ensures.back
    ∙ at_end old.items low high parts c.requires.order last

-- more, before others
pub returns : goal.returns
returns g c =
    let old = c.args.runs.now.items in
    let parts = c.args.parts.now in
    let low = c.args.low in
    let high = c.args.high in
    let end = low + length parts in
    let room = take (end - high) parts in
    let grown = c.try_extend_from_slice-grown-2 in
    let size : length room ≡ end - high = length-take-le (end - high) parts (omega (arith, c.requires.order)) in
    let fits : length old + length room ≤ g.row.N = omega (arith, size, c.requires.fits, c.requires.order, c.requires.bound) in
    let held : grown.new.self.items ≡ old ++ room = of_ok grown.result (grown.ensures.variant.1 fits) grown.ensures.ok in
    let moved = c.copy_within-2.new.self in
    let put = c.copy_from_slice-2 in
    let same = c.as_mut_slice-longer.ensures.value in
    let was = c.copy_within-2.ensures.len ∙ ap length same in
    let count : length grown.new.self.items ≡ length old + length room = ap length held ∙ length-append old room in
    let long = written_length moved low end put.new.self (omega (arith, ap length put.ensures.after)) (omega (arith, was, count, size, c.requires.bound)) ∙ was in
    let n = length old + end - high in
    items-with_items grown.new.self (written moved low end put.new.self) long
    ∙ sym (take_all n (written moved low end put.new.self) (omega (arith, long, count, size, c.requires.bound)))
    ∙ replaced old room parts low high n c.requires.order c.requires.bound (omega (arith, size)) (omega (arith, c.requires.bound)) grown.new.self.items moved put.new.self held (c.copy_within-2.ensures.after ∙ ap₂ (λ xs k. paste xs end (drop high xs) (k - high)) same c.len-count.ensures.value) put.ensures.after
