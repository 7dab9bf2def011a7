use Rattle.std.proofs.Common.{length, ap, sym, ◌∙◌, arith}
use Rattle.descriptor_table.proofs.LeafMoves.{border_apart, joined_ends, joined_order, joined_pages, last_end, pages_fit, some_last}
use Rattle.descriptor_table.proofs.Places.{none_next}
use Rattle.descriptor_table.proofs.leaves.Leaf.join.Goals as goal

pub should_be_one-requires : goal.should_be_one-requires
should_be_one-requires g c =
    let last = sym (rw c.runs.ensures at c.in-Some.ensures.value) in
    let first = sym (rw c.runs-2.ensures at c.in-Some-first.ensures.value) in
    omega (arith, last_end c.args.self.now c.args.next.now c.in-Some.last.now c.in-Some-first.first.now last first c.requires.ends)

pub overflow_add-range : goal.overflow_add-range
overflow_add-range g c =
    let last = sym (rw c.runs.ensures at c.in-Some.ensures.value) in
    let first = sym (rw c.runs-2.ensures at c.in-Some-first.ensures.value) in
    omega (arith, pages_fit c.args.self.now c.args.next.now c.in-Some.last.now c.in-Some-first.first.now last first c.requires.ends (sym c.should_be_one.ensures ∙ c.if-not-should_be_one.false))

pub replace-requires-clause-fits : goal.replace-requires-clause-fits
replace-requires-clause-fits g c =
    let last = sym (rw c.runs.ensures at c.in-Some.ensures.value) in
    let first = sym (rw c.runs-2.ensures at c.in-Some-first.ensures.value) in
    omega (arith, c.requires.sizes.0, ap length c.runs-count.ensures, some_last c.args.self.now c.args.next.now c.in-Some.last.now c.in-Some-first.first.now last first)

pub splice-requires-clause-fits : goal.splice-requires-clause-fits
splice-requires-clause-fits g c = omega (arith, c.requires.sizes.1)

pub returns-clause-pages : goal.returns-clause-pages
returns-clause-pages g c =
    let last = sym (rw c.runs.ensures at c.in-Some.ensures.value) in
    let first = sym (rw c.runs-2.ensures at c.in-Some-first.ensures.value) in
    let put = rw c.runs-count.ensures at c.replace.ensures in
    joined_pages c.args.self.now c.args.next.now c.in-Some.last.now c.in-Some-first.first.now last first (sym c.should_be_one.ensures ∙ c.if-not-should_be_one.false) c.replace.new.self c.splice.new.self put c.splice.ensures

pub returns-clause-ends : goal.returns-clause-ends
returns-clause-ends g c =
    let last = sym (rw c.runs.ensures at c.in-Some.ensures.value) in
    let first = sym (rw c.runs-2.ensures at c.in-Some-first.ensures.value) in
    let put = rw c.runs-count.ensures at c.replace.ensures in
    joined_ends c.args.self.now c.args.next.now c.in-Some.last.now c.in-Some-first.first.now last first (sym c.should_be_one.ensures ∙ c.if-not-should_be_one.false) c.replace.new.self c.splice.new.self put c.splice.ensures

pub returns-clause-order : goal.returns-clause-order
returns-clause-order g c =
    let last = sym (rw c.runs.ensures at c.in-Some.ensures.value) in
    let first = sym (rw c.runs-2.ensures at c.in-Some-first.ensures.value) in
    let put = rw c.runs-count.ensures at c.replace.ensures in
    joined_order c.args.self.now c.args.next.now c.in-Some.last.now c.in-Some-first.first.now last first (sym c.should_be_one.ensures ∙ c.if-not-should_be_one.false) c.replace.new.self c.splice.new.self put c.splice.ensures

pub returns-then-not-should_be_one-clause-order : goal.returns-then-not-should_be_one-clause-order
returns-then-not-should_be_one-clause-order g c =
    let last = sym (rw c.runs.ensures at c.in-Some.ensures.value) in
    let first = sym (rw c.runs-2.ensures at c.in-Some-first.ensures.value) in
    border_apart c.args.self.now c.args.next.now c.in-Some.last.now c.in-Some-first.first.now last first (sym c.should_be_one.ensures ∙ c.if-not-should_be_one.true)

pub returns-in_default-first-clause-order : goal.returns-in_default-first-clause-order
returns-in_default-first-clause-order g c = λ before after a n b.
    let none = sym (rw c.runs-2.ensures at c.in_default-first.ensures.value) in
    absurd (omega (arith, c.requires.some.1, ap length (none_next c.args.next.now none)))
