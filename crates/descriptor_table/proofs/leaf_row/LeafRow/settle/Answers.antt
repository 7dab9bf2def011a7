use Rattle.std.proofs.Common.{◌≡◌, ◌+◌, ◌-◌, ◌<◌, ◌≤◌, length, refl, arith}
use Rattle.descriptor_table.specs.Leaves.{leaf_at, AreLeaves}
use Rattle.descriptor_table.specs.LeafRows.{excess_at_border, excess_of}
use Rattle.descriptor_table.proofs.LeafRows.{few_in_row}
use Rattle.descriptor_table.proofs.SettledLeaves.{apart_settled, joined_excess, joined_leaves, joined_settled, merged_fits, merged_settled, settled_row, IsSettled}
use Rattle.descriptor_table.proofs.SplitLeaves.{border_within}
use Rattle.descriptor_table.proofs.leaf_row.LeafRow.settle.Given.{Over}
use Rattle.descriptor_table.proofs.leaf_row.LeafRow.settle.Goals as goal
use Rattle.descriptor_table.proofs.leaf_row.LeafRow.settle.Goals.{After-join_at, After-merge_at}

pub returns-then-not-is_open : goal.returns-then-not-is_open
returns-then-not-is_open g c =
    let was = c.self.invariant in
    let below = rw (← c.self.view_is) at c.requires.below in
    let leaf = rw (← c.self.view_is) at c.requires.order in
    let apart = (rw c.as_slice.ensures.value at c.if-not-is_open.ensures) refl in
    let it = apart_settled c.self.inside.leaves.items c.args.at (omega (arith, c.if-at-len.false, c.len.ensures)) was.are_leaves was.runs below leaf apart in
    rw (← c.self.view_is)
    record { bound = λ h. omega arith; next = λ h. omega arith; passed = it.passed; order = it.order; pages = it.pages; rest = it.rest; takes = omega arith }

-- ---- once the border is joined

bound : (g : Over) (c : After-join_at g) → (0 < c.args.at) × (c.args.at < length c.self.inside.leaves.items)
bound g c = (omega (arith, c.if-at-eq0.false), omega (arith, c.if-at-len.false, c.len.ensures))

before : (g : Over) (c : After-join_at g) → c.excess_beside-before.result ≡ excess_at_border c.args.at c.self.inside.leaves.items
before g c = rw c.as_slice-2.ensures.value at c.excess_beside-before.ensures

within : (g : Over) (c : After-join_at g) → c.excess_beside-before.result ≤ c.self.inside.excess
within g c = omega (arith, before g c, c.self.invariant.excess, border_within c.self.inside.leaves.items c.args.at (bound g c))

joined : (g : Over) (c : After-join_at g) → IsSettled c.args.at (c.args.at + 1) c.self.inside.leaves.items c.join_at.new.leaves.items
joined g c =
    let was = c.self.invariant in
    let leaf = rw (← c.self.view_is) at c.requires.order in
    joined_settled c.self.inside.leaves.items c.join_at.new.leaves.items c.args.at (bound g c) was.are_leaves c.join_at.ensures.joined was.runs leaf

pub overflow_sub-self : goal.overflow_sub-self
overflow_sub-self g c = within g (goal.at.overflow_sub-self g c).After-join_at

pub invariant_of-self : goal.invariant_of-self
invariant_of-self g c =
    let s = (goal.at.invariant_of-self g c).After-join_at in
    let it = joined g s in
    let was = c.self.invariant in
    let now = rw c.as_slice-then-not-are_few.ensures.value at c.excess_beside.ensures in
    let some = (rw c.as_slice-3.ensures.value at c.if-not-are_few.ensures.many) refl in
    let excess = joined_excess c.self.inside.leaves.items c.join_at.new.leaves.items c.args.at (bound g s) was.are_leaves c.join_at.ensures.joined in
    settled_row was it (joined_leaves c.self.inside.leaves.items c.join_at.new.leaves.items c.args.at (bound g s) was.are_leaves c.join_at.ensures.joined some)
    (omega (arith, excess, was.excess, before g s, within g s, now)) (omega (arith, it.count, was.fits, c.join_at.ensures.capacity)) (omega (arith, it.count, was.spare_fit))

pub returns-then-not-are_few : goal.returns-then-not-are_few
returns-then-not-are_few g c =
    let it = joined g (goal.at.returns-then-not-are_few g c).After-join_at in
    rw (← c.self.view_is)
    record { bound = λ h. omega arith; next = λ h. omega arith; passed = it.passed; order = it.order; pages = it.pages; rest = it.rest; takes = omega arith }

-- ---- once the leaf is merged

pub merge_at-requires-clause-fits : goal.merge_at-requires-clause-fits
merge_at-requires-clause-fits g c =
    let s = (goal.at.merge_at-requires-clause-fits g c).After-join_at in
    let few = (rw c.as_slice-3.ensures.value at c.if-not-are_few.ensures.few) refl in
    merged_fits c.self.inside.leaves.items c.join_at.new.leaves.items c.args.at (bound g s) c.self.invariant.are_leaves c.join_at.ensures.joined few

pub overflow_sub-self-2 : goal.overflow_sub-self-2
overflow_sub-self-2 g c = within g (goal.at.overflow_sub-self-2 g c).After-join_at

pub overflow_add-self-2 : goal.overflow_add-self-2
overflow_add-self-2 g c = omega (arith, (few_in_row c.self.invariant).1, c.excess_in.ensures.few)

merged : (g : Over) (c : After-merge_at g) → (0 < c.args.at) × (c.args.at < length c.self.inside.leaves.items)
    → IsSettled c.args.at c.args.at c.self.inside.leaves.items c.merge_at.new.leaves.items × AreLeaves c.merge_at.new.leaves.items
    × (excess_of c.merge_at.new.leaves.items + excess_at_border c.args.at c.self.inside.leaves.items
    ≡ excess_of c.self.inside.leaves.items + (length (leaf_at c.merge_at.new.leaves.items (c.args.at - 1)) - 16))
merged g c there =
    let was = c.self.invariant in
    let leaf = rw (← c.self.view_is) at c.requires.order in
    let few = (rw c.as_slice-3.ensures.value at c.if-not-are_few.ensures.few) refl in
    let made = merged_settled c.self.inside.leaves.items c.join_at.new.leaves.items c.args.at there was.are_leaves c.join_at.ensures.joined few in
    made c.merge_at.new.leaves.items c.merge_at.ensures.leaves was.runs leaf

pub invariant_of-self-2 : goal.invariant_of-self-2
invariant_of-self-2 g c =
    let s = (goal.at.invariant_of-self-2 g c).After-join_at in
    let it = merged g (goal.at.invariant_of-self-2 g c).After-merge_at (bound g s) in
    let was = c.self.invariant in
    let now = rw c.as_slice-4.ensures.value at c.excess_in.ensures.value in
    let made = c.merge_at.ensures in
    settled_row was it.0 it.1 (omega (arith, it.2, was.excess, before g s, within g s, now))
    (omega (arith, it.0.count, was.fits, made.spare, made.capacity, c.join_at.ensures.capacity)) (omega (arith, it.0.count, was.spare_fit, made.spare, made.spare_capacity))

pub returns : goal.returns
returns g c =
    let s = goal.at.returns g c in
    let it = (merged g s.After-merge_at (bound g s.After-join_at)).0 in
    rw (← c.self.view_is)
    record { bound = λ h. omega arith; next = λ h. omega arith; passed = it.passed; order = it.order; pages = it.pages; rest = it.rest; takes = omega arith }
