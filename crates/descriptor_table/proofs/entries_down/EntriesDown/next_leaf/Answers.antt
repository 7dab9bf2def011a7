use Rattle.std.proofs.Common.{◌≡◌, ◌+◌, ◌-◌, ◌<◌, ◌++◌, [], length, take, ap, sym, ◌∙◌, refl, arith}
use Rattle.std.proofs.lemmas.List.{get_or_default, take_all}
use Rattle.descriptor_table.specs.Leaves.{leaf_at, runs_in}
use Rattle.descriptor_table.specs.Wanting.{entries_of}
use Rattle.descriptor_table.proofs.Downward.{all_passed, leaf_opened, leaves_passed, none_passed, too_much}
use Rattle.descriptor_table.proofs.entries_down.EntriesDown.next_leaf.Goals as goal

pub returns-in_err-leaf-clause-next : goal.returns-in_err-leaf-clause-next
returns-in_err-leaf-clause-next g c =
    let ls = c.self.inside.leaves.now in
    let w = c.args.wanted.now in
    let leaf = c.self.inside.leaf in
    let all = entries_of (runs_in (take leaf ls)) in
    rw c.from_residual.ensures (rw (← c.self.view_is) (all_passed w ls all (leaves_passed w ls all leaf 0 leaf (omega arith) c.self.invariant.1 (none_passed w ls leaf) c.in_err-leaf.ensures)))

pub returns-clause-next : goal.returns-clause-next
returns-clause-next g c =
    let ls = c.self.inside.leaves.now in
    let w = c.args.wanted.now in
    let leaf = c.self.inside.leaf in
    let j = c.in_ok-leaf.leaf in
    let e = c.in_ok-leaf.ensures in
    let all = entries_of (runs_in (take leaf ls)) in
    let h : j < length ls = omega (arith, e.0, c.self.invariant.1) in
    let has = leaves_passed w ls all (leaf - (j + 1)) (j + 1) leaf (omega (arith, e.0)) c.self.invariant.1 (none_passed w ls leaf) e.1 in
    let rs = c.runs-runs.result.now in
    let same : rs ≡ leaf_at ls j = c.runs-runs.ensures ∙ get_or_default ls j c.index-self-leaf.result [] h in
    let parts = leaf_opened w ls all j h has ∙ ap (λ xs. entries_of (runs_in (take j ls)) ++ (entries_of xs ++ has.passed)) (sym same ∙ sym (take_all (length rs) rs (omega arith))) in
    rw (← c.self.view_is) (refl, e.0, (has.passed, parts, has.no_use))

pub returns-then-wanted-gt-MAX_GAIN-clause-next : goal.returns-then-wanted-gt-MAX_GAIN-clause-next
returns-then-wanted-gt-MAX_GAIN-clause-next g c = too_much c.args.self.now.memory c.args.wanted.now c.args.self.now.entries (omega arith)

pub returns-in_err-leaf-clause-stays : goal.returns-in_err-leaf-clause-stays
returns-in_err-leaf-clause-stays g c = refl

pub returns-then-wanted-gt-MAX_GAIN-clause-stays : goal.returns-then-wanted-gt-MAX_GAIN-clause-stays
returns-then-wanted-gt-MAX_GAIN-clause-stays g c = refl
