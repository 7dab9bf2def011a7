use Rattle.std.proofs.Common.{◌≡◌, ◌+◌, ◌-◌, ◌<◌, [], length, inl, inr, refl, subst, ◌∙◌, arith}
use Rattle.std.proofs.lemmas.Bool.{cases_lt}
use Rattle.std.proofs.lemmas.List.{get_or_default}
use Rattle.std.specs.List.{AllByRecursion}
use Rattle.page_ranges.specs.Runs.{pages_of}
use Rattle.descriptor_table.specs.Leaves.{leaf_at, runs_in}
use Rattle.descriptor_table.specs.Summaries.{BeginsFree}
use Rattle.descriptor_table.specs.Wanting.{IsOfNoUse, entries_of}
use Rattle.descriptor_table.proofs.Downward.{one_of_no_use}
use Rattle.descriptor_table.proofs.entries_down.leaf_of_use.Goals as goal

pub loop-leaf-preserved : goal.loop-leaf-preserved
loop-leaf-preserved g c =
    let ls = c.args.leaves.now in
    let w = c.args.wanted.now in
    let leaf = c.loop-leaf.leaf - 1 in
    let h : leaf < length ls = omega (arith, c.requires.high) in
    let next : c.loop-leaf.leaf ≡ leaf + 1 = omega arith in
    let begins = subst (λ k. BeginsFree c.loop-leaf.goes_on (leaf_at ls k)) next c.loop-leaf.invariant.begins in
    record {
      begins = subst (BeginsFree c.begins_free-goes_on-in-loop-leaf.result) (c.index-leaves-leaf.is ∙ get_or_default ls leaf c.index-leaves-leaf.result [] h) c.begins_free-goes_on-in-loop-leaf.ensures;
      passed = λ j from to. elim (cases_lt j c.loop-leaf.leaf) [
        | inl l ↦
            let same : leaf ≡ j = omega (arith, from, l) in
            subst (λ k. AllByRecursion (IsOfNoUse (pages_of (runs_in ls)) w) (entries_of (leaf_at ls k))) same
            (one_of_no_use w ls c.requires.leaves c.requires.maximal c.requires.proper leaf c.loop-leaf.goes_on h begins (c.if-may_hold.ensures refl))
        | inr m ↦ c.loop-leaf.invariant.passed j m to
      ];
    }
