use Rattle.std.proofs.Common.{◌≡◌, ◌+◌, ◌-◌, ◌++◌, ◌∷◌, [], length, true, refl, ap, subst, sym, ◌∙◌, arith}
use Rattle.page_ranges.specs.Runs.{pages_of, should_be_one_run}
use Rattle.descriptor_table.specs.Tables.{AreMaximalUpTo, PutsBehind}
use Rattle.descriptor_table.proofs.Joins.{IsApartFromLast, last_grows, grown-pages, grown-order, pushed-order, apart_none, apart_one}
use Rattle.page_ranges.proofs.RunLists.{pages_of-append}
use Rattle.descriptor_table.proofs.cuts.grow_last.Goals as goal
use Rattle.descriptor_table.proofs.cuts.grow_last.Goals.{else-count-gt0-via-then-count-gt0+else-should_be_one, else-count-gt0-via-else-count-gt0}

pub returns-then-should_be_one-clause-grown : goal.returns-then-should_be_one-clause-grown
returns-then-should_be_one-clause-grown c =
    let rs = c.args.runs.now in
    let x = c.args.run.now in
    let i = length rs - 1 in
    let r = c.index-runs-count.result in
    let one : should_be_one_run r x ≡ true = ap (λ q. should_be_one_run q x) c.index-runs-count.is ∙ sym c.should_be_one.ensures ∙ c.if-should_be_one.true in
    let is = last_grows x rs i r c.index-runs-count-then-should_be_one-2.result c.index-runs-count-then-should_be_one.result (omega arith) c.index-runs-count.is in
    λ _.
    record {
      pages = ap pages_of is ∙ grown-pages x rs i r (omega arith) c.index-runs-count.is one;
      order = subst (AreMaximalUpTo (x.range.first + x.range.pages)) (sym is) (grown-order x rs i r (omega arith) c.index-runs-count.is one c.requires.order);
    }

pub returns-clause-apart : goal.returns-clause-apart
returns-clause-apart c =
    let rs = c.args.runs.now in
    let x = c.args.run.now in
    let put : IsApartFromLast x rs → PutsBehind rs x (rs ++ x ∷ []) = λ apart. record { pages = pages_of-append rs (x ∷ []); order = pushed-order x rs (rs ++ x ∷ []) refl c.requires.order c.requires.some apart } in
    λ _.
    elim c.else-count-gt0.branch [
      | else-count-gt0-via-then-count-gt0+else-should_be_one w ↦ put (apart_one x rs (length rs - 1) w.index-runs-count.result (omega arith) w.index-runs-count.is (ap (λ q. should_be_one_run q x) w.index-runs-count.is ∙ sym w.should_be_one.ensures ∙ w.if-should_be_one.false))
      | else-count-gt0-via-else-count-gt0 w ↦ put (apart_none x rs (omega arith))
    ]
