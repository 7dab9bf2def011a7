use Rattle.std.proofs.Common.{ap, rules, sym, ◌∙◌, eqb-true, eq-eqb}
use Rattle.page_ranges.specs.Runs.{pages_of}
use Rattle.descriptor_table.specs.Leaves.{runs_in}
use Rattle.descriptor_table.proofs.LeafLists.{no_leaves, no_runs_in}
use Rattle.descriptor_table.proofs.TableFacts.{cursor_table, no_pages, no_runs}
use Rattle.descriptor_table.proofs.table.RunTable.is_empty.Goals as goal

pub returns : goal.returns
returns g c =
    let ls = c.leaves.result.now in
    let same = ap (λ xs. pages_of (runs_in xs)) c.leaves.ensures.value ∙ ap (λ t. t.pages) c.self.view_is in
    let table = cursor_table (runs_in ls) (rw c.leaves.ensures.value c.self.invariant.maximal) (rw c.leaves.ensures.value c.self.invariant.proper) in
    let len = c.is_empty.ensures in (
      λ t. let none = eqb-true _ _ (sym len ∙ t) in sym same ∙ no_runs (runs_in ls) (no_leaves ls (search (rules, none))),
      λ e. let none = no_runs_in ls c.leaves.ensures.leaves (no_pages (runs_in ls) _ table (same ∙ e)) in len ∙ eq-eqb _ _ (search (rules, none)),
    )
