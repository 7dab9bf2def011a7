use Rattle.std.proofs.Common.{◌++◌, ◌∷◌, [], take, ap, sym, ◌∙◌, arith}
use Rattle.std.proofs.lemmas.Bool.{eqb-false, eqb-true}
use Rattle.descriptor_table.specs.Tables.{entry_of}
use Rattle.descriptor_table.specs.Wanting.{entries_of}
use Rattle.descriptor_table.proofs.Downward.{last_free, last_other, none_marked}
use Rattle.descriptor_table.proofs.entries_down.LeafDown.next_entry.Goals as goal

pub returns-then-eq-clause-next : goal.returns-then-eq-clause-next
returns-then-eq-clause-next g c =
    let inv = c.loop-index.invariant in
    let rs = c.loop-index.self-inside.runs.now in
    let i = c.in-Some.index in
    let r = c.index-self-index.result in
    let parts = last_free c.loop-index.self-inside.marks rs inv.runs.3 i c.loop-index.self-inside.count r c.in-Some.ensures.some inv.runs.4 c.index-self-index.is c.in-Some.ensures.above (ap (λ x. x.mtype) c.index-self-index.is ∙ eqb-true _ _ (sym c.if-eq.ensures) ∙ c.conventional.ensures) in
    (sym inv.memory, inv.entries ∙ parts ∙ ap (λ x. entries_of (take i rs) ++ entry_of x ∷ []) c.index-self-index.is)

pub loop-index-preserved : goal.loop-index-preserved
loop-index-preserved g c =
    let inv = c.loop-index.invariant in
    let rs = c.loop-index.self-inside.runs.now in
    let parts = last_other c.loop-index.self-inside.marks rs inv.runs.3 c.in-Some.index c.loop-index.self-inside.count c.index-self-index.result c.in-Some.ensures.some inv.runs.4 c.index-self-index.is c.in-Some.ensures.above (λ e. eqb-false _ _ (sym c.if-eq.ensures) (ap (λ x. x.mtype) (sym c.index-self-index.is) ∙ e ∙ sym c.conventional.ensures)) in
    record {
      runs = (inv.runs.0, inv.runs.1, inv.runs.2, inv.runs.3, omega (arith, c.in-Some.ensures.some, inv.runs.4));
      memory = inv.memory;
      entries = inv.entries ∙ parts;
    }

pub returns-clause-next : goal.returns-clause-next
returns-clause-next g c =
    let inv = c.loop-index.invariant in
    let count = c.loop-index.self-inside.count in
    inv.entries ∙ none_marked c.loop-index.self-inside.marks c.loop-index.self-inside.runs.now inv.runs.3 count 0 count (omega arith) inv.runs.4 c.in_default.ensures.none
