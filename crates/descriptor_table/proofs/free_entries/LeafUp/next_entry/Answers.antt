use Rattle.std.proofs.Common.{◌+◌, ◌∷◌, drop, ap, sym, ◌∙◌, arith}
use Rattle.std.proofs.lemmas.Bool.{eqb-false, eqb-true}
use Rattle.descriptor_table.specs.Tables.{entry_of}
use Rattle.descriptor_table.specs.Wanting.{entries_of}
use Rattle.descriptor_table.proofs.Upward.{first_free, first_other, none_left}
use Rattle.descriptor_table.proofs.free_entries.LeafUp.next_entry.Goals as goal

pub returns-then-eq-clause-next : goal.returns-then-eq-clause-next
returns-then-eq-clause-next g c =
    let inv = c.loop-index.invariant in
    let rs = c.loop-index.self-inside.runs.now in
    let i = c.in-Some.index in
    let r = c.index-self-index.result in
    let parts = first_free c.loop-index.self-inside.marks rs inv.runs.3 c.loop-index.self-inside.index i r c.in-Some.ensures.some.0 c.in-Some.ensures.some.1 c.index-self-index.is c.in-Some.ensures.below (ap (λ x. x.mtype) c.index-self-index.is ∙ eqb-true _ _ (sym c.if-eq.ensures) ∙ c.conventional.ensures) in
    (sym inv.memory, inv.entries ∙ parts ∙ ap (λ x. entry_of x ∷ entries_of (drop (i + 1) rs)) c.index-self-index.is)

pub loop-index-preserved : goal.loop-index-preserved
loop-index-preserved g c =
    let inv = c.loop-index.invariant in
    let rs = c.loop-index.self-inside.runs.now in
    let parts = first_other c.loop-index.self-inside.marks rs inv.runs.3 c.loop-index.self-inside.index c.in-Some.index c.index-self-index.result c.in-Some.ensures.some.0 c.in-Some.ensures.some.1 c.index-self-index.is c.in-Some.ensures.below (λ e. eqb-false _ _ (sym c.if-eq.ensures) (ap (λ x. x.mtype) (sym c.index-self-index.is) ∙ e ∙ sym c.conventional.ensures)) in
    record {
      runs = (inv.runs.0, inv.runs.1, inv.runs.2, inv.runs.3, omega (arith, c.in-Some.ensures.some.1));
      memory = inv.memory;
      entries = inv.entries ∙ parts;
    }

pub returns-clause-next : goal.returns-clause-next
returns-clause-next g c =
    let inv = c.loop-index.invariant in
    inv.entries ∙ none_left c.loop-index.self-inside.marks c.loop-index.self-inside.runs.now inv.runs.3 c.loop-index.self-inside.index inv.runs.4 c.in_default.ensures.none
