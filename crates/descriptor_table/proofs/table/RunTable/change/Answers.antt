use Rattle.std.proofs.Common.{sym, ap, subst, arith, ◌∙◌}
use Rattle.page_ranges.specs.Memory.{IsProperMemory, retyped}
use Rattle.page_ranges.proofs.Retyped.{retyped-proper}
use Rattle.descriptor_table.proofs.Splices.{present_within, retyped-empty}
use Rattle.descriptor_table.proofs.table.RunTable.change.Goals as goal
use Rattle.descriptor_table.proofs.table.RunTable.change.Goals.{then-range-gt0, else-range-gt0}

pub change-requires-clause-within : goal.change-requires-clause-within
change-requires-clause-within g c = present_within _ c.args.range c.self.invariant.proper (omega arith) (rw (ap (λ t. t.pages) c.self.view_is) c.requires.present)

pub invariant_of-self : goal.invariant_of-self
invariant_of-self g c =
    let is = c.self.invariant in
    let reserved = ap (λ t. t.reserved) c.self.view_is in
    elim c.if-range-gt0.branch [
      | then-range-gt0 w ↦ rw w.self-inside-is (record {
        maximal = w.change.ensures.order;
        proper = subst IsProperMemory (sym w.change.ensures.pages) (retyped-proper c.args.range c.args.mtype c.args.owner c.requires.owner _ is.proper);
        room = omega (arith, w.change.ensures.takes, is.room, reserved, c.requires.reserved);
        few = omega (arith, is.few);
      })
      | else-range-gt0 w ↦ rw w.self-inside-is (record { maximal = is.maximal; proper = is.proper; room = omega (arith, is.room); few = omega (arith, is.few) })
    ]

pub returns-clause-pages : goal.returns-clause-pages
returns-clause-pages g c =
    let pages = ap (λ t. t.pages) c.self.view_is in
    elim c.if-range-gt0.branch [
      | then-range-gt0 w ↦ rw w.self-inside-is (w.change.ensures.pages ∙ ap (retyped c.args.range c.args.mtype c.args.owner) pages)
      | else-range-gt0 w ↦ rw w.self-inside-is (pages ∙ retyped-empty c.args.range c.args.mtype c.args.owner c.args.self.now.pages (omega arith))
    ]
