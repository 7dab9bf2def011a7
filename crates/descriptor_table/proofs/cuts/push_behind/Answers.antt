use Rattle.std.proofs.Common.{◌+◌, ◌++◌, ◌≤◌, [], ◌∷◌, Vec, length, append-nil, sym, ap, subst, ◌∙◌, arith}
use Rattle.std.specs.Prelude.{vec_capacity}
use Rattle.std.proofs.lemmas.Bool.{leb-true}
use Rattle.std.proofs.lemmas.List.{take_all}
use Rattle.page_ranges.specs.declared.ranges.Run.{Run}
use Rattle.page_ranges.specs.Memory.{retyped}
use Rattle.page_ranges.specs.Runs.{pages_of}
use Rattle.page_ranges.proofs.RunLists.{run_at, some_pages_at, EndBy-higher}
use Rattle.descriptor_table.specs.LeafChanges.{AppendsRetyped, EndsWith}
use Rattle.descriptor_table.specs.Reserves.{cut_count}
use Rattle.descriptor_table.specs.Tables.{AreMaximalUpTo, EndBy}
use Rattle.descriptor_table.proofs.CutRuns.{last_taken, one_more, put_above, put_below, up_to_next}
use Rattle.descriptor_table.proofs.CutCounts.{on_err, cuts_more, parts_of_one_more}
use Rattle.descriptor_table.proofs.cuts.push_behind.Goals as goal
use Rattle.descriptor_table.proofs.cuts.push_behind.Goals.{then-run-range, else-run-range, then-end-run+in_ok-push_joined, else-end-run+in_ok-push_cut}

pub loop-run-preserved : goal.loop-run-preserved
loop-run-preserved g c =
    let i = c.loop-run.invariant in
    let r = c.run-item.result in
    let end = r.range.first + r.range.pages in
    let runs = c.args.runs.now in
    let range = c.args.range in
    let mtype = c.args.mtype in
    let owner = c.args.owner in
    let old = c.loop-run.parts in
    let new = c.if-end-run.parts.items in
    let Puts : Vec Run g.row.A.Denot → Type 0 = λ v. AppendsRetyped range mtype owner (r ∷ []) old.items v.items × AreMaximalUpTo end v.items × (length v.items ≤ length old.items + (1 + cut_count range (r ∷ []))) × (vec_capacity old ≤ vec_capacity v) in
    let put : Puts c.if-end-run.parts = elim c.if-end-run.branch [
      | then-end-run+in_ok-push_joined w ↦
          let all = w.in_ok-push_joined.ensures.ok in
          let pages : AppendsRetyped range mtype owner (r ∷ []) old.items w.push_joined.new.runs.items = elim c.if-run-range.branch [
            | then-run-range v ↦ put_below range mtype owner r old.items w.push_joined.new.runs.items (omega arith) all.pages
            | else-run-range v ↦ put_above range mtype owner r old.items w.push_joined.new.runs.items (omega (arith, leb-true _ _ (sym v.value-is ∙ w.if-end-run.true))) all.pages
          ] in
          subst Puts (sym w.parts-is) (pages, all.order, omega (arith, w.push_joined.ensures.few), w.push_joined.ensures.capacity)
      | else-end-run+in_ok-push_cut w ↦
          subst Puts (sym w.parts-is) (w.in_ok-push_cut.ensures.pages, w.in_ok-push_cut.ensures.order, w.push_cut.ensures.few, w.push_cut.ensures.capacity)
    ] in
    record {
      pages = one_more range mtype owner runs c.loop-run.run-index r (omega arith) c.run-item.is c.args.parts.now.items old.items new i.pages put.0;
      order = put.1.0;
      next = λ s h e. up_to_next runs new c.loop-run.run-index r s c.requires.runs c.run-item.is h e put.1;
      ends = λ last h was. EndBy-higher end last new (last_taken runs c.loop-run.run-index last r (omega arith) c.run-item.is h) put.1.1;
      few = omega (arith, put.2, cuts_more range runs c.loop-run.run-index r (omega arith) c.run-item.is);
      capacity = omega (arith, put.3);
    }

pub loop-run-init : goal.loop-run-init
loop-run-init g c =
    let old = c.args.parts.now.items in
    record {
      pages = sym (append-nil (pages_of old));
      order = c.requires.order;
      next = λ r h e. (c.requires.order, subst (λ (q : Run). EndBy q.range.first old) (sym e) (run_at (λ q. EndBy q.range.first old) c.args.runs.now 0 r c.requires.behind h));
      ends = λ last h was. was;
      few = omega arith;
      capacity = omega arith;
    }

pub push_joined-requires-clause-order : goal.push_joined-requires-clause-order
push_joined-requires-clause-order g c = c.loop-run.invariant.next c.run-item.result (omega arith) c.run-item.is

pub push_joined-requires-clause-some : goal.push_joined-requires-clause-some
push_joined-requires-clause-some g c =
    omega (arith, some_pages_at c.args.runs.now c.loop-run.run-index c.run-item.result c.requires.runs (omega arith), ap (λ (q : Run). q.range.pages) c.run-item.is)

pub push_cut-requires-clause-order : goal.push_cut-requires-clause-order
push_cut-requires-clause-order g c = c.loop-run.invariant.next c.run-item.result (omega arith) c.run-item.is

pub returns : goal.returns
returns g c =
    let i = c.loop-run.invariant in
    let old = c.args.parts.now.items in
    let all = take_all c.loop-run.run-index c.args.runs.now (omega arith) in
    record {
      pages = i.pages ∙ ap (λ rs. pages_of old ++ retyped c.args.range c.args.mtype c.args.owner (pages_of rs)) all;
      order = i.order;
      ends = subst (λ rs. EndsWith rs old c.loop-run.parts.items) all i.ends;
      few = omega (arith, ap (cut_count c.args.range) all);
      capacity = i.capacity;
      full = tt;
    }

pub returns-in_err-push_joined-clause-few : goal.returns-in_err-push_joined-clause-few
returns-in_err-push_joined-clause-few g c =
    omega (arith, parts_of_one_more c.args.range c.args.runs.now c.loop-run.run-index c.run-item.result (omega arith) c.run-item.is)

pub returns-in_err-push_joined-clause-full : goal.returns-in_err-push_joined-clause-full
returns-in_err-push_joined-clause-full g c =
    on_err c.from_residual.result (omega (arith, parts_of_one_more c.args.range c.args.runs.now c.loop-run.run-index c.run-item.result (omega arith) c.run-item.is, c.in_err-push_joined.ensures.full))

pub returns-in_err-push_cut-clause-few : goal.returns-in_err-push_cut-clause-few
returns-in_err-push_cut-clause-few g c =
    omega (arith, c.push_cut.ensures.few, parts_of_one_more c.args.range c.args.runs.now c.loop-run.run-index c.run-item.result (omega arith) c.run-item.is)

pub returns-in_err-push_cut-clause-full : goal.returns-in_err-push_cut-clause-full
returns-in_err-push_cut-clause-full g c =
    on_err c.from_residual-in_err-push_cut.result (omega (arith, parts_of_one_more c.args.range c.args.runs.now c.loop-run.run-index c.run-item.result (omega arith) c.run-item.is, c.in_err-push_cut.ensures.full))
