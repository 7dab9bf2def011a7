use Rattle.std.proofs.Common.{◌∷◌, ◌∙◌, sym, subst, arith}
use Rattle.page_ranges.specs.MemoryTypes.{page_count}
use Rattle.descriptor_table.specs.Tables.{EndBy}
use Rattle.descriptor_table.proofs.EntryRuns.{stretched_first}
use Rattle.descriptor_table.proofs.Places.{next_runs, next_from, next_goes_on, entry_is_done, last_entry_done}
use Rattle.descriptor_table.proofs.entries.end_of_entry.Goals as goal

pub loop-run-init : goal.loop-run-init
loop-run-init g c = record {
  low = omega arith;
  runs = c.requires.runs;
  ends = c.requires.ends;
  entry = stretched_first c.args.first.now c.args.walk.now c.requires.runs;
}

pub loop-run-preserved : goal.loop-run-preserved
loop-run-preserved g c =
    let i = c.loop-run.invariant in
    let old = c.loop-run.walk in
    let new = c.next.new.self in
    let last = c.loop-run.last.now in
    let run = c.in-Some.run'.now in
    let p = c.in-Some.ensures in
    record {
      low = omega (arith, i.low, next_from c.args.first.now last run old new p i.runs);
      runs = next_runs c.args.first.now last run old new p i.runs;
      ends = (subst (λ ss. EndBy page_count (last ∷ ss)) p i.ends).1;
      entry = i.entry ∙ next_goes_on c.args.first.now last run old new p i.runs (sym c.goes_on.ensures ∙ c.if-not-goes_on.false);
    }

pub returns-then-not-goes_on : goal.returns-then-not-goes_on
returns-then-not-goes_on g c =
    let i = c.loop-run.invariant in
    let old = c.loop-run.walk in
    let new = c.next.new.self in
    let last = c.loop-run.last.now in
    let run = c.in-Some.run'.now in
    let p = c.in-Some.ensures in
    record {
      low = omega (arith, i.low);
      runs = next_runs c.args.first.now last run old new p i.runs;
      ends = (subst (λ ss. EndBy page_count (last ∷ ss)) p i.ends).1;
      entry = i.entry ∙ entry_is_done c.args.first.now last run old new p i.runs (sym c.goes_on.ensures ∙ c.if-not-goes_on.true);
    }

pub returns-clause-entry : goal.returns-clause-entry
returns-clause-entry g c =
    let i = c.loop-run.invariant in
    i.entry ∙ last_entry_done c.args.first.now c.loop-run.last.now c.loop-run.walk c.in_default.ensures.0 i.runs

pub next-requires : goal.next-requires
next-requires g c = λ κs low. low
