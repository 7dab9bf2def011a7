use contract.BorrowLft.{⊑_refl, ⊑_static}
use Rattle.descriptor_table.proofs.Lives.{once}
use Rattle.std.proofs.Common.{List, ◌∷◌, length, sym, subst, ap, ◌∙◌, arith}
use Rattle.std.specs.Option.{option_map}
use Rattle.page_ranges.specs.declared.ranges.Descriptor.{Descriptor}
use Rattle.page_ranges.specs.declared.ranges.Run.{Run}
use Rattle.page_ranges.specs.MemoryTypes.{page_count}
use Rattle.page_ranges.specs.MemoryMap.{memory_map}
use Rattle.page_ranges.specs.Runs.{pages_of, AreRuns}
use Rattle.descriptor_table.specs.Leaves.{runs_with_first}
use Rattle.descriptor_table.specs.Tables.{EndBy}
use Rattle.descriptor_table.proofs.Places.{one_run_entry}
use Rattle.descriptor_table.proofs.entries.MapEntriesIterator.next.Goals as goal

pub next_apart-requires : goal.next_apart-requires
next_apart-requires g c =
    let ends = subst (λ o. EndBy page_count (runs_with_first (option_map (λ r. r.now) o) c.self.inside.walk)) c.in_ok-first.was c.self.invariant.1 in
    omega (arith, ends.0)

pub returns-in-Some-clause-steps : goal.returns-in-Some-clause-steps
returns-in-Some-clause-steps g c =
    let first = c.in_ok-first.first.now in
    let old = c.self.inside.walk in
    let new = c.next_apart.new.walk in
    let run = c.in-Some.run'.now in
    let runs = subst (λ o. AreRuns (runs_with_first (option_map (λ r. r.now) o) old)) c.in_ok-first.was c.self.invariant.0 in
    sym c.self.view_is
    ∙ ap (λ o. memory_map (pages_of (runs_with_first (option_map (λ r. r.now) o) old))) c.in_ok-first.was
    ∙ one_run_entry first first run old new c.in-Some.ensures.passed runs c.in-Some.ensures.apart
    ∙ ap (λ (d : Descriptor). d ∷ memory_map (pages_of (run ∷ new))) (sym c.block_of.ensures)

pub returns-in-Some-clause-goes : goal.returns-in-Some-clause-goes
returns-in-Some-clause-goes g c = record { on = λ _. (tt, tt, omega (arith, ap length (returns-in-Some-clause-steps g c))); keeps = tt; rests = λ _. tt }

pub returns-clause-steps : goal.returns-clause-steps
returns-clause-steps g c =
    sym c.self.view_is
    ∙ ap (λ o. memory_map (pages_of (runs_with_first (option_map (λ r. r.now) o) c.self.inside.walk))) c.in_ok-first.was
    ∙ ap (λ (w : List Run). memory_map (pages_of (c.in_ok-first.first.now ∷ w))) (sym (c.next_apart.ensures.none c.in_default.is))
    ∙ c.end_of_entry-end.ensures.entry

pub returns-clause-goes : goal.returns-clause-goes
returns-clause-goes g c = record { on = λ _. (tt, tt, omega (arith, ap length (returns-clause-steps g c))); keeps = tt; rests = λ _. tt }

pub branch-first-requires : goal.branch-first-requires
branch-first-requires g c = λ κs. once κs.0 κs.0 (⊑_refl κs.0)

pub from_residual-requires : goal.from_residual-requires
from_residual-requires g c = λ κs. ⊑_static κs.0
