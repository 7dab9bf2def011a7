-- How large a memory map can be.
use Rattle.std.proofs.Common.{◌≤◌, List, length, sym, subst}
use Rattle.page_ranges.specs.MemoryTypes.{page_count}
use Rattle.page_ranges.specs.Memory.{Page, IsProperMemory}
use Rattle.page_ranges.specs.MemoryMap.{memory_map}
use Rattle.page_ranges.specs.Runs.{runs_of}
use Rattle.page_ranges.proofs.MaximalRuns.{runs_of-maximal, pages_of-runs_of, maximal_are_runs}
use Rattle.descriptor_table.proofs.TableFacts.{proper_ends, few_entries}

-- a map has no more entries than there are pages
pub few_entries_of : (m : List Page) → IsProperMemory m → length (memory_map m) ≤ page_count
few_entries_of m proper =
    let runs = maximal_are_runs (runs_of m) (runs_of-maximal m proper.ascending) in
    let ends = proper_ends (runs_of m) runs (subst IsProperMemory (sym (pages_of-runs_of m)) proper) in
    subst (λ (n : List Page). length (memory_map n) ≤ page_count) (pages_of-runs_of m) (few_entries (runs_of m) runs ends)
