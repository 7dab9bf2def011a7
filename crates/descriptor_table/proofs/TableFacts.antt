-- What is known of a table's runs.
use Rattle.std.proofs.Common.{[], ◌∷◌, length-append, ◌≡◌, ℕ, ◌+◌, ◌<◌, ◌≤◌, List, length, get_or, refl, ap, sym, subst, arith, Option, Some, None, Contains, IfSome}
use Rattle.std.specs.Option.{option_map}
use Rattle.page_ranges.specs.declared.ranges.Run.{Run}
use Rattle.std.specs.List.{AllByRecursion}
use Rattle.page_ranges.specs.MemoryTypes.{page_count}
use Rattle.page_ranges.specs.MemoryMap.{memory_map, IsLike}
use Rattle.page_ranges.specs.Cursors.{IsBlockAt}
use Rattle.page_ranges.specs.Memory.{Page, page_at, row, IsProperMemory}
use Rattle.page_ranges.specs.Runs.{page_in, pages_of, runs_of, AreRuns, AreMaximalRuns, IsInRun}
use Rattle.page_ranges.proofs.Rows.{length-row}
use Rattle.page_ranges.proofs.Members.{all_implied}
use Rattle.page_ranges.proofs.RunLists.{IsProperRun, proper_runs, run_at, run_count}
use Rattle.page_ranges.proofs.RunMaps.{entries_at_most}
use Rattle.page_ranges.proofs.MaximalRuns.{maximal_are_runs, runs_of-maximal, runs_of-pages_of, pages_of-runs_of}
use Rattle.descriptor_table.specs.Tables.{entry_of, EndBy, IsTable, HoldsPage}
use Rattle.descriptor_table.proofs.Finding.{held_by_member}

pub proper_ends : (rs : List Run) → AreRuns rs → IsProperMemory (pages_of rs) → EndBy page_count rs
proper_ends rs runs proper = all_implied IsProperRun (λ r. r.range.first + r.range.pages ≤ page_count) (λ r p. p.within) rs (proper_runs rs runs proper)

pub proper_end_at : (rs : List Run) (i : ℕ) (r : Run) → AreRuns rs → IsProperMemory (pages_of rs) → i < length rs → r ≡ get_or rs i r → r.range.first + r.range.pages ≤ page_count
proper_end_at rs i r runs proper h e = omega (arith, run_at (λ s. s.range.first + s.range.pages ≤ page_count) rs i r (proper_ends rs runs proper) h, ap (λ s. s.range.first + s.range.pages) e)

pub table_runs : (rs : List Run) (n : ℕ) → IsTable rs n → AreRuns rs
table_runs rs n table = maximal_are_runs rs table.maximal

pub table_ends : (rs : List Run) (n : ℕ) → IsTable rs n → EndBy page_count rs
table_ends rs n table = proper_ends rs (table_runs rs n table) table.proper

pub table_runs_of : (rs : List Run) (n : ℕ) → IsTable rs n → runs_of (pages_of rs) ≡ rs
table_runs_of rs n table = runs_of-pages_of rs table.maximal

-- the run that was found is one of the memory's maximal runs
pub holds_page : (rs : List Run) (n k : ℕ) (o : Option Run) → IsTable rs n → page_at (pages_of rs) k ≡ option_map (page_in k) o → IfSome o (λ r. Contains rs r × IsInRun r k) → HoldsPage (pages_of rs) k o
holds_page rs n k None table e member = e
holds_page rs n k (Some r) table e member = (let P : List Run → Type 0 = λ ss. Contains ss r in subst P (sym (table_runs_of rs n table)) member.0, member.1)

-- the runs are none exactly where no page is present
pub no_pages : (rs : List Run) (n : ℕ) → IsTable rs n → pages_of rs ≡ [] → length rs ≡ 0
no_pages [] n table e = refl
no_pages (r ∷ rs) n table e = omega (arith, table.maximal.0, length-append (row r.range.pages (page_in r.range.first r)) (pages_of rs), length-row r.range.pages (page_in r.range.first r), ap length e)

pub no_runs : (rs : List Run) → length rs ≡ 0 → pages_of rs ≡ []
no_runs [] e = refl
no_runs (r ∷ rs) e = absurd (omega arith)

begin_from_zero : (rs : List Run) → AllByRecursion (λ s. 0 ≤ s.range.first) rs
begin_from_zero [] = tt
begin_from_zero (r ∷ rs) = (omega arith, begin_from_zero rs)

-- there are no more runs than pages
pub few_runs : (rs : List Run) → AreRuns rs → EndBy page_count rs → length rs ≤ page_count
few_runs rs runs ends = omega (arith, run_count rs 0 page_count runs (begin_from_zero rs) ends (omega arith))

-- a map has no more entries than there are pages
pub few_entries : (rs : List Run) → AreRuns rs → EndBy page_count rs → length (memory_map (pages_of rs)) ≤ page_count
few_entries rs runs ends = omega (arith, entries_at_most rs runs, run_count rs 0 page_count runs (begin_from_zero rs) ends (omega arith))

-- ---- a cursor over a table's runs

pub cursor_table : (rs : List Run) → AreMaximalRuns rs → IsProperMemory (pages_of rs) → IsTable rs (length (memory_map (pages_of rs)))
cursor_table rs maximal proper = record { maximal = maximal; proper = proper; entries = refl }

like_run : (r : Run) (k : ℕ) → IsLike (entry_of r) (Some (page_in k r))
like_run r k = (refl, refl)

-- the run that holds a page, as a block
pub held_block : (m : List Page) (k : ℕ) (r : Run) → IsProperMemory m → HoldsPage m k (Some r) → IsBlockAt m k (Some (entry_of r))
held_block m k r proper held =
    let runs = maximal_are_runs (runs_of m) (runs_of-maximal m proper.ascending) in (
      record { low = held.1.low; high = held.1.high },
      λ j i. subst (λ n. IsLike (entry_of r) (page_at n j)) (pages_of-runs_of m) (subst (IsLike (entry_of r)) (sym (held_by_member (runs_of m) r j runs held.0 (record { low = i.low; high = i.high }))) (like_run r j)),
    )
