-- The law of what FreePages frees. It is the contract of a public function.
use Rattle.std.specs.Prelude.{ℕ, ◌+◌, ◌≤◌, Ok}
use Rattle.page_ranges.specs.declared.ranges.Owner.TheVariants.{Pages}
use Rattle.page_ranges.specs.declared.ranges.PageRange.{PageRange}
use Rattle.page_ranges.specs.Memory.{IsOwnedBy, AllInRange}
use Rattle.page_services.specs.PageRules.{Book, IsInGranules, range_from, freed_range, FreesPages}

-- each page of a range lies in another
abbrev pub LiesIn : PageRange → PageRange → Type 0
LiesIn inner outer =
    (outer.first ≤ inner.first) × (inner.first + inner.pages ≤ outer.first + outer.pages)

-- Where FreePages succeeds, it frees the pages that the call names, and AllocatePages placed each
-- page that it frees, also those by which the range grows to the borders of granules.
abbrev pub FreedPagesLaw : Type 0
FreedPagesLaw =
    (b : Book) (address pages : ℕ) (done : Unit {0}) (new : Book) → IsInGranules b
    → FreesPages b address pages (Ok done) new →
    LiesIn (range_from address pages) (freed_range b address pages)
    × AllInRange b.memory (freed_range b address pages) (IsOwnedBy Pages)
