-- Whose bytes a region's are.
use Rattle.std.specs.Prelude.{ℕ, Option, Some, None}
use Rattle.raw_pool.specs.RawRows.{AreLeased}
use Rattle.raw_pool.specs.PageNumbers.{AreNumbered}
use Rattle.raw_pool.specs.declared.raw_bytes.Lease.{Lease}
use Rattle.raw_pool.specs.declared.raw_bytes.RawBytes.{RawBytes}
use Rattle.raw_pool.specs.declared.region.Given.{Given}

-- Bytes and marks are the block of a lease; or the marks alone are, and the bytes are pages of a
-- machine.
abbrev pub AreHeld : {A : Type 0} → Option Given → RawBytes → RawBytes → Lease A → Type 0
AreHeld None bytes marks lease = AreLeased bytes marks lease
AreHeld (Some g) bytes marks lease =
    AreLeased g.none marks lease × AreNumbered g.home g.page g.pages bytes

-- the number of the first of these pages
abbrev pub lies_at : Option Given → Option ℕ
lies_at None = None
lies_at (Some g) = Some g.page
