-- Where pages lie.
use Rattle.std.specs.Prelude.{◌≡◌, ℕ, ◌+◌, ◌*◌, ◌^◌, ◌<◌, ◌≤◌}
use denote.RawPtr.{Ptr, block_ptr}
use Rattle.raw_pool.specs.declared.raw_bytes.RawBytes.{RawBytes}

-- a number of pages in a row, from an offset of an object on
pub record Place : Type 0 where
  pub object : ℕ
  pub start : ℕ
  pub pages : ℕ

-- the pointer to a page
abbrev pub page_ptr : Place → ℕ → Ptr
page_ptr p at = block_ptr p.object (p.start + 4096 * at)

-- a pointer at which the pages begin
abbrev pub IsStart : Place → Ptr → Type 0
IsStart p start = (start ≡ block_ptr p.object p.start) × (4096 * p.pages < 2 ^ 63)

-- bytes are those of a number of the pages from one on
abbrev pub ArePages : Place → ℕ → ℕ → RawBytes → Type 0
ArePages p at pages bytes =
    (at + pages ≤ p.pages) × (bytes.room ≡ 4096 * pages) × (bytes.ptr ≡ page_ptr p at)
