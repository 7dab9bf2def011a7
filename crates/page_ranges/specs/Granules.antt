-- Granules: the pages in which a machine places memory of some types.
use Rattle.std.specs.Prelude.{◌≡◌, ◌⊎◌, ℕ, ◌+◌, ◌-◌, ◌%◌, ◌^◌, Bool, ◌||◌, ◌==◌, nat_lt, if◌then◌else◌, Option, Some, None}

-- a granule that a machine may have, in pages
abbrev pub IsGranule : ℕ → Type 0
IsGranule g = (g ≡ 1) ⊎ (g ≡ 16)

-- the types that fill granules: reserved, runtime services code and data, and ACPI non-volatile
-- storage
abbrev pub is_granular : ℕ → Bool
is_granular t = (t == 0) || (t == 5) || (t == 6) || (t == 10)

-- the granule of a type on a machine: the machine's for these types, and a page for all others
abbrev pub granule_for : ℕ → ℕ → ℕ
granule_for t granule = if is_granular t then granule else 1

-- the least multiple of a granule that is not below a number of pages
abbrev pub rounded : ℕ → ℕ → ℕ
rounded pages granule = if pages % granule == 0 then pages else pages + (granule - pages % granule)

-- a number, if it has at most 64 bits
abbrev pub if_64_bits : ℕ → Option ℕ
if_64_bits n = if nat_lt n (2 ^ 64) then Some n else None
