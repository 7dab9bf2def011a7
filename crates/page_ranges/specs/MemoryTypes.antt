-- Addresses, memory types and attributes, as numbers.
use Rattle.std.specs.Prelude.{ℕ, ◌+◌, ◌-◌, ◌/◌, ◌^◌, Bool, not, ◌&&◌, ◌||◌, ◌==◌, nat_le, if◌then◌else◌, bit_and, bit_or}

-- the bytes of a page
abbrev pub page_size : ℕ
page_size = 4096

-- how many pages there can be: a page number is below this
abbrev pub page_count : ℕ
page_count = 2 ^ 52

-- how many whole pages lie at or below the byte at an address
abbrev pub pages_below : ℕ → ℕ
pages_below address = (address + 1) / page_size

-- EfiConventionalMemory, the type of free pages
abbrev pub conventional : ℕ
conventional = 7

-- types that no request may name: conventional, persistent and unaccepted memory, and the numbers
-- that are no type
abbrev pub is_bad_type : ℕ → Bool
is_bad_type t = (t == 7) || (t == 14) || (t == 15) || (nat_le 16 t && nat_le t 0x6fffffff)

-- types that a machine may have: the standard's, and those for OEMs and OS loaders
abbrev pub is_machine_type : ℕ → Bool
is_machine_type t = nat_le t 15 || nat_le 0x70000000 t

-- the attribute bit EFI_MEMORY_RUNTIME
abbrev pub runtime : ℕ
runtime = 2 ^ 63

abbrev pub has_runtime : ℕ → Bool
has_runtime attributes = not (bit_and attributes runtime == 0)

-- the attribute bit EFI_MEMORY_SP
abbrev pub specific_purpose : ℕ
specific_purpose = 2 ^ 18

-- memory of specific purpose, which a firmware leaves to the operating system
abbrev pub is_specific_purpose : ℕ → Bool
is_specific_purpose attributes = not (bit_and attributes specific_purpose == 0)

-- a page's attributes once it has a type: RUNTIME is on for code and data of runtime services, and
-- off for other types
abbrev pub attributes_as : ℕ → ℕ → ℕ
attributes_as t attributes =
    if (t == 5) || (t == 6) then bit_or attributes runtime
    else attributes - bit_and attributes runtime
