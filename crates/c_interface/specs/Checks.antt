-- What a caller in C learns of an entry of the memory map, and of a certificate block.
use Rattle.std.specs.Prelude.{◌≡◌, ◌⊎◌, ℕ, ◌*◌, Bool, List, Option, Some, None, Err, if◌then◌else◌}
use Rattle.page_ranges.specs.MemoryTypes.{page_size}
use Rattle.page_ranges.specs.Statuses.{status_number}
use Rattle.page_ranges.specs.declared.ranges.Descriptor.{Descriptor}
use Rattle.page_ranges.specs.declared.statuses.Status.TheVariants.{Success, InvalidParameter, OutOfResources, NotFound, AccessDenied}
use Rattle.certificate_blocks.specs.BlockChecks.{IsVerdict}
use Rattle.certificate_blocks.specs.Blocks.{block_said}
use Rattle.c_interface.specs.declared.checks.MapEntry.{MapEntry}

-- an entry as C has it
abbrev pub entry_in_c : Descriptor → MapEntry
entry_in_c d =
    record {
      mtype = d.mtype;
      physical_start = d.first * page_size;
      number_of_pages = d.pages;
      attribute = d.attributes;
    }

-- the status, and the entry in the caller's variable
abbrev pub ReturnsEntry : Option Descriptor → MapEntry → ℕ → MapEntry → Type 0
ReturnsEntry (Some d) before status after =
    (status ≡ status_number Success) × (after ≡ entry_in_c d)
ReturnsEntry None before status after = (status ≡ status_number NotFound) × (after ≡ before)

-- The status of a check: whether the text's certificate is accepted; or the text is no block, and
-- the caller's variable has its first line that is wrong or missing; or memory ran out.
abbrev pub ChecksBlock : List ℕ → ℕ → ℕ → ℕ → Type 0
ChecksBlock text before status after =
    ((accepted : Bool) × IsVerdict text accepted
    × (status ≡ status_number (if accepted then Success else AccessDenied)) × (after ≡ before))
    ⊎ ((block_said text ≡ Err after) × (status ≡ status_number InvalidParameter))
    ⊎ ((status ≡ status_number OutOfResources) × (after ≡ before))
