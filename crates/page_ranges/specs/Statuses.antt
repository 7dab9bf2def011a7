-- The names and the numbers of statuses.
use Rattle.std.specs.Prelude.{ℕ, ◌+◌, ◌^◌, List, codes}
use Rattle.page_ranges.specs.declared.statuses.Status.{Status}
use Rattle.page_ranges.specs.declared.statuses.Status.TheVariants as status

-- the standard's name, without `EFI_`
abbrev pub name_of : Status → List ℕ
name_of status.Success = codes "SUCCESS"
name_of status.InvalidParameter = codes "INVALID_PARAMETER"
name_of status.Unsupported = codes "UNSUPPORTED"
name_of status.BufferTooSmall = codes "BUFFER_TOO_SMALL"
name_of status.DeviceError = codes "DEVICE_ERROR"
name_of status.OutOfResources = codes "OUT_OF_RESOURCES"
name_of status.NotFound = codes "NOT_FOUND"
name_of status.AccessDenied = codes "ACCESS_DENIED"
name_of status.AlreadyStarted = codes "ALREADY_STARTED"

-- the bit that an error's number has
abbrev pub error_bit : ℕ
error_bit = 2 ^ 63

-- the standard's number (EFI_STATUS)
abbrev pub status_number : Status → ℕ
status_number status.Success = 0
status_number status.InvalidParameter = error_bit + 2
status_number status.Unsupported = error_bit + 3
status_number status.BufferTooSmall = error_bit + 5
status_number status.DeviceError = error_bit + 7
status_number status.OutOfResources = error_bit + 9
status_number status.NotFound = error_bit + 14
status_number status.AccessDenied = error_bit + 15
status_number status.AlreadyStarted = error_bit + 20
