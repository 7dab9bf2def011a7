-- The numbers that calls name.
use Rattle.std.specs.Prelude.{◌^◌, ◌<◌}
use Rattle.boot_calls.specs.declared.calls.Call.{Call}
use Rattle.boot_calls.specs.declared.calls.Call.TheVariants as call

-- a call that names no type of more than 32 bits
abbrev pub NamesTypes : {A : Type 0} → Call A → Type 0
NamesTypes (call.AllocatePages kind t pages memory) = t < 2 ^ 32
NamesTypes (call.AllocatePool t size) = t < 2 ^ 32
NamesTypes c = Unit {0}
