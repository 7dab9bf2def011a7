-- The line of a call, where a line can ask for it.
use Rattle.std.specs.Prelude.{◌≡◌, ◌&&◌, nat_le, nat_lt, Bool, true, false, length, Option, Some, None, String, string_bytes}
use Rattle.boot_calls.specs.declared.calls.Call.{Call}
use Rattle.boot_calls.specs.declared.calls.Call.TheVariants as call
use Rattle.text_lines.specs.Lines.{longest_line}
use Rattle.trace_lines.specs.TraceLine.{largest_buffer, longest_read}
use Rattle.call_texts.specs.CallText.{call_line, call_text}

-- A line may ask for a buffer for the memory map and for a read of the pool up to their bounds, and
-- for one interface at least.
abbrev pub may_ask : {A : Type 0} → Call A → Bool
may_ask (call.GetMemoryMap size) = nat_le size largest_buffer
may_ask (call.PoolRead address size) = nat_le size longest_read
may_ask (call.InstallMultipleProtocolInterfaces handle pairs) = nat_lt 0 (length pairs)
may_ask c = true

-- A line can ask for a call: it may, and is not too long.
abbrev pub has_line : {A : Type 0} → Call A → Bool
has_line c = may_ask c && nat_le (length (call_line c)) longest_line

-- the line of a call with its line feed, where there is one
abbrev pub IsLineFor : {A : Type 0} → Call A → Option (String A) → Type 0
IsLineFor c None = has_line c ≡ false
IsLineFor c (Some text) = (has_line c ≡ true) × (string_bytes text ≡ call_text c)
