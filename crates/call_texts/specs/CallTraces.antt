-- The lines of the calls that are made.
use Rattle.std.specs.Prelude.{◌≡◌, true, false, string_bytes}
use Rattle.boot_calls.specs.declared.calls.Call.{Call}
use Rattle.text_lines.specs.Printed.{Gains}
use Rattle.call_texts.specs.CallText.{call_text}
use Rattle.call_texts.specs.CallLines.{has_line}
use Rattle.call_texts.specs.declared.traces.CallTrace.{CallTrace}
use Rattle.call_texts.specs.declared.traces.CallTrace.TheVariants as trace

-- The line of one call, if a line can ask for it. Memory may run out.
abbrev pub HoldsLine : {A : Type 0} → Call A → CallTrace A → Type 0
HoldsLine c trace.Nothing = ⊥
HoldsLine c (trace.Lines lines) = (has_line c ≡ true) × (string_bytes lines ≡ call_text c)
HoldsLine c trace.NoLine = has_line c ≡ false
HoldsLine c trace.OutOfMemory = Unit {0}

-- The lines of some calls and the line of a further one. Once no line can ask for a call, or memory
-- runs out for its line, there are none.
abbrev pub AddsLine : {A : Type 0} → CallTrace A → Call A → CallTrace A → Type 0
AddsLine trace.Nothing c new = HoldsLine c new
AddsLine (trace.Lines old) c trace.Nothing = ⊥
AddsLine (trace.Lines old) c (trace.Lines new) = (has_line c ≡ true) × Gains old new (call_text c)
AddsLine (trace.Lines old) c trace.NoLine = has_line c ≡ false
AddsLine (trace.Lines old) c trace.OutOfMemory = Unit {0}
AddsLine trace.NoLine c new = new ≡ trace.NoLine
AddsLine trace.OutOfMemory c new = new ≡ trace.OutOfMemory
