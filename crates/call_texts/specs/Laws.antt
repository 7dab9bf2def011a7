-- The laws of printed calls. Each is the contract of a public function.
use Rattle.std.specs.Prelude.{◌≡◌, true, List, map, flat_map, Some, Ok}
use Rattle.std.specs.List.{AllByRecursion}
use Rattle.boot_calls.specs.declared.calls.Call.{Call}
use Rattle.text_lines.specs.Lines.{lines_of}
use Rattle.trace_lines.specs.declared.lines.TraceCall.TheVariants.{Service}
use Rattle.trace_lines.specs.Laws.{HasCallNumbers}
use Rattle.trace_lines.specs.TraceLine.{line_of}
use Rattle.call_texts.specs.CallText.{call_line, call_text}
use Rattle.call_texts.specs.CallLines.{has_line}

-- The line of a call, read, is that call, where its numbers are of the bits that its service takes
-- and a line can ask for it.
abbrev pub PrintedCallLaw : Type 0 → Type 0
PrintedCallLaw A =
    (c : Call A) → HasCallNumbers c → has_line c ≡ true
    → line_of (call_line c) ≡ Ok (Some (Service c))

-- The lines of a text of calls, printed one after the other, are the lines of these calls.
abbrev pub PrintedLinesLaw : Type 0 → Type 0
PrintedLinesLaw A =
    (calls : List (Call A)) → AllByRecursion (λ c. HasCallNumbers c) calls
    → lines_of (flat_map (λ c. call_text c) calls) ≡ map (λ c. call_line c) calls
