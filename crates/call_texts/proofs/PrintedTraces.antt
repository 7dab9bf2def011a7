-- Lines of calls, one after the other.
use Rattle.std.proofs.Common.{◌≡◌, ℕ, ◌<◌, List, [], ◌∷◌, ◌++◌, length, map, flat_map, ap, ◌∙◌, arith, append_assoc, append-nil, ne_eqb}
use Rattle.std.specs.List.{AllByRecursion}
use Rattle.boot_calls.specs.declared.calls.Call.{Call}
use Rattle.trace_verbs.specs.Verbs.{verb_name}
use Rattle.text_lines.specs.Lines.{after_line, first_line, lines_of}
use Rattle.text_lines.specs.Printed.{line_feed}
use Rattle.text_lines.proofs.LineBytes.{HasNone, first_line-front, lines_of-none, lines_of-some}
use Rattle.trace_lines.specs.Laws.{HasCallNumbers}
use Rattle.call_texts.specs.CallText.{call_line, call_text, parameters_of, spaced, verb_of}
use Rattle.call_texts.proofs.SpacedLines.{Keeps, append_keeps, plain_keeps, spaced_keeps}
use Rattle.call_texts.proofs.ReadCalls.{parameters_are_words, verb_is_word}

no_feed : (bytes : List ℕ) → Keeps bytes → HasNone bytes
no_feed [] k = tt
no_feed (b ∷ bytes) k = (ne_eqb b 10 (λ e. absurd (omega (arith, k.0))), no_feed bytes k.1)

line_keeps : {A : Type 0} (c : Call A) → HasCallNumbers c → Keeps (call_line c)
line_keeps c h =
    append_keeps (verb_name (verb_of c)) (spaced (parameters_of c)) (plain_keeps (verb_name (verb_of c)) (verb_is_word (verb_of c)).plain)
    (spaced_keeps (parameters_of c) (parameters_are_words c h))

some_bytes : (line rest : List ℕ) (b : ℕ) → 0 < length (line ++ b ∷ rest)
some_bytes [] rest b = omega arith
some_bytes (c ∷ line) rest b = omega arith

-- a line and its feed before others
first_of : (line rest : List ℕ) (lines : List (List ℕ)) → HasNone line → lines_of rest ≡ lines → lines_of ((line ++ line_feed) ++ rest) ≡ line ∷ lines
first_of line rest lines none e =
    let whole : (line ++ line_feed) ++ rest ≡ line ++ 10 ∷ rest = append_assoc line line_feed rest in
    let parts = first_line-front line (10 ∷ rest) none in
    let first : first_line (line ++ 10 ∷ rest) ≡ line = parts.0 ∙ append-nil line in
    let after : after_line (line ++ 10 ∷ rest) ≡ rest = parts.1 in
    ap lines_of whole ∙ lines_of-some (line ++ 10 ∷ rest) (some_bytes line rest 10)
    ∙ ap (λ (l : List ℕ). l ∷ lines_of (after_line (line ++ 10 ∷ rest))) first
    ∙ ap (λ (bytes : List ℕ). line ∷ lines_of bytes) after
    ∙ ap (λ (ls : List (List ℕ)). line ∷ ls) e

pub printed_lines : {A : Type 0} (calls : List (Call A)) → AllByRecursion (λ c. HasCallNumbers c) calls → lines_of (flat_map (λ c. call_text c) calls) ≡ map (λ c. call_line c) calls
printed_lines [] a = lines_of-none
printed_lines (c ∷ calls) a =
    first_of (call_line c) (flat_map (λ c. call_text c) calls) (map (λ c. call_line c) calls) (no_feed (call_line c) (line_keeps c a.0)) (printed_lines calls a.1)
