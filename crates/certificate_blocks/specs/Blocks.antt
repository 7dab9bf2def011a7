-- What a certificate block's bytes mean.
use Rattle.std.specs.Prelude.{ℕ, zero, suc, ◌+◌, ◌||◌, nat_lt, List, [], ◌∷◌, length, codes, Option, Some, None, Result, Ok, Err, if◌then◌else◌}
use Rattle.std.specs.Io.BufRead.{strip_last}
use Rattle.page_ranges.specs.declared.ranges.Descriptor.{Descriptor}
use Rattle.placement_certificate.specs.declared.certificates.Request.{Request}
use Rattle.placement_certificate.specs.Certificates.{CertificateValue}
use Rattle.text_lines.specs.Lines.{lines_of}
use Rattle.text_lines.specs.Lines.{longest_line}
use Rattle.text_lines.specs.Words.{words_of}
use Rattle.certificate_blocks.specs.BlockLines.{name_alone, number_after, entry_of_words, request_of, bound_of}

-- ---- reading, line after line

-- the lines that are left, and the number of the first of them
pub record LinesLeft : Type 0 where
  pub number : ℕ
  pub lines : List (List ℕ)

-- a value and the lines that are left after it, or the number of the first line that is not as
-- stated
abbrev pub Reading : Type 0 → Type 0
Reading A = LinesLeft → Result (A × LinesLeft) ℕ

-- a value, with no line read
abbrev pub value : {A : Type 0} → A → Reading A
value x = λ left. Ok (x, left)

-- a value that is there, or else a fault at a line
abbrev pub value_or_fault : {A : Type 0} → ℕ → Option A → Reading A
value_or_fault number None = λ left. Err number
value_or_fault number (Some x) = value x

abbrev pub and_then : {A B : Type 0} → (A → Reading B) → Result (A × LinesLeft) ℕ
    → Result (B × LinesLeft) ℕ
and_then next (Err number) = Err number
and_then next (Ok (x, left)) = next x left

-- one reading after another
infixl 10 ◌>>=◌
abbrev pub ◌>>=◌ : {A B : Type 0} → Reading A → (A → Reading B) → Reading B
first >>= next = λ left. and_then next (first left)

-- a number of readings of one kind
unfoldable pub times : {A : Type 0} → ℕ → Reading A → Reading (List A)
times zero reading = value []
times (suc n) reading = do
  x ← reading
  xs ← times n reading
  value (x ∷ xs)

-- ---- lines

-- the most lines of a block
abbrev pub most_block_lines : ℕ
most_block_lines = 5000000

abbrev pub line_from : ℕ → List (List ℕ) → Result ((ℕ × List ℕ) × LinesLeft) ℕ
line_from number [] = Err number
line_from number (line ∷ lines) =
    if nat_lt most_block_lines number || nat_lt longest_line (length line) then Err number
    else Ok ((number, line), record { number = number + 1; lines = lines })

-- the next line and its number: there must be one, not one too many and not too long
abbrev pub next_line : Reading (ℕ × List ℕ)
next_line = λ left. line_from left.number left.lines

-- the words of a line: one carriage return at its end is dropped
abbrev pub words_in : List ℕ → List (List ℕ)
words_in line = words_of (strip_last 13 line)

-- what a line says, by its words
abbrev pub said : {A : Type 0} → (List (List ℕ) → Option A) → List ℕ → Option A
said meaning line = meaning (words_in line)

-- what the next line says
abbrev pub line : {A : Type 0} → (List (List ℕ) → Option A) → Reading A
line meaning = do
  next ← next_line
  value_or_fault next.0 (said meaning next.1)

abbrev pub end_from : ℕ → List (List ℕ) → Result (Unit {0} × LinesLeft) ℕ
end_from number [] = Ok (tt, record { number = number; lines = [] })
end_from number (line ∷ lines) = Err number

-- there is no further line
abbrev pub no_line : Reading (Unit {0})
no_line = λ left. end_from left.number left.lines

-- all lines of some bytes
abbrev pub all_lines : List ℕ → LinesLeft
all_lines bytes = record { number = 1; lines = lines_of bytes }

-- ---- blocks

-- the map, the request and the certificate of a block
unfoldable pub block : Reading (List Descriptor × Request × CertificateValue)
block = do
  head ← line (name_alone (codes "certificate"))
  entry_count ← line (number_after (codes "map"))
  entries ← times entry_count (line entry_of_words)
  request ← line request_of
  bound_count ← line (number_after (codes "bounds"))
  bounds ← times bound_count (line bound_of)
  answer ← line (number_after (codes "answer"))
  foot ← line (name_alone (codes "end"))
  rest ← no_line
  value (entries, request, record { bounds = bounds; answer = answer })

abbrev pub value_read : {A : Type 0} → Result (A × LinesLeft) ℕ → Result A ℕ
value_read (Ok (x, left)) = Ok x
value_read (Err number) = Err number

-- the map, the request and the certificate that bytes say, or the number of the first line that is
-- not as stated
abbrev pub block_said : List ℕ → Result (List Descriptor × Request × CertificateValue) ℕ
block_said bytes = value_read (block (all_lines bytes))
