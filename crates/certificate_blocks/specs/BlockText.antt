-- The text of a certificate block.
use Rattle.std.specs.Prelude.{ℕ, ◌==◌, if◌then◌else◌, List, [], ◌∷◌, ◌++◌, length, map, flat_map, codes, Option, Some, None}
use Rattle.std.specs.Fmt.{decimal}
use Rattle.page_ranges.specs.declared.ranges.Descriptor.{Descriptor}
use Rattle.placement_certificate.specs.declared.certificates.Request.{Request}
use Rattle.placement_certificate.specs.declared.certificates.Bound.{Bound}
use Rattle.placement_certificate.specs.Certificates.{CertificateValue}
use Rattle.text_lines.specs.Printed.{hexadecimal, space, line_feed}

-- the words of a map entry's line: its type, its first page, its pages and its attributes
abbrev pub entry_words : Descriptor → List (List ℕ)
entry_words d = decimal d.mtype ∷ decimal d.first ∷ decimal d.pages ∷ hexadecimal d.attributes ∷ []

-- what a bound's line says of the starts in its entry: the lowest price and the highest start at
-- it, or that there is none
abbrev pub least_words : Option (ℕ × ℕ) → List (List ℕ)
least_words (Some (count, top)) = decimal count ∷ decimal top ∷ []
least_words None = codes "none" ∷ []

-- the words of a bound's line: the entry's first page and its pages, and what is said of its starts
abbrev pub bound_words : Bound → List (List ℕ)
bound_words b = decimal b.first ∷ decimal b.pages ∷ least_words b.least

-- the words of the lines that say the map
abbrev pub map_lines : List Descriptor → List (List (List ℕ))
map_lines entries = (codes "map" ∷ decimal (length entries) ∷ []) ∷ map entry_words entries

-- what a request's line says of its granule: nothing where it is a page
abbrev pub granule_words : ℕ → List (List ℕ)
granule_words granule = if granule == 1 then [] else decimal granule ∷ []

-- the words of the request's line
abbrev pub request_words : Request → List (List ℕ)
request_words r =
    codes "request" ∷ decimal r.mtype ∷ decimal r.pages ∷ decimal r.limit ∷ granule_words r.granule

-- the words of the lines that say the bounds
abbrev pub bound_lines : List Bound → List (List (List ℕ))
bound_lines bounds = (codes "bounds" ∷ decimal (length bounds) ∷ []) ∷ map bound_words bounds

-- the words of the lines that say the answer, and that end the block
abbrev pub answer_lines : ℕ → List (List (List ℕ))
answer_lines answer = (codes "answer" ∷ decimal answer ∷ []) ∷ (codes "end" ∷ []) ∷ []

-- the words of each line of a block
abbrev pub block_lines : List Descriptor → Request → CertificateValue → List (List (List ℕ))
block_lines entries r c =
    (codes "certificate" ∷ []) ∷ map_lines entries ++ (request_words r ∷ bound_lines c.bounds)
    ++ answer_lines c.answer

-- words as a line, with single spaces between them
abbrev pub printed_line : List (List ℕ) → List ℕ
printed_line [] = line_feed
printed_line (word ∷ []) = word ++ line_feed
printed_line (word ∷ next ∷ words) = word ++ space ++ printed_line (next ∷ words)

-- the text of a block
unfoldable pub block_text : List Descriptor → Request → CertificateValue → List ℕ
block_text entries r c = flat_map printed_line (block_lines entries r c)
