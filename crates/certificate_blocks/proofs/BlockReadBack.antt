-- The text of a certificate block, read back.
use Rattle.std.proofs.Common.{◌≡◌, ℕ, ◌+◌, ◌^◌, ◌<◌, ◌≤◌, Bool, true, false, nat_lt, ◌&&◌, nat_le, List, [], ◌∷◌, ◌++◌, length, map, Option, Some, None, Ok, codes, inl, inr, refl, sym, ap, ◌∙◌, arith, lt-ltb, ltb-true, leb-true, append_assoc, length-append, lit<, lit≤}
use Rattle.std.specs.List.{AllByRecursion}
use Rattle.std.specs.Fmt.{decimal}
use Rattle.std.proofs.lemmas.List.{length-map, map-append}
use Rattle.std.proofs.lemmas.Fmt.{decimal_step, decimal_by_steps}
use Rattle.page_ranges.specs.declared.ranges.Descriptor.{Descriptor}
use Rattle.page_ranges.specs.Granules.{IsGranule}
use Rattle.placement_certificate.specs.declared.certificates.Request.{Request}
use Rattle.placement_certificate.specs.declared.certificates.Bound.{Bound}
use Rattle.placement_certificate.specs.Certificates.{CertificateValue}
use Rattle.text_lines.specs.Printed.{hexadecimal}
use Rattle.certificate_blocks.specs.BlockText.{entry_words, bound_words, request_words, bound_lines, answer_lines, block_lines, block_text}
use Rattle.certificate_blocks.specs.BlockLines.{type_of_word, number_after, name_alone, entry_of_words, request_of, bound_of}
use Rattle.certificate_blocks.specs.Blocks.{LinesLeft, Reading, ◌>>=◌, and_then, value_read, line, times, most_block_lines, block, block_said}
use Rattle.text_lines.specs.Lines.{lines_of}
use Rattle.certificate_blocks.specs.BlockLaws.{HasEntryNumbers, HasRequestNumbers, HasLeastNumbers, HasBoundNumbers, HasBlockNumbers}
use Rattle.certificate_blocks.proofs.BlockParts.{Parts, after_head, after_entry_count, after_entries, after_request, after_bound_count, after_bounds, after_answer, after_foot}
use Rattle.text_lines.proofs.PrintedNumbers.{IsPlain, decimal_plain, decimal_some, decimal_length, decimal_read, hexadecimal_plain, hexadecimal_length, hexadecimal_read}
use Rattle.certificate_blocks.proofs.PrintedLines.{joined, IsWord, AreWords, text_lines, line_read, times_read}

-- ---- words

decimal_word : (n : ℕ) → n < 2 ^ 64 → IsWord (decimal n)
decimal_word n h = record { plain = decimal_plain n; some = decimal_some n; short = decimal_length n h }

hexadecimal_word : (n : ℕ) → n < 2 ^ 64 → IsWord (hexadecimal n)
hexadecimal_word n h = record { plain = hexadecimal_plain n; some = omega arith; short = hexadecimal_length n h }

wide : (n : ℕ) → n < 2 ^ 32 → n < 2 ^ 64
wide n h = let more : 2 ^ 32 ≤ 2 ^ 64 = lit≤ tt in omega arith

type_read : (n : ℕ) → n < 2 ^ 32 → type_of_word (decimal n) ≡ Some n
type_read n h = rw (decimal_read n (wide n h), lt-ltb n (2 ^ 32) h) refl

abbrev all_plain : List ℕ → Bool
all_plain [] = true
all_plain (b ∷ word) = nat_lt 32 b && all_plain word

plain_more : (b : ℕ) (word : List ℕ) (t : Bool) → nat_lt 32 b ≡ t → (all_plain word ≡ true → IsPlain word) → (t && all_plain word) ≡ true → (32 < b) × IsPlain word
plain_more b word true h f e = (ltb-true 32 b h, f e)
plain_more b word false h f e = absurd (cc)

plain : (word : List ℕ) → all_plain word ≡ true → IsPlain word
plain [] e = tt
plain (b ∷ word) e = plain_more b word (nat_lt 32 b) refl (plain word) e

name_word : (word : List ℕ) → all_plain word ≡ true → nat_lt 0 (length word) ≡ true → nat_le (length word) 20 ≡ true → IsWord word
name_word word p s l = record { plain = plain word p; some = ltb-true 0 (length word) s; short = leb-true (length word) 20 l }

-- ---- lines

-- words that are read as a value
abbrev IsReadAs : {A : Type 0} → (List (List ℕ) → Option A) → List (List ℕ) → A → Type 0
IsReadAs meaning words x = AreWords words × (meaning words ≡ Some x)

entry_fits : (d : Descriptor) → HasEntryNumbers d → IsReadAs entry_of_words (entry_words d) d
entry_fits d h = (
  ((decimal_word d.mtype (wide d.mtype h.mtype), (decimal_word d.first h.first, (decimal_word d.pages h.pages, (hexadecimal_word d.attributes h.attributes, tt)))), lit< tt, lit≤ tt),
  rw (type_read d.mtype h.mtype, decimal_read d.first h.first, decimal_read d.pages h.pages, hexadecimal_read d.attributes h.attributes) refl,
)

one : decimal 1 ≡ codes "1"
one = decimal_by_steps (λ m ds. m ≡ 1 → ds ≡ codes "1") (λ m l e. rw e refl) (λ m ds l h e. absurd (omega arith)) 1 (lit< tt) refl

sixteen : decimal 16 ≡ codes "16"
sixteen = decimal_step 16 (lit≤ tt) (lit< tt) ∙ rw one refl

request_fits_with : (t pages limit granule : ℕ) → t < 2 ^ 32 → pages < 2 ^ 64 → limit < 2 ^ 64 → IsGranule granule →
    IsReadAs request_of (request_words (record { mtype = t; pages = pages; limit = limit; granule = granule })) (record { mtype = t; pages = pages; limit = limit; granule = granule })
request_fits_with t pages limit granule ht hp hl (inl e) = rw e (
  ((name_word (codes "request") refl refl refl, (decimal_word t (wide t ht), (decimal_word pages hp, (decimal_word limit hl, tt)))), lit< tt, lit≤ tt),
  rw (type_read t ht, decimal_read pages hp, decimal_read limit hl) refl,
)
request_fits_with t pages limit granule ht hp hl (inr e) = rw (e, sixteen) (
  ((name_word (codes "request") refl refl refl, (decimal_word t (wide t ht), (decimal_word pages hp, (decimal_word limit hl, (name_word (codes "16") refl refl refl, tt))))), lit< tt, lit≤ tt),
  rw (type_read t ht, decimal_read pages hp, decimal_read limit hl) refl,
)

request_fits : (r : Request) → HasRequestNumbers r → IsReadAs request_of (request_words r) r
request_fits r h = request_fits_with r.mtype r.pages r.limit r.granule h.mtype h.pages h.limit h.granule

bound_fits_with : (first pages : ℕ) (least : Option (ℕ × ℕ)) → first < 2 ^ 64 → pages < 2 ^ 64 → HasLeastNumbers least → IsReadAs bound_of (bound_words (record { first = first; pages = pages; least = least })) (record { first = first; pages = pages; least = least })
bound_fits_with first pages None f p h = (((decimal_word first f, (decimal_word pages p, (name_word (codes "none") refl refl refl, tt))), lit< tt, lit≤ tt), rw (decimal_read first f, decimal_read pages p) refl)
bound_fits_with first pages (Some (count, top)) f p (c, t) = (
  ((decimal_word first f, (decimal_word pages p, (decimal_word count c, (decimal_word top t, tt)))), lit< tt, lit≤ tt),
  rw (decimal_read first f, decimal_read pages p, decimal_read count c, decimal_read top t) refl,
)

bound_fits : (b : Bound) → HasBoundNumbers b → IsReadAs bound_of (bound_words b) b
bound_fits b h = bound_fits_with b.first b.pages b.least h.first h.pages h.least

map_fits : (n : ℕ) → n < 2 ^ 64 → IsReadAs (number_after (codes "map")) (codes "map" ∷ decimal n ∷ []) n
map_fits n h = (((name_word (codes "map") refl refl refl, (decimal_word n h, tt)), lit< tt, lit≤ tt), decimal_read n h)

bounds_fits : (n : ℕ) → n < 2 ^ 64 → IsReadAs (number_after (codes "bounds")) (codes "bounds" ∷ decimal n ∷ []) n
bounds_fits n h = (((name_word (codes "bounds") refl refl refl, (decimal_word n h, tt)), lit< tt, lit≤ tt), decimal_read n h)

answer_fits : (n : ℕ) → n < 2 ^ 64 → IsReadAs (number_after (codes "answer")) (codes "answer" ∷ decimal n ∷ []) n
answer_fits n h = (((name_word (codes "answer") refl refl refl, (decimal_word n h, tt)), lit< tt, lit≤ tt), decimal_read n h)

head_fits : IsReadAs (name_alone (codes "certificate")) (codes "certificate" ∷ []) tt
head_fits = (((name_word (codes "certificate") refl refl refl, tt), lit< tt, lit≤ tt), refl)

foot_fits : IsReadAs (name_alone (codes "end")) (codes "end" ∷ []) tt
foot_fits = (((name_word (codes "end") refl refl refl, tt), lit< tt, lit≤ tt), refl)

-- ---- all lines

each : {X : Type 0} (P Q : X → Type 0) → ((x : X) → P x → Q x) → (xs : List X) → AllByRecursion P xs → AllByRecursion Q xs
each P Q f [] a = tt
each P Q f (x ∷ xs) a = (f x a.0, each P Q f xs a.1)

all_mapped : {X Y : Type 0} (P : Y → Type 0) (f : X → Y) (xs : List X) → AllByRecursion (λ x. P (f x)) xs → AllByRecursion P (map f xs)
all_mapped P f [] a = tt
all_mapped P f (x ∷ xs) a = (a.0, all_mapped P f xs a.1)

all_append : {X : Type 0} (P : X → Type 0) (xs ys : List X) → AllByRecursion P xs → AllByRecursion P ys → AllByRecursion P (xs ++ ys)
all_append P [] ys a b = b
all_append P (x ∷ xs) ys a b = (a.0, all_append P xs ys a.1 b)

module _ (entries : List Descriptor) (r : Request) (c : CertificateValue) (h : HasBlockNumbers entries r c) (few : length (block_lines entries r c) ≤ most_block_lines) where
  total : length entries + length c.bounds + 6 ≤ most_block_lines
  total =
      omega (
        arith,
        few,
        length-append (map entry_words entries ++ (request_words r ∷ bound_lines c.bounds)) (answer_lines c.answer),
        length-append (map entry_words entries) (request_words r ∷ bound_lines c.bounds),
        length-map entries entry_words,
        length-map c.bounds bound_words,
      )

  entry_count_fits : length entries < 2 ^ 64
  entry_count_fits = let more : most_block_lines < 2 ^ 64 = lit< tt in omega (arith, total)

  bound_count_fits : length c.bounds < 2 ^ 64
  bound_count_fits = let more : most_block_lines < 2 ^ 64 = lit< tt in omega (arith, total)

  entries_read : AllByRecursion (λ d. IsReadAs entry_of_words (entry_words d) d) entries
  entries_read = each HasEntryNumbers (λ d. IsReadAs entry_of_words (entry_words d) d) entry_fits entries h.entries_fit

  bounds_read : AllByRecursion (λ b. IsReadAs bound_of (bound_words b) b) c.bounds
  bounds_read = each HasBoundNumbers (λ b. IsReadAs bound_of (bound_words b) b) bound_fits c.bounds h.bounds_fit

  abbrev tail_lines : List (List ℕ)
  tail_lines = joined (codes "answer" ∷ decimal c.answer ∷ []) ∷ joined (codes "end" ∷ []) ∷ []

  abbrev bound_part : List (List ℕ)
  bound_part = map joined (map bound_words c.bounds) ++ tail_lines

  abbrev request_part : List (List ℕ)
  request_part = joined (request_words r) ∷ joined (codes "bounds" ∷ decimal (length c.bounds) ∷ []) ∷ bound_part

  abbrev entry_part : List (List ℕ)
  entry_part = map joined (map entry_words entries) ++ request_part

  all_lines : map joined (block_lines entries r c) ≡ joined (codes "certificate" ∷ []) ∷ joined (codes "map" ∷ decimal (length entries) ∷ []) ∷ entry_part
  all_lines =
      let one = map-append joined (map entry_words entries ++ (request_words r ∷ bound_lines c.bounds)) (answer_lines c.answer) in
      let two = map-append joined (map entry_words entries) (request_words r ∷ bound_lines c.bounds) in
      let three = append_assoc (map joined (map entry_words entries)) (map joined (request_words r ∷ bound_lines c.bounds)) tail_lines in
      ap (λ (ls : List (List ℕ)). joined (codes "certificate" ∷ []) ∷ joined (codes "map" ∷ decimal (length entries) ∷ []) ∷ ls) (one ∙ ap (λ (ls : List (List ℕ)). ls ++ tail_lines) two ∙ three)

  all_words : AllByRecursion AreWords (block_lines entries r c)
  all_words =
      let es = all_mapped AreWords entry_words entries (each (λ d. IsReadAs entry_of_words (entry_words d) d) (λ d. AreWords (entry_words d)) (λ d k. k.0) entries entries_read) in
      let bs = all_mapped AreWords bound_words c.bounds (each (λ b. IsReadAs bound_of (bound_words b) b) (λ b. AreWords (bound_words b)) (λ b k. k.0) c.bounds bounds_read) in
      let middle = all_append AreWords (map entry_words entries) (request_words r ∷ bound_lines c.bounds) es ((request_fits r h.request_fits).0, ((bounds_fits (length c.bounds) bound_count_fits).0, bs)) in (
        head_fits.0,
        ((map_fits (length entries) entry_count_fits).0, all_append AreWords (map entry_words entries ++ (request_words r ∷ bound_lines c.bounds)) (answer_lines c.answer) middle ((answer_fits c.answer h.answer_fits).0, (foot_fits.0, tt))),
      )

  lines : lines_of (block_text entries r c) ≡ joined (codes "certificate" ∷ []) ∷ joined (codes "map" ∷ decimal (length entries) ∷ []) ∷ entry_part
  unfolding block_text
  lines = text_lines (block_lines entries r c) all_words ∙ all_lines

  -- where the reading is after each part
  abbrev at : ℕ → List (List ℕ) → LinesLeft
  at number rest = record { number = number; lines = rest }

  abbrev n3 : ℕ
  n3 = 3 + length entries

  abbrev n5 : ℕ
  n5 = n3 + 1 + 1 + length c.bounds

  step : {A : Type 0} (first : Reading A) (next : A → Reading Parts) (s t : LinesLeft) (x : A) → first s ≡ Ok (x, t) → (first >>= next) s ≡ next x t
  step first next s t x e = ap (and_then next) e

  parts_read : block (at 1 (joined (codes "certificate" ∷ []) ∷ joined (codes "map" ∷ decimal (length entries) ∷ []) ∷ entry_part)) ≡ Ok ((entries, r, c), at (n5 + 1 + 1) [])
  unfolding block
  parts_read =
      step (line (name_alone (codes "certificate"))) after_head (at 1 (joined (codes "certificate" ∷ []) ∷ joined (codes "map" ∷ decimal (length entries) ∷ []) ∷ entry_part)) (at 2 (joined (codes "map" ∷ decimal (length entries) ∷ []) ∷ entry_part)) tt
      (line_read (name_alone (codes "certificate")) (codes "certificate" ∷ []) tt 1 (joined (codes "map" ∷ decimal (length entries) ∷ []) ∷ entry_part) head_fits.0 head_fits.1 (lit≤ tt))
      ∙ step (line (number_after (codes "map"))) after_entry_count (at 2 (joined (codes "map" ∷ decimal (length entries) ∷ []) ∷ entry_part)) (at 3 entry_part) (length entries)
      (line_read (number_after (codes "map")) (codes "map" ∷ decimal (length entries) ∷ []) (length entries) 2 entry_part (map_fits (length entries) entry_count_fits).0 (map_fits (length entries) entry_count_fits).1 (lit≤ tt))
      ∙ step (times (length entries) (line entry_of_words)) after_entries (at 3 entry_part) (at n3 request_part) entries
      (times_read entry_of_words entries entry_words 3 request_part entries_read (omega (arith, total)))
      ∙ step (line request_of) (after_request entries) (at n3 request_part) (at (n3 + 1) (joined (codes "bounds" ∷ decimal (length c.bounds) ∷ []) ∷ bound_part)) r
      (line_read request_of (request_words r) r n3 (joined (codes "bounds" ∷ decimal (length c.bounds) ∷ []) ∷ bound_part) (request_fits r h.request_fits).0 (request_fits r h.request_fits).1 (omega (arith, total)))
      ∙ step (line (number_after (codes "bounds"))) (after_bound_count entries r) (at (n3 + 1) (joined (codes "bounds" ∷ decimal (length c.bounds) ∷ []) ∷ bound_part)) (at (n3 + 1 + 1) bound_part) (length c.bounds)
      (line_read (number_after (codes "bounds")) (codes "bounds" ∷ decimal (length c.bounds) ∷ []) (length c.bounds) (n3 + 1) bound_part (bounds_fits (length c.bounds) bound_count_fits).0 (bounds_fits (length c.bounds) bound_count_fits).1 (omega (arith, total)))
      ∙ step (times (length c.bounds) (line bound_of)) (after_bounds entries r) (at (n3 + 1 + 1) bound_part) (at n5 tail_lines) c.bounds
      (times_read bound_of c.bounds bound_words (n3 + 1 + 1) tail_lines bounds_read (omega (arith, total)))
      ∙ step (line (number_after (codes "answer"))) (after_answer entries r c.bounds) (at n5 tail_lines) (at (n5 + 1) (joined (codes "end" ∷ []) ∷ [])) c.answer
      (line_read (number_after (codes "answer")) (codes "answer" ∷ decimal c.answer ∷ []) c.answer n5 (joined (codes "end" ∷ []) ∷ []) (answer_fits c.answer h.answer_fits).0 (answer_fits c.answer h.answer_fits).1 (omega (arith, total)))
      ∙ step (line (name_alone (codes "end"))) (after_foot entries r c.bounds c.answer) (at (n5 + 1) (joined (codes "end" ∷ []) ∷ [])) (at (n5 + 1 + 1) []) tt
      (line_read (name_alone (codes "end")) (codes "end" ∷ []) tt (n5 + 1) [] foot_fits.0 foot_fits.1 (omega (arith, total)))

  whole : block_said (block_text entries r c) ≡ Ok (entries, r, c)
  whole = ap (λ (ls : List (List ℕ)). value_read (block (at 1 ls))) lines ∙ ap value_read parts_read

pub read_back : (entries : List Descriptor) (r : Request) (c : CertificateValue) → HasBlockNumbers entries r c → length (block_lines entries r c) ≤ most_block_lines → block_said (block_text entries r c) ≡ Ok (entries, r, c)
read_back entries r c h few = whole entries r c h few
