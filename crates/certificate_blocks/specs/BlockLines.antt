-- What a certificate block's lines say, by their words.
use Rattle.std.specs.Prelude.{ℕ, ◌^◌, nat_lt, List, [], ◌∷◌, codes, Option, Some, None, if◌then◌else◌}
use Rattle.std.specs.Str.{bytes_eq}
use Rattle.page_ranges.specs.declared.ranges.Descriptor.{Descriptor}
use Rattle.placement_certificate.specs.declared.certificates.Request.{Request}
use Rattle.placement_certificate.specs.declared.certificates.Bound.{Bound}
use Rattle.text_lines.specs.Numbers.{number_of}

-- the first that is missing, or the last value
infixl 10 ◌>>=◌
abbrev pub ◌>>=◌ : {A B : Type 0} → Option A → (A → Option B) → Option B
None >>= f = None
(Some x) >>= f = f x

-- the number that a word writes, below 2^32
abbrev pub type_of_word : List ℕ → Option ℕ
type_of_word word = do
  n ← number_of word
  if nat_lt n (2 ^ 32) then Some n else None

-- the word is this name
abbrev pub named : List ℕ → List ℕ → Option (Unit {0})
named name word = if bytes_eq word name then Some tt else None

-- `NAME`
abbrev pub name_alone : List ℕ → List (List ℕ) → Option (Unit {0})
name_alone name (word ∷ []) = named name word
name_alone name words = None

-- `NAME NUMBER`
abbrev pub number_after : List ℕ → List (List ℕ) → Option ℕ
number_after name (word ∷ number ∷ []) = do
  same ← named name word
  number_of number
number_after name words = None

-- `TYPE FIRST PAGES ATTRIBUTES`, an entry of the map
abbrev pub entry_of_words : List (List ℕ) → Option Descriptor
entry_of_words (mtype ∷ first ∷ pages ∷ attributes ∷ []) = do
  t ← type_of_word mtype
  f ← number_of first
  p ← number_of pages
  a ← number_of attributes
  Some (record { mtype = t; first = f; pages = p; attributes = a })
entry_of_words words = None

-- the request of these words, with a granule
abbrev pub request_with : List ℕ → List ℕ → List ℕ → List ℕ → ℕ → Option Request
request_with word mtype pages limit granule = do
  same ← named (codes "request") word
  t ← type_of_word mtype
  p ← number_of pages
  l ← number_of limit
  Some (record { mtype = t; pages = p; limit = l; granule = granule })

-- `request TYPE PAGES LIMIT`, where the granule is a page, or `request TYPE PAGES LIMIT 16`
abbrev pub request_of : List (List ℕ) → Option Request
request_of (word ∷ mtype ∷ pages ∷ limit ∷ []) = request_with word mtype pages limit 1
request_of (word ∷ mtype ∷ pages ∷ limit ∷ granule ∷ []) = do
  same ← named (codes "16") granule
  request_with word mtype pages limit 16
request_of words = None

-- `FIRST PAGES COUNT TOP`, a bound with the lowest price and the highest start at it, or `FIRST
-- PAGES none`
abbrev pub bound_of : List (List ℕ) → Option Bound
bound_of (first ∷ pages ∷ count ∷ top ∷ []) = do
  f ← number_of first
  p ← number_of pages
  c ← number_of count
  t ← number_of top
  Some (record { first = f; pages = p; least = Some (c, t) })
bound_of (first ∷ pages ∷ word ∷ []) = do
  f ← number_of first
  p ← number_of pages
  same ← named (codes "none") word
  Some (record { first = f; pages = p; least = None })
bound_of words = None
