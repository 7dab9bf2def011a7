-- What the numbers in the bytes of a record say of it.
use Rattle.std.proofs.Common.{◌≡◌, ℕ, zero, suc, ◌+◌, ◌*◌, ◌<◌, ◌≤◌, List, [], ◌∷◌, ◌++◌, length, take, drop, get_or, sym, ap, subst, ◌∙◌, arith}
use Rattle.std.proofs.lemmas.List.{get_or-drop, length-drop, length-take-le, take_all}
use Rattle.std.proofs.lemmas.Nat.{le_bytes_4, le_bytes_8}
use Rattle.std.proofs.Math.Seq.{take-add}
use Rattle.byteorder.specs.Endian.{little_bytes, little_number}
use Rattle.byteorder.specs.Numbers.{little_from-take, little_number-reads_back}
use Rattle.page_ranges.specs.declared.ranges.Descriptor.{Descriptor}
use Rattle.page_ranges.specs.MemoryTypes.{page_size}
use Rattle.map_keys.specs.Records.{record_size, record_of, IsRecordEntry}

abbrev pub AreBytes : List ℕ → Type 0
AreBytes xs = (i : ℕ) → get_or xs i 0 < 256

bytes-take : (n : ℕ) (xs : List ℕ) → AreBytes xs → AreBytes (take n xs)
bytes-take zero xs a i = omega arith
bytes-take (suc n) [] a i = omega arith
bytes-take (suc n) (x ∷ xs) a zero = a 0
bytes-take (suc n) (x ∷ xs) a (suc i) = bytes-take n xs (λ j. a (suc j)) i

pub bytes-drop : (n : ℕ) (xs : List ℕ) → AreBytes xs → AreBytes (drop n xs)
bytes-drop n xs a i = omega (arith, get_or-drop n xs i 0, a (n + i))

-- the bytes of the number in the first bytes are these
number-bytes_4 : (xs : List ℕ) → 4 ≤ length xs → AreBytes xs → little_bytes 4 (little_number 4 xs) ≡ take 4 xs
number-bytes_4 xs h a =
    le_bytes_4 (take 4 xs) (little_number 4 xs) (length-take-le 4 xs h) (bytes-take 4 xs a) (sym (little_from-take 0 4 4 xs (omega arith)) ∙ omega arith)

number-bytes_8 : (xs : List ℕ) → 8 ≤ length xs → AreBytes xs → little_bytes 8 (little_number 8 xs) ≡ take 8 xs
number-bytes_8 xs h a =
    le_bytes_8 (take 8 xs) (little_number 8 xs) (length-take-le 8 xs h) (bytes-take 8 xs a) (sym (little_from-take 0 8 8 xs (omega arith)) ∙ omega arith)

-- a field of 4 or 8 bytes at an index, behind those before it
spelled_4 : (xs front : List ℕ) (at : ℕ) → at + 4 ≤ length xs → AreBytes xs → front ≡ take at xs → front ++ little_bytes 4 (little_number 4 (drop at xs)) ≡ take (at + 4) xs
spelled_4 xs front at h a e =
    ap (λ (ys : List ℕ). ys ++ little_bytes 4 (little_number 4 (drop at xs))) e
    ∙ ap (λ (ys : List ℕ). take at xs ++ ys) (number-bytes_4 (drop at xs) (omega (arith, length-drop at xs)) (bytes-drop at xs a))
    ∙ sym (take-add at 4 xs)

spelled_8 : (xs front : List ℕ) (at : ℕ) → at + 8 ≤ length xs → AreBytes xs → front ≡ take at xs → front ++ little_bytes 8 (little_number 8 (drop at xs)) ≡ take (at + 8) xs
spelled_8 xs front at h a e =
    ap (λ (ys : List ℕ). ys ++ little_bytes 8 (little_number 8 (drop at xs))) e
    ∙ ap (λ (ys : List ℕ). take at xs ++ ys) (number-bytes_8 (drop at xs) (omega (arith, length-drop at xs)) (bytes-drop at xs a))
    ∙ sym (take-add at 8 xs)

-- the numbers in the bytes are those of the record of an entry
pub record AreFields (xs : List ℕ) (d : Descriptor) : Type 0 where
  pub mtype : little_number 4 xs ≡ d.mtype
  pub padding : little_number 4 (drop 4 xs) ≡ 0
  pub start : little_number 8 (drop 8 xs) ≡ d.first * page_size
  pub virtual_start : little_number 8 (drop 16 xs) ≡ 0
  pub pages : little_number 8 (drop 24 xs) ≡ d.pages
  pub attributes : little_number 8 (drop 32 xs) ≡ d.attributes
  pub more : little_number 8 (drop 40 xs) ≡ 0

-- then the bytes are that record
pub fields_spell : (xs : List ℕ) (d : Descriptor) → length xs ≡ record_size → AreBytes xs → AreFields xs d → record_of d ≡ xs
fields_spell xs d h a f =
    let f1 : little_bytes 4 d.mtype ≡ take 4 xs = ap (little_bytes 4) (sym f.mtype) ∙ number-bytes_4 xs (omega (arith, h)) a in
    let f2 : little_bytes 4 d.mtype ++ little_bytes 4 0 ≡ take 8 xs = ap (λ (k : ℕ). little_bytes 4 d.mtype ++ little_bytes 4 k) (sym f.padding) ∙ spelled_4 xs _ 4 (omega (arith, h)) a f1 in
    let f3 = ap (λ (k : ℕ). little_bytes 4 d.mtype ++ little_bytes 4 0 ++ little_bytes 8 k) (sym f.start) ∙ spelled_8 xs _ 8 (omega (arith, h)) a f2 in
    let f4 = ap (λ (k : ℕ). little_bytes 4 d.mtype ++ little_bytes 4 0 ++ little_bytes 8 (d.first * page_size) ++ little_bytes 8 k) (sym f.virtual_start) ∙ spelled_8 xs _ 16 (omega (arith, h)) a f3 in
    let f5 = ap (λ (k : ℕ). little_bytes 4 d.mtype ++ little_bytes 4 0 ++ little_bytes 8 (d.first * page_size) ++ little_bytes 8 0 ++ little_bytes 8 k) (sym f.pages) ∙ spelled_8 xs _ 24 (omega (arith, h)) a f4 in
    let f6 = ap (λ (k : ℕ). little_bytes 4 d.mtype ++ little_bytes 4 0 ++ little_bytes 8 (d.first * page_size) ++ little_bytes 8 0 ++ little_bytes 8 d.pages ++ little_bytes 8 k) (sym f.attributes) ∙ spelled_8 xs _ 32 (omega (arith, h)) a f5 in
    let f7 = ap (λ (k : ℕ). little_bytes 4 d.mtype ++ little_bytes 4 0 ++ little_bytes 8 (d.first * page_size) ++ little_bytes 8 0 ++ little_bytes 8 d.pages ++ little_bytes 8 d.attributes ++ little_bytes 8 k) (sym f.more) ∙ spelled_8 xs _ 40 (omega (arith, h)) a f6 in
    f7 ∙ take_all 48 xs (omega (arith, h))

-- the numbers of a record
fields_of : (d : Descriptor) → IsRecordEntry d → AreFields (record_of d) d
fields_of d is = record {
  mtype = little_number-reads_back 4 d.mtype (drop 4 (record_of d)) (omega (arith, is.mtype));
  padding = little_number-reads_back 4 0 (drop 8 (record_of d)) (omega arith);
  start = little_number-reads_back 8 (d.first * page_size) (drop 16 (record_of d)) (omega (arith, is.some, is.within));
  virtual_start = little_number-reads_back 8 0 (drop 24 (record_of d)) (omega arith);
  pages = little_number-reads_back 8 d.pages (drop 32 (record_of d)) (omega (arith, is.within));
  attributes = little_number-reads_back 8 d.attributes (drop 40 (record_of d)) (omega (arith, is.attributes));
  more = little_number-reads_back 8 0 [] (omega arith);
}

pub fields_in : (xs : List ℕ) (d : Descriptor) → IsRecordEntry d → record_of d ≡ xs → AreFields xs d
fields_in xs d is e = subst (λ (ys : List ℕ). AreFields ys d) e (fields_of d is)

-- two entries of one record are one
pub same_entry : (d e : Descriptor) → IsRecordEntry d → IsRecordEntry e → record_of d ≡ record_of e → d ≡ e
same_entry d e is is' same =
    let f = fields_of d is in
    let g = fields_in (record_of d) e is' (sym same) in
    let mtype : d.mtype ≡ e.mtype = sym f.mtype ∙ g.mtype in
    let first : d.first ≡ e.first = omega (arith, f.start, g.start) in
    let pages : d.pages ≡ e.pages = sym f.pages ∙ g.pages in
    let attributes : d.attributes ≡ e.attributes = sym f.attributes ∙ g.attributes in
    λ i. record { mtype = mtype i; first = first i; pages = pages i; attributes = attributes i }
