-- The records of lists of entries.
use Rattle.std.proofs.Common.{◌≡◌, ℕ, ◌*◌, List, [], ◌∷◌, ◌++◌, length, take, drop, refl, sym, ap, ◌∙◌, append_assoc, length-append, arith, Some, None}
use Rattle.std.specs.List.{AllByRecursion}
use Rattle.std.proofs.lemmas.Grind.{flat_map-append}
use Rattle.std.proofs.lemmas.List.{append-nil}
use Rattle.std.proofs.Math.Seq.{take-append_seam, drop-append_seam}
use Rattle.page_ranges.specs.declared.ranges.Descriptor.{Descriptor}
use Rattle.map_keys.specs.Records.{record_size, record_of, records, IsRecordEntry, ReadBackLaw}
use Rattle.map_keys.proofs.Spelling.{same_entry}

-- one record more
pub records-more : (ds : List Descriptor) (d : Descriptor) → records (ds ++ d ∷ []) ≡ records ds ++ record_of d
records-more ds d = flat_map-append record_of ds (d ∷ []) ∙ ap (λ (ys : List ℕ). records ds ++ ys) (append-nil (record_of d))

pub length_records : (ds : List Descriptor) → length (records ds) ≡ record_size * length ds
length_records [] = refl
length_records (d ∷ ds) = omega (arith, length-append (record_of d) (records ds), length_records ds)

-- two lists that begin with a record each
firsts : (x y : List ℕ) (xs ys : List ℕ) → length x ≡ record_size → length y ≡ record_size → x ++ xs ≡ y ++ ys → (x ≡ y) × (xs ≡ ys)
firsts x y xs ys h k e = (
  sym (take-append_seam x xs) ∙ ap (λ (n : ℕ). take n (x ++ xs)) (h ∙ sym k) ∙ ap (take (length y)) e ∙ take-append_seam y ys,
  sym (drop-append_seam x xs) ∙ ap (λ (n : ℕ). drop n (x ++ xs)) (h ∙ sym k) ∙ ap (drop (length y)) e ∙ drop-append_seam y ys,
)

-- among the records of entries, a piece of that size behind some of them is the record of one
pub record_behind : (es ds : List Descriptor) (chunk rest : List ℕ) → length chunk ≡ record_size → AllByRecursion IsRecordEntry ds → records ds ≡ records es ++ chunk ++ rest → (d : Descriptor) × IsRecordEntry d × (record_of d ≡ chunk)
record_behind [] [] chunk rest h all e = absurd (omega (arith, h, length-append chunk rest, ap length e))
record_behind [] (d ∷ ds) chunk rest h all e = (d, all.0, (firsts (record_of d) chunk (records ds) rest refl h e).0)
record_behind (f ∷ es) [] chunk rest h all e = absurd (omega (arith, h, length-append (record_of f) (records es), length-append (records (f ∷ es)) chunk, length-append (records (f ∷ es) ++ chunk) rest, ap length e))
record_behind (f ∷ es) (d ∷ ds) chunk rest h all e =
    let split : record_of f ++ records es ++ chunk ++ rest ≡ record_of f ++ (records es ++ chunk ++ rest) =
    ap (λ (ys : List ℕ). ys ++ rest) (append_assoc (record_of f) (records es) chunk) ∙ append_assoc (record_of f) (records es ++ chunk) rest in
    record_behind es ds chunk rest h all.1 (firsts (record_of d) (record_of f) (records ds) (records es ++ chunk ++ rest) refl refl (e ∙ split)).1

-- entries that have the same records are the same
pub same_entries : (ds es : List Descriptor) → AllByRecursion IsRecordEntry ds → AllByRecursion IsRecordEntry es → records ds ≡ records es → ds ≡ es
same_entries [] [] a b e = refl
same_entries [] (f ∷ es) a b e = absurd (omega (arith, length-append (record_of f) (records es), ap length e))
same_entries (d ∷ ds) [] a b e = absurd (omega (arith, length-append (record_of d) (records ds), ap length e))
same_entries (d ∷ ds) (f ∷ es) a b e =
    let both = firsts (record_of d) (record_of f) (records ds) (records es) refl refl e in
    let first = same_entry d f a.0 b.0 both.0 in
    let others = same_entries ds es a.1 b.1 both.1 in
    λ i. first i ∷ others i

pub read_back : ReadBackLaw
read_back ds None all reads = absurd (reads ds all refl)
read_back ds (Some es) all reads = ap Some (same_entries es ds reads.0 all reads.1)
