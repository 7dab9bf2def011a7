-- Entries that are made by one run after the other are those of the memory map.
use Rattle.std.proofs.Common.{◌≡◌, ℕ, ◌+◌, ◌-◌, ◌*◌, ◌<◌, ◌≤◌, true, false, List, [], ◌∷◌, ◌++◌, length, get_or, take, drop, Some, inl, inr, refl, sym, ap, subst, ◌∙◌, append-nil, length-append, arith, rules}
use Rattle.std.specs.Prelude.{if◌then◌else◌, slice_get}
use Rattle.std.proofs.lemmas.Bool.{cases_Bool, and_parts, eqb-true}
use Rattle.std.proofs.lemmas.List.{take_more, take-append-drop, length-take-le, length-drop}
use Rattle.page_ranges.specs.declared.ranges.Descriptor.{Descriptor}
use Rattle.page_ranges.specs.declared.ranges.Run.{Run}
use Rattle.page_ranges.specs.MemoryMap.{memory_map, should_be_one}
use Rattle.page_ranges.specs.Runs.{pages_of, AreRuns}
use Rattle.descriptor_table.specs.Leaves.{runs_in, AreLeaves}
use Rattle.descriptor_table.specs.Tables.{entry_of, EndBy}
use Rattle.descriptor_table.proofs.LeafLists.{runs_in-append, runs_in-last}
use Rattle.descriptor_table.proofs.EntryRuns.{stretched, entry_to, stretched_first, goes_on_in, ends_before_next, ends_at_last}
use Rattle.page_ranges.specs.MemoryTypes.{page_count}
use Rattle.page_ranges.proofs.RunLists.{run_at, some_pages_at}
use Rattle.map_keys.specs.Making.{entry_with_run, whole_entries, last_entry, IsAmongPages}
use Rattle.map_keys.specs.Records.{record_size, record_of, records}
use Rattle.map_keys.proofs.RecordLists.{records-more, length_records}

-- ---- runs behind others

pub whole-append : (d : Descriptor) (xs ys : List Run) → whole_entries d (xs ++ ys) ≡ whole_entries d xs ++ whole_entries (last_entry d xs) ys
whole-append d [] ys = refl
whole-append d (x ∷ xs) ys =
    elim (should_be_one d (entry_of x)) as (λ c. (if c then whole_entries (entry_with_run d x) (xs ++ ys) else d ∷ whole_entries (entry_of x) (xs ++ ys))
    ≡ (if c then whole_entries (entry_with_run d x) xs else d ∷ whole_entries (entry_of x) xs)
    ++ whole_entries (if c then last_entry (entry_with_run d x) xs else last_entry (entry_of x) xs) ys) [
      | true ↦ whole-append (entry_with_run d x) xs ys
      | false ↦ ap (λ es. d ∷ es) (whole-append (entry_of x) xs ys)
    ]

pub last-append : (d : Descriptor) (xs ys : List Run) → last_entry d (xs ++ ys) ≡ last_entry (last_entry d xs) ys
last-append d [] ys = refl
last-append d (x ∷ xs) ys =
    elim (should_be_one d (entry_of x)) as (λ c. (if c then last_entry (entry_with_run d x) (xs ++ ys) else last_entry (entry_of x) (xs ++ ys))
    ≡ last_entry (if c then last_entry (entry_with_run d x) xs else last_entry (entry_of x) xs) ys) [
      | true ↦ last-append (entry_with_run d x) xs ys
      | false ↦ last-append (entry_of x) xs ys
    ]

-- ---- one run

module _ (d : Descriptor) (r : Run) (rs : List Run) where
  -- that goes on in the entry
  pub whole-on : should_be_one d (entry_of r) ≡ true → whole_entries d (r ∷ rs) ≡ whole_entries (entry_with_run d r) rs
  whole-on t = ap (λ c. if c then whole_entries (entry_with_run d r) rs else d ∷ whole_entries (entry_of r) rs) t

  pub last-on : should_be_one d (entry_of r) ≡ true → last_entry d (r ∷ rs) ≡ last_entry (entry_with_run d r) rs
  last-on t = ap (λ c. if c then last_entry (entry_with_run d r) rs else last_entry (entry_of r) rs) t

  -- or does not
  pub whole-apart : should_be_one d (entry_of r) ≡ false → whole_entries d (r ∷ rs) ≡ d ∷ whole_entries (entry_of r) rs
  whole-apart f = ap (λ c. if c then whole_entries (entry_with_run d r) rs else d ∷ whole_entries (entry_of r) rs) f

  pub last-apart : should_be_one d (entry_of r) ≡ false → last_entry d (r ∷ rs) ≡ last_entry (entry_of r) rs
  last-apart f = ap (λ c. if c then last_entry (entry_with_run d r) rs else last_entry (entry_of r) rs) f

-- ---- all entries

-- those that are whole, and the last
abbrev pub made : Descriptor → List Run → List Descriptor
made d rs = whole_entries d rs ++ last_entry d rs ∷ []

made-on : (d : Descriptor) (r : Run) (rs : List Run) → should_be_one d (entry_of r) ≡ true → made d (r ∷ rs) ≡ made (entry_with_run d r) rs
made-on d r rs t = ap (λ es. es ++ last_entry d (r ∷ rs) ∷ []) (whole-on d r rs t) ∙ ap (λ e. whole_entries (entry_with_run d r) rs ++ e ∷ []) (last-on d r rs t)

made-apart : (d : Descriptor) (r : Run) (rs : List Run) → should_be_one d (entry_of r) ≡ false → made d (r ∷ rs) ≡ d ∷ made (entry_of r) rs
made-apart d r rs f = ap (λ es. es ++ last_entry d (r ∷ rs) ∷ []) (whole-apart d r rs f) ∙ ap (λ e. d ∷ whole_entries (entry_of r) rs ++ e ∷ []) (last-apart d r rs f)

-- an entry that begins as a run does
abbrev pub begun : Run → ℕ → Descriptor
begun r n = record { mtype = r.mtype; first = r.range.first; pages = n; attributes = r.attributes }

-- where the last run of an entry ends, the entry does
same_test : (q r : Run) (d : Descriptor) → q.range.first ≤ r.range.first → q.mtype ≡ r.mtype → q.attributes ≡ r.attributes → should_be_one (entry_to q r) d ≡ should_be_one (entry_of r) d
same_test q r d h m a =
    let end : q.range.first + (r.range.first + r.range.pages - q.range.first) ≡ r.range.first + r.range.pages = omega (arith, h) in
    cc (end, m, a)

made_from : (q last : Run) (rs : List Run) → AreRuns (last ∷ rs) → q.range.first ≤ last.range.first → q.mtype ≡ last.mtype → q.attributes ≡ last.attributes
    → stretched q (memory_map (pages_of (last ∷ rs))) ≡ made (entry_to q last) rs
made_from q last [] a h m t = ends_at_last q last a.0
made_from q last (s ∷ rs) a h m t = elim (cases_Bool (should_be_one (entry_of last) (entry_of s))) [
  | inl one ↦
      let both = and_parts _ _ one in
      let end : last.range.first + last.range.pages ≡ s.range.first = eqb-true _ _ (and_parts _ _ both.0).0 in
      let longer : begun q (last.range.first + last.range.pages - q.range.first + s.range.pages) ≡ entry_to q s = ap (begun q) (omega (arith, h, end)) in
      goes_on_in q last s rs a one
      ∙ made_from q s rs a.2 (omega (arith, h, end)) (m ∙ eqb-true _ _ (and_parts _ _ both.0).1) (t ∙ eqb-true _ _ both.1)
      ∙ ap (λ (e : Descriptor). made e rs) (sym longer)
      ∙ sym (made-on (entry_to q last) s rs (same_test q last (entry_of s) h m t ∙ one))
  | inr apart ↦
      let alone : entry_to s s ≡ entry_of s = ap (begun s) (omega arith) in
      ends_before_next q last s rs a apart
      ∙ ap (λ (es : List Descriptor). entry_to q last ∷ es) (stretched_first s rs a.2 ∙ made_from s s rs a.2 (omega arith) refl refl ∙ ap (λ (e : Descriptor). made e rs) alone)
      ∙ sym (made-apart (entry_to q last) s rs (same_test q last (entry_of s) h m t ∙ apart))
]

-- the map of runs, made from an entry of no pages that begins as the first run does
pub map_made : (r : Run) (rs : List Run) → AreRuns (r ∷ rs) → memory_map (pages_of (r ∷ rs)) ≡ made (begun r 0) (r ∷ rs)
map_made r rs a =
    let one : should_be_one (begun r 0) (entry_of r) ≡ true = search rules in
    let alone : entry_to r r ≡ begun r (0 + r.range.pages) = ap (begun r) (omega arith) in
    stretched_first r rs a ∙ made_from r r rs a (omega arith) refl refl ∙ ap (λ (e : Descriptor). made e rs) alone ∙ sym (made-on (begun r 0) r rs one)

-- ---- the first ones of some runs, and one more

module _ (d : Descriptor) (rs : List Run) (i : ℕ) (r : Run) (h : i < length rs) (e : r ≡ get_or rs i r) where
  more : take (i + 1) rs ≡ take i rs ++ r ∷ []
  more = take_more rs i r h ∙ ap (λ (s : Run). take i rs ++ s ∷ []) (sym e)

  whole_more : whole_entries d (take (i + 1) rs) ≡ whole_entries d (take i rs) ++ whole_entries (last_entry d (take i rs)) (r ∷ [])
  whole_more = ap (whole_entries d) more ∙ whole-append d (take i rs) (r ∷ [])

  last_more : last_entry d (take (i + 1) rs) ≡ last_entry (last_entry d (take i rs)) (r ∷ [])
  last_more = ap (last_entry d) more ∙ last-append d (take i rs) (r ∷ [])

  -- the run goes on in the last entry
  pub whole_more_on : should_be_one (last_entry d (take i rs)) (entry_of r) ≡ true → whole_entries d (take (i + 1) rs) ≡ whole_entries d (take i rs)
  whole_more_on t = whole_more ∙ ap (λ (es : List Descriptor). whole_entries d (take i rs) ++ es) (whole-on (last_entry d (take i rs)) r [] t) ∙ append-nil (whole_entries d (take i rs))

  pub last_more_on : should_be_one (last_entry d (take i rs)) (entry_of r) ≡ true → last_entry d (take (i + 1) rs) ≡ entry_with_run (last_entry d (take i rs)) r
  last_more_on t = last_more ∙ last-on (last_entry d (take i rs)) r [] t

  -- or begins another one
  pub whole_more_apart : should_be_one (last_entry d (take i rs)) (entry_of r) ≡ false → whole_entries d (take (i + 1) rs) ≡ whole_entries d (take i rs) ++ last_entry d (take i rs) ∷ []
  whole_more_apart f = whole_more ∙ ap (λ (es : List Descriptor). whole_entries d (take i rs) ++ es) (whole-apart (last_entry d (take i rs)) r [] f)

  pub last_more_apart : should_be_one (last_entry d (take i rs)) (entry_of r) ≡ false → last_entry d (take (i + 1) rs) ≡ entry_of r
  last_more_apart f = last_more ∙ last-apart (last_entry d (take i rs)) r [] f

-- of more runs at least as many entries are whole
pub whole_within : (d : Descriptor) (rs : List Run) (i : ℕ) → length (whole_entries d (take i rs)) ≤ length (whole_entries d rs)
whole_within d rs i =
    let all = ap (whole_entries d) (sym (take-append-drop i rs)) ∙ whole-append d (take i rs) (drop i rs) in
    omega (arith, ap length all, length-append (whole_entries d (take i rs)) (whole_entries (last_entry d (take i rs)) (drop i rs)))

-- the last entry of the first runs is whole once a run is apart from it
pub some_whole : (d : Descriptor) (rs : List Run) (i : ℕ) (r : Run) (h : i < length rs) (e : r ≡ get_or rs i r) → should_be_one (last_entry d (take i rs)) (entry_of r) ≡ false → length (whole_entries d (take i rs)) < length (whole_entries d rs)
some_whole d rs i r h e f = omega (arith, whole_within d rs (i + 1), ap length (whole_more_apart d rs i r h e f), length-append (whole_entries d (take i rs)) (last_entry d (take i rs) ∷ []))

-- ---- records that are written

pub front_length : (old : List ℕ) (ds : List Descriptor) (n used : ℕ) → used ≡ n + record_size * length ds → n ≤ length old → length (take n old ++ records ds) ≡ used
front_length old ds n used u h = omega (arith, u, length-append (take n old) (records ds), length_records ds, length-take-le n old h)

pub written_length : (old new : List ℕ) (ds : List Descriptor) (n used : ℕ) → new ≡ take n old ++ records ds ++ drop used old → used ≡ n + record_size * length ds → used ≤ length old → length new ≡ length old
written_length old new ds n used e u h = omega (arith, u, h, ap length e, length-append (take n old ++ records ds) (drop used old), front_length old ds n used u (omega (arith, u, h)), length-drop used old)

-- there is room for the record of one more
pub fits_next : (old new : List ℕ) (d : Descriptor) (rs : List Run) (i : ℕ) (r : Run) (n used : ℕ) → i < length rs → r ≡ get_or rs i r → should_be_one (last_entry d (take i rs)) (entry_of r) ≡ false
    → new ≡ take n old ++ records (whole_entries d (take i rs)) ++ drop used old → used ≡ n + record_size * length (whole_entries d (take i rs)) → n + record_size * length (whole_entries d rs) ≤ length old
    → used + record_size ≤ length new
fits_next old new d rs i r n used h e f written u room =
    let some = some_whole d rs i r h e f in
    omega (arith, u, room, some, written_length old new (whole_entries d (take i rs)) n used written u (omega (arith, u, room, some)))

-- ---- among all pages

pub among_on : (d : Descriptor) (rs : List Run) (i : ℕ) (r : Run) → i < length rs → r ≡ get_or rs i r → EndBy page_count rs → IsAmongPages d → should_be_one d (entry_of r) ≡ true → IsAmongPages (entry_with_run d r)
among_on d rs i r h e ends a t =
    let next : d.first + d.pages ≡ r.range.first = eqb-true _ _ (and_parts _ _ (and_parts _ _ t).0).0 in
    let last : r.range.first + r.range.pages ≤ page_count = subst (λ (s : Run). s.range.first + s.range.pages ≤ page_count) (sym e) (run_at (λ s. s.range.first + s.range.pages ≤ page_count) rs i r ends h) in
    (a.0, omega (arith, next, last))

pub among_apart : (rs : List Run) (i : ℕ) (r : Run) → i < length rs → r ≡ get_or rs i r → AreRuns rs → EndBy page_count rs → IsAmongPages (entry_of r)
among_apart rs i r h e runs ends =
    let last : r.range.first + r.range.pages ≤ page_count = subst (λ (s : Run). s.range.first + s.range.pages ≤ page_count) (sym e) (run_at (λ s. s.range.first + s.range.pages ≤ page_count) rs i r ends h) in
    let some : 0 < r.range.pages = subst (λ (s : Run). 0 < s.range.pages) (sym e) (some_pages_at rs i r runs h) in
    (omega (arith, last, some), last)

-- ---- the runs of leaves

begin_with : (ls : List (List Run)) (l : List Run) (r : Run) → slice_get ls 0 ≡ Some l → AreLeaves ls → r ≡ get_or l 0 r → (rs : List Run) × (runs_in ls ≡ r ∷ rs)
begin_with [] l r e a is = absurd cc
begin_with (m ∷ ls) [] r e a is = let same : m ≡ [] = cc in absurd (omega (arith, a.0.0, ap length same))
begin_with (m ∷ ls) (q ∷ l) r e a is =
    let same : m ≡ q ∷ l = cc in
    (l ++ runs_in ls, ap (λ (xs : List Run). xs ++ runs_in ls) same ∙ ap (λ (s : Run). s ∷ l ++ runs_in ls) (sym is))

-- the map of the runs of leaves, of which a run is the first
pub leaves_made : (ls : List (List Run)) (l : List Run) (r : Run) → slice_get ls 0 ≡ Some l → AreLeaves ls → r ≡ get_or l 0 r → AreRuns (runs_in ls) → memory_map (pages_of (runs_in ls)) ≡ made (begun r 0) (runs_in ls)
leaves_made ls l r e a is runs =
    let b = begin_with ls l r e a is in
    ap (λ (rs : List Run). memory_map (pages_of rs)) b.1 ∙ map_made r b.0 (subst AreRuns b.1 runs) ∙ ap (made (begun r 0)) (sym b.1)

-- it begins among all pages
pub leaves_among : (ls : List (List Run)) (l : List Run) (r : Run) → slice_get ls 0 ≡ Some l → AreLeaves ls → r ≡ get_or l 0 r → AreRuns (runs_in ls) → EndBy page_count (runs_in ls) → IsAmongPages (begun r 0)
leaves_among ls l r e a is runs ends =
    let b = begin_with ls l r e a is in
    let some = (subst AreRuns b.1 runs).0 in
    let last = (subst (EndBy page_count) b.1 ends).0 in
    (omega (arith, some, last), omega (arith, some, last))

module _ (d : Descriptor) (ls : List (List Run)) (i : ℕ) (l : List Run) (h : i < length ls) (e : l ≡ get_or ls i l) where
  with_leaf : runs_in (take (i + 1) ls) ≡ runs_in (take i ls) ++ l
  with_leaf = ap runs_in (take_more ls i l h ∙ ap (λ (m : List Run). take i ls ++ m ∷ []) (sym e)) ∙ runs_in-last (take i ls) l

  -- one leaf more
  pub whole_leaf : whole_entries d (runs_in (take (i + 1) ls)) ≡ whole_entries d (runs_in (take i ls)) ++ whole_entries (last_entry d (runs_in (take i ls))) l
  whole_leaf = ap (whole_entries d) with_leaf ∙ whole-append d (runs_in (take i ls)) l

  pub last_leaf : last_entry d (runs_in (take (i + 1) ls)) ≡ last_entry (last_entry d (runs_in (take i ls))) l
  last_leaf = ap (last_entry d) with_leaf ∙ last-append d (runs_in (take i ls)) l

  -- its entries are among those of all leaves
  pub leaf_within : length (whole_entries d (runs_in (take i ls))) + length (whole_entries (last_entry d (runs_in (take i ls))) l) ≤ length (whole_entries d (runs_in ls))
  leaf_within =
      let all = ap runs_in (sym (take-append-drop (i + 1) ls)) ∙ runs_in-append (take (i + 1) ls) (drop (i + 1) ls) in
      let parts = ap (whole_entries d) all ∙ whole-append d (runs_in (take (i + 1) ls)) (runs_in (drop (i + 1) ls)) in
      omega (
        arith,
        ap length parts,
        length-append (whole_entries d (runs_in (take (i + 1) ls))) (whole_entries (last_entry d (runs_in (take (i + 1) ls))) (runs_in (drop (i + 1) ls))),
        ap length whole_leaf,
        length-append (whole_entries d (runs_in (take i ls))) (whole_entries (last_entry d (runs_in (take i ls))) l),
      )

-- all entries are one more than those that are whole
pub made_length : (d : Descriptor) (rs : List Run) → length (made d rs) ≡ length (whole_entries d rs) + 1
made_length d rs = omega (arith, length-append (whole_entries d rs) (last_entry d rs ∷ []))

-- what is written once the last entry is
pub all_written : (old new : List ℕ) (d0 d : Descriptor) (rs : List Run) (ms ws : List Descriptor) (used : ℕ) → ms ≡ made d0 rs → ws ≡ whole_entries d0 rs → d ≡ last_entry d0 rs → used ≡ record_size * length ws
    → new ≡ records ws ++ record_of d ++ drop (used + record_size) old → new ≡ records ms ++ drop (record_size * length ms) old
all_written old new d0 d rs ms ws used m w l u e =
    let is : ws ++ d ∷ [] ≡ ms = ap (λ (es : List Descriptor). es ++ d ∷ []) w ∙ ap (λ (x : Descriptor). whole_entries d0 rs ++ x ∷ []) l ∙ sym m in
    e ∙ ap (λ (ys : List ℕ). ys ++ drop (used + record_size) old) (sym (records-more ws d) ∙ ap records is)
    ∙ ap (λ (n : ℕ). records ms ++ drop n old) (omega (arith, u, ap length is, length-append ws (d ∷ [])))

-- there is room for it
pub last_fits : (old new : List ℕ) (d0 : Descriptor) (rs : List Run) (ms ws : List Descriptor) (used : ℕ) → ms ≡ made d0 rs → ws ≡ whole_entries d0 rs → used ≡ record_size * length ws
    → new ≡ records ws ++ drop used old → record_size * length ms ≤ length old → used + record_size ≤ length new
last_fits old new d0 rs ms ws used m w u e room =
    let more = made_length d0 rs in
    omega (arith, u, ap length m, ap length w, more, room, written_length old new ws 0 used e (omega (arith, u)) (omega (arith, u, ap length m, ap length w, more, room)))
