-- The search over the starts of each entry.
use Rattle.std.proofs.Common.{◌≡◌, ◌↔◌, ℕ, ◌+◌, ◌<◌, ◌≤◌, Bool, true, false, eqb, List, [], ◌∷◌, ◌++◌, length, get_or, take, drop, filter, Contains, Option, Some, inl, inr, refl, sym, ap, subst, ◌∙◌}
use Rattle.std.specs.List.{AllZip}
use Rattle.std.proofs.lemmas.Bool.{cases_Bool}
use Rattle.std.proofs.lemmas.List.{at_drop_more, take_all, take_more, append-nil}
use Rattle.page_ranges.specs.declared.ranges.Descriptor.{Descriptor}
use Rattle.page_ranges.specs.declared.ranges.Run.{Run}
use Rattle.page_ranges.specs.MemoryTypes.{page_count, conventional, is_specific_purpose}
use Rattle.page_ranges.specs.Memory.{Page, page_at, IsProperMemory}
use Rattle.page_ranges.specs.MemoryMap.{memory_map}
use Rattle.page_ranges.specs.Runs.{page_in, pages_of, AreRuns}
use Rattle.page_ranges.proofs.Blocks.{entry_end}
use Rattle.page_ranges.proofs.Members.{all_implied}
use Rattle.page_ranges.proofs.RunLists.{page_at-held, page_at-not_held, IsProperRun, proper_runs}
use Rattle.placement_certificate.specs.declared.certificates.Request.{Request}
use Rattle.placement_certificate.specs.declared.certificates.Bound.{Bound}
use Rattle.placement_certificate.specs.Placement.{IsAvailable}
use Rattle.placement_certificate.specs.Certificates.{IsTrueLeast, conventional_entries}
use Rattle.plain_search.specs.RunsBy.{AreRunsBy}
use Rattle.placement_certificate.proofs.Tries.{first_pages}

-- ---- the run that holds a page

pub not_in_run : (rs : List Run) (i k : ℕ) (r : Run) → i < length rs → r ≡ get_or rs i r → (r.range.first ≤ k → r.range.first + r.range.pages ≤ k) → page_at (pages_of (drop (i + 1) rs)) k ≡ page_at (pages_of (drop i rs)) k
not_in_run rs i k r h is out =
    sym (at_drop_more (λ ss. page_at (pages_of ss) k) rs i r h ∙ ap (λ s. page_at (pages_of (s ∷ drop (i + 1) rs)) k) (sym is) ∙ page_at-not_held r (drop (i + 1) rs) k out)

pub in_run : (rs : List Run) (i k : ℕ) (r : Run) → i < length rs → r ≡ get_or rs i r → r.range.first ≤ k → k < r.range.first + r.range.pages → page_at (pages_of (drop i rs)) k ≡ Some (page_in k r)
in_run rs i k r h is low high =
    at_drop_more (λ ss. page_at (pages_of ss) k) rs i r h ∙ ap (λ s. page_at (pages_of (s ∷ drop (i + 1) rs)) k) (sym is) ∙ page_at-held r (drop (i + 1) rs) k (record { low = low; high = high })

-- a page of a run is available just where the run is conventional and of no specific purpose
pub available_in_run : (m : List Page) (k : ℕ) (r : Run) → page_at m k ≡ Some (page_in k r) → ((r.mtype ≡ conventional) × (is_specific_purpose r.attributes ≡ false)) ↔ IsAvailable (page_at m k)
available_in_run m k r found = (λ h. subst IsAvailable (sym found) h, λ h. subst IsAvailable found h)

-- ---- runs of a proper memory

pub runs_by : (rs : List Run) → AreRuns rs → IsProperMemory (pages_of rs) → AreRunsBy page_count rs
runs_by rs a proper = record { order = a; ends = all_implied IsProperRun (λ s. s.range.first + s.range.pages ≤ page_count) (λ s is. is.within) rs (proper_runs rs a proper) }

pub entry_within : (m : List Page) (es : List Descriptor) (i : ℕ) (e : Descriptor) → IsProperMemory m → es ≡ memory_map m → i < length es → e ≡ get_or es i e → e.first + e.pages ≤ page_count
entry_within m es i e proper same h is = entry_end m proper e (subst (λ ds. Contains ds e) same (i, h, sym is))

-- ---- the starts of an entry

pub all_tried : (m : List Page) (r : Request) (e : Descriptor) (k : ℕ) (l : Option (ℕ × ℕ)) → k ≡ e.pages → IsTrueLeast m r (first_pages k e) l → IsTrueLeast m r e l
all_tried m r e k l h s = subst (λ n. IsTrueLeast m r (first_pages n e) l) h s

-- ---- the entries so far

abbrev is_free_entry : Descriptor → Bool
is_free_entry e = eqb e.mtype conventional

filter-append : (es fs : List Descriptor) → filter is_free_entry (es ++ fs) ≡ filter is_free_entry es ++ filter is_free_entry fs
filter-append [] fs = refl
filter-append (e ∷ es) fs = elim (cases_Bool (is_free_entry e)) [
  | inl t ↦ rw t (ap (λ ds. e ∷ ds) (filter-append es fs))
  | inr f ↦ rw f (filter-append es fs)
]

entries_more : (es : List Descriptor) (i : ℕ) (e : Descriptor) → i < length es → e ≡ get_or es i e → filter is_free_entry (take (i + 1) es) ≡ filter is_free_entry (take i es) ++ filter is_free_entry (e ∷ [])
entries_more es i e h is = ap (filter is_free_entry) (take_more es i e h ∙ ap (λ d. take i es ++ d ∷ []) (sym is)) ∙ filter-append (take i es) (e ∷ [])

zip_more : (R : Descriptor → Bound → Type 0) (es : List Descriptor) (bs : List Bound) (e : Descriptor) (b : Bound) → AllZip R es bs → R e b → AllZip R (es ++ e ∷ []) (bs ++ b ∷ [])
zip_more R [] [] e b z s = (s, tt)
zip_more R [] (c ∷ bs) e b z s = absurd z
zip_more R (d ∷ es) [] e b z s = absurd z
zip_more R (d ∷ es) (c ∷ bs) e b z s = (z.0, zip_more R es bs e b z.1 s)

-- an entry that is not conventional gets no bound
pub entry_passed : (R : Descriptor → Bound → Type 0) (es : List Descriptor) (i : ℕ) (e : Descriptor) (bs : List Bound) → i < length es → e ≡ get_or es i e → is_free_entry e ≡ false → AllZip R (filter is_free_entry (take i es)) bs →
    AllZip R (filter is_free_entry (take (i + 1) es)) bs
entry_passed R es i e bs h is f z =
    let one : filter is_free_entry (e ∷ []) ≡ [] = rw f refl in
    subst (λ ds. AllZip R ds bs) (sym (entries_more es i e h is ∙ ap (λ ds. filter is_free_entry (take i es) ++ ds) one ∙ append-nil (filter is_free_entry (take i es)))) z

pub entry_bounded : (R : Descriptor → Bound → Type 0) (es : List Descriptor) (i : ℕ) (e : Descriptor) (bs : List Bound) (b : Bound) → i < length es → e ≡ get_or es i e → is_free_entry e ≡ true → AllZip R (filter is_free_entry (take i es)) bs → R e b →
    AllZip R (filter is_free_entry (take (i + 1) es)) (bs ++ b ∷ [])
entry_bounded R es i e bs b h is t z s =
    let one : filter is_free_entry (e ∷ []) ≡ e ∷ [] = rw t refl in
    subst (λ ds. AllZip R ds (bs ++ b ∷ [])) (sym (entries_more es i e h is ∙ ap (λ ds. filter is_free_entry (take i es) ++ ds) one)) (zip_more R (filter is_free_entry (take i es)) bs e b z s)

-- the bounds of all entries
pub all_bounded : (m : List Page) (R : Descriptor → Bound → Type 0) (es : List Descriptor) (i : ℕ) (bs : List Bound) → length es ≤ i → es ≡ memory_map m → AllZip R (filter is_free_entry (take i es)) bs → AllZip R (conventional_entries m) bs
all_bounded m R es i bs h same z = subst (λ ds. AllZip R (filter is_free_entry ds) bs) (take_all i es h ∙ same) z
