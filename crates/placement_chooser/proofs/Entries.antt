-- The entries so far, and their bounds.
use Rattle.std.proofs.Common.{◌≡◌, ◌≤◌, ℕ, refl, zero, suc, true, eqb, filter, List, [], ◌∷◌, ◌++◌, length, Contains, Option, Some, None, inl, inr, sym, ap, subst, ◌∙◌, arith}
use Rattle.std.specs.List.{AllZip}
use Rattle.std.proofs.lemmas.Bool.{cases_Bool, eqb-true}
use Rattle.std.proofs.lemmas.List.{append-nil}
use Rattle.std.proofs.lemmas.List.Sums.{length-filter, count_by-le-length}
use Rattle.page_ranges.specs.declared.ranges.Descriptor.{Descriptor}
use Rattle.page_ranges.specs.MemoryTypes.{conventional}
use Rattle.page_ranges.specs.Memory.{Page, page_below}
use Rattle.page_ranges.specs.MemoryMap.{memory_map}
use Rattle.page_ranges.proofs.Members.{member_first, member_later, member_right, member_cases, member_none}
use Rattle.descriptor_table.specs.Tables.{IsBlockBelow}
use Rattle.placement_certificate.specs.declared.certificates.Bound.{Bound}
use Rattle.placement_certificate.specs.Certificates.{conventional_entries}
use Rattle.placement_certificate.specs.Search.{IsOnPage}
use Rattle.placement_certificate.proofs.BlockStarts.{on_page}

-- a conventional one of some entries
pub kept_entry : (es : List Descriptor) (e : Descriptor) → Contains (filter (λ d. eqb d.mtype conventional) es) e → Contains es e × (e.mtype ≡ conventional)
kept_entry [] e c = absurd (member_none e c)
kept_entry (d ∷ es) e c = elim (cases_Bool (eqb d.mtype conventional)) [
  | inl t ↦ elim (member_cases d (filter (λ x. eqb x.mtype conventional) es) e (rw t at c)) [
    | inl same ↦ (subst (λ x. Contains (d ∷ es) x) same (member_first d es), ap (λ x. x.mtype) (sym same) ∙ eqb_is d t)
    | inr later ↦ let k = kept_entry es e later in (member_later d es e k.0, k.1)
  ]
  | inr f ↦ let k = kept_entry es e (rw f at c) in (member_later d es e k.0, k.1)
]
  where
    eqb_is : (x : Descriptor) → eqb x.mtype conventional ≡ true → x.mtype ≡ conventional
    eqb_is x t = eqb-true x.mtype conventional t

-- the first entry that is left is a conventional one of the map
pub first_left : (m : List Page) (front left rest : List Descriptor) (e : Descriptor) → front ++ left ≡ conventional_entries m → left ≡ e ∷ rest → Contains (memory_map m) e × (e.mtype ≡ conventional)
first_left m front left rest e all parts = kept_entry (memory_map m) e (subst (λ es. Contains es e) (ap (λ es. front ++ es) (sym parts) ∙ all) (member_right front (e ∷ rest) e (member_first e rest)))

-- one bound more
pub zip_more : (R : Descriptor → Bound → Type 0) (es : List Descriptor) (bs : List Bound) (e : Descriptor) (b : Bound) → AllZip R es bs → R e b → AllZip R (es ++ e ∷ []) (bs ++ b ∷ [])
zip_more R [] [] e b z s = (s, tt)
zip_more R [] (c ∷ bs) e b z s = absurd z
zip_more R (d ∷ es) [] e b z s = absurd z
zip_more R (d ∷ es) (c ∷ bs) e b z s = (z.0, zip_more R es bs e b z.1 s)

-- the bounds of all entries
pub all_bounded : (R : Descriptor → Bound → Type 0) (ys es all : List Descriptor) (bs : List Bound) → es ≡ [] → ys ++ es ≡ all → AllZip R ys bs → AllZip R all bs
all_bounded R ys es all bs empty same z = subst (λ ds. AllZip R ds bs) (sym (append-nil ys) ∙ ap (λ ds. ys ++ ds) (sym empty) ∙ same) z

-- the map has no fewer entries than conventional ones
pub few_conventional : (m : List Page) → length (conventional_entries m) ≤ length (memory_map m)
few_conventional m = omega (arith, length-filter (λ e. eqb e.mtype conventional) (memory_map m), count_by-le-length (λ e. eqb e.mtype conventional) (memory_map m))

pub below_page : (m : List Page) (k : ℕ) (o : Option Descriptor) → IsBlockBelow m k o → IsOnPage o (page_below m k)
below_page m zero None z = refl
below_page m zero (Some b) z = cc
below_page m (suc k) o z = on_page m k o z
