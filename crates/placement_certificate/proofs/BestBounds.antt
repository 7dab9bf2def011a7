-- The best start of all, by the best start of each entry.
use Rattle.std.proofs.Common.{◌≡◌, ℕ, ◌≤◌, List, [], ◌∷◌, filter, Contains, Option, Some, None, eqb, inl, inr, true≢false, sym, ap, subst, ◌∙◌, arith}
use Rattle.std.specs.List.{AllZip, AllByRecursion}
use Rattle.std.proofs.lemmas.Bool.{cases_Bool, eq-eqb}
use Rattle.page_ranges.specs.declared.ranges.Descriptor.{Descriptor}
use Rattle.page_ranges.specs.MemoryTypes.{conventional}
use Rattle.page_ranges.specs.Memory.{Page, IsProperMemory}
use Rattle.page_ranges.specs.MemoryMap.{memory_map, IsIn}
use Rattle.page_ranges.proofs.Members.{member_first, member_later, member_cases, member_none, member_all}
use Rattle.placement_certificate.specs.declared.certificates.Request.{Request}
use Rattle.placement_certificate.specs.declared.certificates.Bound.{Bound}
use Rattle.placement_certificate.specs.Placement.{IsProperRequest, IsPermittedStart, price, IsBestStart}
use Rattle.placement_certificate.specs.Certificates.{IsTrueLeast, IsTrueBound, conventional_entries}
use Rattle.placement_certificate.specs.Laws.{IsNoWorse}
use Rattle.placement_certificate.proofs.Places.{start_entry}

-- a conventional entry stays where others are left out
pub conventional_kept : (es : List Descriptor) (e : Descriptor) → e.mtype ≡ conventional → Contains es e → Contains (filter (λ d. eqb d.mtype conventional) es) e
conventional_kept [] e q h = absurd (member_none e h)
conventional_kept (d ∷ es) e q h = elim (cases_Bool (eqb d.mtype conventional)) [
  | inl t ↦ elim (member_cases d es e h) [
    | inl s ↦ rw t (subst (λ x. Contains (x ∷ filter (λ y. eqb y.mtype conventional) es) e) (sym s) (member_first e _))
    | inr l ↦ rw t (member_later d _ e (conventional_kept es e q l))
  ]
  | inr f ↦ elim (member_cases d es e h) [
    | inl s ↦ absurd (true≢false (sym (eq-eqb d.mtype conventional (ap (λ x. x.mtype) s ∙ q)) ∙ f))
    | inr l ↦ rw f (conventional_kept es e q l)
  ]
]

-- the partner of a member of two lists that go in step
pub bound_of : (R : Descriptor → Bound → Type 0) (es : List Descriptor) (bs : List Bound) (e : Descriptor) → AllZip R es bs → Contains es e → (b : Bound) × Contains bs b × R e b
bound_of R [] bs e z h = absurd (member_none e h)
bound_of R (d ∷ es) [] e z h = absurd z
bound_of R (d ∷ es) (b ∷ bs) e z h = elim (member_cases d es e h) [
  | inl s ↦ (b, member_first b bs, subst (λ x. R x b) s z.0)
  | inr l ↦ let t = bound_of R es bs e z.1 l in (t.0, member_later b bs t.0 t.1, t.2)
]

pub entry_of : (R : Descriptor → Bound → Type 0) (es : List Descriptor) (bs : List Bound) (b : Bound) → AllZip R es bs → Contains bs b → (e : Descriptor) × R e b
entry_of R [] [] b z h = absurd (member_none b h)
entry_of R [] (c ∷ bs) b z h = absurd z
entry_of R (d ∷ es) [] b z h = absurd z
entry_of R (d ∷ es) (c ∷ bs) b z h = elim (member_cases c bs b h) [
  | inl s ↦ (d, subst (R d) s z.0)
  | inr l ↦ entry_of R es bs b z.1 l
]

module _ (m : List Page) (r : Request) (bs : List Bound) (proper : IsProperMemory m) (good : IsProperRequest r) (bounds : AllZip (IsTrueBound m r) (conventional_entries m) bs) where
  -- each permitted start is in an entry that has a bound
  bounded : (p : ℕ) → IsPermittedStart m r p → (b : Bound) × Contains bs b × ((e : Descriptor) × IsIn e p × IsTrueBound m r e b)
  bounded p h =
      let e = start_entry m r p proper good h in
      let b = bound_of (IsTrueBound m r) (conventional_entries m) bs e.0 bounds (conventional_kept (memory_map m) e.0 e.3 e.1) in
      (b.0, b.1, (e.0, e.2, b.2))

  against : (count top p : ℕ) (e : Descriptor) (l : Option (ℕ × ℕ)) → IsTrueLeast m r e l → IsNoWorse count top l → IsIn e p → IsPermittedStart m r p → (count ≤ price m r p) × (price m r p ≡ count → p ≤ top)
  against count top p e None s n i h = absurd (s p i h)
  against count top p e (Some (c, t)) s n i h =
      let low = s.0.lowest p i h in
      (omega (arith, n.0, low, s.1), λ f. let same : c ≡ count = omega (arith, n.0, low, s.1) in omega (arith, n.1 same, s.0.highest p i h (f ∙ sym same ∙ sym s.1)))

  pub best_bound : (b : Bound) (count top : ℕ) → Contains bs b → b.least ≡ Some (count, top) → AllByRecursion (λ c. IsNoWorse count top c.least) bs → IsBestStart m r top
  best_bound b count top h q all =
      let e = entry_of (IsTrueBound m r) (conventional_entries m) bs b bounds h in
      let s : IsTrueLeast m r e.0 (Some (count, top)) = subst (IsTrueLeast m r e.0) q e.1.least in
      let each = λ (p : ℕ) (k : IsPermittedStart m r p). let d = bounded p k in against count top p d.2.0 d.0.least d.2.2.least (member_all (λ c. IsNoWorse count top c.least) bs d.0 all d.1) d.2.1 k in
      record {
        permitted = s.0.permitted;
        lowest = λ p k. omega (arith, (each p k).0, s.1);
        highest = λ p k f. (each p k).1 (f ∙ s.1);
      }

  pub no_bound : AllByRecursion (λ c. c.least ≡ None) bs → (p : ℕ) → ¬ IsPermittedStart m r p
  no_bound none p h =
      let d = bounded p h in
      let s : IsTrueLeast m r d.2.0 None = subst (IsTrueLeast m r d.2.0) (member_all (λ c. c.least ≡ None) bs d.0 none d.1) d.2.2.least in
      s p d.2.1 h
