-- The best start so far, as one start after the other is tried.
use Rattle.std.proofs.Common.{◌≡◌, ◌⊎◌, ℕ, ◌+◌, ◌<◌, ◌≤◌, List, [], ◌∷◌, ◌++◌, Option, Some, None, inl, inr, refl, sym, ap, subst, arith}
use Rattle.std.proofs.lemmas.Bool.{cases_eq, cases_lt, cases_order, lt-ltb, le-ltb, ne_eqb, eq-eqb}
use Rattle.page_ranges.specs.declared.ranges.Descriptor.{Descriptor}
use Rattle.page_ranges.specs.Memory.{Page}
use Rattle.page_ranges.specs.MemoryMap.{IsIn}
use Rattle.page_ranges.proofs.Members.{member_first, member_left, member_right, all_implied, all_append}
use Rattle.placement_certificate.specs.declared.certificates.Request.{Request}
use Rattle.placement_certificate.specs.declared.certificates.Bound.{Bound}
use Rattle.placement_certificate.specs.Placement.{IsPermittedStart, price}
use Rattle.placement_certificate.specs.Certificates.{IsTrueLeast}
use Rattle.placement_certificate.specs.Laws.{IsNoWorse}
use Rattle.placement_certificate.specs.Search.{better, IsBestOf}

-- ---- the better of two

abbrev pub Second : ℕ → ℕ → ℕ → ℕ → Type 0
Second c t d u = (better (Some (c, t)) (Some (d, u)) ≡ Some (d, u)) × (d ≤ c) × (d ≡ c → t < u)

abbrev pub First : ℕ → ℕ → ℕ → ℕ → Type 0
First c t d u = (better (Some (c, t)) (Some (d, u)) ≡ Some (c, t)) × (c ≤ d) × (d ≡ c → u ≤ t)

pub better_cases : (c t d u : ℕ) → Second c t d u ⊎ First c t d u
better_cases c t d u = elim (cases_order d c) [
  | inl e ↦ elim (cases_lt t u) [
    | inl l ↦ inl (rw (le-ltb d c (omega arith), eq-eqb d c e, lt-ltb t u l) refl, omega arith, λ f. l)
    | inr g ↦ inr (rw (le-ltb d c (omega arith), eq-eqb d c e, le-ltb t u g) refl, omega arith, λ f. g)
  ]
  | inr (inl l) ↦ inl (rw (lt-ltb d c l) refl, omega arith, λ f. omega arith)
  | inr (inr g) ↦ inr (rw (le-ltb d c (omega arith), ne_eqb d c (omega arith)) refl, omega arith, λ f. omega arith)
]

-- ---- one start more of an entry

-- the entry's first pages
abbrev pub first_pages : ℕ → Descriptor → Descriptor
first_pages k e = record e { pages = k }

pub none_tried : (m : List Page) (r : Request) (e : Descriptor) (k : ℕ) → k ≡ 0 → IsTrueLeast m r (first_pages k e) None
none_tried m r e k z p i h = omega (arith, i.low, i.high)

-- the start is not permitted
pub start_passed : (m : List Page) (r : Request) (e : Descriptor) (k j p : ℕ) (l : Option (ℕ × ℕ)) → p ≡ e.first + k → j ≡ k + 1 → ¬ IsPermittedStart m r p → IsTrueLeast m r (first_pages k e) l → IsTrueLeast m r (first_pages j e) l
start_passed m r e k j p l at more n s = go l s
  where
    before : (q : ℕ) → IsIn (first_pages j e) q → IsPermittedStart m r q → IsIn (first_pages k e) q
    before q i h = elim (cases_eq q p) [
      | inl f ↦ absurd (n (subst (IsPermittedStart m r) f h))
      | inr d ↦ record { low = i.low; high = omega (arith, i.high) }
    ]

    go : (o : Option (ℕ × ℕ)) → IsTrueLeast m r (first_pages k e) o → IsTrueLeast m r (first_pages j e) o
    go None t = λ q i h. t q (before q i h) h
    go (Some (count, top)) t = (
      record {
        in_entry = record { low = t.0.in_entry.low; high = omega (arith, t.0.in_entry.high) };
        permitted = t.0.permitted;
        lowest = λ q i h. t.0.lowest q (before q i h) h;
        highest = λ q i h f. t.0.highest q (before q i h) h f;
      },
      t.1,
    )

-- the start is permitted
pub start_tried : (m : List Page) (r : Request) (e : Descriptor) (k j p count : ℕ) (l : Option (ℕ × ℕ)) → p ≡ e.first + k → j ≡ k + 1 → IsPermittedStart m r p → count ≡ price m r p → IsTrueLeast m r (first_pages k e) l →
    IsTrueLeast m r (first_pages j e) (better l (Some (count, p)))
start_tried m r e k j p count l at more permitted paid s = go l s
  where
    split : (q : ℕ) → IsIn (first_pages j e) q → (q ≡ p) ⊎ IsIn (first_pages k e) q
    split q i = elim (cases_eq q p) [
      | inl f ↦ inl f
      | inr d ↦ inr (record { low = i.low; high = omega (arith, i.high) })
    ]

    here : IsIn (first_pages j e) p
    here = record { low = omega arith; high = omega arith }

    go : (o : Option (ℕ × ℕ)) → IsTrueLeast m r (first_pages k e) o → IsTrueLeast m r (first_pages j e) (better o (Some (count, p)))
    go None t = (
      record {
        in_entry = here;
        permitted = permitted;
        lowest = λ q i h. elim (split q i) [ inl f ↦ omega (arith, ap (price m r) f) | inr b ↦ absurd (t q b h) ];
        highest = λ q i h f. elim (split q i) [ inl g ↦ omega arith | inr b ↦ absurd (t q b h) ];
      },
      sym paid,
    )
    go (Some (c, u)) t = elim (better_cases c u count p) [
      | inl new ↦ rw new.0 (
        record {
          in_entry = here;
          permitted = permitted;
          lowest = λ q i h. elim (split q i) [ inl f ↦ omega (arith, ap (price m r) f) | inr b ↦ omega (arith, t.0.lowest q b h, t.1, new.1) ];
          highest = λ q i h f. omega (arith, i.high);
        },
        sym paid,
      )
      | inr old ↦
          let less : c < count = elim (cases_lt c count) [ inl l ↦ l | inr g ↦ absurd (omega (arith, old.2 (omega (arith, old.1)), t.0.in_entry.high)) ] in
          rw old.0 (
            record {
              in_entry = record { low = t.0.in_entry.low; high = omega (arith, t.0.in_entry.high) };
              permitted = t.0.permitted;
              lowest = λ q i h. elim (split q i) [ inl f ↦ omega (arith, ap (price m r) f, t.1) | inr b ↦ t.0.lowest q b h ];
              highest = λ q i h f. elim (split q i) [ inl g ↦ absurd (omega (arith, ap (price m r) g, t.1, f)) | inr b ↦ t.0.highest q b h f ];
            },
            t.1,
          )
    ]

-- ---- one bound more

no_worse_than_none : (count top : ℕ) (l : Option (ℕ × ℕ)) → l ≡ None → IsNoWorse count top l
no_worse_than_none count top l e = subst (IsNoWorse count top) (sym e) tt

still_no_worse : (c t d u : ℕ) → d ≤ c → (c ≡ d → t ≤ u) → (l : Option (ℕ × ℕ)) → IsNoWorse c t l → IsNoWorse d u l
still_no_worse c t d u h g None n = tt
still_no_worse c t d u h g (Some (x, y)) n = (omega (arith, n.0), λ e. omega (arith, n.0, n.1 (omega (arith, n.0)), g (omega (arith, n.0))))

-- ---- the best of some bounds

pub none_bounded : IsBestOf None []
none_bounded = tt

pub bound_more : (x l : Option (ℕ × ℕ)) (bs : List Bound) (b : Bound) → b.least ≡ l → IsBestOf x bs → IsBestOf (better x l) (bs ++ b ∷ [])
bound_more None None bs b e s = all_append (λ d. d.least ≡ None) bs (b ∷ []) s (e, tt)
bound_more None (Some (d, u)) bs b e s = (
  (b, member_right bs (b ∷ []) b (member_first b []), e),
  all_append (λ z. IsNoWorse d u z.least) bs (b ∷ []) (all_implied (λ z. z.least ≡ None) (λ z. IsNoWorse d u z.least) (λ z f. no_worse_than_none d u z.least f) bs s) (subst (IsNoWorse d u) (sym e) (omega arith, λ f. omega arith), tt),
)
bound_more (Some (c, t)) None bs b e s = (
  (s.0.0, member_left bs (b ∷ []) s.0.0 s.0.1, s.0.2),
  all_append (λ z. IsNoWorse c t z.least) bs (b ∷ []) s.1 (no_worse_than_none c t b.least e, tt),
)
bound_more (Some (c, t)) (Some (d, u)) bs b e s = elim (better_cases c t d u) [
  | inl new ↦ rw new.0 (
    (b, member_right bs (b ∷ []) b (member_first b []), e),
    all_append (λ z. IsNoWorse d u z.least) bs (b ∷ []) (all_implied (λ z. IsNoWorse c t z.least) (λ z. IsNoWorse d u z.least) (λ z n. still_no_worse c t d u new.1 (λ f. let g = new.2 (sym f) in omega arith) z.least n) bs s.1)
        (subst (IsNoWorse d u) (sym e) (omega arith, λ f. omega arith), tt),
  )
  | inr old ↦ rw old.0 (
    (s.0.0, member_left bs (b ∷ []) s.0.0 s.0.1, s.0.2),
    all_append (λ z. IsNoWorse c t z.least) bs (b ∷ []) s.1 (subst (IsNoWorse c t) (sym e) (old.1, old.2), tt),
  )
]
