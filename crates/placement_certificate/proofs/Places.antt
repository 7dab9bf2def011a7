-- Where the best start lies in its entry.
use Rattle.std.proofs.Common.{◌≡◌, ◌⊎◌, ◌↔◌, ℕ, zero, suc, ◌+◌, ◌-◌, ◌%◌, ◌<◌, ◌≤◌, true, false, List, length, Contains, Option, Some, None, inl, inr, true≢false, refl, sym, ◌∙◌, arith}
use Rattle.std.proofs.lemmas.Bool.{cases_lt}
use Rattle.page_ranges.specs.declared.ranges.Descriptor.{Descriptor}
use Rattle.page_ranges.specs.declared.ranges.Owner.TheVariants.{Pages}
use Rattle.page_ranges.specs.MemoryTypes.{page_count, conventional, is_specific_purpose}
use Rattle.page_ranges.specs.Memory.{Page, page_at, page_below, IsProperMemory, IsConventional}
use Rattle.page_ranges.specs.MemoryMap.{memory_map, IsLike, IsIn, IsMaximalBlock}
use Rattle.page_ranges.proofs.Blocks.{entry_is_block, entry_of_page, entry_end}
use Rattle.page_ranges.proofs.WholeGranules.{mod_one}
use Rattle.placement_certificate.specs.declared.certificates.Request.{Request}
use Rattle.placement_certificate.specs.Placement.{IsProperRequest, IsPermittedStart, price, IsBestIn}
use Rattle.placement_certificate.specs.Certificates.{IsTrueLeast}
use Rattle.placement_certificate.specs.Laws.{IsStretch, EndsEntry, IsHighestIn, IsPlace}
use Rattle.placement_certificate.proofs.Edges.{adds-one, adds-none, adds-most, saves-none, good_not_conventional, block_conventional, like_conventional, block_ordinary, like_ordinary, below_is_like}
use Rattle.placement_certificate.proofs.Prices.{price_is}

-- ---- stretches

permitted_in_stretch : (m : List Page) (r : Request) (first stop p : ℕ) → IsStretch m first stop → first ≤ p → p < stop → IsPermittedStart m r p → (p % r.granule ≡ 0) × (p + r.pages ≤ r.limit) × (p + r.pages ≤ stop)
permitted_in_stretch m r first stop p is low high h =
    (h.whole, h.within, elim (cases_lt stop (p + r.pages)) [ inl l ↦ absurd (is.stops (h.conventional stop (omega arith) l, h.ordinary stop (omega arith) l)) | inr g ↦ g ])

stretch_permits : (m : List Page) (r : Request) (first stop p : ℕ) → IsStretch m first stop → first ≤ p → (p % r.granule ≡ 0) × (p + r.pages ≤ r.limit) × (p + r.pages ≤ stop) → IsPermittedStart m r p
stretch_permits m r first stop p is low h = record {
  whole = h.0;
  within = h.1;
  conventional = λ k l u. (is.all k (omega arith) (omega (arith, h.2))).0;
  ordinary = λ k l u. (is.all k (omega arith) (omega (arith, h.2))).1;
}

pub stretch : (m : List Page) (r : Request) (first stop p : ℕ) → IsStretch m first stop → first ≤ p → p < stop → IsPermittedStart m r p ↔ ((p % r.granule ≡ 0) × (p + r.pages ≤ r.limit) × (p + r.pages ≤ stop))
stretch m r first stop p is low high = (permitted_in_stretch m r first stop p is low high, stretch_permits m r first stop p is low)

-- ---- a permitted start

-- no permitted start costs more than this
pub price_most : (m : List Page) (r : Request) (p : ℕ) → IsProperMemory m → IsProperRequest r → IsPermittedStart m r p → price m r p ≤ length (memory_map m) + 2
price_most m r p proper good permitted =
    omega (arith, price_is m r Pages p proper good permitted, adds-most (page_below m p) (page_at m p), adds-most (page_below m (p + r.pages)) (page_at m (p + r.pages)))

-- each page of the range is in an entry
entry_in_range : (m : List Page) (r : Request) (p k : ℕ) → IsPermittedStart m r p → p ≤ k → k < p + r.pages → (b : Descriptor) × Contains (memory_map m) b × IsIn b k
entry_in_range m r p k permitted h l = go (page_at m k) refl (permitted.conventional k h l)
  where
    go : (o : Option Page) → page_at m k ≡ o → IsConventional o → (b : Descriptor) × Contains (memory_map m) b × IsIn b k
    go None q c = absurd c
    go (Some x) q c = entry_of_page m k x q

-- an entry that holds a page of the range is conventional
pub entry_conventional : (m : List Page) (r : Request) (p k : ℕ) (b : Descriptor) → IsMaximalBlock m b → IsIn b k → IsPermittedStart m r p → p ≤ k → k < p + r.pages → b.mtype ≡ conventional
entry_conventional m r p k b is i permitted h l = block_conventional b (page_at m k) (is.all k i) (permitted.conventional k h l)

-- the entry of a permitted start
pub start_entry : (m : List Page) (r : Request) (p : ℕ) → IsProperMemory m → IsProperRequest r → IsPermittedStart m r p → (b : Descriptor) × Contains (memory_map m) b × IsIn b p × (b.mtype ≡ conventional)
start_entry m r p proper good permitted =
    let some = good.some in
    let c = entry_in_range m r p p permitted (omega arith) (omega arith) in
    (c.0, c.1, c.2, entry_conventional m r p p c.0 (entry_is_block m proper.ascending c.0 c.1) c.2 permitted (omega arith) (omega arith))

-- no start in an entry of specific purpose is permitted
pub none_permitted : (m : List Page) (r : Request) (e : Descriptor) → IsProperMemory m → IsProperRequest r → Contains (memory_map m) e → is_specific_purpose e.attributes ≡ true → IsTrueLeast m r e None
none_permitted m r e proper good entry special p i permitted =
    let some = good.some in
    let off = block_ordinary e (page_at m p) ((entry_is_block m proper.ascending e entry).all p i) (permitted.ordinary p (omega arith) (omega arith)) in
    true≢false (sym special ∙ off)

-- ---- an entry with a permitted start

module _ (m : List Page) (r : Request) (e : Descriptor) (p : ℕ) (proper : IsProperMemory m) (good : IsProperRequest r) (entry : Contains (memory_map m) e) (in_entry : IsIn e p) (permitted : IsPermittedStart m r p) where
  is_block : IsMaximalBlock m e
  is_block = entry_is_block m proper.ascending e entry

  free_entry : e.mtype ≡ conventional
  free_entry = let some = good.some in entry_conventional m r p p e is_block in_entry permitted (omega arith) (omega arith)

  ordinary_entry : is_specific_purpose e.attributes ≡ false
  ordinary_entry = let some = good.some in block_ordinary e (page_at m p) (is_block.all p in_entry) (permitted.ordinary p (omega arith) (omega arith))

  -- with a granule of 1 the first page is permitted too
  pub first_permitted : r.granule ≡ 1 → IsPermittedStart m r e.first
  first_permitted one = record {
    whole = rw one (mod_one e.first);
    within = omega (arith, permitted.within, in_entry.low);
    conventional = λ k l h. elim (cases_lt k p) [
      | inl b ↦ like_conventional e (page_at m k) (is_block.all k (record { low = l; high = omega (arith, in_entry.high) })) free_entry
      | inr a ↦ permitted.conventional k a (omega (arith, in_entry.low))
    ];
    ordinary = λ k l h. elim (cases_lt k p) [
      | inl b ↦ like_ordinary e (page_at m k) (is_block.all k (record { low = l; high = omega (arith, in_entry.high) })) ordinary_entry
      | inr a ↦ permitted.ordinary k a (omega (arith, in_entry.low))
    ];
  }

  pub first_price : r.granule ≡ 1 → price m r e.first ≤ length (memory_map m) + 1
  first_price one =
      let some = is_block.some in
      let low = adds-none e (page_below m e.first) (page_at m e.first) is_block.none_below (is_block.all e.first (record { low = omega arith; high = omega arith })) in
      omega (arith, price_is m r Pages e.first proper good (first_permitted one), low, adds-most (page_below m (e.first + r.pages)) (page_at m (e.first + r.pages)))

  -- a start whose two edges are inside entries
  inner_price : (c : Descriptor) → IsMaximalBlock m c → e.first < p → IsIn c (p + r.pages - 1) → p + r.pages < c.first + c.pages → price m r p ≡ length (memory_map m) + 2
  inner_price c is after last more =
      let some = good.some in
      let other = good_not_conventional r.mtype good.good in
      let below : IsLike e (page_below m p) = below_is_like m e p is_block after (omega (arith, in_entry.high)) in
      let high : IsLike c (page_below m (p + r.pages)) = below_is_like m c (p + r.pages) is (omega (arith, last.low)) (omega arith) in
      let above : IsLike c (page_at m (p + r.pages)) = is.all (p + r.pages) (record { low = omega (arith, last.low); high = more }) in
      let free : c.mtype ≡ conventional = entry_conventional m r p (p + r.pages - 1) c is last permitted (omega arith) (omega arith) in
      omega (
        arith,
        price_is m r Pages p proper good permitted,
        adds-one e (page_below m p) (page_at m p) below (is_block.all p in_entry),
        adds-one c (page_below m (p + r.pages)) (page_at m (p + r.pages)) high above,
        saves-none r.mtype (page_below m p) (page_at m p) (like_conventional e _ below free_entry) other,
        saves-none r.mtype (page_at m (p + r.pages)) (page_below m (p + r.pages)) (like_conventional c _ above free) other,
      )

  pub edges : (p ≡ e.first) ⊎ EndsEntry m (p + r.pages) ⊎ (price m r p ≡ length (memory_map m) + 2)
  edges =
      let some = good.some in
      elim (cases_lt e.first p) [
        | inr g ↦ inl (omega (arith, in_entry.low))
        | inl l ↦
            let c = entry_in_range m r p (p + r.pages - 1) permitted (omega arith) (omega arith) in
            elim (cases_lt (p + r.pages) (c.0.first + c.0.pages)) [
              | inr g ↦ inr (inl (c.0, c.1, omega (arith, c.2.high)))
              | inl h ↦ inr (inr (inner_price c.0 (entry_is_block m proper.ascending c.0 c.1) l c.2 h))
            ]
      ]

-- ---- the best start in an entry

pub best_place : (m : List Page) (r : Request) (e : Descriptor) (p : ℕ) → IsProperMemory m → IsProperRequest r → Contains (memory_map m) e → IsBestIn m r e p → IsPlace m r e p
best_place m r e p proper good entry best = elim (edges m r e p proper good entry best.in_entry best.permitted) [
  | inl a ↦ inl a
  | inr (inl b) ↦ inr (inl b)
  | inr (inr c) ↦ inr (inr (λ q i h. best.highest q i h (omega (arith, c, best.lowest q i h, price_most m r q proper good h))))
]

-- the first page is cheaper than a start whose two edges are inside entries
pub best_first_or_end : (m : List Page) (r : Request) (e : Descriptor) (p : ℕ) → r.granule ≡ 1 → IsProperMemory m → IsProperRequest r → Contains (memory_map m) e → IsBestIn m r e p → (p ≡ e.first) ⊎ EndsEntry m (p + r.pages)
best_first_or_end m r e p one proper good entry best = elim (edges m r e p proper good entry best.in_entry best.permitted) [
  | inl a ↦ inl a
  | inr (inl b) ↦ inr b
  | inr (inr c) ↦
      let some = (entry_is_block m proper.ascending e entry).some in
      let first = first_permitted m r e p proper good entry best.in_entry best.permitted one in
      let cheap = first_price m r e p proper good entry best.in_entry best.permitted one in
      absurd (omega (arith, c, cheap, best.lowest e.first (record { low = omega arith; high = omega arith }) first))
]

-- the price of the best start, at most
pub best_price : (m : List Page) (r : Request) (e : Descriptor) (p : ℕ) → IsProperMemory m → IsProperRequest r → Contains (memory_map m) e → IsBestIn m r e p → (price m r p ≤ length (memory_map m) + 2) × (r.granule ≡ 1 → price m r p ≤ length (memory_map m) + 1)
best_price m r e p proper good entry best = (
  price_most m r p proper good best.permitted,
  λ one.
      let some = (entry_is_block m proper.ascending e entry).some in
      let first = first_permitted m r e p proper good entry best.in_entry best.permitted one in
      omega (arith, first_price m r e p proper good entry best.in_entry best.permitted one, best.lowest e.first (record { low = omega arith; high = omega arith }) first),
)

module _ (m : List Page) (r : Request) (e : Descriptor) (p : ℕ) (proper : IsProperMemory m) (good : IsProperRequest r) (entry : Contains (memory_map m) e) (in_entry : IsIn e p) (permitted : IsPermittedStart m r p)
    (tried : (q : ℕ) → IsIn e q → IsPermittedStart m r q → IsPlace m r e q → (price m r p ≤ price m r q) × (price m r q ≡ price m r p → q ≤ p)) where
  none_lower : (q : ℕ) → IsIn e q → IsPermittedStart m r q → price m r p ≤ price m r q
  none_lower q i h = elim (edges m r e q proper good entry i h) [
    | inl a ↦ (tried q i h (inl a)).0
    | inr (inl b) ↦ (tried q i h (inr (inl b))).0
    | inr (inr c) ↦ omega (arith, c, price_most m r p proper good permitted)
  ]

  -- by how many pages the entry goes on above the start
  none_higher : (d q : ℕ) → IsIn e q → IsPermittedStart m r q → e.first + e.pages ≤ q + d → price m r q ≡ price m r p → q ≤ p
  none_higher zero q i h l f = absurd (omega (arith, i.high))
  none_higher (suc d) q i h l f = elim (edges m r e q proper good entry i h) [
    | inl a ↦ (tried q i h (inl a)).1 f
    | inr (inl b) ↦ (tried q i h (inr (inl b))).1 f
    | inr (inr c) ↦ elim (cases_lt p q) [
      | inr g ↦ g
      | inl above ↦
          let top : IsHighestIn m r e q = λ s j k. elim (cases_lt q s) [
            | inr g ↦ g
            | inl over ↦
                let same : price m r s ≡ price m r p = omega (arith, c, f, none_lower s j k, price_most m r s proper good k) in
                absurd (omega (arith, above, over, none_higher d s j k (omega arith) same))
          ] in
          (tried q i h (inr (inr top))).1 f
    ]
  ]

  pub best_candidate : IsBestIn m r e p
  best_candidate = record {
    in_entry = in_entry;
    permitted = permitted;
    lowest = none_lower;
    highest = λ q i h f. none_higher (e.first + e.pages) q i h (omega arith) f;
  }

-- a permitted start ends where page numbers end, at most
pub permitted_end : (m : List Page) (r : Request) (p : ℕ) → IsProperMemory m → IsProperRequest r → IsPermittedStart m r p → p + r.pages ≤ page_count
permitted_end m r p proper good permitted =
    let some = good.some in
    let c = entry_in_range m r p (p + r.pages - 1) permitted (omega arith) (omega arith) in
    omega (arith, c.2.high, entry_end m proper c.0 c.1)
