-- The best start in an available entry behind which no available page lies, where the granule is 1.
use Rattle.std.proofs.Common.{◌≡◌, ◌≢◌, ℕ, ◌+◌, ◌-◌, ◌%◌, ◌<◌, ◌≤◌, min, List, length, Contains, Some, None, inl, inr, refl, sym, subst, arith}
use Rattle.std.proofs.lemmas.Bool.{cases_lt}
use Rattle.page_ranges.specs.declared.ranges.Descriptor.{Descriptor}
use Rattle.page_ranges.specs.declared.ranges.Owner.TheVariants.{Pages}
use Rattle.page_ranges.specs.MemoryTypes.{page_count, conventional}
use Rattle.page_ranges.specs.Memory.{Page, page_at, page_below, IsProperMemory}
use Rattle.page_ranges.specs.Granules.{rounded}
use Rattle.page_ranges.specs.MemoryMap.{memory_map, IsIn, IsMaximalBlock}
use Rattle.page_ranges.proofs.Blocks.{entry_is_block}
use Rattle.page_ranges.proofs.WholeGranules.{mod_one, rounded_one}
use Rattle.placement_certificate.specs.declared.certificates.Request.{Request}
use Rattle.placement_certificate.specs.Placement.{IsProperRequest, IsPermittedStart, IsAvailable, price}
use Rattle.placement_certificate.specs.Certificates.{IsTrueLeast}
use Rattle.placement_certificate.specs.Laws.{EndsEntry, adds, saves}
use Rattle.placement_certificate.specs.Search.{better, IsTried, IsOnPage, PermitsUpTo, IsAvailableBlock}
use Rattle.placement_certificate.proofs.BlockStarts.{few_in_map, inside_block}
use Rattle.placement_certificate.proofs.Edges.{adds-none, adds-none_above, adds-one, saves-none, good_not_conventional, below_is_like, like_conventional}
use Rattle.placement_certificate.proofs.FoundStarts.{IsTop, tried_if, least_found}
use Rattle.placement_certificate.proofs.FreeStretches.{entry_free, permits_up_to, none_fits}
use Rattle.placement_certificate.proofs.Places.{edges}
use Rattle.placement_certificate.proofs.Prices.{price_is}
use Rattle.placement_certificate.proofs.Tries.{better_cases}

module _ (m : List Page) (r : Request) (e : Descriptor) (n : ℕ) (one : r.granule ≡ 1) (proper : IsProperMemory m) (good : IsProperRequest r) (entries : n ≡ length (memory_map m)) (entry : Contains (memory_map m) e) (free : IsAvailableBlock e) (behind : ¬ IsAvailable (page_at m (e.first + e.pages))) where
  abbrev end : ℕ
  end = e.first + e.pages

  -- what the entry's edges save
  abbrev pub low_saved : ℕ
  low_saved = saves r.mtype (page_below m e.first) (page_at m e.first)

  abbrev pub high_saved : ℕ
  high_saved = saves r.mtype (page_at m end) (page_below m end)

  block : IsMaximalBlock m e
  block = entry_is_block m proper.ascending e entry

  pub few : n ≤ page_count
  few = omega (arith, entries, few_in_map m proper)

  -- each page may be a start
  whole : (p : ℕ) → p % r.granule ≡ 0
  whole p = rw one (mod_one p)

  first_whole : rounded e.first r.granule ≡ e.first
  first_whole = rw one (rounded_one e.first)

  pub permits : PermitsUpTo m r e (min end r.limit)
  permits = permits_up_to m r e end (min end r.limit) (record { within = omega arith; stretch = record { all = entry_free m e proper entry free; stops = behind } }) refl

  pub none_fit : (e.first + r.pages ≤ min end r.limit → ⊥) → IsTrueLeast m r e None
  none_fit out = none_fits m r e (min end r.limit) good permits (subst (λ k. k + r.pages ≤ min end r.limit → ⊥) (sym first_whole) out)

  -- blocks with the pages at the entry's edges
  pub first_on : IsOnPage (Some e) (page_at m e.first)
  first_on = let some = block.some in block.all e.first (record { low = omega arith; high = omega arith })

  pub last_on : IsOnPage (Some e) (page_below m end)
  last_on = let some = block.some in below_is_like m e end block (omega arith) (omega arith)

  permitted : (p : ℕ) → IsIn e p → p + r.pages ≤ min end r.limit → IsPermittedStart m r p
  permitted p i by = (permits p i).1 (whole p, by)

  other : r.mtype ≢ conventional
  other = good_not_conventional r.mtype good.good

  low_adds : adds (page_below m e.first) (page_at m e.first) ≡ 0
  low_adds = adds-none e (page_below m e.first) (page_at m e.first) block.none_below first_on

  high_adds : adds (page_below m end) (page_at m end) ≡ 0
  high_adds = adds-none_above e (page_below m end) (page_at m end) last_on block.none_above

  high_edge : (k : ℕ) → k ≡ end → (adds (page_below m k) (page_at m k) ≡ 0) × (saves r.mtype (page_at m k) (page_below m k) ≡ high_saved)
  high_edge k at = rw at (high_adds, refl)

  -- an edge inside the entry
  inner_adds : (k : ℕ) → e.first < k → k < end → adds (page_below m k) (page_at m k) ≡ 1
  inner_adds k l h = adds-one e (page_below m k) (page_at m k) (below_is_like m e k block l (omega arith)) (block.all k (record { low = omega arith; high = h }))

  inner_saves : (k : ℕ) → e.first < k → k < end → (saves r.mtype (page_below m k) (page_at m k) ≡ 0) × (saves r.mtype (page_at m k) (page_below m k) ≡ 0)
  inner_saves k l h = (
    saves-none r.mtype (page_below m k) (page_at m k) (like_conventional e _ (below_is_like m e k block l (omega arith)) free.0) other,
    saves-none r.mtype (page_at m k) (page_below m k) (like_conventional e _ (block.all k (record { low = omega arith; high = h })) free.0) other,
  )

  -- the price of the whole entry
  pub whole_price : r.pages ≡ e.pages → e.first + r.pages ≤ min end r.limit → price m r e.first + (low_saved + high_saved) ≡ n
  whole_price all by =
      let some = block.some in
      let high = high_edge (e.first + r.pages) (omega arith) in
      let paid = price_is m r Pages e.first proper good (permitted e.first (record { low = omega arith; high = omega arith }) by) in
      omega (arith, paid, low_adds, high, entries)

  -- of the first page, where the pages end inside the entry
  pub low_price : e.first + r.pages < end → e.first + r.pages ≤ min end r.limit → price m r e.first + low_saved ≡ n + 1
  low_price more by =
      let some = good.some in
      let k = e.first + r.pages in
      let paid = price_is m r Pages e.first proper good (permitted e.first (record { low = omega arith; high = omega arith }) by) in
      let inner = inner_saves k (omega arith) more in
      omega (arith, paid, low_adds, inner_adds k (omega arith) more, inner.1, entries)

  -- of the start that ends with the entry
  pub high_price : (p : ℕ) → e.first < p → p + r.pages ≡ end → p + r.pages ≤ min end r.limit → price m r p + high_saved ≡ n + 1
  high_price p above at by =
      let some = good.some in
      let paid = price_is m r Pages p proper good (permitted p (record { low = omega arith; high = omega arith }) by) in
      let inner = inner_saves p above (omega arith) in
      let high = high_edge (p + r.pages) at in
      omega (arith, paid, high, inner_adds p above (omega arith), inner.0, entries)

  -- no entry ends inside the entry
  inside_none : (k : ℕ) → e.first < k → k < end → ¬ EndsEntry m k
  inside_none k l h = inside_block m e k proper block.all (omega arith) (record { low = omega arith; high = omega arith }) (record { low = omega arith; high = h })

  -- a start that is no worse than the first page and the highest one
  best_of_two : (h count top : ℕ) → h ≡ min (e.first + (e.pages - 1)) (min end r.limit - r.pages) → IsIn e top → top + r.pages ≤ min end r.limit → price m r top ≡ count → IsTried m r e (Some (count, top)) e.first → IsTried m r e (Some (count, top)) h → IsTrueLeast m r e (Some (count, top))
  best_of_two h count top at i by paid first highest =
      let some = good.some in
      let here : IsIn e h = record { low = omega (arith, at, i.low, i.high, by); high = omega (arith, at, i.low, i.high) } in
      let is : IsTop m r e h = record {
        in_entry = here;
        permitted = permitted h here (omega (arith, at, by));
        highest = λ q j permitted_q. omega (arith, at, j.high, ((permits q j).0 permitted_q).1);
      } in
      least_found m r e (Some (count, top)) h proper good entry is (i, permitted top i by, paid) first highest
      (λ q ends. tried_if m r e (Some (count, top)) q (λ j permitted_q.
      let by_q = ((permits q j).0 permitted_q).1 in
      elim (cases_lt (q + r.pages) end) [
        | inl l ↦ absurd (inside_none (q + r.pages) (omega (arith, j.low)) l ends)
        | inr g ↦ subst (IsTried m r e (Some (count, top))) (omega arith) highest
      ]))

  pub whole_least : (count : ℕ) → r.pages ≡ e.pages → e.first + r.pages ≤ min end r.limit → count + (low_saved + high_saved) ≡ n → IsTrueLeast m r e (Some (count, e.first))
  whole_least count all by paid =
      let some = block.some in
      let same = whole_price all by in
      best_of_two e.first count e.first (omega arith) (record { low = omega arith; high = omega arith }) by (omega arith) (λ i h. (omega arith, λ f. omega arith)) (λ i h. (omega arith, λ f. omega arith))

  pub low_least : (count : ℕ) → e.first + r.pages < end → e.first + r.pages ≤ min end r.limit → r.limit < end → count + low_saved ≡ n + 1 → IsTrueLeast m r e (Some (count, e.first))
  low_least count more by before paid =
      let some = block.some in
      let same = low_price more by in
      let h = min (e.first + (e.pages - 1)) (min end r.limit - r.pages) in
      best_of_two h count e.first refl (record { low = omega arith; high = omega arith }) by (omega arith) (λ i h. (omega arith, λ f. omega arith))
      (λ i permitted_h. elim (edges m r e h proper good entry i permitted_h) [
        | inl f ↦ (omega (arith, subst (λ q. price m r q ≡ price m r e.first) (sym f) refl), λ _. omega (arith, f))
        | inr (inl ends) ↦ absurd (inside_none (h + r.pages) (omega (arith, i.low, good.some)) (omega (arith, good.some)) ends)
        | inr (inr dear) ↦ (omega (arith, dear, entries), λ f. absurd (omega (arith, dear, entries, f)))
      ])

  pub two_least : (low high h : ℕ) → e.first < h → h + r.pages ≡ end → end ≤ r.limit → low + low_saved ≡ n + 1 → high + high_saved ≡ n + 1 → IsTrueLeast m r e (better (Some (low, e.first)) (Some (high, h)))
  two_least low high h above at by paid_low paid_high =
      let some = good.some in
      let first = low_price (omega arith) (omega arith) in
      let last = high_price h above at (omega arith) in
      let top : h ≡ min (e.first + (e.pages - 1)) (min end r.limit - r.pages) = omega arith in
      elim (better_cases low e.first high h) [
        | inl new ↦ rw new.0 (best_of_two h high h top (record { low = omega arith; high = omega arith }) (omega arith) (omega arith) (λ i _. (omega (arith, new.1), λ f. omega arith)) (λ i _. (omega arith, λ f. omega arith)))
        | inr old ↦ rw old.0 (best_of_two h low e.first top (record { low = omega arith; high = omega arith }) (omega arith) (omega arith) (λ i _. (omega arith, λ f. omega arith)) (λ i _. (omega (arith, old.1), λ f. old.2 (omega arith))))
      ]
