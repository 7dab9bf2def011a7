-- The offer of an ordinary entry behind which no free page lies, where the granule is 1.
use Rattle.std.proofs.Common.{◌≡◌, ◌≢◌, ℕ, ◌+◌, ◌-◌, ◌<◌, ◌≤◌, min, false, List, length, Contains, Option, Some, None, inl, inr, refl, ap, subst, ◌∙◌, arith}
use Rattle.page_ranges.specs.declared.ranges.Descriptor.{Descriptor}
use Rattle.page_ranges.specs.MemoryTypes.{conventional, is_specific_purpose}
use Rattle.page_ranges.specs.Memory.{Page, page_at, page_below, IsConventional, IsProperMemory}
use Rattle.page_ranges.specs.MemoryMap.{memory_map}
use Rattle.page_ranges.specs.Cursors.{IsBlockAt}
use Rattle.descriptor_table.specs.Tables.{IsBlockBelow}
use Rattle.placement_certificate.specs.declared.certificates.Request.{Request}
use Rattle.placement_certificate.specs.Placement.{IsProperRequest, IsAvailable}
use Rattle.placement_certificate.specs.Certificates.{IsTrueLeast}
use Rattle.placement_certificate.specs.Laws.{saves}
use Rattle.placement_certificate.specs.Search.{IsAvailableBlock}
use Rattle.placement_certificate.specs.Sides.{IsSavedAt}
use Rattle.placement_certificate.proofs.BlockStarts.{on_page}
use Rattle.placement_certificate.proofs.LastEntries.{first_on, last_on, low_price, high_price, whole_price, low_least, none_fit, two_least, whole_least}
use Rattle.placement_certificate.proofs.Places.{price_most}
use Rattle.placement_certificate.proofs.Tries.{better_cases}
use Rattle.placement_chooser.specs.declared.offers.Offer.{Offer}
use Rattle.placement_chooser.specs.Starts.{IsOfferIn, IsOfferOf}
use Rattle.placement_chooser.proofs.Entries.{below_page}

-- the price of the best start in an entry, at most
pub least_most : (m : List Page) (r : Request) (e : Descriptor) (c t : ℕ) → IsProperMemory m → IsProperRequest r → IsTrueLeast m r e (Some (c, t)) → c ≤ length (memory_map m) + 2
least_most m r e c t proper good least = omega (arith, price_most m r t proper good least.0.permitted, least.1)

-- no start in an entry that is too short, where no free page lies behind it
pub too_short : (m : List Page) (r : Request) (e : Descriptor) → ¬ IsConventional (page_at m (e.first + e.pages)) → e.pages < r.pages → IsTrueLeast m r e None
too_short m r e behind short q in_entry permitted = behind (permitted.conventional (e.first + e.pages) (omega (arith, in_entry.high)) (omega (arith, in_entry.low, short)))

-- ---- an offer as a start with its price

pub none_priced : (n : ℕ) (least : Option (ℕ × ℕ)) (b : Offer) → IsOfferOf n least b → b.saving ≡ 0 → None ≡ least
none_priced n None b offered none = refl
none_priced n (Some (c, t)) b offered none = absurd (omega (arith, offered.0, offered.1, none))

pub some_priced : (n : ℕ) (least : Option (ℕ × ℕ)) (b : Offer) → IsOfferOf n least b → b.saving ≢ 0 → Some (n + 3 - b.saving, b.start) ≡ least
some_priced n None b offered some = absurd (some offered)
some_priced n (Some (c, t)) b offered some = let price : n + 3 - b.saving ≡ c = omega (arith, offered.0) in ap (λ k. Some (k, b.start)) price ∙ ap (λ k. Some (c, k)) offered.2

pub saves_at_most : (n : ℕ) (least : Option (ℕ × ℕ)) (b : Offer) → IsOfferOf n least b → b.saving ≤ n + 3
saves_at_most n None b offered = omega (arith, offered)
saves_at_most n (Some (c, t)) b offered = omega (arith, offered.0)

module _ (m : List Page) (r : Request) (e : Descriptor) (one : r.granule ≡ 1) (proper : IsProperMemory m) (good : IsProperRequest r) (entry : Contains (memory_map m) e) (free : e.mtype ≡ conventional) (ordinary : is_specific_purpose e.attributes ≡ false) (behind : ¬ IsConventional (page_at m (e.first + e.pages))) where
  abbrev end : ℕ
  end = e.first + e.pages

  abbrev n : ℕ
  n = length (memory_map m)

  available : IsAvailableBlock e
  available = (free, ordinary)

  not_available : ¬ IsAvailable (page_at m end)
  not_available k = behind k.0

  -- what the edges save, by the blocks that lie beside the entry
  low_saved : (below : Option Descriptor) (l : ℕ) → IsBlockBelow m e.first below → IsSavedAt r.mtype below (Some e) l → l ≡ saves r.mtype (page_below m e.first) (page_at m e.first)
  low_saved below l b s = s (page_below m e.first) (page_at m e.first) (below_page m e.first below b) (first_on m r e n one proper good refl entry available not_available)

  high_saved : (above : Option Descriptor) (h : ℕ) → IsBlockAt m end above → IsSavedAt r.mtype above (Some e) h → h ≡ saves r.mtype (page_at m end) (page_below m end)
  high_saved above h b s = s (page_at m end) (page_below m end) (on_page m end above b) (last_on m r e n one proper good refl entry available not_available)

  -- no start
  pub none_offered : (e.first + r.pages ≤ min end r.limit → ⊥) → IsOfferIn m r e (record { saving = 0; start = 0 })
  none_offered out = (None, none_fit m r e n one proper good refl entry available not_available out, refl)

  -- the limit lies in the entry
  pub first_offered : (below : Option Descriptor) (l : ℕ) → IsBlockBelow m e.first below → IsSavedAt r.mtype below (Some e) l → r.limit < end → e.first + r.pages ≤ r.limit → IsOfferIn m r e (record { saving = 2 + l; start = e.first })
  first_offered below l b low before by =
      let is_low = low_saved below l b low in
      let first = low_price m r e n one proper good refl entry available not_available (omega arith) (omega arith) in
      (Some (n + 1 - l, e.first), low_least m r e n one proper good refl entry available not_available (n + 1 - l) (omega arith) (omega arith) before (omega (arith, first, is_low)), (omega (arith, first, is_low), omega arith, refl))

  module _ (below above : Option Descriptor) (l h : ℕ) (b : IsBlockBelow m e.first below) (a : IsBlockAt m end above) (low : IsSavedAt r.mtype below (Some e) l) (high : IsSavedAt r.mtype above (Some e) h) where
    abbrev is_low : l ≡ saves r.mtype (page_below m e.first) (page_at m e.first)
    is_low = low_saved below l b low

    abbrev is_high : h ≡ saves r.mtype (page_at m end) (page_below m end)
    is_high = high_saved above h a high

    -- the pages fill the entry
    pub whole_offered : r.pages ≡ e.pages → e.first + r.pages ≤ min end r.limit → IsOfferIn m r e (record { saving = 3 + l + h; start = e.first })
    whole_offered all by =
        let paid = whole_price m r e n one proper good refl entry available not_available all by in
        (Some (n - l - h, e.first), whole_least m r e n one proper good refl entry available not_available (n - l - h) all by (omega (arith, paid, is_low, is_high)), (omega (arith, paid, is_low, is_high), omega arith, refl))

    module _ (short : r.pages < e.pages) where
      -- the pages at the entry's end are no worse
      pub high_offered : end ≤ r.limit → l ≤ h → IsOfferIn m r e (record { saving = 2 + h; start = end - r.pages })
      high_offered by less =
          let top = end - r.pages in
          let first = low_price m r e n one proper good refl entry available not_available (omega arith) (omega arith) in
          let last = high_price m r e n one proper good refl entry available not_available top (omega arith) (omega arith) (omega arith) in
          let two = two_least m r e n one proper good refl entry available not_available (n + 1 - l) (n + 1 - h) top (omega arith) (omega arith) by (omega (arith, first, is_low)) (omega (arith, last, is_high)) in
          elim (better_cases (n + 1 - l) e.first (n + 1 - h) top) [
            | inl new ↦ (Some (n + 1 - h, top), subst (IsTrueLeast m r e) new.0 two, (omega (arith, last, is_high), omega arith, refl))
            | inr old ↦ absurd (omega (arith, old.1, old.2 (omega (arith, old.1, less, first, is_low, last, is_high)), short))
          ]

      -- the first pages are better
      pub low_offered : end ≤ r.limit → h < l → IsOfferIn m r e (record { saving = 2 + l; start = e.first })
      low_offered by more =
          let top = end - r.pages in
          let first = low_price m r e n one proper good refl entry available not_available (omega arith) (omega arith) in
          let last = high_price m r e n one proper good refl entry available not_available top (omega arith) (omega arith) (omega arith) in
          let two = two_least m r e n one proper good refl entry available not_available (n + 1 - l) (n + 1 - h) top (omega arith) (omega arith) by (omega (arith, first, is_low)) (omega (arith, last, is_high)) in
          elim (better_cases (n + 1 - l) e.first (n + 1 - h) top) [
            | inl new ↦ absurd (omega (arith, new.1, more, first, is_low, last, is_high))
            | inr old ↦ (Some (n + 1 - l, e.first), subst (IsTrueLeast m r e) old.0 two, (omega (arith, first, is_low), omega arith, refl))
          ]
