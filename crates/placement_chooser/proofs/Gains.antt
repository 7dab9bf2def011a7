-- What a placement in an entry gains at most, and entries of no use.
use Rattle.std.proofs.Common.{◌≡◌, ◌≢◌, ◌&&◌, ℕ, ◌+◌, ◌<◌, ◌≤◌, max, true, false, cond, eqb, List, length, Contains, Option, Some, None, inl, inr, ap, subst, arith}
use Rattle.std.proofs.lemmas.Bool.{cases_Bool, cases_lt, eq-eqb, ne_eqb}
use Rattle.page_ranges.specs.declared.ranges.Descriptor.{Descriptor}
use Rattle.page_ranges.specs.declared.ranges.Owner.TheVariants.{Pages}
use Rattle.page_ranges.specs.MemoryTypes.{conventional, attributes_as}
use Rattle.page_ranges.specs.Memory.{Page, page_at, page_below, IsConventional, IsProperMemory}
use Rattle.page_ranges.specs.MemoryMap.{memory_map, IsIn, IsMaximalBlock}
use Rattle.page_ranges.proofs.Blocks.{entry_is_block}
use Rattle.descriptor_table.specs.declared.wanted.Wanted.{Wanted}
use Rattle.descriptor_table.specs.Wanting.{IsOfNoUse, is_of, most_gain}
use Rattle.placement_certificate.specs.declared.certificates.Request.{Request}
use Rattle.placement_certificate.specs.Placement.{IsProperRequest, IsPermittedStart, price}
use Rattle.placement_certificate.specs.Laws.{adds, saves}
use Rattle.placement_certificate.proofs.Edges.{adds-one, saves-none, good_not_conventional, like_conventional, below_is_like}
use Rattle.placement_certificate.proofs.Prices.{price_is}

-- an edge saves no more than the neighbour's type allows
both_save : (t : ℕ) (x y : Page) → cond (eqb x.mtype t && eqb x.attributes (attributes_as t y.attributes)) 1 0 ≤ cond (eqb x.mtype t) 1 0
both_save t x y = elim (cases_Bool (eqb x.mtype t)) [
  | inl h ↦ rw h (elim (eqb x.attributes (attributes_as t y.attributes)) as (λ c. cond c 1 0 ≤ 1) [ true ↦ omega arith | false ↦ omega arith ])
  | inr f ↦ rw f (omega arith)
]

saves_of : (t : ℕ) (x y : Option Page) → saves t x y ≤ is_of t x
saves_of t None y = omega arith
saves_of t (Some x) None = omega arith
saves_of t (Some x) (Some y) = both_save t x y

of_most : (t : ℕ) (o : Option Page) → is_of t o ≤ 1
of_most t None = omega arith
of_most t (Some x) = elim (eqb x.mtype t) as (λ c. cond c 1 0 ≤ 1) [ true ↦ omega arith | false ↦ omega arith ]

-- the gain of a placement that fills an entry, and of one that does not
gain_whole : (n p b a : ℕ) → n ≡ p → most_gain n p b a ≡ 1 + b + a
gain_whole n p b a e = ap (λ c. cond c (1 + b + a) (max b a)) (eq-eqb n p e)

gain_part : (n p b a : ℕ) → n ≢ p → most_gain n p b a ≡ max b a
gain_part n p b a d = ap (λ c. cond c (1 + b + a) (max b a)) (ne_eqb n p d)

-- ---- entries behind which no free page lies

module _ (m : List Page) (w : Wanted) (e : Descriptor) (behind : ¬ IsConventional (page_at m (e.first + e.pages))) where
  -- an entry that is too small is of no use
  pub too_small : e.pages < w.pages → IsOfNoUse m w e
  too_small less = inr (record { within = λ n. absurd (omega (arith, n, less)); beyond = λ c. absurd (behind c) })

  -- nor is one that the pages do not fill, where more than 1 is to be gained
  pub not_filled : w.pages ≢ e.pages → 1 < w.gain → IsOfNoUse m w e
  not_filled other more =
      let b = is_of w.mtype (page_below m e.first) in
      let a = is_of w.mtype (page_at m (e.first + e.pages)) in
      inr (record { within = λ n. omega (arith, gain_part w.pages e.pages b a other, of_most w.mtype (page_below m e.first), of_most w.mtype (page_at m (e.first + e.pages)), more); beyond = λ c. absurd (behind c) })

module _ (m : List Page) (r : Request) (e : Descriptor) (q : ℕ) (proper : IsProperMemory m) (good : IsProperRequest r) (entry : Contains (memory_map m) e) (free : e.mtype ≡ conventional) (in_entry : IsIn e q) (permitted : IsPermittedStart m r q) where
  abbrev end : ℕ
  end = q + r.pages

  abbrev below : ℕ
  below = is_of r.mtype (page_below m e.first)

  abbrev above : ℕ
  above = is_of r.mtype (page_at m (e.first + e.pages))

  is_block : IsMaximalBlock m e
  is_block = entry_is_block m proper.ascending e entry

  other : r.mtype ≢ conventional
  other = good_not_conventional r.mtype good.good

  paid : price m r q + (saves r.mtype (page_below m q) (page_at m q) + saves r.mtype (page_at m end) (page_below m end)) ≡ length (memory_map m) + (adds (page_below m q) (page_at m q) + adds (page_below m end) (page_at m end))
  paid = price_is m r Pages q proper good permitted

  -- the lower edge
  low_first : q ≡ e.first → saves r.mtype (page_below m q) (page_at m q) ≤ below
  low_first same = subst (λ k. saves r.mtype (page_below m q) (page_at m q) ≤ is_of r.mtype (page_below m k)) same (saves_of r.mtype (page_below m q) (page_at m q))

  low_inside : e.first < q → (saves r.mtype (page_below m q) (page_at m q) ≡ 0) × (adds (page_below m q) (page_at m q) ≡ 1)
  low_inside l =
      let like = below_is_like m e q is_block l (omega (arith, in_entry.high)) in
      (saves-none r.mtype (page_below m q) (page_at m q) (like_conventional e _ like free) other, adds-one e (page_below m q) (page_at m q) like (is_block.all q in_entry))

  -- the upper edge
  high_last : end ≡ e.first + e.pages → saves r.mtype (page_at m end) (page_below m end) ≤ above
  high_last same = subst (λ k. saves r.mtype (page_at m end) (page_below m end) ≤ is_of r.mtype (page_at m k)) same (saves_of r.mtype (page_at m end) (page_below m end))

  high_inside : end < e.first + e.pages → (saves r.mtype (page_at m end) (page_below m end) ≡ 0) × (adds (page_below m end) (page_at m end) ≡ 1)
  high_inside l =
      let some = good.some in
      let here = is_block.all end (record { low = omega (arith, in_entry.low); high = l }) in
      let like = below_is_like m e end is_block (omega (arith, in_entry.low)) (omega (arith, l)) in
      (saves-none r.mtype (page_at m end) (page_below m end) (like_conventional e _ here free) other, adds-one e (page_below m end) (page_at m end) like here)

  -- the gain of a placement that ends in the entry
  gain_within : end ≤ e.first + e.pages → length (memory_map m) + 1 ≤ price m r q + most_gain r.pages e.pages below above
  gain_within l = elim (cases_lt e.first q) [
    | inl inside ↦ elim (cases_lt end (e.first + e.pages)) [
      | inl short ↦ omega (arith, paid, low_inside inside, high_inside short)
      | inr whole ↦
          let part = gain_part r.pages e.pages below above (λ same. omega (arith, same, l, whole, inside)) in
          omega (arith, paid, low_inside inside, high_last (omega (arith, l, whole)), part)
    ]
    | inr lowest ↦ elim (cases_lt end (e.first + e.pages)) [
      | inl short ↦
          let part = gain_part r.pages e.pages below above (λ same. omega (arith, same, short, lowest, in_entry.low)) in
          omega (arith, paid, low_first (omega (arith, lowest, in_entry.low)), high_inside short, part)
      | inr whole ↦
          let all = gain_whole r.pages e.pages below above (omega (arith, lowest, in_entry.low, l, whole)) in
          omega (arith, paid, low_first (omega (arith, lowest, in_entry.low)), high_last (omega (arith, l, whole)), all)
    ]
  ]

  -- the gain of any placement
  gain_any : length (memory_map m) ≤ price m r q + 2
  gain_any = omega (arith, paid, saves_of r.mtype (page_below m q) (page_at m q), of_most r.mtype (page_below m q), saves_of r.mtype (page_at m end) (page_below m end), of_most r.mtype (page_at m end))

  -- a permitted start in an entry of no use costs too much
  pub costs_too_much : (w : Wanted) → w.mtype ≡ r.mtype → w.pages ≡ r.pages → w.limit ≡ r.limit → IsOfNoUse m w e → (0 < w.gain) × (length (memory_map m) + 2 ≤ price m r q + w.gain)
  costs_too_much w mtype pages limit no_use = elim no_use [
    | inl high ↦ let some = good.some in absurd (omega (arith, some, high, limit, in_entry.low, permitted.within))
    | inr little ↦ elim (cases_lt (e.first + e.pages) end) [
      | inl beyond ↦
          let more = little.beyond (permitted.conventional (e.first + e.pages) (omega (arith, in_entry.high)) beyond) in
          (omega (arith, more), omega (arith, more, gain_any))
      | inr within ↦
          let less : most_gain r.pages e.pages below above < w.gain =
          subst (λ n. most_gain n e.pages below above < w.gain) pages (subst (λ t. most_gain w.pages e.pages (is_of t (page_below m e.first)) (is_of t (page_at m (e.first + e.pages))) < w.gain) mtype (little.within (omega (arith, pages, within, in_entry.low)))) in
          (omega (arith, less), omega (arith, less, gain_within within))
    ]
  ]
