use Rattle.std.proofs.Common.{◌≡◌, ◌+◌, ◌-◌, drop, true≢false, sym, subst, ◌∙◌, arith}
use Rattle.page_ranges.specs.MemoryMap.{IsMap}
use Rattle.placement_certificate.specs.Search.{MayStandBelow}
use Rattle.placement_certificate.proofs.MapLists.{map_from, entry_of_map, next_in_map}
use Rattle.placement_certificate.proofs.entries.is_map.Goals as goal

pub returns-then-not-is_entry : goal.returns-then-not-is_entry
returns-then-not-is_entry c = (
  λ t. absurd (true≢false (sym t)),
  λ a. absurd (true≢false (sym (c.is_entry.ensures.1 (entry_of_map c.args.map.now (c.loop-index.index - 1) c.index-map-index.result (omega arith) c.index-map-index.is a)) ∙ c.if-not-is_entry.true)),
)

pub returns-then-not-may_stand_below : goal.returns-then-not-may_stand_below
returns-then-not-may_stand_below c =
    let e = c.index-map-index.result in (
      λ t. absurd (true≢false (sym t)),
      λ a.
          let next = subst (MayStandBelow e) (sym c.item_at.ensures) (next_in_map c.args.map.now (c.loop-index.index - 1) e (omega arith) c.index-map-index.is a) in
          absurd (true≢false (sym (c.may_stand_below.ensures.1 next) ∙ c.if-not-may_stand_below.true)),
    )

pub loop-index-preserved : goal.loop-index-preserved
loop-index-preserved c =
    let ds = c.args.map.now in
    let i = c.loop-index.index - 1 in
    let e = c.index-map-index.result in
    let up : c.loop-index.index ≡ i + 1 = omega arith in
    let next = subst (MayStandBelow e) c.item_at.ensures (c.may_stand_below.ensures.0 c.if-not-may_stand_below.false) in
    map_from ds i e (omega arith) c.index-map-index.is (c.is_entry.ensures.0 c.if-not-is_entry.false) next (subst (λ n. IsMap (drop n ds)) up c.loop-index.invariant)
