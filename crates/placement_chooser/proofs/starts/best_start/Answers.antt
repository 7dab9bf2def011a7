use Rattle.std.proofs.Common.{◌++◌, sym, refl, subst, ap, ◌∙◌, append_assoc, append-nil, arith}
use Rattle.std.specs.List.{AllByRecursion}
use Rattle.descriptor_table.specs.Wanting.{IsOfNoUse}
use Rattle.placement_certificate.specs.Search.{IsProperSearch}
use Rattle.placement_chooser.specs.Starts.{OffersBest}
use Rattle.placement_chooser.proofs.BestSoFar.{IsBestOffer, better_offer, kept_offer, last_entry, last_left, no_offer, none_done, offer_is_best, passed_offer}
use Rattle.placement_chooser.proofs.starts.best_start.Goals as goal

pub loop-leaf-init : goal.loop-leaf-init
loop-leaf-init g c = record {
  memory = c.entries_down-left.ensures.memory;
  best = none_done c.args.table.now.pages c.args.request.now c.descriptors-entries.ensures.proper c.requires _ _ c.entries_down-left.result.entries c.entries_down-left.ensures.entries (record { mtype = refl; pages = refl; limit = refl }) refl refl;
  stays = c.new-search.ensures ∙ c.cursor.ensures;
}

pub loop-free-init : goal.loop-free-init
loop-free-init g c =
    let m = c.args.table.now.pages in
    let leaf = c.in-Some.leaf in
    let rest = c.next_leaf.new.self.entries in
    let next = c.in-Some.ensures.next in
    let passed = next.2.0 in
    record {
      memory = next.0 ∙ c.loop-leaf.invariant.memory;
      best = passed_offer m c.args.request.now c.descriptors-entries.ensures.proper c.requires c.loop-leaf.best c.loop-leaf.wanted c.loop-leaf.left.entries c.loop-leaf.invariant.best passed (rest ++ leaf.entries) (next.2.1 ∙ sym (append_assoc rest leaf.entries passed)) (subst (λ n. AllByRecursion (IsOfNoUse n c.loop-leaf.wanted) passed) c.loop-leaf.invariant.memory next.2.2);
      stays = c.loop-leaf.invariant.stays;
    }

pub loop-leaf-preserved : goal.loop-leaf-preserved
loop-leaf-preserved g c =
    let rest = c.next_leaf.new.self.entries in
    let none = ap (λ es. rest ++ es) c.in_default-next_entry.ensures.next ∙ append-nil rest in
    record {
      memory = c.in-Some.ensures.stays ∙ c.loop-leaf.invariant.memory;
      best = subst (IsBestOffer c.args.table.now.pages c.args.request.now c.loop-free.best c.loop-free.wanted) none c.loop-free.invariant.best;
      stays = c.loop-free.invariant.stays;
    }

pub offer_in-offer-requires-clause-search : goal.offer_in-offer-requires-clause-search
offer_in-offer-requires-clause-search g c =
    let e = c.in-Some-next_entry.free.entry in
    let rest = c.next_leaf.new.self.entries in
    let left = c.next_entry.new.self.entries in
    let next = c.in-Some-next_entry.ensures.next in
    let proper = c.descriptors-entries.ensures.proper in
    let last = last_entry c.args.table.now.pages c.args.request.now proper c.requires c.loop-free.best c.loop-free.wanted (rest ++ c.loop-free.leaf.entries) c.loop-free.invariant.best (rest ++ left) e (last_left rest c.loop-free.leaf.entries left e next.1) in
    subst (λ m. IsProperSearch m c.args.request.now c.descriptors-entries.result e) (sym (next.0 ∙ c.loop-free.invariant.memory)) (record {
      proper = proper;
      good = c.requires;
      entries = c.descriptors-entries.ensures.count;
      entry = last.0;
      free = last.1;
    })

pub loop-free-preserved-then-best-offer : goal.loop-free-preserved-then-best-offer
loop-free-preserved-then-best-offer g c =
    let m = c.args.table.now.pages in
    let r = c.args.request.now in
    let w = c.loop-free.wanted in
    let e = c.in-Some-next_entry.free.entry in
    let offer = c.offer_in-offer.result in
    let rest = c.next_leaf.new.self.entries in
    let left = c.next_entry.new.self.entries in
    let next = c.in-Some-next_entry.ensures.next in
    let memory = next.0 ∙ c.loop-free.invariant.memory in
    let best = c.loop-free.invariant.best in
    record {
      memory = c.in-Some-next_entry.ensures.stays ∙ c.loop-free.invariant.memory;
      best = better_offer m r c.descriptors-entries.ensures.proper c.requires c.loop-free.best w (rest ++ c.loop-free.leaf.entries) best e (rest ++ left) offer _ (last_left rest c.loop-free.leaf.entries left e next.1) (subst (λ n. OffersBest n r w e offer) memory c.offer_in-offer.ensures.offer) c.if-best-offer.true
          (record { mtype = best.so_far.wanted.mtype; pages = best.so_far.wanted.pages; limit = best.so_far.wanted.limit }) (omega (arith, c.if-best-offer.true));
      stays = c.offer_in-offer.ensures.stays ∙ c.loop-free.invariant.stays;
    }

pub loop-free-preserved : goal.loop-free-preserved
loop-free-preserved g c =
    let m = c.args.table.now.pages in
    let r = c.args.request.now in
    let w = c.loop-free.wanted in
    let e = c.in-Some-next_entry.free.entry in
    let offer = c.offer_in-offer.result in
    let rest = c.next_leaf.new.self.entries in
    let left = c.next_entry.new.self.entries in
    let next = c.in-Some-next_entry.ensures.next in
    let memory = next.0 ∙ c.loop-free.invariant.memory in
    record {
      memory = c.in-Some-next_entry.ensures.stays ∙ c.loop-free.invariant.memory;
      best = kept_offer m r c.descriptors-entries.ensures.proper c.requires c.loop-free.best w (rest ++ c.loop-free.leaf.entries) c.loop-free.invariant.best e (rest ++ left) offer (last_left rest c.loop-free.leaf.entries left e next.1) (subst (λ n. OffersBest n r w e offer) memory c.offer_in-offer.ensures.offer) (omega (arith, c.if-best-offer.false));
      stays = c.offer_in-offer.ensures.stays ∙ c.loop-free.invariant.stays;
    }

pub returns-clause-best : goal.returns-clause-best
returns-clause-best g c =
    let w = c.loop-leaf.wanted in
    let no_use = subst (λ n. AllByRecursion (IsOfNoUse n w) c.loop-leaf.left.entries) c.loop-leaf.invariant.memory c.in_default.ensures.next in
    offer_is_best c.args.table.now.pages c.args.request.now c.descriptors-entries.ensures.proper c.requires c.loop-leaf.best w c.loop-leaf.left.entries c.loop-leaf.invariant.best no_use (λ e. omega (arith, e, c.if-best-eq0.false))

pub returns-then-best-eq0-clause-none : goal.returns-then-best-eq0-clause-none
returns-then-best-eq0-clause-none g c =
    let w = c.loop-leaf.wanted in
    let no_use = subst (λ n. AllByRecursion (IsOfNoUse n w) c.loop-leaf.left.entries) c.loop-leaf.invariant.memory c.in_default.ensures.next in
    λ _. no_offer c.args.table.now.pages c.args.request.now c.descriptors-entries.ensures.proper c.requires c.loop-leaf.best w c.loop-leaf.left.entries c.loop-leaf.invariant.best no_use c.if-best-eq0.true
