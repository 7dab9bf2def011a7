use Rattle.std.proofs.Common.{◌≡◌, ◌∷◌, [], ◌++◌, length, refl, sym, ap, subst, ◌∙◌, append_assoc, rules, arith}
use Rattle.page_ranges.specs.declared.ranges.Descriptor.{Descriptor}
use Rattle.placement_certificate.specs.declared.certificates.Bound.{Bound}
use Rattle.placement_certificate.specs.Certificates.{IsTrueBound, IsTrueLeast, conventional_entries}
use Rattle.placement_certificate.specs.Search.{IsBestOf, IsProperSearch}
use Rattle.placement_certificate.proofs.BestBounds.{no_bound}
use Rattle.placement_certificate.proofs.Decided.{best_is}
use Rattle.placement_certificate.proofs.Tries.{bound_more}
use Rattle.placement_chooser.proofs.Entries.{all_bounded, few_conventional, first_left, zip_more}
use Rattle.placement_chooser.proofs.choosing.choose.Goals as goal

pub loop-leaf-init : goal.loop-leaf-init
loop-leaf-init g c = record {
  memory = c.free_entries-left.ensures.memory;
  bounds = ([], c.free_entries-left.ensures.entries, rw c.in_ok-bounds.ensures.items tt);
  best = rw c.in_ok-bounds.ensures.items tt;
  stays = search rules;
  room = omega (arith, ap length c.free_entries-left.ensures.entries, few_conventional c.args.table.now.pages, c.descriptors-entries.ensures.count, c.in_ok-bounds.ensures.len, c.in_ok-bounds.ensures.capacity);
}

pub loop-free-init : goal.loop-free-init
loop-free-init g c =
    let i = c.loop-leaf.invariant in
    let next = c.in-Some.ensures.next in
    record {
      memory = next.0 ∙ i.memory;
      bounds = (i.bounds.0, ap (λ es. i.bounds.0 ++ es) (sym next.2) ∙ i.bounds.1, i.bounds.2);
      best = i.best;
      stays = i.stays;
      room = omega (arith, i.room, ap length next.2);
    }

pub loop-leaf-preserved : goal.loop-leaf-preserved
loop-leaf-preserved g c =
    let i = c.loop-free.invariant in
    let rest = c.next_leaf.new.self.entries in
    let none = c.in_default-next_entry.ensures.next in
    record {
      memory = c.in-Some.ensures.stays ∙ c.loop-leaf.invariant.memory;
      bounds = (i.bounds.0, sym (ap (λ es. i.bounds.0 ++ (es ++ rest)) none) ∙ i.bounds.1, i.bounds.2);
      best = i.best;
      stays = i.stays;
      room = omega (arith, i.room, ap (λ es. length (es ++ rest)) none);
    }

pub least_in-least-requires-clause-search : goal.least_in-least-requires-clause-search
least_in-least-requires-clause-search g c =
    let i = c.loop-free.invariant in
    let e = c.in-Some-next_entry.free.entry in
    let rest = c.next_leaf.new.self.entries in
    let next = c.in-Some-next_entry.ensures.next in
    let first = first_left c.args.table.now.pages i.bounds.0 (c.loop-free.leaf.entries ++ rest) (c.next_entry.new.self.entries ++ rest) e i.bounds.1 (ap (λ es. es ++ rest) next.1) in
    subst (λ m. IsProperSearch m c.args.request.now c.descriptors-entries.result e) (sym (next.0 ∙ i.memory)) (record {
      proper = c.descriptors-entries.ensures.proper;
      good = c.requires;
      entries = c.descriptors-entries.ensures.count;
      entry = first.0;
      free = first.1;
    })

pub loop-free-preserved : goal.loop-free-preserved
loop-free-preserved g c =
    let i = c.loop-free.invariant in
    let m = c.args.table.now.pages in
    let r = c.args.request.now in
    let e = c.in-Some-next_entry.free.entry in
    let next = c.in-Some-next_entry.ensures.next in
    let es = c.next_entry.new.self.entries ++ c.next_leaf.new.self.entries in
    let bs = c.loop-free.bounds.items in
    let front = i.bounds in
    let least = c.least_in-least.result in
    let range = c.run.result.now.range in
    let b : Bound = record { first = range.first; pages = range.pages; least = least } in
    let steps : c.loop-free.leaf.entries ++ c.next_leaf.new.self.entries ≡ e ∷ es = ap (λ ds. ds ++ c.next_leaf.new.self.entries) next.1 in
    let same : front.0 ++ e ∷ es ≡ conventional_entries m = ap (λ ds. front.0 ++ ds) (sym steps) ∙ front.1 in
    rw (c.push_reserved.ensures.items, c.better_of-best.ensures) (record {
      memory = c.in-Some-next_entry.ensures.stays ∙ i.memory;
      bounds = (
        front.0 ++ e ∷ [],
        append_assoc front.0 (e ∷ []) es ∙ same,
        zip_more (IsTrueBound m r) front.0 bs e b front.2 (record {
          first = ap (λ (d : Descriptor). d.first) c.run.ensures;
          pages = ap (λ (d : Descriptor). d.pages) c.run.ensures;
          least = subst (λ n. IsTrueLeast n r e least) (next.0 ∙ i.memory) c.least_in-least.ensures.least;
        }),
      );
      best = bound_more c.loop-free.best least bs b refl i.best;
      stays = c.least_in-least.ensures.stays ∙ i.stays;
      room = omega (arith, i.room, ap length steps, c.push_reserved.ensures.len, c.push_reserved.ensures.capacity);
    })

pub returns-in-Some-best-clause-certificate : goal.returns-in-Some-best-clause-certificate
returns-in-Some-best-clause-certificate g c =
    let m = c.args.table.now.pages in
    let r = c.args.request.now in
    let bs = c.loop-leaf.bounds.items in
    let front = c.loop-leaf.invariant.bounds in
    let none : c.loop-leaf.left.entries ≡ [] = search rules in
    let bounds = all_bounded (IsTrueBound m r) front.0 c.loop-leaf.left.entries (conventional_entries m) bs none front.1 front.2 in
    record { bounds = bounds; answer = best_is m r bs c.descriptors-entries.ensures.proper c.requires bounds c.in-Some-best.field-0-0 c.in-Some-best.answer (subst (λ x. IsBestOf x bs) c.in-Some-best.is c.loop-leaf.invariant.best) }

pub returns-in-None-clause-none : goal.returns-in-None-clause-none
returns-in-None-clause-none g c =
    let m = c.args.table.now.pages in
    let r = c.args.request.now in
    let bs = c.loop-leaf.bounds.items in
    let front = c.loop-leaf.invariant.bounds in
    let none : c.loop-leaf.left.entries ≡ [] = search rules in
    let bounds = all_bounded (IsTrueBound m r) front.0 c.loop-leaf.left.entries (conventional_entries m) bs none front.1 front.2 in
    λ h. no_bound m r bs c.descriptors-entries.ensures.proper c.requires bounds (subst (λ x. IsBestOf x bs) c.in-None.is c.loop-leaf.invariant.best)
