use Rattle.std.proofs.Common.{◌≡◌, ◌+◌, ◌-◌, ◌≤◌, ◌∙◌, true≢false, min, sym, rules, arith}
use Rattle.page_ranges.specs.Memory.{page_at, page_below}
use Rattle.placement_certificate.specs.Placement.{IsAvailable}
use Rattle.placement_certificate.specs.Search.{IsAvailableBlock}
use Rattle.page_ranges.proofs.Blocks.{entry_end}
use Rattle.placement_certificate.proofs.LastEntries.{few, first_on, last_on, whole_price, low_price, high_price, whole_least, low_least, two_least}
use Rattle.placement_certificate.proofs.Places.{none_permitted}
use Rattle.placement_certificate.proofs.search.EntrySearch.least_beside.Goals as goal

pub overflow_add-end : goal.overflow_add-end
overflow_add-end g c = omega (arith, entry_end c.args.self.now c.requires.search.proper c.args.entry.now c.requires.search.entry)

pub returns-then-is_specific_purpose-clause-least : goal.returns-then-is_specific_purpose-clause-least
returns-then-is_specific_purpose-clause-least g c =
    none_permitted c.args.self.now c.args.request.now c.args.entry.now c.requires.search.proper c.requires.search.good c.requires.search.entry (sym c.is_specific_purpose.ensures ∙ c.if-is_specific_purpose.true)

pub overflow_sub-result : goal.overflow_sub-result
overflow_sub-result g c =
    let m = c.args.self.now in
    let r = c.args.request.now in
    let e = c.args.entry.now in
    let n = c.args.entries in
    let end = e.first + e.pages in
    let one : r.granule ≡ 1 = search rules in
    let free : IsAvailableBlock e = (c.requires.search.free, search rules) in
    let behind : ¬ IsAvailable (page_at m end) = λ k. true≢false (sym ((c.is_available_at.ensures (page_at m end) c.requires.above).1 k) ∙ c.if-is_available_at.false) in
    let fits : e.first + r.pages ≤ min end r.limit = omega (arith, c.min.ensures) in
    let low = c.edge_saves-low_saves.ensures (page_below m e.first) (page_at m e.first) c.requires.below (first_on m r e n one c.requires.search.proper c.requires.search.good c.requires.search.entries c.requires.search.entry free behind) in
    omega (arith, low, whole_price m r e n one c.requires.search.proper c.requires.search.good c.requires.search.entries c.requires.search.entry free behind (omega arith) fits)

pub overflow_sub-result-then-request-entry : goal.overflow_sub-result-then-request-entry
overflow_sub-result-then-request-entry g c =
    let m = c.args.self.now in
    let r = c.args.request.now in
    let e = c.args.entry.now in
    let n = c.args.entries in
    let end = e.first + e.pages in
    let one : r.granule ≡ 1 = search rules in
    let free : IsAvailableBlock e = (c.requires.search.free, search rules) in
    let behind : ¬ IsAvailable (page_at m end) = λ k. true≢false (sym ((c.is_available_at.ensures (page_at m end) c.requires.above).1 k) ∙ c.if-is_available_at.false) in
    let fits : e.first + r.pages ≤ min end r.limit = omega (arith, c.min.ensures) in
    let low = c.edge_saves-low_saves.ensures (page_below m e.first) (page_at m e.first) c.requires.below (first_on m r e n one c.requires.search.proper c.requires.search.good c.requires.search.entries c.requires.search.entry free behind) in
    let high = c.edge_saves-high_saves.ensures (page_at m end) (page_below m end) c.requires.above (last_on m r e n one c.requires.search.proper c.requires.search.good c.requires.search.entries c.requires.search.entry free behind) in
    omega (arith, low, high, whole_price m r e n one c.requires.search.proper c.requires.search.good c.requires.search.entries c.requires.search.entry free behind (omega arith) fits)

pub returns-then-request-entry-clause-least : goal.returns-then-request-entry-clause-least
returns-then-request-entry-clause-least g c =
    let m = c.args.self.now in
    let r = c.args.request.now in
    let e = c.args.entry.now in
    let n = c.args.entries in
    let end = e.first + e.pages in
    let one : r.granule ≡ 1 = search rules in
    let free : IsAvailableBlock e = (c.requires.search.free, search rules) in
    let behind : ¬ IsAvailable (page_at m end) = λ k. true≢false (sym ((c.is_available_at.ensures (page_at m end) c.requires.above).1 k) ∙ c.if-is_available_at.false) in
    let fits : e.first + r.pages ≤ min end r.limit = omega (arith, c.min.ensures) in
    let low = c.edge_saves-low_saves.ensures (page_below m e.first) (page_at m e.first) c.requires.below (first_on m r e n one c.requires.search.proper c.requires.search.good c.requires.search.entries c.requires.search.entry free behind) in
    let high = c.edge_saves-high_saves.ensures (page_at m end) (page_below m end) c.requires.above (last_on m r e n one c.requires.search.proper c.requires.search.good c.requires.search.entries c.requires.search.entry free behind) in
    let paid = whole_price m r e n one c.requires.search.proper c.requires.search.good c.requires.search.entries c.requires.search.entry free behind (omega arith) fits in
    whole_least m r e n one c.requires.search.proper c.requires.search.good c.requires.search.entries c.requires.search.entry free behind (n - c.edge_saves-low_saves.result - c.edge_saves-high_saves.result) (omega arith) fits (omega (arith, low, high, paid))

pub overflow_add-lowest : goal.overflow_add-lowest
overflow_add-lowest g c =
    let m = c.args.self.now in
    let r = c.args.request.now in
    let e = c.args.entry.now in
    let n = c.args.entries in
    let end = e.first + e.pages in
    let one : r.granule ≡ 1 = search rules in
    let free : IsAvailableBlock e = (c.requires.search.free, search rules) in
    let behind : ¬ IsAvailable (page_at m end) = λ k. true≢false (sym ((c.is_available_at.ensures (page_at m end) c.requires.above).1 k) ∙ c.if-is_available_at.false) in
    let fits : e.first + r.pages ≤ min end r.limit = omega (arith, c.min.ensures) in
    omega (arith, few m r e n one c.requires.search.proper c.requires.search.good c.requires.search.entries c.requires.search.entry free behind)

pub overflow_sub-lowest : goal.overflow_sub-lowest
overflow_sub-lowest g c =
    let m = c.args.self.now in
    let r = c.args.request.now in
    let e = c.args.entry.now in
    let n = c.args.entries in
    let end = e.first + e.pages in
    let one : r.granule ≡ 1 = search rules in
    let free : IsAvailableBlock e = (c.requires.search.free, search rules) in
    let behind : ¬ IsAvailable (page_at m end) = λ k. true≢false (sym ((c.is_available_at.ensures (page_at m end) c.requires.above).1 k) ∙ c.if-is_available_at.false) in
    let fits : e.first + r.pages ≤ min end r.limit = omega (arith, c.min.ensures) in
    let low = c.edge_saves-low_saves.ensures (page_below m e.first) (page_at m e.first) c.requires.below (first_on m r e n one c.requires.search.proper c.requires.search.good c.requires.search.entries c.requires.search.entry free behind) in
    omega (arith, low, low_price m r e n one c.requires.search.proper c.requires.search.good c.requires.search.entries c.requires.search.entry free behind (omega arith) fits)

pub returns-then-request-end-clause-least : goal.returns-then-request-end-clause-least
returns-then-request-end-clause-least g c =
    let m = c.args.self.now in
    let r = c.args.request.now in
    let e = c.args.entry.now in
    let n = c.args.entries in
    let end = e.first + e.pages in
    let one : r.granule ≡ 1 = search rules in
    let free : IsAvailableBlock e = (c.requires.search.free, search rules) in
    let behind : ¬ IsAvailable (page_at m end) = λ k. true≢false (sym ((c.is_available_at.ensures (page_at m end) c.requires.above).1 k) ∙ c.if-is_available_at.false) in
    let fits : e.first + r.pages ≤ min end r.limit = omega (arith, c.min.ensures) in
    let low = c.edge_saves-low_saves.ensures (page_below m e.first) (page_at m e.first) c.requires.below (first_on m r e n one c.requires.search.proper c.requires.search.good c.requires.search.entries c.requires.search.entry free behind) in
    let paid = low_price m r e n one c.requires.search.proper c.requires.search.good c.requires.search.entries c.requires.search.entry free behind (omega arith) fits in
    low_least m r e n one c.requires.search.proper c.requires.search.good c.requires.search.entries c.requires.search.entry free behind (n + 1 - c.edge_saves-low_saves.result) (omega arith) fits (omega arith) (omega (arith, low, paid))

pub overflow_add-entries : goal.overflow_add-entries
overflow_add-entries g c =
    let m = c.args.self.now in
    let r = c.args.request.now in
    let e = c.args.entry.now in
    let n = c.args.entries in
    let end = e.first + e.pages in
    let one : r.granule ≡ 1 = search rules in
    let free : IsAvailableBlock e = (c.requires.search.free, search rules) in
    let behind : ¬ IsAvailable (page_at m end) = λ k. true≢false (sym ((c.is_available_at.ensures (page_at m end) c.requires.above).1 k) ∙ c.if-is_available_at.false) in
    let fits : e.first + r.pages ≤ min end r.limit = omega (arith, c.min.ensures) in
    omega (arith, few m r e n one c.requires.search.proper c.requires.search.good c.requires.search.entries c.requires.search.entry free behind)

pub overflow_sub-entries : goal.overflow_sub-entries
overflow_sub-entries g c =
    let m = c.args.self.now in
    let r = c.args.request.now in
    let e = c.args.entry.now in
    let n = c.args.entries in
    let end = e.first + e.pages in
    let one : r.granule ≡ 1 = search rules in
    let free : IsAvailableBlock e = (c.requires.search.free, search rules) in
    let behind : ¬ IsAvailable (page_at m end) = λ k. true≢false (sym ((c.is_available_at.ensures (page_at m end) c.requires.above).1 k) ∙ c.if-is_available_at.false) in
    let fits : e.first + r.pages ≤ min end r.limit = omega (arith, c.min.ensures) in
    let high = c.edge_saves-high_saves.ensures (page_at m end) (page_below m end) c.requires.above (last_on m r e n one c.requires.search.proper c.requires.search.good c.requires.search.entries c.requires.search.entry free behind) in
    omega (arith, high, high_price m r e n one c.requires.search.proper c.requires.search.good c.requires.search.entries c.requires.search.entry free behind (end - r.pages) (omega arith) (omega arith) (omega arith))

pub returns-clause-least : goal.returns-clause-least
returns-clause-least g c =
    let m = c.args.self.now in
    let r = c.args.request.now in
    let e = c.args.entry.now in
    let n = c.args.entries in
    let end = e.first + e.pages in
    let one : r.granule ≡ 1 = search rules in
    let free : IsAvailableBlock e = (c.requires.search.free, search rules) in
    let behind : ¬ IsAvailable (page_at m end) = λ k. true≢false (sym ((c.is_available_at.ensures (page_at m end) c.requires.above).1 k) ∙ c.if-is_available_at.false) in
    let fits : e.first + r.pages ≤ min end r.limit = omega (arith, c.min.ensures) in
    let low = c.edge_saves-low_saves.ensures (page_below m e.first) (page_at m e.first) c.requires.below (first_on m r e n one c.requires.search.proper c.requires.search.good c.requires.search.entries c.requires.search.entry free behind) in
    let high = c.edge_saves-high_saves.ensures (page_at m end) (page_below m end) c.requires.above (last_on m r e n one c.requires.search.proper c.requires.search.good c.requires.search.entries c.requires.search.entry free behind) in
    let paid_low = low_price m r e n one c.requires.search.proper c.requires.search.good c.requires.search.entries c.requires.search.entry free behind (omega arith) fits in
    let paid_high = high_price m r e n one c.requires.search.proper c.requires.search.good c.requires.search.entries c.requires.search.entry free behind (end - r.pages) (omega arith) (omega arith) (omega arith) in
    rw c.better_of.ensures (two_least m r e n one c.requires.search.proper c.requires.search.good c.requires.search.entries c.requires.search.entry free behind (n + 1 - c.edge_saves-low_saves.result) (n + 1 - c.edge_saves-high_saves.result) (end - r.pages) (omega arith) (omega arith) (omega arith) (omega (arith, low, paid_low)) (omega (arith, high, paid_high)))
