use Rattle.std.proofs.Common.{◌≡◌, ◌≤◌, ◌<◌, ◌+◌, ◌*◌, ◌==◌, ◌∷◌, [], cond, ℕ, List, Some, length, sym, ap, ◌∙◌, subst, arith}
use Rattle.byteorder.specs.Endian.{little_bytes}
use Rattle.raw_pool.specs.Bytes.{Bytes, extended, put}
use Rattle.raw_pool.specs.Blocks.{taken}
use Rattle.raw_pool.specs.Searches.{IsStore, pool_of}
use Rattle.raw_pool.specs.Stores.{page_end}
use Rattle.raw_pool.proofs.Takes.{placed, lead_within, lead_set, run_set, run_within, header_set}
use Rattle.raw_pool.proofs.store.Store.place.Given.{Over}
use Rattle.raw_pool.proofs.store.Store.place.Goals as goal

pub cut-rest-requires-clause-set : goal.cut-rest-requires-clause-set
cut-rest-requires-clause-set g c = run_set c.args.self.now.region.bytes c.args.self.now.region.marks c.args.self.now.cells c.args.self.now.head c.args.last c.args.at c.args.need c.requires.store c.requires.scan c.requires.within

pub cut-rest-requires-clause-within : goal.cut-rest-requires-clause-within
cut-rest-requires-clause-within g c = run_within c.args.self.now.region.bytes c.args.self.now.region.marks c.args.self.now.cells c.args.self.now.head c.args.last c.args.at c.args.need c.requires.store c.requires.scan c.requires.within

pub set_link-requires-clause-few : goal.set_link-requires-clause-few
set_link-requires-clause-few g c =
    let w = lead_within c.args.self.now.region.bytes c.args.self.now.region.marks c.args.self.now.cells c.args.self.now.head c.args.last c.args.at c.args.need c.requires.store c.requires.scan in
    rw c.cut-rest.ensures.others.3 (c.requires.store.few, w)

pub set_link-requires-clause-set : goal.set_link-requires-clause-set
set_link-requires-clause-set g c = λ h.
    let n = lead_set c.args.self.now.region.bytes c.args.self.now.region.marks c.args.self.now.cells c.args.self.now.head c.args.last c.args.at c.args.need c.requires.store c.requires.scan c.requires.within (subst (λ (k : ℕ). c.args.last < k) c.cut-rest.ensures.others.3 h) in
    omega (arith, n, c.cut-rest.ensures.cut.longer)

pub overwrite_word-requires : goal.overwrite_word-requires
overwrite_word-requires g c =
    let w = lead_within c.args.self.now.region.bytes c.args.self.now.region.marks c.args.self.now.cells c.args.self.now.head c.args.last c.args.at c.args.need c.requires.store c.requires.scan in
    let two : List ℕ = c.cut-rest.new.self.region.bytes.set in
    let e : c.cut-rest.new.self.cells ≡ c.args.self.now.cells = c.cut-rest.ensures.others.3 in
    let n : 32 * c.args.at + 8 ≤ length (cond (c.args.last == c.cut-rest.new.self.cells) two (put two (32 * c.args.last + 8) (little_bytes 8 c.cut-rest.result))) =
    header_set two c.cut-rest.new.self.cells c.args.last c.cut-rest.result (32 * c.args.at + 8)
    (λ h. let m = lead_set c.args.self.now.region.bytes c.args.self.now.region.marks c.args.self.now.cells c.args.self.now.head c.args.last c.args.at c.args.need c.requires.store c.requires.scan c.requires.within (omega (arith, e, h)) in omega (arith, m, c.cut-rest.ensures.cut.longer))
    (omega (arith, w, e)) (omega (arith, c.cut-rest.ensures.cut.longer, run_set c.args.self.now.region.bytes c.args.self.now.region.marks c.args.self.now.cells c.args.self.now.head c.args.last c.args.at c.args.need c.requires.store c.requires.scan c.requires.within)) in
    rw c.set_link.ensures.bytes n

-- the store that the four steps leave
abbrev done : (g : Over) → goal.After-mark g → Type 0
done g c =
    (pool_of c.mark.new.self.region.bytes c.mark.new.self.region.marks c.args.self.now.cells ≡ taken (pool_of c.args.self.now.region.bytes c.args.self.now.region.marks c.args.self.now.cells) c.args.size (Some c.args.at))
    × IsStore c.mark.new.self.region.bytes c.mark.new.self.region.marks c.args.self.now.cells c.mark.new.self.head

is_done : (g : Over) (c : goal.After-mark g) → done g c
is_done g c =
    placed c.args.self.now.region.bytes c.args.self.now.region.marks c.cut-rest.new.self.region.bytes c.set_link.new.self.region.bytes c.mark.new.self.region.bytes c.mark.new.self.region.marks c.args.self.now.cells c.args.self.now.head
    c.cut-rest.new.self.cells c.cut-rest.new.self.head c.mark.new.self.head c.args.last c.args.at c.args.size c.args.need c.cut-rest.result (page_end c.set_link.new.self.cells c.args.at) c.requires.store c.requires.scan c.requires.within (omega arith) c.requires.need c.requires.fits
    (omega arith) (omega arith) c.cut-rest.ensures.cut c.cut-rest.ensures.others.0 c.cut-rest.ensures.others.3 c.cut-rest.ensures.others.1 c.set_link.ensures.bytes
    (c.mark.ensures.others.1 ∙ c.set_link.ensures.head) (c.mark.ensures.others.0 ∙ c.overwrite_word.ensures.bytes)
    (c.mark.ensures.marks ∙ ap (λ (m : Bytes). record { set = put (extended m.set (page_end c.set_link.new.self.cells c.args.at)) c.args.at (1 ∷ []); room = m.room }) (c.overwrite_word.ensures.marks ∙ c.set_link.ensures.others.0 ∙ c.cut-rest.ensures.others.2))

cells_stay : (g : Over) (c : goal.After-mark g) → c.mark.new.self.cells ≡ c.args.self.now.cells
cells_stay g c = c.mark.ensures.others.2 ∙ c.set_link.ensures.others.1 ∙ c.cut-rest.ensures.others.3

pub returns-clause-pool : goal.returns-clause-pool
returns-clause-pool g c = ap (λ (k : ℕ). pool_of c.mark.new.self.region.bytes c.mark.new.self.region.marks k) (cells_stay g c) ∙ (is_done g c).0

pub returns-clause-store : goal.returns-clause-store
returns-clause-store g c = subst (λ (k : ℕ). IsStore c.mark.new.self.region.bytes c.mark.new.self.region.marks k c.mark.new.self.head) (sym (cells_stay g c)) (is_done g c).1
