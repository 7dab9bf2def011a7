use Rattle.std.proofs.Common.{◌≡◌, ◌+◌, ◌-◌, ◌*◌, ℕ, List, length, Some, take, drop, refl, sym, ap, ◌∙◌, arith}
use Rattle.std.specs.Option.{option_map}
use Rattle.raw_pool.specs.Bytes.{part, word}
use Rattle.raw_pool.specs.Blocks.{Block}
use Rattle.raw_pool.specs.FreeList.{block_in}
use Rattle.raw_pool.specs.Searches.{IsStore}
use Rattle.raw_pool.proofs.Gives.{Held, held}
use Rattle.raw_pool.proofs.Regions.{Found, found, region_store}
use Rattle.raw_pool.proofs.store.Store.bytes_of.Goals as goal

pub overflow_mul-start : goal.overflow_mul-start
overflow_mul-start g c =
    let f : Found c.args.self.now.region.bytes.set c.args.self.now.region.marks.set c.args.cell c.in_ok-size.size = found c.args.self.now.region.bytes.set c.args.self.now.region.marks.set c.args.cell c.in_ok-size.size (sym c.in_ok-size.was ∙ c.size_of.ensures) in
    let s : IsStore c.args.self.now.region.bytes c.args.self.now.region.marks c.args.self.now.cells c.args.self.now.head = region_store c.args.self.now.region.bytes c.args.self.now.region.marks c.args.self.now.cells c.args.self.now.head c.args.cell c.requires.0 f.marked_in in
    let b : Held c.args.self.now.region.bytes.set c.args.self.now.cells c.args.cell = held c.args.self.now.region.bytes c.args.self.now.region.marks c.args.self.now.cells c.args.self.now.head c.args.cell s f.marked_in f.mark in
    omega (arith, b.within, s.few)

pub overflow_add-start : goal.overflow_add-start
overflow_add-start g c =
    let f : Found c.args.self.now.region.bytes.set c.args.self.now.region.marks.set c.args.cell c.in_ok-size.size = found c.args.self.now.region.bytes.set c.args.self.now.region.marks.set c.args.cell c.in_ok-size.size (sym c.in_ok-size.was ∙ c.size_of.ensures) in
    let s : IsStore c.args.self.now.region.bytes c.args.self.now.region.marks c.args.self.now.cells c.args.self.now.head = region_store c.args.self.now.region.bytes c.args.self.now.region.marks c.args.self.now.cells c.args.self.now.head c.args.cell c.requires.0 f.marked_in in
    let b : Held c.args.self.now.region.bytes.set c.args.self.now.cells c.args.cell = held c.args.self.now.region.bytes c.args.self.now.region.marks c.args.self.now.cells c.args.self.now.head c.args.cell s f.marked_in f.mark in
    omega (arith, b.within, s.few)

pub overflow_add-result : goal.overflow_add-result
overflow_add-result g c =
    let f : Found c.args.self.now.region.bytes.set c.args.self.now.region.marks.set c.args.cell c.in_ok-size.size = found c.args.self.now.region.bytes.set c.args.self.now.region.marks.set c.args.cell c.in_ok-size.size (sym c.in_ok-size.was ∙ c.size_of.ensures) in
    let s : IsStore c.args.self.now.region.bytes c.args.self.now.region.marks c.args.self.now.cells c.args.self.now.head = region_store c.args.self.now.region.bytes c.args.self.now.region.marks c.args.self.now.cells c.args.self.now.head c.args.cell c.requires.0 f.marked_in in
    let b : Held c.args.self.now.region.bytes.set c.args.self.now.cells c.args.cell = held c.args.self.now.region.bytes c.args.self.now.region.marks c.args.self.now.cells c.args.self.now.head c.args.cell s f.marked_in f.mark in
    omega (arith, b.within, s.few, f.size_is, b.size)

pub slice_bounds-result-end : goal.slice_bounds-result-end
slice_bounds-result-end g c =
    let f : Found c.args.self.now.region.bytes.set c.args.self.now.region.marks.set c.args.cell c.in_ok-size.size = found c.args.self.now.region.bytes.set c.args.self.now.region.marks.set c.args.cell c.in_ok-size.size (sym c.in_ok-size.was ∙ c.size_of.ensures) in
    let s : IsStore c.args.self.now.region.bytes c.args.self.now.region.marks c.args.self.now.cells c.args.self.now.head = region_store c.args.self.now.region.bytes c.args.self.now.region.marks c.args.self.now.cells c.args.self.now.head c.args.cell c.requires.0 f.marked_in in
    let b : Held c.args.self.now.region.bytes.set c.args.self.now.cells c.args.cell = held c.args.self.now.region.bytes c.args.self.now.region.marks c.args.self.now.cells c.args.self.now.head c.args.cell s f.marked_in f.mark in
    let n : length c.bytes.result.now ≡ length c.args.self.now.region.bytes.set = ap length c.bytes.ensures in
    omega (arith, b.set, f.size_is, b.size, n)

bytes-part : (bytes : List ℕ) (cell : ℕ) → (block_in bytes cell).bytes ≡ part bytes (32 * cell + 8) (word bytes (32 * cell))
unfolding block_in
bytes-part bytes cell = refl

pub returns : goal.returns
returns g c =
    let f : Found c.args.self.now.region.bytes.set c.args.self.now.region.marks.set c.args.cell c.in_ok-size.size = found c.args.self.now.region.bytes.set c.args.self.now.region.marks.set c.args.cell c.in_ok-size.size (sym c.in_ok-size.was ∙ c.size_of.ensures) in
    let s : IsStore c.args.self.now.region.bytes c.args.self.now.region.marks c.args.self.now.cells c.args.self.now.head = region_store c.args.self.now.region.bytes c.args.self.now.region.marks c.args.self.now.cells c.args.self.now.head c.args.cell c.requires.0 f.marked_in in
    let b : Held c.args.self.now.region.bytes.set c.args.self.now.cells c.args.cell = held c.args.self.now.region.bytes c.args.self.now.region.marks c.args.self.now.cells c.args.self.now.head c.args.cell s f.marked_in f.mark in
    let k : 32 * c.args.cell + 8 + c.in_ok-size.size - (32 * c.args.cell + 8) ≡ word c.args.self.now.region.bytes.set (32 * c.args.cell) = omega (arith, f.size_is) in
    ap Some (ap (λ (n : ℕ). take n (drop (32 * c.args.cell + 8) c.bytes.result.now)) k ∙ ap (λ (xs : List ℕ). part xs (32 * c.args.cell + 8) (word c.args.self.now.region.bytes.set (32 * c.args.cell))) c.bytes.ensures
    ∙ sym (bytes-part c.args.self.now.region.bytes.set c.args.cell))
    ∙ sym (ap (option_map (λ (x : Block). x.bytes)) f.block)
