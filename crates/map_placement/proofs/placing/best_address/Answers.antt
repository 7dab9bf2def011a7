use Rattle.std.proofs.Common.{◌≡◌, ◌∙◌, ℕ, List, Some, false, sym, ap, subst, arith}
use Rattle.descriptor_table.specs.Reserves.{Table}
use Rattle.page_ranges.specs.Memory.{Page}
use Rattle.page_ranges.specs.MemoryTypes.{is_bad_type}
use Rattle.page_ranges.specs.Runs.{pages_of}
use Rattle.placement_chooser.specs.Starts.{IsCertifiedStart}
use Rattle.page_services.specs.PageRules.{max_address, placement_request}
use Rattle.page_services.proofs.Granules.{asked_request, named_type, placement_request_limit, placement_request_proper}
use Rattle.map_placement.proofs.Found.{found}
use Rattle.map_placement.proofs.placing.best_address.Goals as goal

pub best_start-requires : goal.best_start-requires
best_start-requires g c =
    let granule = c.granule-granule.result in let named = c.in_ok-named.named in
    let asked = asked_request granule max_address named c.args.pages c.args.limit c.in-Some.request (sym c.placement_request.ensures ∙ c.in-Some.is) in
    let (good, same) = named_type c.args.mtype named (sym c.in_ok-named.ensures) in
    placement_request_proper granule max_address named c.args.pages c.args.limit c.in-Some.request c.granule-granule.ensures.valid (subst (λ (t : ℕ). is_bad_type t ≡ false) same good) (omega arith) asked

pub returns-in-Some-best_start : goal.returns-in-Some-best_start
returns-in-Some-best_start g c =
    let machine = c.args.machine.now in let named = c.in_ok-named.named in
    let asked = asked_request c.granule-granule.result max_address named c.args.pages c.args.limit c.in-Some.request (sym c.placement_request.ensures ∙ c.in-Some.is) in
    let (good, same) = named_type c.args.mtype named (sym c.in_ok-named.ensures) in
    let at_machine = subst (λ (n : ℕ). placement_request n max_address c.args.mtype c.args.pages c.args.limit ≡ Some c.in-Some.request) c.granule-granule.ensures.granule (subst (λ (t : ℕ). placement_request c.granule-granule.result max_address t c.args.pages c.args.limit ≡ Some c.in-Some.request) (sym same) asked) in
    let memory = ap (λ (t : Table). t.pages) c.in-Ok.ensures ∙ ap pages_of c.runs.ensures.runs in
    found machine c.args.mtype c.args.pages c.args.limit c.in-Some.request c.in-Some-best_start.first good (omega arith) at_machine (subst (λ (m : List Page). IsCertifiedStart m c.in-Some.request c.in-Some-best_start.first) memory c.in-Some-best_start.ensures.best)

pub overflow_mul-result : goal.overflow_mul-result
overflow_mul-result g c =
    let granule = c.granule-granule.result in let named = c.in_ok-named.named in
    let asked = asked_request granule max_address named c.args.pages c.args.limit c.in-Some.request (sym c.placement_request.ensures ∙ c.in-Some.is) in
    let (good, same) = named_type c.args.mtype named (sym c.in_ok-named.ensures) in
    let proper = placement_request_proper granule max_address named c.args.pages c.args.limit c.in-Some.request c.granule-granule.ensures.valid (subst (λ (t : ℕ). is_bad_type t ≡ false) same good) (omega arith) asked in
    let (certificate, is, answered) = c.in-Some-best_start.ensures.best in
    let limit = placement_request_limit granule max_address named c.args.pages c.args.limit c.in-Some.request (omega (arith, c.ranges.limit.fits)) asked in
    omega (arith, is.answer.permitted.within, answered, limit, proper.some)
