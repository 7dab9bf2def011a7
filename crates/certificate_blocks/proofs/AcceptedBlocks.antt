-- The block of an accepted certificate.
use Rattle.std.proofs.Common.{◌≡◌, ℕ, ◌+◌, ◌*◌, ◌^◌, ◌<◌, ◌≤◌, ◌==◌, Bool, true, false, cond, IsTrue, List, [], ◌∷◌, ◌++◌, length, map, filter, Option, Some, None, Result, Ok, Err, refl, sym, ap, subst, ◌∙◌, arith, length-append, lit<}
use Rattle.std.specs.List.{AllByRecursion, AllZip}
use Rattle.std.proofs.lemmas.List.{length-map}
use Rattle.page_ranges.specs.declared.ranges.Descriptor.{Descriptor}
use Rattle.page_ranges.specs.declared.ranges.Owner.TheVariants.{Pages}
use Rattle.page_ranges.specs.MemoryTypes.{conventional}
use Rattle.page_ranges.specs.Memory.{Page, IsProperMemory}
use Rattle.page_ranges.specs.MemoryMap.{memory_map, memory_of}
use Rattle.page_ranges.proofs.EntryCounts.{two_more}
use Rattle.page_ranges.proofs.Maps.{memory_of-proper, map_of_memory_of}
use Rattle.placement_certificate.specs.declared.certificates.Request.{Request}
use Rattle.placement_certificate.specs.declared.certificates.Bound.{Bound}
use Rattle.placement_certificate.specs.Placement.{range_at}
use Rattle.placement_certificate.specs.Certificates.{CertificateValue, IsTrueLeast, IsTrueBound, conventional_entries}
use Rattle.placement_certificate.specs.Acceptance.{IsAccepted}
use Rattle.certificate_blocks.specs.declared.faults.BlockFault.{BlockFault}
use Rattle.certificate_blocks.specs.declared.faults.BlockFault.TheVariants as fault
use Rattle.certificate_blocks.specs.BlockText.{entry_words, bound_words, request_words, bound_lines, answer_lines, block_lines, block_text}
use Rattle.certificate_blocks.specs.Blocks.{most_block_lines, block_said}
use Rattle.certificate_blocks.specs.BlockChecks.{Judges, IsVerdict}
use Rattle.certificate_blocks.specs.BlockLaws.{HasEntryNumbers, HasRequestNumbers, HasLeastNumbers, HasBoundNumbers, HasBlockNumbers, IsAcceptedBlock, SaysAccepted}
use Rattle.certificate_blocks.proofs.BlockParts.{Parts}
use Rattle.certificate_blocks.proofs.BlockReadBack.{read_back}

-- ---- entries that are chosen

all_chosen : (P : Descriptor → Type 0) (test : Descriptor → Bool) (es : List Descriptor) → AllByRecursion P es → AllByRecursion P (filter test es)
all_chosen P test [] a = tt
all_chosen P test (e ∷ es) a =
    elim (test e) as (λ b. AllByRecursion P (cond b (e ∷ filter test es) (filter test es))) [ true ↦ (a.0, all_chosen P test es a.1) | false ↦ all_chosen P test es a.1 ]

no_more_chosen : (test : Descriptor → Bool) (es : List Descriptor) → length (filter test es) ≤ length es
no_more_chosen test [] = omega arith
no_more_chosen test (e ∷ es) =
    let rest = no_more_chosen test es in
    elim (test e) as (λ b. length (cond b (e ∷ filter test es) (filter test es)) ≤ length (e ∷ es)) [ true ↦ omega (arith, rest) | false ↦ omega (arith, rest) ]

-- ---- numbers of true bounds

module _ (m : List Page) (proper : IsProperMemory m) (r : Request) (h : HasRequestNumbers r) (few : length (memory_map m) ≤ most_block_lines) where
  least_numbers : (e : Descriptor) (least : Option (ℕ × ℕ)) → IsTrueLeast m r e least → HasLeastNumbers least
  least_numbers e None is = tt
  least_numbers e (Some (count, top)) is =
      let grown = two_more (range_at r top) r.mtype Pages m proper.ascending in
      let room : most_block_lines + 2 < 2 ^ 64 = lit< tt in
      (omega (arith, is.1), omega (arith, is.0.permitted.within, h.limit))

  bound_numbers : (e : Descriptor) (b : Bound) → HasEntryNumbers e → IsTrueBound m r e b → HasBoundNumbers b
  bound_numbers e b n is = record { first = omega (arith, n.first, is.first); pages = omega (arith, n.pages, is.pages); least = least_numbers e b.least is.least }

  all_bounds : (es : List Descriptor) (bs : List Bound) → AllByRecursion HasEntryNumbers es → AllZip (IsTrueBound m r) es bs → AllByRecursion HasBoundNumbers bs × (length bs ≡ length es)
  all_bounds [] [] a z = (tt, refl)
  all_bounds [] (b ∷ bs) a z = absurd z
  all_bounds (e ∷ es) [] a z = absurd z
  all_bounds (e ∷ es) (b ∷ bs) a z =
      let rest = all_bounds es bs a.1 z.1 in
      ((bound_numbers e b a.0 z.0, rest.0), omega (arith, rest.1))

-- ---- the block

abbrev read : Parts → Result Parts ℕ
read parts = Ok parts

same_parts : (x y : Parts) → read x ≡ read y → x ≡ y
same_parts x y e = cc

module _ (entries : List Descriptor) (r : Request) (c : CertificateValue) (is : IsAccepted entries r c) (fit : AllByRecursion HasEntryNumbers entries) (request : HasRequestNumbers r) (few : 2 * length entries + 6 ≤ most_block_lines) where
  abbrev memory : List Page
  memory = memory_of entries

  proper : IsProperMemory memory
  proper = memory_of-proper entries is.is_map

  same_map : memory_map memory ≡ entries
  same_map = map_of_memory_of entries is.is_map

  bounds : AllByRecursion HasBoundNumbers c.bounds × (length c.bounds ≡ length (conventional_entries memory))
  bounds =
      let short : length (memory_map memory) ≤ most_block_lines = omega (arith, ap length same_map) in
      let numbers : AllByRecursion HasEntryNumbers (memory_map memory) = subst (AllByRecursion HasEntryNumbers) (sym same_map) fit in
      all_bounds memory proper r request short (conventional_entries memory) c.bounds (all_chosen HasEntryNumbers (λ e. e.mtype == conventional) (memory_map memory) numbers) is.is_true.bounds

  numbers : HasBlockNumbers entries r c
  numbers = record { entries_fit = fit; request_fits = request; bounds_fit = bounds.0; answer_fits = omega (arith, is.is_true.answer.permitted.within, request.limit) }

  few_lines : length (block_lines entries r c) ≤ most_block_lines
  few_lines =
      omega (
        arith,
        bounds.1,
        no_more_chosen (λ e. e.mtype == conventional) (memory_map memory),
        ap length same_map,
        length-append (map entry_words entries ++ (request_words r ∷ bound_lines c.bounds)) (answer_lines c.answer),
        length-append (map entry_words entries) (request_words r ∷ bound_lines c.bounds),
        length-map entries entry_words,
        length-map c.bounds bound_words,
      )

  reads_back : block_said (block_text entries r c) ≡ Ok (entries, r, c)
  reads_back = read_back entries r c numbers few_lines

  same_verdict : (accepted : Bool) → IsVerdict (block_text entries r c) accepted → IsTrue accepted
  same_verdict accepted v =
      let same : (v.map, v.request, v.certificate) ≡ (entries, r, c) = same_parts _ _ (sym v.block ∙ reads_back) in
      v.accepts.1 (subst (λ (t : Parts). IsAccepted t.0 t.1 t.2) (sym same) is)

  said : (can_fail : Bool) (before after : Option (List ℕ)) (answer : Result Bool BlockFault) → Judges can_fail (block_text entries r c) before after answer → SaysAccepted answer
  said can_fail before after (Ok accepted) judged = same_verdict accepted judged
  said can_fail before after (Err (fault.Line number)) judged = absurd (let same = sym judged ∙ reads_back in cc)
  said can_fail before after (Err fault.Read) judged = tt
  said can_fail before after (Err fault.Write) judged = tt
  said can_fail before after (Err fault.OutOfMemory) judged = tt

pub accepted_block : (entries : List Descriptor) (r : Request) (c : CertificateValue) → IsAccepted entries r c → AllByRecursion HasEntryNumbers entries → HasRequestNumbers r → 2 * length entries + 6 ≤ most_block_lines → IsAcceptedBlock entries r c
accepted_block entries r c is fit request few = record { read_back = reads_back entries r c is fit request few; judged = said entries r c is fit request few }
