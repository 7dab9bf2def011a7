-- A certificate block, read part after part.
use Rattle.std.proofs.Common.{◌≡◌, ℕ, Bool, List, Option, Some, None, Result, Ok, Err, Vec, codes, refl, sym, ap}
use Rattle.page_ranges.specs.declared.ranges.Descriptor.{Descriptor}
use Rattle.placement_certificate.specs.declared.certificates.Request.{Request}
use Rattle.placement_certificate.specs.declared.certificates.Bound.{Bound}
use Rattle.placement_certificate.specs.Certificates.{CertificateValue}
use Rattle.certificate_blocks.specs.declared.faults.BlockFault.{BlockFault}
use Rattle.certificate_blocks.specs.BlockLines.{name_alone, number_after, entry_of_words, request_of, bound_of}
use Rattle.certificate_blocks.specs.Blocks.{LinesLeft, Reading, ◌>>=◌, value, times, line, no_line, block}
use Rattle.certificate_blocks.specs.BlockReads.{Reads}
use Rattle.certificate_blocks.proofs.BlockSteps.{failed, went_on}

abbrev pub Parts : Type 0
Parts = List Descriptor × Request × CertificateValue

-- ---- what is still to be read after a part

abbrev pub after_rest : List Descriptor → Request → List Bound → ℕ → Unit {0} → Reading Parts
after_rest entries request bounds answer done = value (entries, request, record { bounds = bounds; answer = answer })

abbrev pub after_foot : List Descriptor → Request → List Bound → ℕ → Unit {0} → Reading Parts
after_foot entries request bounds answer done = no_line >>= after_rest entries request bounds answer

abbrev pub after_answer : List Descriptor → Request → List Bound → ℕ → Reading Parts
after_answer entries request bounds answer = line (name_alone (codes "end")) >>= after_foot entries request bounds answer

abbrev pub after_bounds : List Descriptor → Request → List Bound → Reading Parts
after_bounds entries request bounds = line (number_after (codes "answer")) >>= after_answer entries request bounds

abbrev pub after_bound_count : List Descriptor → Request → ℕ → Reading Parts
after_bound_count entries request n = times n (line bound_of) >>= after_bounds entries request

abbrev pub after_request : List Descriptor → Request → Reading Parts
after_request entries request = line (number_after (codes "bounds")) >>= after_bound_count entries request

abbrev pub after_entries : List Descriptor → Reading Parts
after_entries entries = line request_of >>= after_request entries

abbrev pub after_entry_count : ℕ → Reading Parts
after_entry_count n = times n (line entry_of_words) >>= after_entries

abbrev pub after_head : Unit {0} → Reading Parts
after_head done = line (number_after (codes "map")) >>= after_entry_count

-- ---- a part, and what is still to be read

-- these lines, and then the others, end so
module _ (can_fail : Bool) {Y : Type 0} (shown : Y → Parts) (result : Result Y BlockFault) (new : Option LinesLeft) where
  pub head_then : (s t : Option LinesLeft) (x : Unit {0}) → Reads can_fail (λ (x : Unit {0}). x) (line (name_alone (codes "certificate"))) s (Ok x) t → Reads can_fail shown (after_head x) t result new → Reads can_fail shown (line (name_alone (codes "certificate")) >>= after_head) s result new
  head_then s t x f r = went_on can_fail (λ (x : Unit {0}). x) shown (line (name_alone (codes "certificate"))) (after_head) s t new x result f r

  pub entry_count_then : (s t : Option LinesLeft) (x : ℕ) → Reads can_fail (λ (x : ℕ). x) (line (number_after (codes "map"))) s (Ok x) t → Reads can_fail shown (after_entry_count x) t result new → Reads can_fail shown (after_head tt) s result new
  entry_count_then s t x f r = went_on can_fail (λ (x : ℕ). x) shown (line (number_after (codes "map"))) (after_entry_count) s t new x result f r

  pub entries_then : (Z : Type 0) (n : ℕ) (s t : Option LinesLeft) (x : Vec Descriptor Z) → Reads can_fail (λ (x : Vec Descriptor Z). x.items) (times n (line entry_of_words)) s (Ok x) t → Reads can_fail shown (after_entries x.items) t result new → Reads can_fail shown (after_entry_count n) s result new
  entries_then Z n s t x f r = went_on can_fail (λ (x : Vec Descriptor Z). x.items) shown (times n (line entry_of_words)) (after_entries) s t new x result f r

  pub request_then : (entries : List Descriptor) (s t : Option LinesLeft) (x : Request) → Reads can_fail (λ (x : Request). x) (line request_of) s (Ok x) t → Reads can_fail shown (after_request entries x) t result new → Reads can_fail shown (after_entries entries) s result new
  request_then entries s t x f r = went_on can_fail (λ (x : Request). x) shown (line request_of) (after_request entries) s t new x result f r

  pub bound_count_then : (entries : List Descriptor) (request : Request) (s t : Option LinesLeft) (x : ℕ) → Reads can_fail (λ (x : ℕ). x) (line (number_after (codes "bounds"))) s (Ok x) t → Reads can_fail shown (after_bound_count entries request x) t result new → Reads can_fail shown (after_request entries request) s result new
  bound_count_then entries request s t x f r = went_on can_fail (λ (x : ℕ). x) shown (line (number_after (codes "bounds"))) (after_bound_count entries request) s t new x result f r

  pub bounds_then : (Z : Type 0) (entries : List Descriptor) (request : Request) (n : ℕ) (s t : Option LinesLeft) (x : Vec Bound Z) → Reads can_fail (λ (x : Vec Bound Z). x.items) (times n (line bound_of)) s (Ok x) t → Reads can_fail shown (after_bounds entries request x.items) t result new → Reads can_fail shown (after_bound_count entries request n) s result new
  bounds_then Z entries request n s t x f r = went_on can_fail (λ (x : Vec Bound Z). x.items) shown (times n (line bound_of)) (after_bounds entries request) s t new x result f r

  pub answer_then : (entries : List Descriptor) (request : Request) (bounds : List Bound) (s t : Option LinesLeft) (x : ℕ) → Reads can_fail (λ (x : ℕ). x) (line (number_after (codes "answer"))) s (Ok x) t → Reads can_fail shown (after_answer entries request bounds x) t result new → Reads can_fail shown (after_bounds entries request bounds) s result new
  answer_then entries request bounds s t x f r = went_on can_fail (λ (x : ℕ). x) shown (line (number_after (codes "answer"))) (after_answer entries request bounds) s t new x result f r

  pub foot_then : (entries : List Descriptor) (request : Request) (bounds : List Bound) (answer : ℕ) (s t : Option LinesLeft) (x : Unit {0}) → Reads can_fail (λ (x : Unit {0}). x) (line (name_alone (codes "end"))) s (Ok x) t → Reads can_fail shown (after_foot entries request bounds answer x) t result new → Reads can_fail shown (after_answer entries request bounds answer) s result new
  foot_then entries request bounds answer s t x f r = went_on can_fail (λ (x : Unit {0}). x) shown (line (name_alone (codes "end"))) (after_foot entries request bounds answer) s t new x result f r

  pub rest_then : (entries : List Descriptor) (request : Request) (bounds : List Bound) (answer : ℕ) (s t : Option LinesLeft) (x : Unit {0}) → Reads can_fail (λ (x : Unit {0}). x) (no_line) s (Ok x) t → Reads can_fail shown (after_rest entries request bounds answer x) t result new → Reads can_fail shown (after_foot entries request bounds answer tt) s result new
  rest_then entries request bounds answer s t x f r = went_on can_fail (λ (x : Unit {0}). x) shown (no_line) (after_rest entries request bounds answer) s t new x result f r

module _ (can_fail : Bool) {Y : Type 0} (shown : Y → Parts) where
  pub head_failed : (s t : Option LinesLeft) (e : BlockFault) → Reads can_fail (λ (x : Unit {0}). x) (line (name_alone (codes "certificate"))) s (Err e) t → Reads can_fail shown (line (name_alone (codes "certificate")) >>= after_head) s (Err e) None
  head_failed s t e f = failed can_fail (λ (x : Unit {0}). x) shown (line (name_alone (codes "certificate"))) (after_head) s t None e f

  pub entry_count_failed : (s t : Option LinesLeft) (e : BlockFault) → Reads can_fail (λ (x : ℕ). x) (line (number_after (codes "map"))) s (Err e) t → Reads can_fail shown (after_head tt) s (Err e) None
  entry_count_failed s t e f = failed can_fail (λ (x : ℕ). x) shown (line (number_after (codes "map"))) (after_entry_count) s t None e f

  pub entries_failed : (Z : Type 0) (n : ℕ) (s t : Option LinesLeft) (e : BlockFault) → Reads can_fail (λ (x : Vec Descriptor Z). x.items) (times n (line entry_of_words)) s (Err e) t → Reads can_fail shown (after_entry_count n) s (Err e) None
  entries_failed Z n s t e f = failed can_fail (λ (x : Vec Descriptor Z). x.items) shown (times n (line entry_of_words)) (after_entries) s t None e f

  pub request_failed : (entries : List Descriptor) (s t : Option LinesLeft) (e : BlockFault) → Reads can_fail (λ (x : Request). x) (line request_of) s (Err e) t → Reads can_fail shown (after_entries entries) s (Err e) None
  request_failed entries s t e f = failed can_fail (λ (x : Request). x) shown (line request_of) (after_request entries) s t None e f

  pub bound_count_failed : (entries : List Descriptor) (request : Request) (s t : Option LinesLeft) (e : BlockFault) → Reads can_fail (λ (x : ℕ). x) (line (number_after (codes "bounds"))) s (Err e) t → Reads can_fail shown (after_request entries request) s (Err e) None
  bound_count_failed entries request s t e f = failed can_fail (λ (x : ℕ). x) shown (line (number_after (codes "bounds"))) (after_bound_count entries request) s t None e f

  pub bounds_failed : (Z : Type 0) (entries : List Descriptor) (request : Request) (n : ℕ) (s t : Option LinesLeft) (e : BlockFault) → Reads can_fail (λ (x : Vec Bound Z). x.items) (times n (line bound_of)) s (Err e) t → Reads can_fail shown (after_bound_count entries request n) s (Err e) None
  bounds_failed Z entries request n s t e f = failed can_fail (λ (x : Vec Bound Z). x.items) shown (times n (line bound_of)) (after_bounds entries request) s t None e f

  pub answer_failed : (entries : List Descriptor) (request : Request) (bounds : List Bound) (s t : Option LinesLeft) (e : BlockFault) → Reads can_fail (λ (x : ℕ). x) (line (number_after (codes "answer"))) s (Err e) t → Reads can_fail shown (after_bounds entries request bounds) s (Err e) None
  answer_failed entries request bounds s t e f = failed can_fail (λ (x : ℕ). x) shown (line (number_after (codes "answer"))) (after_answer entries request bounds) s t None e f

  pub foot_failed : (entries : List Descriptor) (request : Request) (bounds : List Bound) (answer : ℕ) (s t : Option LinesLeft) (e : BlockFault) → Reads can_fail (λ (x : Unit {0}). x) (line (name_alone (codes "end"))) s (Err e) t → Reads can_fail shown (after_answer entries request bounds answer) s (Err e) None
  foot_failed entries request bounds answer s t e f = failed can_fail (λ (x : Unit {0}). x) shown (line (name_alone (codes "end"))) (after_foot entries request bounds answer) s t None e f

  pub rest_failed : (entries : List Descriptor) (request : Request) (bounds : List Bound) (answer : ℕ) (s t : Option LinesLeft) (e : BlockFault) → Reads can_fail (λ (x : Unit {0}). x) (no_line) s (Err e) t → Reads can_fail shown (after_foot entries request bounds answer tt) s (Err e) None
  rest_failed entries request bounds answer s t e f = failed can_fail (λ (x : Unit {0}). x) shown (no_line) (after_rest entries request bounds answer) s t None e f

  pub all_read : (parts : Parts) (y : Y) (s : Option LinesLeft) → shown y ≡ parts → Reads can_fail shown (value parts) s (Ok y) s
  all_read parts y None e = tt
  all_read parts y (Some left) e = (left, refl, ap (λ (p : Parts). Ok (p, left)) (sym e))

  pub whole : (result : Result Y BlockFault) (s new : Option LinesLeft) → Reads can_fail shown (line (name_alone (codes "certificate")) >>= after_head) s result new → Reads can_fail shown block s result new
  unfolding block
  whole result s new r = r
