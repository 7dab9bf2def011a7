-- Which replies carry certificates: exactly those to calls that placed pages by choice.
use Rattle.std.proofs.Common.{◌≡◌, ◌↔◌, ◌≤◌, ◌<◌, ◌+◌, ◌*◌, ◌^◌, ℕ, suc, nat_le, length, ◌∙◌, ap, sym, subst, refl, inl, inr, arith, Bool, true, false, true≢false, List, [], ◌∷◌, Option, Some, None, Result, Ok, Err}
use Rattle.std.specs.Option.{is_some, option_map, option_and_then}
use Rattle.std.proofs.lemmas.Bool.{cases_Bool, cases_lt, le-leb}
use Rattle.std.proofs.lemmas.Bool.Decides.{eqb_tells}
use Rattle.page_ranges.specs.declared.statuses.Status.{Status}
use Rattle.page_ranges.specs.declared.statuses.Status.TheVariants as status
use Rattle.page_ranges.specs.MemoryTypes.{page_count}
use Rattle.page_ranges.specs.Memory.{Page, page_at, IsProperMemory}
use Rattle.placement_certificate.specs.declared.certificates.Request.{Request}
use Rattle.placement_certificate.specs.Placement.{IsPermittedStart}
use Rattle.placement_certificate.specs.Certificates.{CertificateValue}
use Rattle.page_services.specs.declared.page_book.Placed.{Placed}
use Rattle.page_services.specs.PageRules.{Book, IsBestChoice, IsPlaced, AllocatesPages, any_pages, fixed_address, if_counted, max_address, placement_request, pool_request}
use Rattle.page_services.proofs.Choices.{best_is_permitted, returned_where}
use Rattle.page_services.proofs.Granules.{counted, no_such_page}
use Rattle.pool_services.specs.Extents.{Extent, Place, first_fit, max_size, new_extent, pages_for, replaced, with_extent}
use Rattle.pool_services.specs.PoolRules.{Answer, AllocatesPool, FillsPool, IsPut, extent_request}
use Rattle.open_agents.specs.declared.items.OpenItem.{OpenItem}
use Rattle.open_agents.specs.OpenItems.{items_on}
use Rattle.protocol_services.specs.ListBytes.{handle_bytes, item_bytes}
use Rattle.protocol_services.proofs.ListSizes.{handle_bytes-length, item_bytes-length}
use Rattle.driver_connect.specs.Drivers.{Meaning}
use Rattle.boot_replies.specs.declared.replies.PoolList.{PoolList}
use Rattle.boot_calls.specs.declared.calls.Call.{Call}
use Rattle.boot_calls.specs.declared.calls.Call.TheVariants as call
use Rattle.boot_replies.specs.declared.replies.Reply.{Reply}
use Rattle.boot_replies.specs.declared.replies.Reply.TheVariants as reply
use Rattle.boot_replies.specs.Certified.{certificate_in, left_request, list_request, list_type}
use Rattle.boot_machines.specs.Machines.{IsMachine, MachineValue}
use Rattle.boot_core.specs.Machines.{Parts, State, prepared_state, AreSound}
use Rattle.boot_core.specs.PoolLists.{LocatesBuffer, ListsOpens, PutsItems}
use Rattle.boot_core.specs.Steps.{best_starts, Answers, CallRun, Serves}
use Rattle.boot_core.specs.Laws.{HasNewExtent, PlacesByChoice, AllCertifyChoices}
use Rattle.boot_calls.specs.CallNumbers.{NamesTypes}
use Rattle.boot_core.proofs.Outcomes.{outcome, stays_certifying}
use Rattle.boot_core.proofs.Soundness.{prepared_sound, stays_sound}

-- ---- what is shown of each call

-- There is a certificate exactly where certificates are returned and a choice was made, and then a
-- request for a number of pages that fits 64 bits.
record Certifies (certifies : Bool) (Chosen : Type 0) (asked : Option Request) (returned : Option CertificateValue) : Type 0 where
  carried : (is_some returned ≡ true) ↔ ((certifies ≡ true) × Chosen)
  requested : is_some returned ≡ true → (r : Request) × (asked ≡ Some r) × (r.pages < 2 ^ 64)

no_certificate : (returned : Option CertificateValue) → returned ≡ None → ¬ (is_some returned ≡ true)
no_certificate None e some = cc
no_certificate (Some c) e some = cc

-- nothing was chosen, and there is no certificate
not_chosen : (certifies : Bool) (Chosen : Type 0) (asked : Option Request) (returned : Option CertificateValue) → returned ≡ None → ¬ Chosen → Certifies certifies Chosen asked returned
not_chosen certifies Chosen asked returned none other = record {
  carried = (λ some. absurd (no_certificate returned none some), λ chosen. absurd (other chosen.1));
  requested = λ some. absurd (no_certificate returned none some);
}

chosen : (certifies : Bool) (Chosen : Type 0) (asked : Option Request) (returned : Option CertificateValue) (r : Request) → is_some returned ≡ certifies → Chosen → asked ≡ Some r → r.pages < 2 ^ 64 → Certifies certifies Chosen asked returned
chosen certifies Chosen asked returned r some is e few = record { carried = (λ s. (sym some ∙ s, is), λ c. some ∙ c.0); requested = λ s. (r, e, few) }

-- a number of 64 bits holds the number of pages of a proper memory
few_pages : (m : List Page) (r : Request) (start : ℕ) → IsProperMemory m → IsPermittedStart m r start → r.pages < 2 ^ 64
few_pages m r start proper is = elim (cases_lt page_count r.pages) [
  | inl large ↦ absurd (no_such_page m (start + page_count) (page_at m (start + page_count)) proper (omega arith) refl (is.conventional (start + page_count) (omega arith) (omega (arith, large))))
  | inr few ↦ omega (arith, few)
]

-- ---- extents

replaced_one : (test : Extent → Bool) (by : Extent → Extent) (es : List Extent) → length (replaced test (λ e. by e ∷ []) es) ≡ length es
replaced_one test by [] = refl
replaced_one test by (e ∷ es) = elim (cases_Bool (test e)) [
  | inl here ↦ rw here refl
  | inr other ↦ rw other (ap suc (replaced_one test by es))
]

one_more : (e : Extent) (es : List Extent) → length (with_extent e es) ≡ length es + 1
one_more e [] = refl
one_more e (x ∷ xs) = elim (cases_Bool (nat_le x.first e.first)) [
  | inl below ↦ rw below (omega (arith, one_more e xs))
  | inr above ↦ rw above (omega arith)
]

same_count : (m n : ℕ) → m ≡ n → ¬ (m ≡ n + 1)
same_count m n same more = omega (arith, same, more)

module _ (b : Book) (es : List Extent) (proper : IsProperMemory b.memory) where
  -- a block has a certificate exactly where there is an extent more
  put : (t size : ℕ) (o : Option Place) (answer : Answer) (new_b : Book) (new : List Extent) → size ≤ max_size → IsPut IsBestChoice o b es t size answer new_b new → Certifies b.certifies (length new ≡ length es + 1) (extent_request b.granule t size) answer.1
  put t size (Some p) answer new_b new few (address, none, book, e) =
      not_chosen b.certifies (length new ≡ length es + 1) (extent_request b.granule t size) answer.1 none (same_count (length new) (length es) (ap (λ (l : List Extent). length l) e ∙ replaced_one _ _ es))
  put t size None answer new_b new few (start, best, address, book, e) =
      let r : Request = pool_request b.granule t (pages_for size) in
      chosen b.certifies (length new ≡ length es + 1) (extent_request b.granule t size) answer.1 r
      (returned_where b r start answer.1 best)
      (ap (λ (l : List Extent). length l) e ∙ one_more (new_extent b.granule start t size) es)
      (rw (le-leb size max_size few) refl)
      (few_pages b.memory r start proper (best_is_permitted b r start answer.1 best))

  allocates : (t size : ℕ) (answer : Answer) (new_b : Book) (new : List Extent) → AllocatesPool IsBestChoice b es t size (Ok answer) new_b new → Certifies b.certifies (length new ≡ length es + 1) (extent_request b.granule t size) answer.1
  allocates t size answer new_b new (good, few, is) = put t size (first_fit t size es) answer new_b new few is

  refused : (t size : ℕ) (s : Status) (new_b : Book) (new : List Extent) → AllocatesPool IsBestChoice b es t size (Err s) new_b new → new ≡ es
  refused t size status.InvalidParameter new_b new h = h.2
  refused t size status.OutOfResources new_b new h = h.3
  refused t size other new_b new h = absurd h

  -- so has a block that is filled
  fills : (bytes : List ℕ) (answer : Answer) (new_b : Book) (new : List Extent) → FillsPool IsBestChoice b es list_type bytes (Ok answer) new_b new → Certifies b.certifies (length new ≡ length es + 1) (extent_request b.granule list_type (length bytes)) answer.1
  fills bytes answer new_b new (placed, is, e) =
      let same : length placed ≡ length new = sym (ap (λ (l : List Extent). length l) e ∙ replaced_one _ _ placed) in
      subst (λ (n : ℕ). Certifies b.certifies (n ≡ length es + 1) (extent_request b.granule list_type (length bytes)) answer.1) same (allocates list_type (length bytes) answer new_b placed is)

-- ---- AllocatePages

asked_by : (granule kind t pages memory : ℕ) → kind ≤ fixed_address → (is_some (placement_request granule kind t pages memory) ≡ true) ↔ (kind < fixed_address)
asked_by granule kind t pages memory few = elim (eqb_tells kind any_pages) [
  | inl u ↦ rw u.0 (λ s. omega (arith, u.1), λ l. refl)
  | inr u ↦ elim (eqb_tells kind max_address) [
    | inl v ↦ rw (u.0, v.0) (λ s. omega (arith, v.1), λ l. refl)
    | inr v ↦ rw (u.0, v.0) (λ (s : false ≡ true). absurd cc, λ l. absurd (omega (arith, u.1, v.1, l)))
  ]
]

module _ {A : Type 0} (b : Book) (proper : IsProperMemory b.memory) where
  placed_by : (o : Option Request) (t pages memory : ℕ) (placed : Placed A) → IsPlaced IsBestChoice b o t pages memory placed → Certifies b.certifies (is_some o ≡ true) o placed.certificate
  placed_by None t pages memory placed (free, at, none) = not_chosen b.certifies (false ≡ true) None placed.certificate none (λ (s : false ≡ true). absurd (true≢false (sym s)))
  placed_by (Some r) t pages memory placed (start, best, at) =
      chosen b.certifies (true ≡ true) (Some r) placed.certificate r (returned_where b r start placed.certificate best) refl refl (few_pages b.memory r start proper (best_is_permitted b r start placed.certificate best))

  pages_by : (kind t pages memory : ℕ) (placed : Placed A) (new : Book) → AllocatesPages IsBestChoice b kind t pages memory (Ok placed) new → Certifies b.certifies (kind < fixed_address) (placement_request b.granule kind t pages memory) placed.certificate
  pages_by kind t pages memory placed new (valid, at, e) =
      let is = placed_by (placement_request b.granule kind t pages memory) t pages memory placed at in
      let asked = asked_by b.granule kind t pages memory valid.0 in
      record { carried = (λ s. let h = is.carried.0 s in (h.0, asked.0 h.1), λ h. is.carried.1 (h.0, asked.1 h.1)); requested = is.requested }

-- ---- each call

abbrev Shown : {A : Type 0} → Parts → Call A → Reply A → Parts → Type 0
Shown old c answer new = Certifies old.book.certifies (PlacesByChoice old c answer new) (left_request old.book.granule c answer) (certificate_in answer)

unchanged : (old new : Parts) → new ≡ old → ¬ HasNewExtent old new
unchanged old new e = same_count (length new.pools) (length old.pools) (ap (λ (p : Parts). length p.pools) e)

pool_result : (A : Type 0) (old : Parts) (t size : ℕ) (result : Result Answer Status) (new : Parts) → IsProperMemory old.book.memory → AllocatesPool IsBestChoice old.book old.pools t size result new.book new.pools → Shown {A = A} old (call.AllocatePool t size) (reply.AllocatePool result) new
pool_result A old t size (Ok answer) new proper h = allocates old.book old.pools proper t size answer new.book new.pools h
pool_result A old t size (Err e) new proper h =
    not_chosen old.book.certifies (HasNewExtent old new) (extent_request old.book.granule t size) None refl (same_count (length new.pools) (length old.pools) (ap (λ (l : List Extent). length l) (refused old.book old.pools proper t size e new.book new.pools h)))

module _ {A : Type 0} (ds : List Meaning) (old : Parts) (proper : IsProperMemory old.book.memory) where
  pages_result : (kind t pages memory : ℕ) (result : Result (Placed A) Status) (new : Parts) → AllocatesPages IsBestChoice old.book kind t pages memory result new.book → Shown old (call.AllocatePages kind t pages memory) (reply.AllocatePages result) new
  pages_result kind t pages memory (Ok placed) new h = pages_by old.book proper kind t pages memory placed new.book h
  pages_result kind t pages memory (Err e) new h = not_chosen old.book.certifies ⊥ (placement_request old.book.granule kind t pages memory) None refl (λ h. h)

  -- the block of a list of items of some bytes each
  list_result : (size : ℕ) (bytes : List ℕ) (returned : PoolList A) (new : Parts) → length bytes ≡ size * returned.count → FillsPool IsBestChoice old.book old.pools list_type bytes (Ok (returned.address, returned.certificate)) new.book new.pools →
      Certifies old.book.certifies (HasNewExtent old new) (list_request old.book.granule size (Some returned.count)) returned.certificate
  list_result size bytes returned new long h =
      subst (λ (n : ℕ). Certifies old.book.certifies (HasNewExtent old new) (extent_request old.book.granule list_type n) returned.certificate) long (fills old.book old.pools proper bytes (returned.address, returned.certificate) new.book new.pools h)

  buffer_result : (search : ℕ) (guid : List ℕ) (key : ℕ) (result : Result (PoolList A) Status) (new : Parts) → LocatesBuffer IsBestChoice old search guid key result new → Shown old (call.LocateHandleBuffer search guid key) (reply.LocateHandleBuffer result) new
  buffer_result search guid key (Ok returned) new (handles, found, some, count, filled, lists) =
      list_result 8 (handle_bytes handles) returned new (handle_bytes-length handles ∙ ap (λ (n : ℕ). 8 * n) (sym count)) filled
  buffer_result search guid key (Err status.InvalidParameter) new h = not_chosen old.book.certifies (HasNewExtent old new) None None refl (unchanged old new h.1)
  buffer_result search guid key (Err status.NotFound) new h = not_chosen old.book.certifies (HasNewExtent old new) None None refl (unchanged old new h.1)
  buffer_result search guid key (Err status.OutOfResources) new h = not_chosen old.book.certifies (HasNewExtent old new) None None refl (unchanged old new h.3)
  buffer_result search guid key (Err other) new h = absurd h

  items_result : (items : List OpenItem) (returned : PoolList A) (new : Parts) → returned.count ≡ length items → PutsItems IsBestChoice old items returned new → Certifies old.book.certifies (HasNewExtent old new) (list_request old.book.granule 24 (Some returned.count)) returned.certificate
  items_result [] returned new count h = not_chosen old.book.certifies (HasNewExtent old new) (list_request old.book.granule 24 (Some returned.count)) returned.certificate h.1 (unchanged old new h.2)
  items_result (i ∷ items) returned new count h = list_result 24 (item_bytes (i ∷ items)) returned new (item_bytes-length (i ∷ items) ∙ ap (λ (n : ℕ). 24 * n) (sym count)) h.0

  opens_result : (handle : ℕ) (guid : List ℕ) (result : Result (PoolList A) Status) (new : Parts) → ListsOpens IsBestChoice old handle guid result new → Shown old (call.OpenProtocolInformation handle guid) (reply.OpenProtocolInformation result) new
  opens_result handle guid (Ok returned) new h = items_result (items_on old.lists.opens handle guid) returned new h.1 h.2
  opens_result handle guid (Err status.NotFound) new h = not_chosen old.book.certifies (HasNewExtent old new) None None refl (unchanged old new h.1)
  opens_result handle guid (Err status.OutOfResources) new h = not_chosen old.book.certifies (HasNewExtent old new) None None refl (unchanged old new h.2)
  opens_result handle guid (Err other) new h = absurd h

  -- a service that answers by its rule, or a refusal that leaves all parts
  served : {R : Type 0} (c : Call A) (exited : Bool) (answer : Reply A) (new : Parts) (reply_with : Result R Status → Reply A) (Rule : Result R Status → Type 0) →
      ((s : Status) → new ≡ old → Shown old c (reply_with (Err s)) new) → ((result : Result R Status) → Rule result → Shown old c (reply_with result) new) → Serves exited old new answer reply_with Rule → Shown old c answer new
  served c true answer new reply_with Rule refusal rule (result, e, h) = subst (λ (a : Reply A). Shown old c a new) (sym (e ∙ ap reply_with h.0)) (refusal status.Unsupported h.1)
  served c false answer new reply_with Rule refusal rule (result, e, h) = subst (λ (a : Reply A). Shown old c a new) (sym e) (rule result h)

  shown : (exited : Bool) (c : Call A) (answer : Reply A) (new : Parts) → Answers (best_starts ds) exited old c answer new → Shown old c answer new
  shown exited (call.AllocatePages kind t pages memory) answer new h =
      served (call.AllocatePages kind t pages memory) exited answer new _ _ (λ s same. not_chosen old.book.certifies ⊥ (placement_request old.book.granule kind t pages memory) None refl (λ h. h)) (λ result rule. pages_result kind t pages memory result new rule.0) h
  shown exited (call.AllocatePool t size) answer new h =
      served (call.AllocatePool t size) exited answer new _ _ (λ s same. not_chosen old.book.certifies (HasNewExtent old new) (extent_request old.book.granule t size) None refl (unchanged old new same)) (λ result rule. pool_result A old t size result new proper rule.0) h
  shown exited (call.LocateHandleBuffer search guid key) answer new h =
      served (call.LocateHandleBuffer search guid key) exited answer new _ _ (λ s same. not_chosen old.book.certifies (HasNewExtent old new) None None refl (unchanged old new same)) (λ result rule. buffer_result search guid key result new rule) h
  shown exited (call.OpenProtocolInformation handle guid) answer new h =
      served (call.OpenProtocolInformation handle guid) exited answer new _ _ (λ s same. not_chosen old.book.certifies (HasNewExtent old new) None None refl (unchanged old new same)) (λ result rule. opens_result handle guid result new rule) h
  shown exited (call.GetMemoryMap size) answer new h = not_chosen old.book.certifies ⊥ None (certificate_in answer) (ap certificate_in h.2) (λ h. h)
  shown exited (call.PoolRead address size) answer new h = not_chosen old.book.certifies ⊥ None (certificate_in answer) (ap certificate_in h.2) (λ h. h)
  shown exited c answer new h = not_chosen old.book.certifies ⊥ None (certificate_in answer) (ap certificate_in h.1) (λ h. h)

-- ---- the run

-- a reply without a certificate
abbrev none_for : Request → Option (Request × CertificateValue)
none_for r = None

unrequested : (o : Option Request) → is_some (option_and_then none_for o) ≡ false
unrequested None = refl
unrequested (Some r) = refl

requested_for : (o : Option Request) (returned : Option CertificateValue) → (is_some returned ≡ true → (r : Request) × (o ≡ Some r) × (r.pages < 2 ^ 64)) → is_some {T = Request × CertificateValue} (option_and_then (λ r. option_map (λ certificate. (r, certificate)) returned) (option_and_then if_counted o)) ≡ is_some returned
requested_for o None h = unrequested (option_and_then if_counted o)
requested_for o (Some c) h =
    let (r, e, few) = h refl in
    let request : option_and_then if_counted o ≡ Some r = ap (option_and_then if_counted) e ∙ counted r few in
    ap (λ (q : Option Request). is_some {T = Request × CertificateValue} (option_and_then (λ r. Some (r, c)) q)) request

all_certify : {A : Type 0} (certifies : Bool) (ds : List Meaning) (old : State) (calls : List (Call A)) (replies : List (Reply A)) (new : State) (run : CallRun ds old calls replies new) → AreSound old.parts → old.parts.book.certifies ≡ certifies → AllCertifyChoices certifies ds old calls replies new run
all_certify certifies ds old (c ∷ calls) (r ∷ replies) new (next, step, run) sound same =
    let is = shown ds old.parts sound.proper old.exited c r next.parts step.answers in
    let o = outcome (best_starts ds) best_is_permitted old.exited old.parts c r next.parts sound step.answers in
    let still = stays_sound (best_starts ds) best_is_permitted old.exited old.parts c r next.parts sound step.answers in
    let still_same : next.parts.book.certifies ≡ certifies = stays_certifying (NamesTypes c) old.parts.book next.parts.book o ∙ same in (
      record {
        carried = subst (λ (k : Bool). (is_some (certificate_in r) ≡ true) ↔ ((k ≡ true) × PlacesByChoice old.parts c r next.parts)) same is.carried;
        requested = requested_for (left_request old.parts.book.granule c r) (certificate_in r) is.requested;
      },
      all_certify certifies ds next calls replies new run still still_same,
    )
all_certify certifies ds old [] [] new run sound same = tt
all_certify certifies ds old [] (r ∷ replies) new run sound same = tt
all_certify certifies ds old (c ∷ calls) [] new run sound same = tt

pub certified_choices : {A : Type 0} (ds : List Meaning) (placements : ℕ) (certifies : Bool) (machine : MachineValue) (calls : List (Call A)) (replies : List (Reply A)) (new : State) (run : CallRun ds (prepared_state placements certifies machine) calls replies new) → IsMachine machine →
    AllCertifyChoices certifies ds (prepared_state placements certifies machine) calls replies new run
certified_choices ds placements certifies machine calls replies new run valid = all_certify certifies ds (prepared_state placements certifies machine) calls replies new run (prepared_sound placements certifies machine valid) refl
