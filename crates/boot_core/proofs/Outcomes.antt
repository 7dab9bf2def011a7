-- What a step does to a book: it keeps it, or changes the type of a page.
use Rattle.std.proofs.Common.{◌≡◌, ◌⊎◌, ℕ, ◌+◌, ◌/◌, ◌^◌, ◌<◌, ◌≤◌, Bool, true, false, List, [], ◌∷◌, Option, Some, None, Result, Ok, Err, IfSome, length, refl, sym, ap, subst, ◌∙◌, inl, inr, arith, ne_eqb}
use Rattle.std.specs.Option.{option_map}
use Rattle.std.proofs.lemmas.Option.{same_Some}
use Rattle.page_ranges.specs.declared.ranges.Owner.{Owner}
use Rattle.page_ranges.specs.declared.ranges.Owner.TheVariants.{Given, Pages, Pool}
use Rattle.page_ranges.specs.declared.ranges.PageRange.{PageRange}
use Rattle.page_ranges.specs.declared.statuses.Status.{Status}
use Rattle.page_ranges.specs.declared.statuses.Status.TheVariants as status
use Rattle.page_ranges.specs.MemoryTypes.{page_size, conventional, is_bad_type}
use Rattle.page_ranges.specs.Memory.{Page, page_at, IsProperPage, IsProperMemory, HasMachineTypes, IsConventional, IsOwnedBy, AllInRange, retyped}
use Rattle.page_ranges.specs.Granules.{IsGranule}
use Rattle.page_ranges.specs.MemoryMap.{memory_map}
use Rattle.page_ranges.proofs.EntryCounts.{two_more}
use Rattle.page_ranges.proofs.Lookups.{page_at-number, page_at-all}
use Rattle.page_ranges.proofs.Retyped.{changed, changed_in, page_at-retyped, retyped-proper, retyped-typed, machine_type}
use Rattle.placement_certificate.specs.declared.certificates.Request.{Request}
use Rattle.placement_certificate.specs.Placement.{IsProperRequest}
use Rattle.page_services.specs.declared.page_book.Placed.{Placed}
use Rattle.page_services.specs.PageRules.{Book, IsInGranules, changed_book, freed_range, placement_request, pool_request, range_from, whole_pages, IsPlaced, AllocatesPages, FreesPages}
use Rattle.page_services.proofs.Choices.{Permits}
use Rattle.page_services.proofs.Granules.{freed_names, freed_owned, placement_request_proper, whole_pages_some}
use Rattle.pool_services.specs.Extents.{Extent, Place, AreExtents, ended, extent_pages, first_fit, pages_for}
use Rattle.pool_services.specs.PoolRules.{Answer, AllocatesPool, FillsPool, FreesPool, IsPut, OwnsExtents, WritesPool, given_if}
use Rattle.pool_services.proofs.KeptPools.{ended-owned}
use Rattle.boot_calls.specs.declared.calls.Call.{Call}
use Rattle.boot_calls.specs.declared.calls.Call.TheVariants as call
use Rattle.boot_replies.specs.declared.replies.Reply.{Reply}
use Rattle.boot_core.specs.Machines.{Parts, AreSound}
use Rattle.open_agents.specs.declared.items.OpenItem.{OpenItem}
use Rattle.open_agents.specs.OpenItems.{items_on}
use Rattle.protocol_services.specs.ListBytes.{handle_bytes, item_bytes}
use Rattle.boot_replies.specs.declared.replies.PoolList.{PoolList}
use Rattle.boot_core.specs.PoolLists.{LocatesBuffer, ListsOpens, PutsItems}
use Rattle.boot_replies.specs.Certified.{list_type}
use Rattle.boot_core.specs.Steps.{Setting, OnBook, OnBookAndPools, OnPools, Serves, Answers, FreesBlock}
use Rattle.boot_core.proofs.Quiet.{quiet}
use Rattle.boot_core.specs.Laws.{type_at, HaveSameTypes}
use Rattle.boot_calls.specs.CallNumbers.{NamesTypes}
use Rattle.boot_core.proofs.RecordPages.{HaveFields, retyped-fields}

-- ---- one page, before and after it gets a type

conventional_page : (o : Option Page) → IsConventional o → (x : Page) × (o ≡ Some x) × (x.mtype ≡ conventional)
conventional_page None h = absurd h
conventional_page (Some x) h = (x, refl, h)

owned_page : (owner : Owner) (o : Option Page) → IsOwnedBy owner o → (x : Page) × (o ≡ Some x) × (x.owner ≡ owner)
owned_page owner None h = absurd h
owned_page owner (Some x) h = (x, refl, h)

-- a page of the range that is of the same type in both memories had the new type before
same_type : (range : PageRange) (t : ℕ) (o : Owner) (m : List Page) (x : Page) → page_at m range.first ≡ Some x → 0 < range.pages → HaveSameTypes m (retyped range t o m) → x.mtype ≡ t
same_type range t o m x here some same =
    let at : x.number ≡ range.first = page_at-number m range.first x here in
    let after : page_at (retyped range t o m) range.first ≡ Some (changed range t o x) = page_at-retyped range t o m range.first ∙ ap (option_map (changed range t o)) here in
    let before_type : type_at m range.first ≡ Some x.mtype = ap (option_map (λ (y : Page). y.mtype)) here in
    let after_type : type_at (retyped range t o m) range.first ≡ Some (changed range t o x).mtype = ap (option_map (λ (y : Page). y.mtype)) after in
    let new_type : (changed range t o x).mtype ≡ t = ap (λ (y : Page). y.mtype) (changed_in range t o x (omega arith) (omega arith)) in
    same_Some x.mtype (changed range t o x).mtype (sym before_type ∙ same range.first ∙ after_type) ∙ new_type

-- ---- a book

-- The book after a step from a book of proper memory and whole granules: as it was, or with a key that is 1 higher and a page of another type.
-- The types that the call names fit where Fits holds.
pub record IsChanged (Fits : Type 0) (old new : Book) : Type 0 where
  pub up : new.key ≡ old.key + 1
  pub proper : IsProperMemory new.memory
  pub differs : ¬ HaveSameTypes old.memory new.memory
  pub typed : HasMachineTypes old.memory → HasMachineTypes new.memory
  pub fields : Fits → HaveFields old.memory → HaveFields new.memory
  pub grows : length (memory_map new.memory) ≤ length (memory_map old.memory) + 2
  pub certifies : new.certifies ≡ old.certifies

abbrev pub Outcome : Type 0 → Book → Book → Type 0
Outcome Fits old new = (new ≡ old) ⊎ IsChanged Fits old new

-- so it is for however many changes it has memory reserved
with_reserve : (Fits : Type 0) (old new : Book) (reserved frees ends held : ℕ) → IsChanged Fits old new → IsChanged Fits old (record new { reserved = reserved; frees = frees; ends = ends; held = held })
with_reserve Fits old new reserved frees ends held is = record { up = is.up; proper = is.proper; differs = is.differs; typed = is.typed; fields = is.fields; grows = is.grows; certifies = is.certifies }

allocated : (b : Book) (range : PageRange) (t : ℕ) (o : Owner) → IsProperMemory b.memory → is_bad_type t ≡ false → 0 < range.pages → IsConventional (page_at b.memory range.first) → IsChanged (t < 2 ^ 32) b (changed_book range t o b)
allocated b range t o proper good some free =
    let (x, here, was) = conventional_page (page_at b.memory range.first) free in
    let other : ¬ (t ≡ conventional) = λ (e : t ≡ conventional). let h : is_bad_type conventional ≡ false = subst (λ (u : ℕ). is_bad_type u ≡ false) e good in cc in
    record {
      up = refl;
      proper = retyped-proper range t o (λ e. absurd (other e)) b.memory proper;
      differs = λ same. other (sym (same_type range t o b.memory x here some same) ∙ was);
      typed = retyped-typed range t o (machine_type t (inl good)) b.memory;
      fields = λ fits. retyped-fields range t o fits b.memory;
      grows = two_more range t o b.memory proper.ascending;
      certifies = refl;
    }

freed : (Fits : Type 0) (b : Book) (range : PageRange) (o : Owner) → (¬ (o ≡ Given)) → IsProperMemory b.memory → 0 < range.pages → IsOwnedBy o (page_at b.memory range.first) → IsChanged Fits b (changed_book range conventional Given b)
freed Fits b range o placed proper some owned =
    let (x, here, owner) = owned_page o (page_at b.memory range.first) owned in
    let is = page_at-all IsProperPage b.memory range.first x proper.each here in
    record {
      up = refl;
      proper = retyped-proper range conventional Given (λ e. refl) b.memory proper;
      differs = λ same. placed (sym owner ∙ is.given (same_type range conventional Given b.memory x here some same));
      typed = retyped-typed range conventional Given (machine_type conventional (inr refl)) b.memory;
      fields = λ fits. retyped-fields range conventional Given (omega arith) b.memory;
      grows = two_more range conventional Given b.memory proper.ascending;
      certifies = refl;
    }

pub frees : (Fits : Type 0) (b : Book) (address pages : ℕ) (result : Result (Unit {0}) Status) (new : Book) → IsProperMemory b.memory → IsInGranules b → FreesPages b address pages result new → Outcome Fits b new
frees Fits b address pages (Ok done) new proper granules (valid, owned, e) =
    let range : PageRange = freed_range b address pages in
    let names = freed_names b address pages granules in
    let some : 0 < range.pages = omega (arith, names.0, names.1, valid.1) in
    let all = freed_owned b address pages granules valid.1 owned in
    subst (Outcome Fits b) (sym e) (inr (with_reserve Fits b _ _ _ _ _ (freed Fits b range Pages (λ e. absurd cc) proper some (all range.first (omega arith) (omega (arith, some))))))
frees Fits b address pages (Err status.InvalidParameter) new proper granules h = inl h.1
frees Fits b address pages (Err status.NotFound) new proper granules h = inl h.2
frees Fits b address pages (Err status.OutOfResources) new proper granules h = inl h.2
frees Fits b address pages (Err other) new proper granules h = absurd h

-- the book once an extent ended, if one did
given : (Fits : Type 0) (b : Book) (o : Option PageRange) → IsProperMemory b.memory → ((range : PageRange) → o ≡ Some range → (0 < range.pages) × AllInRange b.memory range (IsOwnedBy Pool)) → Outcome Fits b (given_if o b)
given Fits b None proper owned = inl refl
given Fits b (Some range) proper owned =
    let (some, all) = owned range refl in
    rw (ne_eqb range.pages 0 (λ e. omega (arith, some, e))) (inr (with_reserve Fits b _ _ _ _ _ (freed Fits b range Pool (λ e. absurd cc) proper some (all range.first (omega arith) (omega (arith, some))))))

pub frees_pool : (Fits : Type 0) (b : Book) (es : List Extent) (address : ℕ) (result : Result (Unit {0}) Status) (new_b : Book) (new : List Extent) → IsProperMemory b.memory → AreExtents es → OwnsExtents b.memory es → FreesPool b es address result new_b new → Outcome Fits b new_b
frees_pool Fits b es address (Ok done) new_b new proper extents owns (p, at, e, rest) = subst (Outcome Fits b) (sym e) (given Fits b (ended p es) proper (λ range is. ended-owned b.memory es p range extents owns is))
frees_pool Fits b es address (Err status.InvalidParameter) new_b new proper extents owns h = inl h.1
frees_pool Fits b es address (Err status.OutOfResources) new_b new proper extents owns (p, range, at, ends, none, same, rest) = inl same
frees_pool Fits b es address (Err other) new_b new proper extents owns h = absurd h

module _ (Fits : Type 0) (old new : Book) where
  pub key_at_most : Outcome Fits old new → new.key ≤ old.key + 1
  key_at_most (inl e) = omega (arith, ap (λ (b : Book). b.key) e)
  key_at_most (inr changed) = omega (arith, changed.up)

  pub key_rises : Outcome Fits old new → old.key ≤ new.key
  key_rises (inl e) = omega (arith, ap (λ (b : Book). b.key) e)
  key_rises (inr changed) = omega (arith, changed.up)

  pub stays_proper : IsProperMemory old.memory → Outcome Fits old new → IsProperMemory new.memory
  stays_proper proper (inl e) = subst (λ (b : Book). IsProperMemory b.memory) (sym e) proper
  stays_proper proper (inr changed) = changed.proper

  pub stays_typed : HasMachineTypes old.memory → Outcome Fits old new → HasMachineTypes new.memory
  stays_typed typed (inl e) = subst (λ (b : Book). HasMachineTypes b.memory) (sym e) typed
  stays_typed typed (inr changed) = changed.typed typed

  pub stays_fitting : Fits → HaveFields old.memory → Outcome Fits old new → HaveFields new.memory
  stays_fitting fits fields (inl e) = subst (λ (b : Book). HaveFields b.memory) (sym e) fields
  stays_fitting fits fields (inr changed) = changed.fields fits fields

  pub map_grows : Outcome Fits old new → length (memory_map new.memory) ≤ length (memory_map old.memory) + 2
  map_grows (inl e) = omega (arith, ap (λ (b : Book). length (memory_map b.memory)) e)
  map_grows (inr changed) = changed.grows

  pub stays_certifying : Outcome Fits old new → new.certifies ≡ old.certifies
  stays_certifying (inl e) = ap (λ (b : Book). b.certifies) e
  stays_certifying (inr changed) = changed.certifies

  -- either no type changes, nor the key, or both do
  pub type_or_not : Outcome Fits old new → (HaveSameTypes old.memory new.memory × (new.key ≡ old.key)) ⊎ ((¬ HaveSameTypes old.memory new.memory) × (new.key ≡ old.key + 1))
  type_or_not (inl e) = inl (λ n. ap (λ (b : Book). type_at b.memory n) (sym e), ap (λ (b : Book). b.key) e)
  type_or_not (inr changed) = inr (changed.differs, changed.up)

-- ---- a call

if_some : {X : Type 0} (o : Option X) (P : X → Type 0) → ((x : X) → o ≡ Some x → P x) → IfSome o P
if_some None P f = tt
if_some (Some x) P f = f x refl

pub proper_request : (granule kind t pages memory : ℕ) → IsGranule granule → is_bad_type t ≡ false → 0 < pages → IfSome (placement_request granule kind t pages memory) IsProperRequest
proper_request granule kind t pages memory is good some = if_some (placement_request granule kind t pages memory) IsProperRequest (λ r e. placement_request_proper granule kind t pages memory r is good some e)

-- a service that leaves all parts, or goes by a rule for the book
served : {A R : Type 0} (Fits : Type 0) (exited : Bool) (old new : Parts) (answer : Reply A) (reply_with : Result R Status → Reply A) (Rule : Result R Status → Type 0) → ((result : Result R Status) → Rule result → Outcome Fits old.book new.book) → Serves exited old new answer reply_with Rule → Outcome Fits old.book new.book
served Fits true old new answer reply_with Rule f (result, returned, h) = inl (ap (λ (p : Parts). p.book) h.1)
served Fits false old new answer reply_with Rule f (result, returned, h) = f result h

kept : (Fits : Type 0) (old new : Parts) → new ≡ old → Outcome Fits old.book new.book
kept Fits old new e = inl (ap (λ (p : Parts). p.book) e)

-- types that fit by themselves
any_fits : (Fits : Type 0) (old new : Book) → Fits → Outcome Fits old new → Outcome (Unit {0}) old new
any_fits Fits old new fits (inl e) = inl e
any_fits Fits old new fits (inr changed) = inr (record { up = changed.up; proper = changed.proper; differs = changed.differs; typed = changed.typed; fields = λ u. changed.fields fits; grows = changed.grows; certifies = changed.certifies })

module _ (S : Setting) (permits : Permits S.chosen) where
  first_is_free : {A : Type 0} (b : Book) (r : Option Request) (t pages memory : ℕ) (placed : Placed A) → 0 < whole_pages b.granule t pages → IfSome r IsProperRequest → IsPlaced S.chosen b r t pages memory placed → IsConventional (page_at b.memory (placed.address / page_size))
  first_is_free b None t pages memory placed some good (free, e, none) = subst (λ (a : ℕ). IsConventional (page_at b.memory (a / page_size))) (sym e) (free.2 (memory / page_size) (omega arith) (omega (arith, some)))
  first_is_free b (Some r) t pages memory placed some good (start, chosen, e) =
      let first : placed.address / page_size ≡ start = omega (arith, e) in
      subst (λ (k : ℕ). IsConventional (page_at b.memory k)) (sym first) ((permits b r start placed.certificate chosen).conventional start (omega arith) (omega (arith, good.some)))

  pub allocates : {A : Type 0} (b : Book) (kind t pages memory : ℕ) (result : Result (Placed A) Status) (new : Book) → IsProperMemory b.memory → IsInGranules b → AllocatesPages S.chosen b kind t pages memory result new → Outcome (t < 2 ^ 32) b new
  allocates b kind t pages memory (Ok placed) new proper granules (valid, at, e) =
      let range : PageRange = range_from placed.address (whole_pages b.granule t pages) in
      let some : 0 < range.pages = whole_pages_some b.granule t pages granules.granule valid.2 in
      let request = proper_request b.granule kind t pages memory granules.granule valid.1 valid.2 in
      let free = first_is_free b (placement_request b.granule kind t pages memory) t pages memory placed some request at in
      subst (Outcome (t < 2 ^ 32) b) (sym e) (inr (with_reserve (t < 2 ^ 32) b _ _ _ _ _ (allocated b range t Pages proper valid.1 some free)))
  allocates b kind t pages memory (Err status.InvalidParameter) new proper granules h = inl h.1
  allocates b kind t pages memory (Err status.NotFound) new proper granules h = inl h.3
  allocates b kind t pages memory (Err status.OutOfResources) new proper granules h = inl h.2
  allocates b kind t pages memory (Err other) new proper granules h = absurd h

  put : (b : Book) (es : List Extent) (t size : ℕ) (o : Option Place) (answer : Answer) (new_b : Book) (new : List Extent) → IsProperMemory b.memory → IsInGranules b → is_bad_type t ≡ false → IsPut S.chosen o b es t size answer new_b new → Outcome (t < 2 ^ 32) b new_b
  put b es t size (Some p) answer new_b new proper granules good (address, none, same, rest) = inl same
  put b es t size None answer new_b new proper granules good (start, chosen, address, e, rest) =
      let request : Request = pool_request b.granule t (pages_for size) in
      let start_is = permits b request start answer.1 chosen in
      let some : 0 < request.pages = whole_pages_some b.granule t (pages_for size) granules.granule (omega arith) in
      subst (Outcome (t < 2 ^ 32) b) (sym e) (inr (with_reserve (t < 2 ^ 32) b _ _ _ _ _ (allocated b (record { first = start; pages = extent_pages b.granule t size }) t Pool proper good some (start_is.conventional start (omega arith) (omega (arith, some))))))

  pub allocates_pool : (b : Book) (es : List Extent) (t size : ℕ) (result : Result Answer Status) (new_b : Book) (new : List Extent) → IsProperMemory b.memory → IsInGranules b → AllocatesPool S.chosen b es t size result new_b new → Outcome (t < 2 ^ 32) b new_b
  allocates_pool b es t size (Ok answer) new_b new proper granules (good, few, at) = put b es t size (first_fit t size es) answer new_b new proper granules good at
  allocates_pool b es t size (Err status.InvalidParameter) new_b new proper granules h = inl h.1
  allocates_pool b es t size (Err status.OutOfResources) new_b new proper granules h = inl h.2
  allocates_pool b es t size (Err other) new_b new proper granules h = absurd h

  pub fills_pool : (b : Book) (es : List Extent) (t : ℕ) (bytes : List ℕ) (result : Result Answer Status) (new_b : Book) (new : List Extent) → IsProperMemory b.memory → IsInGranules b → FillsPool S.chosen b es t bytes result new_b new → Outcome (t < 2 ^ 32) b new_b
  fills_pool b es t bytes (Ok answer) new_b new proper granules (placed, h, e) = allocates_pool b es t (length bytes) (Ok answer) new_b placed proper granules h
  fills_pool b es t bytes (Err e) new_b new proper granules h = allocates_pool b es t (length bytes) (Err e) new_b new proper granules h

  -- the type of a list's block has 32 bits
  listed : (b : Book) (es : List Extent) (bytes : List ℕ) (result : Result Answer Status) (new_b : Book) (new : List Extent) → IsProperMemory b.memory → IsInGranules b → FillsPool S.chosen b es list_type bytes result new_b new → Outcome (Unit {0}) b new_b
  listed b es bytes result new_b new proper granules h = any_fits (list_type < 2 ^ 32) b new_b (omega arith) (fills_pool b es list_type bytes result new_b new proper granules h)

  locates_buffer : {A : Type 0} (old : Parts) (search : ℕ) (guid : List ℕ) (key : ℕ) (result : Result (PoolList A) Status) (new : Parts) → IsProperMemory old.book.memory → IsInGranules old.book → LocatesBuffer S.chosen old search guid key result new → Outcome (Unit {0}) old.book new.book
  locates_buffer old search guid key (Ok returned) new proper granules (handles, found, some, count, filled, lists) = listed old.book old.pools (handle_bytes handles) (Ok (returned.address, returned.certificate)) new.book new.pools proper granules filled
  locates_buffer old search guid key (Err status.InvalidParameter) new proper granules h = kept (Unit {0}) old new h.1
  locates_buffer old search guid key (Err status.NotFound) new proper granules h = kept (Unit {0}) old new h.1
  locates_buffer old search guid key (Err status.OutOfResources) new proper granules h = kept (Unit {0}) old new h.3
  locates_buffer old search guid key (Err other) new proper granules h = absurd h

  puts_items : {A : Type 0} (old : Parts) (items : List OpenItem) (returned : PoolList A) (new : Parts) → IsProperMemory old.book.memory → IsInGranules old.book → PutsItems S.chosen old items returned new → Outcome (Unit {0}) old.book new.book
  puts_items old [] returned new proper granules h = kept (Unit {0}) old new h.2
  puts_items old (i ∷ items) returned new proper granules h = listed old.book old.pools (item_bytes (i ∷ items)) (Ok (returned.address, returned.certificate)) new.book new.pools proper granules h.0

  lists_opens : {A : Type 0} (old : Parts) (handle : ℕ) (guid : List ℕ) (result : Result (PoolList A) Status) (new : Parts) → IsProperMemory old.book.memory → IsInGranules old.book → ListsOpens S.chosen old handle guid result new → Outcome (Unit {0}) old.book new.book
  lists_opens old handle guid (Ok returned) new proper granules h = puts_items old (items_on old.lists.opens handle guid) returned new proper granules h.2
  lists_opens old handle guid (Err status.NotFound) new proper granules h = kept (Unit {0}) old new h.1
  lists_opens old handle guid (Err status.OutOfResources) new proper granules h = kept (Unit {0}) old new h.2
  lists_opens old handle guid (Err other) new proper granules h = absurd h

  pub outcome : {A : Type 0} (exited : Bool) (old : Parts) (c : Call A) (answer : Reply A) (new : Parts) → AreSound old → Answers S exited old c answer new → Outcome (NamesTypes c) old.book new.book
  outcome exited old (call.AllocatePages kind t pages memory) answer new sound h =
      served (t < 2 ^ 32) exited old new answer _ (λ result. OnBook (AllocatesPages S.chosen old.book kind t pages memory result) old new) (λ result rule. allocates old.book kind t pages memory result new.book sound.proper sound.granules rule.0) h
  outcome exited old (call.FreePages memory pages) answer new sound h =
      served (Unit {0}) exited old new answer _ (λ result. OnBook (FreesPages old.book memory pages result) old new) (λ result rule. frees (Unit {0}) old.book memory pages result new.book sound.proper sound.granules rule.0) h
  outcome exited old (call.AllocatePool t size) answer new sound h =
      served (t < 2 ^ 32) exited old new answer _ (λ result. OnBookAndPools (AllocatesPool S.chosen old.book old.pools t size result) old new) (λ result rule. allocates_pool old.book old.pools t size result new.book new.pools sound.proper sound.granules rule.0) h
  outcome exited old (call.FreePool address) answer new sound h =
      served (Unit {0}) exited old new answer _ (λ result. FreesBlock old address result new) (λ result rule. frees_pool (Unit {0}) old.book old.pools address result new.book new.pools sound.proper sound.extents sound.owned rule.1.0) h
  outcome exited old (call.PoolWrite address bytes) answer new sound h =
      served (Unit {0}) exited old new answer _ (λ result. OnPools (WritesPool old.pools address bytes result) old new) (λ result rule. inl rule.1) h
  outcome exited old (call.LocateHandleBuffer search guid key) answer new sound h =
      served (Unit {0}) exited old new answer _ (λ result. LocatesBuffer S.chosen old search guid key result new) (λ result rule. locates_buffer old search guid key result new sound.proper sound.granules rule) h
  outcome exited old (call.OpenProtocolInformation handle guid) answer new sound h =
      served (Unit {0}) exited old new answer _ (λ result. ListsOpens S.chosen old handle guid result new) (λ result rule. lists_opens old handle guid result new sound.proper sound.granules rule) h
  outcome exited old c answer new sound h = inl (quiet S exited old c answer new tt h).0
