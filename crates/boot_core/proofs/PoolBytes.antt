-- The pool's bytes, call after call.
use Rattle.std.proofs.Common.{◌≡◌, ℕ, ◌+◌, ◌<◌, is_ok, inl, inr, Bool, true, false, cond, List, [], ◌∷◌, length, take, drop, replicate, Option, Some, None, Result, Ok, Err, refl, sym, ap, subst, ◌∙◌, arith, Vec}
use Rattle.std.proofs.lemmas.Bool.{cases_lt}
use Rattle.std.proofs.lemmas.List.{length-take-le}
use Rattle.page_ranges.specs.declared.statuses.Status.{Status}
use Rattle.page_ranges.specs.declared.statuses.Status.TheVariants as status
use Rattle.page_services.specs.PageRules.{Book, IsBestChoice}
use Rattle.pool_services.specs.Extents.{Extent}
use Rattle.pool_services.specs.PoolRules.{Answer, AllocatesPool, FillsPool, FreesPool, WritesPool}
use Rattle.pool_services.proofs.FilledBlocks.{filled}
use Rattle.open_agents.specs.declared.items.OpenItem.{OpenItem}
use Rattle.open_agents.specs.OpenItems.{items_on}
use Rattle.protocol_services.specs.ListBytes.{handle_bytes, item_bytes}
use Rattle.protocol_services.specs.Lists.{Lists}
use Rattle.protocol_services.specs.Searches.{found_handles}
use Rattle.pool_services.specs.Laws.{byte_at, first_of, is_among, laid}
use Rattle.pool_services.proofs.BlockBytes.{took, freed}
use Rattle.pool_services.proofs.PoolBytes.{laid-high, laid-low, read, wrote}
use Rattle.driver_connect.specs.Drivers.{Meaning}
use Rattle.boot_calls.specs.declared.calls.Call.{Call}
use Rattle.boot_calls.specs.declared.calls.Call.TheVariants as call
use Rattle.boot_replies.specs.declared.replies.PoolList.{PoolList}
use Rattle.boot_replies.specs.declared.replies.Reply.{Reply}
use Rattle.boot_replies.specs.declared.replies.Reply.TheVariants as reply
use Rattle.boot_core.specs.Machines.{Parts, AreSound, parts_of}
use Rattle.boot_core.specs.PoolCalls.{AnswersRead}
use Rattle.boot_core.specs.PoolLists.{LocatesBuffer, ListsOpens, PutsItems}
use Rattle.boot_replies.specs.Certified.{list_type}
use Rattle.boot_core.specs.Steps.{best_starts, OnBookAndPools, OnPools, WhileOpen, Serves, Answers, FreesBlock}
use Rattle.boot_core.specs.Laws.{byte_after, bytes_left, gives_back, handles_of, laid_over, lays, left_by}
use Rattle.boot_core.proofs.Quiet.{quiet}

-- ---- the rules that change bytes

-- the bytes that a block of the pool begins with, if there is one
abbrev Laid : Option (ℕ × List ℕ) → List Extent → List Extent → Type 0
Laid block es new = (k : ℕ) → byte_at k new ≡ laid_over block k (byte_at k es)

same_bytes : (block : Option (ℕ × List ℕ)) (es new : List Extent) → block ≡ None → new ≡ es → Laid block es new
same_bytes block es new none e k = ap (byte_at k) e ∙ sym (ap (λ (o : Option (ℕ × List ℕ)). laid_over o k (byte_at k es)) none)

-- what a result has of a block, with its bytes
abbrev block_returned : {R : Type 0} → (R → ℕ) → List ℕ → Result R Status → Option (ℕ × List ℕ)
block_returned address bytes (Ok returned) = Some (address returned, bytes)
block_returned address bytes (Err e) = None

allocated : (b new_b : Book) (es new : List Extent) (t size : ℕ) (result : Result Answer Status) (l : Lists) → AreSound (parts_of b es l) → AllocatesPool IsBestChoice b es t size result new_b new → Laid (block_returned (λ (block : Answer). block.0) (replicate size 0) result) es new
allocated b new_b es new t size (Ok answer) l sound h k = (took b new_b es new t size answer sound.granules.granule sound.proper sound.owned sound.extents h k).0
allocated b new_b es new t size (Err status.InvalidParameter) l sound h k = ap (byte_at k) h.2
allocated b new_b es new t size (Err status.OutOfResources) l sound h k = ap (byte_at k) h.3
allocated b new_b es new t size (Err other) l sound h k = absurd h

given_back : (b new_b : Book) (es new : List Extent) (address : ℕ) (result : Result (Unit {0}) Status) (l : Lists) → AreSound (parts_of b es l) → FreesPool b es address result new_b new → (k : ℕ) →
    byte_at k new ≡ left_by (cond (is_ok result) (Some address) None) es k
given_back b new_b es new address (Ok done) l sound h k =
    let (bytes, here, is) = freed b new_b es new address done sound.extents h in
    is k ∙ ap (λ (n : ℕ). cond (is_among address n k) None (byte_at k es)) (sym (ap bytes_left here))
given_back b new_b es new address (Err status.InvalidParameter) l sound h k = ap (byte_at k) h.2
given_back b new_b es new address (Err status.OutOfResources) l sound (p, range, at, ends, none, same, stays) k = ap (byte_at k) stays
given_back b new_b es new address (Err other) l sound h k = absurd h

written_bytes : (es new : List Extent) (address : ℕ) (bytes : List ℕ) (result : Result (Unit {0}) Status) (b : Book) (l : Lists) → AreSound (parts_of b es l) → WritesPool es address bytes result new → Laid (block_returned (λ (done : Unit {0}). address) bytes result) es new
written_bytes es new address bytes (Ok done) b l sound h k = wrote es new address bytes done sound.extents h k
written_bytes es new address bytes (Err status.InvalidParameter) b l sound h k = ap (byte_at k) h.1
written_bytes es new address bytes (Err other) b l sound h k = absurd h

filled_bytes : {A : Type 0} (old new : Parts) (bytes : List ℕ) (returned : PoolList A) → AreSound old → FillsPool IsBestChoice old.book old.pools list_type bytes (Ok (returned.address, returned.certificate)) new.book new.pools → Laid (Some (returned.address, bytes)) old.pools new.pools
filled_bytes old new bytes returned sound h k = (filled old.book new.book old.pools new.pools list_type bytes (returned.address, returned.certificate) sound.granules.granule sound.proper sound.owned sound.extents h k).0

buffer_bytes : {A : Type 0} (old new : Parts) (search : ℕ) (guid : List ℕ) (key : ℕ) (result : Result (PoolList A) Status) → AreSound old → LocatesBuffer IsBestChoice old search guid key result new →
    Laid (block_returned (λ (returned : PoolList A). returned.address) (handle_bytes (handles_of (found_handles old.lists search guid key))) result) old.pools new.pools
buffer_bytes old new search guid key (Ok returned) sound (handles, found, some, count, filled, lists) k =
    rw found (filled_bytes old new (handle_bytes handles) returned sound filled k)
buffer_bytes old new search guid key (Err status.InvalidParameter) sound h k = ap (λ (p : Parts). byte_at k p.pools) h.1
buffer_bytes old new search guid key (Err status.NotFound) sound h k = ap (λ (p : Parts). byte_at k p.pools) h.1
buffer_bytes old new search guid key (Err status.OutOfResources) sound h k = ap (λ (p : Parts). byte_at k p.pools) h.3
buffer_bytes old new search guid key (Err other) sound h k = absurd h

-- no bytes are laid anywhere
nothing_laid : (address k : ℕ) (o : Option ℕ) → laid address [] k o ≡ o
nothing_laid address k o = elim (cases_lt k address) [
  | inl l ↦ laid-low address [] k o l
  | inr l ↦ laid-high address [] k o (omega (arith, l))
]

item_list : {A : Type 0} (old new : Parts) (items : List OpenItem) (returned : PoolList A) → AreSound old → PutsItems IsBestChoice old items returned new → Laid (Some (returned.address, item_bytes items)) old.pools new.pools
item_list old new [] returned sound h k = ap (λ (p : Parts). byte_at k p.pools) h.2 ∙ sym (nothing_laid returned.address k (byte_at k old.pools))
item_list old new (i ∷ items) returned sound h k = filled_bytes old new (item_bytes (i ∷ items)) returned sound h.0 k

list_bytes : {A : Type 0} (old new : Parts) (handle : ℕ) (guid : List ℕ) (result : Result (PoolList A) Status) → AreSound old → ListsOpens IsBestChoice old handle guid result new →
    Laid (block_returned (λ (returned : PoolList A). returned.address) (item_bytes (items_on old.lists.opens handle guid)) result) old.pools new.pools
list_bytes old new handle guid (Ok returned) sound h k = item_list old new (items_on old.lists.opens handle guid) returned sound h.2 k
list_bytes old new handle guid (Err status.NotFound) sound h k = ap (λ (p : Parts). byte_at k p.pools) h.1
list_bytes old new handle guid (Err status.OutOfResources) sound h k = ap (λ (p : Parts). byte_at k p.pools) h.2
list_bytes old new handle guid (Err other) sound h k = absurd h

-- ---- a step

-- what the replies have of blocks
returned_pool : (A : Type 0) (p : Parts) (t size : ℕ) (result : Result Answer Status) → lays {A = A} p (call.AllocatePool t size) (reply.AllocatePool result) ≡ block_returned (λ (block : Answer). block.0) (replicate size 0) result
returned_pool A p t size (Ok block) = refl
returned_pool A p t size (Err e) = refl

returned_write : (A : Type 0) (p : Parts) (address : ℕ) (bytes : List ℕ) (result : Result (Unit {0}) Status) → lays {A = A} p (call.PoolWrite address bytes) (reply.PoolWrite result) ≡ block_returned (λ (done : Unit {0}). address) bytes result
returned_write A p address bytes (Ok done) = refl
returned_write A p address bytes (Err e) = refl

returned_buffer : {A : Type 0} (p : Parts) (search : ℕ) (guid : List ℕ) (key : ℕ) (result : Result (PoolList A) Status) →
    lays p (call.LocateHandleBuffer search guid key) (reply.LocateHandleBuffer result) ≡ block_returned (λ (returned : PoolList A). returned.address) (handle_bytes (handles_of (found_handles p.lists search guid key))) result
returned_buffer p search guid key (Ok returned) = refl
returned_buffer p search guid key (Err e) = refl

returned_list : {A : Type 0} (p : Parts) (handle : ℕ) (guid : List ℕ) (result : Result (PoolList A) Status) →
    lays p (call.OpenProtocolInformation handle guid) (reply.OpenProtocolInformation result) ≡ block_returned (λ (returned : PoolList A). returned.address) (item_bytes (items_on p.lists.opens handle guid)) result
returned_list p handle guid (Ok returned) = refl
returned_list p handle guid (Err e) = refl

returned_free : (A : Type 0) (address : ℕ) (result : Result (Unit {0}) Status) → gives_back {A = A} (call.FreePool address) (reply.FreePool result) ≡ cond (is_ok result) (Some address) None
returned_free A address (Ok done) = refl
returned_free A address (Err e) = refl

-- a service that leaves all parts and returns an error, or goes by a rule
changed : {A R : Type 0} (exited : Bool) (old new : Parts) (c : Call A) (answer : Reply A) (reply_with : Result R Status → Reply A) (Rule : Result R Status → Type 0) (k : ℕ) → byte_after old c (reply_with (Err status.Unsupported)) k ≡ byte_at k old.pools →
    ((result : Result R Status) → Rule result → byte_at k new.pools ≡ byte_after old c (reply_with result) k) → Serves exited old new answer reply_with Rule → byte_at k new.pools ≡ byte_after old c answer k
changed true old new c answer reply_with Rule k leaves f (result, returned, h) =
    ap (λ (p : Parts). byte_at k p.pools) h.1 ∙ sym leaves ∙ sym (ap (λ a. byte_after old c a k) (returned ∙ ap reply_with h.0))
changed false old new c answer reply_with Rule k leaves f (result, returned, h) = f result h ∙ sym (ap (λ a. byte_after old c a k) returned)

-- by what a reply has of a block
laid_by : (old new : Parts) (block returned : Option (ℕ × List ℕ)) (k : ℕ) → returned ≡ block → Laid block old.pools new.pools → byte_at k new.pools ≡ laid_over returned k (byte_at k old.pools)
laid_by old new block returned k e h = h k ∙ sym (ap (λ (o : Option (ℕ × List ℕ)). laid_over o k (byte_at k old.pools)) e)

-- what a service on the pages does
same_pools : (exited : Bool) (old new : Parts) (Rule Refusal : Type 0) → (Rule → new.pools ≡ old.pools) → WhileOpen exited old new Rule Refusal → new.pools ≡ old.pools
same_pools true old new Rule Refusal f h = ap (λ (p : Parts). p.pools) h.1
same_pools false old new Rule Refusal f h = f h

pub bytes_after : {A : Type 0} (ds : List Meaning) (exited : Bool) (old : Parts) (c : Call A) (answer : Reply A) (new : Parts) → AreSound old → Answers (best_starts ds) exited old c answer new → (k : ℕ) → byte_at k new.pools ≡ byte_after old c answer k
bytes_after {A = A} ds exited old (call.AllocatePages kind t pages memory) answer new sound (result, e, h) k = ap (byte_at k) (same_pools exited old new _ _ (λ rule. rule.1) h)
bytes_after {A = A} ds exited old (call.FreePages memory pages) answer new sound (result, e, h) k = ap (byte_at k) (same_pools exited old new _ _ (λ rule. rule.1) h)
bytes_after {A = A} ds exited old (call.AllocatePool t size) answer new sound h k =
    changed exited old new (call.AllocatePool t size) answer reply.AllocatePool (λ result. OnBookAndPools (AllocatesPool IsBestChoice old.book old.pools t size result) old new) k refl
    (λ result rule. laid_by old new _ _ k (returned_pool A old t size result) (allocated old.book new.book old.pools new.pools t size result old.lists sound rule.0)) h
bytes_after {A = A} ds exited old (call.FreePool address) answer new sound h k =
    changed exited old new (call.FreePool address) answer reply.FreePool (λ result. FreesBlock old address result new) k refl
    (λ result rule. given_back old.book new.book old.pools new.pools address result old.lists sound rule.1.0 k ∙ sym (ap (λ (o : Option ℕ). left_by o old.pools k) (returned_free A address result))) h
bytes_after {A = A} ds exited old (call.PoolWrite address bytes) answer new sound h k =
    changed exited old new (call.PoolWrite address bytes) answer reply.PoolWrite (λ result. OnPools (WritesPool old.pools address bytes result) old new) k refl
    (λ result rule. laid_by old new _ _ k (returned_write A old address bytes result) (written_bytes old.pools new.pools address bytes result old.book old.lists sound rule.0)) h
bytes_after {A = A} ds exited old (call.LocateHandleBuffer search guid key) answer new sound h k =
    changed exited old new (call.LocateHandleBuffer search guid key) answer reply.LocateHandleBuffer (λ result. LocatesBuffer IsBestChoice old search guid key result new) k refl
    (λ result rule. laid_by old new _ _ k (returned_buffer old search guid key result) (buffer_bytes old new search guid key result sound rule)) h
bytes_after {A = A} ds exited old (call.OpenProtocolInformation handle guid) answer new sound h k =
    changed exited old new (call.OpenProtocolInformation handle guid) answer reply.OpenProtocolInformation (λ result. ListsOpens IsBestChoice old handle guid result new) k refl
    (λ result rule. laid_by old new _ _ k (returned_list old handle guid result) (list_bytes old new handle guid result sound rule)) h
bytes_after {A = A} ds exited old c answer new sound h k = ap (byte_at k) (quiet (best_starts ds) exited old c answer new tt h).1

-- ---- reads

read_rule : (es : List Extent) (address size : ℕ) (bytes : List ℕ) (b : Book) (l : Lists) → AreSound (parts_of b es l) → AnswersRead es address size status.Success bytes → (length bytes ≡ size) × ((i : ℕ) → i < size → byte_at (address + i) es ≡ first_of (drop i bytes))
read_rule es address size bytes b l sound (whole, here, room, is) =
    let long : length bytes ≡ size = ap (λ (ys : List ℕ). length ys) is ∙ length-take-le size whole room in
    (long, λ i low. read es address bytes bytes tt sound.extents (whole, here, omega (arith, long, room), is ∙ ap (λ (n : ℕ). take n whole) (sym long)) i (omega (arith, long, low)))

pub read_bytes : {A : Type 0} (ds : List Meaning) (exited : Bool) (old new : Parts) (address size : ℕ) (bytes : Vec ℕ A) → AreSound old → Answers (best_starts ds) exited old (call.PoolRead address size) (reply.PoolRead status.Success bytes) new →
    (length bytes.items ≡ size) × ((i : ℕ) → i < size → byte_at (address + i) old.pools ≡ first_of (drop i bytes.items))
read_bytes ds true old new address size bytes sound (returned, used, e, h) = let refused = h.0.0 in absurd (cc)
read_bytes {A = A} ds false old new address size bytes sound (returned, used, e, h) =
    let success : returned ≡ status.Success = cc in
    let same : used ≡ bytes = cc in
    let is : AnswersRead old.pools address size returned bytes.items = subst (λ (v : Vec ℕ A). AnswersRead old.pools address size returned v.items) same h.0 in
    read_rule old.pools address size bytes.items old.book old.lists sound (subst (λ (s : Status). AnswersRead old.pools address size s bytes.items) success is)
