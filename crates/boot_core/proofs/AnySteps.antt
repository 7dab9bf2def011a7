-- A step with the best start is a step with any permitted start.
use Rattle.std.proofs.Common.{ℕ, Bool, true, false, List, [], ◌∷◌, length, Option, Some, None, Result, Ok, Err}
use Rattle.page_ranges.specs.declared.statuses.Status.{Status}
use Rattle.page_ranges.specs.declared.statuses.Status.TheVariants as status
use Rattle.placement_certificate.specs.declared.certificates.Request.{Request}
use Rattle.page_services.specs.declared.page_book.Placed.{Placed}
use Rattle.page_services.specs.PageRules.{Book, IsAnyStart, IsBestChoice, IsPlaced, placement_request, pool_request, AllocatesPages}
use Rattle.page_services.proofs.Choices.{best_is_permitted}
use Rattle.pool_services.specs.Extents.{Extent, Place, first_fit, pages_for}
use Rattle.pool_services.specs.PoolRules.{Answer, AllocatesPool, FillsPool, IsPut}
use Rattle.open_agents.specs.declared.items.OpenItem.{OpenItem}
use Rattle.open_agents.specs.OpenItems.{items_on}
use Rattle.protocol_services.specs.ListBytes.{handle_bytes, item_bytes}
use Rattle.driver_connect.specs.Drivers.{Meaning}
use Rattle.boot_calls.specs.declared.calls.Call.{Call}
use Rattle.boot_calls.specs.declared.calls.Call.TheVariants as call
use Rattle.boot_replies.specs.declared.replies.PoolList.{PoolList}
use Rattle.boot_replies.specs.declared.replies.Reply.{Reply}
use Rattle.boot_core.specs.Machines.{Parts, State}
use Rattle.boot_core.specs.PoolLists.{LocatesBuffer, ListsOpens, PutsItems}
use Rattle.boot_replies.specs.Certified.{list_type}
use Rattle.boot_core.specs.Steps.{best_starts, any_starts, OnBook, OnBookAndPools, WhileOpen, Serves, Answers, Step, StepAny, CallRunBy, CallRun}

placed_any : {A : Type 0} (b : Book) (r : Option Request) (t pages memory : ℕ) (placed : Placed A) → IsPlaced IsBestChoice b r t pages memory placed → IsPlaced IsAnyStart b r t pages memory placed
placed_any b (Some r) t pages memory placed (start, chosen, at) = (start, best_is_permitted b r start placed.certificate chosen, at)
placed_any b None t pages memory placed h = h

allocates_any : {A : Type 0} (b : Book) (kind t pages memory : ℕ) (result : Result (Placed A) Status) (new : Book) → AllocatesPages IsBestChoice b kind t pages memory result new → AllocatesPages IsAnyStart b kind t pages memory result new
allocates_any b kind t pages memory (Ok placed) new h = (h.0, placed_any b (placement_request b.granule kind t pages memory) t pages memory placed h.1, h.2)
allocates_any b kind t pages memory (Err status.InvalidParameter) new h = h
allocates_any b kind t pages memory (Err status.NotFound) new h = h
allocates_any b kind t pages memory (Err status.OutOfResources) new h = h
allocates_any b kind t pages memory (Err status.Success) new h = absurd h
allocates_any b kind t pages memory (Err status.Unsupported) new h = absurd h
allocates_any b kind t pages memory (Err status.BufferTooSmall) new h = absurd h
allocates_any b kind t pages memory (Err status.DeviceError) new h = absurd h
allocates_any b kind t pages memory (Err status.AccessDenied) new h = absurd h
allocates_any b kind t pages memory (Err status.AlreadyStarted) new h = absurd h

put_any : (b : Book) (es : List Extent) (t size : ℕ) (o : Option Place) (answer : Answer) (new_b : Book) (new : List Extent) → IsPut IsBestChoice o b es t size answer new_b new → IsPut IsAnyStart o b es t size answer new_b new
put_any b es t size (Some p) answer new_b new h = h
put_any b es t size None answer new_b new (start, chosen, at, book, extents) = (start, best_is_permitted b (pool_request b.granule t (pages_for size)) start answer.1 chosen, at, book, extents)

pool_any : (b : Book) (es : List Extent) (t size : ℕ) (result : Result Answer Status) (new_b : Book) (new : List Extent) → AllocatesPool IsBestChoice b es t size result new_b new → AllocatesPool IsAnyStart b es t size result new_b new
pool_any b es t size (Ok answer) new_b new h = (h.0, h.1, put_any b es t size (first_fit t size es) answer new_b new h.2)
pool_any b es t size (Err status.InvalidParameter) new_b new h = h
pool_any b es t size (Err status.OutOfResources) new_b new h = h
pool_any b es t size (Err other) new_b new h = absurd h

while_open : (exited : Bool) (old new : Parts) (P Q Refusal : Type 0) → (P → Q) → WhileOpen exited old new P Refusal → WhileOpen exited old new Q Refusal
while_open true old new P Q Refusal f h = h
while_open false old new P Q Refusal f h = f h

served_as : {A R : Type 0} (exited : Bool) (old new : Parts) (answer : Reply A) (reply_with : Result R Status → Reply A) (P Q : Result R Status → Type 0) → ((result : Result R Status) → P result → Q result) → Serves exited old new answer reply_with P → Serves exited old new answer reply_with Q
served_as exited old new answer reply_with P Q f (result, returned, h) = (result, returned, while_open exited old new (P result) (Q result) _ (f result) h)

fills_any : (b : Book) (es : List Extent) (t : ℕ) (bytes : List ℕ) (result : Result Answer Status) (new_b : Book) (new : List Extent) → FillsPool IsBestChoice b es t bytes result new_b new → FillsPool IsAnyStart b es t bytes result new_b new
fills_any b es t bytes (Ok answer) new_b new (placed, h, e) = (placed, pool_any b es t (length bytes) (Ok answer) new_b placed h, e)
fills_any b es t bytes (Err e) new_b new h = pool_any b es t (length bytes) (Err e) new_b new h

buffer_any : {A : Type 0} (old : Parts) (search : ℕ) (guid : List ℕ) (key : ℕ) (result : Result (PoolList A) Status) (new : Parts) → LocatesBuffer IsBestChoice old search guid key result new → LocatesBuffer IsAnyStart old search guid key result new
buffer_any old search guid key (Ok returned) new (handles, found, some, count, filled, lists) = (handles, found, some, count, fills_any old.book old.pools list_type (handle_bytes handles) (Ok (returned.address, returned.certificate)) new.book new.pools filled, lists)
buffer_any old search guid key (Err status.InvalidParameter) new h = h
buffer_any old search guid key (Err status.NotFound) new h = h
buffer_any old search guid key (Err status.OutOfResources) new h = h
buffer_any old search guid key (Err other) new h = absurd h

items_any : {A : Type 0} (old : Parts) (items : List OpenItem) (returned : PoolList A) (new : Parts) → PutsItems IsBestChoice old items returned new → PutsItems IsAnyStart old items returned new
items_any old [] returned new h = h
items_any old (i ∷ items) returned new h = (fills_any old.book old.pools list_type (item_bytes (i ∷ items)) (Ok (returned.address, returned.certificate)) new.book new.pools h.0, h.1)

opens_any : {A : Type 0} (old : Parts) (handle : ℕ) (guid : List ℕ) (result : Result (PoolList A) Status) (new : Parts) → ListsOpens IsBestChoice old handle guid result new → ListsOpens IsAnyStart old handle guid result new
opens_any old handle guid (Ok returned) new h = (h.0, h.1, items_any old (items_on old.lists.opens handle guid) returned new h.2)
opens_any old handle guid (Err status.NotFound) new h = h
opens_any old handle guid (Err status.OutOfResources) new h = h
opens_any old handle guid (Err other) new h = absurd h

answers_any : {A : Type 0} (ds : List Meaning) (exited : Bool) (old : Parts) (c : Call A) (answer : Reply A) (new : Parts) → Answers (best_starts ds) exited old c answer new → Answers (any_starts ds) exited old c answer new
answers_any ds exited old (call.AllocatePages kind t pages memory) answer new h =
    served_as exited old new answer _ (λ result. OnBook (AllocatesPages IsBestChoice old.book kind t pages memory result) old new) (λ result. OnBook (AllocatesPages IsAnyStart old.book kind t pages memory result) old new)
    (λ result rule. (allocates_any old.book kind t pages memory result new.book rule.0, rule.1, rule.2)) h
answers_any ds exited old (call.AllocatePool t size) answer new h =
    served_as exited old new answer _ (λ result. OnBookAndPools (AllocatesPool IsBestChoice old.book old.pools t size result) old new) (λ result. OnBookAndPools (AllocatesPool IsAnyStart old.book old.pools t size result) old new)
    (λ result rule. (pool_any old.book old.pools t size result new.book new.pools rule.0, rule.1)) h
answers_any ds exited old (call.LocateHandleBuffer search guid key) answer new h =
    served_as exited old new answer _ (λ result. LocatesBuffer IsBestChoice old search guid key result new) (λ result. LocatesBuffer IsAnyStart old search guid key result new) (λ result. buffer_any old search guid key result new) h
answers_any ds exited old (call.OpenProtocolInformation handle guid) answer new h =
    served_as exited old new answer _ (λ result. ListsOpens IsBestChoice old handle guid result new) (λ result. ListsOpens IsAnyStart old handle guid result new) (λ result. opens_any old handle guid result new) h
answers_any ds exited old c answer new h = h

pub step_any : {A : Type 0} (ds : List Meaning) (old : State) (c : Call A) (answer : Reply A) (new : State) → Step ds old c answer new → StepAny ds old c answer new
step_any ds old c answer new s = record { answers = answers_any ds old.exited old.parts c answer new.parts s.answers; exited = s.exited; calls_left = s.calls_left }

pub run_any : {A : Type 0} (ds : List Meaning) (old : State) (calls : List (Call A)) (replies : List (Reply A)) (new : State) → CallRun ds old calls replies new → CallRunBy (any_starts ds) old calls replies new
run_any ds old [] [] new r = r
run_any ds old (c ∷ calls) (r ∷ replies) new run = (run.0, step_any ds old c r run.0 run.1, run_any ds run.0 calls replies new run.2)
run_any ds old [] (r ∷ replies) new run = absurd run
run_any ds old (c ∷ calls) [] new run = absurd run
