-- The laws of the machine. Each is the contract of a public function.
use Rattle.std.specs.Prelude.{◌≡◌, ◌≢◌, ◌⊎◌, ◌↔◌, ℕ, ◌+◌, ◌*◌, ◌<◌, ◌≤◌, false, cond, List, [], ◌∷◌, ◌++◌, length, take, drop, replicate, Option, Some, None, Ok, Err, IfSome, Vec, Bool, true, is_some}
use Rattle.std.specs.Option.{option_map}
use Rattle.std.specs.List.{AllByRecursion}
use Rattle.page_ranges.specs.declared.statuses.Status.{Status}
use Rattle.page_ranges.specs.declared.statuses.Status.TheVariants.{OutOfResources, Success}
use Rattle.page_ranges.specs.Memory.{Page, page_at}
use Rattle.page_ranges.specs.MemoryMap.{memory_map}
use Rattle.placement_certificate.specs.Acceptance.{IsAccepted}
use Rattle.map_keys.specs.declared.memory_maps.MapReply.{MapReply}
use Rattle.map_keys.specs.Records.{IsRecordEntry}
use Rattle.page_services.specs.PageRules.{fixed_address}
use Rattle.pool_services.specs.Extents.{Extent, tail_at}
use Rattle.pool_services.specs.Laws.{byte_at, first_of, is_among, laid}
use Rattle.open_agents.specs.OpenItems.{items_on, once_more}
use Rattle.driver_connect.specs.Drivers.{HasShortPlans, Meaning}
use Rattle.protocol_services.specs.Lists.{HasRoom}
use Rattle.protocol_services.specs.ListBytes.{handle_bytes, item_bytes}
use Rattle.protocol_services.specs.ProperLists.{AreProperLists}
use Rattle.protocol_services.specs.Searches.{found_handles}
use Rattle.boot_calls.specs.declared.calls.Call.{Call}
use Rattle.boot_calls.specs.declared.calls.Call.TheVariants as call
use Rattle.boot_replies.specs.declared.replies.Reply.{Reply}
use Rattle.boot_replies.specs.declared.replies.Reply.TheVariants as reply
use Rattle.boot_calls.specs.CallNumbers.{NamesTypes}
use Rattle.boot_machines.specs.MachineRuns.{HasRecordNumbers}
use Rattle.boot_machines.specs.Machines.{IsMachine, MachineValue}
use Rattle.boot_core.specs.Machines.{Parts, State, AreSound, all_calls, prepared_state}
use Rattle.boot_replies.specs.Certified.{certificate_in, certified}
use Rattle.boot_core.specs.Steps.{Setting, any_starts, MapStep, ReadStep, Step, StepAny, StepBy, CallRun, CallRunBy}

-- A step with the best start is a step with any permitted start.
abbrev pub AnyStepLaw : Type 0 → Type 0
AnyStepLaw A =
    (ds : List Meaning) (old : State) (c : Call A) (answer : Reply A) (new : State)
    → Step ds old c answer new → StepAny ds old c answer new

-- A run with the best starts is a run with any permitted starts.
abbrev pub AnyRunLaw : Type 0 → Type 0
AnyRunLaw A =
    (ds : List Meaning) (old : State) (calls : List (Call A)) (replies : List (Reply A))
    (new : State)
    → CallRun ds old calls replies new → CallRunBy (any_starts ds) old calls replies new

-- The parts are sound after calls on a valid machine, however starts are chosen among the permitted
-- ones. Before the first call, here as in the laws below, memory may be reserved ahead for any number
-- of placements.
abbrev pub SoundLaw : Setting → Type 0 → Type 0
SoundLaw S A =
    (placements : ℕ) (certifies : Bool) (machine : MachineValue) (calls : List (Call A))
    (replies : List (Reply A)) (new : State)
    → IsMachine machine
    → CallRunBy S (prepared_state placements certifies machine) calls replies new
    → AreSound new.parts

-- The lists of the protocol services are proper after any calls, however starts are chosen and
-- whatever the drivers answer.
abbrev pub ProperListsLaw : Setting → Type 0 → Type 0
ProperListsLaw S A =
    (placements : ℕ) (certifies : Bool) (machine : MachineValue) (calls : List (Call A))
    (replies : List (Reply A)) (new : State)
    → CallRunBy S (prepared_state placements certifies machine) calls replies new
    → AreProperLists new.parts.lists

-- After calls no open item's count is above their number. So where they are no more than a machine
-- serves, no count has come to its end, and each rises by exactly 1 where its item is opened again.
abbrev pub CountLaw : Setting → Type 0 → Type 0
CountLaw S A =
    (placements : ℕ) (certifies : Bool) (machine : MachineValue) (calls : List (Call A))
    (replies : List (Reply A)) (new : State)
    → CallRunBy S (prepared_state placements certifies machine) calls replies new →
    AllByRecursion (λ o. (o.count ≤ length calls)
    × (length calls ≤ all_calls → once_more o.count ≡ o.count + 1)) new.parts.lists.opens

-- After no more calls than a machine serves, the last number and the last stamp are far enough from
-- their ends for another call: so no call of the run returns OUT_OF_RESOURCES since these ran out.
-- The drivers' plans are those that a `StartPlan` has room for.
abbrev pub RoomLaw : Setting → Type 0 → Type 0
RoomLaw S A =
    AllByRecursion HasShortPlans S.drivers
    → (placements : ℕ) (certifies : Bool) (machine : MachineValue) (calls : List (Call A))
    (replies : List (Reply A)) (new : State)
    → CallRunBy S (prepared_state placements certifies machine) calls replies new
    → length calls ≤ all_calls → HasRoom new.parts.lists

-- ---- keys

-- the type of the page with a number, `None` where it is absent
abbrev pub type_at : List Page → ℕ → Option ℕ
type_at m k = option_map (λ x. x.mtype) (page_at m k)

-- each page has the same type in both memories
abbrev pub HaveSameTypes : List Page → List Page → Type 0
HaveSameTypes m n = (k : ℕ) → type_at m k ≡ type_at n k

-- no call of the run changes the type of any page
abbrev pub ChangesNoType : {A : Type 0} (S : Setting) (old : State) (calls : List (Call A))
    (replies : List (Reply A)) (new : State)
    → CallRunBy S old calls replies new → Type 0
ChangesNoType S old (c ∷ calls) (answer ∷ replies) new (next, step, run) =
    HaveSameTypes old.parts.book.memory next.parts.book.memory
    × ChangesNoType S next calls replies new run
ChangesNoType S old calls replies new run = Unit {0}

-- how many calls of the run change the type of a page
abbrev pub ChangesTypes : {A : Type 0} (S : Setting) (old : State) (calls : List (Call A))
    (replies : List (Reply A)) (new : State)
    → CallRunBy S old calls replies new → ℕ → Type 0
ChangesTypes S old (c ∷ calls) (answer ∷ replies) new (next, step, run) n =
    (HaveSameTypes old.parts.book.memory next.parts.book.memory
    × ChangesTypes S next calls replies new run n)
    ⊎ ((¬ HaveSameTypes old.parts.book.memory next.parts.book.memory)
    × ((others : ℕ) × (n ≡ others + 1) × ChangesTypes S next calls replies new run others))
ChangesTypes S old calls replies new run n = n ≡ 0

-- The key counts exactly the calls that change the type of a page.
abbrev pub KeyCountLaw : Setting → Type 0 → Type 0
KeyCountLaw S A =
    (old : State) (calls : List (Call A)) (replies : List (Reply A)) (new : State)
    (run : CallRunBy S old calls replies new) (n : ℕ) →
    AreSound old.parts
    → ChangesTypes S old calls replies new run n ↔ (new.parts.book.key ≡ old.parts.book.key + n)

-- the reply is of a GetMemoryMap that succeeded, with this key
abbrev pub ReturnsKey : {A : Type 0} → Reply A → ℕ → Type 0
ReturnsKey (reply.GetMemoryMap returned bytes) key =
    (returned.status ≡ Success) × (returned.key ≡ key)
ReturnsKey answer key = ⊥

-- GetMemoryMap returned the key, through a call or of a buffer of the caller's.
abbrev pub GivesKey : Setting → Type 0 → State → ℕ → State → Type 0
GivesKey S A old key new =
    ((size : ℕ) × (answer : Reply A) × StepBy S old (call.GetMemoryMap size) answer new
    × ReturnsKey answer key)
    ⊎ ((buffer after : List ℕ) × (returned : MapReply) × MapStep old buffer returned after new
    × (returned.status ≡ Success) × (returned.key ≡ key))

-- Before an exit, a key that GetMemoryMap returned is accepted exactly where no call since has
-- changed the type of a page.
abbrev pub KeyLaw : Setting → Type 0 → Type 0
KeyLaw S A =
    (first old : State) (key : ℕ) (calls : List (Call A)) (replies : List (Reply A)) (new : State)
    (run : CallRunBy S old calls replies new) (answer : Reply A) (after : State) →
    AreSound first.parts → GivesKey S A first key old → new.exited ≡ false
    → StepBy S new (call.ExitBootServices key) answer after →
    (answer ≡ reply.ExitBootServices (Ok tt)) ↔ ChangesNoType S old calls replies new run

-- ---- memory maps

-- how many bytes of a buffer a reply of GetMemoryMap says were used: its size on success
abbrev pub used_size : Status → ℕ → ℕ
used_size Success size = size
used_size status size = 0

-- GetMemoryMap with a buffer of the caller's is a step of the machine, with the reply of a call
-- that returns the front of the buffer; the rest of the buffer is as it was.
abbrev pub MapStepLaw : Type 0 → Type 0
MapStepLaw A =
    (ds : List Meaning) (old : State) (buffer : List ℕ) (returned : MapReply) (after : List ℕ)
    (new : State) (used : Vec ℕ A) →
    MapStep old buffer returned after new
    → used.items ≡ take (used_size returned.status returned.size) after →
    Step ds old (call.GetMemoryMap (length buffer)) (reply.GetMemoryMap returned used) new
    × (after ≡ used.items ++ drop (length used.items) buffer)

-- how many bytes of a buffer a status of a read says were used: all on success
abbrev pub read_size : Status → ℕ → ℕ
read_size Success size = size
read_size status size = 0

-- A read into a buffer of the caller's is a step of the machine, with the status that a call
-- returns and the whole buffer where it succeeds; else the buffer is as it was.
abbrev pub ReadStepLaw : Type 0 → Type 0
ReadStepLaw A =
    (ds : List Meaning) (old : State) (address : ℕ) (buffer : List ℕ) (status : Status)
    (after : List ℕ) (new : State) (used : Vec ℕ A) →
    ReadStep old address buffer status after new
    → used.items ≡ take (read_size status (length buffer)) after →
    Step ds old (call.PoolRead address (length buffer)) (reply.PoolRead status used) new
    × (after ≡ used.items ++ drop (length used.items) buffer)

-- After calls on a valid machine whose numbers fit their fields, each entry of the memory map is
-- one that a record can spell.
abbrev pub RecordEntriesLaw : Type 0 → Type 0
RecordEntriesLaw A =
    (ds : List Meaning) (placements : ℕ) (certifies : Bool) (machine : MachineValue)
    (calls : List (Call A)) (replies : List (Reply A)) (new : State)
    → IsMachine machine → AllByRecursion HasRecordNumbers machine.runs
    → AllByRecursion NamesTypes calls →
    CallRun ds (prepared_state placements certifies machine) calls replies new
    → AllByRecursion IsRecordEntry (memory_map new.parts.book.memory)

-- After calls on a valid machine the memory map has an entry for each run of the machine and two
-- for each call, or fewer.
abbrev pub MapGrowthLaw : Setting → Type 0 → Type 0
MapGrowthLaw S A =
    (placements : ℕ) (certifies : Bool) (machine : MachineValue) (calls : List (Call A))
    (replies : List (Reply A)) (new : State)
    → IsMachine machine
    → CallRunBy S (prepared_state placements certifies machine) calls replies new →
    length (memory_map new.parts.book.memory) ≤ length machine.runs + 2 * length calls

-- ---- memory to free pages

-- While memory is reserved for a call of FreePages, it does not run out in one. In FreePool it never
-- does.
abbrev pub FreeMemoryLaw : Setting → Type 0 → Type 0
FreeMemoryLaw S A =
    (old : State) (address pages : ℕ) (answer : Reply A) (new : State) →
    (0 < old.parts.book.frees → StepBy S old (call.FreePages address pages) answer new
    → answer ≢ reply.FreePages (Err OutOfResources))
    × (StepBy S old (call.FreePool address) answer new
    → answer ≢ reply.FreePool (Err OutOfResources))

-- ---- the pool's bytes

-- how many bytes a block has from an address on, to its end
abbrev pub bytes_left : Option (List ℕ) → ℕ
bytes_left None = 0
bytes_left (Some bytes) = length bytes

-- the address of the block that a reply has
abbrev pub returned_block : {A : Type 0} → Reply A → Option ℕ
returned_block (reply.AllocatePool (Ok block)) = Some block.0
returned_block (reply.LocateHandleBuffer (Ok returned)) = Some returned.address
returned_block (reply.OpenProtocolInformation (Ok returned)) = Some returned.address
returned_block answer = None

-- whether a reply says that a block was given back, or written to
abbrev pub is_done : {A : Type 0} → Reply A → Bool
is_done (reply.FreePool (Ok done)) = true
is_done (reply.PoolWrite (Ok done)) = true
is_done answer = false

-- the handles that a search finds, if any
abbrev pub handles_of : Option (List ℕ) → List ℕ
handles_of None = []
handles_of (Some handles) = handles

-- from which address on a call lays bytes in the pool, and which: the zeros of a new block, those
-- of a write, or a list
abbrev pub lays : {A : Type 0} → Parts → Call A → Reply A → Option (ℕ × List ℕ)
lays p (call.AllocatePool t size) answer =
    option_map (λ address. (address, replicate size 0)) (returned_block answer)
lays p (call.PoolWrite address bytes) answer = cond (is_done answer) (Some (address, bytes)) None
lays p (call.LocateHandleBuffer search guid key) answer =
    option_map
    (λ address. (address, handle_bytes (handles_of (found_handles p.lists search guid key))))
    (returned_block answer)
lays p (call.OpenProtocolInformation handle guid) answer =
    option_map (λ address. (address, item_bytes (items_on p.lists.opens handle guid)))
    (returned_block answer)
lays p c answer = None

-- the block that a call gives back
abbrev pub gives_back : {A : Type 0} → Call A → Reply A → Option ℕ
gives_back (call.FreePool address) answer = cond (is_done answer) (Some address) None
gives_back c answer = None

-- what is at an address once bytes are laid, if any are
abbrev pub laid_over : Option (ℕ × List ℕ) → ℕ → Option ℕ → Option ℕ
laid_over None k old = old
laid_over (Some (address, bytes)) k old = laid address bytes k old

-- what is at an address once the block at another is given back, if one is
abbrev pub left_by : Option ℕ → List Extent → ℕ → Option ℕ
left_by None es k = byte_at k es
left_by (Some address) es k =
    cond (is_among address (bytes_left (tail_at address es)) k) None (byte_at k es)

-- What is at an address after a call: what it lays there, and else what was there, but for a
-- block that it gives back.
abbrev pub byte_after : {A : Type 0} → Parts → Call A → Reply A → ℕ → Option ℕ
byte_after p c answer k = laid_over (lays p c answer) k (left_by (gives_back c answer) p.pools k)

-- So each call leaves the bytes of the pool.
abbrev pub PoolBytesLaw : Type 0 → Type 0
PoolBytesLaw A =
    (ds : List Meaning) (old : State) (c : Call A) (answer : Reply A) (new : State)
    → AreSound old.parts → Step ds old c answer new → (k : ℕ)
    → byte_at k new.parts.pools ≡ byte_after old.parts c answer k

-- A read that succeeds gives the bytes at its addresses.
abbrev pub ReadBytesLaw : Type 0 → Type 0
ReadBytesLaw A =
    (ds : List Meaning) (old : State) (address size : ℕ) (bytes : Vec ℕ A) (new : State)
    → AreSound old.parts
    → Step ds old (call.PoolRead address size) (reply.PoolRead Success bytes) new →
    (length bytes.items ≡ size)
    × ((i : ℕ) → i < size → byte_at (address + i) old.parts.pools ≡ first_of (drop i bytes.items))

-- no call of the run changes what is at an address of the pool
abbrev pub LeavesByte : {A : Type 0} (ds : List Meaning) (old : State) (calls : List (Call A))
    (replies : List (Reply A)) (new : State)
    → CallRun ds old calls replies new → ℕ → Type 0
LeavesByte ds old (c ∷ calls) (answer ∷ replies) new (next, step, run) k =
    (byte_after old.parts c answer k ≡ byte_at k old.parts.pools)
    × LeavesByte ds next calls replies new run k
LeavesByte ds old calls replies new run k = Unit {0}

-- A read gives the bytes that were last laid at its addresses.
abbrev pub LastBytesLaw : Type 0 → Type 0
LastBytesLaw A =
    (ds : List Meaning) (first old : State) (c : Call A) (answer : Reply A) (address : ℕ)
    (bytes : List ℕ) (calls : List (Call A)) (replies : List (Reply A)) (new : State)
    (run : CallRun ds old calls replies new) (used : Vec ℕ A) (after : State) →
    AreSound first.parts → Step ds first c answer old
    → lays first.parts c answer ≡ Some (address, bytes)
    → ((i : ℕ) → i < length bytes → LeavesByte ds old calls replies new run (address + i)) →
    Step ds new (call.PoolRead address (length bytes)) (reply.PoolRead Success used) after
    → used.items ≡ bytes

-- ---- certificates

-- The certificate of a reply, where it has one, is accepted by the checker with the memory map
-- before the call.
abbrev pub IsAcceptedReply : {A : Type 0} → State → Call A → Reply A → Type 0
IsAcceptedReply old c answer =
    IfSome (certified old.parts.book.granule c answer)
    (λ returned. IsAccepted (memory_map old.parts.book.memory) returned.0 returned.1)

-- so is the certificate of each reply of the run
abbrev pub AllAccepted : {A : Type 0} (ds : List Meaning) (old : State) (calls : List (Call A))
    (replies : List (Reply A)) (new : State)
    → CallRun ds old calls replies new → Type 0
AllAccepted ds old (c ∷ calls) (answer ∷ replies) new (next, step, run) =
    IsAcceptedReply old c answer × AllAccepted ds next calls replies new run
AllAccepted ds old calls replies new run = Unit {0}

-- On a valid machine the checker accepts each certificate of a run.
abbrev pub AcceptanceLaw : Type 0 → Type 0
AcceptanceLaw A =
    (ds : List Meaning) (placements : ℕ) (certifies : Bool) (machine : MachineValue)
    (calls : List (Call A)) (replies : List (Reply A)) (new : State)
    (run : CallRun ds (prepared_state placements certifies machine) calls replies new)
    → IsMachine machine
    → AllAccepted ds (prepared_state placements certifies machine) calls replies new run

-- the pool has one extent more
abbrev pub HasNewExtent : Parts → Parts → Type 0
HasNewExtent old new = length new.pools ≡ length old.pools + 1

-- A call places pages by choice: AllocatePages that names no address, where it succeeds, and each
-- call for a block of the pool, where the block is in a new extent.
abbrev pub PlacesByChoice : {A : Type 0} → Parts → Call A → Reply A → Parts → Type 0
PlacesByChoice old (call.AllocatePages kind t pages memory) (reply.AllocatePages (Ok placed)) new =
    kind < fixed_address
PlacesByChoice old (call.AllocatePool t size) answer new = HasNewExtent old new
PlacesByChoice old (call.LocateHandleBuffer search guid key) answer new = HasNewExtent old new
PlacesByChoice old (call.OpenProtocolInformation handle guid) answer new = HasNewExtent old new
PlacesByChoice old c answer new = ⊥

-- The reply carries a certificate exactly where certificates are returned and the call placed pages
-- by choice, and then it says which request that is for.
pub record CertifiesChoice {A : Type 0} (certifies : Bool) (old : State) (c : Call A)
    (answer : Reply A) (new : State) : Type 0 where
  pub carried : (is_some (certificate_in answer) ≡ true)
      ↔ ((certifies ≡ true) × PlacesByChoice old.parts c answer new.parts)
  pub requested : is_some (certified old.parts.book.granule c answer)
      ≡ is_some (certificate_in answer)

-- so does each call of the run
abbrev pub AllCertifyChoices : {A : Type 0} (certifies : Bool) (ds : List Meaning) (old : State)
    (calls : List (Call A)) (replies : List (Reply A)) (new : State)
    → CallRun ds old calls replies new → Type 0
AllCertifyChoices certifies ds old (c ∷ calls) (answer ∷ replies) new (next, step, run) =
    CertifiesChoice certifies old c answer next
    × AllCertifyChoices certifies ds next calls replies new run
AllCertifyChoices certifies ds old calls replies new run = Unit {0}

-- On a valid machine, where certificates are returned, the calls of a run that place pages by
-- choice are exactly those whose replies carry certificates; where they are not, no reply carries
-- one.
abbrev pub CertificateLaw : Type 0 → Type 0
CertificateLaw A =
    (ds : List Meaning) (placements : ℕ) (certifies : Bool) (machine : MachineValue)
    (calls : List (Call A)) (replies : List (Reply A)) (new : State)
    (run : CallRun ds (prepared_state placements certifies machine) calls replies new)
    → IsMachine machine →
    AllCertifyChoices certifies ds
    (prepared_state placements certifies machine) calls replies new run
