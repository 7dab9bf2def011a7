-- What the services return that put a list into a pool block of its own, which the caller frees.
use Rattle.std.specs.Prelude.{◌≡◌, ℕ, ◌<◌, true, false, List, [], ◌∷◌, length, Some, None, Result, Ok, Err}
use Rattle.page_ranges.specs.declared.statuses.Status.{Status}
use Rattle.page_ranges.specs.declared.statuses.Status.TheVariants.{InvalidParameter, NotFound, OutOfResources}
use Rattle.page_services.specs.PageRules.{Choice}
use Rattle.pool_services.specs.PoolRules.{FillsPool}
use Rattle.guid_handles.specs.HandleTables.{carries}
use Rattle.open_agents.specs.declared.items.OpenItem.{OpenItem}
use Rattle.open_agents.specs.OpenItems.{items_on}
use Rattle.protocol_services.specs.ListBytes.{handle_bytes, item_bytes}
use Rattle.protocol_services.specs.Searches.{found_handles, once_found}
use Rattle.boot_replies.specs.declared.replies.PoolList.{PoolList}
use Rattle.boot_replies.specs.Certified.{list_type}
use Rattle.boot_core.specs.Machines.{Parts}

-- Some bytes are put into a pool block, whose address and certificate are returned; the lists of
-- the protocol services stay.
abbrev pub PutsBytes : {A : Type 0} → Choice → Parts → List ℕ → PoolList A → Parts → Type 0
PutsBytes Chosen old bytes returned new =
    FillsPool Chosen old.book old.pools list_type bytes
    (Ok (returned.address, returned.certificate)) new.book new.pools

-- What LocateHandleBuffer returns, and the parts after it. OUT_OF_RESOURCES means that the block,
-- or what it takes to make it, has no memory.
abbrev pub LocatesBuffer : {A : Type 0} → Choice → Parts → ℕ → List ℕ → ℕ
    → Result (PoolList A) Status → Parts → Type 0
LocatesBuffer Chosen old search guid key (Ok returned) new =
    (handles : List ℕ) × (found_handles old.lists search guid key ≡ Some handles)
    × (0 < length handles) × (returned.count ≡ length handles)
    × PutsBytes Chosen old (handle_bytes handles) returned new
    × (new.lists ≡ once_found search key old.lists)
LocatesBuffer Chosen old search guid key (Err InvalidParameter) new =
    (found_handles old.lists search guid key ≡ None) × (new ≡ old)
LocatesBuffer Chosen old search guid key (Err NotFound) new =
    (found_handles old.lists search guid key ≡ Some []) × (new ≡ old)
LocatesBuffer Chosen old search guid key (Err OutOfResources) new =
    (handles : List ℕ) × (found_handles old.lists search guid key ≡ Some handles)
    × (0 < length handles) × (new ≡ old)
LocatesBuffer Chosen old search guid key (Err status) new = ⊥

-- how open items are returned: without any there is no block
abbrev pub PutsItems : {A : Type 0} → Choice → Parts → List OpenItem → PoolList A → Parts → Type 0
PutsItems Chosen old [] returned new =
    (returned.address ≡ 0) × (returned.certificate ≡ None) × (new ≡ old)
PutsItems Chosen old (i ∷ items) returned new =
    PutsBytes Chosen old (item_bytes (i ∷ items)) returned new × (new.lists ≡ old.lists)

-- What OpenProtocolInformation returns, and the parts after it. Memory may run out only where there
-- are items.
abbrev pub ListsOpens : {A : Type 0} → Choice → Parts → ℕ → List ℕ → Result (PoolList A) Status
    → Parts → Type 0
ListsOpens Chosen old handle guid (Ok returned) new =
    (carries old.lists.handles guid handle ≡ true)
    × (returned.count ≡ length (items_on old.lists.opens handle guid))
    × PutsItems Chosen old (items_on old.lists.opens handle guid) returned new
ListsOpens Chosen old handle guid (Err NotFound) new =
    (carries old.lists.handles guid handle ≡ false) × (new ≡ old)
ListsOpens Chosen old handle guid (Err OutOfResources) new =
    (carries old.lists.handles guid handle ≡ true)
    × (0 < length (items_on old.lists.opens handle guid)) × (new ≡ old)
ListsOpens Chosen old handle guid (Err status) new = ⊥
