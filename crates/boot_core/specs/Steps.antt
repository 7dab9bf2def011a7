-- What a call does: one step of the machine; and what calls do one after another: a run of calls.
use Rattle.std.specs.Prelude.{◌≡◌, ◌≢◌, ℕ, ◌+◌, Bool, true, false, List, [], ◌∷◌, length, map, Result, Ok, Err, Vec}
use Rattle.page_ranges.specs.declared.statuses.Status.{Status}
use Rattle.page_ranges.specs.declared.statuses.Status.TheVariants.{InvalidParameter, OutOfResources, Unsupported}
use Rattle.page_services.specs.PageRules.{Book, Choice, IsAnyStart, IsBestChoice, AllocatesPages, FreesPages}
use Rattle.pool_services.specs.Extents.{Extent}
use Rattle.pool_services.specs.PoolRules.{AllocatesPool, FreesPool, ReadsPool, WritesPool}
use Rattle.device_path_locate.specs.Locating.{has_path_installed, located}
use Rattle.guid_handles.specs.HandleChanges.{install_refusal}
use Rattle.boot_calls.specs.declared.replies.LocateReply.{LocateReply}
use Rattle.driver_connect.specs.Drivers.{Meaning}
use Rattle.protocol_services.specs.Lists.{Lists}
use Rattle.protocol_services.specs.Installing.{InstallsPairs, Registers, many_refusal}
use Rattle.protocol_services.specs.Searches.{LocatesHandles, LocatesProtocol, ReturnsProtocols}
use Rattle.protocol_services.specs.Opening.{Closes, HandlesProtocol, OpensProtocol}
use Rattle.protocol_services.specs.Removing.{Reinstalls, Uninstalls}
use Rattle.protocol_services.specs.Driving.{ConnectsController, DisconnectsController}
use Rattle.map_keys.specs.declared.memory_maps.MapReply.{MapReply}
use Rattle.map_keys.specs.MapReplies.{map_reply, buffer_with_map}
use Rattle.boot_calls.specs.declared.calls.Call.{Call}
use Rattle.boot_calls.specs.declared.calls.Call.TheVariants as call
use Rattle.boot_replies.specs.declared.replies.Reply.{Reply}
use Rattle.boot_replies.specs.declared.replies.Reply.TheVariants as reply
use Rattle.boot_core.specs.Machines.{CoreValue, Parts, State}
use Rattle.boot_core.specs.PoolLists.{LocatesBuffer, ListsOpens}
use Rattle.boot_core.specs.MapCalls.{refused_map, AnswersMap}
use Rattle.boot_core.specs.PoolCalls.{AnswersRead}
use Rattle.boot_replies.specs.Returned.{returned_status}

-- ---- what a step goes by beside the state

-- how starts are chosen, and what the drivers answer
pub record Setting : Type 1 where
  pub chosen : Choice
  pub drivers : List Meaning

-- each start is the best
abbrev pub best_starts : List Meaning → Setting
best_starts ds = record { chosen = IsBestChoice; drivers = ds }

-- each start is any permitted one
abbrev pub any_starts : List Meaning → Setting
any_starts ds = record { chosen = IsAnyStart; drivers = ds }

-- ---- which parts a rule is about

-- the book is left so, and each other part as it was
abbrev pub OnBook : (Book → Type 0) → Parts → Parts → Type 0
OnBook Rule old new = Rule new.book × (new.pools ≡ old.pools) × (new.lists ≡ old.lists)

-- the pool is left so, and each other part as it was
abbrev pub OnPools : (List Extent → Type 0) → Parts → Parts → Type 0
OnPools Rule old new = Rule new.pools × (new.book ≡ old.book) × (new.lists ≡ old.lists)

-- the book and the pool are left so, and each other part as it was
abbrev pub OnBookAndPools : (Book → List Extent → Type 0) → Parts → Parts → Type 0
OnBookAndPools Rule old new = Rule new.book new.pools × (new.lists ≡ old.lists)

-- the lists of the protocol services are left so, and each other part as it was
abbrev pub OnLists : (Lists → Type 0) → Parts → Parts → Type 0
OnLists Rule old new = Rule new.lists × (new.book ≡ old.book) × (new.pools ≡ old.pools)

-- ---- before the exit and after it

-- Before the exit a service goes by its rule. After it, it returns a refusal and leaves all parts
-- as they were.
abbrev pub WhileOpen : Bool → Parts → Parts → Type 0 → Type 0 → Type 0
WhileOpen true old new Rule Refusal = Refusal × (new ≡ old)
WhileOpen false old new Rule Refusal = Rule

-- what a service does whose reply carries a result
abbrev pub Serves : {A R : Type 0} → Bool → Parts → Parts → Reply A → (Result R Status → Reply A)
    → (Result R Status → Type 0) → Type 0
Serves {R = R} exited old new answer reply_with Rule =
    (result : Result R Status) × (answer ≡ reply_with result)
    × WhileOpen exited old new (Rule result) (result ≡ Err Unsupported)

-- what a service does whose reply has a value and the bytes that are used of a buffer
abbrev pub ServesBytes : {A T : Type 0} → Bool → Parts → Parts → Reply A → (T → Vec ℕ A → Reply A)
    → (T → List ℕ → Type 0) → T → Type 0
ServesBytes {A = A} {T = T} exited old new answer reply_with Rule refused =
    (returned : T) × (bytes : Vec ℕ A) × (answer ≡ reply_with returned bytes)
    × WhileOpen exited old new (Rule returned bytes.items)
    ((returned ≡ refused) × (bytes.items ≡ []))

-- what a search for handles does
abbrev pub ServesSearch : {A : Type 0} → Bool → Parts → Parts → Reply A → (LocateReply A → Type 0)
    → Type 0
ServesSearch {A = A} exited old new answer Rule =
    (returned : LocateReply A) × (answer ≡ reply.LocateHandle returned)
    × WhileOpen exited old new (Rule returned)
    ((returned.status ≡ Unsupported) × (returned.size ≡ 0) × (returned.handles.items ≡ []))

-- ---- the services

-- What FreePool does. Memory never runs out, as it is reserved for the end of each extent.
abbrev pub FreesBlock : Parts → ℕ → Result (Unit {0}) Status → Parts → Type 0
FreesBlock old address result new =
    (result ≢ Err OutOfResources)
    × OnBookAndPools (FreesPool old.book old.pools address result) old new

-- what ExitBootServices returns with a key, where the other is the current one
abbrev pub Exits : ℕ → ℕ → Result (Unit {0}) Status → Type 0
Exits current key (Ok done) = key ≡ current
Exits current key (Err InvalidParameter) = key ≢ current
Exits current key (Err status) = ⊥

-- what a call returns and how it leaves the parts
abbrev pub Answers : {A : Type 0} → Setting → Bool → Parts → Call A → Reply A → Parts → Type 0
Answers S exited old (call.AllocatePages kind t pages address) answer new =
    Serves exited old new answer reply.AllocatePages
    (λ result. OnBook (AllocatesPages S.chosen old.book kind t pages address result) old new)
Answers S exited old (call.FreePages address pages) answer new =
    Serves exited old new answer reply.FreePages
    (λ result. OnBook (FreesPages old.book address pages result) old new)
Answers S exited old (call.GetMemoryMap size) answer new =
    ServesBytes exited old new answer reply.GetMemoryMap
    (λ returned bytes. AnswersMap old.book size returned bytes × (new ≡ old))
    (refused_map Unsupported)
Answers S exited old (call.AllocatePool t size) answer new =
    Serves exited old new answer reply.AllocatePool
    (λ result. OnBookAndPools (AllocatesPool S.chosen old.book old.pools t size result) old new)
Answers S exited old (call.FreePool address) answer new =
    Serves exited old new answer reply.FreePool
    (λ result. FreesBlock old address result new)
Answers S exited old (call.PoolRead address size) answer new =
    ServesBytes exited old new answer reply.PoolRead
    (λ status bytes. AnswersRead old.pools address size status bytes × (new ≡ old)) Unsupported
Answers S exited old (call.PoolWrite address bytes) answer new =
    Serves exited old new answer reply.PoolWrite
    (λ result. OnPools (WritesPool old.pools address bytes result) old new)
Answers S exited old (call.InstallProtocolInterface handle guid kind value) answer new =
    Serves exited old new answer reply.InstallProtocolInterface
    (λ result. OnLists
    (InstallsPairs old.lists handle ((guid, value) ∷ [])
    (install_refusal old.lists.handles handle guid kind) result) old new)
Answers S exited old (call.InstallMultipleProtocolInterfaces handle pairs) answer new =
    Serves exited old new answer reply.InstallMultipleProtocolInterfaces
    (λ result. OnLists
    (InstallsPairs old.lists handle pairs
    (many_refusal old.lists handle pairs
    (has_path_installed old.lists.handles old.pools pairs)) result) old new)
Answers S exited old (call.UninstallProtocolInterface handle guid value) answer new =
    Serves exited old new answer reply.UninstallProtocolInterface
    (λ result. OnLists (Uninstalls S.drivers old.lists handle guid value result) old new)
Answers S exited old (call.ReinstallProtocolInterface handle guid old_value new_value) answer new =
    Serves exited old new answer reply.ReinstallProtocolInterface
    (λ result. OnLists
    (Reinstalls S.drivers old.lists handle guid old_value new_value result) old new)
Answers S exited old (call.RegisterProtocolNotify guid event) answer new =
    Serves exited old new answer reply.RegisterProtocolNotify
    (λ result. OnLists (Registers old.lists guid event result) old new)
Answers S exited old (call.LocateHandle search guid key size) answer new =
    ServesSearch exited old new answer
    (λ returned. OnLists (LocatesHandles old.lists search guid key size returned) old new)
Answers S exited old (call.LocateHandleBuffer search guid key) answer new =
    Serves exited old new answer reply.LocateHandleBuffer
    (λ result. LocatesBuffer S.chosen old search guid key result new)
Answers S exited old (call.LocateProtocol guid key) answer new =
    Serves exited old new answer reply.LocateProtocol
    (λ result. OnLists (LocatesProtocol old.lists guid key result) old new)
Answers S exited old (call.ProtocolsPerHandle handle) answer new =
    Serves exited old new answer reply.ProtocolsPerHandle
    (λ result. ReturnsProtocols old.lists handle result × (new ≡ old))
Answers S exited old (call.OpenProtocol handle guid agent controller attributes) answer new =
    Serves exited old new answer reply.OpenProtocol
    (λ result. OnLists
    (OpensProtocol S.drivers old.lists handle guid agent controller attributes result) old new)
Answers S exited old (call.CloseProtocol handle guid agent controller) answer new =
    Serves exited old new answer reply.CloseProtocol
    (λ result. OnLists (Closes old.lists handle guid agent controller result) old new)
Answers S exited old (call.OpenProtocolInformation handle guid) answer new =
    Serves exited old new answer reply.OpenProtocolInformation
    (λ result. ListsOpens S.chosen old handle guid result new)
Answers S exited old (call.HandleProtocol handle guid) answer new =
    Serves exited old new answer reply.HandleProtocol
    (λ result. OnLists (HandlesProtocol old.lists handle guid result) old new)
Answers S exited old (call.ConnectController handle named recursive) answer new =
    Serves exited old new answer reply.ConnectController
    (λ result. OnLists
    (ConnectsController S.drivers old.lists handle named recursive result) old new)
Answers S exited old (call.DisconnectController handle driver) answer new =
    Serves exited old new answer reply.DisconnectController
    (λ result. OnLists (DisconnectsController S.drivers old.lists handle driver result) old new)
Answers S exited old (call.LocateDevicePath guid address) answer new =
    Serves exited old new answer reply.LocateDevicePath
    (λ result. (result ≡ located old.lists.handles old.pools guid address) × (new ≡ old))
Answers S exited old (call.ExitBootServices key) answer new =
    Serves exited old new answer reply.ExitBootServices
    (λ result. Exits old.book.key key result × (new ≡ old))

-- whether the boot services have ended after a reply: they had, or it is that of an exit
abbrev pub exited_after : {A : Type 0} → Bool → Reply A → Bool
exited_after exited (reply.ExitBootServices (Ok done)) = true
exited_after exited answer = exited

-- ---- steps and runs

-- each call takes one from the calls left
abbrev pub IsCounted : State → State → Type 0
IsCounted old new = new.calls_left + 1 ≡ old.calls_left

-- the machine may go from one state to another by the call, with this reply
pub record StepBy {A : Type 0} (S : Setting) (old : State) (c : Call A) (answer : Reply A)
    (new : State) : Type 0 where
  pub answers : Answers S old.exited old.parts c answer new.parts
  pub exited : new.exited ≡ exited_after old.exited answer
  pub calls_left : IsCounted old new

-- a step in which each start is the best, with drivers that answer so
abbrev pub Step : {A : Type 0} → List Meaning → State → Call A → Reply A → State → Type 0
Step ds old c answer new = StepBy (best_starts ds) old c answer new

-- a step in which each start is any permitted one
abbrev pub StepAny : {A : Type 0} → List Meaning → State → Call A → Reply A → State → Type 0
StepAny ds old c answer new = StepBy (any_starts ds) old c answer new

-- a call of a core with its drivers returns this reply and leaves this core
abbrev pub Calls : {D A : Type 0} → (D → Meaning) → CoreValue D → Call A → Reply A
    → CoreValue D → Type 0
Calls meaning old c answer new = Step (map meaning old.given.drivers) old.state c answer new.state

-- What GetMemoryMap does with a buffer of the caller's: its reply, the buffer after it, and the
-- machine, which is as it was but for one call less.
pub record MapStep (old : State) (buffer : List ℕ) (returned : MapReply) (after : List ℕ)
    (new : State) : Type 0 where
  pub answers : WhileOpen old.exited old.parts new.parts
      ((returned ≡ map_reply old.parts.book (length buffer))
      × (after ≡ buffer_with_map old.parts.book buffer) × (new.parts ≡ old.parts))
      ((returned ≡ refused_map Unsupported) × (after ≡ buffer))
  pub exited : new.exited ≡ old.exited
  pub calls_left : IsCounted old new

-- What a read does with a buffer of the caller's: its status, the buffer after it, and the machine,
-- which is as it was but for one call less.
pub record ReadStep (old : State) (address : ℕ) (buffer : List ℕ) (status : Status)
    (after : List ℕ) (new : State) : Type 0 where
  pub answers : WhileOpen old.exited old.parts new.parts
      ((result : Result (Unit {0}) Status) × (status ≡ returned_status result)
      × ReadsPool old.parts.pools address buffer result after × (new.parts ≡ old.parts))
      ((status ≡ Unsupported) × (after ≡ buffer))
  pub exited : new.exited ≡ old.exited
  pub calls_left : IsCounted old new

-- the machine may go from one state to another by the calls, with these replies in order
abbrev pub CallRunBy : {A : Type 0} → Setting → State → List (Call A) → List (Reply A) → State
    → Type 0
CallRunBy S old [] [] new = new ≡ old
CallRunBy S old (c ∷ calls) (answer ∷ replies) new =
    (next : State) × StepBy S old c answer next × CallRunBy S next calls replies new
CallRunBy S old calls replies new = ⊥

-- a run of calls in which each start is the best
abbrev pub CallRun : {A : Type 0} → List Meaning → State → List (Call A) → List (Reply A) → State
    → Type 0
CallRun ds old calls replies new = CallRunBy (best_starts ds) old calls replies new
