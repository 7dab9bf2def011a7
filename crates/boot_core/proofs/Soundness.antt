-- Sound parts stay sound.
use Rattle.std.proofs.Common.{◌≡◌, ℕ, ◌+◌, ◌≤◌, Bool, true, false, List, [], ◌∷◌, Result, Ok, Err, sym, subst, arith}
use Rattle.page_ranges.specs.declared.statuses.Status.{Status}
use Rattle.page_ranges.specs.declared.statuses.Status.TheVariants as status
use Rattle.page_services.specs.declared.page_book.Placed.{Placed}
use Rattle.page_services.specs.PageRules.{Book, IsInGranules, AllocatesPages, FreesPages}
use Rattle.page_services.proofs.Choices.{Permits}
use Rattle.page_services.proofs.Granules.{allocates_granules, frees_granules}
use Rattle.pool_services.specs.Extents.{Extent, AreExtents}
use Rattle.pool_services.specs.PoolRules.{Answer, AllocatesPool, FillsPool, FreesPool, HasReservedEnds, OwnsExtents, WritesPool}
use Rattle.pool_services.proofs.FilledBlocks.{filled-keeps}
use Rattle.pool_services.proofs.KeptEnds.{placed-ends, freed-ends, allocated-ends, filled-ends, freed-block-ends, written-ends}
use Rattle.pool_services.proofs.KeptPools.{placed-keeps, freed-keeps, given-keeps, allocated-keeps, freed-block-keeps, written-keeps}
use Rattle.pool_services.proofs.PoolGranules.{allocated-granules, filled-granules, freed-block-granules, machine-granules}
use Rattle.boot_calls.specs.declared.calls.Call.{Call}
use Rattle.boot_calls.specs.declared.calls.Call.TheVariants as call
use Rattle.boot_replies.specs.declared.replies.Reply.{Reply}
use Rattle.boot_machines.specs.Machines.{IsMachine, MachineValue}
use Rattle.boot_core.specs.Machines.{Parts, State, AreSound, first_state_with, prepared_state, parts_of}
use Rattle.open_agents.specs.declared.items.OpenItem.{OpenItem}
use Rattle.open_agents.specs.OpenItems.{items_on}
use Rattle.protocol_services.specs.ListBytes.{handle_bytes, item_bytes}
use Rattle.protocol_services.specs.Lists.{Lists}
use Rattle.boot_replies.specs.declared.replies.PoolList.{PoolList}
use Rattle.boot_core.specs.PoolLists.{LocatesBuffer, ListsOpens, PutsItems}
use Rattle.boot_replies.specs.Certified.{list_type}
use Rattle.boot_core.specs.Steps.{Setting, OnBook, OnBookAndPools, OnPools, Serves, Answers, CallRunBy, FreesBlock}
use Rattle.boot_core.proofs.Quiet.{IsQuiet, quiet}
use Rattle.boot_core.proofs.Outcomes.{Outcome, allocates, fills_pool, frees, allocates_pool, frees_pool, key_at_most, stays_proper}

-- no rule is about the lists of the protocol services
pub any_lists : (b : Book) (es : List Extent) (l m : Lists) → AreSound (parts_of b es l) → AreSound (parts_of b es m)
any_lists b es l m sound = record { proper = sound.proper; granules = sound.granules; extents = sound.extents; owned = sound.owned; reserved = sound.reserved }

-- what each rule keeps: the parts are sound, and the key rises by 1 at most
pub record IsKept (old : Parts) (b : Book) (es : List Extent) : Type 0 where
  pub sound : (l : Lists) → AreSound (parts_of b es l)
  pub key : b.key ≤ old.book.key + 1

kept_by : (Fits : Type 0) (old : Parts) (b : Book) (es : List Extent) → AreSound old → Outcome Fits old.book b → IsInGranules b → AreExtents es → OwnsExtents b.memory es → HasReservedEnds b es → IsKept old b es
kept_by Fits old b es sound o granules extents owned reserved = record {
  sound = λ l. record { proper = stays_proper Fits old.book b sound.proper o; granules = granules; extents = extents; owned = owned; reserved = reserved };
  key = key_at_most Fits old.book b o;
}

pub frees_kept : (old : Parts) (address pages : ℕ) (result : Result (Unit {0}) Status) (new : Book) → AreSound old → FreesPages old.book address pages result new → IsKept old new old.pools
frees_kept old address pages result new sound h =
    kept_by (Unit {0}) old new old.pools sound (frees (Unit {0}) old.book address pages result new sound.proper sound.granules h)
    (frees_granules old.book new address pages result h sound.granules)
    sound.extents (freed-keeps old.book old.pools address pages result new sound.granules sound.owned h)
    (freed-ends old.book old.pools address pages result new sound.reserved h)

pub frees_pool_kept : (old : Parts) (address : ℕ) (result : Result (Unit {0}) Status) (b : Book) (es : List Extent) → AreSound old → FreesPool old.book old.pools address result b es → IsKept old b es
frees_pool_kept old address result b es sound h =
    let (extents, owned) = freed-block-keeps old.book old.pools address result b es sound.extents sound.owned h in
    let granules = freed-block-granules old.book old.pools address result b es sound.extents sound.owned h sound.granules in
    kept_by (Unit {0}) old b es sound (frees_pool (Unit {0}) old.book old.pools address result b es sound.proper sound.extents sound.owned h) granules extents owned
    (freed-block-ends old.book old.pools address result b es sound.reserved h)

pub writes_kept : (old : Parts) (address : ℕ) (bytes : List ℕ) (result : Result (Unit {0}) Status) (es : List Extent) → AreSound old → WritesPool old.pools address bytes result es → IsKept old old.book es
writes_kept old address bytes result es sound h =
    let (extents, owned) = written-keeps old.book.memory old.pools address bytes result es sound.extents sound.owned h in
    let reserved = written-ends old.book old.pools address bytes result es sound.reserved h in
    record { sound = λ l. record { proper = sound.proper; granules = sound.granules; extents = extents; owned = owned; reserved = reserved }; key = omega arith }

-- a service that leaves all parts, or goes by a rule
served : {A R : Type 0} (exited : Bool) (old new : Parts) (answer : Reply A) (reply_with : Result R Status → Reply A) (Rule : Result R Status → Type 0) → AreSound old → ((result : Result R Status) → Rule result → AreSound new) → Serves exited old new answer reply_with Rule → AreSound new
served true old new answer reply_with Rule sound f (result, returned, h) = subst AreSound (sym h.1) sound
served false old new answer reply_with Rule sound f (result, returned, h) = f result h

-- a refusal leaves all
unchanged_kept : (old new : Parts) → AreSound old → new ≡ old → IsKept old new.book new.pools
unchanged_kept old new sound e = subst (λ (p : Parts). IsKept old p.book p.pools) (sym e) (record { sound = λ l. any_lists old.book old.pools old.lists l sound; key = omega arith })

-- what leaves the book and the pool
quiet_sound : (old new : Parts) → AreSound old → IsQuiet old new → AreSound new
quiet_sound old new sound (book, pools) =
    subst (λ (b : Book). AreSound (parts_of b new.pools new.lists)) (sym book) (subst (λ (es : List Extent). AreSound (parts_of old.book es new.lists)) (sym pools) (any_lists old.book old.pools old.lists new.lists sound))

module _ (S : Setting) (permits : Permits S.chosen) where
  pub allocates_kept : {A : Type 0} (old : Parts) (kind t pages memory : ℕ) (result : Result (Placed A) Status) (new : Book) → AreSound old → AllocatesPages S.chosen old.book kind t pages memory result new → IsKept old new old.pools
  allocates_kept old kind t pages memory result new sound h =
      kept_by _ old new old.pools sound (allocates S permits old.book kind t pages memory result new sound.proper sound.granules h)
      (allocates_granules S.chosen permits old.book new kind t pages memory result h sound.granules)
      sound.extents (placed-keeps S.chosen permits old.book old.pools kind t pages memory result new sound.proper sound.owned h)
      (placed-ends S.chosen old.book old.pools kind t pages memory result new sound.reserved h)

  pub allocates_pool_kept : (old : Parts) (t size : ℕ) (result : Result Answer Status) (b : Book) (es : List Extent) → AreSound old → AllocatesPool S.chosen old.book old.pools t size result b es → IsKept old b es
  allocates_pool_kept old t size result b es sound h =
      let (extents, owned) = allocated-keeps S.chosen permits old.book old.pools t size result b es sound.granules.granule sound.proper sound.extents sound.owned h in
      let granules = allocated-granules S.chosen permits old.book old.pools t size result b es h sound.granules in
      kept_by _ old b es sound (allocates_pool S permits old.book old.pools t size result b es sound.proper sound.granules h) granules extents owned
      (allocated-ends S.chosen old.book old.pools t size result b es sound.reserved h)

  pub fills_pool_kept : (old : Parts) (t : ℕ) (bytes : List ℕ) (result : Result Answer Status) (b : Book) (es : List Extent) → AreSound old → FillsPool S.chosen old.book old.pools t bytes result b es → IsKept old b es
  fills_pool_kept old t bytes result b es sound h =
      let (extents, owned) = filled-keeps S.chosen permits old.book old.pools t bytes result b es sound.granules.granule sound.proper sound.extents sound.owned h in
      let granules = filled-granules S.chosen permits old.book old.pools t bytes result b es h sound.granules in
      kept_by _ old b es sound (fills_pool S permits old.book old.pools t bytes result b es sound.proper sound.granules h) granules extents owned
      (filled-ends S.chosen old.book old.pools t bytes result b es sound.reserved h)

  pub locates_buffer_kept : {A : Type 0} (old : Parts) (search : ℕ) (guid : List ℕ) (key : ℕ) (result : Result (PoolList A) Status) (new : Parts) → AreSound old → LocatesBuffer S.chosen old search guid key result new → IsKept old new.book new.pools
  locates_buffer_kept old search guid key (Ok returned) new sound (handles, found, some, count, filled, lists) = fills_pool_kept old list_type (handle_bytes handles) (Ok (returned.address, returned.certificate)) new.book new.pools sound filled
  locates_buffer_kept old search guid key (Err status.InvalidParameter) new sound h = unchanged_kept old new sound h.1
  locates_buffer_kept old search guid key (Err status.NotFound) new sound h = unchanged_kept old new sound h.1
  locates_buffer_kept old search guid key (Err status.OutOfResources) new sound h = unchanged_kept old new sound h.3
  locates_buffer_kept old search guid key (Err other) new sound h = absurd h

  puts_items_kept : {A : Type 0} (old : Parts) (items : List OpenItem) (returned : PoolList A) (new : Parts) → AreSound old → PutsItems S.chosen old items returned new → IsKept old new.book new.pools
  puts_items_kept old [] returned new sound h = unchanged_kept old new sound h.2
  puts_items_kept old (i ∷ items) returned new sound h = fills_pool_kept old list_type (item_bytes (i ∷ items)) (Ok (returned.address, returned.certificate)) new.book new.pools sound h.0

  pub lists_opens_kept : {A : Type 0} (old : Parts) (handle : ℕ) (guid : List ℕ) (result : Result (PoolList A) Status) (new : Parts) → AreSound old → ListsOpens S.chosen old handle guid result new → IsKept old new.book new.pools
  lists_opens_kept old handle guid (Ok returned) new sound h = puts_items_kept old (items_on old.lists.opens handle guid) returned new sound h.2
  lists_opens_kept old handle guid (Err status.NotFound) new sound h = unchanged_kept old new sound h.1
  lists_opens_kept old handle guid (Err status.OutOfResources) new sound h = unchanged_kept old new sound h.2
  lists_opens_kept old handle guid (Err other) new sound h = absurd h

  -- the parts after a call
  pub stays_sound : {A : Type 0} (exited : Bool) (old : Parts) (c : Call A) (answer : Reply A) (new : Parts) → AreSound old → Answers S exited old c answer new → AreSound new
  stays_sound exited old (call.AllocatePages kind t pages memory) answer new sound h =
      served exited old new answer _ (λ result. OnBook (AllocatesPages S.chosen old.book kind t pages memory result) old new) sound
      (λ result rule. subst (λ (es : List Extent). AreSound (parts_of new.book es new.lists)) (sym rule.1) ((allocates_kept old kind t pages memory result new.book sound rule.0).sound new.lists)) h
  stays_sound exited old (call.FreePages memory pages) answer new sound h =
      served exited old new answer _ (λ result. OnBook (FreesPages old.book memory pages result) old new) sound
      (λ result rule. subst (λ (es : List Extent). AreSound (parts_of new.book es new.lists)) (sym rule.1) ((frees_kept old memory pages result new.book sound rule.0).sound new.lists)) h
  stays_sound exited old (call.AllocatePool t size) answer new sound h =
      served exited old new answer _ (λ result. OnBookAndPools (AllocatesPool S.chosen old.book old.pools t size result) old new) sound (λ result rule. (allocates_pool_kept old t size result new.book new.pools sound rule.0).sound new.lists) h
  stays_sound exited old (call.FreePool address) answer new sound h =
      served exited old new answer _ (λ result. FreesBlock old address result new) sound (λ result rule. (frees_pool_kept old address result new.book new.pools sound rule.1.0).sound new.lists) h
  stays_sound exited old (call.PoolWrite address bytes) answer new sound h =
      served exited old new answer _ (λ result. OnPools (WritesPool old.pools address bytes result) old new) sound
      (λ result rule. subst (λ (b : Book). AreSound (parts_of b new.pools new.lists)) (sym rule.1) ((writes_kept old address bytes result new.pools sound rule.0).sound new.lists)) h
  stays_sound exited old (call.LocateHandleBuffer search guid key) answer new sound h =
      served exited old new answer _ (λ result. LocatesBuffer S.chosen old search guid key result new) sound (λ result rule. (locates_buffer_kept old search guid key result new sound rule).sound new.lists) h
  stays_sound exited old (call.OpenProtocolInformation handle guid) answer new sound h =
      served exited old new answer _ (λ result. ListsOpens S.chosen old handle guid result new) sound (λ result rule. (lists_opens_kept old handle guid result new sound rule).sound new.lists) h
  stays_sound exited old c answer new sound h = quiet_sound old new sound (quiet S exited old c answer new tt h)

  pub run_sound : {A : Type 0} (old : State) (calls : List (Call A)) (replies : List (Reply A)) (new : State) → AreSound old.parts → CallRunBy S old calls replies new → AreSound new.parts
  run_sound old [] [] new sound run = subst (λ (s : State). AreSound s.parts) (sym run) sound
  run_sound old (c ∷ calls) (r ∷ replies) new sound (next, step, run) = run_sound next calls replies new (stays_sound old.exited old.parts c r next.parts sound step.answers) run
  run_sound old [] (r ∷ replies) new sound run = absurd run
  run_sound old (c ∷ calls) [] new sound run = absurd run

-- a machine before any call
pub first_sound : (certifies : Bool) (machine : MachineValue) → IsMachine machine → AreSound (first_state_with certifies machine).parts
first_sound certifies machine valid = record { proper = valid.runs.proper; granules = record { granule = valid.granule; whole = machine-granules machine.granule machine.runs valid.runs }; extents = tt; owned = given-keeps machine.runs valid.runs; reserved = omega arith }

pub prepared_sound : (placements : ℕ) (certifies : Bool) (machine : MachineValue) → IsMachine machine → AreSound (prepared_state placements certifies machine).parts
prepared_sound placements certifies machine valid =
    let first = first_sound certifies machine valid in
    record { proper = first.proper; granules = record { granule = first.granules.granule; whole = first.granules.whole }; extents = first.extents; owned = first.owned; reserved = first.reserved }

pub sound_after : {A : Type 0} (S : Setting) → Permits S.chosen → (placements : ℕ) (certifies : Bool) (machine : MachineValue) (calls : List (Call A)) (replies : List (Reply A)) (new : State) → IsMachine machine → CallRunBy S (prepared_state placements certifies machine) calls replies new → AreSound new.parts
sound_after S permits placements certifies machine calls replies new valid run = run_sound S permits (prepared_state placements certifies machine) calls replies new (prepared_sound placements certifies machine valid) run
