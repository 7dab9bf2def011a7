-- What each rule of the protocol services keeps of their lists, each call keeps.
use Rattle.std.proofs.Common.{◌≡◌, ℕ, Bool, true, false, List, [], ◌∷◌, Option, Result, Ok, Err, Vec, ap, subst, sym}
use Rattle.page_ranges.specs.declared.statuses.Status.{Status}
use Rattle.page_ranges.specs.declared.statuses.Status.TheVariants as status
use Rattle.device_path_locate.specs.Locating.{has_path_installed}
use Rattle.guid_handles.specs.HandleChanges.{install_refusal}
use Rattle.open_agents.specs.declared.items.OpenItem.{OpenItem}
use Rattle.open_agents.specs.OpenItems.{items_on}
use Rattle.driver_connect.specs.Drivers.{Meaning}
use Rattle.boot_calls.specs.declared.replies.Installed.{Installed}
use Rattle.boot_calls.specs.declared.replies.LocateReply.{LocateReply}
use Rattle.protocol_services.specs.Lists.{Lists}
use Rattle.protocol_services.specs.Installing.{InstallsPairs, Registers, many_refusal}
use Rattle.protocol_services.specs.Searches.{LocatesHandles, LocatesProtocol, once_found}
use Rattle.protocol_services.specs.Opening.{Closes, HandlesProtocol, OpensProtocol}
use Rattle.protocol_services.specs.Removing.{Reinstalls, Uninstalls}
use Rattle.protocol_services.specs.Driving.{ConnectsController, DisconnectsController}
use Rattle.boot_calls.specs.declared.calls.Call.{Call}
use Rattle.boot_calls.specs.declared.calls.Call.TheVariants as call
use Rattle.boot_replies.specs.declared.replies.PoolList.{PoolList}
use Rattle.boot_replies.specs.declared.replies.Reply.{Reply}
use Rattle.boot_core.specs.Machines.{Parts}
use Rattle.boot_core.specs.PoolLists.{ListsOpens, LocatesBuffer, PutsItems}
use Rattle.boot_core.specs.Steps.{Setting, WhileOpen, Serves, Answers}

-- The lists before and after each rule are related, and so are lists that stay.
pub record KeepRules (ds : List Meaning) (P : Lists → Lists → Type 0) : Type 1 where
  pub same : (l : Lists) → P l l
  pub installs_one : {A : Type 0} (l : Lists) (handle : ℕ) (guid : List ℕ) (kind value : ℕ) (result : Result (Installed A) Status) (new : Lists) → InstallsPairs l handle ((guid, value) ∷ []) (install_refusal l.handles handle guid kind) result new → P l new
  pub installs_many : {A : Type 0} (l : Lists) (handle : ℕ) (pairs : List (List ℕ × ℕ)) (has_path : Bool) (result : Result (Installed A) Status) (new : Lists) → InstallsPairs l handle pairs (many_refusal l handle pairs has_path) result new → P l new
  pub uninstalls : (l : Lists) (handle : ℕ) (guid : List ℕ) (value : ℕ) (result : Result (Unit {0}) Status) (new : Lists) → Uninstalls ds l handle guid value result new → P l new
  pub reinstalls : {A : Type 0} (l : Lists) (handle : ℕ) (guid : List ℕ) (old_value value : ℕ) (result : Result (Vec ℕ A) Status) (new : Lists) → Reinstalls ds l handle guid old_value value result new → P l new
  pub registers : (l : Lists) (guid : List ℕ) (event : ℕ) (result : Result ℕ Status) (new : Lists) → Registers l guid event result new → P l new
  pub locates_handles : {A : Type 0} (l : Lists) (search : ℕ) (guid : List ℕ) (key room : ℕ) (returned : LocateReply A) (new : Lists) → LocatesHandles l search guid key room returned new → P l new
  pub finds : (search key : ℕ) (l new : Lists) → new ≡ once_found search key l → P l new
  pub locates_protocol : (l : Lists) (guid : List ℕ) (key : ℕ) (result : Result ℕ Status) (new : Lists) → LocatesProtocol l guid key result new → P l new
  pub opens_protocol : (l : Lists) (handle : ℕ) (guid : List ℕ) (agent controller a : ℕ) (result : Result (Option ℕ) Status) (new : Lists) → OpensProtocol ds l handle guid agent controller a result new → P l new
  pub handles_protocol : (l : Lists) (handle : ℕ) (guid : List ℕ) (result : Result ℕ Status) (new : Lists) → HandlesProtocol l handle guid result new → P l new
  pub closes : (l : Lists) (handle : ℕ) (guid : List ℕ) (agent controller : ℕ) (result : Result (Unit {0}) Status) (new : Lists) → Closes l handle guid agent controller result new → P l new
  pub connects_controller : {A : Type 0} (l : Lists) (handle : ℕ) (named : List ℕ) (recursive : Bool) (result : Result (Vec ℕ A) Status) (new : Lists) → ConnectsController ds l handle named recursive result new → P l new
  pub disconnects_controller : (l : Lists) (handle driver : ℕ) (result : Result (Unit {0}) Status) (new : Lists) → DisconnectsController ds l handle driver result new → P l new

module _ (S : Setting) (P : Lists → Lists → Type 0) (rules : KeepRules S.drivers P) where
  lists_stay : (old new : Lists) → new ≡ old → P old new
  lists_stay old new e = subst (P old) (sym e) (rules.same old)

  all_stay : (old new : Parts) → new ≡ old → P old.lists new.lists
  all_stay old new e = lists_stay old.lists new.lists (ap (λ (p : Parts). p.lists) e)

  while_open : (exited : Bool) (old new : Parts) (Rule Refusal : Type 0) → (Rule → P old.lists new.lists) → WhileOpen exited old new Rule Refusal → P old.lists new.lists
  while_open true old new Rule Refusal f h = all_stay old new h.1
  while_open false old new Rule Refusal f h = f h

  -- a service that leaves all parts, or goes by a rule
  served : {A R : Type 0} (exited : Bool) (old new : Parts) (answer : Reply A) (reply_with : Result R Status → Reply A) (Rule : Result R Status → Type 0) → ((result : Result R Status) → Rule result → P old.lists new.lists) → Serves exited old new answer reply_with Rule → P old.lists new.lists
  served exited old new answer reply_with Rule f (result, returned, h) = while_open exited old new (Rule result) _ (f result) h

  locates_buffer : {A : Type 0} (old : Parts) (search : ℕ) (guid : List ℕ) (key : ℕ) (result : Result (PoolList A) Status) (new : Parts) → LocatesBuffer S.chosen old search guid key result new → P old.lists new.lists
  locates_buffer old search guid key (Ok returned) new (handles, found, some, count, filled, lists) = rules.finds search key old.lists new.lists lists
  locates_buffer old search guid key (Err status.InvalidParameter) new h = all_stay old new h.1
  locates_buffer old search guid key (Err status.NotFound) new h = all_stay old new h.1
  locates_buffer old search guid key (Err status.OutOfResources) new h = all_stay old new h.3
  locates_buffer old search guid key (Err other) new h = absurd h

  puts_items : {A : Type 0} (old : Parts) (items : List OpenItem) (returned : PoolList A) (new : Parts) → PutsItems S.chosen old items returned new → P old.lists new.lists
  puts_items old [] returned new h = all_stay old new h.2
  puts_items old (i ∷ items) returned new h = lists_stay old.lists new.lists h.1

  lists_opens : {A : Type 0} (old : Parts) (handle : ℕ) (guid : List ℕ) (result : Result (PoolList A) Status) (new : Parts) → ListsOpens S.chosen old handle guid result new → P old.lists new.lists
  lists_opens old handle guid (Ok returned) new h = puts_items old (items_on old.lists.opens handle guid) returned new h.2
  lists_opens old handle guid (Err status.NotFound) new h = all_stay old new h.1
  lists_opens old handle guid (Err status.OutOfResources) new h = all_stay old new h.2
  lists_opens old handle guid (Err other) new h = absurd h

  pub by_rules : {A : Type 0} (exited : Bool) (old : Parts) (c : Call A) (answer : Reply A) (new : Parts) → Answers S exited old c answer new → P old.lists new.lists
  by_rules exited old (call.AllocatePages kind t pages memory) answer new h = served exited old new answer _ _ (λ result rule. lists_stay old.lists new.lists rule.2) h
  by_rules exited old (call.FreePages memory pages) answer new h = served exited old new answer _ _ (λ result rule. lists_stay old.lists new.lists rule.2) h
  by_rules exited old (call.GetMemoryMap size) answer new (returned, bytes, e, h) = while_open exited old new _ _ (λ rule. all_stay old new rule.1) h
  by_rules exited old (call.AllocatePool t size) answer new h = served exited old new answer _ _ (λ result rule. lists_stay old.lists new.lists rule.1) h
  by_rules exited old (call.FreePool address) answer new h = served exited old new answer _ _ (λ result rule. lists_stay old.lists new.lists rule.1.1) h
  by_rules exited old (call.PoolRead address size) answer new (returned, bytes, e, h) = while_open exited old new _ _ (λ rule. all_stay old new rule.1) h
  by_rules exited old (call.PoolWrite address bytes) answer new h = served exited old new answer _ _ (λ result rule. lists_stay old.lists new.lists rule.2) h
  by_rules exited old (call.InstallProtocolInterface handle guid kind value) answer new h =
      served exited old new answer _ _ (λ result rule. rules.installs_one old.lists handle guid kind value result new.lists rule.0) h
  by_rules exited old (call.InstallMultipleProtocolInterfaces handle pairs) answer new h =
      served exited old new answer _ _ (λ result rule. rules.installs_many old.lists handle pairs (has_path_installed old.lists.handles old.pools pairs) result new.lists rule.0) h
  by_rules exited old (call.UninstallProtocolInterface handle guid value) answer new h = served exited old new answer _ _ (λ result rule. rules.uninstalls old.lists handle guid value result new.lists rule.0) h
  by_rules exited old (call.ReinstallProtocolInterface handle guid old_value value) answer new h =
      served exited old new answer _ _ (λ result rule. rules.reinstalls old.lists handle guid old_value value result new.lists rule.0) h
  by_rules exited old (call.RegisterProtocolNotify guid event) answer new h = served exited old new answer _ _ (λ result rule. rules.registers old.lists guid event result new.lists rule.0) h
  by_rules exited old (call.LocateHandle search guid key size) answer new (returned, e, h) = while_open exited old new _ _ (λ rule. rules.locates_handles old.lists search guid key size returned new.lists rule.0) h
  by_rules exited old (call.LocateHandleBuffer search guid key) answer new h = served exited old new answer _ _ (λ result rule. locates_buffer old search guid key result new rule) h
  by_rules exited old (call.LocateProtocol guid key) answer new h = served exited old new answer _ _ (λ result rule. rules.locates_protocol old.lists guid key result new.lists rule.0) h
  by_rules exited old (call.ProtocolsPerHandle handle) answer new h = served exited old new answer _ _ (λ result rule. all_stay old new rule.1) h
  by_rules exited old (call.OpenProtocol handle guid agent controller attributes) answer new h =
      served exited old new answer _ _ (λ result rule. rules.opens_protocol old.lists handle guid agent controller attributes result new.lists rule.0) h
  by_rules exited old (call.CloseProtocol handle guid agent controller) answer new h = served exited old new answer _ _ (λ result rule. rules.closes old.lists handle guid agent controller result new.lists rule.0) h
  by_rules exited old (call.OpenProtocolInformation handle guid) answer new h = served exited old new answer _ _ (λ result rule. lists_opens old handle guid result new rule) h
  by_rules exited old (call.HandleProtocol handle guid) answer new h = served exited old new answer _ _ (λ result rule. rules.handles_protocol old.lists handle guid result new.lists rule.0) h
  by_rules exited old (call.ConnectController handle named recursive) answer new h =
      served exited old new answer _ _ (λ result rule. rules.connects_controller old.lists handle named recursive result new.lists rule.0) h
  by_rules exited old (call.DisconnectController handle driver) answer new h = served exited old new answer _ _ (λ result rule. rules.disconnects_controller old.lists handle driver result new.lists rule.0) h
  by_rules exited old (call.LocateDevicePath guid address) answer new h = served exited old new answer _ _ (λ result rule. all_stay old new rule.1) h
  by_rules exited old (call.ExitBootServices key) answer new h = served exited old new answer _ _ (λ result rule. all_stay old new rule.1) h
