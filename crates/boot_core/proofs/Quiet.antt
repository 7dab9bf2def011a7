-- Which calls leave the book and the pool as they are.
use Rattle.std.proofs.Common.{◌≡◌, Bool, true, false, Result, ap}
use Rattle.page_ranges.specs.declared.statuses.Status.{Status}
use Rattle.boot_calls.specs.declared.calls.Call.{Call}
use Rattle.boot_calls.specs.declared.calls.Call.TheVariants as call
use Rattle.boot_replies.specs.declared.replies.Reply.{Reply}
use Rattle.boot_core.specs.Machines.{Parts}
use Rattle.boot_core.specs.Steps.{Setting, WhileOpen, Serves, Answers}

-- the book and the pool are as they were
abbrev pub IsQuiet : Parts → Parts → Type 0
IsQuiet old new = (new.book ≡ old.book) × (new.pools ≡ old.pools)

-- a call that goes by no rule on the book or the pool
abbrev pub IsQuietCall : {A : Type 0} → Call A → Type 0
IsQuietCall (call.AllocatePages kind t pages memory) = ⊥
IsQuietCall (call.FreePages memory pages) = ⊥
IsQuietCall (call.AllocatePool t size) = ⊥
IsQuietCall (call.FreePool address) = ⊥
IsQuietCall (call.PoolWrite address bytes) = ⊥
IsQuietCall (call.LocateHandleBuffer search guid key) = ⊥
IsQuietCall (call.OpenProtocolInformation handle guid) = ⊥
IsQuietCall c = Unit {0}

pub same_quiet : (old new : Parts) → new ≡ old → IsQuiet old new
same_quiet old new e = (ap (λ (p : Parts). p.book) e, ap (λ (p : Parts). p.pools) e)

open_quiet : (exited : Bool) (old new : Parts) (Rule Refusal : Type 0) → (Rule → IsQuiet old new) → WhileOpen exited old new Rule Refusal → IsQuiet old new
open_quiet true old new Rule Refusal f h = same_quiet old new h.1
open_quiet false old new Rule Refusal f h = f h

served_quiet : {A R : Type 0} (exited : Bool) (old new : Parts) (answer : Reply A) (reply_with : Result R Status → Reply A) (Rule : Result R Status → Type 0) → ((result : Result R Status) → Rule result → IsQuiet old new) → Serves exited old new answer reply_with Rule → IsQuiet old new
served_quiet exited old new answer reply_with Rule f (result, returned, h) = open_quiet exited old new (Rule result) _ (f result) h

pub quiet : {A : Type 0} (S : Setting) (exited : Bool) (old : Parts) (c : Call A) (answer : Reply A) (new : Parts) → IsQuietCall c → Answers S exited old c answer new → IsQuiet old new
quiet S exited old (call.GetMemoryMap size) answer new q (returned, bytes, e, h) = open_quiet exited old new _ _ (λ rule. same_quiet old new rule.1) h
quiet S exited old (call.PoolRead address size) answer new q (returned, bytes, e, h) = open_quiet exited old new _ _ (λ rule. same_quiet old new rule.1) h
quiet S exited old (call.LocateHandle search guid key size) answer new q (returned, e, h) = open_quiet exited old new _ _ (λ rule. (rule.1, rule.2)) h
quiet S exited old (call.ExitBootServices key) answer new q h = served_quiet exited old new answer _ _ (λ result rule. same_quiet old new rule.1) h
quiet S exited old (call.ProtocolsPerHandle handle) answer new q h = served_quiet exited old new answer _ _ (λ result rule. same_quiet old new rule.1) h
quiet S exited old (call.LocateDevicePath guid address) answer new q h = served_quiet exited old new answer _ _ (λ result rule. same_quiet old new rule.1) h
quiet S exited old (call.InstallProtocolInterface handle guid kind value) answer new q h = served_quiet exited old new answer _ _ (λ result rule. (rule.1, rule.2)) h
quiet S exited old (call.InstallMultipleProtocolInterfaces handle pairs) answer new q h = served_quiet exited old new answer _ _ (λ result rule. (rule.1, rule.2)) h
quiet S exited old (call.RegisterProtocolNotify guid event) answer new q h = served_quiet exited old new answer _ _ (λ result rule. (rule.1, rule.2)) h
quiet S exited old (call.LocateProtocol guid key) answer new q h = served_quiet exited old new answer _ _ (λ result rule. (rule.1, rule.2)) h
quiet S exited old (call.OpenProtocol handle guid agent controller attributes) answer new q h = served_quiet exited old new answer _ _ (λ result rule. (rule.1, rule.2)) h
quiet S exited old (call.UninstallProtocolInterface handle guid value) answer new q h = served_quiet exited old new answer _ _ (λ result rule. (rule.1, rule.2)) h
quiet S exited old (call.ReinstallProtocolInterface handle guid old_value new_value) answer new q h = served_quiet exited old new answer _ _ (λ result rule. (rule.1, rule.2)) h
quiet S exited old (call.ConnectController handle named recursive) answer new q h = served_quiet exited old new answer _ _ (λ result rule. (rule.1, rule.2)) h
quiet S exited old (call.DisconnectController handle driver) answer new q h = served_quiet exited old new answer _ _ (λ result rule. (rule.1, rule.2)) h
quiet S exited old (call.CloseProtocol handle guid agent controller) answer new q h = served_quiet exited old new answer _ _ (λ result rule. (rule.1, rule.2)) h
quiet S exited old (call.HandleProtocol handle guid) answer new q h = served_quiet exited old new answer _ _ (λ result rule. (rule.1, rule.2)) h
quiet S exited old (call.AllocatePages kind t pages memory) answer new q h = absurd q
quiet S exited old (call.FreePages memory pages) answer new q h = absurd q
quiet S exited old (call.AllocatePool t size) answer new q h = absurd q
quiet S exited old (call.FreePool address) answer new q h = absurd q
quiet S exited old (call.PoolWrite address bytes) answer new q h = absurd q
quiet S exited old (call.LocateHandleBuffer search guid key) answer new q h = absurd q
quiet S exited old (call.OpenProtocolInformation handle guid) answer new q h = absurd q
