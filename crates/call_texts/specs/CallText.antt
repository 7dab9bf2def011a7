-- How a call is written as a line of a trace.
use Rattle.std.specs.Prelude.{ℕ, cond, Bool, List, [], ◌∷◌, ◌++◌, map, flat_map, codes}
use Rattle.std.specs.Fmt.{decimal}
use Rattle.hex.specs.Hex.{encode_lower}
use Rattle.uuid.specs.Text.{hyphenated_text, lower}
use Rattle.boot_calls.specs.declared.calls.Call.{Call}
use Rattle.boot_calls.specs.declared.calls.Call.TheVariants as call
use Rattle.trace_verbs.specs.declared.verbs.Verb.{Verb}
use Rattle.trace_verbs.specs.declared.verbs.Verb.TheVariants as verb
use Rattle.trace_verbs.specs.Verbs.{verb_name}
use Rattle.text_lines.specs.Printed.{hexadecimal, line_feed, space}

-- ---- parameters

-- a GUID: its hyphenated text in lower case
abbrev pub guid_word : List ℕ → List ℕ
guid_word guid = hyphenated_text lower guid

-- bytes: two hexadecimal digits for each, or a dash where there are none
abbrev pub bytes_word : List ℕ → List ℕ
bytes_word [] = codes "-"
bytes_word (b ∷ bytes) = encode_lower (b ∷ bytes)

-- whether it is so: 1 or 0
abbrev pub flag_word : Bool → List ℕ
flag_word flag = cond flag (codes "1") (codes "0")

-- interfaces: of each its GUID and its value
abbrev pub pair_words : List (List ℕ × ℕ) → List (List ℕ)
pair_words pairs = flat_map (λ pair. guid_word pair.0 ∷ hexadecimal pair.1 ∷ []) pairs

-- ---- calls

-- the verb of a call
abbrev pub verb_of : {A : Type 0} → Call A → Verb
verb_of (call.AllocatePages kind t pages memory) = verb.Pages
verb_of (call.FreePages memory pages) = verb.FreePages
verb_of (call.GetMemoryMap size) = verb.Map
verb_of (call.AllocatePool t size) = verb.Pool
verb_of (call.FreePool address) = verb.FreePool
verb_of (call.PoolRead address size) = verb.Read
verb_of (call.PoolWrite address bytes) = verb.Write
verb_of (call.InstallProtocolInterface handle guid kind value) = verb.Install
verb_of (call.InstallMultipleProtocolInterfaces handle pairs) = verb.InstallMany
verb_of (call.UninstallProtocolInterface handle guid value) = verb.Uninstall
verb_of (call.ReinstallProtocolInterface handle guid old new) = verb.Reinstall
verb_of (call.RegisterProtocolNotify guid event) = verb.Notify
verb_of (call.LocateHandle search guid key size) = verb.Locate
verb_of (call.LocateHandleBuffer search guid key) = verb.LocateBuffer
verb_of (call.LocateProtocol guid key) = verb.LocateProtocol
verb_of (call.ProtocolsPerHandle handle) = verb.Protocols
verb_of (call.OpenProtocol handle guid agent controller attributes) = verb.Open
verb_of (call.CloseProtocol handle guid agent controller) = verb.Close
verb_of (call.OpenProtocolInformation handle guid) = verb.Information
verb_of (call.HandleProtocol handle guid) = verb.HandleProtocol
verb_of (call.ConnectController handle drivers recursive) = verb.Connect
verb_of (call.DisconnectController handle driver) = verb.Disconnect
verb_of (call.LocateDevicePath guid address) = verb.Path
verb_of (call.ExitBootServices key) = verb.Exit

-- The parameters of a call, from left to right: addresses and values in hexadecimal, other numbers
-- in decimal.
abbrev pub parameters_of : {A : Type 0} → Call A → List (List ℕ)
parameters_of (call.AllocatePages kind t pages memory) =
    decimal kind ∷ decimal t ∷ decimal pages ∷ hexadecimal memory ∷ []
parameters_of (call.FreePages memory pages) = hexadecimal memory ∷ decimal pages ∷ []
parameters_of (call.GetMemoryMap size) = decimal size ∷ []
parameters_of (call.AllocatePool t size) = decimal t ∷ decimal size ∷ []
parameters_of (call.FreePool address) = hexadecimal address ∷ []
parameters_of (call.PoolRead address size) = hexadecimal address ∷ decimal size ∷ []
parameters_of (call.PoolWrite address bytes) = hexadecimal address ∷ bytes_word bytes ∷ []
parameters_of (call.InstallProtocolInterface handle guid kind value) =
    decimal handle ∷ guid_word guid ∷ decimal kind ∷ hexadecimal value ∷ []
parameters_of (call.InstallMultipleProtocolInterfaces handle pairs) =
    decimal handle ∷ pair_words pairs
parameters_of (call.UninstallProtocolInterface handle guid value) =
    decimal handle ∷ guid_word guid ∷ hexadecimal value ∷ []
parameters_of (call.ReinstallProtocolInterface handle guid old new) =
    decimal handle ∷ guid_word guid ∷ hexadecimal old ∷ hexadecimal new ∷ []
parameters_of (call.RegisterProtocolNotify guid event) = guid_word guid ∷ decimal event ∷ []
parameters_of (call.LocateHandle search guid key size) =
    decimal search ∷ guid_word guid ∷ decimal key ∷ decimal size ∷ []
parameters_of (call.LocateHandleBuffer search guid key) =
    decimal search ∷ guid_word guid ∷ decimal key ∷ []
parameters_of (call.LocateProtocol guid key) = guid_word guid ∷ decimal key ∷ []
parameters_of (call.ProtocolsPerHandle handle) = decimal handle ∷ []
parameters_of (call.OpenProtocol handle guid agent controller attributes) =
    decimal handle ∷ guid_word guid ∷ decimal agent ∷ decimal controller ∷ decimal attributes ∷ []
parameters_of (call.CloseProtocol handle guid agent controller) =
    decimal handle ∷ guid_word guid ∷ decimal agent ∷ decimal controller ∷ []
parameters_of (call.OpenProtocolInformation handle guid) = decimal handle ∷ guid_word guid ∷ []
parameters_of (call.HandleProtocol handle guid) = decimal handle ∷ guid_word guid ∷ []
parameters_of (call.ConnectController handle drivers recursive) =
    decimal handle ∷ flag_word recursive ∷ map decimal drivers
parameters_of (call.DisconnectController handle driver) = decimal handle ∷ decimal driver ∷ []
parameters_of (call.LocateDevicePath guid address) = guid_word guid ∷ hexadecimal address ∷ []
parameters_of (call.ExitBootServices key) = decimal key ∷ []

-- words, each behind a space
abbrev pub spaced : List (List ℕ) → List ℕ
spaced words = flat_map (λ word. space ++ word) words

-- the line of a call, without its line feed
abbrev pub call_line : {A : Type 0} → Call A → List ℕ
call_line c = verb_name (verb_of c) ++ spaced (parameters_of c)

-- the line of a call, with its line feed
abbrev pub call_text : {A : Type 0} → Call A → List ℕ
call_text c = call_line c ++ line_feed
