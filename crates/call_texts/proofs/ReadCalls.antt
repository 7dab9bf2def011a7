-- The lines of calls, read back.
use Rattle.std.proofs.Common.{◌≡◌, ℕ, ◌≤◌, List, [], ◌∷◌, length, Some, Ok, refl, ap, ◌∙◌, arith, le-ltb, true, nat_le}
use Rattle.std.proofs.lemmas.Bool.{and_parts, leb-true}
use Rattle.boot_calls.specs.declared.calls.Call.{Call}
use Rattle.boot_calls.specs.declared.calls.Call.TheVariants as call
use Rattle.trace_verbs.specs.declared.verbs.Verb.{Verb}
use Rattle.trace_verbs.specs.declared.verbs.Verb.TheVariants as verb
use Rattle.trace_verbs.specs.Verbs.{verb_name}
use Rattle.text_lines.specs.Lines.{longest_line}
use Rattle.trace_lines.specs.declared.lines.TraceCall.{TraceCall}
use Rattle.trace_lines.specs.declared.lines.TraceCall.TheVariants.{Service}
use Rattle.trace_lines.specs.Laws.{HasCallNumbers}
use Rattle.trace_lines.specs.TraceLine.{call_of, call_of_words, largest_buffer, line_of, longest_read}
use Rattle.call_texts.specs.CallText.{call_line, parameters_of, verb_of}
use Rattle.call_texts.specs.CallLines.{has_line, may_ask}
use Rattle.call_texts.proofs.SpacedLines.{AreWords, IsWord, spaced_line}
use Rattle.call_texts.proofs.ReadWords.{bytes_are_word, decimal_word, decimal_words, even_words, flag_is_word, guid_is_word, hexadecimal_word, pairs_are_words, plain_bytes, read_32, read_bytes, read_decimal, read_flag, read_guid, read_hexadecimal, read_numbers, read_pairs, read_up_to, then_read}

-- ---- verbs

pub verb_is_word : (v : Verb) → IsWord (verb_name v)
verb_is_word verb.Pages = plain_bytes (verb_name verb.Pages) refl (omega arith)
verb_is_word verb.FreePages = plain_bytes (verb_name verb.FreePages) refl (omega arith)
verb_is_word verb.Map = plain_bytes (verb_name verb.Map) refl (omega arith)
verb_is_word verb.Pool = plain_bytes (verb_name verb.Pool) refl (omega arith)
verb_is_word verb.FreePool = plain_bytes (verb_name verb.FreePool) refl (omega arith)
verb_is_word verb.Read = plain_bytes (verb_name verb.Read) refl (omega arith)
verb_is_word verb.Write = plain_bytes (verb_name verb.Write) refl (omega arith)
verb_is_word verb.Install = plain_bytes (verb_name verb.Install) refl (omega arith)
verb_is_word verb.InstallMany = plain_bytes (verb_name verb.InstallMany) refl (omega arith)
verb_is_word verb.Uninstall = plain_bytes (verb_name verb.Uninstall) refl (omega arith)
verb_is_word verb.Reinstall = plain_bytes (verb_name verb.Reinstall) refl (omega arith)
verb_is_word verb.Open = plain_bytes (verb_name verb.Open) refl (omega arith)
verb_is_word verb.Close = plain_bytes (verb_name verb.Close) refl (omega arith)
verb_is_word verb.Information = plain_bytes (verb_name verb.Information) refl (omega arith)
verb_is_word verb.HandleProtocol = plain_bytes (verb_name verb.HandleProtocol) refl (omega arith)
verb_is_word verb.Notify = plain_bytes (verb_name verb.Notify) refl (omega arith)
verb_is_word verb.Locate = plain_bytes (verb_name verb.Locate) refl (omega arith)
verb_is_word verb.LocateBuffer = plain_bytes (verb_name verb.LocateBuffer) refl (omega arith)
verb_is_word verb.LocateProtocol = plain_bytes (verb_name verb.LocateProtocol) refl (omega arith)
verb_is_word verb.Protocols = plain_bytes (verb_name verb.Protocols) refl (omega arith)
verb_is_word verb.Connect = plain_bytes (verb_name verb.Connect) refl (omega arith)
verb_is_word verb.Disconnect = plain_bytes (verb_name verb.Disconnect) refl (omega arith)
verb_is_word verb.Path = plain_bytes (verb_name verb.Path) refl (omega arith)
verb_is_word verb.Exit = plain_bytes (verb_name verb.Exit) refl (omega arith)
verb_is_word verb.List = plain_bytes (verb_name verb.List) refl (omega arith)

-- a verb is found by its name
verb_read : {A : Type 0} (v : Verb) (words : List (List ℕ)) (c : TraceCall A) → call_of v words ≡ Ok c → call_of_words (verb_name v ∷ words) ≡ Ok (Some c)
verb_read verb.Pages words c e = rw e refl
verb_read verb.FreePages words c e = rw e refl
verb_read verb.Map words c e = rw e refl
verb_read verb.Pool words c e = rw e refl
verb_read verb.FreePool words c e = rw e refl
verb_read verb.Read words c e = rw e refl
verb_read verb.Write words c e = rw e refl
verb_read verb.Install words c e = rw e refl
verb_read verb.InstallMany words c e = rw e refl
verb_read verb.Uninstall words c e = rw e refl
verb_read verb.Reinstall words c e = rw e refl
verb_read verb.Open words c e = rw e refl
verb_read verb.Close words c e = rw e refl
verb_read verb.Information words c e = rw e refl
verb_read verb.HandleProtocol words c e = rw e refl
verb_read verb.Notify words c e = rw e refl
verb_read verb.Locate words c e = rw e refl
verb_read verb.LocateBuffer words c e = rw e refl
verb_read verb.LocateProtocol words c e = rw e refl
verb_read verb.Protocols words c e = rw e refl
verb_read verb.Connect words c e = rw e refl
verb_read verb.Disconnect words c e = rw e refl
verb_read verb.Path words c e = rw e refl
verb_read verb.Exit words c e = rw e refl
verb_read verb.List words c e = rw e refl

-- ---- parameters

pub parameters_are_words : {A : Type 0} (c : Call A) → HasCallNumbers c → AreWords (parameters_of c)
parameters_are_words (call.AllocatePages kind t pages memory) h = (decimal_word kind, (decimal_word t, (decimal_word pages, (hexadecimal_word memory, tt))))
parameters_are_words (call.FreePages memory pages) h = (hexadecimal_word memory, (decimal_word pages, tt))
parameters_are_words (call.GetMemoryMap size) h = (decimal_word size, tt)
parameters_are_words (call.AllocatePool t size) h = (decimal_word t, (decimal_word size, tt))
parameters_are_words (call.FreePool address) h = (hexadecimal_word address, tt)
parameters_are_words (call.PoolRead address size) h = (hexadecimal_word address, (decimal_word size, tt))
parameters_are_words (call.PoolWrite address bytes) h = (hexadecimal_word address, (bytes_are_word bytes h.1, tt))
parameters_are_words (call.InstallProtocolInterface handle guid kind value) h = (decimal_word handle, (guid_is_word guid, (decimal_word kind, (hexadecimal_word value, tt))))
parameters_are_words (call.InstallMultipleProtocolInterfaces handle pairs) h = (decimal_word handle, pairs_are_words pairs)
parameters_are_words (call.UninstallProtocolInterface handle guid value) h = (decimal_word handle, (guid_is_word guid, (hexadecimal_word value, tt)))
parameters_are_words (call.ReinstallProtocolInterface handle guid old new) h = (decimal_word handle, (guid_is_word guid, (hexadecimal_word old, (hexadecimal_word new, tt))))
parameters_are_words (call.RegisterProtocolNotify guid event) h = (guid_is_word guid, (decimal_word event, tt))
parameters_are_words (call.LocateHandle search guid key size) h = (decimal_word search, (guid_is_word guid, (decimal_word key, (decimal_word size, tt))))
parameters_are_words (call.LocateHandleBuffer search guid key) h = (decimal_word search, (guid_is_word guid, (decimal_word key, tt)))
parameters_are_words (call.LocateProtocol guid key) h = (guid_is_word guid, (decimal_word key, tt))
parameters_are_words (call.ProtocolsPerHandle handle) h = (decimal_word handle, tt)
parameters_are_words (call.OpenProtocol handle guid agent controller attributes) h = (decimal_word handle, (guid_is_word guid, (decimal_word agent, (decimal_word controller, (decimal_word attributes, tt)))))
parameters_are_words (call.CloseProtocol handle guid agent controller) h = (decimal_word handle, (guid_is_word guid, (decimal_word agent, (decimal_word controller, tt))))
parameters_are_words (call.OpenProtocolInformation handle guid) h = (decimal_word handle, (guid_is_word guid, tt))
parameters_are_words (call.HandleProtocol handle guid) h = (decimal_word handle, (guid_is_word guid, tt))
parameters_are_words (call.ConnectController handle drivers recursive) h = (decimal_word handle, (flag_is_word recursive, decimal_words drivers))
parameters_are_words (call.DisconnectController handle driver) h = (decimal_word handle, (decimal_word driver, tt))
parameters_are_words (call.LocateDevicePath guid address) h = (guid_is_word guid, (hexadecimal_word address, tt))
parameters_are_words (call.ExitBootServices key) h = (decimal_word key, tt)

parameters_read : {A : Type 0} (c : Call A) → HasCallNumbers c → may_ask c ≡ true → call_of (verb_of c) (parameters_of c) ≡ Ok (Service c)
parameters_read (call.AllocatePages kind t pages memory) h w = then_read _ kind _ _ (read_32 kind h.0) (then_read _ t _ _ (read_32 t h.1) (then_read _ pages _ _ (read_decimal pages h.2) (then_read _ memory _ _ (read_hexadecimal memory h.3) refl)))
parameters_read (call.FreePages memory pages) h w = then_read _ memory _ _ (read_hexadecimal memory h.0) (then_read _ pages _ _ (read_decimal pages h.1) refl)
parameters_read (call.GetMemoryMap size) h w = then_read _ size _ _ (read_up_to largest_buffer size h (leb-true size largest_buffer w)) refl
parameters_read (call.AllocatePool t size) h w = then_read _ t _ _ (read_32 t h.0) (then_read _ size _ _ (read_decimal size h.1) refl)
parameters_read (call.FreePool address) h w = then_read _ address _ _ (read_hexadecimal address h) refl
parameters_read (call.PoolRead address size) h w = then_read _ address _ _ (read_hexadecimal address h.0) (then_read _ size _ _ (read_up_to longest_read size h.1 (leb-true size longest_read w)) refl)
parameters_read (call.PoolWrite address bytes) h w = then_read _ address _ _ (read_hexadecimal address h.0) (then_read _ bytes _ _ (read_bytes bytes h.1) refl)
parameters_read (call.InstallProtocolInterface handle guid kind value) h w = then_read _ handle _ _ (read_decimal handle h.0) (then_read _ guid _ _ (read_guid guid h.1) (then_read _ kind _ _ (read_32 kind h.2) (then_read _ value _ _ (read_hexadecimal value h.3) refl)))
parameters_read (call.InstallMultipleProtocolInterfaces handle []) h w = absurd (cc)
parameters_read (call.InstallMultipleProtocolInterfaces handle (p ∷ pairs)) h w =
    rw (even_words pairs)
    (then_read _ handle _ _ (read_decimal handle h.0) (then_read _ (p ∷ pairs) _ _ (read_pairs (p ∷ pairs) h.1) refl))
parameters_read (call.UninstallProtocolInterface handle guid value) h w = then_read _ handle _ _ (read_decimal handle h.0) (then_read _ guid _ _ (read_guid guid h.1) (then_read _ value _ _ (read_hexadecimal value h.2) refl))
parameters_read (call.ReinstallProtocolInterface handle guid old new) h w = then_read _ handle _ _ (read_decimal handle h.0) (then_read _ guid _ _ (read_guid guid h.1) (then_read _ old _ _ (read_hexadecimal old h.2) (then_read _ new _ _ (read_hexadecimal new h.3) refl)))
parameters_read (call.RegisterProtocolNotify guid event) h w = then_read _ guid _ _ (read_guid guid h.0) (then_read _ event _ _ (read_decimal event h.1) refl)
parameters_read (call.LocateHandle search guid key size) h w = then_read _ search _ _ (read_32 search h.0) (then_read _ guid _ _ (read_guid guid h.1) (then_read _ key _ _ (read_decimal key h.2) (then_read _ size _ _ (read_decimal size h.3) refl)))
parameters_read (call.LocateHandleBuffer search guid key) h w = then_read _ search _ _ (read_32 search h.0) (then_read _ guid _ _ (read_guid guid h.1) (then_read _ key _ _ (read_decimal key h.2) refl))
parameters_read (call.LocateProtocol guid key) h w = then_read _ guid _ _ (read_guid guid h.0) (then_read _ key _ _ (read_decimal key h.1) refl)
parameters_read (call.ProtocolsPerHandle handle) h w = then_read _ handle _ _ (read_decimal handle h) refl
parameters_read (call.OpenProtocol handle guid agent controller attributes) h w = then_read _ handle _ _ (read_decimal handle h.0) (then_read _ guid _ _ (read_guid guid h.1) (then_read _ agent _ _ (read_decimal agent h.2) (then_read _ controller _ _ (read_decimal controller h.3) (then_read _ attributes _ _ (read_32 attributes h.4) refl))))
parameters_read (call.CloseProtocol handle guid agent controller) h w = then_read _ handle _ _ (read_decimal handle h.0) (then_read _ guid _ _ (read_guid guid h.1) (then_read _ agent _ _ (read_decimal agent h.2) (then_read _ controller _ _ (read_decimal controller h.3) refl)))
parameters_read (call.OpenProtocolInformation handle guid) h w = then_read _ handle _ _ (read_decimal handle h.0) (then_read _ guid _ _ (read_guid guid h.1) refl)
parameters_read (call.HandleProtocol handle guid) h w = then_read _ handle _ _ (read_decimal handle h.0) (then_read _ guid _ _ (read_guid guid h.1) refl)
parameters_read (call.ConnectController handle drivers recursive) h w = then_read _ handle _ _ (read_decimal handle h.0) (then_read _ recursive _ _ (read_flag recursive) (then_read _ drivers _ _ (read_numbers drivers h.1) refl))
parameters_read (call.DisconnectController handle driver) h w = then_read _ handle _ _ (read_decimal handle h.0) (then_read _ driver _ _ (read_decimal driver h.1) refl)
parameters_read (call.LocateDevicePath guid address) h w = then_read _ guid _ _ (read_guid guid h.0) (then_read _ address _ _ (read_hexadecimal address h.1) refl)
parameters_read (call.ExitBootServices key) h w = then_read _ key _ _ (read_decimal key h) refl

pub printed_call : {A : Type 0} (c : Call A) → HasCallNumbers c → has_line c ≡ true → line_of (call_line c) ≡ Ok (Some (Service c))
printed_call c h w =
    let parts = and_parts (may_ask c) (nat_le (length (call_line c)) longest_line) w in
    let short : length (call_line c) ≤ longest_line = leb-true (length (call_line c)) longest_line parts.1 in
    rw (le-ltb longest_line (length (call_line c)) short)
    (ap call_of_words (spaced_line (verb_name (verb_of c)) (parameters_of c) (verb_is_word (verb_of c)) (parameters_are_words c h))
    ∙ verb_read (verb_of c) (parameters_of c) (Service c) (parameters_read c h parts.0))
