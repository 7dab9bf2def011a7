-- What a trace line asks for.
use Rattle.std.specs.Prelude.{ℕ, ◌%◌, ◌==◌, nat_lt, nat_eq, List, [], ◌∷◌, length, codes, Option, Some, None, Result, Ok, Err, if◌then◌else◌}
use Rattle.std.specs.List.{starts_with}
use Rattle.std.specs.Io.BufRead.{strip_last}
use Rattle.boot_calls.specs.declared.calls.Call.TheVariants.{AllocatePages, FreePages, GetMemoryMap, AllocatePool, FreePool, PoolRead, PoolWrite, InstallProtocolInterface, InstallMultipleProtocolInterfaces, UninstallProtocolInterface, ReinstallProtocolInterface, OpenProtocol, CloseProtocol, OpenProtocolInformation, HandleProtocol, RegisterProtocolNotify, LocateHandle, LocateHandleBuffer, LocateProtocol, ProtocolsPerHandle, ConnectController, DisconnectController, LocateDevicePath, ExitBootServices}
use Rattle.trace_lines.specs.declared.lines.TraceCall.{TraceCall}
use Rattle.trace_lines.specs.declared.lines.TraceCall.TheVariants as trace_call
use Rattle.trace_lines.specs.declared.faults.TraceFault.{TraceFault}
use Rattle.trace_lines.specs.declared.faults.TraceFault.TheVariants as fault
use Rattle.trace_lines.specs.Parameters.{u64_of, u32_of, u64_up_to, flag_of, u64s_of, bytes_of, guid_of, pairs_of}
use Rattle.trace_verbs.specs.declared.verbs.Verb.{Verb}
use Rattle.trace_verbs.specs.declared.verbs.Verb.TheVariants as verb
use Rattle.text_lines.specs.FirstFault.{◌>>=◌, or_fault}
use Rattle.trace_verbs.specs.Verbs.{verb_named}
use Rattle.text_lines.specs.Lines.{longest_line}
use Rattle.text_lines.specs.Words.{words_of}

-- ---- calls

-- the most bytes of a buffer for the memory map
abbrev pub largest_buffer : ℕ
largest_buffer = 16777216

-- the most bytes of the pool that one line reads
abbrev pub longest_read : ℕ
longest_read = 65536

-- what a verb asks for with its parameters, each of its type, from left to right
abbrev pub call_of : {A : Type 0} → Verb → List (List ℕ) → Result (TraceCall A) TraceFault
call_of verb.Pages (kind ∷ mtype ∷ pages ∷ memory ∷ []) = do
  k ← u32_of kind
  t ← u32_of mtype
  p ← u64_of pages
  m ← u64_of memory
  Ok (trace_call.Service (AllocatePages k t p m))
call_of verb.FreePages (memory ∷ pages ∷ []) = do
  m ← u64_of memory
  p ← u64_of pages
  Ok (trace_call.Service (FreePages m p))
call_of verb.Map (size ∷ []) = do
  n ← u64_up_to largest_buffer size
  Ok (trace_call.Service (GetMemoryMap n))
call_of verb.Pool (mtype ∷ size ∷ []) = do
  t ← u32_of mtype
  n ← u64_of size
  Ok (trace_call.Service (AllocatePool t n))
call_of verb.FreePool (address ∷ []) = do
  a ← u64_of address
  Ok (trace_call.Service (FreePool a))
call_of verb.Read (address ∷ count ∷ []) = do
  a ← u64_of address
  n ← u64_up_to longest_read count
  Ok (trace_call.Service (PoolRead a n))
call_of verb.Write (address ∷ bytes ∷ []) = do
  a ← u64_of address
  b ← bytes_of bytes
  Ok (trace_call.Service (PoolWrite a b))
call_of verb.Install (handle ∷ guid ∷ kind ∷ value ∷ []) = do
  h ← u64_of handle
  g ← guid_of guid
  k ← u32_of kind
  v ← u64_of value
  Ok (trace_call.Service (InstallProtocolInterface h g k v))
call_of verb.InstallMany (handle ∷ guid ∷ value ∷ words) = if length words % 2 == 0 then (do
  h ← u64_of handle
  pairs ← pairs_of (guid ∷ value ∷ words)
  Ok (trace_call.Service (InstallMultipleProtocolInterfaces h pairs))) else Err fault.Words
call_of verb.Uninstall (handle ∷ guid ∷ value ∷ []) = do
  h ← u64_of handle
  g ← guid_of guid
  v ← u64_of value
  Ok (trace_call.Service (UninstallProtocolInterface h g v))
call_of verb.Reinstall (handle ∷ guid ∷ old ∷ new ∷ []) = do
  h ← u64_of handle
  g ← guid_of guid
  o ← u64_of old
  n ← u64_of new
  Ok (trace_call.Service (ReinstallProtocolInterface h g o n))
call_of verb.Open (handle ∷ guid ∷ agent ∷ controller ∷ attributes ∷ []) = do
  h ← u64_of handle
  g ← guid_of guid
  a ← u64_of agent
  c ← u64_of controller
  t ← u32_of attributes
  Ok (trace_call.Service (OpenProtocol h g a c t))
call_of verb.Close (handle ∷ guid ∷ agent ∷ controller ∷ []) = do
  h ← u64_of handle
  g ← guid_of guid
  a ← u64_of agent
  c ← u64_of controller
  Ok (trace_call.Service (CloseProtocol h g a c))
call_of verb.Information (handle ∷ guid ∷ []) = do
  h ← u64_of handle
  g ← guid_of guid
  Ok (trace_call.Service (OpenProtocolInformation h g))
call_of verb.HandleProtocol (handle ∷ guid ∷ []) = do
  h ← u64_of handle
  g ← guid_of guid
  Ok (trace_call.Service (HandleProtocol h g))
call_of verb.Notify (guid ∷ event ∷ []) = do
  g ← guid_of guid
  e ← u64_of event
  Ok (trace_call.Service (RegisterProtocolNotify g e))
call_of verb.Locate (search ∷ guid ∷ key ∷ size ∷ []) = do
  s ← u32_of search
  g ← guid_of guid
  k ← u64_of key
  n ← u64_of size
  Ok (trace_call.Service (LocateHandle s g k n))
call_of verb.LocateBuffer (search ∷ guid ∷ key ∷ []) = do
  s ← u32_of search
  g ← guid_of guid
  k ← u64_of key
  Ok (trace_call.Service (LocateHandleBuffer s g k))
call_of verb.LocateProtocol (guid ∷ key ∷ []) = do
  g ← guid_of guid
  k ← u64_of key
  Ok (trace_call.Service (LocateProtocol g k))
call_of verb.Protocols (handle ∷ []) = do
  h ← u64_of handle
  Ok (trace_call.Service (ProtocolsPerHandle h))
call_of verb.Connect (handle ∷ recursive ∷ drivers) = do
  h ← u64_of handle
  r ← flag_of recursive
  ds ← u64s_of drivers
  Ok (trace_call.Service (ConnectController h ds r))
call_of verb.Disconnect (handle ∷ driver ∷ []) = do
  h ← u64_of handle
  d ← u64_of driver
  Ok (trace_call.Service (DisconnectController h d))
call_of verb.Path (guid ∷ address ∷ []) = do
  g ← guid_of guid
  a ← u64_of address
  Ok (trace_call.Service (LocateDevicePath g a))
call_of verb.Exit (key ∷ []) = do
  k ← u64_of key
  Ok (trace_call.Service (ExitBootServices k))
call_of verb.List [] = Ok trace_call.List
call_of v words = Err fault.Words

-- ---- lines

-- what words ask for: nothing where there are none, or where they are a comment
abbrev pub call_of_words : {A : Type 0} → List (List ℕ) → Result (Option (TraceCall A)) TraceFault
call_of_words [] = Ok None
call_of_words (name ∷ parameters) = if starts_with nat_eq name (codes "#") then Ok None else (do
  v ← or_fault fault.Verb (verb_named name)
  call ← call_of v parameters
  Ok (Some call))

-- what a line asks for, without its line feed: one carriage return at its end is dropped
abbrev pub line_of : {A : Type 0} → List ℕ → Result (Option (TraceCall A)) TraceFault
line_of line =
    if nat_lt longest_line (length line) then Err fault.Long
    else call_of_words (words_of (strip_last 13 line))
