-- The calls that lines ask for.
use Rattle.std.proofs.Common.{◌≡◌, ℕ, suc, ◌<◌, ◌^◌, ◌%◌, ◌==◌, Bool, true, false, cond, nat_lt, nat_le, nat_eq, List, [], ◌∷◌, length, codes, Option, Some, None, Result, Ok, Err, refl, ap, ◌∙◌, subst}
use Rattle.std.proofs.lemmas.Bool.{ltb-true}
use Rattle.std.specs.Io.BufRead.{strip_last}
use Rattle.std.specs.List.{starts_with, AllByRecursion}
use Rattle.std.specs.Str.{bytes_eq}
use Rattle.hex.specs.Hex.{IsBytes, decode_of}
use Rattle.hex.specs.declared.error.FromHexError.{FromHexError}
use Rattle.hex.proofs.HexLemmas.{decode_of-ok}
use Rattle.boot_calls.specs.declared.calls.Call.{Call}
use Rattle.boot_calls.specs.declared.calls.Call.TheVariants as call
use Rattle.boot_calls.specs.CallNumbers.{NamesTypes}
use Rattle.text_lines.specs.FirstFault.{◌>>=◌, or_fault}
use Rattle.text_lines.specs.Numbers.{number_of}
use Rattle.text_lines.proofs.NumberBounds.{number_fits}
use Rattle.text_lines.specs.Lines.{longest_line}
use Rattle.text_lines.specs.Words.{words_of}
use Rattle.text_lines.proofs.FirstFaults.{bind_ok, found}
use Rattle.trace_verbs.specs.declared.verbs.Verb.{Verb}
use Rattle.trace_verbs.specs.declared.verbs.Verb.TheVariants as verb
use Rattle.trace_verbs.specs.Verbs.{verb_named}
use Rattle.trace_lines.specs.declared.faults.TraceFault.{TraceFault}
use Rattle.trace_lines.specs.declared.faults.TraceFault.TheVariants as fault
use Rattle.trace_lines.specs.declared.lines.TraceCall.{TraceCall}
use Rattle.trace_lines.specs.declared.lines.TraceCall.TheVariants as trace_call
use Rattle.uuid.specs.Text.{parsed}
use Rattle.trace_lines.specs.Laws.{IsGuid, HasCallNumbers}
use Rattle.trace_lines.specs.Parameters.{u64_of, u32_of, u64_up_to, flag_of, u64s_of, or_hex, bytes_of, guid_of, pairs_of}
use Rattle.trace_lines.proofs.ParsedGuids.{parsed_guid}
use Rattle.trace_lines.specs.TraceLine.{largest_buffer, longest_read, call_of, call_of_words, line_of}

-- ---- numbers

abbrev fine : {A : Type 0} → A → Result A TraceFault
fine x = Ok x

checked : (b : Bool) (n t : ℕ) → cond b (fine n) (Err fault.Number) ≡ Ok t → (b ≡ true) × (n ≡ t)
checked true n t e = (refl, cc)
checked false n t e = absurd (cc)

u64_below : (word : List ℕ) (n : ℕ) → u64_of word ≡ Ok n → n < 2 ^ 64
u64_below word n e = number_fits word n (found fault.Number (number_of word) n e)

u64_up_to-below : (most : ℕ) (word : List ℕ) (size : ℕ) → u64_up_to most word ≡ Ok size → size < 2 ^ 64
u64_up_to-below most word size e =
    let (n, ne, e1) = bind_ok (u64_of word) (λ n. cond (nat_le n most) (Ok n) (Err fault.Number)) size e in
    let (fits, same) = checked (nat_le n most) n size e1 in
    subst (λ (m : ℕ). m < 2 ^ 64) same (u64_below word n ne)

u32_below : (word : List ℕ) (t : ℕ) → u32_of word ≡ Ok t → t < 2 ^ 32
u32_below word t e =
    let (n, ne, e1) = bind_ok (u64_of word) (λ n. cond (nat_lt n (2 ^ 32)) (Ok n) (Err fault.Number)) t e in
    let (below, same) = checked (nat_lt n (2 ^ 32)) n t e1 in
    subst (λ (m : ℕ). m < 2 ^ 32) same (ltb-true n (2 ^ 32) below)

-- ---- bytes

abbrev AreBytes : List ℕ → Type 0
AreBytes bytes = AllByRecursion (λ b. b < 256) bytes

one_by_one : (bytes : List ℕ) → IsBytes bytes → AreBytes bytes
one_by_one [] h = tt
one_by_one (b ∷ bytes) h = (h 0, one_by_one bytes (λ i. h (suc i)))

decoded : (r : Result (List ℕ) FromHexError) (bytes : List ℕ) → or_hex r ≡ Ok bytes → r ≡ Ok bytes
decoded (Ok found) bytes e = cc
decoded (Err error) bytes e = absurd (cc)

of_digits : (none : Bool) (word bytes : List ℕ) → cond none (fine []) (or_hex (decode_of word)) ≡ Ok bytes → AreBytes bytes
of_digits true word bytes e = let same : [] ≡ bytes = cc in subst AreBytes same tt
of_digits false word bytes e =
    let (even, digits, twice, below) = decode_of-ok word bytes (decoded (decode_of word) bytes e) in
    one_by_one bytes below

bytes_below : (word bytes : List ℕ) → bytes_of word ≡ Ok bytes → AreBytes bytes
bytes_below [] bytes e = absurd (cc)
bytes_below (b ∷ word) bytes e = of_digits (bytes_eq (b ∷ word) (codes "-")) (b ∷ word) bytes e

-- ---- GUIDs

guid_fits : (word guid : List ℕ) → guid_of word ≡ Ok guid → IsGuid guid
unfolding guid_of
guid_fits word guid e = parsed_guid word guid (found fault.Guid (parsed word) guid e)

abbrev IsPair : List ℕ × ℕ → Type 0
IsPair pair = IsGuid pair.0 × (pair.1 < 2 ^ 64)

same_pairs : (front pairs : List (List ℕ × ℕ)) → fine front ≡ Ok pairs → AllByRecursion IsPair front → AllByRecursion IsPair pairs
same_pairs front pairs e h = let same : front ≡ pairs = cc in subst (AllByRecursion IsPair) same h

pairs_fit : (words : List (List ℕ)) (pairs : List (List ℕ × ℕ)) → pairs_of words ≡ Ok pairs → AllByRecursion IsPair pairs
pairs_fit [] pairs e = same_pairs [] pairs e tt
pairs_fit (guid ∷ []) pairs e = same_pairs [] pairs e tt
pairs_fit (guid ∷ value ∷ words) pairs e =
    let (g, ge, e1) = bind_ok (guid_of guid) _ _ e in
    let (v, ve, e2) = bind_ok (u64_of value) _ _ e1 in
    let (ps, pe, e3) = bind_ok (pairs_of words) _ _ e2 in
    same_pairs ((g, v) ∷ ps) pairs e3 ((guid_fits guid g ge, u64_below value v ve), pairs_fit words ps pe)

-- ---- drivers

abbrev FitAll : List ℕ → Type 0
FitAll numbers = AllByRecursion (λ n. n < 2 ^ 64) numbers

same_fit : (front numbers : List ℕ) → fine front ≡ Ok numbers → FitAll front → FitAll numbers
same_fit front numbers e h = let same : front ≡ numbers = cc in subst FitAll same h

numbers_fit : (words : List (List ℕ)) (numbers : List ℕ) → u64s_of words ≡ Ok numbers → FitAll numbers
numbers_fit [] numbers e = same_fit [] numbers e tt
numbers_fit (word ∷ words) numbers e =
    let (n, ne, e1) = bind_ok (u64_of word) _ _ e in
    let (ns, se, e2) = bind_ok (u64s_of words) _ _ e1 in
    same_fit (n ∷ ns) numbers e2 (u64_below word n ne, numbers_fit words ns se)

-- ---- calls

abbrev Asked : Type 0 → Type 0
Asked A = Result (TraceCall A) TraceFault

module _ {A : Type 0} where
  -- that a call which is asked for has its numbers
  abbrev Numbered : Asked A → Type 0
  Numbered (Ok (trace_call.Service c)) = HasCallNumbers c
  Numbered (Ok asked) = Unit {0}
  Numbered (Err f) = Unit {0}

  after : {B : Type 0} (r : Result B TraceFault) (f : B → Asked A) → ((x : B) → r ≡ Ok x → Numbered (f x)) → Numbered (r >>= f)
  after (Ok x) f h = h x refl
  after (Err e) f h = tt

  if_even : (b : Bool) (r : Asked A) (f : TraceFault) → Numbered r → Numbered (cond b r (Err f))
  if_even true r f h = h
  if_even false r f h = tt

-- the numbers of the call that a verb asks for with its words
of_verb : (A : Type 0) (v : Verb) (words : List (List ℕ)) → Numbered {A = A} (call_of v words)
of_verb A verb.Pages (kind ∷ mtype ∷ pages ∷ memory ∷ []) =
    after (u32_of kind) _ (λ k ke. after (u32_of mtype) _ (λ t te. after (u64_of pages) _ (λ p pe. after (u64_of memory) _ (λ m me. (u32_below kind k ke, u32_below mtype t te, u64_below pages p pe, u64_below memory m me)))))
of_verb A verb.FreePages (memory ∷ pages ∷ []) =
    after (u64_of memory) _ (λ m me. after (u64_of pages) _ (λ p pe. (u64_below memory m me, u64_below pages p pe)))
of_verb A verb.Map (size ∷ []) =
    after (u64_up_to largest_buffer size) _ (λ n ne. (u64_up_to-below largest_buffer size n ne))
of_verb A verb.Pool (mtype ∷ size ∷ []) =
    after (u32_of mtype) _ (λ t te. after (u64_of size) _ (λ n ne. (u32_below mtype t te, u64_below size n ne)))
of_verb A verb.FreePool (address ∷ []) =
    after (u64_of address) _ (λ a ae. (u64_below address a ae))
of_verb A verb.Read (address ∷ count ∷ []) =
    after (u64_of address) _ (λ a ae. after (u64_up_to longest_read count) _ (λ n ne. (u64_below address a ae, u64_up_to-below longest_read count n ne)))
of_verb A verb.Write (address ∷ bytes ∷ []) =
    after (u64_of address) _ (λ a ae. after (bytes_of bytes) _ (λ b be. (u64_below address a ae, bytes_below bytes b be)))
of_verb A verb.Install (handle ∷ guid ∷ kind ∷ value ∷ []) =
    after (u64_of handle) _ (λ h he. after (guid_of guid) _ (λ g ge. after (u32_of kind) _ (λ k ke. after (u64_of value) _ (λ v ve. (u64_below handle h he, guid_fits guid g ge, u32_below kind k ke, u64_below value v ve)))))
of_verb A verb.InstallMany (handle ∷ guid ∷ value ∷ words) =
    if_even (length words % 2 == 0) _ fault.Words (after (u64_of handle) _ (λ h he. after (pairs_of (guid ∷ value ∷ words)) _ (λ ps pe. (u64_below handle h he, pairs_fit (guid ∷ value ∷ words) ps pe))))
of_verb A verb.Uninstall (handle ∷ guid ∷ value ∷ []) =
    after (u64_of handle) _ (λ h he. after (guid_of guid) _ (λ g ge. after (u64_of value) _ (λ v ve. (u64_below handle h he, guid_fits guid g ge, u64_below value v ve))))
of_verb A verb.Reinstall (handle ∷ guid ∷ old ∷ new ∷ []) =
    after (u64_of handle) _ (λ h he. after (guid_of guid) _ (λ g ge. after (u64_of old) _ (λ o oe. after (u64_of new) _ (λ n ne. (u64_below handle h he, guid_fits guid g ge, u64_below old o oe, u64_below new n ne)))))
of_verb A verb.Open (handle ∷ guid ∷ agent ∷ controller ∷ attributes ∷ []) =
    after (u64_of handle) _ (λ h he. after (guid_of guid) _ (λ g ge. after (u64_of agent) _ (λ a ae. after (u64_of controller) _ (λ k ke. after (u32_of attributes) _ (λ t te. (u64_below handle h he, guid_fits guid g ge, u64_below agent a ae, u64_below controller k ke, u32_below attributes t te))))))
of_verb A verb.Close (handle ∷ guid ∷ agent ∷ controller ∷ []) =
    after (u64_of handle) _ (λ h he. after (guid_of guid) _ (λ g ge. after (u64_of agent) _ (λ a ae. after (u64_of controller) _ (λ k ke. (u64_below handle h he, guid_fits guid g ge, u64_below agent a ae, u64_below controller k ke)))))
of_verb A verb.Information (handle ∷ guid ∷ []) =
    after (u64_of handle) _ (λ h he. after (guid_of guid) _ (λ g ge. (u64_below handle h he, guid_fits guid g ge)))
of_verb A verb.HandleProtocol (handle ∷ guid ∷ []) =
    after (u64_of handle) _ (λ h he. after (guid_of guid) _ (λ g ge. (u64_below handle h he, guid_fits guid g ge)))
of_verb A verb.Notify (guid ∷ event ∷ []) =
    after (guid_of guid) _ (λ g ge. after (u64_of event) _ (λ v ve. (guid_fits guid g ge, u64_below event v ve)))
of_verb A verb.Locate (kind ∷ guid ∷ key ∷ size ∷ []) =
    after (u32_of kind) _ (λ s se. after (guid_of guid) _ (λ g ge. after (u64_of key) _ (λ k ke. after (u64_of size) _ (λ n ne. (u32_below kind s se, guid_fits guid g ge, u64_below key k ke, u64_below size n ne)))))
of_verb A verb.LocateBuffer (kind ∷ guid ∷ key ∷ []) =
    after (u32_of kind) _ (λ s se. after (guid_of guid) _ (λ g ge. after (u64_of key) _ (λ k ke. (u32_below kind s se, guid_fits guid g ge, u64_below key k ke))))
of_verb A verb.LocateProtocol (guid ∷ key ∷ []) =
    after (guid_of guid) _ (λ g ge. after (u64_of key) _ (λ k ke. (guid_fits guid g ge, u64_below key k ke)))
of_verb A verb.Protocols (handle ∷ []) =
    after (u64_of handle) _ (λ h he. (u64_below handle h he))
of_verb A verb.Connect (handle ∷ recursive ∷ drivers) =
    after (u64_of handle) _ (λ h he. after (flag_of recursive) _ (λ r re. after (u64s_of drivers) _ (λ ds de. (u64_below handle h he, numbers_fit drivers ds de))))
of_verb A verb.Disconnect (handle ∷ driver ∷ []) =
    after (u64_of handle) _ (λ h he. after (u64_of driver) _ (λ d de. (u64_below handle h he, u64_below driver d de)))
of_verb A verb.Path (guid ∷ address ∷ []) =
    after (guid_of guid) _ (λ g ge. after (u64_of address) _ (λ a ae. (guid_fits guid g ge, u64_below address a ae)))
of_verb A verb.Exit (key ∷ []) =
    after (u64_of key) _ (λ k ke. (u64_below key k ke))
of_verb A verb.List [] = tt
of_verb A verb.List (word ∷ words) = tt
of_verb A v words = tt

module _ {A : Type 0} where
  some_call : (asked : TraceCall A) (c : Call A) → fine (Some asked) ≡ Ok (Some (trace_call.Service c)) → asked ≡ trace_call.Service c
  some_call asked c e = cc

  not_skipped : (b : Bool) (r : Result (Option (TraceCall A)) TraceFault) (t : TraceCall A) → cond b (Ok None) r ≡ Ok (Some t) → r ≡ Ok (Some t)
  not_skipped true r t e = absurd (cc)
  not_skipped false r t e = e

  of_words : (words : List (List ℕ)) (c : Call A) → call_of_words words ≡ Ok (Some (trace_call.Service c)) → HasCallNumbers c
  of_words [] c e = absurd (cc)
  of_words (name ∷ parameters) c e =
      let e1 = not_skipped (starts_with nat_eq name (codes "#")) (or_fault fault.Verb (verb_named name) >>= λ v. call_of v parameters >>= λ asked. Ok (Some asked)) (trace_call.Service c) e in
      let (v, ve, e2) = bind_ok (or_fault fault.Verb (verb_named name)) (λ v. call_of v parameters >>= λ asked. Ok (Some asked)) _ e1 in
      let (asked, ae, e3) = bind_ok (call_of v parameters) (λ asked. Ok (Some asked)) _ e2 in
      subst Numbered (ae ∙ ap (λ (a : TraceCall A). fine a) (some_call asked c e3)) (of_verb A v parameters)

  not_long : (b : Bool) (r : Result (Option (TraceCall A)) TraceFault) (t : TraceCall A) → cond b (Err fault.Long) r ≡ Ok (Some t) → r ≡ Ok (Some t)
  not_long true r t e = absurd (cc)
  not_long false r t e = e

  pub call_numbers : (line : List ℕ) (c : Call A) → line_of line ≡ Ok (Some (trace_call.Service c)) → HasCallNumbers c
  call_numbers line c e = of_words (words_of (strip_last 13 line)) c (not_long (nat_lt longest_line (length line)) (call_of_words (words_of (strip_last 13 line))) (trace_call.Service c) e)

  of_numbers : (c : Call A) → HasCallNumbers c → NamesTypes c
  of_numbers (call.AllocatePages kind t pages memory) h = h.1
  of_numbers (call.AllocatePool t size) h = h.0
  of_numbers c h = tt

  pub named_types : (line : List ℕ) (c : Call A) → line_of line ≡ Ok (Some (trace_call.Service c)) → NamesTypes c
  named_types line c e = of_numbers c (call_numbers line c e)
