-- What is printed of a call, from the map that was kept before it.
use Rattle.std.proofs.Common.{◌≡◌, ℕ, Bool, true, false, cond, List, [], ◌++◌, Option, Some, None, refl, ap, ◌∙◌}
use Rattle.std.specs.Option.{is_some, option_and_then, option_map}
use Rattle.page_ranges.specs.declared.ranges.Descriptor.{Descriptor}
use Rattle.page_ranges.specs.MemoryMap.{memory_map}
use Rattle.placement_certificate.specs.declared.certificates.Request.{Request}
use Rattle.placement_certificate.specs.Certificates.{CertificateValue}
use Rattle.page_services.specs.PageRules.{Book}
use Rattle.boot_calls.specs.declared.calls.Call.{Call}
use Rattle.boot_calls.specs.declared.calls.Call.TheVariants as call
use Rattle.boot_replies.specs.declared.replies.Reply.{Reply}
use Rattle.boot_replies.specs.Certified.{request_for, certificate_in, certified}
use Rattle.reply_texts.specs.PrintedText.{reply_text}
use Rattle.reply_texts.specs.CallText.{CarriesEntries, PrintsCall, certificate_text, block_after}
use Rattle.boot_replies.specs.Certified.{map_before}

-- a reply to a call without a request carries no certificate for one
kept : (r : Option Request) (c : Option CertificateValue) (entries : List Descriptor) → block_after (cond (is_some r) (Some entries) None) (option_and_then (λ r. option_map (λ c. (r, c)) c) r) ≡ certificate_text entries (option_and_then (λ r. option_map (λ c. (r, c)) c) r)
kept None c entries = refl
kept (Some r) c entries = refl

-- a map that is always kept
always : (returned : Option (Request × CertificateValue)) (entries : List Descriptor) → block_after (Some entries) returned ≡ certificate_text entries returned
always None entries = refl
always (Some (r, c)) entries = refl

-- the block after the map that was kept is that of the certificate
pub block_kept : {A : Type 0} (certify : Bool) (g : ℕ) (entries : List Descriptor) (c : Call A) (answer : Reply A) → block_after (map_before certify g entries c) (certified g c answer) ≡ cond certify (certificate_text entries (certified g c answer)) []
block_kept false g entries c answer = refl
block_kept true g entries (call.AllocatePages kind t pages memory) answer = kept (request_for g (call.AllocatePages kind t pages memory) answer) (certificate_in answer) entries
block_kept true g entries (call.AllocatePool t size) answer = kept (request_for g (call.AllocatePool t size) answer) (certificate_in answer) entries
block_kept true g entries (call.LocateHandleBuffer search guid key) answer = always (certified g (call.LocateHandleBuffer search guid key) answer) entries
block_kept true g entries (call.OpenProtocolInformation handle guid) answer = always (certified g (call.OpenProtocolInformation handle guid) answer) entries
block_kept true g entries c answer = refl

-- the lines of the reply and the block after them, after no other text, are what is printed of the call
pub prints_call : {A : Type 0} (certify : Bool) (number : ℕ) (before : Book) (c : Call A) (answer : Reply A) (front text : List ℕ) (map : Option (List Descriptor)) (entries : List Descriptor) → CarriesEntries answer entries → front ≡ [] → map ≡ map_before certify before.granule (memory_map before.memory) c → text ≡ front ++ (reply_text number entries answer ++ block_after map (certified before.granule c answer)) → PrintsCall certify number before c answer text
prints_call certify number before c answer front text map entries carries none kept e =
    let line = reply_text number entries answer in
    let returned = certified before.granule c answer in (
      entries,
      carries,
      e
          ∙ ap (λ (f : List ℕ). f ++ (line ++ block_after map returned)) none
          ∙ ap (λ (m : Option (List Descriptor)). line ++ block_after m returned) kept
          ∙ ap (λ (block : List ℕ). line ++ block) (block_kept certify before.granule (memory_map before.memory) c answer),
    )
