-- What is left of a call, where blocks are kept and where not.
use Rattle.std.proofs.Common.{◌≡◌, ℕ, true, List, Option, Result, Ok, Err, Vec, refl, sym, subst, MatchResult, IfOk}
use Rattle.std.specs.Option.{option_map}
use Rattle.page_ranges.specs.declared.ranges.Descriptor.{Descriptor}
use Rattle.placement_certificate.specs.declared.certificates.Request.{Request}
use Rattle.placement_certificate.specs.Certificates.{CertificateValue}
use Rattle.boot_calls.specs.declared.calls.Call.{Call}
use Rattle.boot_replies.specs.declared.replies.Reply.{Reply}
use Rattle.boot_replies.specs.Certified.{map_before}
use Rattle.c_interface.specs.declared.efi_core.LastBlock.{LastBlock}
use Rattle.c_interface.specs.declared.efi_core.LastBlock.TheVariants as block
use Rattle.c_interface.specs.EfiCores.{EfiCoreValue, LeavesBlock, forgotten}
use Rattle.c_interface.specs.Served.{Makes}

-- the entries of a map that was kept
abbrev pub entries_of : {A : Type 0} → Option (Vec Descriptor A) → Option (List Descriptor)
entries_of kept = option_map (λ entries. entries.items) kept

pub kept_block : {E A : Type 0} (granule : ℕ) (entries : List Descriptor) (c : Call A) (returned : Option (Request × CertificateValue)) (before : Result (Option (Vec Descriptor A)) E) (b : LastBlock A) →
    MatchResult before (λ kept. LeavesBlock true (entries_of kept) returned b) (λ e. b ≡ block.OutOfMemory) → IfOk before (λ kept. entries_of kept ≡ map_before true granule entries c) → LeavesBlock true (map_before true granule entries c) returned b
kept_block granule entries c returned (Ok kept) b h e = subst (λ k. LeavesBlock true k returned b) e h
kept_block granule entries c returned (Err x) b h e = subst (λ k. LeavesBlock true (map_before true granule entries c) returned k) (sym h) refl

-- A call of a core that keeps nothing of the call before.
pub forgotten_makes : {A : Type 0} (old new : EfiCoreValue A) (c : Call A) (answer : Reply A) → Makes (forgotten old) c answer new → Makes old c answer new
forgotten_makes old new c answer m = record { step = m.step; given = m.given; certifies = m.certifies; keeps_replies = m.keeps_replies; block = m.block; last = m.last }
