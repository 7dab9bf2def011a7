-- A core as a caller in C has it.
use Rattle.std.specs.Prelude.{◌≡◌, ℕ, Bool, true, false, List, map, Option, Some, option_map, Result, MatchResult, Vec}
use Rattle.std.specs.declared.alloc.AllocError.{AllocError}
use Rattle.std.specs.List.{list_all}
use Rattle.page_ranges.specs.declared.ranges.Descriptor.{Descriptor}
use Rattle.placement_certificate.specs.declared.certificates.Request.{Request}
use Rattle.placement_certificate.specs.Certificates.{CertificateValue}
use Rattle.certificate_blocks.specs.BlockText.{block_text}
use Rattle.driver_connect.specs.Drivers.{Meaning, is_free}
use Rattle.driver_connect.specs.declared.table.TableDriver.{TableDriver}
use Rattle.boot_replies.specs.declared.replies.Reply.{Reply}
use Rattle.boot_core.specs.Machines.{CoreValue, certifying_state, preparing_state}
use Rattle.c_interface.specs.declared.efi_core.LastBlock.{LastBlock}
use Rattle.c_interface.specs.declared.efi_core.LastBlock.TheVariants as block
use Rattle.c_interface.specs.LastCalls.{Left, left_of, nothing_left}

-- the core, whether the certificates of its placements are kept as blocks of text and whether
-- replies are kept, and what the last call left to be asked for, with its block
pub record EfiCoreValue (A : Type 0) : Type 0 where
  pub core : CoreValue TableDriver
  pub certifies : Bool
  pub keeps_replies : Bool
  pub last : Left A
  pub block : LastBlock A

-- a core before any call, which keeps neither replies nor certificates
abbrev pub unused_core : {A : Type 0} → CoreValue TableDriver → EfiCoreValue A
unused_core core = record {
  core = core;
  certifies = false;
  keeps_replies = false;
  last = nothing_left;
  block = block.Nothing;
}

-- the same of another core
abbrev pub with_core : {A : Type 0} → EfiCoreValue A → CoreValue TableDriver → EfiCoreValue A
with_core c core = record {
  core = core;
  certifies = c.certifies;
  keeps_replies = c.keeps_replies;
  last = c.last;
  block = c.block;
}

-- the same core with another block
abbrev pub with_block : {A : Type 0} → EfiCoreValue A → LastBlock A → EfiCoreValue A
with_block c left = record {
  core = c.core;
  certifies = c.certifies;
  keeps_replies = c.keeps_replies;
  last = c.last;
  block = left;
}

-- the same core, which from now on makes the certificates of its placements and keeps their blocks,
-- or makes none
abbrev pub certifying_core : {A : Type 0} → Bool → EfiCoreValue A → EfiCoreValue A
certifying_core certifies c = record {
  core = record { state = certifying_state certifies c.core.state; given = c.core.given };
  certifies = certifies;
  keeps_replies = c.keeps_replies;
  last = c.last;
  block = c.block;
}

-- the same core, which from now on records replies, or records none
abbrev pub recording_core : {A : Type 0} → Bool → EfiCoreValue A → EfiCoreValue A
recording_core keeps_replies c = record {
  core = c.core;
  certifies = c.certifies;
  keeps_replies = keeps_replies;
  last = c.last;
  block = c.block;
}

-- the same core, with memory reserved ahead for a number of placements more, and for the frees of
-- what they place
abbrev pub preparing_core : {A : Type 0} → ℕ → EfiCoreValue A → EfiCoreValue A
preparing_core placements c =
    with_core c (record { state = preparing_state placements c.core.state; given = c.core.given })

-- the same core, with what is left of a call that has this reply
abbrev pub with_reply : {A : Type 0} → EfiCoreValue A → Reply A → EfiCoreValue A
with_reply c answer = record {
  core = c.core;
  certifies = c.certifies;
  keeps_replies = c.keeps_replies;
  last = left_of c.keeps_replies answer;
  block = c.block;
}

-- what a driver with fixed answers means
abbrev pub table_meaning : TableDriver → Meaning
table_meaning d =
    record {
      version = d.version;
      supports = λ s. list_all
          (is_free s.protocols) d.needs.items;
      plan = λ s. d.plan;
      may_stop = λ s. d.stops;
    }

-- what the drivers of a core mean
abbrev pub meanings : {A : Type 0} → EfiCoreValue A → List Meaning
meanings c = map table_meaning c.core.given.drivers

-- What is left of a call, where the memory map before it was kept and its reply carries a
-- certificate for a request: their block. Where no map was kept, or there is no certificate,
-- nothing is left. Memory may run out where certificates are kept.
abbrev pub LeavesBlock : {A : Type 0} → Bool → Option (List Descriptor)
    → Option (Request × CertificateValue) → LastBlock A → Type 0
LeavesBlock certifies kept returned block.OutOfMemory = certifies ≡ true
LeavesBlock certifies (Some entries) (Some (r, certificate)) (block.Text bytes) =
    bytes.items ≡ block_text entries r certificate
LeavesBlock certifies kept returned (block.Text bytes) = ⊥
LeavesBlock certifies (Some entries) (Some returned) block.Nothing = ⊥
LeavesBlock certifies kept returned block.Nothing = Unit {0}

-- The same where certificates are kept, after the map was to be kept, for which memory may run out.
abbrev pub KeepsBlock : {A : Type 0} → Result (Option (Vec Descriptor A)) AllocError
    → Option (Request × CertificateValue) → LastBlock A → Type 0
KeepsBlock before returned left =
    MatchResult before
    (λ kept. LeavesBlock true (option_map (λ entries. entries.items) kept) returned left)
    (λ e. left ≡ block.OutOfMemory)

-- a core with nothing left of a call
abbrev pub forgotten : {A : Type 0} → EfiCoreValue A → EfiCoreValue A
forgotten c = record {
  core = c.core;
  certifies = c.certifies;
  keeps_replies = c.keeps_replies;
  last = nothing_left;
  block = block.Nothing;
}
