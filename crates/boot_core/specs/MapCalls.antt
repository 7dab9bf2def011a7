-- What GetMemoryMap returns through a call, with a buffer that the core makes.
use Rattle.std.specs.Prelude.{◌≡◌, ◌⊎◌, ℕ, ◌<◌, ◌≤◌, nat_le, List, [], if◌then◌else◌}
use Rattle.page_ranges.specs.declared.statuses.Status.{Status}
use Rattle.page_ranges.specs.declared.statuses.Status.TheVariants.{OutOfResources}
use Rattle.page_ranges.specs.MemoryMap.{memory_map}
use Rattle.page_services.specs.PageRules.{Book}
use Rattle.map_keys.specs.declared.memory_maps.MapReply.{MapReply}
use Rattle.map_keys.specs.MapReplies.{map_size, map_reply}
use Rattle.map_keys.specs.Records.{records}

-- a reply with a status and no other field
abbrev pub refused_map : Status → MapReply
refused_map status = record { status = status; size = 0; key = 0; descriptor_size = 0; version = 0 }

-- the bytes that are used of a buffer of a size: the records of the map, where it fits
abbrev pub map_bytes : Book → ℕ → List ℕ
map_bytes b room = if nat_le (map_size b) room then records (memory_map b.memory) else []

-- how many bytes these are
abbrev pub room_for_map : Book → ℕ → ℕ
room_for_map b room = if nat_le (map_size b) room then map_size b else 0

-- What is returned of a buffer of a size, with the bytes that are used of it. Memory for the
-- core's own buffer may run out where the map has entries and fits, and nowhere else.
abbrev pub AnswersMap : Book → ℕ → MapReply → List ℕ → Type 0
AnswersMap b room returned bytes =
    ((returned ≡ map_reply b room) × (bytes ≡ map_bytes b room))
    ⊎ ((0 < map_size b) × (map_size b ≤ room) × (returned ≡ refused_map OutOfResources)
    × (bytes ≡ []))
