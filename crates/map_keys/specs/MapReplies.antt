-- What GetMemoryMap returns, and what it leaves in the buffer.
use Rattle.std.specs.Prelude.{ℕ, ◌*◌, nat_le, List, length, if◌then◌else◌}
use Rattle.page_ranges.specs.declared.statuses.Status.TheVariants.{Success, BufferTooSmall}
use Rattle.page_ranges.specs.MemoryMap.{memory_map}
use Rattle.page_services.specs.PageRules.{Book}
use Rattle.map_keys.specs.declared.memory_maps.MapReply.{MapReply}
use Rattle.map_keys.specs.Making.{with_records}
use Rattle.map_keys.specs.Records.{record_size}

-- the version of the memory descriptors
abbrev pub descriptor_version : ℕ
descriptor_version = 1

-- the bytes that the records of the book's memory map take
abbrev pub map_size : Book → ℕ
map_size b = record_size * length (memory_map b.memory)

-- The reply to a buffer of a size in bytes: the size used, the key, the size of a record and the
-- version; where the buffer is too small, the size needed and no other field.
abbrev pub map_reply : Book → ℕ → MapReply
map_reply b room =
    if nat_le (map_size b) room
    then record {
      status = Success;
      size = map_size b;
      key = b.key;
      descriptor_size = record_size;
      version = descriptor_version;
    }
    else record {
      status = BufferTooSmall;
      size = map_size b;
      key = 0;
      descriptor_size = 0;
      version = 0;
    }

-- The buffer after that: the records of the map in its front and the rest as it was; all of it as
-- it was where it is too small.
abbrev pub buffer_with_map : Book → List ℕ → List ℕ
buffer_with_map b buffer =
    if nat_le (map_size b) (length buffer)
    then with_records (memory_map b.memory) buffer
    else buffer
