use Rattle.std.proofs.Common.{◌≡◌, ◌*◌, ◌<◌, ◌≤◌, ◌++◌, ℕ, List, length, drop, ap, ◌∙◌, arith, rules}
use Rattle.page_ranges.specs.declared.statuses.Status.TheVariants.{Success, BufferTooSmall}
use Rattle.page_ranges.specs.MemoryMap.{memory_map}
use Rattle.page_services.specs.PageRules.{Book}
use Rattle.map_keys.specs.MapReplies.{map_reply, buffer_with_map}
use Rattle.page_ranges.specs.Memory.{Page}
use Rattle.map_keys.specs.Records.{records}
use Rattle.map_keys.proofs.Bounds.{few_entries_of}
use Rattle.map_keys.proofs.memory_maps.get_memory_map.Goals as goal

-- the reply where the map fits, and where it does not
reply : (b : Book) (m : List Page) (n key room : ℕ) → m ≡ b.memory → n ≡ length (memory_map m) → n * 48 ≤ room → key ≡ b.key
    → record { status = Success; size = n * 48; key = key; descriptor_size = 48; version = 1 } ≡ map_reply b room
reply b m n key room e f h k = search rules

reply_too_small : (b : Book) (m : List Page) (n room : ℕ) → m ≡ b.memory → n ≡ length (memory_map m) → room < n * 48
    → record { status = BufferTooSmall; size = n * 48; key = 0; descriptor_size = 0; version = 0 } ≡ map_reply b room
reply_too_small b m n room e f h = search rules

-- the buffer where the map fits
written : (b : Book) (old new : List ℕ) → 48 * length (memory_map b.memory) ≤ length old
    → new ≡ records (memory_map b.memory) ++ drop (48 * length (memory_map b.memory)) old → new ≡ buffer_with_map b old
written b old new h e = search rules

pub overflow_mul-size : goal.overflow_mul-size
overflow_mul-size g c = omega (arith, c.descriptors-size.ensures.count, few_entries_of c.table-table.result.now.pages c.descriptors-size.ensures.proper)

pub write_map-requires-clause-room : goal.write_map-requires-clause-room
write_map-requires-clause-room g c = omega (arith, c.descriptors-size.ensures.count, c.if-buffer-size.false, ap (λ (m : List Page). length (memory_map m)) c.leaves.ensures.memory)

pub returns-clause-buffer : goal.returns-clause-buffer
returns-clause-buffer g c =
    let same = c.leaves.ensures.memory ∙ c.table-table.ensures in
    let size : 48 * length (memory_map c.args.book.now.memory) ≤ length c.args.buffer.now = omega (arith, c.descriptors-size.ensures.count, c.if-buffer-size.false, ap (λ (m : List Page). length (memory_map m)) c.table-table.ensures) in
    written c.args.book.now c.args.buffer.now c.write_map.new.buffer size (rw same at c.write_map.ensures)

pub returns-clause-reply : goal.returns-clause-reply
returns-clause-reply g c = reply c.args.book.now c.table-table.result.now.pages c.descriptors-size.result c.key.result (length c.args.buffer.now) c.table-table.ensures c.descriptors-size.ensures.count c.if-buffer-size.false c.key.ensures

pub returns-then-buffer-size-clause-reply : goal.returns-then-buffer-size-clause-reply
returns-then-buffer-size-clause-reply g c = reply_too_small c.args.book.now c.table-table.result.now.pages c.descriptors-size.result (length c.args.buffer.now) c.table-table.ensures c.descriptors-size.ensures.count c.if-buffer-size.true
