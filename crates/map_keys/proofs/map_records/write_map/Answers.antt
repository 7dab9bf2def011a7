use Rattle.std.proofs.Common.{◌≡◌, ℕ, ◌+◌, ◌-◌, ◌*◌, ◌≤◌, List, ◌++◌, length, take, drop, get_or, refl, sym, subst, ap, ◌∙◌, length-append, arith}
use Rattle.std.proofs.lemmas.Grind.{flat_map-append}
use Rattle.std.proofs.lemmas.List.{take_all, length-drop, length-take-le}
use Rattle.page_ranges.specs.declared.ranges.Descriptor.{Descriptor}
use Rattle.page_ranges.specs.declared.ranges.Run.{Run}
use Rattle.page_ranges.specs.MemoryTypes.{page_count}
use Rattle.page_ranges.specs.MemoryMap.{memory_map}
use Rattle.page_ranges.specs.Runs.{pages_of}
use Rattle.descriptor_table.specs.Leaves.{runs_in}
use Rattle.descriptor_table.proofs.LeafLists.{leaf_runs, leaf_all}
use Rattle.map_keys.specs.Making.{whole_entries, last_entry, IsAmongPages}
use Rattle.map_keys.specs.Records.{record_of, records}
use Rattle.map_keys.proofs.Fields.{put_from, field_behind}
use Rattle.map_keys.proofs.RecordLists.{length_records}
use Rattle.map_keys.proofs.Making.{made, leaves_made, leaves_among, whole_leaf, last_leaf, leaf_within, made_length, written_length, last_fits, all_written}
use Rattle.map_keys.proofs.map_records.write_map.Given.{Over}
use Rattle.map_keys.proofs.map_records.write_map.Goals as goal

-- an entry of no pages that begins as another one
abbrev empty : Descriptor → Descriptor
empty d = record { mtype = d.mtype; first = d.first; pages = 0; attributes = d.attributes }

pub loop-leaf-init : goal.loop-leaf-init
loop-leaf-init g c =
    let first = c.index-runs-0.result in
    let at = c.index-runs-0.is ∙ ap (λ rs. get_or rs 0 first) c.runs.ensures in
    record {
      used = refl;
      entry = refl;
      among = subst IsAmongPages (sym (ap empty c.block_of.ensures)) (leaves_among c.args.leaves.now c.in-Some.leaf.now first (sym c.in-Some.ensures.value) c.requires.leaves at c.requires.runs c.requires.ends);
      written = refl;
    }

pub write_whole-next-requires-clause-runs : goal.write_whole-next-requires-clause-runs
write_whole-next-requires-clause-runs g c = rw (c.runs-in-loop-leaf.ensures ∙ c.leaf-item.is) (leaf_runs c.args.leaves.now c.loop-leaf.leaf-index c.leaf-item.result c.requires.runs (omega arith))

pub write_whole-next-requires-clause-ends : goal.write_whole-next-requires-clause-ends
write_whole-next-requires-clause-ends g c = rw (c.runs-in-loop-leaf.ensures ∙ c.leaf-item.is) (leaf_all (λ r. r.range.first + r.range.pages ≤ page_count) c.args.leaves.now c.loop-leaf.leaf-index c.leaf-item.result c.requires.ends (omega arith))

pub write_whole-next-requires-clause-room : goal.write_whole-next-requires-clause-room
write_whole-next-requires-clause-room g c =
    let old = c.args.buffer.now in
    let ls = c.args.leaves.now in
    let all = runs_in ls in
    let first = c.index-runs-0.result in
    let at = c.index-runs-0.is ∙ ap (λ rs. get_or rs 0 first) c.runs.ensures in
    let d0 = empty c.block_of.result in
    let total : memory_map (pages_of all) ≡ made d0 all = leaves_made ls c.in-Some.leaf.now first (sym c.in-Some.ensures.value) c.requires.leaves at c.requires.runs ∙ ap (λ (d : Descriptor). made d all) (sym (ap empty c.block_of.ensures)) in
    let whole = made_length d0 all in
    let i = c.loop-leaf.invariant in
    let k = c.loop-leaf.leaf-index in
    let l = c.leaf-item.result in
    let rs = c.runs-in-loop-leaf.result.now in
    let buffer = c.loop-leaf.buffer in
    let used = c.loop-leaf.used in
    let d = c.loop-leaf.entry in
    let ws = whole_entries d0 (runs_in (take k ls)) in
    let es = whole_entries d rs in
    let last = last_entry d0 (runs_in (take k ls)) in
    let moved : es ≡ whole_entries last l = ap (λ (e : Descriptor). whole_entries e rs) i.entry ∙ ap (whole_entries last) c.runs-in-loop-leaf.ensures in
    let within = leaf_within d0 ls k l (omega arith) c.leaf-item.is in
    let long = written_length old buffer ws 0 used i.written (omega (arith, i.used)) (omega (arith, i.used, within, whole, ap length total, c.requires.room)) in
    omega (arith, i.used, within, ap length moved, whole, ap length total, long, c.requires.room)

pub loop-leaf-preserved : goal.loop-leaf-preserved
loop-leaf-preserved g c =
    let old = c.args.buffer.now in
    let ls = c.args.leaves.now in
    let d0 = empty c.block_of.result in
    let i = c.loop-leaf.invariant in
    let k = c.loop-leaf.leaf-index in
    let l = c.leaf-item.result in
    let rs = c.runs-in-loop-leaf.result.now in
    let buffer = c.loop-leaf.buffer in
    let used = c.loop-leaf.used in
    let d = c.loop-leaf.entry in
    let ws = whole_entries d0 (runs_in (take k ls)) in
    let es = whole_entries d rs in
    let last = last_entry d0 (runs_in (take k ls)) in
    let moved : es ≡ whole_entries last l = ap (λ (e : Descriptor). whole_entries e rs) i.entry ∙ ap (whole_entries last) c.runs-in-loop-leaf.ensures in
    let more : whole_entries d0 (runs_in (take (k + 1) ls)) ≡ ws ++ es = whole_leaf d0 ls k l (omega arith) c.leaf-item.is ∙ ap (λ (xs : List Descriptor). ws ++ xs) (sym moved) in
    let w = c.write_whole-next.ensures in
    let n = c.write_whole-next.result.0 in
    record {
      used = omega (arith, w.used, i.used, ap length more, length-append ws es);
      entry = w.entry ∙ ap (λ (e : Descriptor). last_entry e rs) i.entry ∙ ap (last_entry last) c.runs-in-loop-leaf.ensures ∙ sym (last_leaf d0 ls k l (omega arith) c.leaf-item.is);
      among = w.among;
      written =
          w.buffer
          ∙ ap (λ (m : ℕ). take used buffer ++ records es ++ drop m buffer) w.used
          ∙ field_behind old buffer (records ws) (records es) used (48 * length es) i.written (length_records ws ∙ sym i.used)
          ∙ ap (λ (m : ℕ). records ws ++ records es ++ drop m old) (sym w.used)
          ∙ ap (λ (ys : List ℕ). ys ++ drop n old) (sym (flat_map-append record_of ws es) ∙ ap records (sym more));
    }

pub returns : goal.returns
returns g c =
    let old = c.args.buffer.now in
    let ls = c.args.leaves.now in
    let all = runs_in ls in
    let first = c.index-runs-0.result in
    let at = c.index-runs-0.is ∙ ap (λ rs. get_or rs 0 first) c.runs.ensures in
    let d0 = empty c.block_of.result in
    let total : memory_map (pages_of all) ≡ made d0 all = leaves_made ls c.in-Some.leaf.now first (sym c.in-Some.ensures.value) c.requires.leaves at c.requires.runs ∙ ap (λ (d : Descriptor). made d all) (sym (ap empty c.block_of.ensures)) in
    let i = c.loop-leaf.invariant in
    let k = c.loop-leaf.leaf-index in
    let buffer = c.loop-leaf.buffer in
    let used = c.loop-leaf.used in
    let ws = whole_entries d0 (runs_in (take k ls)) in
    let every : take k ls ≡ ls = take_all k ls (omega arith) in
    let entries = ap (λ (ms : List (List Run)). whole_entries d0 (runs_in ms)) every in
    let d = c.loop-leaf.entry in
    let wrote = put_from buffer (record_of d) c.write_record.new.bytes used 48 c.write_record.ensures ∙ field_behind old buffer (records ws) (record_of d) used 48 i.written (length_records ws ∙ sym i.used) in
    all_written old _ d0 d all (memory_map (pages_of all)) ws used total entries (i.entry ∙ ap (λ (ms : List (List Run)). last_entry d0 (runs_in ms)) every) i.used wrote

-- there is room for the last record
fits_here : (g : Over) (c : goal.After-loop-leaf g) → c.loop-leaf.used + 48 ≤ length c.loop-leaf.buffer
fits_here g c =
    let old = c.args.buffer.now in
    let ls = c.args.leaves.now in
    let all = runs_in ls in
    let first = c.index-runs-0.result in
    let at = c.index-runs-0.is ∙ ap (λ rs. get_or rs 0 first) c.runs.ensures in
    let d0 = empty c.block_of.result in
    let total : memory_map (pages_of all) ≡ made d0 all = leaves_made ls c.in-Some.leaf.now first (sym c.in-Some.ensures.value) c.requires.leaves at c.requires.runs ∙ ap (λ (d : Descriptor). made d all) (sym (ap empty c.block_of.ensures)) in
    let i = c.loop-leaf.invariant in
    let k = c.loop-leaf.leaf-index in
    let buffer = c.loop-leaf.buffer in
    let used = c.loop-leaf.used in
    let ws = whole_entries d0 (runs_in (take k ls)) in
    let every : take k ls ≡ ls = take_all k ls (omega arith) in
    let entries = ap (λ (ms : List (List Run)). whole_entries d0 (runs_in ms)) every in
    last_fits old buffer d0 all (memory_map (pages_of all)) ws used total entries i.used i.written c.requires.room

pub slice_bounds-write_record-count : goal.slice_bounds-write_record-count
slice_bounds-write_record-count g c = omega (arith, fits_here g c)

pub slice_bounds-write_record-start : goal.slice_bounds-write_record-start
slice_bounds-write_record-start g c = omega (arith, fits_here g c)

pub write_record-requires-clause-room : goal.write_record-requires-clause-room
write_record-requires-clause-room g c =
    let buffer = c.loop-leaf.buffer in
    let used = c.loop-leaf.used in
    let rest = length-drop used buffer in
    omega (arith, fits_here g c.before.before, rest, length-take-le (length buffer - used) (drop used buffer) (omega (arith, rest)))
