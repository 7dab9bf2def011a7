use Rattle.std.proofs.Common.{◌≡◌, ℕ, ◌+◌, ◌-◌, ◌*◌, ◌≤◌, true, false, List, [], ◌∷◌, ◌++◌, length, take, drop, refl, sym, subst, ap, ◌∙◌, append_assoc, append-nil, length-append, arith}
use Rattle.std.proofs.lemmas.List.{take_all, take-append-drop, length-drop, length-take-le}
use Rattle.page_ranges.specs.declared.ranges.Descriptor.{Descriptor}
use Rattle.page_ranges.specs.MemoryMap.{should_be_one}
use Rattle.descriptor_table.specs.Tables.{entry_of}
use Rattle.map_keys.specs.Making.{entry_with_run, whole_entries, last_entry, IsAmongPages}
use Rattle.map_keys.specs.Records.{record_of, records}
use Rattle.map_keys.proofs.Fields.{put_from, field_behind}
use Rattle.map_keys.proofs.RecordLists.{records-more}
use Rattle.map_keys.proofs.Making.{whole_more_on, last_more_on, whole_more_apart, last_more_apart, front_length, fits_next, among_on, among_apart}
use Rattle.map_keys.proofs.map_records.write_whole.Goals as goal

pub loop-run-init : goal.loop-run-init
loop-run-init c =
    let n = c.args.place in
    let old = c.args.buffer.now in
    record {
      used = omega arith;
      entry = refl;
      among = c.requires.among;
      written = sym (ap (λ (ys : List ℕ). ys ++ drop n old) (append-nil (take n old)) ∙ take-append-drop n old);
    }

pub goes_on-requires : goal.goes_on-requires
goes_on-requires c = omega (arith, c.loop-run.invariant.among.1)

pub loop-run-preserved-then-goes_on : goal.loop-run-preserved-then-goes_on
loop-run-preserved-then-goes_on c =
    let i = c.loop-run.invariant in
    let rs = c.args.runs.now in
    let k = c.loop-run.run-index in
    let r = c.run-item.result in
    let begun = c.args.begun in
    let one : should_be_one (last_entry begun (take k rs)) (entry_of r) ≡ true = ap (λ (d : Descriptor). should_be_one d (entry_of r)) (sym i.entry) ∙ sym c.goes_on.ensures ∙ c.if-goes_on.true in
    let whole = whole_more_on begun rs k r (omega arith) c.run-item.is one in
    record {
      used = i.used ∙ ap (λ (ds : List Descriptor). c.args.place + 48 * length ds) (sym whole);
      entry = ap (λ (d : Descriptor). entry_with_run d r) i.entry ∙ sym (last_more_on begun rs k r (omega arith) c.run-item.is one);
      among = among_on c.loop-run.entry rs k r (omega arith) c.run-item.is c.requires.ends i.among (sym c.goes_on.ensures ∙ c.if-goes_on.true);
      written = i.written ∙ ap (λ (ds : List Descriptor). take c.args.place c.args.buffer.now ++ records ds ++ drop c.loop-run.used c.args.buffer.now) (sym whole);
    }

pub write_record-requires-clause-within : goal.write_record-requires-clause-within
write_record-requires-clause-within c = c.loop-run.invariant.among.0

pub loop-run-preserved : goal.loop-run-preserved
loop-run-preserved c =
    let i = c.loop-run.invariant in
    let rs = c.args.runs.now in
    let k = c.loop-run.run-index in
    let r = c.run-item.result in
    let begun = c.args.begun in
    let n = c.args.place in
    let old = c.args.buffer.now in
    let used = c.loop-run.used in
    let d = c.loop-run.entry in
    let ds = whole_entries begun (take k rs) in
    let apart : should_be_one (last_entry begun (take k rs)) (entry_of r) ≡ false = ap (λ (d : Descriptor). should_be_one d (entry_of r)) (sym i.entry) ∙ sym c.goes_on.ensures ∙ c.if-goes_on.false in
    let whole = whole_more_apart begun rs k r (omega arith) c.run-item.is apart in
    record {
      used = omega (arith, i.used, ap length whole, length-append ds (last_entry begun (take k rs) ∷ []));
      entry = c.block_of-entry.ensures ∙ sym (last_more_apart begun rs k r (omega arith) c.run-item.is apart);
      among = subst IsAmongPages (sym c.block_of-entry.ensures) (among_apart rs k r (omega arith) c.run-item.is c.requires.runs c.requires.ends);
      written =
          put_from c.loop-run.buffer (record_of d) c.write_record.new.bytes used 48 c.write_record.ensures
          ∙ field_behind old c.loop-run.buffer (take n old ++ records ds) (record_of d) used 48 i.written (front_length old ds n used i.used (omega (arith, c.requires.room)))
          ∙ ap (λ (ys : List ℕ). ys ++ drop (used + 48) old) (append_assoc (take n old) (records ds) (record_of d) ∙ ap (λ (ys : List ℕ). take n old ++ ys) (sym (records-more ds d) ∙ ap (λ (e : Descriptor). records (ds ++ e ∷ [])) i.entry ∙ ap records (sym whole)));
    }

pub returns-clause-used : goal.returns-clause-used
returns-clause-used c = c.loop-run.invariant.used ∙ ap (λ rs. c.args.place + 48 * length (whole_entries c.args.begun rs)) (take_all c.loop-run.run-index c.args.runs.now (omega arith))

pub returns-clause-entry : goal.returns-clause-entry
returns-clause-entry c = c.loop-run.invariant.entry ∙ ap (last_entry c.args.begun) (take_all c.loop-run.run-index c.args.runs.now (omega arith))

pub returns-clause-among : goal.returns-clause-among
returns-clause-among c = c.loop-run.invariant.among

pub returns-clause-buffer : goal.returns-clause-buffer
returns-clause-buffer c = c.loop-run.invariant.written ∙ ap (λ rs. take c.args.place c.args.buffer.now ++ records (whole_entries c.args.begun rs) ++ drop c.loop-run.used c.args.buffer.now) (take_all c.loop-run.run-index c.args.runs.now (omega arith))

-- there is room for the record of the entry that is whole
fits_here : (c : goal.Else-goes_on) → c.loop-run.used + 48 ≤ length c.loop-run.buffer
fits_here c =
    let i = c.loop-run.invariant in
    let rs = c.args.runs.now in
    let k = c.loop-run.run-index in
    let r = c.run-item.result in
    let begun = c.args.begun in
    let apart : should_be_one (last_entry begun (take k rs)) (entry_of r) ≡ false = ap (λ (d : Descriptor). should_be_one d (entry_of r)) (sym i.entry) ∙ sym c.goes_on.ensures ∙ c.if-goes_on.false in
    fits_next c.args.buffer.now c.loop-run.buffer begun rs k r c.args.place c.loop-run.used (omega arith) c.run-item.is apart i.written i.used c.requires.room

pub slice_bounds-write_record-count : goal.slice_bounds-write_record-count
slice_bounds-write_record-count c = omega (arith, fits_here c)

pub slice_bounds-write_record-start : goal.slice_bounds-write_record-start
slice_bounds-write_record-start c = omega (arith, fits_here c)

pub write_record-requires-clause-room : goal.write_record-requires-clause-room
write_record-requires-clause-room c =
    let xs = c.loop-run.buffer in
    let n = c.loop-run.used in
    let rest = length-drop n xs in
    omega (arith, fits_here c.before.before, rest, length-take-le (length xs - n) (drop n xs) (omega (arith, rest)))
