use Rattle.std.proofs.Common.{◌++◌, arith, append-nil, length-append, sym, ap, ◌∙◌, take}
use Rattle.std.specs.Option.{option_to_list}
use Rattle.guid_handles.specs.Slots.{at_keys}
use Rattle.guid_handles.proofs.SortedLists.{map_append, one_written}
use Rattle.guid_handles.proofs.Filed.{keys_next}
use Rattle.guid_handles.proofs.searches.write_guids.Goals as goal
use Rattle.guid_handles.proofs.searches.write_guids.Goals.{in-Some, in_default}

pub loop-at-preserved : goal.loop-at-preserved
loop-at-preserved g c =
    let next =
    keys_next c.args.records.now.slots c.args.keys.now c.loop-at.at 0 c.loop-at-test.true
    ∙ ap (λ o. at_keys c.args.records.now.slots (take c.loop-at.at c.args.keys.now) ++ option_to_list o) (sym c.interface_at.ensures) in
    elim c.match-interface_at.branch [
      | in-Some w ↦
          let e = rw w.in-Some.is at next in
          rw (w.count-is, w.out-is, e, map_append) record {
            count = rw length-append (omega (arith, c.loop-at.invariant.count));
            bound = omega arith;
            written = rw w.put_guid.ensures (one_written _ _ _ _ _ c.loop-at.invariant.count c.loop-at.invariant.written);
          }
      | in_default w ↦
          let e = rw append-nil at (rw w.in_default.is at next) in
          rw (w.count-is, w.out-is, e) record {
            count = c.loop-at.invariant.count;
            bound = omega arith;
            written = c.loop-at.invariant.written;
          }
    ]
