use Rattle.std.proofs.Common.{◌≡◌, ◌∷◌, ◌∙◌, ap, sym, arith}
use Rattle.std.specs.Slice.Iter.{chunks_exact_rest}
use Rattle.c_machines.specs.MachineRecords.{is_aligned, records_in, run_in}
use Rattle.c_machines.proofs.Elements.{one_less, refused, none_left, passed, not_passed}
use Rattle.c_machines.proofs.Records.{first_record, no_record, no_records, some_records}
use Rattle.c_machines.proofs.machines.runs_of.Goals as goal

pub returns-in-None-run_in : goal.returns-in-None-run_in
returns-in-None-run_in g c =
    let s = c.in-Some.ensures.steps in
    let i = c.loop-record.invariant in
    let size = c.args.size in
    let bytes = c.args.records.now in
    let chunk = c.in-Some.record.now in
    let rest = chunks_exact_rest c.next.new.self in
    let next : records_in size (chunks_exact_rest c.loop-record.record-iterator) ≡ chunk ∷ records_in size rest = ap (records_in size) s.1.0 ∙ first_record size chunk rest (omega (arith, c.if-size-lt-LEAST_SIZE.false)) (s.1.1 ∙ i.size) in
    let fails = not_passed (is_aligned chunk) (run_in chunk) (sym c.in-None-run_in.is ∙ c.run_in.ensures) in
    no_records size bytes (omega (arith, c.if-size-lt-LEAST_SIZE.false)) (omega (arith, c.if-records-size-ne0.false)) (omega (arith, c.if-records-size-gt-MAX_DESCRIPTORS.false))
    (refused run_in is_aligned (records_in size bytes) c.loop-record.runs.items chunk (records_in size rest) fails (rw next at i.left))

pub loop-record-preserved : goal.loop-record-preserved
loop-record-preserved g c =
    let s = c.in-Some.ensures.steps in
    let i = c.loop-record.invariant in
    let size = c.args.size in
    let bytes = c.args.records.now in
    let chunk = c.in-Some.record.now in
    let rest = chunks_exact_rest c.next.new.self in
    let next : records_in size (chunks_exact_rest c.loop-record.record-iterator) ≡ chunk ∷ records_in size rest = ap (records_in size) s.1.0 ∙ first_record size chunk rest (omega (arith, c.if-size-lt-LEAST_SIZE.false)) (s.1.1 ∙ i.size) in
    let passes = passed (is_aligned chunk) (run_in chunk) c.in-Some-run_in.run' (sym c.in-Some-run_in.is ∙ c.run_in.ensures) in
    record {
      size = s.0 ∙ i.size;
      left =
          let more = one_less run_in is_aligned (records_in size bytes) c.loop-record.runs.items chunk (records_in size rest) passes.0 (rw next at i.left) in
          rw (c.in_ok-push-in-Some-run_in.ensures.items, passes.1) more;
    }

pub returns : goal.returns
returns g c =
    let s = c.in-None.ensures.steps in
    let i = c.loop-record.invariant in
    let rest = chunks_exact_rest c.loop-record.record-iterator in
    let none = no_record c.args.size rest (omega (arith, s.1.0, i.size)) in
    let all = none_left run_in is_aligned (records_in c.args.size c.args.records.now) c.loop-record.runs.items (rw none at i.left) in
    (some_records c.args.size c.args.records.now (omega (arith, c.if-size-lt-LEAST_SIZE.false)) (omega (arith, c.if-records-size-ne0.false)) (omega (arith, c.if-records-size-gt-MAX_DESCRIPTORS.false)) all.0, all.1)
