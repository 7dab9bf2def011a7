use Rattle.std.proofs.Common.{Ok, Err, None, refl}
use Rattle.certificate_blocks.specs.declared.reader.Block.{Block}
use Rattle.certificate_blocks.specs.BlockReads.{lines_left}
use Rattle.certificate_blocks.proofs.BlockSteps.{handed_on}
use Rattle.certificate_blocks.proofs.BlockParts as part
use Rattle.certificate_blocks.proofs.reader.BlockReader.block.Goals as goal

pub returns-in_err-name : goal.returns-in_err-name
returns-in_err-name g c =
    rw (handed_on c.from_residual.result c.in_err-name.field-0.0 c.from_residual.ensures)
    (part.whole g.S.ByteSource.can_fail (λ (b : Block g.row.A.Denot). (b.map.items, b.request, b.certificate)) (Err c.in_err-name.field-0.0) (lines_left (g.S.ByteSource.left c.args.self.now.source) c.args.self.now.number) None
    (part.head_failed g.S.ByteSource.can_fail (λ (b : Block g.row.A.Denot). (b.map.items, b.request, b.certificate)) (lines_left (g.S.ByteSource.left c.args.self.now.source) c.args.self.now.number) (lines_left (g.S.ByteSource.left c.name.new.self.source) c.name.new.self.number) c.in_err-name.field-0.0 c.in_err-name.ensures))

pub returns-in_err-entry_count : goal.returns-in_err-entry_count
returns-in_err-entry_count g c =
    rw (handed_on c.from_residual-in_err-entry_count.result c.in_err-entry_count.field-0.0 c.from_residual-in_err-entry_count.ensures)
    (part.whole g.S.ByteSource.can_fail (λ (b : Block g.row.A.Denot). (b.map.items, b.request, b.certificate)) (Err c.in_err-entry_count.field-0.0) (lines_left (g.S.ByteSource.left c.args.self.now.source) c.args.self.now.number) None
    (part.head_then g.S.ByteSource.can_fail (λ (b : Block g.row.A.Denot). (b.map.items, b.request, b.certificate)) (Err c.in_err-entry_count.field-0.0) None (lines_left (g.S.ByteSource.left c.args.self.now.source) c.args.self.now.number) (lines_left (g.S.ByteSource.left c.name.new.self.source) c.name.new.self.number) tt c.in_ok-name.ensures
    (part.entry_count_failed g.S.ByteSource.can_fail (λ (b : Block g.row.A.Denot). (b.map.items, b.request, b.certificate)) (lines_left (g.S.ByteSource.left c.name.new.self.source) c.name.new.self.number) (lines_left (g.S.ByteSource.left c.number_after.new.self.source) c.number_after.new.self.number) c.in_err-entry_count.field-0.0 c.in_err-entry_count.ensures)))

pub returns-in_err-map : goal.returns-in_err-map
returns-in_err-map g c =
    rw (handed_on c.from_residual-in_err-map.result c.in_err-map.field-0.0 c.from_residual-in_err-map.ensures)
    (part.whole g.S.ByteSource.can_fail (λ (b : Block g.row.A.Denot). (b.map.items, b.request, b.certificate)) (Err c.in_err-map.field-0.0) (lines_left (g.S.ByteSource.left c.args.self.now.source) c.args.self.now.number) None
    (part.head_then g.S.ByteSource.can_fail (λ (b : Block g.row.A.Denot). (b.map.items, b.request, b.certificate)) (Err c.in_err-map.field-0.0) None (lines_left (g.S.ByteSource.left c.args.self.now.source) c.args.self.now.number) (lines_left (g.S.ByteSource.left c.name.new.self.source) c.name.new.self.number) tt c.in_ok-name.ensures
    (part.entry_count_then g.S.ByteSource.can_fail (λ (b : Block g.row.A.Denot). (b.map.items, b.request, b.certificate)) (Err c.in_err-map.field-0.0) None (lines_left (g.S.ByteSource.left c.name.new.self.source) c.name.new.self.number) (lines_left (g.S.ByteSource.left c.number_after.new.self.source) c.number_after.new.self.number) c.in_ok-entry_count.entry_count c.in_ok-entry_count.ensures
    (part.entries_failed g.S.ByteSource.can_fail (λ (b : Block g.row.A.Denot). (b.map.items, b.request, b.certificate)) g.row.A.Denot c.in_ok-entry_count.entry_count (lines_left (g.S.ByteSource.left c.number_after.new.self.source) c.number_after.new.self.number) (lines_left (g.S.ByteSource.left c.entries.new.self.source) c.entries.new.self.number) c.in_err-map.field-0.0 c.in_err-map.ensures))))

pub returns-in_err-request : goal.returns-in_err-request
returns-in_err-request g c =
    rw (handed_on c.from_residual-in_err-request.result c.in_err-request.field-0.0 c.from_residual-in_err-request.ensures)
    (part.whole g.S.ByteSource.can_fail (λ (b : Block g.row.A.Denot). (b.map.items, b.request, b.certificate)) (Err c.in_err-request.field-0.0) (lines_left (g.S.ByteSource.left c.args.self.now.source) c.args.self.now.number) None
    (part.head_then g.S.ByteSource.can_fail (λ (b : Block g.row.A.Denot). (b.map.items, b.request, b.certificate)) (Err c.in_err-request.field-0.0) None (lines_left (g.S.ByteSource.left c.args.self.now.source) c.args.self.now.number) (lines_left (g.S.ByteSource.left c.name.new.self.source) c.name.new.self.number) tt c.in_ok-name.ensures
    (part.entry_count_then g.S.ByteSource.can_fail (λ (b : Block g.row.A.Denot). (b.map.items, b.request, b.certificate)) (Err c.in_err-request.field-0.0) None (lines_left (g.S.ByteSource.left c.name.new.self.source) c.name.new.self.number) (lines_left (g.S.ByteSource.left c.number_after.new.self.source) c.number_after.new.self.number) c.in_ok-entry_count.entry_count c.in_ok-entry_count.ensures
    (part.entries_then g.S.ByteSource.can_fail (λ (b : Block g.row.A.Denot). (b.map.items, b.request, b.certificate)) (Err c.in_err-request.field-0.0) None g.row.A.Denot c.in_ok-entry_count.entry_count (lines_left (g.S.ByteSource.left c.number_after.new.self.source) c.number_after.new.self.number) (lines_left (g.S.ByteSource.left c.entries.new.self.source) c.entries.new.self.number) c.in_ok-map.map c.in_ok-map.ensures
    (part.request_failed g.S.ByteSource.can_fail (λ (b : Block g.row.A.Denot). (b.map.items, b.request, b.certificate)) c.in_ok-map.map.items (lines_left (g.S.ByteSource.left c.entries.new.self.source) c.entries.new.self.number) (lines_left (g.S.ByteSource.left c.request.new.self.source) c.request.new.self.number) c.in_err-request.field-0.0 c.in_err-request.ensures)))))

pub returns-in_err-bound_count : goal.returns-in_err-bound_count
returns-in_err-bound_count g c =
    rw (handed_on c.from_residual-in_err-bound_count.result c.in_err-bound_count.field-0.0 c.from_residual-in_err-bound_count.ensures)
    (part.whole g.S.ByteSource.can_fail (λ (b : Block g.row.A.Denot). (b.map.items, b.request, b.certificate)) (Err c.in_err-bound_count.field-0.0) (lines_left (g.S.ByteSource.left c.args.self.now.source) c.args.self.now.number) None
    (part.head_then g.S.ByteSource.can_fail (λ (b : Block g.row.A.Denot). (b.map.items, b.request, b.certificate)) (Err c.in_err-bound_count.field-0.0) None (lines_left (g.S.ByteSource.left c.args.self.now.source) c.args.self.now.number) (lines_left (g.S.ByteSource.left c.name.new.self.source) c.name.new.self.number) tt c.in_ok-name.ensures
    (part.entry_count_then g.S.ByteSource.can_fail (λ (b : Block g.row.A.Denot). (b.map.items, b.request, b.certificate)) (Err c.in_err-bound_count.field-0.0) None (lines_left (g.S.ByteSource.left c.name.new.self.source) c.name.new.self.number) (lines_left (g.S.ByteSource.left c.number_after.new.self.source) c.number_after.new.self.number) c.in_ok-entry_count.entry_count c.in_ok-entry_count.ensures
    (part.entries_then g.S.ByteSource.can_fail (λ (b : Block g.row.A.Denot). (b.map.items, b.request, b.certificate)) (Err c.in_err-bound_count.field-0.0) None g.row.A.Denot c.in_ok-entry_count.entry_count (lines_left (g.S.ByteSource.left c.number_after.new.self.source) c.number_after.new.self.number) (lines_left (g.S.ByteSource.left c.entries.new.self.source) c.entries.new.self.number) c.in_ok-map.map c.in_ok-map.ensures
    (part.request_then g.S.ByteSource.can_fail (λ (b : Block g.row.A.Denot). (b.map.items, b.request, b.certificate)) (Err c.in_err-bound_count.field-0.0) None c.in_ok-map.map.items (lines_left (g.S.ByteSource.left c.entries.new.self.source) c.entries.new.self.number) (lines_left (g.S.ByteSource.left c.request.new.self.source) c.request.new.self.number) c.in_ok-request.request c.in_ok-request.ensures
    (part.bound_count_failed g.S.ByteSource.can_fail (λ (b : Block g.row.A.Denot). (b.map.items, b.request, b.certificate)) c.in_ok-map.map.items c.in_ok-request.request (lines_left (g.S.ByteSource.left c.request.new.self.source) c.request.new.self.number) (lines_left (g.S.ByteSource.left c.number_after-2.new.self.source) c.number_after-2.new.self.number) c.in_err-bound_count.field-0.0 c.in_err-bound_count.ensures))))))

pub returns-in_err-bounds : goal.returns-in_err-bounds
returns-in_err-bounds g c =
    rw (handed_on c.from_residual-in_err-bounds.result c.in_err-bounds.field-0.0 c.from_residual-in_err-bounds.ensures)
    (part.whole g.S.ByteSource.can_fail (λ (b : Block g.row.A.Denot). (b.map.items, b.request, b.certificate)) (Err c.in_err-bounds.field-0.0) (lines_left (g.S.ByteSource.left c.args.self.now.source) c.args.self.now.number) None
    (part.head_then g.S.ByteSource.can_fail (λ (b : Block g.row.A.Denot). (b.map.items, b.request, b.certificate)) (Err c.in_err-bounds.field-0.0) None (lines_left (g.S.ByteSource.left c.args.self.now.source) c.args.self.now.number) (lines_left (g.S.ByteSource.left c.name.new.self.source) c.name.new.self.number) tt c.in_ok-name.ensures
    (part.entry_count_then g.S.ByteSource.can_fail (λ (b : Block g.row.A.Denot). (b.map.items, b.request, b.certificate)) (Err c.in_err-bounds.field-0.0) None (lines_left (g.S.ByteSource.left c.name.new.self.source) c.name.new.self.number) (lines_left (g.S.ByteSource.left c.number_after.new.self.source) c.number_after.new.self.number) c.in_ok-entry_count.entry_count c.in_ok-entry_count.ensures
    (part.entries_then g.S.ByteSource.can_fail (λ (b : Block g.row.A.Denot). (b.map.items, b.request, b.certificate)) (Err c.in_err-bounds.field-0.0) None g.row.A.Denot c.in_ok-entry_count.entry_count (lines_left (g.S.ByteSource.left c.number_after.new.self.source) c.number_after.new.self.number) (lines_left (g.S.ByteSource.left c.entries.new.self.source) c.entries.new.self.number) c.in_ok-map.map c.in_ok-map.ensures
    (part.request_then g.S.ByteSource.can_fail (λ (b : Block g.row.A.Denot). (b.map.items, b.request, b.certificate)) (Err c.in_err-bounds.field-0.0) None c.in_ok-map.map.items (lines_left (g.S.ByteSource.left c.entries.new.self.source) c.entries.new.self.number) (lines_left (g.S.ByteSource.left c.request.new.self.source) c.request.new.self.number) c.in_ok-request.request c.in_ok-request.ensures
    (part.bound_count_then g.S.ByteSource.can_fail (λ (b : Block g.row.A.Denot). (b.map.items, b.request, b.certificate)) (Err c.in_err-bounds.field-0.0) None c.in_ok-map.map.items c.in_ok-request.request (lines_left (g.S.ByteSource.left c.request.new.self.source) c.request.new.self.number) (lines_left (g.S.ByteSource.left c.number_after-2.new.self.source) c.number_after-2.new.self.number) c.in_ok-bound_count.bound_count c.in_ok-bound_count.ensures
    (part.bounds_failed g.S.ByteSource.can_fail (λ (b : Block g.row.A.Denot). (b.map.items, b.request, b.certificate)) g.row.A.Denot c.in_ok-map.map.items c.in_ok-request.request c.in_ok-bound_count.bound_count (lines_left (g.S.ByteSource.left c.number_after-2.new.self.source) c.number_after-2.new.self.number) (lines_left (g.S.ByteSource.left c.bounds.new.self.source) c.bounds.new.self.number) c.in_err-bounds.field-0.0 c.in_err-bounds.ensures)))))))

pub returns-in_err-answer : goal.returns-in_err-answer
returns-in_err-answer g c =
    rw (handed_on c.from_residual-in_err-answer.result c.in_err-answer.field-0.0 c.from_residual-in_err-answer.ensures)
    (part.whole g.S.ByteSource.can_fail (λ (b : Block g.row.A.Denot). (b.map.items, b.request, b.certificate)) (Err c.in_err-answer.field-0.0) (lines_left (g.S.ByteSource.left c.args.self.now.source) c.args.self.now.number) None
    (part.head_then g.S.ByteSource.can_fail (λ (b : Block g.row.A.Denot). (b.map.items, b.request, b.certificate)) (Err c.in_err-answer.field-0.0) None (lines_left (g.S.ByteSource.left c.args.self.now.source) c.args.self.now.number) (lines_left (g.S.ByteSource.left c.name.new.self.source) c.name.new.self.number) tt c.in_ok-name.ensures
    (part.entry_count_then g.S.ByteSource.can_fail (λ (b : Block g.row.A.Denot). (b.map.items, b.request, b.certificate)) (Err c.in_err-answer.field-0.0) None (lines_left (g.S.ByteSource.left c.name.new.self.source) c.name.new.self.number) (lines_left (g.S.ByteSource.left c.number_after.new.self.source) c.number_after.new.self.number) c.in_ok-entry_count.entry_count c.in_ok-entry_count.ensures
    (part.entries_then g.S.ByteSource.can_fail (λ (b : Block g.row.A.Denot). (b.map.items, b.request, b.certificate)) (Err c.in_err-answer.field-0.0) None g.row.A.Denot c.in_ok-entry_count.entry_count (lines_left (g.S.ByteSource.left c.number_after.new.self.source) c.number_after.new.self.number) (lines_left (g.S.ByteSource.left c.entries.new.self.source) c.entries.new.self.number) c.in_ok-map.map c.in_ok-map.ensures
    (part.request_then g.S.ByteSource.can_fail (λ (b : Block g.row.A.Denot). (b.map.items, b.request, b.certificate)) (Err c.in_err-answer.field-0.0) None c.in_ok-map.map.items (lines_left (g.S.ByteSource.left c.entries.new.self.source) c.entries.new.self.number) (lines_left (g.S.ByteSource.left c.request.new.self.source) c.request.new.self.number) c.in_ok-request.request c.in_ok-request.ensures
    (part.bound_count_then g.S.ByteSource.can_fail (λ (b : Block g.row.A.Denot). (b.map.items, b.request, b.certificate)) (Err c.in_err-answer.field-0.0) None c.in_ok-map.map.items c.in_ok-request.request (lines_left (g.S.ByteSource.left c.request.new.self.source) c.request.new.self.number) (lines_left (g.S.ByteSource.left c.number_after-2.new.self.source) c.number_after-2.new.self.number) c.in_ok-bound_count.bound_count c.in_ok-bound_count.ensures
    (part.bounds_then g.S.ByteSource.can_fail (λ (b : Block g.row.A.Denot). (b.map.items, b.request, b.certificate)) (Err c.in_err-answer.field-0.0) None g.row.A.Denot c.in_ok-map.map.items c.in_ok-request.request c.in_ok-bound_count.bound_count (lines_left (g.S.ByteSource.left c.number_after-2.new.self.source) c.number_after-2.new.self.number) (lines_left (g.S.ByteSource.left c.bounds.new.self.source) c.bounds.new.self.number) c.in_ok-bounds.bounds c.in_ok-bounds.ensures
    (part.answer_failed g.S.ByteSource.can_fail (λ (b : Block g.row.A.Denot). (b.map.items, b.request, b.certificate)) c.in_ok-map.map.items c.in_ok-request.request c.in_ok-bounds.bounds.items (lines_left (g.S.ByteSource.left c.bounds.new.self.source) c.bounds.new.self.number) (lines_left (g.S.ByteSource.left c.number_after-3.new.self.source) c.number_after-3.new.self.number) c.in_err-answer.field-0.0 c.in_err-answer.ensures))))))))

pub returns-in_err-name-2 : goal.returns-in_err-name-2
returns-in_err-name-2 g c =
    rw (handed_on c.from_residual-in_err-name-2.result c.in_err-name-2.field-0.0 c.from_residual-in_err-name-2.ensures)
    (part.whole g.S.ByteSource.can_fail (λ (b : Block g.row.A.Denot). (b.map.items, b.request, b.certificate)) (Err c.in_err-name-2.field-0.0) (lines_left (g.S.ByteSource.left c.args.self.now.source) c.args.self.now.number) None
    (part.head_then g.S.ByteSource.can_fail (λ (b : Block g.row.A.Denot). (b.map.items, b.request, b.certificate)) (Err c.in_err-name-2.field-0.0) None (lines_left (g.S.ByteSource.left c.args.self.now.source) c.args.self.now.number) (lines_left (g.S.ByteSource.left c.name.new.self.source) c.name.new.self.number) tt c.in_ok-name.ensures
    (part.entry_count_then g.S.ByteSource.can_fail (λ (b : Block g.row.A.Denot). (b.map.items, b.request, b.certificate)) (Err c.in_err-name-2.field-0.0) None (lines_left (g.S.ByteSource.left c.name.new.self.source) c.name.new.self.number) (lines_left (g.S.ByteSource.left c.number_after.new.self.source) c.number_after.new.self.number) c.in_ok-entry_count.entry_count c.in_ok-entry_count.ensures
    (part.entries_then g.S.ByteSource.can_fail (λ (b : Block g.row.A.Denot). (b.map.items, b.request, b.certificate)) (Err c.in_err-name-2.field-0.0) None g.row.A.Denot c.in_ok-entry_count.entry_count (lines_left (g.S.ByteSource.left c.number_after.new.self.source) c.number_after.new.self.number) (lines_left (g.S.ByteSource.left c.entries.new.self.source) c.entries.new.self.number) c.in_ok-map.map c.in_ok-map.ensures
    (part.request_then g.S.ByteSource.can_fail (λ (b : Block g.row.A.Denot). (b.map.items, b.request, b.certificate)) (Err c.in_err-name-2.field-0.0) None c.in_ok-map.map.items (lines_left (g.S.ByteSource.left c.entries.new.self.source) c.entries.new.self.number) (lines_left (g.S.ByteSource.left c.request.new.self.source) c.request.new.self.number) c.in_ok-request.request c.in_ok-request.ensures
    (part.bound_count_then g.S.ByteSource.can_fail (λ (b : Block g.row.A.Denot). (b.map.items, b.request, b.certificate)) (Err c.in_err-name-2.field-0.0) None c.in_ok-map.map.items c.in_ok-request.request (lines_left (g.S.ByteSource.left c.request.new.self.source) c.request.new.self.number) (lines_left (g.S.ByteSource.left c.number_after-2.new.self.source) c.number_after-2.new.self.number) c.in_ok-bound_count.bound_count c.in_ok-bound_count.ensures
    (part.bounds_then g.S.ByteSource.can_fail (λ (b : Block g.row.A.Denot). (b.map.items, b.request, b.certificate)) (Err c.in_err-name-2.field-0.0) None g.row.A.Denot c.in_ok-map.map.items c.in_ok-request.request c.in_ok-bound_count.bound_count (lines_left (g.S.ByteSource.left c.number_after-2.new.self.source) c.number_after-2.new.self.number) (lines_left (g.S.ByteSource.left c.bounds.new.self.source) c.bounds.new.self.number) c.in_ok-bounds.bounds c.in_ok-bounds.ensures
    (part.answer_then g.S.ByteSource.can_fail (λ (b : Block g.row.A.Denot). (b.map.items, b.request, b.certificate)) (Err c.in_err-name-2.field-0.0) None c.in_ok-map.map.items c.in_ok-request.request c.in_ok-bounds.bounds.items (lines_left (g.S.ByteSource.left c.bounds.new.self.source) c.bounds.new.self.number) (lines_left (g.S.ByteSource.left c.number_after-3.new.self.source) c.number_after-3.new.self.number) c.in_ok-answer.answer c.in_ok-answer.ensures
    (part.foot_failed g.S.ByteSource.can_fail (λ (b : Block g.row.A.Denot). (b.map.items, b.request, b.certificate)) c.in_ok-map.map.items c.in_ok-request.request c.in_ok-bounds.bounds.items c.in_ok-answer.answer (lines_left (g.S.ByteSource.left c.number_after-3.new.self.source) c.number_after-3.new.self.number) (lines_left (g.S.ByteSource.left c.name-2.new.self.source) c.name-2.new.self.number) c.in_err-name-2.field-0.0 c.in_err-name-2.ensures)))))))))

pub returns-in_err-no_line : goal.returns-in_err-no_line
returns-in_err-no_line g c =
    rw (handed_on c.from_residual-in_err-no_line.result c.in_err-no_line.field-0.0 c.from_residual-in_err-no_line.ensures)
    (part.whole g.S.ByteSource.can_fail (λ (b : Block g.row.A.Denot). (b.map.items, b.request, b.certificate)) (Err c.in_err-no_line.field-0.0) (lines_left (g.S.ByteSource.left c.args.self.now.source) c.args.self.now.number) None
    (part.head_then g.S.ByteSource.can_fail (λ (b : Block g.row.A.Denot). (b.map.items, b.request, b.certificate)) (Err c.in_err-no_line.field-0.0) None (lines_left (g.S.ByteSource.left c.args.self.now.source) c.args.self.now.number) (lines_left (g.S.ByteSource.left c.name.new.self.source) c.name.new.self.number) tt c.in_ok-name.ensures
    (part.entry_count_then g.S.ByteSource.can_fail (λ (b : Block g.row.A.Denot). (b.map.items, b.request, b.certificate)) (Err c.in_err-no_line.field-0.0) None (lines_left (g.S.ByteSource.left c.name.new.self.source) c.name.new.self.number) (lines_left (g.S.ByteSource.left c.number_after.new.self.source) c.number_after.new.self.number) c.in_ok-entry_count.entry_count c.in_ok-entry_count.ensures
    (part.entries_then g.S.ByteSource.can_fail (λ (b : Block g.row.A.Denot). (b.map.items, b.request, b.certificate)) (Err c.in_err-no_line.field-0.0) None g.row.A.Denot c.in_ok-entry_count.entry_count (lines_left (g.S.ByteSource.left c.number_after.new.self.source) c.number_after.new.self.number) (lines_left (g.S.ByteSource.left c.entries.new.self.source) c.entries.new.self.number) c.in_ok-map.map c.in_ok-map.ensures
    (part.request_then g.S.ByteSource.can_fail (λ (b : Block g.row.A.Denot). (b.map.items, b.request, b.certificate)) (Err c.in_err-no_line.field-0.0) None c.in_ok-map.map.items (lines_left (g.S.ByteSource.left c.entries.new.self.source) c.entries.new.self.number) (lines_left (g.S.ByteSource.left c.request.new.self.source) c.request.new.self.number) c.in_ok-request.request c.in_ok-request.ensures
    (part.bound_count_then g.S.ByteSource.can_fail (λ (b : Block g.row.A.Denot). (b.map.items, b.request, b.certificate)) (Err c.in_err-no_line.field-0.0) None c.in_ok-map.map.items c.in_ok-request.request (lines_left (g.S.ByteSource.left c.request.new.self.source) c.request.new.self.number) (lines_left (g.S.ByteSource.left c.number_after-2.new.self.source) c.number_after-2.new.self.number) c.in_ok-bound_count.bound_count c.in_ok-bound_count.ensures
    (part.bounds_then g.S.ByteSource.can_fail (λ (b : Block g.row.A.Denot). (b.map.items, b.request, b.certificate)) (Err c.in_err-no_line.field-0.0) None g.row.A.Denot c.in_ok-map.map.items c.in_ok-request.request c.in_ok-bound_count.bound_count (lines_left (g.S.ByteSource.left c.number_after-2.new.self.source) c.number_after-2.new.self.number) (lines_left (g.S.ByteSource.left c.bounds.new.self.source) c.bounds.new.self.number) c.in_ok-bounds.bounds c.in_ok-bounds.ensures
    (part.answer_then g.S.ByteSource.can_fail (λ (b : Block g.row.A.Denot). (b.map.items, b.request, b.certificate)) (Err c.in_err-no_line.field-0.0) None c.in_ok-map.map.items c.in_ok-request.request c.in_ok-bounds.bounds.items (lines_left (g.S.ByteSource.left c.bounds.new.self.source) c.bounds.new.self.number) (lines_left (g.S.ByteSource.left c.number_after-3.new.self.source) c.number_after-3.new.self.number) c.in_ok-answer.answer c.in_ok-answer.ensures
    (part.foot_then g.S.ByteSource.can_fail (λ (b : Block g.row.A.Denot). (b.map.items, b.request, b.certificate)) (Err c.in_err-no_line.field-0.0) None c.in_ok-map.map.items c.in_ok-request.request c.in_ok-bounds.bounds.items c.in_ok-answer.answer (lines_left (g.S.ByteSource.left c.number_after-3.new.self.source) c.number_after-3.new.self.number) (lines_left (g.S.ByteSource.left c.name-2.new.self.source) c.name-2.new.self.number) tt c.in_ok-name-2.ensures
    (part.rest_failed g.S.ByteSource.can_fail (λ (b : Block g.row.A.Denot). (b.map.items, b.request, b.certificate)) c.in_ok-map.map.items c.in_ok-request.request c.in_ok-bounds.bounds.items c.in_ok-answer.answer (lines_left (g.S.ByteSource.left c.name-2.new.self.source) c.name-2.new.self.number) (lines_left (g.S.ByteSource.left c.no_line.new.self.source) c.no_line.new.self.number) c.in_err-no_line.field-0.0 c.in_err-no_line.ensures))))))))))

pub returns : goal.returns
returns g c =
    part.whole g.S.ByteSource.can_fail (λ (b : Block g.row.A.Denot). (b.map.items, b.request, b.certificate)) (Ok (record { map = c.in_ok-map.map; request = c.in_ok-request.request; certificate = record { bounds = c.in_ok-bounds.bounds.items; answer = c.in_ok-answer.answer } })) (lines_left (g.S.ByteSource.left c.args.self.now.source) c.args.self.now.number) (lines_left (g.S.ByteSource.left c.no_line.new.self.source) c.no_line.new.self.number)
    (part.head_then g.S.ByteSource.can_fail (λ (b : Block g.row.A.Denot). (b.map.items, b.request, b.certificate)) (Ok (record { map = c.in_ok-map.map; request = c.in_ok-request.request; certificate = record { bounds = c.in_ok-bounds.bounds.items; answer = c.in_ok-answer.answer } })) (lines_left (g.S.ByteSource.left c.no_line.new.self.source) c.no_line.new.self.number) (lines_left (g.S.ByteSource.left c.args.self.now.source) c.args.self.now.number) (lines_left (g.S.ByteSource.left c.name.new.self.source) c.name.new.self.number) tt c.in_ok-name.ensures
    (part.entry_count_then g.S.ByteSource.can_fail (λ (b : Block g.row.A.Denot). (b.map.items, b.request, b.certificate)) (Ok (record { map = c.in_ok-map.map; request = c.in_ok-request.request; certificate = record { bounds = c.in_ok-bounds.bounds.items; answer = c.in_ok-answer.answer } })) (lines_left (g.S.ByteSource.left c.no_line.new.self.source) c.no_line.new.self.number) (lines_left (g.S.ByteSource.left c.name.new.self.source) c.name.new.self.number) (lines_left (g.S.ByteSource.left c.number_after.new.self.source) c.number_after.new.self.number) c.in_ok-entry_count.entry_count c.in_ok-entry_count.ensures
    (part.entries_then g.S.ByteSource.can_fail (λ (b : Block g.row.A.Denot). (b.map.items, b.request, b.certificate)) (Ok (record { map = c.in_ok-map.map; request = c.in_ok-request.request; certificate = record { bounds = c.in_ok-bounds.bounds.items; answer = c.in_ok-answer.answer } })) (lines_left (g.S.ByteSource.left c.no_line.new.self.source) c.no_line.new.self.number) g.row.A.Denot c.in_ok-entry_count.entry_count (lines_left (g.S.ByteSource.left c.number_after.new.self.source) c.number_after.new.self.number) (lines_left (g.S.ByteSource.left c.entries.new.self.source) c.entries.new.self.number) c.in_ok-map.map c.in_ok-map.ensures
    (part.request_then g.S.ByteSource.can_fail (λ (b : Block g.row.A.Denot). (b.map.items, b.request, b.certificate)) (Ok (record { map = c.in_ok-map.map; request = c.in_ok-request.request; certificate = record { bounds = c.in_ok-bounds.bounds.items; answer = c.in_ok-answer.answer } })) (lines_left (g.S.ByteSource.left c.no_line.new.self.source) c.no_line.new.self.number) c.in_ok-map.map.items (lines_left (g.S.ByteSource.left c.entries.new.self.source) c.entries.new.self.number) (lines_left (g.S.ByteSource.left c.request.new.self.source) c.request.new.self.number) c.in_ok-request.request c.in_ok-request.ensures
    (part.bound_count_then g.S.ByteSource.can_fail (λ (b : Block g.row.A.Denot). (b.map.items, b.request, b.certificate)) (Ok (record { map = c.in_ok-map.map; request = c.in_ok-request.request; certificate = record { bounds = c.in_ok-bounds.bounds.items; answer = c.in_ok-answer.answer } })) (lines_left (g.S.ByteSource.left c.no_line.new.self.source) c.no_line.new.self.number) c.in_ok-map.map.items c.in_ok-request.request (lines_left (g.S.ByteSource.left c.request.new.self.source) c.request.new.self.number) (lines_left (g.S.ByteSource.left c.number_after-2.new.self.source) c.number_after-2.new.self.number) c.in_ok-bound_count.bound_count c.in_ok-bound_count.ensures
    (part.bounds_then g.S.ByteSource.can_fail (λ (b : Block g.row.A.Denot). (b.map.items, b.request, b.certificate)) (Ok (record { map = c.in_ok-map.map; request = c.in_ok-request.request; certificate = record { bounds = c.in_ok-bounds.bounds.items; answer = c.in_ok-answer.answer } })) (lines_left (g.S.ByteSource.left c.no_line.new.self.source) c.no_line.new.self.number) g.row.A.Denot c.in_ok-map.map.items c.in_ok-request.request c.in_ok-bound_count.bound_count (lines_left (g.S.ByteSource.left c.number_after-2.new.self.source) c.number_after-2.new.self.number) (lines_left (g.S.ByteSource.left c.bounds.new.self.source) c.bounds.new.self.number) c.in_ok-bounds.bounds c.in_ok-bounds.ensures
    (part.answer_then g.S.ByteSource.can_fail (λ (b : Block g.row.A.Denot). (b.map.items, b.request, b.certificate)) (Ok (record { map = c.in_ok-map.map; request = c.in_ok-request.request; certificate = record { bounds = c.in_ok-bounds.bounds.items; answer = c.in_ok-answer.answer } })) (lines_left (g.S.ByteSource.left c.no_line.new.self.source) c.no_line.new.self.number) c.in_ok-map.map.items c.in_ok-request.request c.in_ok-bounds.bounds.items (lines_left (g.S.ByteSource.left c.bounds.new.self.source) c.bounds.new.self.number) (lines_left (g.S.ByteSource.left c.number_after-3.new.self.source) c.number_after-3.new.self.number) c.in_ok-answer.answer c.in_ok-answer.ensures
    (part.foot_then g.S.ByteSource.can_fail (λ (b : Block g.row.A.Denot). (b.map.items, b.request, b.certificate)) (Ok (record { map = c.in_ok-map.map; request = c.in_ok-request.request; certificate = record { bounds = c.in_ok-bounds.bounds.items; answer = c.in_ok-answer.answer } })) (lines_left (g.S.ByteSource.left c.no_line.new.self.source) c.no_line.new.self.number) c.in_ok-map.map.items c.in_ok-request.request c.in_ok-bounds.bounds.items c.in_ok-answer.answer (lines_left (g.S.ByteSource.left c.number_after-3.new.self.source) c.number_after-3.new.self.number) (lines_left (g.S.ByteSource.left c.name-2.new.self.source) c.name-2.new.self.number) tt c.in_ok-name-2.ensures
    (part.rest_then g.S.ByteSource.can_fail (λ (b : Block g.row.A.Denot). (b.map.items, b.request, b.certificate)) (Ok (record { map = c.in_ok-map.map; request = c.in_ok-request.request; certificate = record { bounds = c.in_ok-bounds.bounds.items; answer = c.in_ok-answer.answer } })) (lines_left (g.S.ByteSource.left c.no_line.new.self.source) c.no_line.new.self.number) c.in_ok-map.map.items c.in_ok-request.request c.in_ok-bounds.bounds.items c.in_ok-answer.answer (lines_left (g.S.ByteSource.left c.name-2.new.self.source) c.name-2.new.self.number) (lines_left (g.S.ByteSource.left c.no_line.new.self.source) c.no_line.new.self.number) tt c.in_ok-no_line.ensures
    (part.all_read g.S.ByteSource.can_fail (λ (b : Block g.row.A.Denot). (b.map.items, b.request, b.certificate)) _ (record { map = c.in_ok-map.map; request = c.in_ok-request.request; certificate = record { bounds = c.in_ok-bounds.bounds.items; answer = c.in_ok-answer.answer } }) (lines_left (g.S.ByteSource.left c.no_line.new.self.source) c.no_line.new.self.number) refl))))))))))
