use Rattle.std.proofs.Common.{arith, rules}
use Rattle.certificate_blocks.proofs.BlockSteps.{line_unread, line_missing, line_too_long, line_taken}
use Rattle.certificate_blocks.proofs.reader.BlockReader.next_line.Goals as goal

pub returns-in-Ok-false : goal.returns-in-Ok-false
returns-in-Ok-false g c =
    line_missing g.S.ByteSource.can_fail c.args.self.now.number c.next_line.new.line.items (g.S.ByteSource.left c.args.self.now.source) (g.S.ByteSource.left c.next_line.new.reader)
    (rw c.in-Ok-false.field-0-test at c.in-Ok-false.ensures)

pub returns-then-len-gt-MAX_LINE_LENGTH : goal.returns-then-len-gt-MAX_LINE_LENGTH
returns-then-len-gt-MAX_LINE_LENGTH g c =
    line_too_long g.S.ByteSource.can_fail c.args.self.now.number c.next_line.new.line.items (g.S.ByteSource.left c.args.self.now.source) (g.S.ByteSource.left c.next_line.new.reader) (omega arith)
    (rw c.in-Ok-true.field-0-test at c.in-Ok-true.ensures)

pub returns : goal.returns
returns g c =
    line_taken g.S.ByteSource.can_fail c.args.self.now.number c.next_line.new.line.items (g.S.ByteSource.left c.args.self.now.source) (g.S.ByteSource.left c.next_line.new.reader) (omega arith) (omega arith)
    (rw c.in-Ok-true.field-0-test at c.in-Ok-true.ensures)

pub returns-then-number-gt-MAX_BLOCK_LINES : goal.returns-then-number-gt-MAX_BLOCK_LINES
returns-then-number-gt-MAX_BLOCK_LINES g c = search rules

pub returns-in-Err-OutOfMemory : goal.returns-in-Err-OutOfMemory
returns-in-Err-OutOfMemory g c = search rules

pub returns-in-Err-Read : goal.returns-in-Err-Read
returns-in-Err-Read g c =
    line_unread g.S.ByteSource.can_fail c.args.self.now.number c.next_line.new.line.items (g.S.ByteSource.left c.args.self.now.source) (c.in-Err-Read.ensures c.in-Err-Read.field-0-is)
