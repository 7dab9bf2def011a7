use Rattle.std.proofs.Common.{Vec, refl, arith}
use Rattle.page_ranges.specs.declared.ranges.Descriptor.{Descriptor}
use Rattle.certificate_blocks.specs.BlockLines.{entry_of_words}
use Rattle.certificate_blocks.specs.Blocks.{line}
use Rattle.certificate_blocks.specs.BlockReads.{lines_left}
use Rattle.certificate_blocks.proofs.BlockSteps.{handed_on, none_read, more_read, one_failed, all_read}
use Rattle.certificate_blocks.proofs.reader.BlockReader.entries.Goals as goal

pub loop-read-init : goal.loop-read-init
loop-read-init g c = rw c.new-entries.ensures.items (none_read g.S.ByteSource.can_fail c.args.count (line entry_of_words) (lines_left (g.S.ByteSource.left c.args.self.now.source) c.args.self.now.number))

pub returns-in_err-entry : goal.returns-in_err-entry
returns-in_err-entry g c =
    rw (handed_on c.from_residual.result c.in_err-entry.field-0.0 c.from_residual.ensures)
    (one_failed g.S.ByteSource.can_fail c.args.count (line entry_of_words) c.loop-read._read c.loop-read.entries.items (λ (read : Vec Descriptor g.row.A.Denot). read.items) (lines_left (g.S.ByteSource.left c.args.self.now.source) c.args.self.now.number) (lines_left (g.S.ByteSource.left c.loop-read.self.source) c.loop-read.self.number) (lines_left (g.S.ByteSource.left c.entry.new.self.source) c.entry.new.self.number) c.in_err-entry.field-0.0 (omega arith) c.loop-read.invariant c.in_err-entry.ensures)

pub loop-read-preserved : goal.loop-read-preserved
loop-read-preserved g c =
    rw c.in_ok-push.ensures.items
    (more_read g.S.ByteSource.can_fail c.args.count (line entry_of_words) c.loop-read._read c.loop-read.entries.items (lines_left (g.S.ByteSource.left c.args.self.now.source) c.args.self.now.number) (lines_left (g.S.ByteSource.left c.loop-read.self.source) c.loop-read.self.number) (lines_left (g.S.ByteSource.left c.entry.new.self.source) c.entry.new.self.number) c.in_ok-entry.field-0 (omega arith) c.loop-read.invariant c.in_ok-entry.ensures)

pub returns : goal.returns
returns g c = all_read g.S.ByteSource.can_fail c.args.count (line entry_of_words) c.loop-read._read c.loop-read.entries.items (λ (read : Vec Descriptor g.row.A.Denot). read.items) (lines_left (g.S.ByteSource.left c.args.self.now.source) c.args.self.now.number) (lines_left (g.S.ByteSource.left c.loop-read.self.source) c.loop-read.self.number) c.loop-read.entries refl (omega arith) c.loop-read.invariant
