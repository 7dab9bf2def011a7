use Rattle.std.proofs.Common.{Vec, refl, arith}
use Rattle.placement_certificate.specs.declared.certificates.Bound.{Bound}
use Rattle.certificate_blocks.specs.BlockLines.{bound_of}
use Rattle.certificate_blocks.specs.Blocks.{line}
use Rattle.certificate_blocks.specs.BlockReads.{lines_left}
use Rattle.certificate_blocks.proofs.BlockSteps.{handed_on, none_read, more_read, one_failed, all_read}
use Rattle.certificate_blocks.proofs.reader.BlockReader.bounds.Goals as goal

pub loop-read-init : goal.loop-read-init
loop-read-init g c = rw c.new-bounds.ensures.items (none_read g.S.ByteSource.can_fail c.args.count (line bound_of) (lines_left (g.S.ByteSource.left c.args.self.now.source) c.args.self.now.number))

pub returns-in_err-bound : goal.returns-in_err-bound
returns-in_err-bound g c =
    rw (handed_on c.from_residual.result c.in_err-bound.field-0.0 c.from_residual.ensures)
    (one_failed g.S.ByteSource.can_fail c.args.count (line bound_of) c.loop-read._read c.loop-read.bounds.items (λ (read : Vec Bound g.row.A.Denot). read.items) (lines_left (g.S.ByteSource.left c.args.self.now.source) c.args.self.now.number) (lines_left (g.S.ByteSource.left c.loop-read.self.source) c.loop-read.self.number) (lines_left (g.S.ByteSource.left c.bound.new.self.source) c.bound.new.self.number) c.in_err-bound.field-0.0 (omega arith) c.loop-read.invariant c.in_err-bound.ensures)

pub loop-read-preserved : goal.loop-read-preserved
loop-read-preserved g c =
    rw c.in_ok-push.ensures.items
    (more_read g.S.ByteSource.can_fail c.args.count (line bound_of) c.loop-read._read c.loop-read.bounds.items (lines_left (g.S.ByteSource.left c.args.self.now.source) c.args.self.now.number) (lines_left (g.S.ByteSource.left c.loop-read.self.source) c.loop-read.self.number) (lines_left (g.S.ByteSource.left c.bound.new.self.source) c.bound.new.self.number) c.in_ok-bound.field-0 (omega arith) c.loop-read.invariant c.in_ok-bound.ensures)

pub returns : goal.returns
returns g c = all_read g.S.ByteSource.can_fail c.args.count (line bound_of) c.loop-read._read c.loop-read.bounds.items (λ (read : Vec Bound g.row.A.Denot). read.items) (lines_left (g.S.ByteSource.left c.args.self.now.source) c.args.self.now.number) (lines_left (g.S.ByteSource.left c.loop-read.self.source) c.loop-read.self.number) c.loop-read.bounds refl (omega arith) c.loop-read.invariant
