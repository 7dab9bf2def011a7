use Rattle.certificate_blocks.specs.BlockLines.{bound_of}
use Rattle.certificate_blocks.specs.Blocks.{line}
use Rattle.certificate_blocks.specs.BlockReads.{lines_left}
use Rattle.certificate_blocks.proofs.BlockSteps.{HasRead}
use Rattle.certificate_blocks.proofs.reader.BlockReader.bounds.Given as goal

abbrev pub invariant-loop-read : goal.invariant-loop-read
invariant-loop-read g l = HasRead l.count (line bound_of) (lines_left (g.S.ByteSource.left l.initial.self.source) l.initial.self.number) l._read l.bounds.items (lines_left (g.S.ByteSource.left l.self.source) l.self.number)
