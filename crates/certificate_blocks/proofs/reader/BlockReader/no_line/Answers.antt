use Rattle.certificate_blocks.proofs.BlockSteps.{end_reached, end_missing}
use Rattle.certificate_blocks.proofs.reader.BlockReader.no_line.Goals as goal

pub returns-in-Ok-None : goal.returns-in-Ok-None
returns-in-Ok-None g c = end_reached g.S.ByteSource.can_fail c.args.self.now.number (g.S.ByteSource.left c.args.self.now.source) (g.S.ByteSource.left c.take_byte.new.self) (rw c.in-Ok-None.field-0-is at c.in-Ok-None.ensures.next)

pub returns-in-Ok-Some : goal.returns-in-Ok-Some
returns-in-Ok-Some g c = end_missing g.S.ByteSource.can_fail c.args.self.now.number c.in-Ok-Some.field-0-0 (g.S.ByteSource.left c.args.self.now.source) (g.S.ByteSource.left c.take_byte.new.self) (rw c.in-Ok-Some.field-0-is at c.in-Ok-Some.ensures.next)
