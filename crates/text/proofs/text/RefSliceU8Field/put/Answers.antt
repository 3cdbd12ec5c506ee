-- `put` of bytes meets its contract: they are copied behind the text of the line.
-- Assumes nothing.
use Rattle.std.proofs.Common.{arith}
use Rattle.text.proofs.TextLaws.{line_after}
use Rattle.text.proofs.text.RefSliceU8Field.put.Goals as goal

pub returns : goal.returns
returns c = line_after c.args.line.now c.args.self.now _ c.requires c.copy_from_slice.ensures.after (omega arith)
