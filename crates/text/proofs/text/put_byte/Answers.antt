-- `put_byte` meets its contract: the store after the text makes the line of the longer text.
-- Assumes nothing.
use Rattle.text.proofs.TextLaws.{one_more}
use Rattle.text.proofs.text.put_byte.Goals as goal

pub returns : goal.returns
returns c = one_more c.args.line.now c.args.byte c.requires
