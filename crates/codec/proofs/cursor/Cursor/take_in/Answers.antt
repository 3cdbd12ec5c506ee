-- `take_in` meets its contract: each turn takes one byte in, and the bits that are left stay the same.
-- Assumes nothing.
use mathlib.Core.Path.{◌∙◌}
use Rattle.std.proofs.Common.{arith}
use Rattle.codec.proofs.ReaderLaws.{byte_in}
use Rattle.codec.proofs.cursor.Cursor.take_in.Goals as goal

pub loop-self-preserved : goal.loop-self-preserved
loop-self-preserved c = (
  byte_in c.args.bytes.now (omega arith) (rw c.from.ensures at c.append.ensures) ∙ c.loop-self.invariant.0,
  record { inside = omega arith; read = omega arith },
)
