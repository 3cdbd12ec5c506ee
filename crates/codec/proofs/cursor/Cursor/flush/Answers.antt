-- `flush` meets its contract: each turn moves one byte from the bits that wait to the buffer, and the bits written stay the same.
-- Assumes nothing.
use mathlib.Core.Path.{refl}
use Rattle.std.proofs.Common.{arith}
use Rattle.codec.proofs.WriterLaws.{byte_out}
use Rattle.codec.proofs.cursor.Cursor.flush.Goals as goal

pub loop-self-preserved : goal.loop-self-preserved
loop-self-preserved c = byte_out _ c.loop-self.invariant c.take.ensures (omega arith) refl refl refl
