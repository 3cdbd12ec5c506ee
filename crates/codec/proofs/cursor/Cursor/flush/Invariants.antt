-- The loop of `flush` keeps the bits written, and each turn moves one byte from those that wait to the buffer.
-- Assumes nothing.
use Rattle.std.proofs.Common.{[]}
use Rattle.codec.specs.Place.{Wrote}
use Rattle.codec.proofs.cursor.Cursor.flush.Given as goal

abbrev pub invariant-loop-self : goal.invariant-loop-self
invariant-loop-self l = Wrote l.initial.out l.out l.initial.self l.self []

abbrev pub decreases-loop-self : goal.decreases-loop-self
decreases-loop-self l = l.self.count
