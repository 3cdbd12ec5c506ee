-- The loop of `measure` counts the bits of narrow cells.
-- Assumes nothing.
use Rattle.codec.proofs.PackLaws.{Counted}
use Rattle.codec.proofs.measure.measure.Given as goal

abbrev pub invariant-loop-i : goal.invariant-loop-i
invariant-loop-i l = Counted l.cells l.i l.bits
