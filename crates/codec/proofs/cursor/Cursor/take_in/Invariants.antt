-- The loop of `take_in` keeps the bits that are left, and a place that reading can reach.
-- Assumes nothing.
use Rattle.std.proofs.Common.{◌-◌, ◌≡◌}
use Rattle.codec.specs.Place.{Reached, left}
use Rattle.codec.proofs.cursor.Cursor.take_in.Given as goal

abbrev pub invariant-loop-self : goal.invariant-loop-self
invariant-loop-self l = (left l.bytes l.self ≡ left l.bytes l.initial.self) × Reached l.bytes l.self

abbrev pub decreases-loop-self : goal.decreases-loop-self
decreases-loop-self l = 35 - l.self.count
