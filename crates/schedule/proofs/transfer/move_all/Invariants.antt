-- No more bytes are counted than there are. Each turn moves a byte or uses up a wait.
-- Assumes nothing.
use Rattle.std.proofs.Common.{◌-◌, ◌≤◌, ◌+◌, ◌≡◌}
use Rattle.schedule.proofs.transfer.move_all.Given as goal

abbrev pub invariant-loop-moved : goal.invariant-loop-moved
invariant-loop-moved g l = (l.moved ≤ l.len) × (g.C.Calls.lent l.calls ≡ l.len)

abbrev pub decreases-loop-moved : goal.decreases-loop-moved
decreases-loop-moved g l = l.len - l.moved + l.waits.left
