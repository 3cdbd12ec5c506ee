-- One row further, and at the end.
-- Assumes nothing.
use Rattle.std.proofs.Common.{sym, ◌∙◌}
use Rattle.keptrules.proofs.HeldLaws.{next_row, last_row}
use Rattle.kept.proofs.schedule.governing.Goals as goal

pub loop-entry-preserved : goal.loop-entry-preserved
loop-entry-preserved c =
    let inside = rw c.as_slice-entry-items.ensures.value at c.loop-entry-test.true in
    let e = rw c.as_slice-entry-items.ensures.value at c.governing_after.ensures in
    rw e (next_row c.loop-entry.found c.args.schedule.now.entries.items c.loop-entry.entry-index _ inside ∙ c.loop-entry.invariant)

pub returns : goal.returns
returns c =
    let past = rw c.as_slice-entry-items.ensures.value at c.loop-entry-test.false in
    sym (last_row c.loop-entry.found c.args.schedule.now.entries.items c.loop-entry.entry-index past) ∙ c.loop-entry.invariant
