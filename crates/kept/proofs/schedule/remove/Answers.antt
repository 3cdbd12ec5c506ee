-- By the place where the number stands, if it does.
-- Assumes nothing.
use Rattle.std.proofs.Common.{refl, sym}
use Rattle.keptrules.proofs.HeldLaws.{remove_placed, remove_nowhere}
use Rattle.kept.proofs.schedule.remove.Goals as goal

pub returns-in_default : goal.returns-in_default
returns-in_default c =
    let nowhere = rw c.as_slice.ensures.value at c.in_default.ensures in
    remove_nowhere c.args.number c.args.schedule.now (sym nowhere)

pub returns : goal.returns
returns c =
    let placed = rw c.as_slice.ensures.value at c.in-Some.ensures in
    remove_placed c.args.number c.args.schedule.now (record { entries = c.remove.new.self; next = c.args.schedule.now.next }) c.in-Some.place (sym placed) c.remove.ensures.items refl
