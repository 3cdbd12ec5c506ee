-- `read_each` meets its contract: the cells before the one that the loop has come to are readable, and the row holds what they read as.
-- Assumes nothing.
use Rattle.std.proofs.Common.{arith, ◌∙◌, sym, ap, ◌+◌}
use Rattle.reading.proofs.LoopLaws.{read_none, read_more, read_stops, read_all, was_read, was_unreadable}
use Rattle.std.proofs.lemmas.Result.{err_from_is_err_and}
use Rattle.worksheet.specs.Reading.{read_cell}
use Rattle.reading.proofs.host_cells.read_each.Goals as goal

pub loop-i-init : goal.loop-i-init
loop-i-init g c = λ cells from. read_none cells _ (c.requires.whole ∙ sym from.whole)

pub loop-i-preserved : goal.loop-i-preserved
loop-i-preserved g c = λ cells from.
    let i = c.loop-i.i in
    let there = from.each i _ c.loop-i-test.true c.cell_at.ensures in
    let read = was_read (i + 1) _ _ (sym c.read_in_place.ensures ∙ c.in_ok-slot.was) in
    read_more _ (c.loop-i.invariant cells from) (omega arith) (read ∙ ap read_cell there)

pub returns-in_err-slot : goal.returns-in_err-slot
returns-in_err-slot g c = λ cells from.
    let i = c.loop-i.i in
    let there = from.each i _ c.loop-i-test.true c.cell_at.ensures in
    let q = err_from_is_err_and c.from_residual.result c.from_residual.ensures.1 in
    let h = was_unreadable (i + 1) _ _ (sym c.read_in_place.ensures ∙ c.in_err-slot.was) in
    rw (q.1, q.2, h.2) (sym (read_stops h.0 (c.loop-i.invariant cells from) (omega arith) (h.1 ∙ ap read_cell there)))

pub returns : goal.returns
returns g c = λ cells from. sym (read_all (c.loop-i.invariant cells from) (omega arith))
