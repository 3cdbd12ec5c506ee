-- `unpack_cells` meets its contract: the loop reads one cell after another, and the padding decides at the end.
-- Assumes nothing.
use mathlib.Core.Path.{◌≡◌, sym, ap}
use Rattle.std.specs.Prelude.{None, Some}
use Rattle.std.proofs.Common.{arith, rules, ℕ, List, ◌-◌, ◌/◌}
use Rattle.cells.specs.Row.{Cell}
use Rattle.codec.proofs.UnpackLaws.{none_yet, read_more, cut_off, bad_padding, good_padding, first_read}
use Rattle.codec.proofs.unpack.unpack_cells.Goals as goal

pub loop-i-init : goal.loop-i-init
loop-i-init c = rw (ap (λ (h : List Cell × ℕ). h.0) (c.default-unpacked.ensures 0 0)) (none_yet _ _ _ c.start-cursor.ensures.0 c.start-cursor.ensures.1)

pub returns-in_err-unpacked-clause-result : goal.returns-in_err-unpacked-clause-result
returns-in_err-unpacked-clause-result c =
    let none : c.next_cell.result ≡ None = grind arith in
    let e = cut_off c.loop-i.invariant c.loop-i-test.true c.next_cell.new.self (rw none at c.next_cell.ensures) in
    rw e (search rules)

pub loop-i-preserved : goal.loop-i-preserved
loop-i-preserved c =
    let some : c.next_cell.result ≡ Some c.in_ok-unpacked.field-0 = grind arith in
    read_more c.loop-i.invariant c.loop-i-test.true c.requires _ _ (rw some at c.next_cell.ensures)

pub returns-then-take-ne0-clause-result : goal.returns-then-take-ne0-clause-result
returns-then-take-ne0-clause-result c = sym (bad_padding c.loop-i.invariant (omega arith) c.take.ensures c.if-take-ne0.true)

pub returns-clause-result : goal.returns-clause-result
returns-clause-result c =
    rw (good_padding c.loop-i.invariant (omega arith) c.take.ensures (omega arith), first_read c.loop-i.invariant (omega arith) c.take.ensures)

pub returns-clause-whole : goal.returns-clause-whole
returns-clause-whole c =
    rw (good_padding c.loop-i.invariant (omega arith) c.take.ensures (omega arith)) (ap (λ (l : List Cell). (l, c.take.new.self.at - c.take.new.self.count / 8)) c.loop-i.invariant.stored)
