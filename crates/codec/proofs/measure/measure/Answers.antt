-- `measure` meets its contract: the loop counts the bits of narrow cells and stops at the first that is too wide.
-- Assumes nothing.
use mathlib.Core.Path.{sym, ◌∙◌}
use Rattle.std.proofs.Common.{arith}
use Rattle.codec.proofs.PackLaws.{counted_none, counted_most, counted_next, measured_wide, measured_bits}
use Rattle.codec.proofs.measure.measure.Goals as goal

pub loop-i-init : goal.loop-i-init
loop-i-init c = counted_none _

pub returns-then-is_too_wide : goal.returns-then-is_too_wide
returns-then-is_too_wide c =
    let l = c.loop-i in
    measured_wide _ l.i l.bits l.invariant (omega arith) (sym c.is_too_wide.ensures ∙ c.if-is_too_wide.true)

pub overflow_add-bits : goal.overflow_add-bits
overflow_add-bits c =
    let l = c.loop-i in
    let so = counted_next _ l.i l.bits l.invariant (omega arith) (sym c.is_too_wide.ensures ∙ c.if-is_too_wide.false) in
    record { fits = omega (arith, counted_most _ _ _ so, c.bit_count-bits.ensures) }

pub loop-i-preserved : goal.loop-i-preserved
loop-i-preserved c =
    let l = c.loop-i in
    rw c.bit_count-bits.ensures (counted_next _ l.i l.bits l.invariant (omega arith) (sym c.is_too_wide.ensures ∙ c.if-is_too_wide.false))

pub returns : goal.returns
returns c = measured_bits _ c.loop-i.i c.loop-i.bits c.loop-i.invariant (omega arith)
