-- `write_lines` meets its contract: each turn writes the line of the row at the position after those written before.
-- Assumes nothing.
use Rattle.std.proofs.Common.{arith, ◌≡◌, ◌≤◌, ◌<◌, ℕ, List, length, min, take}
use Rattle.std.proofs.Math.ListN.{length-take}
use Rattle.lines.specs.Line.{step_at}
use Rattle.lines.specs.Output.{most_input, room_for}
use Rattle.lines.specs.Text.{line_room}
use Rattle.lines.specs.declared.line.Step.{Step}
use Rattle.report.proofs.WriteLaws.{Written, Turn, written_all, turn}
use Rattle.report.proofs.output.write_lines.Goals as goal

-- a turn over what is taken in of an input
turn_of : (whole : List ℕ) {input before : List ℕ} {at number len : ℕ} {out : List ℕ} {step : Step} → input ≡ take most_input whole
    → room_for (min most_input (length whole)) ≤ length before → Written input before at number len out → at < length input
    → step ≡ step_at input at number → length step.line.text ≡ line_room → Turn input before at number len out step
turn_of whole {input} {before} taken room w more e array = turn input before w more (rw (taken, length-take) room) e array

pub put_line-requires : goal.put_line-requires
put_line-requires c =
    let t = turn_of c.args.input.now c.taken_in-input.ensures c.requires c.loop-at.invariant c.loop-at-test.true c.line_at-step.ensures (omega arith) in
    omega (arith, t.room, t.long)

pub loop-at-smaller : goal.loop-at-smaller
loop-at-smaller c =
    let t = turn_of c.args.input.now c.taken_in-input.ensures c.requires c.loop-at.invariant c.loop-at-test.true c.line_at-step.ensures (omega arith) in
    omega (arith, t.on)

pub loop-at-preserved : goal.loop-at-preserved
loop-at-preserved c =
    let t = turn_of c.args.input.now c.taken_in-input.ensures c.requires c.loop-at.invariant c.loop-at-test.true c.line_at-step.ensures (omega arith) in
    rw c.put_line.ensures t.written

pub returns-clause-count : goal.returns-clause-count
returns-clause-count c = rw (← c.taken_in-input.ensures) (written_all _ _ c.loop-at.invariant c.loop-at-test.false).0

pub returns-clause-buffer : goal.returns-clause-buffer
returns-clause-buffer c = rw (← c.taken_in-input.ensures) (written_all _ _ c.loop-at.invariant c.loop-at-test.false).1
