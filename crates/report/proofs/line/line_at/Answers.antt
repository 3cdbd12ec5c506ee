-- `line_at` meets its contract: no line at the end of the input; otherwise what the rest of the input unpacks to decides.
-- Assumes nothing.
use Rattle.std.proofs.Common.{arith, ◌≡◌, ◌+◌, ◌-◌, List, ℕ, length, take, drop, sym, ap, ◌∙◌}
use Rattle.std.proofs.Math.ListN.{length-drop}
use lib.Dec.{lit≤}
use Rattle.std.specs.Prelude.{Result}
use Rattle.cells.specs.Refusal.{by_number, map_given}
use Rattle.cells.specs.Row.{cell_count, cells_of}
use Rattle.cells.specs.declared.refusal.Refusal.{Refusal}
use Rattle.codec.specs.declared.unpack.UnpackedRow.{UnpackedRow}
use Rattle.packed.specs.Unpacking.{unpacked}
use Rattle.packed.proofs.Sizes.{unpack_moves}
use Rattle.lines.specs.declared.text.Line.{Line}
use Rattle.report.proofs.StepLaws.{step_past, rest_of, step_refused, step_checked}
use Rattle.report.proofs.line.line_at.Goals as goal

-- the rest of the input unpacks to what was answered
answered : (input : List ℕ) (at : ℕ) (answer : Result UnpackedRow Refusal) {value : Result UnpackedRow Refusal} → answer ≡ value
    → map_given (λ it. (cells_of it.row, it.bytes)) (by_number answer) ≡ unpacked cell_count (take (length input - at) (drop at input))
    → unpacked cell_count (drop at input) ≡ map_given (λ it. (cells_of it.row, it.bytes)) (by_number value)
answered input at answer is e =
    ap (unpacked cell_count) (sym (rest_of input at)) ∙ sym e ∙ ap (λ (r : Result UnpackedRow Refusal). map_given (λ it. (cells_of it.row, it.bytes)) (by_number r)) is

pub returns-then-input-at : goal.returns-then-input-at
returns-then-input-at c =
    let a = c.args in
    ap (λ (line : Line). record { line = line; next = a.at }) c.empty.ensures ∙ sym (step_past a.input.now a.at a.number c.if-input-at.true)

pub overflow_add-result : goal.overflow_add-result
overflow_add-result c =
    let input = c.args.input.now in
    let moves = unpack_moves cell_count _ _ _ (lit≤ tt) (answered input c.args.at c.unpack_row.result c.in-Ok.is c.unpack_row.ensures.result) in
    record { fits = omega (arith, moves.1, length-drop c.args.at input) }

pub returns-in-Err : goal.returns-in-Err
returns-in-Err c =
    let a = c.args in
    let u = c.unpack_row in
    ap (λ (line : Line). record { line = line; next = length a.input.now }) c.refused_line.ensures
    ∙ sym (step_refused a.input.now a.at a.number c.if-input-at.false _ _ (answered a.input.now a.at u.result c.in-Err.is u.ensures.result))

pub returns-in-Ok : goal.returns-in-Ok
returns-in-Ok c =
    let a = c.args in
    let u = c.unpack_row in
    ap (λ (line : Line). record { line = line; next = a.at + c.in-Ok.unpacked.bytes }) c.checked_line.ensures
    ∙ sym (step_checked a.input.now a.at a.number c.if-input-at.false _ _ (answered a.input.now a.at u.result c.in-Ok.is u.ensures.result))
