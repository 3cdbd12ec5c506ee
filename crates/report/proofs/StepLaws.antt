-- The step at a position of the input, by what the bytes there unpack to.
-- Assumes nothing.
use Prim.Native.Nat.{ℕ, ◌+◌, ◌-◌, ◌≤◌, ◌<◌}
use mathlib.Core.Path.{◌≡◌, refl, ap, ap₂, ◌∙◌}
use mathlib.Core.List.{List, [], ◌∷◌}
use native.Mathlib.Nat.{add-zero}
use native.Mathlib.Omega.{arith}
use lib.ListN.{length, take, drop, length-drop, drop_of_length-le}
use lib.Seq.{take_all}
use Rattle.cells.specs.Refusal.{Result, gives, refuses}
use Rattle.cells.specs.Row.{cell_count, Cell}
use Rattle.member.specs.Verdict.{check_row}
use Rattle.packed.specs.Unpacking.{unpacked}
use Rattle.packed.proofs.Sizes.{no_bytes}
use Rattle.lines.specs.Line.{row_line, checked_row, taken_of, line_for, taken, step_at}
use Rattle.lines.specs.Text.{line_of}
use Rattle.lines.specs.declared.line.Step.{Step}
use Rattle.lines.specs.declared.text.Line.{Line}

-- the line of bytes that are there
line_for_lem : (number : ℕ) (left : List ℕ) → 0 < length left → line_for number left ≡ row_line number (checked_row (unpacked cell_count left))
unfolding line_for
line_for_lem number [] some = absurd (omega arith)
line_for_lem number (byte ∷ bytes) some = refl

-- no bytes take none
taken_none : taken [] ≡ 0
unfolding taken
taken_none = ap (λ (result : Result (List Cell × ℕ)). taken_of result 0) no_bytes

-- a step from its parts
step_of : {line line' : Line} {next next' : ℕ} → line ≡ line' → next ≡ next' → ◌≡◌ {A = Step} (record { line = line; next = next }) (record { line = line'; next = next' })
step_of e f = ap₂ (λ (l : Line) (n : ℕ). record { line = l; next = n }) e f

-- from the end of the input on: no line, and no byte further
pub step_past : (input : List ℕ) (at number : ℕ) → length input ≤ at → step_at input at number ≡ record { line = line_of []; next = at }
unfolding line_for
step_past input at number past =
    let none : drop at input ≡ [] = drop_of_length-le input past in
    step_of
    (ap (λ (left : List ℕ). line_of (line_for number left)) none)
    (ap (λ (left : List ℕ). at + taken left) none ∙ ap (λ (n : ℕ). at + n) taken_none ∙ add-zero at)

-- the rest of the input as the part from a position up to the end
pub rest_of : (input : List ℕ) (at : ℕ) → take (length input - at) (drop at input) ≡ drop at input
rest_of input at = take_all (length input - at) (drop at input) (omega (arith, length-drop at input))

module _ (input : List ℕ) (at number : ℕ) (inside : at < length input) where
  -- within the input: the line and the bytes go by what the rest unpacks to
  step_by : (result : Result (List Cell × ℕ)) → unpacked cell_count (drop at input) ≡ result
      → step_at input at number ≡ record { line = line_of (row_line number (checked_row result)); next = at + taken_of result (length (drop at input)) }
  unfolding taken
  step_by result e =
      step_of
      (ap (λ (text : List ℕ). line_of text) (line_for_lem number (drop at input) (omega (arith, length-drop at input)))
      ∙ ap (λ (r : Result (List Cell × ℕ)). line_of (row_line number (checked_row r))) e)
      (ap (λ (r : Result (List Cell × ℕ)). at + taken_of r (length (drop at input))) e)

  -- a row that unpacking refuses: its line, and the end of the input
  pub step_refused : (reason cell : ℕ) → unpacked cell_count (drop at input) ≡ refuses reason cell
      → step_at input at number ≡ record { line = line_of (row_line number (refuses reason cell)); next = length input }
  step_refused reason cell e =
      let ends : at + length (drop at input) ≡ length input = omega (arith, length-drop at input) in
      step_by (refuses reason cell) e ∙ step_of refl ends

  -- a row that was unpacked: the line of its check, and the bytes that it took
  pub step_checked : (cells : List Cell) (count : ℕ) → unpacked cell_count (drop at input) ≡ gives (cells, count)
      → step_at input at number ≡ record { line = line_of (row_line number (check_row cells)); next = at + count }
  step_checked cells count e = step_by (gives (cells, count)) e
