-- The lines for bytes, row after row: none for none; otherwise the line of the first row, and the lines for the bytes after it, numbered on.
-- The program's lines for an input: those of its first 65,536 bytes.
-- Assumes nothing.
use Prim.Native.Nat.{ℕ, suc, ◌≤◌, ◌<◌}
use mathlib.Core.Path.{◌≡◌, refl, ap}
use mathlib.Core.List.{List, [], ◌∷◌, ◌++◌}
use native.Mathlib.Omega.{arith}
use lib.ListN.{length, drop, length-drop}
use lib.Seq.{take_all, take-append-le}
use Rattle.lines.specs.Line.{line_for, taken}
use Rattle.lines.specs.Output.{lines_from, lines_of, most_input, output}
use Rattle.lines.proofs.OutputLaws.{taken_some, lines_enough}

-- no bytes, no lines
pub lines_none : lines_of [] ≡ []
unfolding lines_from
lines_none = refl

-- where the input ends between rows there is no line
pub line_none : (number : ℕ) → line_for number [] ≡ []
unfolding line_for
line_none number = refl

-- the first row's line, and then the lines for the rest
pub lines_step : (number : ℕ) (left : List ℕ) → 0 < length left → let rest = drop (taken left) left in
    lines_from (length left) number left ≡ line_for number left ∷ lines_from (length rest) (suc number) rest
unfolding lines_from
lines_step number [] some = absurd (omega arith)
lines_step number (byte ∷ bytes) some =
    let left : List ℕ = byte ∷ bytes in
    let fewer = length-drop (taken left) left in
    let moves = taken_some left some in
    ap (λ (lines : List (List ℕ)). line_for number left ∷ lines) (lines_enough (length bytes) (suc number) (drop (taken left) left) (omega arith))

-- so of all lines: the first row has number 1, and the next number 2
pub lines_of_lem : (bytes : List ℕ) → 0 < length bytes → let rest = drop (taken bytes) bytes in
    lines_of bytes ≡ line_for 1 bytes ∷ lines_from (length rest) 2 rest
lines_of_lem bytes some = lines_step 1 bytes some

-- an input of at most 65,536 bytes is printed whole
pub output_whole : (input : List ℕ) → length input ≤ 65536 → output input ≡ lines_of input
output_whole input within = ap lines_of (take_all most_input input (omega arith))

-- bytes that follow the first 65,536 change nothing
pub output_no_more : (input more : List ℕ) → length input ≡ 65536 → output (input ++ more) ≡ output input
output_no_more input more full = ap lines_of (take-append-le most_input input more (omega arith))
