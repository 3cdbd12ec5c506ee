-- Inputs and what the program prints for them, worked out: document 01's example, no input, and worked rows back to back.
-- Assumes nothing.
use mathlib.Core.Path.{◌≡◌, refl}
use mathlib.Core.List.{List, [], ◌∷◌, ◌++◌}
use Prim.Native.Nat.{ℕ}
use Rattle.cells.specs.Greatest.{greatest}
use Rattle.cells.specs.Lowest.{lowest}
use Rattle.rounding.specs.Greatest.{by_digits}
use Rattle.packed.specs.Bits.{bits, number, bits_of, bytes_of}
use Rattle.packed.specs.Packing.{cell_bits, row_bits, packed}
use Rattle.packed.specs.Unpacking.{before, parse, any_set, ending, unpacked}
use Rattle.member.specs.Acceptance.{accept_kind}
use Rattle.member.specs.Verdict.{judge_by}
use Rattle.member.specs.WorkedRows.{row_a, row_f, row_h}
use Rattle.lines.specs.Line.{row_line, line_for, taken}
use Rattle.lines.specs.Output.{lines_from, output}
use Rattle.lines.specs.Text.{decimal_by}

-- no input, no lines
pub nothing : output [] ≡ []
unfolding lines_from
nothing = refl

-- the ASCII bytes of `1 refused 2 1` and `2 refused 6 1`, each with its line's end
abbrev line1 : List ℕ
line1 = 49 ∷ 32 ∷ 114 ∷ 101 ∷ 102 ∷ 117 ∷ 115 ∷ 101 ∷ 100 ∷ 32 ∷ 50 ∷ 32 ∷ 49 ∷ 10 ∷ []

abbrev line2 : List ℕ
line2 = 50 ∷ 32 ∷ 114 ∷ 101 ∷ 102 ∷ 117 ∷ 115 ∷ 101 ∷ 100 ∷ 32 ∷ 54 ∷ 32 ∷ 49 ∷ 10 ∷ []

-- a row of blanks, and a row that is cut off
pub example : output (0x00 ∷ 0x00 ∷ 0x00 ∷ 0x80 ∷ []) ≡ line1 ∷ line2 ∷ []
unfolding bits number bits_of before parse any_set ending unpacked decimal_by row_line line_for taken lines_from
example = refl

-- the ASCII bytes of `1 pass 7 690668 0`, `2 fail 4 0 20` and `3 refused 2 1`
abbrev line_a : List ℕ
line_a = 49 ∷ 32 ∷ 112 ∷ 97 ∷ 115 ∷ 115 ∷ 32 ∷ 55 ∷ 32 ∷ 54 ∷ 57 ∷ 48 ∷ 54 ∷ 54 ∷ 56 ∷ 32 ∷ 48 ∷ 10 ∷ []

abbrev line_f : List ℕ
line_f = 50 ∷ 32 ∷ 102 ∷ 97 ∷ 105 ∷ 108 ∷ 32 ∷ 52 ∷ 32 ∷ 48 ∷ 32 ∷ 50 ∷ 48 ∷ 10 ∷ []

abbrev line_h : List ℕ
line_h = 51 ∷ 32 ∷ 114 ∷ 101 ∷ 102 ∷ 117 ∷ 115 ∷ 101 ∷ 100 ∷ 32 ∷ 50 ∷ 32 ∷ 49 ∷ 10 ∷ []

-- worked rows A, F and H, packed
pub worked_rows : output (packed row_a ++ packed row_f ++ packed row_h) ≡ line_a ∷ line_f ∷ line_h ∷ []
unfolding lowest bits number bits_of bytes_of cell_bits row_bits packed before parse any_set ending unpacked accept_kind greatest judge_by by_digits decimal_by row_line line_for taken lines_from
worked_rows = refl
