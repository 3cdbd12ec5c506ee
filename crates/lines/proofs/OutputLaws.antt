-- Rows back to back: how many bytes a row takes, and that more turns than there are bytes change nothing.
-- Assumes nothing.
use Prim.Native.Nat.{ℕ, zero, suc, ◌-◌, ◌≤◌, ◌<◌}
use mathlib.Core.Path.{◌≡◌, refl, ap}
use mathlib.Core.List.{List, [], ◌∷◌}
use native.Mathlib.Nat.{le_refl}
use native.Mathlib.Omega.{arith}
use lib.Dec.{lit≤}
use lib.ListN.{length, drop, replicate, length-append, length-drop}
use Rattle.cells.specs.Refusal.{Result, gives, refuses}
use Rattle.cells.specs.Row.{cell_count, Cell}
use Rattle.packed.specs.Unpacking.{unpacked}
use Rattle.packed.proofs.RoundTrip.{unpack_gives}
use Rattle.packed.proofs.Sizes.{size_of_row, unpack_moves}
use Rattle.lines.specs.Line.{taken_of, line_for, taken}
use Rattle.lines.specs.Output.{lines_from}
use Rattle.lines.specs.Text.{line_room, line_of}

-- ---- the bytes that a row takes

-- no more than are left
pub taken_most : (left : List ℕ) → taken left ≤ length left
unfolding taken
taken_most left = by (unpacked cell_count left) refl
  where
    by : (result : Result (List Cell × ℕ)) → unpacked cell_count left ≡ result → taken_of result (length left) ≤ length left
    by (gives (cells, count)) e = (unpack_gives cell_count count left cells e).inside
    by (refuses number cell) e = le_refl (length left)

-- one at least, where some are left
pub taken_some : (left : List ℕ) → 0 < length left → 0 < taken left
unfolding taken
taken_some left some = by (unpacked cell_count left) refl
  where
    by : (result : Result (List Cell × ℕ)) → unpacked cell_count left ≡ result → 0 < taken_of result (length left)
    by (gives (cells, count)) e = (unpack_moves cell_count count left cells (lit≤ tt) e).0
    by (refuses number cell) e = some

-- three at least, where the row is not refused
pub row_three : (left : List ℕ) (cells : List Cell) (count : ℕ) → unpacked cell_count left ≡ gives (cells, count) → 3 ≤ count
row_three left cells count e =
    let u = unpack_gives cell_count count left cells e in
    omega (arith, u.size, size_of_row cells u.long)

-- and so where the program does not stop
pub taken_three : (left : List ℕ) → taken left < length left → 3 ≤ taken left
unfolding taken
taken_three left = by (unpacked cell_count left) refl
  where
    by : (result : Result (List Cell × ℕ)) → unpacked cell_count left ≡ result → taken_of result (length left) < length left → 3 ≤ taken_of result (length left)
    by (gives (cells, count)) e on = row_three left cells count e
    by (refuses number cell) e on = absurd (omega arith)

-- ---- lines

-- turns past the number of bytes change nothing
lines_same : (rows turns number : ℕ) (left : List ℕ) → length left ≤ rows → length left ≤ turns → lines_from rows number left ≡ lines_from turns number left
unfolding lines_from
lines_same zero zero number left h k = refl
lines_same zero (suc turns) number [] h k = refl
lines_same zero (suc turns) number (byte ∷ bytes) h k = absurd (omega arith)
lines_same (suc rows) zero number [] h k = refl
lines_same (suc rows) zero number (byte ∷ bytes) h k = absurd (omega arith)
lines_same (suc rows) (suc turns) number [] h k = refl
lines_same (suc rows) (suc turns) number (byte ∷ bytes) h k =
    let left : List ℕ = byte ∷ bytes in
    let fewer = length-drop (taken left) left in
    let some = taken_some left (omega arith) in
    ap (λ (lines : List (List ℕ)). line_for number left ∷ lines)
    (lines_same rows turns (suc number) (drop (taken left) left) (omega arith) (omega arith))

-- as many turns as there are bytes are enough
pub lines_enough : (rows number : ℕ) (left : List ℕ) → length left ≤ rows → lines_from rows number left ≡ lines_from (length left) number left
lines_enough rows number left h = lines_same rows (length left) number left h (le_refl (length left))

-- a text that a line's array holds with its zeros is no longer than the array
pub line_short : (text : List ℕ) → length (line_of text).text ≡ line_room → length text ≤ line_room
line_short text e =
    let zeros : List ℕ = replicate (line_room - length text) 0 in
    omega (arith, length-append text zeros)
