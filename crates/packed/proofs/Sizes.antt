-- How long a packed row is, for any number of cells and for a whole row, and small rows worked out.
-- Assumes nothing.
use mathlib.Core.Path.{◌≡◌, refl}
use Prim.Native.Nat.{ℕ, ◌+◌, ◌*◌, ◌≤◌, ◌<◌}
use native.Mathlib.Omega.{arith}
use mathlib.Core.List.{List, [], ◌∷◌}
use lib.ListN.{length}
use Rattle.std.specs.Prelude.{Some}
use Rattle.cells.specs.Row.{cell_count, blanks, with_cell, Cell}
use Rattle.cells.specs.Refusal.{gives, refuses}
use Rattle.packed.specs.Bits.{bits, number, bits_of, bytes_of}
use Rattle.packed.specs.Packing.{cell_bits, row_bits, packed}
use Rattle.packed.specs.Unpacking.{before, parse, any_set, ending, unpacked}
use Rattle.packed.proofs.CellLaws.{row_bits_least, row_bits_most, length_packed}
use Rattle.packed.proofs.RoundTrip.{unpack_gives}

-- one bit to 35 for each cell, and fewer than eight to fill the last byte
pub size_of : (cells : List Cell) → (length cells ≤ 8 * length (packed cells)) × (8 * length (packed cells) < 35 * length cells + 8)
size_of cells = omega (arith, length_packed cells, row_bits_least cells, row_bits_most cells)

-- a row packs to 3 to 97 bytes
pub size_of_row : (cells : List Cell) → length cells ≡ cell_count → (3 ≤ length (packed cells)) × (length (packed cells) ≤ 97)
size_of_row cells e = omega (arith, size_of cells)

-- unpacking one cell or more takes at least one byte, and none past the input
pub unpack_moves : (n count : ℕ) (bytes : List ℕ) (cells : List Cell) → 1 ≤ n → unpacked n bytes ≡ gives (cells, count)
    → (1 ≤ count) × (count ≤ length bytes)
unpack_moves n count bytes cells some e =
    let u = unpack_gives n count bytes cells e in
    omega (arith, u.long, u.size, u.inside, size_of cells)

-- the row of blanks is three zero bytes
pub blank_row_lem : packed (blanks cell_count) ≡ 0 ∷ 0 ∷ 0 ∷ []
unfolding bits number bytes_of cell_bits row_bits packed
blank_row_lem = refl

-- no bytes: cell 1 is cut off
pub no_bytes : unpacked cell_count [] ≡ refuses 6 1
unfolding bits_of parse ending unpacked
no_bytes = refl

-- a filled cell 1 and only seven bits of its value: it is cut off
pub short_row : unpacked cell_count (0x80 ∷ []) ≡ refuses 6 1
unfolding bits bits_of parse ending unpacked
short_row = refl

-- eight blanks and no more: cell 9 is cut off
pub cut_row : unpacked cell_count (0 ∷ []) ≡ refuses 6 9
unfolding bits bits_of parse before ending unpacked
cut_row = refl

-- a row of blanks and a padding bit that is 1
pub padded_row : unpacked cell_count (0 ∷ 0 ∷ 1 ∷ []) ≡ refuses 7 0
unfolding bits bits_of parse before any_set ending unpacked
padded_row = refl

-- cell 1 holds 1 and the others are blank: the bit 1, the value's 34 bits with its only 1 last, and the blanks
pub one_cell : packed (with_cell 1 (Some 1) (blanks cell_count)) ≡ 0x80 ∷ 0 ∷ 0 ∷ 0 ∷ 0x20 ∷ 0 ∷ 0 ∷ []
unfolding bits number bytes_of cell_bits row_bits packed
one_cell = refl
