-- Pack a row: its bits, its bytes, what is refused, and the lent buffer. Everything is stated for any number of cells.
-- Assumes nothing.
use Rattle.std.specs.Prelude.{ℕ, ◌+◌, ◌/◌, ◌^◌, List, [], ◌∷◌, ◌++◌, Bool, true, false, cond, not, length, drop, leb, ltb, eqb, None, Some}
use Rattle.cells.specs.Row.{value_bits, Cell}
use Rattle.cells.specs.Lowest.{lowest}
use Rattle.cells.specs.Refusal.{Result, gives, refuses, where_given}
use Rattle.packed.specs.Bits.{bits, bytes_of}

-- the bits of a cell: a single 0 for a blank; for a whole number a 1 and then its 34 binary digits, most significant first
unfoldable pub cell_bits : Cell → List Bool
cell_bits None = false ∷ []
cell_bits (Some value) = true ∷ bits value_bits value

-- the bits of cells, cell after cell
unfoldable pub row_bits : List Cell → List Bool
row_bits [] = []
row_bits (cell ∷ cells) = cell_bits cell ++ row_bits cells

-- the whole bytes that hold n bits
abbrev pub bytes_for : ℕ → ℕ
bytes_for n = (n + 7) / 8

-- the packed cells: their bits, with zeros up to the next whole byte
unfoldable pub packed : List Cell → List ℕ
packed cells = bytes_of (bytes_for (length (row_bits cells))) (row_bits cells)

-- refusal 4: a value above 34 bits
abbrev pub too_wide : Cell → Bool
too_wide None = false
too_wide (Some value) = not (ltb value (2 ^ value_bits))

-- the lowest cell with a value above 34 bits, 0 where there is none
abbrev pub lowest_wide : List Cell → ℕ
lowest_wide cells = lowest (λ (n : ℕ) (cell : Cell). too_wide cell) 1 cells

-- the packed cells in a buffer, and after them what was there
abbrev pub packed_into : List Cell → List ℕ → List ℕ
packed_into cells buffer = packed cells ++ drop (length (packed cells)) buffer

-- "Pack a row" into `room` bytes: refusal 4 and the lowest such cell; then 5, cell 0, for too little space; otherwise the byte count
abbrev pub pack_result : List Cell → ℕ → Result ℕ
pack_result cells room =
    cond (eqb (lowest_wide cells) 0)
    (cond (leb (length (packed cells)) room) (gives (length (packed cells))) (refuses 5 0))
    (refuses 4 (lowest_wide cells))

-- the buffer after "Pack a row": the packed cells and then what was there, or untouched by a refusal
abbrev pub pack_buffer : List Cell → List ℕ → List ℕ
pack_buffer cells buffer = where_given (pack_result cells (length buffer)) (packed_into cells buffer) buffer
