-- Unpack a row: which cells the bits hold, what is refused, and how many bytes are read. Everything is stated for any number of cells.
-- Assumes nothing.
use Rattle.std.specs.Prelude.{ℕ, zero, suc, ◌-◌, ◌/◌, ◌%◌, List, [], ◌∷◌, ◌++◌, Bool, true, false, cond, ◌||◌, length, take, drop, leb, None, Some}
use Rattle.cells.specs.Row.{cell_count, value_bits, blanks, Cell}
use Rattle.cells.specs.Refusal.{Result, gives, refuses}
use Rattle.packed.specs.Bits.{number, bits_of}

-- a cell and then what the later cells give
unfoldable pub before : {A : Type 0} → Cell → Result (List Cell × A) → Result (List Cell × A)
before cell (gives (cells, rest)) = gives (cell ∷ cells, rest)
before cell (refuses number named) = refuses number named

-- n cells, the first of them cell i, and the bits after them; refusal 6 and the cell whose bits the input does not hold
unfoldable pub parse : ℕ → ℕ → List Bool → Result (List Cell × List Bool)
parse zero i bs = gives ([], bs)
parse (suc n) i [] = refuses 6 i
parse (suc n) i (false ∷ bs) = before None (parse n (suc i) bs)
parse (suc n) i (true ∷ bs) =
    cond (leb value_bits (length bs)) (before (Some (number value_bits bs)) (parse n (suc i) (drop value_bits bs))) (refuses 6 i)

-- one of these bits is 1
unfoldable pub any_set : List Bool → Bool
any_set [] = false
any_set (b ∷ bs) = b || any_set bs

-- the bits that fill the last byte of the cells read: those before the next whole byte of the rest
abbrev pub padding : List Bool → List Bool
padding rest = take (length rest % 8) rest

-- after the cells, of m bytes: refusal 7, cell 0, if a padding bit is 1; otherwise the cells and the byte count
unfoldable pub ending : ℕ → Result (List Cell × List Bool) → Result (List Cell × ℕ)
ending m (refuses number cell) = refuses number cell
ending m (gives (cells, rest)) = cond (any_set (padding rest)) (refuses 7 0) (gives (cells, m - length rest / 8))

-- "Unpack a row" of n cells from bytes: the cells and the byte count, or a refusal; later bytes are not looked at
unfoldable pub unpacked : ℕ → List ℕ → Result (List Cell × ℕ)
unpacked n bytes = ending (length bytes) (parse n 1 (bits_of bytes))

-- cells at a row's full length, blank past those given
abbrev pub filled_up : List Cell → List Cell
filled_up cells = cells ++ blanks (cell_count - length cells)

-- what an answer holds: the cells at a row's full length and the byte count; blank cells and 0 where it refuses
abbrev pub held : Result (List Cell × ℕ) → List Cell × ℕ
held (gives (cells, count)) = (filled_up cells, count)
held (refuses number cell) = (filled_up [], 0)
